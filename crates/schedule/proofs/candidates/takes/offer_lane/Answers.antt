-- A Take without a line is the only candidate, where it is enabled, and else the candidates are those with a line.
use Rattle.std.proofs.Common.{◌≡◌, ◌++◌, OnOk, List, None, sym, ◌∙◌, subst}
use Rattle.op_model.specs.declared.events.Event.{Event}
use Rattle.op_model.specs.declared.events.Event.TheVariants.{Take}
use Rattle.op_model.specs.Run.Schedules.{Lane}
use Rattle.std.proofs.Common.{Err}
use Rattle.op_model.specs.Run.Machines.{effect_on, IsEnabled}
use Rattle.schedule.proofs.Deliveries.{is-done, is-refused, lane-done, lane-refused}
use Rattle.schedule.proofs.candidates.takes.offer_lane.Goals as goal

pub returns-then-is_ok : goal.returns-then-is_ok
returns-then-is_ok g c =
    let m = g.M.MachineFace.meaning c.args.m.now in
    let lane : Lane = record { src = c.args.src; dst = c.args.dst; class = c.args.class } in
    let enabled = is-done c.enabled.result (IsEnabled m (Take c.args.src c.args.dst c.args.class None)) (sym c.is_ok.ensures.value ∙ c.if-is_ok.true) c.enabled.ensures.ok in
    subst (λ (es : List Event). OnOk c.put.result (c.put.new.list.items ≡ c.args.list.now.items ++ es)) (sym (lane-done m lane c.requires.busy enabled)) c.put.ensures

pub returns : goal.returns
returns g c =
    let m = g.M.MachineFace.meaning c.args.m.now in
    let lane : Lane = record { src = c.args.src; dst = c.args.dst; class = c.args.class } in
    let refused = is-refused c.enabled.result (λ cause. effect_on m (Take c.args.src c.args.dst c.args.class None) ≡ Err cause) (sym c.is_ok.ensures.value ∙ c.if-is_ok.false) c.enabled.ensures.err in
    subst (λ (es : List Event). OnOk c.offer_victims.result (c.offer_victims.new.list.items ≡ c.args.list.now.items ++ es)) (sym (lane-refused m lane c.requires.busy refused.0 refused.1)) c.offer_victims.ensures
