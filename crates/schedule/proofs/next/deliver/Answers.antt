-- The Take without a line is the delivery, where the machine makes it; where it is refused the delivery names the least line.
use Rattle.std.proofs.Common.{None, OnOk, ap, sym, ◌∙◌, subst}
use Rattle.op_model.specs.declared.events.Event.TheVariants.{Take}
use Rattle.op_model.specs.Run.Schedules.{Lane, least_victim}
use Rattle.op_model.specs.Run.Machines.{MachineRun, IsApplied, IsEnabled, IsEventOf}
use Rattle.machine_face.specs.Runs.{IsRefused}
use Rattle.schedule.proofs.Deliveries.{done-delivery, refused-delivery}
use Rattle.schedule.proofs.next.deliver.Goals as goal

pub make-requires-clause-within : goal.make-requires-clause-within
make-requires-clause-within g c =
    subst (λ (r : MachineRun). IsEventOf r.sizes (Take c.args.src c.args.dst c.args.class c.least_victim-victim.result)) (sym c.in-Err-NotEnabled.ensures.err) (c.requires.from, c.requires.to)

pub make-requires-clause-enabled : goal.make-requires-clause-enabled
make-requires-clause-enabled g c =
    let m = g.M.MachineFace.meaning c.args.m.now in
    let lane : Lane = record { src = c.args.src; dst = c.args.dst; class = c.args.class } in
    let victim = c.least_victim-victim.ensures ∙ ap (λ (r : MachineRun). least_victim r.charge r.sizes r.past.state c.args.dst) c.in-Err-NotEnabled.ensures.err in
    let same = ap (Take c.args.src c.args.dst c.args.class) victim ∙ refused-delivery m lane c.in-Err-NotEnabled.field-0-0 (subst (IsRefused m (Take c.args.src c.args.dst c.args.class None)) c.in-Err-NotEnabled.field-0-is c.in-Err-NotEnabled.ensures.refused) c.requires.enabled in
    subst (λ (r : MachineRun). IsEnabled r (Take c.args.src c.args.dst c.args.class c.least_victim-victim.result)) (sym c.in-Err-NotEnabled.ensures.err) (subst (IsEnabled m) (sym same) c.requires.enabled)

pub returns-in-Ok-clause-ok : goal.returns-in-Ok-clause-ok
returns-in-Ok-clause-ok g c =
    let m = g.M.MachineFace.meaning c.args.m.now in
    let lane : Lane = record { src = c.args.src; dst = c.args.dst; class = c.args.class } in
    let made = c.in-Ok.ensures.ok in
    subst (λ event. IsApplied m event (g.M.MachineFace.meaning c.apply.new.self)) (done-delivery m lane made.0 made.1) made

pub returns-in-Err-NotEnabled-clause-ok : goal.returns-in-Err-NotEnabled-clause-ok
returns-in-Err-NotEnabled-clause-ok g c =
    let m = g.M.MachineFace.meaning c.args.m.now in
    let lane : Lane = record { src = c.args.src; dst = c.args.dst; class = c.args.class } in
    let victim = c.least_victim-victim.ensures ∙ ap (λ (r : MachineRun). least_victim r.charge r.sizes r.past.state c.args.dst) c.in-Err-NotEnabled.ensures.err in
    let same = ap (Take c.args.src c.args.dst c.args.class) victim ∙ refused-delivery m lane c.in-Err-NotEnabled.field-0-0 (subst (IsRefused m (Take c.args.src c.args.dst c.args.class None)) c.in-Err-NotEnabled.field-0-is c.in-Err-NotEnabled.ensures.refused) c.requires.enabled in
    subst (λ event. OnOk c.make.result (IsApplied m event (g.M.MachineFace.meaning c.make.new.m))) same
    (subst (λ (r : MachineRun). OnOk c.make.result (IsApplied r (Take c.args.src c.args.dst c.args.class c.least_victim-victim.result) (g.M.MachineFace.meaning c.make.new.m))) c.in-Err-NotEnabled.ensures.err c.make.ensures.ok)
