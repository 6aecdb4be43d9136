-- A lane that isn't empty is delivered from, with no line to call in.
use Rattle.std.proofs.Common.{◌≡◌, ◌∙◌, Some, ap, subst, sym}
use Rattle.std.specs.Prelude.{IfOk, option_map}
use Rattle.op_model.specs.Run.Schedules.{Lane, lane_or_next, first_busy, processor_event}
use Rattle.op_model.specs.Shares.{Unlinked}
use Rattle.op_model.specs.Programs.{programs_of}
use Rattle.machine_face.specs.Reads.{IsLane}
use Rattle.eager_rest.proofs.Public.{delivery-takes}
use Rattle.eager_machine.proofs.serial.next_event.Goals as goal

pub returns-in-Some-clause-value : goal.returns-in-Some-clause-value
returns-in-Some-clause-value c = λ past ran.
    let m = c.args.m.now in
    let lane : Lane = record { src = c.in-Some.src; dst = c.in-Some.dst; class = c.in-Some.class } in
    let first : first_busy m.sizes past.state ≡ Some lane = subst (λ o. IsLane o (first_busy m.sizes past.state)) c.in-Some.is (c.in_ok-src.ensures.first past ran) in
    sym (ap (lane_or_next Unlinked m.sizes (programs_of m.programs) past.state c.args.chosen) first ∙ ap Some (delivery-takes m.sizes past.state lane))
