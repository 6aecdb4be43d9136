-- The message at the front of the lane leaves it.
use Rattle.std.proofs.Common.{◌∙◌, ap, sym, None}
use Rattle.op_model.specs.declared.events.Event.{Event}
use Rattle.eager_machine.specs.Lanes.{lane_in, taken_off}
use Rattle.eager_machine.proofs.Ways.{taken-front}
use Rattle.eager_machine.proofs.sending.take_off.Goals as goal

pub returns-in-Take-clause-lanes : goal.returns-in-Take-clause-lanes
returns-in-Take-clause-lanes c =
    let way = lane_in c.args.lanes.now in
    c.drop_front.ensures.lane ∙ taken-front way c.in-Take.src c.in-Take.dst c.in-Take.class None ∙ ap (λ (e : Event). taken_off e way) (sym c.in-Take.is)
