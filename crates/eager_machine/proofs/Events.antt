-- An event of one node by itself, as an event of the machine.
use Rattle.std.proofs.Common.{◌≡◌, ℕ, ◌<◌, false, List, ap, sym, subst, ◌∙◌, arith, None}
use Rattle.line_map.specs.Sizes.{Sizes}
use Rattle.op_model.specs.declared.events.Cause.{Cause}
use Rattle.op_model.specs.declared.events.Event.{Event}
use Rattle.op_model.specs.declared.messages.Msg.{Msg}
use Rattle.op_model.specs.Events.Node.{Input}
use Rattle.op_model.specs.Events.Step.{none_off, off_of}
use Rattle.op_model.specs.Programs.{programs_of}
use Rattle.op_model.specs.Run.Counts.{taken_by, takes_marked}
use Rattle.event_tally.specs.Marks.{take_marks_of}
use Rattle.eager_model.specs.Step.{answer, at_node, effect}
use Rattle.eager_home.specs.Views.{EagerView}
use Rattle.eager_machine.specs.declared.acts.Act.{Act}
use Rattle.eager_machine.specs.Acts.{IsAct, IsAlone, IsNoted, IsRefusedAt, IsRefusedIn}
use Rattle.eager_machine.specs.Kept.{state_of, ages_of, programs_in, AreNodes}
use Rattle.eager_machine.specs.Lanes.{UnderWay}
use Rattle.eager_machine.proofs.Doing.{act-by, refused-by}
use Rattle.eager_machine.proofs.Quiet.{taken_in}

pub own-act : (sizes : Sizes) (nodes nodes' : List EagerView) (way : UnderWay) (event : Event) (node : ℕ) (input : Input) (sends : List (ℕ × Msg)) (act : Act) → AreNodes sizes nodes →
    effect sizes (programs_of (programs_in nodes)) (state_of sizes nodes way) (ages_of nodes way) event ≡ answer sizes (programs_of (programs_in nodes)) (state_of sizes nodes way) (ages_of nodes way) (at_node node input) →
    none_off ≡ off_of event → None ≡ taken_in input → taken_by (state_of sizes nodes way) event ≡ None → takes_marked sizes (state_of sizes nodes way) event None ≡ false → node < sizes.nodes → IsAlone sizes nodes nodes' node input sends act → IsAct sizes nodes nodes' way event sends act
own-act sizes nodes nodes' way event node input sends act are is off none nothing unmarked below alone =
    act-by sizes nodes nodes' node input 0 sends alone.did are alone.row way event none_off act is off below alone.node_is (subst (λ t. IsNoted sizes nodes' t alone.did act) none alone.noted)
    (alone.takes_nothing ∙ sym (ap take_marks_of nothing)) (alone.not_marked ∙ sym (ap (takes_marked sizes (state_of sizes nodes way) event) nothing ∙ unmarked)) alone.sent (λ bound fresh. omega arith)

pub own-refused : (sizes : Sizes) (nodes : List EagerView) (way : UnderWay) (event : Event) (node : ℕ) (input : Input) (cause : Cause) → AreNodes sizes nodes →
    effect sizes (programs_of (programs_in nodes)) (state_of sizes nodes way) (ages_of nodes way) event ≡ answer sizes (programs_of (programs_in nodes)) (state_of sizes nodes way) (ages_of nodes way) (at_node node input) →
    IsRefusedAt nodes node input cause → IsRefusedIn sizes nodes way event cause
own-refused sizes nodes way event node input cause are is refused = refused-by sizes nodes way event (at_node node input) cause are is refused
