-- What a processor does for its next operation, read from its node, is what the definition says in the state of the run.
use Rattle.std.proofs.Common.{◌≡◌, ℕ, true, false, cond, ◌==◌, refl, ap, sym, ◌∙◌, Option, Some, Result, Ok, Err}
use Rattle.std.specs.Prelude.{is_ok}
use Rattle.line_map.specs.Sizes.{home_of, line_of}
use Rattle.op_model.specs.declared.events.Cause.{Cause}
use Rattle.op_model.specs.declared.events.Event.{Event}
use Rattle.op_model.specs.declared.events.Event.TheVariants.{Evict, Hit}
use Rattle.op_model.specs.declared.events.EvictKind.{EvictKind}
use Rattle.op_model.specs.declared.operations.Op.{Op}
use Rattle.op_model.specs.declared.state.CopyState.{CopyState}
use Rattle.op_model.specs.Events.Node.{HitNext, NodeOutcome, permit}
use Rattle.op_model.specs.Events.Step.{Off, act, effect, none_off}
use Rattle.op_model.specs.Lines.{Copy, state_of}
use Rattle.op_model.specs.Programs.{programs_of}
use Rattle.op_model.specs.Run.Schedules.{eviction_of, make_room, other_in_set, processor_event}
use Rattle.op_model.specs.Shares.{State, Unlinked, copy_of}
use Rattle.eager_model.specs.Node.{local}
use Rattle.eager_home.specs.Views.{EagerView}
use Rattle.eager_machine.specs.Machines.{EagerMachineView, IsNodeIn}

done-permitted : (node : ℕ) (off : Off) (r : Result NodeOutcome Cause) → is_ok (act node off r) ≡ is_ok (permit r)
done-permitted node off (Ok out) = refl
done-permitted node off (Err cause) = refl

module _ (view : EagerMachineView) (state : State) (op : Op) (node : EagerView) (is : IsNodeIn view state op.node node) (answer : Result (Unit {0}) Cause) (asked : answer ≡ permit (local node.sizes node.number node.program node.share HitNext)) where
  abbrev pub due : Event
  due = processor_event Unlinked view.sizes (programs_of view.programs) state op

  -- a hit is the same in both modes
  hit-is : is_ok (effect Unlinked view.sizes (programs_of view.programs) state (Hit op.node)) ≡ is_ok answer
  unfolding local
  hit-is =
      let same : local node.sizes node.number node.program node.share HitNext ≡ local view.sizes op.node (programs_of view.programs op.node) (state.share op.node) HitNext = λ i. local (is.sizes_are i) (is.number_is i) (is.program_is i) (is.share_is i) HitNext in
      done-permitted op.node none_off (local view.sizes op.node (programs_of view.programs op.node) (state.share op.node) HitNext) ∙ ap is_ok (sym (asked ∙ ap permit same))

  pub hits : is_ok answer ≡ true → Hit op.node ≡ due
  hits ok = ap (λ b. cond b (Hit op.node) (make_room view.sizes op.node (state.share op.node) (other_in_set view.sizes (state.share op.node) (line_of view.sizes op.word)))) (sym (hit-is ∙ ok))

  pub makes-room : is_ok answer ≡ false → (line : ℕ) (other : Option ℕ) (event : Event) → line ≡ line_of view.sizes op.word → other ≡ other_in_set node.sizes node.share line → event ≡ make_room view.sizes op.node (state.share op.node) other → event ≡ due
  makes-room refused line other event line_is other_is event_is =
      event_is ∙ ap (make_room view.sizes op.node (state.share op.node)) (other_is ∙ (λ i. other_in_set (is.sizes_are i) (is.share_is i) (line_is i)))
      ∙ ap (λ b. cond b (Hit op.node) (make_room view.sizes op.node (state.share op.node) (other_in_set view.sizes (state.share op.node) (line_of view.sizes op.word)))) (sym (hit-is ∙ refused))

  -- how the other line leaves
  pub evicts : (other home : ℕ) (copy : CopyState) (kind : EvictKind) → home ≡ home_of view.sizes other → state_of (copy_of node.share other) ≡ copy → ((c : Copy) → state_of c ≡ copy → kind ≡ eviction_of (op.node == home) c) →
      Evict op.node other kind ≡ make_room view.sizes op.node (state.share op.node) (Some other)
  evicts other home copy kind home_is copy_is each =
      ap (Evict op.node other) (each (copy_of node.share other) copy_is ∙ (λ i. eviction_of (op.node == home_is i) (copy_of (is.share_is i) other)))
