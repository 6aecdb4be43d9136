-- No event takes a node back in its program.
use Rattle.std.proofs.Common.{◌≡◌, ℕ, suc, ◌≤◌, Bool, true, false, cond, ◌==◌, refl, arith, subst, Ok}
use Rattle.std.proofs.lemmas.Bool.Decides.{nat_tests}
use Rattle.line_map.specs.Sizes.{Sizes, home_of, line_of}
use Rattle.op_model.specs.declared.events.Event.{Event}
use Rattle.op_model.specs.Events.Step.{Programs, after}
use Rattle.op_model.specs.Lines.{Outcome}
use Rattle.op_model.specs.Messages.{msg_line}
use Rattle.op_model.specs.Shares.{Lanes, State, line_share, put_share}
use Rattle.op_model.specs.Tables.Processor.{hit}
use Rattle.lane_bounds.proofs.Public.{taken_of}
use Rattle.eager_model.specs.Node.{taking}
use Rattle.eager_model.specs.Step.{AgedDone, Ages, effect, without_ages}
use Rattle.eager_part.proofs.Public.{each-event, next}

module _ (sizes : Sizes) (programs : Programs) (state : State) (node : ℕ) where
  abbrev Rises : State → Type 0
  Rises later = (state.share node).place ≤ (later.share node).place

  row-rises : (here line : ℕ) (o : Outcome) (lane : Lanes) → Rises (next sizes programs state here line o lane)
  unfolding put_share
  row-rises here line o lane = go (node == here) refl
    where
      either : (done : Bool) → (state.share here).place ≤ cond done (suc (state.share here).place) (state.share here).place
      either true = omega arith
      either false = omega arith

      go : (own : Bool) → (node == here) ≡ own → (state.share node).place ≤ (cond own (put_share sizes (here == home_of sizes line) line o.done o.share (state.share here)) (state.share node)).place
      go true e = let same : here ≡ node = grind (arith, nat_tests) in subst (λ n. (state.share n).place ≤ cond o.done (suc (state.share here).place) (state.share here).place) same (either o.done)
      go false e = omega arith

  pub places-rise : (ages : Ages) (event : Event) (done : AgedDone) → effect sizes programs state ages event ≡ Ok done → Rises (after state (without_ages done))
  places-rise ages event done does =
      each-event sizes programs state Rises
      (record {
        hits = λ here op _ _ _. row-rises here (line_of sizes op.word) (hit op (line_share sizes (state.share here) (line_of sizes op.word))) state.lane;
        begins = λ here op _ _ _ o _. row-rises here (line_of sizes op.word) o state.lane;
        evicts = λ here line kind o _ _. row-rises here line o state.lane;
        takes = λ src dst class m rest _. row-rises dst (msg_line m) (taking sizes dst (state.share dst) src m) (taken_of src dst class rest state.lane);
      }) ages event done does
