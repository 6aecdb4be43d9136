-- The first operation of an order that isn't completed.
use Rattle.std.proofs.Common.{◌≡◌, ℕ, ◌+◌, ◌<◌, ◌≤◌, not, nat_lt, List, length, get_or, arith, ap, sym, ◌∙◌, subst, ◌⊎◌, inl, inr, refl, IfSome, Option, Some, None}
use Rattle.std.specs.Prelude.{slice_get}
use Rattle.std.proofs.lemmas.Option.{same_Some, slice_get_past, slice_get_within, slice_get-get_or}
use Rattle.std.proofs.lemmas.Bool.{cases_lt, not_from_true, not_from_false, lt-ltb, le-ltb}
use Rattle.line_map.specs.Sizes.{Sizes}
use Rattle.op_model.specs.declared.events.Event.{Event}
use Rattle.op_model.specs.declared.operations.Op.{Op}
use Rattle.op_model.specs.Run.Schedules.{current}
use Rattle.op_model.specs.Shares.{State}
use Rattle.op_model.specs.Run.Machines.{MachineRun, IsApplied}
use Rattle.schedule_laws.proofs.Public.{find-first, find-none_of}
use Rattle.schedule.specs.Chosen.{AreCompletedTo, AreOpsIn, IsOpIn}
use Rattle.schedule.proofs.Places.{places-rise}

module _ (order : List Op) (state : State) where
  pub current-at : (at : ℕ) → AreCompletedTo order at state → (op : Op) → slice_get order at ≡ Some op → (state.share op.node).place ≤ op.index → current order state ≡ Some op
  current-at at done op is left =
      find-first (λ (o : Op). not (nat_lt o.index (state.share o.node).place)) order at op
      (λ k y below there. not_from_true _ (lt-ltb y.index (state.share y.node).place (done k y below there))) is (not_from_false _ (le-ltb op.index (state.share op.node).place left))

  pub current-end : (at : ℕ) → length order ≤ at → AreCompletedTo order at state → current order state ≡ None
  current-end at all done =
      find-none_of (λ (o : Op). not (nat_lt o.index (state.share o.node).place)) order
      (λ k y there. not_from_true _ (lt-ltb y.index (state.share y.node).place (done k y (let within = slice_get_within order k y there in omega (arith, within)) there)))

  pub completed-more : (at : ℕ) → AreCompletedTo order at state → (op : Op) → slice_get order at ≡ Some op → op.index < (state.share op.node).place → AreCompletedTo order (at + 1) state
  completed-more at done op is here k y below there = go (cases_lt k at)
    where
      go : (k < at) ⊎ (at ≤ k) → y.index < (state.share y.node).place
      go (inl less) = done k y less there
      go (inr more) =
          let same : k ≡ at = omega arith in
          let its : op ≡ y = same_Some op y (sym is ∙ (ap (slice_get order) (sym same) ∙ there)) in
          subst (λ (o : Op). o.index < (state.share o.node).place) its here

  -- the same, where the operation is read at its place, and the place of its node by a count
  pub read-current : (at : ℕ) (other : Op) (count : ℕ) → at < length order → AreCompletedTo order at state → count ≡ (state.share (get_or order at other).node).place → count ≤ (get_or order at other).index → current order state ≡ slice_get order at
  read-current at other count within done is left =
      let here = slice_get-get_or order at other within in
      current-at at done (get_or order at other) here (omega (arith, is, left)) ∙ sym here

  pub read-more : (at : ℕ) (other : Op) (count : ℕ) → at < length order → AreCompletedTo order at state → count ≡ (state.share (get_or order at other).node).place → (get_or order at other).index < count → AreCompletedTo order (at + 1) state
  read-more at other count within done is left = completed-more at done (get_or order at other) (slice_get-get_or order at other within) (omega (arith, is, left))

  pub read-end : (at : ℕ) → length order ≤ at → AreCompletedTo order at state → current order state ≡ slice_get order (length order)
  read-end at all done = current-end at all done ∙ sym (slice_get_past order (length order) (omega arith))

-- what is completed stays so
pub completed-still : (order : List Op) (at : ℕ) (m later : MachineRun) (event : Event) → IsApplied m event later → AreCompletedTo order at m.past.state → AreCompletedTo order at later.past.state
completed-still order at m later event applied done k op below there =
    let rises = places-rise m.charge m.sizes m.programs m.past.state event applied.0 applied.1 op.node in
    let was = done k op below there in
    let same = ap (λ (r : MachineRun). (r.past.state.share op.node).place) applied.2 in
    omega (arith, rises, was, same)

pub completed-same : (order : List Op) (at : ℕ) (m later : MachineRun) → later ≡ m → AreCompletedTo order at m.past.state → AreCompletedTo order at later.past.state
completed-same order at m later same done = subst (λ (r : MachineRun). AreCompletedTo order at r.past.state) (sym same) done

pub completed-none : (order : List Op) (state : State) → AreCompletedTo order 0 state
completed-none order state k op below there = absurd (omega arith)

-- the operation at a place of an order is one of the machine
pub op-at-in : (sizes : Sizes) (order : List Op) (at : ℕ) → AreOpsIn sizes order → IfSome (slice_get order at) (IsOpIn sizes)
op-at-in sizes order at ops = go (slice_get order at) (ops at)
  where
    go : (o : Option Op) → ((op : Op) → o ≡ Some op → IsOpIn sizes op) → IfSome o (IsOpIn sizes)
    go None its = tt
    go (Some op) its = its op refl
