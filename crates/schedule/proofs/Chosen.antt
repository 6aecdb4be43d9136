-- The operation that the finishing schedule goes on with: the next one of the first node that has one left, and one of the machine.
use Rattle.std.proofs.Common.{◌≡◌, ℕ, zero, suc, ◌+◌, ◌<◌, ◌≤◌, true, false, List, [], ◌∷◌, refl, arith, ap, sym, ◌∙◌, subst, ◌⊎◌, inl, inr, IfSome, Option, Some, None}
use Rattle.std.specs.Prelude.{is_some, slice_get}
use Rattle.std.specs.List.{range_with_len}
use Rattle.std.proofs.lemmas.Bool.{cases_lt}
use Rattle.line_map.specs.Sizes.{Sizes}
use Rattle.op_model.specs.declared.operations.Op.{Op}
use Rattle.op_model.specs.declared.events.Event.{Event}
use Rattle.op_model.specs.Run.Runs.{past_after}
use Rattle.op_model.specs.Run.Schedules.{all_nodes, first_left, or_else}
use Rattle.op_model.specs.Run.Machines.{MachineRun, IsRunning, IsApplied, IsProgramOp}
use Rattle.schedule.specs.Chosen.{AreDoneTo, IsOpIn, first_op, next_op_at}
use Rattle.schedule.proofs.Places.{places-rise}

pub op-in : (sizes : Sizes) (node place : ℕ) (op : Op) → IsProgramOp sizes node place op → IsOpIn sizes op
op-in sizes node place op is = (subst (λ n. n < sizes.nodes) (sym is.is.of_node) is.of_machine, is.is.word)

left-in : (m : MachineRun) → IsRunning m → (nodes : List ℕ) → IfSome (first_left m.programs m.past.state nodes) (IsOpIn m.sizes)
left-in m running [] = tt
left-in m running (node ∷ nodes) = go (slice_get (m.programs node) (m.past.state.share node).place) refl (left-in m running nodes)
  where
    go : (o : Option Op) → slice_get (m.programs node) (m.past.state.share node).place ≡ o → IfSome (first_left m.programs m.past.state nodes) (IsOpIn m.sizes) → IfSome (or_else o (first_left m.programs m.past.state nodes)) (IsOpIn m.sizes)
    go None at later = later
    go (Some op) at later = op-in m.sizes node (m.past.state.share node).place op (running.programs node (m.past.state.share node).place op at)

pub first-in : (m : MachineRun) → IsRunning m → IfSome (first_op m) (IsOpIn m.sizes)
first-in m running = left-in m running (all_nodes m.sizes)

nothing-past : (m : MachineRun) → IsRunning m → next_op_at m m.sizes.nodes ≡ None
nothing-past m running = go (next_op_at m m.sizes.nodes) refl
  where
    go : (o : Option Op) → next_op_at m m.sizes.nodes ≡ o → o ≡ None
    go None is = refl
    go (Some op) is = absurd (let below = (running.programs m.sizes.nodes (m.past.state.share m.sizes.nodes).place op is).of_machine in omega (arith, below))

-- where the nodes before one have done their programs, its next operation is the first one, if it has one
first-some : (m : MachineRun) (node : ℕ) (op : Op) → AreDoneTo m node → next_op_at m node ≡ Some op → (a n : ℕ) → a ≤ node → node < a + n → first_left m.programs m.past.state (range_with_len a n) ≡ Some op
first-some m node op done is a zero from to = absurd (omega arith)
first-some m node op done is a (suc n) from to = go (cases_lt a node) (first-some m node op done is (a + 1) n)
  where
    go : (a < node) ⊎ (node ≤ a) → (a + 1 ≤ node → node < a + 1 + n → first_left m.programs m.past.state (range_with_len (a + 1) n) ≡ Some op) → first_left m.programs m.past.state (range_with_len a (suc n)) ≡ Some op
    go (inl less) later = ap (λ o. or_else o (first_left m.programs m.past.state (range_with_len (a + 1) n))) (done a less) ∙ later (omega arith) (omega arith)
    go (inr more) later =
        let same : node ≡ a = omega arith in
        ap (λ o. or_else o (first_left m.programs m.past.state (range_with_len (a + 1) n))) (subst (λ k. next_op_at m k ≡ Some op) same is)

first-none : (m : MachineRun) (bound a n : ℕ) → AreDoneTo m bound → a + n ≤ bound → first_left m.programs m.past.state (range_with_len a n) ≡ None
first-none m bound a zero done within = refl
first-none m bound a (suc n) done within =
    ap (λ o. or_else o (first_left m.programs m.past.state (range_with_len (a + 1) n))) (done a (omega arith)) ∙ first-none m bound (a + 1) n done (omega arith)

pub first-here : (m : MachineRun) (node : ℕ) → AreDoneTo m node → node < m.sizes.nodes → is_some (next_op_at m node) ≡ true → first_op m ≡ next_op_at m node
first-here m node done below some = go (next_op_at m node) refl some
  where
    go : (o : Option Op) → next_op_at m node ≡ o → is_some o ≡ true → first_op m ≡ o
    go None is e = absurd (let d : false ≡ true = e in cc)
    go (Some op) is e = first-some m node op done is 0 m.sizes.nodes (omega arith) (omega arith)

pub first-nowhere : (m : MachineRun) (node : ℕ) → IsRunning m → AreDoneTo m node → m.sizes.nodes ≤ node → first_op m ≡ next_op_at m m.sizes.nodes
first-nowhere m node running done all = first-none m node 0 m.sizes.nodes done (omega arith) ∙ sym (nothing-past m running)

pub done-more : (m : MachineRun) (node : ℕ) → AreDoneTo m node → is_some (next_op_at m node) ≡ false → AreDoneTo m (node + 1)
done-more m node done none k below = go (cases_lt k node)
  where
    nothing : (o : Option Op) → is_some o ≡ false → o ≡ None
    nothing None e = refl
    nothing (Some op) e = absurd (let d : true ≡ false = e in cc)

    go : (k < node) ⊎ (node ≤ k) → next_op_at m k ≡ None
    go (inl less) = done k less
    go (inr more) = let same : k ≡ node = omega arith in subst (λ n. next_op_at m n ≡ None) (sym same) (nothing (next_op_at m node) none)

pub done-past : (m : MachineRun) (node : ℕ) → AreDoneTo m node → m.sizes.nodes ≤ node → AreDoneTo m m.sizes.nodes
done-past m node done all k below = done k (omega arith)

-- what has no operation left stays so
none-later : (ops : List Op) (i j : ℕ) → slice_get ops i ≡ None → i ≤ j → slice_get ops j ≡ None
none-later [] i j none less = refl
none-later (op ∷ ops) zero j none less = absurd (let n : ◌≡◌ {A = Option Op} (Some op) None = none in cc)
none-later (op ∷ ops) (suc i) zero none less = absurd (omega arith)
none-later (op ∷ ops) (suc i) (suc j) none less = none-later ops i j none (omega arith)

pub done-still : (m later : MachineRun) (event : Event) (bound : ℕ) → IsApplied m event later → AreDoneTo m bound → AreDoneTo later bound
done-still m later event bound applied done node below =
    let rises = places-rise m.charge m.sizes m.programs m.past.state event applied.0 applied.1 node in
    subst (λ (r : MachineRun). next_op_at r node ≡ None) (sym applied.2) (none-later (m.programs node) (m.past.state.share node).place ((past_after m.sizes m.past applied.0).state.share node).place (done node below) rises)
