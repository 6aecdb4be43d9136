-- The next operation of the least node that has one left: it depends on the places alone, it is its node's next one, and where there is
-- none no node of the machine has one left.
use Rattle.std.proofs.Common.{◌≡◌, ℕ, zero, suc, ◌+◌, ◌<◌, ◌≤◌, Bool, true, false, ◌==◌, List, [], ◌∷◌, slice_get, refl, arith, ap, sym, ◌∙◌, subst, Option, Some, None}
use Rattle.std.proofs.lemmas.Bool.Decides.{nat_tests}
use Rattle.std.specs.List.{range_with_len}
use Rattle.op_model.specs.declared.operations.Op.{Op}
use Rattle.op_model.specs.Events.Step.{Programs}
use Rattle.op_model.specs.Run.Schedules.{all_nodes, first_left, or_else}
use Rattle.op_model.specs.Shares.{State, Trace, program}
use Rattle.node_range.specs.Range.{IsOfMachine}
use Rattle.node_range.proofs.Public.{in-program}

-- it is chosen by places alone
pub left-same : (programs : Programs) (state other : State) (nodes : List ℕ) → ((n : ℕ) → (other.share n).place ≡ (state.share n).place) → first_left programs other nodes ≡ first_left programs state nodes
left-same programs state other [] same = refl
left-same programs state other (node ∷ nodes) same =
    ap (λ place. or_else (slice_get (programs node) place) (first_left programs other nodes)) (same node)
    ∙ ap (or_else (slice_get (programs node) (state.share node).place)) (left-same programs state other nodes same)

module _ (trace : Trace) (all : IsOfMachine trace) (state : State) where
  -- a node's next operation, of a node of the machine
  abbrev pub IsLeft : Op → Type 0
  IsLeft op = (op.node < trace.sizes.nodes) × (slice_get (program trace op.node) (state.share op.node).place ≡ Some op)

  here : (node : ℕ) (op : Op) → slice_get (program trace node) (state.share node).place ≡ Some op → IsLeft op
  here node op e =
      let is = in-program (λ o. o.node < trace.sizes.nodes) node trace.ops (state.share node).place op all.nodes e in
      (is.0, subst (λ n. slice_get (program trace n) (state.share n).place ≡ Some op) (sym is.1) e)

  pub left-some : (nodes : List ℕ) (op : Op) → first_left (program trace) state nodes ≡ Some op → IsLeft op
  left-some [] op e = absurd (let n : ◌≡◌ {A = Option Op} None (Some op) = e in cc)
  left-some (node ∷ nodes) op e = go (slice_get (program trace node) (state.share node).place) refl e (left-some nodes op)
    where
      go : (o : Option Op) → slice_get (program trace node) (state.share node).place ≡ o → or_else o (first_left (program trace) state nodes) ≡ Some op → (first_left (program trace) state nodes ≡ Some op → IsLeft op) → IsLeft op
      go None at e later = later e
      go (Some next) at e later = here node op (at ∙ e)

  none-range : (a n : ℕ) → first_left (program trace) state (range_with_len a n) ≡ None → (i : ℕ) → a ≤ i → i < a + n → slice_get (program trace i) (state.share i).place ≡ None
  none-range a zero e i from below = absurd (omega arith)
  none-range a (suc n) e i from below = go (slice_get (program trace a) (state.share a).place) refl e (none-range (a + 1) n)
    where
      Ends : Type 0
      Ends = slice_get (program trace i) (state.share i).place ≡ None

      at : (c : Bool) → (i == a) ≡ c → slice_get (program trace a) (state.share a).place ≡ None → (a + 1 ≤ i → Ends) → Ends
      at true is none later = let same : a ≡ i = grind (arith, nat_tests) in subst (λ k. slice_get (program trace k) (state.share k).place ≡ None) same none
      at false is none later = let past : a + 1 ≤ i = grind (arith, nat_tests) in later past

      go : (o : Option Op) → slice_get (program trace a) (state.share a).place ≡ o → or_else o (first_left (program trace) state (range_with_len (a + 1) n)) ≡ None →
          (first_left (program trace) state (range_with_len (a + 1) n) ≡ None → (i : ℕ) → a + 1 ≤ i → i < a + 1 + n → slice_get (program trace i) (state.share i).place ≡ None) → Ends
      go None none e later = at (i == a) refl none (λ past. later e i past (omega arith))
      go (Some next) some e later = absurd (let n : ◌≡◌ {A = Option Op} (Some next) None = e in cc)

  -- where none has one left, each node is at the end of its program
  pub left-none : first_left (program trace) state (all_nodes trace.sizes) ≡ None → (node : ℕ) → slice_get (program trace node) (state.share node).place ≡ None
  left-none e node = go (slice_get (program trace node) (state.share node).place) refl
    where
      go : (o : Option Op) → slice_get (program trace node) (state.share node).place ≡ o → o ≡ None
      go None at = refl
      go (Some op) at =
          let is = in-program (λ o. o.node < trace.sizes.nodes) node trace.ops (state.share node).place op all.nodes at in
          let below : node < trace.sizes.nodes = subst (λ n. n < trace.sizes.nodes) is.1 is.0 in
          let none = none-range 0 trace.sizes.nodes e node (omega arith) (omega arith) in
          absurd (let n : ◌≡◌ {A = Option Op} (Some op) None = sym at ∙ none in cc)
