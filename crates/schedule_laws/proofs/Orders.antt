-- The operations of a trace in their order. Where the first ones are done, the operation behind them is the first that isn't completed, and
-- its node's next one, since the index of each operation is its place in its node's program.
use Rattle.std.proofs.Common.{◌≡◌, ◌≢◌, ℕ, suc, ◌+◌, ◌<◌, ◌≤◌, Bool, true, false, cond, ◌==◌, not, nat_lt, List, length, take, refl, ap, arith, sym, ◌∙◌, Some, None}
use Rattle.std.specs.Prelude.{slice_get, count_by}
use Rattle.std.proofs.lemmas.Bool.{not_from_true, not_from_false, lt-ltb, le-ltb}
use Rattle.std.proofs.lemmas.Option.{slice_get_within}
use Rattle.std.proofs.lemmas.List.{take_all}
use Rattle.std.proofs.lemmas.List.Sums.{length-filter}
use Rattle.std.proofs.lemmas.Bool.Decides.{nat_tests}
use Rattle.op_model.specs.declared.operations.Op.{Op}
use Rattle.op_model.specs.Run.Schedules.{current}
use Rattle.op_model.specs.Shares.{State, Trace, program}
use Rattle.op_model.proofs.Public.{eqb-self, take-next}
use Rattle.schedule_laws.specs.Ends.{AreAllDone, IsInOrder}
use Rattle.schedule_laws.proofs.Lists.{count_by-push, count_by-take_lt, find-first, find-none_of, slice_get-filter}

-- the operations of a node among the first ones of a list
abbrev pub done_before : List Op → ℕ → ℕ → ℕ
done_before ops count node = count_by (λ (op : Op). op.node == node) (take count ops)

-- so many of the first operations are done, and no others
abbrev pub HaveDone : List Op → ℕ → State → Type 0
HaveDone ops count state = (node : ℕ) → (state.share node).place ≡ done_before ops count node

one_more : (a b place was done : ℕ) → (a ≡ b → place ≡ suc was) → (a ≢ b → place ≡ was) → was ≡ done → place ≡ done + cond (b == a) 1 0
one_more a b place was done same other is = go (b == a) refl
  where
    go : (c : Bool) → (b == a) ≡ c → place ≡ done + cond c 1 0
    go true e = let at = same (grind (arith, nat_tests)) in omega arith
    go false e = let at = other (grind (arith, nat_tests)) in omega arith

module _ (trace : Trace) (ordered : IsInOrder trace) where
  abbrev of : ℕ → Op → Bool
  of node op = op.node == node

  module _ (state : State) (count : ℕ) (done : HaveDone trace.ops count state) where
    place-below : (k : ℕ) (op : Op) → k < count → slice_get trace.ops k ≡ Some op → op.index < (state.share op.node).place
    place-below k op below is =
        let less = count_by-take_lt (of op.node) trace.ops k count op below is (eqb-self op.node) in
        let place = done op.node in
        let index = ordered k op is in
        omega arith

    -- an operation that is done is completed
    pub all-below : length trace.ops ≤ count → (k : ℕ) (op : Op) → slice_get trace.ops k ≡ Some op → op.index < (state.share op.node).place
    all-below all k op is = let within = slice_get_within trace.ops k op is in place-below k op (omega arith) is

    -- the operation behind those that are done is the current one
    pub current-is : (op : Op) → slice_get trace.ops count ≡ Some op → current trace.ops state ≡ Some op
    current-is op is =
        find-first (λ (o : Op). not (nat_lt o.index (state.share o.node).place)) trace.ops count op
        (λ k y below there. not_from_true _ (lt-ltb y.index (state.share y.node).place (place-below k y below there))) is
        (not_from_false _ (le-ltb op.index (state.share op.node).place (let place = done op.node in let index = ordered count op is in omega arith)))

    -- and where all are done there is none
    pub current-none : length trace.ops ≤ count → current trace.ops state ≡ None
    current-none all =
        find-none_of (λ (o : Op). not (nat_lt o.index (state.share o.node).place)) trace.ops
        (λ k y there. not_from_true _ (lt-ltb y.index (state.share y.node).place (all-below all k y there)))

    pub next-op : (op : Op) → slice_get trace.ops count ≡ Some op → slice_get (program trace op.node) (state.share op.node).place ≡ Some op
    next-op op is = ap (slice_get (program trace op.node)) (done op.node) ∙ slice_get-filter (of op.node) trace.ops count op is (eqb-self op.node)

    pub index-is : (op : Op) → slice_get trace.ops count ≡ Some op → op.index ≡ (state.share op.node).place
    index-is op is = ordered count op is ∙ sym (done op.node)

    pub all-places : length trace.ops ≤ count → AreAllDone trace state
    all-places all node = done node ∙ ap (count_by (of node)) (take_all count trace.ops all) ∙ sym (length-filter (of node) trace.ops)

    -- one operation more is done
    pub done-more : (op : Op) (later : State) → slice_get trace.ops count ≡ Some op → (later.share op.node).place ≡ suc (state.share op.node).place → ((node : ℕ) → node ≢ op.node → (later.share node).place ≡ (state.share node).place) →
        HaveDone trace.ops (count + 1) later
    done-more op later is own others node =
        one_more node op.node (later.share node).place (state.share node).place (done_before trace.ops count node)
        (λ same. ap (λ n. (later.share n).place) same ∙ own ∙ ap (λ n. suc (state.share n).place) (sym same)) (others node) (done node)
        ∙ sym (ap (count_by (of node)) (take-next trace.ops count op is) ∙ count_by-push (of node) (take count trace.ops) op)
