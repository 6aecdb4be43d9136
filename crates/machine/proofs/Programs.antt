-- The programs of the nodes as one trace: each node's operations in it are its program.
use Rattle.std.proofs.Common.{◌≡◌, ◌≢◌, ℕ, zero, suc, ◌+◌, ◌<◌, true, false, cond, ◌==◌, ◌⊎◌, inl, inr, List, [], ◌∷◌, ◌++◌, length, refl, ap, arith, sym, subst, ◌∙◌, Some}
use Rattle.std.specs.Prelude.{slice_get, filter, unwrap_or}
use Rattle.std.specs.List.{flat_map}
use Rattle.std.proofs.lemmas.Option.{slice_get_within}
use Rattle.std.proofs.lemmas.List.{append-nil}
use Rattle.std.proofs.lemmas.List.Elements.{filter-append}
use Rattle.std.proofs.lemmas.Bool.Decides.{nat_tests}
use Rattle.line_map.specs.Sizes.{Sizes}
use Rattle.op_model.specs.declared.operations.Op.{Op}
use Rattle.op_model.specs.Shares.{Trace, program}
use Rattle.op_model.specs.Programs.{programs_of, IsProgramOf}
use Rattle.node_range.specs.Range.{IsOfMachine}

-- the operations of a list of programs, and a trace of them
abbrev pub all_ops : List (List Op) → List Op
all_ops programs = flat_map (λ program. program) programs

abbrev pub trace_by : Sizes → List (List Op) → Trace
trace_by sizes programs = record { version = 2; sizes = sizes; ops = all_ops programs; steps = [] }

-- each program is of the node whose place it stands at, counted from this one
abbrev AreFrom : ℕ → List (List Op) → Type 0
AreFrom base programs = (k i : ℕ) (program : List Op) (op : Op) → slice_get programs k ≡ Some program → slice_get program i ≡ Some op → op.node ≡ base + k

own-kept : (node : ℕ) (ops : List Op) → ((i : ℕ) (op : Op) → slice_get ops i ≡ Some op → op.node ≡ node) → filter (λ op. op.node == node) ops ≡ ops
own-kept node [] of = refl
own-kept node (op ∷ ops) of =
    let here : (op.node == node) ≡ true = let e = of 0 op refl in grind (arith, nat_tests) in
    ap (λ b. cond b (op ∷ filter (λ o. o.node == node) ops) (filter (λ o. o.node == node) ops)) here ∙ ap (λ os. op ∷ os) (own-kept node ops (λ i. of (suc i)))

others-gone : (node other : ℕ) (ops : List Op) → other ≢ node → ((i : ℕ) (op : Op) → slice_get ops i ≡ Some op → op.node ≡ other) → filter (λ op. op.node == node) ops ≡ []
others-gone node other [] not_it of = refl
others-gone node other (op ∷ ops) not_it of =
    let here : (op.node == node) ≡ false = let e = of 0 op refl in let differ : op.node ≢ node = λ same. not_it (sym e ∙ same) in grind (arith, nat_tests) in
    ap (λ b. cond b (op ∷ filter (λ o. o.node == node) ops) (filter (λ o. o.node == node) ops)) here ∙ others-gone node other ops not_it (λ i. of (suc i))

later-gone : (node base : ℕ) (programs : List (List Op)) → node < base → AreFrom base programs → filter (λ op. op.node == node) (all_ops programs) ≡ []
later-gone node base [] below from = refl
later-gone node base (ops ∷ programs) below from =
    let here : filter (λ op. op.node == node) ops ≡ [] = others-gone node base ops (omega arith) (λ i op is. from 0 i ops op refl is ∙ (omega arith)) in
    let rest : filter (λ op. op.node == node) (all_ops programs) ≡ [] = later-gone node (base + 1) programs (omega arith) (λ k i program op there is. from (suc k) i program op there is ∙ (omega arith)) in
    filter-append (λ op. op.node == node) ops (all_ops programs) ∙ ap (λ xs. xs ++ filter (λ op. op.node == node) (all_ops programs)) here ∙ rest

ops-of : (k base : ℕ) (programs : List (List Op)) → AreFrom base programs → filter (λ op. op.node == base + k) (all_ops programs) ≡ unwrap_or (slice_get programs k) []
ops-of k base [] from = refl
ops-of zero base (ops ∷ programs) from =
    let at : base + 0 ≡ base = omega arith in
    let here : filter (λ op. op.node == base + 0) ops ≡ ops = own-kept (base + 0) ops (λ i op is. from 0 i ops op refl is) in
    let rest : filter (λ op. op.node == base + 0) (all_ops programs) ≡ [] = later-gone (base + 0) (base + 1) programs (omega arith) (λ k i program op there is. from (suc k) i program op there is ∙ (omega arith)) in
    filter-append (λ op. op.node == base + 0) ops (all_ops programs) ∙ (λ i. here i ++ rest i) ∙ append-nil ops
ops-of (suc k) base (ops ∷ programs) from =
    let at : base + suc k ≡ (base + 1) + k = omega arith in
    let here : filter (λ op. op.node == base + suc k) ops ≡ [] = others-gone (base + suc k) base ops (omega arith) (λ i op is. from 0 i ops op refl is ∙ (omega arith)) in
    let rest : filter (λ op. op.node == base + suc k) (all_ops programs) ≡ unwrap_or (slice_get programs k) [] =
    ap (λ n. filter (λ op. op.node == n) (all_ops programs)) at ∙ ops-of k (base + 1) programs (λ j i program op there is. from (suc j) i program op there is ∙ (omega arith)) in
    filter-append (λ op. op.node == base + suc k) ops (all_ops programs) ∙ ap (λ xs. xs ++ filter (λ op. op.node == base + suc k) (all_ops programs)) here ∙ rest

-- each node's operations in the trace are its program
pub program-of : (sizes : Sizes) (programs : List (List Op)) → ((node : ℕ) (program : List Op) → slice_get programs node ≡ Some program → IsProgramOf sizes node program) → program (trace_by sizes programs) ≡ programs_of programs
program-of sizes programs each = λ i node. one node i
  where
    one : (node : ℕ) → filter (λ op. op.node == node) (all_ops programs) ≡ unwrap_or (slice_get programs node) []
    one node = let at : 0 + node ≡ node = omega arith in
        subst (λ n. filter (λ op. op.node == n) (all_ops programs) ≡ unwrap_or (slice_get programs node) []) at (ops-of node 0 programs (λ k i ops op there is. (each k ops there i op is).of_node ∙ (omega arith)))

-- an element of two lists one behind the other is of one of them
append-get : {A : Type 0} (xs ys : List A) (i : ℕ) (x : A) → slice_get (xs ++ ys) i ≡ Some x → (slice_get xs i ≡ Some x) ⊎ ((j : ℕ) × (slice_get ys j ≡ Some x))
append-get [] ys i x is = inr (i, is)
append-get (y ∷ xs) ys zero x is = inl is
append-get (y ∷ xs) ys (suc i) x is = append-get xs ys i x is

-- an operation of the trace stands in one of the programs
record IsFrom (programs : List (List Op)) (op : Op) : Type 0 where
  pub node : ℕ
  pub place : ℕ
  pub program : List Op
  pub there : slice_get programs node ≡ Some program
  pub at : slice_get program place ≡ Some op

op-from : (programs : List (List Op)) (i : ℕ) (op : Op) → slice_get (all_ops programs) i ≡ Some op → IsFrom programs op
op-from [] i op is = cc
op-from (ops ∷ programs) i op is = go (append-get ops (all_ops programs) i op is) (λ j. op-from programs j op)
  where
    go : (slice_get ops i ≡ Some op) ⊎ ((j : ℕ) × (slice_get (all_ops programs) j ≡ Some op)) → ((j : ℕ) → slice_get (all_ops programs) j ≡ Some op → IsFrom programs op) → IsFrom (ops ∷ programs) op
    go (inl here) more = record { node = 0; place = i; program = ops; there = refl; at = here }
    go (inr later) more = let rest = more later.0 later.1 in record { node = suc rest.node; place = rest.place; program = rest.program; there = rest.there; at = rest.at }

-- the operations of the trace are at nodes of the machine and on its words
pub of-machine : (sizes : Sizes) (programs : List (List Op)) → length programs ≡ sizes.nodes → ((node : ℕ) (program : List Op) → slice_get programs node ≡ Some program → IsProgramOf sizes node program) → IsOfMachine (trace_by sizes programs)
of-machine sizes programs count each = record {
  nodes = λ i op is.
      let from = op-from programs i op is in
      let its = (each from.node from.program from.there from.place op from.at).of_node in
      let within = slice_get_within programs from.node from.program from.there in
      omega (arith, its, within, count);
  words = λ i op is. let from = op-from programs i op is in (each from.node from.program from.there from.place op from.at).word;
}
