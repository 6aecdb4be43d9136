-- The next operation of a node is one of its trace, so its node and the home of its line are nodes of the machine.
-- A program is the operations of its trace that pass a test; and a word below all words is of a line below all lines.
use Rattle.std.proofs.Common.{◌≡◌, ℕ, zero, suc, ◌*◌, ◌/◌, ◌<◌, ◌≤◌, Bool, true, false, cond, ◌==◌, ◌⊎◌, inl, inr, List, [], ◌∷◌, refl, arith, subst, Option, Some, None, filter}
use Rattle.std.proofs.lemmas.Bool.{cases_lt}
use Rattle.std.proofs.lemmas.Bool.Decides.{nat_tests}
use Rattle.std.proofs.Math.Nat.{div-div-eq-div-mul, div-mul-le_self, mul-le-mul_right}
use Rattle.std.specs.List.{slice_get}
use Rattle.line_map.specs.Sizes.{home_of, line_of}
use Rattle.op_model.specs.declared.operations.Op.{Op}
use Rattle.op_model.specs.Shares.{Trace}
use Rattle.one_history.specs.Sound.{IsNextOp}
use Rattle.node_range.specs.Range.{IsOfMachine}

-- what holds of each operation of a list holds of each one of a node's
pub in-program : (P : Op → Type 0) (node : ℕ) (ops : List Op) (i : ℕ) (next : Op) → ((j : ℕ) (op : Op) → slice_get ops j ≡ Some op → P op) → slice_get (filter (λ op. op.node == node) ops) i ≡ Some next → P next × (next.node ≡ node)
in-program P node [] i next all e = absurd (let n : ◌≡◌ {A = Option Op} None (Some next) = e in cc)
in-program P node (op ∷ ops) i next all e = go (op.node == node) refl i e (λ k. in-program P node ops k next (λ j o is. all (suc j) o is))
  where
    go : (c : Bool) → (op.node == node) ≡ c → (i : ℕ) → slice_get (cond c (op ∷ filter (λ o. o.node == node) ops) (filter (λ o. o.node == node) ops)) i ≡ Some next →
        ((k : ℕ) → slice_get (filter (λ o. o.node == node) ops) k ≡ Some next → P next × (next.node ≡ node)) → P next × (next.node ≡ node)
    go true same zero e rest =
        let is : op ≡ next = let s : ◌≡◌ {A = Option Op} (Some op) (Some next) = e in cc in
        let at : op.node ≡ node = grind (arith, nat_tests) in
        subst (λ o. P o × (o.node ≡ node)) is (all 0 op refl, at)
    go true same (suc k) e rest = rest k e
    go false same k e rest = rest k e

home-below : (word nodes lines words : ℕ) → word < nodes * lines * words → word / words / lines < nodes
home-below word nodes lines words lt = go (cases_lt (word / words / lines) nodes)
  where
    go : (word / words / lines < nodes) ⊎ (nodes ≤ word / words / lines) → word / words / lines < nodes
    go (inl it) = it
    go (inr far) = absurd (
        let same = div-div-eq-div-mul word words lines in
        let most = div-mul-le_self word (words * lines) in
        let least = mul-le-mul_right (words * lines) (subst (λ q. nodes ≤ q) same far) in
        let turned : nodes * (words * lines) ≡ nodes * lines * words = grind arith in
        omega arith)

-- the node of the next operation, and the home of its line
pub next-in : (trace : Trace) → IsOfMachine trace → (node place line : ℕ) (op : Op) → IsNextOp trace node place line op → (node < trace.sizes.nodes) × (home_of trace.sizes line < trace.sizes.nodes)
next-in trace all node place line op next =
    let at = in-program (λ o. (o.node < trace.sizes.nodes) × (home_of trace.sizes (line_of trace.sizes o.word) < trace.sizes.nodes)) node trace.ops place op
    (λ j o is. (all.nodes j o is, home-below o.word trace.sizes.nodes trace.sizes.lines trace.sizes.words (all.words j o is))) next.0 in
    (subst (λ n. n < trace.sizes.nodes) at.1 at.0.0, subst (λ l. home_of trace.sizes l < trace.sizes.nodes) next.1 at.0.1)
