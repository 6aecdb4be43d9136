-- The programs of a machine as one trace, node by node; and what any trace of them is.
use Rattle.std.proofs.Common.{◌≡◌, ◌≢◌, ℕ, zero, suc, ◌+◌, ◌<◌, ◌≤◌, Bool, true, false, cond, ◌==◌, ◌⊎◌, inl, inr, List, [], ◌∷◌, ◌++◌, refl, arith, ap, sym, ◌∙◌, subst, Option, Some, None}
use Rattle.std.specs.Prelude.{slice_get, filter}
use Rattle.std.specs.List.{flat_map, range_with_len}
use Rattle.std.proofs.lemmas.Bool.{ne_eqb, cases_lt}
use Rattle.std.proofs.lemmas.Bool.Decides.{nat_tests}
use Rattle.std.proofs.lemmas.List.{append-nil}
use Rattle.std.proofs.lemmas.List.Elements.{filter-append}
use Rattle.line_map.specs.Sizes.{Sizes, all_words}
use Rattle.op_model.specs.declared.operations.Op.{Op}
use Rattle.op_model.specs.Events.Step.{Programs}
use Rattle.op_model.specs.Programs.{IsOrderOf}
use Rattle.op_model.specs.Run.Schedules.{all_nodes}
use Rattle.op_model.specs.Shares.{Trace, program}
use Rattle.op_model.proofs.Public.{eqb-self}
use Rattle.node_range.specs.Range.{IsOfMachine}
use Rattle.node_range.specs.Traces.{AreProgramsIn, IsTraceOf}

-- operations in an order, and node by node
abbrev pub trace_in : Sizes → List Op → Trace
trace_in sizes order = record { version = 2; sizes = sizes; ops = order; steps = [] }

abbrev pub in_turn : Sizes → Programs → List Op
in_turn sizes programs = flat_map programs (all_nodes sizes)

abbrev pub turn_of : Sizes → Programs → Trace
turn_of sizes programs = trace_in sizes (in_turn sizes programs)

-- all operations are of one node
abbrev AreBy : ℕ → List Op → Type 0
AreBy node ops = (i : ℕ) (op : Op) → slice_get ops i ≡ Some op → op.node ≡ node

filter-own : (node : ℕ) (ops : List Op) → AreBy node ops → filter (λ op. op.node == node) ops ≡ ops
filter-own node [] by = refl
filter-own node (op ∷ ops) by =
    ap (λ b. cond b (op ∷ filter (λ o. o.node == node) ops) (filter (λ o. o.node == node) ops)) (ap (λ n. n == node) (by 0 op refl) ∙ eqb-self node)
    ∙ ap (λ os. op ∷ os) (filter-own node ops (λ i. by (suc i)))

filter-others : (node other : ℕ) (ops : List Op) → AreBy other ops → other ≢ node → filter (λ op. op.node == node) ops ≡ []
filter-others node other [] by differ = refl
filter-others node other (op ∷ ops) by differ =
    ap (λ b. cond b (op ∷ filter (λ o. o.node == node) ops) (filter (λ o. o.node == node) ops)) (ap (λ n. n == node) (by 0 op refl) ∙ ne_eqb other node differ)
    ∙ filter-others node other ops (λ i. by (suc i)) differ

module _ (programs : Programs) (by : (node : ℕ) → AreBy node (programs node)) where
  -- the operations of nodes before a bound don't count, nor do those behind it
  range-none : (a n node : ℕ) → (node < a) ⊎ (a + n ≤ node) → filter (λ op. op.node == node) (flat_map programs (range_with_len a n)) ≡ []
  range-none a zero node out = refl
  range-none a (suc n) node out =
      filter-append (λ op. op.node == node) (programs a) (flat_map programs (range_with_len (a + 1) n))
      ∙ (ap (λ os. os ++ filter (λ op. op.node == node) (flat_map programs (range_with_len (a + 1) n))) (filter-others node a (programs a) (by a) (differ out))
      ∙ range-none (a + 1) n node (further out))
    where
      differ : (node < a) ⊎ (a + suc n ≤ node) → a ≢ node
      differ (inl less) same = omega arith
      differ (inr more) same = omega arith

      further : (node < a) ⊎ (a + suc n ≤ node) → (node < a + 1) ⊎ (a + 1 + n ≤ node)
      further (inl less) = inl (omega arith)
      further (inr more) = inr (omega arith)

  above : {a node : ℕ} → a ≢ node → a ≤ node → a + 1 ≤ node
  above differ from = omega arith

  range-one : (a n node : ℕ) → a ≤ node → node < a + n → filter (λ op. op.node == node) (flat_map programs (range_with_len a n)) ≡ programs node
  range-one a zero node from to = absurd (omega arith)
  range-one a (suc n) node from to = filter-append (λ op. op.node == node) (programs a) (flat_map programs (range_with_len (a + 1) n)) ∙ go (a == node) refl (range-one (a + 1) n node)
    where
      go : (b : Bool) → (a == node) ≡ b → (a + 1 ≤ node → node < a + 1 + n → filter (λ op. op.node == node) (flat_map programs (range_with_len (a + 1) n)) ≡ programs node) → filter (λ op. op.node == node) (programs a) ++ filter (λ op. op.node == node) (flat_map programs (range_with_len (a + 1) n)) ≡ programs node
      go true e rest =
          let same : a ≡ node = grind (arith, nat_tests) in
          let own = subst (λ q. filter (λ op. op.node == node) (programs q) ≡ programs node) (sym same) (filter-own node (programs node) (by node)) in
          let none = range-none (a + 1) n node (inl (omega arith)) in
          ap (λ os. os ++ filter (λ op. op.node == node) (flat_map programs (range_with_len (a + 1) n))) own ∙ ap (λ os. programs node ++ os) none ∙ append-nil (programs node)
      go false e rest =
          let differ : a ≢ node = grind (arith, nat_tests) in
          ap (λ os. os ++ filter (λ op. op.node == node) (flat_map programs (range_with_len (a + 1) n))) (filter-others node a (programs a) (by a) differ)
          ∙ rest (above differ from) (omega arith)

-- the programs of a trace of these programs are these
pub order-programs : (programs : Programs) (order : List Op) → IsOrderOf programs order → (λ (node : ℕ). filter (λ op. op.node == node) order) ≡ programs
order-programs programs order ordered = λ i node. ordered node i

pub trace-programs : (sizes : Sizes) (programs : Programs) (trace : Trace) → IsTraceOf sizes programs trace → program trace ≡ programs
trace-programs sizes programs trace is = order-programs programs trace.ops is.ordered

-- what passes a test stands among all that pass
filter-place : (p : Op → Bool) (ops : List Op) (i : ℕ) (op : Op) → slice_get ops i ≡ Some op → p op ≡ true → (k : ℕ) × (slice_get (filter p ops) k ≡ Some op)
filter-place p [] i op is passes = absurd (let n : ◌≡◌ {A = Option Op} None (Some op) = is in cc)
filter-place p (x ∷ ops) zero op is passes =
    let same : x ≡ op = cc in
    (0, ap (λ b. slice_get (cond b (x ∷ filter p ops) (filter p ops)) 0) (ap p same ∙ passes) ∙ ap Some same)
filter-place p (x ∷ ops) (suc i) op is passes = go (p x) (filter-place p ops i op is passes)
  where
    go : (b : Bool) → ((k : ℕ) × (slice_get (filter p ops) k ≡ Some op)) → (k : ℕ) × (slice_get (cond b (x ∷ filter p ops) (filter p ops)) k ≡ Some op)
    go true at = (suc at.0, at.1)
    go false at = at

module _ (sizes : Sizes) (programs : Programs) (are : AreProgramsIn sizes programs) where
  -- an order of all operations is of the machine
  pub order-in : (order : List Op) → IsOrderOf programs order → IsOfMachine (trace_in sizes order)
  order-in order ordered = record { nodes = λ i op is. (own i op is).0; words = λ i op is. (own i op is).1 }
    where
      own : (i : ℕ) (op : Op) → slice_get order i ≡ Some op → (op.node < sizes.nodes) × (op.word < all_words sizes)
      own i op is =
          let at = filter-place (λ o. o.node == op.node) order i op is (eqb-self op.node) in
          let it = are op.node at.0 op (ap (λ os. slice_get os at.0) (sym (ordered op.node)) ∙ at.1) in
          (it.of_machine, it.is.word)

  pub trace-in : (trace : Trace) → IsTraceOf sizes programs trace → IsOfMachine trace
  trace-in trace is =
      let of = order-in trace.ops is.ordered in
      record {
        nodes = λ i op at. subst (λ (s : Sizes). op.node < s.nodes) (sym is.sized) (of.nodes i op at);
        words = λ i op at. subst (λ s. op.word < all_words s) (sym is.sized) (of.words i op at);
      }

  by-node : (node : ℕ) → AreBy node (programs node)
  by-node node i op is = (are node i op is).is.of_node

  none-past : (node : ℕ) → sizes.nodes ≤ node → programs node ≡ []
  none-past node past = go (programs node) refl
    where
      go : (ops : List Op) → programs node ≡ ops → programs node ≡ []
      go [] is = is
      go (op ∷ ops) is = absurd (let own = are node 0 op (ap (λ os. slice_get os 0) is) in let cases_lt = own.of_machine in omega arith)

  -- node by node they are a trace of the programs
  pub turn-is : IsTraceOf sizes programs (turn_of sizes programs)
  turn-is = record { sized = refl; ordered = λ node. go node (cases_lt node sizes.nodes) }
    where
      go : (node : ℕ) → (node < sizes.nodes) ⊎ (sizes.nodes ≤ node) → filter (λ op. op.node == node) (in_turn sizes programs) ≡ programs node
      go node (inl less) = range-one programs by-node 0 sizes.nodes node (omega arith) (omega arith)
      go node (inr more) = range-none programs by-node 0 sizes.nodes node (inr (omega arith)) ∙ sym (none-past node more)

  pub turn-programs : program (turn_of sizes programs) ≡ programs
  turn-programs = trace-programs sizes programs (turn_of sizes programs) turn-is

  pub turn-in : IsOfMachine (turn_of sizes programs)
  turn-in = trace-in (turn_of sizes programs) turn-is
