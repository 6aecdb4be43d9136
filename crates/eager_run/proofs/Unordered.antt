-- Two nodes each store to a word and load the other's, and both read 0. Whichever store is first in a legal list, the other node's load is behind it.
use Rattle.std.proofs.Common.{◌≡◌, ◌≢◌, ℕ, Bool, true, false, cond, ◌==◌, List, [], ◌∷◌, ◌++◌, refl, sym, ap, subst, ◌∙◌, arith}
use Rattle.std.proofs.lemmas.Bool.Decides.{nat_tests}
use Rattle.op_model.specs.Operations.{is_load}
use Rattle.op_model.specs.Flat.{FlatMemory, IsLegal, IsLegalFrom, after_entry}
use Rattle.op_model.specs.Run.History.{entries_by}
use Rattle.row_examples.specs.Types.{Load, Store}
use Rattle.eager_model.specs.Types.{Entry}
use Rattle.eager_run.specs.Worked.{done, done_by, done_of}
use Rattle.eager_run.proofs.Loads.{Each, IsNoWriteOf, each-both, each-behind, each-also, each-of-nodes, each-of-node, behind-store}

abbrev IsLoad : Entry → Type 0
IsLoad entry = is_load entry.kind ≡ true

-- a node's store of the one word and its load of the other one
abbrev late : ℕ → ℕ → ℕ → List Entry
late node own other = done node 2 Store own 1 ∷ done node 3 Load other 0 ∷ []

-- What is left of a list: loads of each of two nodes, and then its store and its load; and nothing of another node
record IsLeft (order : List Entry) (one two : ℕ) (own other : ℕ) (before_one before_two : List Entry) : Type 0 where
  of_one : entries_by one order ≡ before_one ++ late one own other
  of_two : entries_by two order ≡ before_two ++ late two other own
  of_none : (node : ℕ) → node ≢ one → node ≢ two → entries_by node order ≡ []
  loads_one : Each IsLoad before_one
  loads_two : Each IsLoad before_two
  nodes_apart : one ≢ two
  words_apart : own ≢ other

turned : (order : List Entry) (one two own other : ℕ) (before_one before_two : List Entry) → IsLeft order one two own other before_one before_two → IsLeft order two one other own before_two before_one
turned order one two own other before_one before_two left =
    record {
      of_one = left.of_two;
      of_two = left.of_one;
      of_none = λ node a b. left.of_none node b a;
      loads_one = left.loads_two;
      loads_two = left.loads_one;
      nodes_apart = λ e. left.nodes_apart (sym e);
      words_apart = λ e. left.words_apart (sym e);
    }

-- the entries behind the first one
own-rest : (node : ℕ) (entry : Entry) (entries xs : List Entry) → entry.node ≡ node → entries_by node (entry ∷ entries) ≡ xs → entry ∷ entries_by node entries ≡ xs
own-rest node entry entries xs own is =
    let same : (entry.node == node) ≡ true = grind (arith, nat_tests) in
    sym (ap (λ (b : Bool). cond b (entry ∷ entries_by node entries) (entries_by node entries)) same) ∙ is

other-rest : (node : ℕ) (entry : Entry) (entries xs : List Entry) → entry.node ≢ node → entries_by node (entry ∷ entries) ≡ xs → entries_by node entries ≡ xs
other-rest node entry entries xs apart is =
    let differ : (entry.node == node) ≡ false = grind (arith, nat_tests) in
    sym (ap (λ (b : Bool). cond b (entry ∷ entries_by node entries) (entries_by node entries)) differ) ∙ is

none-rest : (own : Bool) (entry : Entry) (entries : List Entry) → cond own (entry ∷ entries) entries ≡ [] → entries ≡ []
none-rest true entry entries is = cc
none-rest false entry entries is = is

-- the store is first: then the other node's load of the word, which is behind its store, reads what was stored
store-first : (flat : FlatMemory) (order : List Entry) (one two own other : ℕ) (before_two : List Entry) →
    IsLegalFrom flat (done one 2 Store own 1 ∷ order) → entries_by one order ≡ done one 3 Load other 0 ∷ [] →
    entries_by two order ≡ before_two ++ late two other own → ((node : ℕ) → node ≢ one → node ≢ two → entries_by node order ≡ []) →
    Each IsLoad before_two → own ≢ other → ⊥
store-first flat order one two own other before_two legal of_one of_two of_none loads apart =
    let read : Each (λ entry. entry.word ≡ own → entry.value ≡ 1) order = behind-store flat (done one 2 Store own 1) order refl legal (each-of-nodes (IsNoWriteOf own) order leaves) in
    let last : Each (λ entry. entry.word ≡ own → entry.value ≡ 1) (late two other own) =
    each-behind (λ entry. entry.word ≡ own → entry.value ≡ 1) before_two (late two other own)
    (subst (Each (λ entry. entry.word ≡ own → entry.value ≡ 1)) of_two (each-of-node (λ entry. entry.word ≡ own → entry.value ≡ 1) two order read)) in
    let wrong : ◌≡◌ {A = ℕ} 0 1 = last.1.0 refl in
    omega arith
  where
    all-leave : Each (IsNoWriteOf own) (before_two ++ late two other own)
    all-leave = each-both (IsNoWriteOf own) before_two (late two other own) (each-also IsLoad (IsNoWriteOf own) before_two (λ entry load same. load) loads) (λ same. absurd (apart (sym same)), (λ same. refl, tt))

    by-node : (node : ℕ) (is_one is_two : Bool) → (node == one) ≡ is_one → (node == two) ≡ is_two → Each (IsNoWriteOf own) (entries_by node order)
    by-node node true is_two e f =
        let same : one ≡ node = grind (arith, nat_tests) in
        subst (λ (q : ℕ). Each (IsNoWriteOf own) (entries_by q order)) same (subst (Each (IsNoWriteOf own)) (sym of_one) (λ word. refl, tt))
    by-node node false true e f =
        let same : two ≡ node = grind (arith, nat_tests) in
        subst (λ (q : ℕ). Each (IsNoWriteOf own) (entries_by q order)) same (subst (Each (IsNoWriteOf own)) (sym of_two) all-leave)
    by-node node false false e f =
        subst (Each (IsNoWriteOf own)) (sym (of_none node (grind (arith, nat_tests)) (grind (arith, nat_tests)))) tt

    leaves : (node : ℕ) → Each (IsNoWriteOf own) (entries_by node order)
    leaves node = by-node node (node == one) (node == two) refl refl

-- the first entry is of the one node: a load, behind which the rest is left, or its store
of-one-first : (flat : FlatMemory) (entry : Entry) (order : List Entry) (one two own other : ℕ) (before_one before_two : List Entry) →
    IsLeft (entry ∷ order) one two own other before_one before_two → entry.node ≡ one → IsLegalFrom flat (entry ∷ order) →
    ((before : List Entry) → IsLeft order one two own other before before_two → ⊥) → ⊥
of-one-first flat entry order one two own other [] before_two left is legal rest =
    let all : entry ∷ entries_by one order ≡ late one own other = own-rest one entry order _ is left.of_one in
    let here : entry ≡ done one 2 Store own 1 = cc in
    let later : entries_by one order ≡ done one 3 Load other 0 ∷ [] = cc in
    let not_two : entry.node ≢ two = λ e. left.nodes_apart (sym is ∙ e) in
    store-first flat order one two own other before_two (subst (λ (x : Entry). IsLegalFrom flat (x ∷ order)) here legal) later
    (other-rest two entry order _ not_two left.of_two) (λ node a b. none-rest (entry.node == node) entry (entries_by node order) (left.of_none node a b)) left.loads_two left.words_apart
of-one-first flat entry order one two own other (load ∷ before_one) before_two left is legal rest =
    let all : entry ∷ entries_by one order ≡ load ∷ (before_one ++ late one own other) = own-rest one entry order _ is left.of_one in
    let later : entries_by one order ≡ before_one ++ late one own other = cc in
    let not_two : entry.node ≢ two = λ e. left.nodes_apart (sym is ∙ e) in
    rest before_one (record {
      of_one = later;
      of_two = other-rest two entry order _ not_two left.of_two;
      of_none = λ node a b. none-rest (entry.node == node) entry (entries_by node order) (left.of_none node a b);
      loads_one = left.loads_one.1;
      loads_two = left.loads_two;
      nodes_apart = left.nodes_apart;
      words_apart = left.words_apart;
    })

-- the end isn't reached while something is left
not-empty : (xs ys : List Entry) (entry : Entry) → ◌≡◌ {A = List Entry} [] (xs ++ entry ∷ ys) → ⊥
not-empty [] ys entry e = cc
not-empty (x ∷ xs) ys entry e = cc

by-head : (flat : FlatMemory) (entry : Entry) (order : List Entry) (one two own other : ℕ) (before_one before_two : List Entry) (is_one is_two : Bool) →
    (entry.node == one) ≡ is_one → (entry.node == two) ≡ is_two → IsLeft (entry ∷ order) one two own other before_one before_two → IsLegalFrom flat (entry ∷ order) →
    ((a b : List Entry) → IsLeft order one two own other a b → ⊥) → ⊥
by-head flat entry order one two own other before_one before_two true is_two e f left legal rest =
    of-one-first flat entry order one two own other before_one before_two left (grind (arith, nat_tests)) legal (λ a next. rest a before_two next)
by-head flat entry order one two own other before_one before_two false true e f left legal rest =
    of-one-first flat entry order two one other own before_two before_one (turned _ one two own other before_one before_two left) (grind (arith, nat_tests)) legal
    (λ b next. rest before_one b (turned order two one other own b before_one next))
by-head flat entry order one two own other before_one before_two false false e f left legal rest =
    let none : entries_by entry.node (entry ∷ order) ≡ [] = left.of_none entry.node (grind (arith, nat_tests)) (grind (arith, nat_tests)) in
    not-empty [] (entries_by entry.node order) entry (sym (own-rest entry.node entry order [] refl none))

none-left : (order : List Entry) (flat : FlatMemory) (one two own other : ℕ) (before_one before_two : List Entry) → IsLeft order one two own other before_one before_two → IsLegalFrom flat order → ⊥
none-left [] flat one two own other before_one before_two left legal = not-empty before_one _ _ left.of_one
none-left (entry ∷ order) flat one two own other before_one before_two left legal =
    by-head flat entry order one two own other before_one before_two (entry.node == one) (entry.node == two) refl refl left legal
    (λ a b next. none-left order (after_entry flat entry) one two own other a b next legal.1)

of-others : (node : ℕ) (is_one is_two : Bool) → (node == 1) ≡ is_one → (node == 2) ≡ is_two → node ≢ 1 → node ≢ 2 → cond is_one (done_by 1 0 1) (cond is_two (done_by 2 1 0) []) ≡ []
of-others node true is_two e f a b = absurd (a (grind (arith, nat_tests)))
of-others node false true e f a b = absurd (b (grind (arith, nat_tests)))
of-others node false false e f a b = refl

pub no-one-order : (order : List Entry) → ((node : ℕ) → entries_by node order ≡ done_of node) → IsLegal order → ⊥
no-one-order order of_node legal =
    none-left order _ 1 2 0 1 (done 1 0 Load 0 0 ∷ done 1 1 Load 1 0 ∷ []) (done 2 0 Load 0 0 ∷ done 2 1 Load 1 0 ∷ [])
    (record {
      of_one = of_node 1;
      of_two = of_node 2;
      of_none = λ node a b. of_node node ∙ of-others node (node == 1) (node == 2) refl refl a b;
      loads_one = (refl, (refl, tt));
      loads_two = (refl, (refl, tt));
      nodes_apart = λ e. omega arith;
      words_apart = λ e. omega arith;
    }) legal
