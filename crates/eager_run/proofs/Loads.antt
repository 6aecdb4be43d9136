-- In a legal list, a load of a word behind the only store to it reads what was stored.
use Rattle.std.proofs.Common.{◌≡◌, ℕ, Bool, true, false, cond, ◌==◌, List, [], ◌∷◌, ◌++◌, refl, ap, subst, ◌∙◌, arith}
use Rattle.std.proofs.lemmas.Bool.Decides.{nat_tests}
use Rattle.std.specs.Ordering.{nat_cmp, eq_by_cmp}
use Rattle.std.specs.Cmp.{unsigned_tied}
use Rattle.std.specs.FinMap as fin
use Rattle.row_examples.proofs.Public.{get-put}
use Rattle.op_model.specs.Operations.{is_load, written}
use Rattle.op_model.specs.Flat.{FlatMemory, flat_at, after_entry, IsLegalFrom}
use Rattle.op_model.specs.Run.History.{entries_by}
use Rattle.op_model.proofs.Public.{eqb-self}
use Rattle.row_examples.specs.Types.{Store}
use Rattle.eager_model.specs.Types.{Entry}

-- it holds of each entry
abbrev pub Each : (Entry → Type 0) → List Entry → Type 0
Each P [] = Unit {0}
Each P (entry ∷ entries) = P entry × Each P entries

pub each-both : (P : Entry → Type 0) (xs ys : List Entry) → Each P xs → Each P ys → Each P (xs ++ ys)
each-both P [] ys of_xs of_ys = of_ys
each-both P (x ∷ xs) ys of_xs of_ys = (of_xs.0, each-both P xs ys of_xs.1 of_ys)

pub each-behind : (P : Entry → Type 0) (xs ys : List Entry) → Each P (xs ++ ys) → Each P ys
each-behind P [] ys of_both = of_both
each-behind P (x ∷ xs) ys of_both = each-behind P xs ys of_both.1

pub each-also : (P Q : Entry → Type 0) (entries : List Entry) → ((entry : Entry) → P entry → Q entry) → Each P entries → Each Q entries
each-also P Q [] so each = tt
each-also P Q (entry ∷ entries) so each = (so entry each.0, each-also P Q entries so each.1)

-- what holds of each node's entries holds of all, and the other way round
rest-of : (P : Entry → Type 0) (own : Bool) (entry : Entry) (entries : List Entry) → Each P (cond own (entry ∷ entries) entries) → Each P entries
rest-of P true entry entries each = each.1
rest-of P false entry entries each = each

pub each-of-nodes : (P : Entry → Type 0) (entries : List Entry) → ((node : ℕ) → Each P (entries_by node entries)) → Each P entries
each-of-nodes P [] of_nodes = tt
each-of-nodes P (entry ∷ entries) of_nodes =
    let own : Each P (cond true (entry ∷ entries_by entry.node entries) (entries_by entry.node entries)) =
    subst (λ (same : Bool). Each P (cond same (entry ∷ entries_by entry.node entries) (entries_by entry.node entries))) (eqb-self entry.node) (of_nodes entry.node) in
    (own.0, each-of-nodes P entries (λ node. rest-of P (entry.node == node) entry (entries_by node entries) (of_nodes node)))

some-of : (P : Entry → Type 0) (own : Bool) (entry : Entry) (entries : List Entry) → P entry → Each P entries → Each P (cond own (entry ∷ entries) entries)
some-of P true entry entries here each = (here, each)
some-of P false entry entries here each = each

pub each-of-node : (P : Entry → Type 0) (node : ℕ) (entries : List Entry) → Each P entries → Each P (entries_by node entries)
each-of-node P node [] each = tt
each-of-node P node (entry ∷ entries) each = some-of P (entry.node == node) entry (entries_by node entries) each.0 (each-of-node P node entries each.1)

-- an entry that isn't a write of this word
abbrev pub IsNoWriteOf : ℕ → Entry → Type 0
IsNoWriteOf word entry = entry.word ≡ word → is_load entry.kind ≡ true

-- it leaves the word
kept : (flat : FlatMemory) (entry : Entry) (word : ℕ) (load : Bool) → (entry.word ≡ word → load ≡ true) →
    flat_at (cond load flat (fin.insert flat entry.word (written entry.kind (flat_at flat entry.word) entry.value))) word ≡ flat_at flat word
kept flat entry word true leaves = refl
kept flat entry word false leaves =
    let apart : (word == entry.word) ≡ false = grind (arith, nat_tests) in
    let other : eq_by_cmp nat_cmp word entry.word ≡ false = unsigned_tied word entry.word ∙ apart in
    rw (get-put, other) refl

-- where nobody writes a word, each entry of it has the value that it had before
pub loads-read : (word : ℕ) (flat : FlatMemory) (entries : List Entry) → IsLegalFrom flat entries → Each (IsNoWriteOf word) entries →
    Each (λ entry. entry.word ≡ word → entry.value ≡ flat_at flat word) entries
loads-read word flat [] legal leave = tt
loads-read word flat (entry ∷ entries) legal leave = (
  λ same. legal.0.loaded (leave.0 same) ∙ ap (flat_at flat) same,
  subst (λ (value : ℕ). Each (λ later. later.word ≡ word → later.value ≡ value) entries) (kept flat entry word (is_load entry.kind) leave.0)
      (loads-read word (after_entry flat entry) entries legal.1 leave.1),
)

-- a load behind the only store to its word reads the value of the store
pub behind-store : (flat : FlatMemory) (store : Entry) (entries : List Entry) → store.kind ≡ Store → IsLegalFrom flat (store ∷ entries) → Each (IsNoWriteOf store.word) entries →
    Each (λ entry. entry.word ≡ store.word → entry.value ≡ store.value) entries
behind-store flat store entries is legal leave =
    subst (λ (value : ℕ). Each (λ later. later.word ≡ store.word → later.value ≡ value) entries) stored
    (loads-read store.word (after_entry flat store) entries legal.1 leave)
  where
    stored : flat_at (after_entry flat store) store.word ≡ store.value
    stored = rw (is, get-put, unsigned_tied, eqb-self) refl
