-- The entry of one operation. At rest a node has as many entries as its place says; so where one node has gone on by one and no other has, one
-- entry was added, of that node, and it is that of the operation at the place.
use Rattle.std.proofs.Common.{◌≡◌, ◌≢◌, ℕ, suc, ◌+◌, ◌<◌, ◌≤◌, Bool, true, false, cond, ◌==◌, List, [], ◌∷◌, ◌++◌, length, refl, ap, arith, ◌∙◌, subst, Option, Some}
use Rattle.std.specs.Prelude.{slice_get}
use Rattle.std.proofs.lemmas.Bool.{lt-ltb}
use Rattle.std.proofs.lemmas.Bool.Decides.{nat_tests}
use Rattle.op_model.specs.declared.operations.Entry.{Entry}
use Rattle.op_model.specs.declared.operations.Op.{Op}
use Rattle.op_model.specs.Run.History.{AreEntriesOf, Follows, IsEntryOf, IsNext, entries_by, is_completed, kept_of}
use Rattle.op_model.specs.Shares.{State}

-- one entry, and it is of this node
pub record IsOne (node : ℕ) (entries : List Entry) : Type 0 where
  pub entry : Entry
  pub same : entries ≡ entry ∷ []
  pub at : entry.node ≡ node

-- entries of which one is of a node and none of another are one
module _ (node : ℕ) where
  by-cons : (e : Entry) (entries : List Entry) → e.node ≡ node → length (entries_by node (e ∷ entries)) ≡ suc (length (entries_by node entries))
  by-cons e entries at = let is : (e.node == node) ≡ true = grind (arith, nat_tests) in ap (λ c. length (cond c (e ∷ entries_by node entries) (entries_by node entries))) is

  longer : (n : ℕ) (e : Entry) (entries : List Entry) → length (entries_by n entries) ≤ length (entries_by n (e ∷ entries))
  longer n e entries = go (e.node == n)
    where
      go : (c : Bool) → length (entries_by n entries) ≤ length (cond c (e ∷ entries_by n entries) (entries_by n entries))
      go true = omega arith
      go false = omega arith

  own-some : (e : Entry) (entries : List Entry) → 0 < length (entries_by e.node (e ∷ entries))
  own-some e entries = let is : (e.node == e.node) ≡ true = grind (arith, nat_tests) in let one = ap (λ c. length (cond c (e ∷ entries_by e.node entries) (entries_by e.node entries))) is in omega arith

  its-node : (e : Entry) (entries : List Entry) → ((n : ℕ) → n ≢ node → length (entries_by n (e ∷ entries)) ≡ 0) → e.node ≡ node
  its-node e entries none = go (e.node == node) refl
    where
      go : (c : Bool) → (e.node == node) ≡ c → e.node ≡ node
      go true is = grind (arith, nat_tests)
      go false is =
          let other : e.node ≢ node = grind (arith, nat_tests) in
          let no = none e.node other in
          let some = own-some e entries in
          absurd (omega arith)

  pub one-entry : (entries : List Entry) → length (entries_by node entries) ≡ 1 → ((n : ℕ) → n ≢ node → length (entries_by n entries) ≡ 0) → IsOne node entries
  one-entry [] one none = absurd (omega arith)
  one-entry (e ∷ []) one none = record { entry = e; same = refl; at = its-node e [] none }
  one-entry (e ∷ f ∷ entries) one none =
      let mine = its-node e (f ∷ entries) none in
      let also = its-node f entries (λ n other. let no = none n other in let more = longer n e (f ∷ entries) in omega arith) in
      let first = by-cons e (f ∷ entries) mine in
      let second = by-cons f entries also in
      absurd (omega arith)

-- the last of the entries that follow a program
pub last-follows : (ops : List Op) (index : ℕ) (entries : List Entry) (e : Entry) → Follows ops index (entries ++ e ∷ []) → (at : ℕ) → at ≡ index + length entries → IsNext at (slice_get ops at) e
last-follows ops index [] e follows at is = let same : index ≡ at = omega arith in subst (λ k. IsNext k (slice_get ops k) e) same follows.0
last-follows ops index (x ∷ entries) e follows at is = last-follows ops (suc index) entries e follows.1 at (omega arith)

pub entry-at : (index : ℕ) (o : Option Op) (op : Op) (e : Entry) → o ≡ Some op → IsNext index o e → IsEntryOf index op e
entry-at index o op e is next = subst (λ p. IsNext index p e) is next

pub entries-push : (ops : List Op) (entries : List Entry) (op : Op) (entry : Entry) → AreEntriesOf ops entries → entry.node ≡ op.node → IsEntryOf op.index op entry → AreEntriesOf (ops ++ op ∷ []) (entries ++ entry ∷ [])
entries-push [] [] op entry all node is = (node, is, tt)
entries-push [] (e ∷ entries) op entry all node is = absurd all
entries-push (o ∷ ops) [] op entry all node is = absurd all
entries-push (o ∷ ops) (e ∷ entries) op entry all node is = (all.0, all.1, entries-push ops entries op entry all.2 node is)

-- where each operation is completed, all of their entries are the history
pub all-kept : (state : State) (ops : List Op) (entries : List Entry) → AreEntriesOf ops entries → ((k : ℕ) (op : Op) → slice_get ops k ≡ Some op → op.index < (state.share op.node).place) → kept_of state entries ≡ entries
all-kept state [] [] all below = refl
all-kept state [] (e ∷ entries) all below = absurd all
all-kept state (o ∷ ops) [] all below = absurd all
all-kept state (o ∷ ops) (e ∷ entries) all below =
    let less = below 0 o refl in
    let index : e.index ≡ o.index = all.1.0 in
    let place : (state.share e.node).place ≡ (state.share o.node).place = ap (λ n. (state.share n).place) all.0 in
    let is : is_completed state e ≡ true = lt-ltb e.index (state.share e.node).place (omega arith) in
    ap (λ c. cond c (e ∷ kept_of state entries) (kept_of state entries)) is ∙ ap (λ es. e ∷ es) (all-kept state ops entries all.2 (λ k. below (suc k)))
