-- Two journals of the same logs have the same event at each place, and so they are one list.
use Rattle.std.proofs.Common.{◌≡◌, ℕ, suc, ◌<◌, Bool, true, false, cond, ◌==◌, nat_lt, List, [], ◌∷◌, length, slice_get, refl, sym, ap, ◌∙◌, subst, arith, Option, Some, None}
use Rattle.std.proofs.lemmas.Bool.Decides.{nat_tests}
use Rattle.std.proofs.lemmas.List.Elements.{All-contains_itself, All-head, All-tail}
use Rattle.std.specs.List.{All, Contains}
use Rattle.op_model.specs.declared.events.Event.{Event}
use Rattle.op_model.specs.declared.events.Numbered.{Numbered}
use Rattle.op_model.specs.Events.Step.{put_at}
use Rattle.op_model.specs.Parts.Journal.{Agrees, IsJournal, IsJournalOf, drawn}
use Rattle.op_model.specs.Parts.Part.{Part}
use Rattle.op_model.proofs.Public.{total-alike}
use Rattle.one_journal.specs.SameLogs.{AreAmong, AreListed, IsMerged}
use Rattle.one_journal.proofs.Drawn.{Each, of-sum, of-total, stands}

-- two lists with the same elements at the places of each of them
same-list : {A : Type 0} (xs ys : List A) → ((i : ℕ) → i < length xs → slice_get xs i ≡ slice_get ys i) → ((i : ℕ) → i < length ys → slice_get xs i ≡ slice_get ys i) → xs ≡ ys
same-list [] [] a b = refl
same-list {A = A} [] (y ∷ ys) a b = absurd (let n : ◌≡◌ {A = Option A} None (Some y) = b 0 (omega arith) in cc)
same-list {A = A} (x ∷ xs) [] a b = absurd (let n : ◌≡◌ {A = Option A} (Some x) None = a 0 (omega arith) in cc)
same-list {A = A} (x ∷ xs) (y ∷ ys) a b =
    let first : ◌≡◌ {A = Option A} (Some x) (Some y) = a 0 (omega arith) in
    let same : x ≡ y = cc in
    let rest = same-list xs ys (λ i lt. a (suc i) (omega arith)) (λ i lt. b (suc i) (omega arith)) in
    λ k. same k ∷ rest k

-- each place of a journal was drawn in one of the logs, and each of these agrees with it
record IsOf (Is : List Numbered → Type 0) (journal : List Event) : Type 0 where
  pub drawn_in : (ticket : ℕ) → ticket < length journal → (log : List Numbered) × Is log × (0 < drawn ticket log)
  pub agrees : (log : List Numbered) → Is log → Agrees journal log

one-of : (Is Was : List Numbered → Type 0) (journal other : List Event) → ((log : List Numbered) → Is log → Was log) → ((log : List Numbered) → Was log → Is log) → IsOf Is journal → IsOf Was other → journal ≡ other
one-of Is Was journal other there back is was =
    same-list journal other
    (λ t lt. let d = is.drawn_in t lt in let s = stands t d.0 d.2 in s.1 journal (is.agrees d.0 d.1) ∙ sym (s.1 other (was.agrees d.0 (there d.0 d.1))))
    (λ t lt. let d = was.drawn_in t lt in let s = stands t d.0 d.2 in s.1 journal (is.agrees d.0 (back d.0 d.1)) ∙ sym (s.1 other (was.agrees d.0 d.1)))

some-drawn : (n ticket : ℕ) (journal : List Event) → n ≡ cond {A = ℕ} (nat_lt ticket (length journal)) 1 0 → ticket < length journal → 0 < n
some-drawn n ticket journal e lt = grind (arith, nat_tests)

-- the logs of nodes
abbrev Of : ℕ → (ℕ → List Numbered) → List Numbered → Type 0
Of nodes logs log = (i : ℕ) × (i < nodes) × (logs i ≡ log)

by-node : (nodes : ℕ) (logs : ℕ → List Numbered) (journal : List Event) → IsJournalOf nodes logs journal → IsOf (Of nodes logs) journal
by-node nodes logs journal is =
    record {
      drawn_in = λ t lt. let d = of-total (λ i. drawn t (logs i)) nodes (some-drawn _ t journal (is.once t) lt) in (logs d.0, (d.0, d.1, refl), d.2);
      agrees = λ log of. subst (Agrees journal) of.2 (is.agrees of.0 of.1);
    }

pub moved_is : (nodes others : ℕ) (logs rest : ℕ → List Numbered) (journal other : List Event) → AreAmong nodes logs others rest → AreAmong others rest nodes logs → IsJournalOf nodes logs journal → IsJournalOf others rest other → journal ≡ other
moved_is nodes others logs rest journal other there back is was =
    one-of (Of nodes logs) (Of others rest) journal other
    (λ log of. let k = there of.0 of.1 in (k.0, k.1, k.2 ∙ of.2)) (λ log of. let k = back of.0 of.1 in (k.0, k.1, k.2 ∙ of.2))
    (by-node nodes logs journal is) (by-node others rest other was)

pub one_is : (nodes : ℕ) (logs : ℕ → List Numbered) (journal other : List Event) → IsJournalOf nodes logs journal → IsJournalOf nodes logs other → journal ≡ other
one_is nodes logs journal other is was = moved_is nodes nodes logs logs journal other (λ i lt. (i, lt, refl)) (λ i lt. (i, lt, refl)) is was

each-of : {X : Type 0} (P : X → Type 0) (xs : List X) → All P xs → Each P xs
each-of P [] all = tt
each-of P (x ∷ xs) all = (All-head P x xs all, each-of P xs (All-tail P x xs all))

-- the logs of a list
by-list : (list : List (List Numbered)) (journal : List Event) → IsMerged list journal → IsOf (Contains list) journal
by-list list journal is =
    record {
      drawn_in = λ t lt. of-sum (Contains list) (drawn t) list (each-of (Contains list) list (All-contains_itself list)) (some-drawn _ t journal (is.once t) lt);
      agrees = λ log in_it. subst (Agrees journal) in_it.2 (is.agrees in_it.0 log in_it.1);
    }

pub merged_is : (nodes : ℕ) (logs : ℕ → List Numbered) (list : List (List Numbered)) (journal other : List Event) → AreListed nodes logs list → IsJournalOf nodes logs journal → IsMerged list other → journal ≡ other
merged_is nodes logs list journal other listed is was =
    one-of (Of nodes logs) (Contains list) journal other
    (λ log of. subst (Contains list) of.2 (listed.every of.0 of.1)) (λ log in_it. let k = listed.each in_it.0 log in_it.1 in (k.0, k.1, k.2 ∙ in_it.2))
    (by-node nodes logs journal is) (by-list list other was)

-- there is only one list that logs are merged into
pub only_is : (list : List (List Numbered)) (journal other : List Event) → IsMerged list journal → IsMerged list other → journal ≡ other
only_is list journal other is was = one-of (Contains list) (Contains list) journal other (λ log in_it. in_it) (λ log in_it. in_it) (by-list list journal is) (by-list list other was)

pub same_logs : (nodes : ℕ) (logs rest : ℕ → List Numbered) (journal : List Event) → ((node : ℕ) → node < nodes → rest node ≡ logs node) → IsJournalOf nodes logs journal → IsJournalOf nodes rest journal
same_logs nodes logs rest journal same is =
    record {
      once = λ t. total-alike (λ i. drawn t (logs i)) (λ i. drawn t (rest i)) nodes (λ i lt. ap (drawn t) (same i lt)) ∙ is.once t;
      agrees = λ i lt. subst (Agrees journal) (sym (same i lt)) (is.agrees i lt);
    }

pub quiet_part : (nodes : ℕ) (parts : ℕ → Part) (node : ℕ) (part : Part) (journal : List Event) → part.log ≡ (parts node).log → IsJournal nodes parts journal → IsJournal nodes (put_at parts node part) journal
quiet_part nodes parts node part journal kept is =
    same_logs nodes (λ i. (parts i).log) (λ i. (put_at parts node part i).log) journal (λ i lt. go i (i == node) refl) is
  where
    go : (i : ℕ) (c : Bool) → (i == node) ≡ c → (cond c part (parts i)).log ≡ (parts i).log
    go i true e = let same : node ≡ i = grind (arith, nat_tests) in kept ∙ ap (λ k. (parts k).log) same
    go i false e = refl
