-- A good history with one entry more, and what a good history says of each of its entries.
use Rattle.std.proofs.Common.{◌≡◌, ℕ, suc, ◌+◌, ◌<◌, ◌≤◌, ◌==◌, Bool, true, false, cond, List, [], ◌∷◌, ◌++◌, length, refl, arith, ap, sym, ◌∙◌, subst, slice_get, Option, Some, None}
use Rattle.std.specs.FinMap as fin
use Rattle.std.proofs.lemmas.Bool.{eq-eqb, eqb-true}
use Rattle.std.proofs.lemmas.List.{append-nil}
use Rattle.std.proofs.lemmas.Option.{slice_get_within}
use Rattle.op_model.specs.declared.operations.Op.{Op}
use Rattle.op_model.specs.declared.operations.Entry.{Entry}
use Rattle.op_model.specs.Flat.{FlatMemory, IsLegalAt, IsLegalFrom, after_entry, after_from}
use Rattle.op_model.specs.Events.Step.{Programs}
use Rattle.op_model.specs.Run.History.{Follows, IsNext, entries_by}
use Rattle.one_history.proofs.Public.{by-append, follows-push}
use Rattle.hist_check.specs.declared.fault.EntryCause.{EntryCause}
use Rattle.hist_check.specs.declared.fault.EntryCause.TheVariants.{Foreign, Order, Differs, Value}
use Rattle.hist_check.specs.Good.{IsGood}
use Rattle.hist_check.specs.Bad.{HasCause, HasPlace, IsFirstBad}

-- ---- lists

by-own : (e : Entry) (ys : List Entry) → entries_by e.node (e ∷ ys) ≡ e ∷ entries_by e.node ys
by-own e ys = rw (eq-eqb e.node e.node refl) refl

pub after-push : (flat : FlatMemory) (xs : List Entry) (e : Entry) → after_from flat (xs ++ e ∷ []) ≡ after_entry (after_from flat xs) e
after-push flat [] e = refl
after-push flat (x ∷ xs) e = after-push (after_entry flat x) xs e

legal-push : (flat : FlatMemory) (xs : List Entry) (e : Entry) → IsLegalFrom flat xs → IsLegalAt (after_from flat xs) e → IsLegalFrom flat (xs ++ e ∷ [])
legal-push flat [] e legal at = (at, tt)
legal-push flat (x ∷ xs) e legal at = (legal.0, legal-push (after_entry flat x) xs e legal.1 at)

legal-at : (flat : FlatMemory) (xs : List Entry) (e : Entry) (ys : List Entry) → IsLegalFrom flat (xs ++ e ∷ ys) → IsLegalAt (after_from flat xs) e
legal-at flat [] e ys legal = legal.0
legal-at flat (x ∷ xs) e ys legal = legal-at (after_entry flat x) xs e ys legal.1

follows-at : (ops : List Op) (index at : ℕ) (xs : List Entry) (e : Entry) (ys : List Entry) → at ≡ index + length xs → Follows ops index (xs ++ e ∷ ys) → IsNext at (slice_get ops at) e
follows-at ops index at [] e ys is f = let same : index ≡ at = omega arith in subst (λ k. IsNext k (slice_get ops k) e) same f.0
follows-at ops index at (x ∷ xs) e ys is f = follows-at ops (suc index) at xs e ys (omega arith) f.1

next-known : (ops : List Op) (at : ℕ) (e : Entry) (op : Option Op) → slice_get ops at ≡ op → IsNext at op e → at < length ops
next-known ops at e None is next = absurd next
next-known ops at e (Some op) is next = slice_get_within ops at op is

pub follows-short : (ops : List Op) (index : ℕ) (xs : List Entry) → index ≤ length ops → Follows ops index xs → index + length xs ≤ length ops
follows-short ops index [] le f = omega arith
follows-short ops index (x ∷ xs) le f =
    let lt : index < length ops = next-known ops index x _ refl f.0 in
    let h = follows-short ops (suc index) xs (omega arith) f.1 in
    omega arith

-- ---- good histories

pub good-none : (programs : Programs) → IsGood programs []
good-none programs = record { legal = tt; order = λ node. tt }

pub good-more : (programs : Programs) (before : List Entry) (e : Entry) → IsGood programs before → HasPlace (programs e.node) (length (entries_by e.node before)) e → IsLegalAt (after_from fin.empty before) e → IsGood programs (before ++ e ∷ [])
good-more programs before e good place at = record { legal = legal-push fin.empty before e good.legal at; order = order }
  where
    own : (node : ℕ) (b : Bool) → (e.node == node) ≡ b → Follows (programs node) 0 (entries_by node before ++ cond b (e ∷ []) [])
    own node false is = subst (λ (xs : List Entry). Follows (programs node) 0 xs) (sym (append-nil (entries_by node before))) (good.order node)
    own node true is =
        let same : e.node ≡ node = eqb-true e.node node is in
        let next : e.index ≡ length (entries_by node before) = subst (λ n. e.index ≡ length (entries_by n before)) same place.next in
        follows-push (programs node) 0 e.index (entries_by node before) e (omega arith) (good.order node) (subst (λ n. IsNext e.index (slice_get (programs n) e.index) e) same place.own)

    order : (node : ℕ) → Follows (programs node) 0 (entries_by node (before ++ e ∷ []))
    order node = subst (λ (xs : List Entry). Follows (programs node) 0 xs) (sym (by-append node before (e ∷ []))) (own node (e.node == node) refl)

-- an entry of a good history has its place, and is legal
good-place : (programs : Programs) (before : List Entry) (e : Entry) (after : List Entry) → IsGood programs (before ++ e ∷ after) → HasPlace (programs e.node) (length (entries_by e.node before)) e
good-place programs before e after good = record { known = known; next = next; own = own }
  where
    at : ℕ
    at = length (entries_by e.node before)

    is : entries_by e.node (before ++ e ∷ after) ≡ entries_by e.node before ++ e ∷ entries_by e.node after
    is = by-append e.node before (e ∷ after) ∙ ap (λ (xs : List Entry). entries_by e.node before ++ xs) (by-own e after)

    here : IsNext at (slice_get (programs e.node) at) e
    here = follows-at (programs e.node) 0 at (entries_by e.node before) e (entries_by e.node after) (omega arith) (subst (λ (xs : List Entry). Follows (programs e.node) 0 xs) is (good.order e.node))

    index : (op : Option Op) → IsNext at op e → e.index ≡ at
    index None n = absurd n
    index (Some op) n = n.0

    next : e.index ≡ at
    next = index (slice_get (programs e.node) at) here

    own : IsNext e.index (slice_get (programs e.node) e.index) e
    own = subst (λ k. IsNext k (slice_get (programs e.node) k) e) (sym next) here

    known : e.index < length (programs e.node)
    known = next-known (programs e.node) e.index e _ refl own

no-cause : (programs : Programs) (before : List Entry) (e : Entry) (cause : EntryCause) → HasPlace (programs e.node) (length (entries_by e.node before)) e → IsLegalAt (after_from fin.empty before) e → HasCause programs before e cause → ⊥
no-cause programs before e Foreign place at bad = bad place.known
no-cause programs before e Order place at bad = bad.1 place.next
no-cause programs before e Differs place at bad = bad.1.1 place.own
no-cause programs before e Value place at bad = bad.1 at

pub not-good : (programs : Programs) (entries : List Entry) (number : ℕ) (cause : EntryCause) → IsFirstBad programs entries number cause → IsGood programs entries → ⊥
not-good programs entries number cause first good =
    let whole = subst (IsGood programs) first.whole good in
    no-cause programs first.before first.entry cause (good-place programs first.before first.entry first.after whole) (legal-at fin.empty first.before first.entry first.after whole.legal) first.bad
