-- Completed operations that a stable sort has put in the order of their lines and their ages are the histories of all lines.
use Rattle.std.proofs.Common.{◌≡◌, ℕ, ◌+◌, ◌<◌, Bool, true, false, cond, ◌==◌, ◌&&◌, List, [], ◌∷◌, ◌++◌, length, map, filter, refl, sym, ap, ◌∙◌, arith}
use Rattle.std.specs.List.{All, flat_map, range_with_len}
use Rattle.std.specs.List.Sorted.{IsSortedBy, IsSortedByKey, IsStableBy, IsStableByKey, ties}
use Rattle.std.specs.Ordering.{nat_cmp, ordering_then}
use Rattle.std.specs.declared.cmp.Ordering.{Ordering}
use Rattle.std.proofs.lemmas.List.{get_or-map, length-map}
use Rattle.std.proofs.lemmas.List.Elements.{All-head, All-tail}
use Rattle.std.proofs.Math.Nat.{div-lt_iff_lt-mul}
use Rattle.line_map.specs.Sizes.{Sizes, all_lines, all_words, line_of}
use Rattle.op_model.specs.Run.History.{is_completed}
use Rattle.eager_model.specs.History.{in_age_order}
use Rattle.eager_model.specs.Runs.{AgedEntry, Past}
use Rattle.eager_history.specs.Sound.{Each}
use Rattle.eager_report.specs.declared.aged.AgedEntry.{AgedEntry as Kept}
use Rattle.eager_report.specs.Orders.{as_aged, by_lines}
use Rattle.eager_report.specs.Reports.{all_histories, completed_of}
use Rattle.eager_report.proofs.Lines.{sorted-lines}
use Rattle.eager_report.proofs.Sorted.{is_before}

-- ---- entries as a machine keeps them

abbrev as_kept : AgedEntry → Kept
as_kept aged = record { age = aged.age; entry = aged.entry }

each-kept : (P : AgedEntry → Type 0) (ks : List Kept) → All (λ k. P (as_aged k)) ks → Each P (map as_aged ks)
each-kept P [] all = tt
each-kept P (k ∷ ks) all = (All-head (λ k. P (as_aged k)) k ks all, each-kept P ks (All-tail (λ k. P (as_aged k)) k ks all))

pub filter-kept : (p : AgedEntry → Bool) (ks : List Kept) → filter p (map as_aged ks) ≡ map as_aged (filter (λ k. p (as_aged k)) ks)
filter-kept p [] = refl
filter-kept p (k ∷ ks) = go (p (as_aged k)) (filter-kept p ks)
  where
    go : (b : Bool) → filter p (map as_aged ks) ≡ map as_aged (filter (λ k. p (as_aged k)) ks) →
        cond b (as_aged k ∷ filter p (map as_aged ks)) (filter p (map as_aged ks)) ≡ map as_aged (cond b (k ∷ filter (λ k. p (as_aged k)) ks) (filter (λ k. p (as_aged k)) ks))
    go true rest = ap (λ l. as_aged k ∷ l) rest
    go false rest = rest

-- what is printed of them, one after another
pub printed-kept : (f : AgedEntry → List ℕ) (ks : List Kept) → flat_map (λ k. f (as_aged k)) ks ≡ flat_map f (map as_aged ks)
printed-kept f [] = refl
printed-kept f (k ∷ ks) = ap (λ l. f (as_aged k) ++ l) (printed-kept f ks)

sorted-kept : (lt : AgedEntry → AgedEntry → Bool) (ks : List Kept) → IsSortedBy (λ x y. lt (as_aged x) (as_aged y)) ks → IsSortedBy lt (map as_aged ks)
sorted-kept lt ks up = λ k d low high.
    let long : k + 1 < length ks = omega (arith, high, length-map ks as_aged) in
    let next = get_or-map as_aged ks (k + 1) (as_kept d) d long in
    let here = get_or-map as_aged ks k (as_kept d) d (omega (arith, long)) in
    (λ i. lt (next i) (here i)) ∙ up k (as_kept d) low long

stable-kept : (lt : AgedEntry → AgedEntry → Bool) (old new : List Kept) → IsStableBy (λ x y. lt (as_aged x) (as_aged y)) old new → IsStableBy lt (map as_aged old) (map as_aged new)
stable-kept lt old new stable = λ x. filter-kept (ties lt x) new ∙ ap (map as_aged) (stable (as_kept x)) ∙ sym (filter-kept (ties lt x) old)

-- ---- what a sort by line and age gives

abbrev pub line_and_age : Sizes → Kept → ℕ × ℕ
line_and_age sizes kept = (line_of sizes kept.entry.word, kept.age)

abbrev pub pair_cmp : ℕ × ℕ → ℕ × ℕ → Ordering
pair_cmp a b = ordering_then (nat_cmp a.0 b.0) (nat_cmp a.1 b.1)

pub ordered : (sizes : Sizes) (old new : List Kept) → 0 < sizes.words → All (λ k. k.entry.word < all_words sizes) old → IsSortedByKey (line_and_age sizes) pair_cmp new → IsStableByKey (line_and_age sizes) pair_cmp old new →
    map as_aged new ≡ by_lines sizes (map as_aged old)
ordered sizes old new some within up stable =
    let line : AgedEntry → ℕ = λ aged. line_of sizes aged.entry.word in
    sorted-lines line (map as_aged old) (all_lines sizes) (map as_aged new) (each-kept (λ aged. line_of sizes aged.entry.word < all_lines sizes) old (λ k d lt. (div-lt_iff_lt-mul some).1 (within k d lt)))
    (sorted-kept (is_before line) new up) (stable-kept (is_before line) old new stable)

-- ---- the histories of all lines

filter-twice : (p q : AgedEntry → Bool) (xs : List AgedEntry) → filter q (filter p xs) ≡ filter (λ x. p x && q x) xs
filter-twice p q [] = refl
filter-twice p q (x ∷ xs) = go (p x) (filter-twice p q xs)
  where
    go : (b : Bool) → filter q (filter p xs) ≡ filter (λ x. p x && q x) xs → filter q (cond b (x ∷ filter p xs) (filter p xs)) ≡ cond (b && q x) (x ∷ filter (λ x. p x && q x) xs) (filter (λ x. p x && q x) xs)
    go true rest = ap (λ l. cond (q x) (x ∷ l) l) rest
    go false rest = rest

pub histories-are : (sizes : Sizes) (past : Past) → by_lines sizes (completed_of past) ≡ all_histories sizes past
histories-are sizes past = λ i.
    flat_map (λ line. in_age_order (filter-twice (λ aged. is_completed past.state aged.entry) (λ aged. line_of sizes aged.entry.word == line) past.served i)) (range_with_len 0 (all_lines sizes))
