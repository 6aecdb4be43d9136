-- The numbers of all counts of a run: what one moment more adds to them, and that none is above the number of moments.
use Rattle.std.proofs.Common.{◌≡◌, ℕ, zero, suc, ◌+◌, ◌≤◌, Bool, cond, List, [], ◌∷◌, ◌++◌, length, map, get_or, replicate, refl, ap, arith, sym, ◌∙◌, Some}
use Rattle.std.specs.Prelude.{slice_get, slice_index, count_by}
use Rattle.std.proofs.lemmas.List.Sums.{count_by-le-length, sum_by-append}
use Rattle.line_map.specs.Sizes.{Sizes}
use Rattle.op_model.specs.declared.messages.Msg.{Msg}
use Rattle.op_model.specs.Run.Counts.{Moment, Count, all_counts, counted}
use Rattle.event_tally.specs.Marks.{naks_in, marks_of, marked_up}
use Rattle.event_tally.specs.Tallies.{tally_of, TellsMarks}

-- one moment more, for each of a list of counts
counted-push : (ms : List Moment) (m : Moment) (counts : List Count) → map (counted (ms ++ m ∷ [])) counts ≡ marked_up (map (counted ms) counts) (map (λ c. c.counts m) counts)
counted-push ms m [] = refl
counted-push ms m (c ∷ counts) = λ i. one i ∷ counted-push ms m counts i
  where
    one : count_by c.counts (ms ++ m ∷ []) ≡ count_by c.counts ms + cond (c.counts m) 1 0
    one = sum_by-append (λ y. cond (c.counts y) 1 0) ms (m ∷ []) ∙ ap (λ n. count_by c.counts ms + n) (let e : 0 + cond (c.counts m) 1 0 ≡ cond (c.counts m) 1 0 = omega arith in e)

module _ (sizes : Sizes) (m : Moment) (takes : List Bool) (done : Bool) (sends : List (ℕ × Msg)) (marked : Bool) (tells : TellsMarks sizes m takes done sends marked) where
  -- a count counts a moment where the moment is marked for it
  pub marks_of-told : marks_of m.event takes done (naks_in sends) marked ≡ map (λ c. c.counts m) (all_counts sizes)
  marks_of-told = λ i. marks_of m.event (tells.takes_is i) (tells.done_is i) (naks_in (tells.sends_are i)) (tells.marked_is i)

  -- one moment more marks the numbers up
  pub tally_of-push : (ms : List Moment) → tally_of sizes (ms ++ m ∷ []) ≡ marked_up (tally_of sizes ms) (marks_of m.event takes done (naks_in sends) marked)
  tally_of-push ms = counted-push ms m (all_counts sizes) ∙ (λ i. marked_up (tally_of sizes ms) (sym marks_of-told i))

-- no moment is counted at the start
pub tally_of-nil : (sizes : Sizes) → tally_of sizes [] ≡ replicate 27 0
tally_of-nil sizes = refl

-- a number of a list of numbers, none of which is above this one
mapped-below : {A : Type 0} (f : A → ℕ) (xs : List A) (n i : ℕ) → ((x : A) → f x ≤ n) → slice_index (map f xs) i ≤ n
mapped-below f [] n i each = omega arith
mapped-below f (x ∷ xs) n zero each = each x
mapped-below f (x ∷ xs) n (suc i) each = mapped-below f xs n i each

-- no number is above that of the moments
pub tally_of-few : (sizes : Sizes) (ms : List Moment) (i : ℕ) → slice_index (tally_of sizes ms) i ≤ length ms
tally_of-few sizes ms i = mapped-below (counted ms) (all_counts sizes) (length ms) i (λ c. count_by-le-length c.counts ms)

-- the number at a place of a list of them
mapped-at : {A : Type 0} (f : A → ℕ) (xs : List A) (i : ℕ) (x : A) → slice_get xs i ≡ Some x → get_or (map f xs) i 0 ≡ f x
mapped-at f [] i x is = cc
mapped-at f (y ∷ xs) zero x is = ap f (let same : y ≡ x = cc in same)
mapped-at f (y ∷ xs) (suc i) x is = mapped-at f xs i x is

-- each count has its number at its place
pub tally_of-at : (sizes : Sizes) (ms : List Moment) (i : ℕ) (c : Count) → slice_get (all_counts sizes) i ≡ Some c → get_or (tally_of sizes ms) i 0 ≡ counted ms c
tally_of-at sizes ms i c = mapped-at (counted ms) (all_counts sizes) i c
