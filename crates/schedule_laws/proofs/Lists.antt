-- Lists: where an index is at the end, the first element that passes a test, and the places of what a filter keeps. Each by induction over the
-- list.
use Rattle.std.proofs.Common.{◌≡◌, ℕ, zero, suc, ◌+◌, ◌<◌, ◌≤◌, Bool, true, false, cond, List, [], ◌∷◌, ◌++◌, length, take, refl, ap, arith, ◌∙◌, Option, Some, None}
use Rattle.std.specs.Prelude.{slice_get, find, filter, count_by}
use Rattle.std.proofs.lemmas.List.Sums.{sum_by-cons, sum_by-append}
pub use Rattle.op_model.proofs.Public.{take-next}

-- an index with nothing there, no more than the length, is the length
pub at-end : {A : Type 0} (xs : List A) (i : ℕ) → slice_get xs i ≡ None → i ≤ length xs → i ≡ length xs
at-end [] i none within = omega arith
at-end {A = A} (x ∷ xs) zero none within = absurd (let n : ◌≡◌ {A = Option A} (Some x) None = none in cc)
at-end (x ∷ xs) (suc i) none within = let rest = at-end xs i none (omega arith) in omega arith

-- where no element passes
pub find-none_of : {A : Type 0} (p : A → Bool) (xs : List A) → ((k : ℕ) (x : A) → slice_get xs k ≡ Some x → p x ≡ false) → find p xs ≡ None
find-none_of p [] fails = refl
find-none_of p (x ∷ xs) fails = ap (λ b. cond b (Some x) (find p xs)) (fails 0 x refl) ∙ find-none_of p xs (λ k. fails (suc k))

pub find-first : {A : Type 0} (p : A → Bool) (xs : List A) (j : ℕ) (x : A) → ((k : ℕ) (y : A) → k < j → slice_get xs k ≡ Some y → p y ≡ false) → slice_get xs j ≡ Some x → p x ≡ true → find p xs ≡ Some x
find-first p [] j x before is passes = cc
find-first p (y ∷ xs) zero x before is passes = let e : y ≡ x = cc in ap (λ b. cond b (Some y) (find p xs)) (ap p e ∙ passes) ∙ ap Some e
find-first p (y ∷ xs) (suc j) x before is passes =
    ap (λ b. cond b (Some y) (find p xs)) (before 0 y (omega arith) refl) ∙ find-first p xs j x (λ k z below. before (suc k) z (omega arith)) is passes

count_by-cons : {A : Type 0} (p : A → Bool) (x : A) (xs : List A) → count_by p (x ∷ xs) ≡ cond (p x) 1 0 + count_by p xs
count_by-cons p x xs = sum_by-cons (λ y. cond (p y) 1 0) x xs

pub count_by-push : {A : Type 0} (p : A → Bool) (xs : List A) (x : A) → count_by p (xs ++ x ∷ []) ≡ count_by p xs + cond (p x) 1 0
count_by-push p xs x = sum_by-append (λ y. cond (p y) 1 0) xs (x ∷ []) ∙ ap (λ n. count_by p xs + n) (let e : 0 + cond (p x) 1 0 ≡ cond (p x) 1 0 = omega arith in e)

-- an element that a filter keeps stands there behind those before it that it keeps
pub slice_get-filter : {A : Type 0} (p : A → Bool) (xs : List A) (j : ℕ) (x : A) → slice_get xs j ≡ Some x → p x ≡ true → slice_get (filter p xs) (count_by p (take j xs)) ≡ Some x
slice_get-filter p [] j x is passes = cc
slice_get-filter p (y ∷ xs) zero x is passes = let e : y ≡ x = cc in ap (λ b. slice_get (cond b (y ∷ filter p xs) (filter p xs)) 0) (ap p e ∙ passes) ∙ ap Some e
slice_get-filter p (y ∷ xs) (suc j) x is passes = ap (λ n. slice_get (filter p (y ∷ xs)) n) (count_by-cons p y (take j xs)) ∙ go (p y) (slice_get-filter p xs j x is passes)
  where
    go : (b : Bool) → slice_get (filter p xs) (count_by p (take j xs)) ≡ Some x → slice_get (cond b (y ∷ filter p xs) (filter p xs)) (cond b 1 0 + count_by p (take j xs)) ≡ Some x
    go true rest = ap (λ n. slice_get (y ∷ filter p xs) n) (let e : 1 + count_by p (take j xs) ≡ suc (count_by p (take j xs)) = omega arith in e) ∙ rest
    go false rest = ap (λ n. slice_get (filter p xs) n) (let e : 0 + count_by p (take j xs) ≡ count_by p (take j xs) = omega arith in e) ∙ rest

-- so it stands there before what comes later
pub count_by-take_lt : {A : Type 0} (p : A → Bool) (xs : List A) (k j : ℕ) (x : A) → k < j → slice_get xs k ≡ Some x → p x ≡ true → count_by p (take k xs) < count_by p (take j xs)
count_by-take_lt p [] k j x below is passes = cc
count_by-take_lt p (y ∷ xs) k zero x below is passes = absurd (omega arith)
count_by-take_lt p (y ∷ xs) zero (suc j) x below is passes =
    let e : p y ≡ true = ap p (let same : y ≡ x = cc in same) ∙ passes in
    let one : ◌≡◌ {A = ℕ} (cond (p y) 1 0) 1 = ap (λ b. cond b 1 0) e in
    omega (arith, one, count_by-cons p y (take j xs))
count_by-take_lt p (y ∷ xs) (suc k) (suc j) x below is passes =
    omega (arith, count_by-take_lt p xs k j x (omega arith) is passes, count_by-cons p y (take k xs), count_by-cons p y (take j xs))
