-- Where the elements that a filter keeps stand in the whole list. By induction over the list: an element that is kept counts for those behind it.
use Rattle.std.proofs.Common.{◌≡◌, ℕ, zero, suc, ◌+◌, Bool, true, false, cond, List, [], ◌∷◌, take, refl, sym, ap, ◌∙◌, arith, Some}
use Rattle.std.specs.Prelude.{filter, slice_get, count_by}
use Rattle.std.proofs.lemmas.List.Sums.{sum_by-cons}

-- an element that a filter keeps, at place i among those, and where it stands in the whole list: behind as many that are kept
pub record IsKeptAt {A : Type 0} (p : A → Bool) (xs : List A) (i : ℕ) (x : A) : Type 0 where
  pub place : ℕ
  pub here : slice_get xs place ≡ Some x
  pub passes : p x ≡ true
  pub before : count_by p (take place xs) ≡ i

count_by-after : {A : Type 0} (p : A → Bool) (x : A) (xs : List A) (b : Bool) → p x ≡ b → count_by p (x ∷ xs) ≡ cond b 1 0 + count_by p xs
count_by-after p x xs b test = sum_by-cons (λ y. cond (p y) 1 0) x xs ∙ ap (λ c. cond c 1 0 + count_by p xs) test

later : {A : Type 0} (p : A → Bool) (y : A) (ys : List A) (b : Bool) → p y ≡ b → (k : ℕ) (x : A) → IsKeptAt p ys k x → IsKeptAt p (y ∷ ys) (cond b 1 0 + k) x
later p y ys b test k x kept =
    record { place = suc kept.place; here = kept.here; passes = kept.passes; before = count_by-after p y (take kept.place ys) b test ∙ ap (λ n. cond b 1 0 + n) kept.before }

pub kept_at : {A : Type 0} (p : A → Bool) (xs : List A) (i : ℕ) (x : A) → slice_get (filter p xs) i ≡ Some x → IsKeptAt p xs i x
kept_at p [] i x at = cc
kept_at {A} p (y ∷ ys) i x at = go (λ k found. kept_at p ys k x found) (p y) refl i at
  where
    first : p y ≡ true → y ≡ x → IsKeptAt p (y ∷ ys) 0 x
    first test same = record { place = 0; here = ap Some same; passes = ap p (sym same) ∙ test; before = refl }

    go : ((k : ℕ) → slice_get (filter p ys) k ≡ Some x → IsKeptAt p ys k x) → (b : Bool) → p y ≡ b → (k : ℕ) → slice_get (cond b (y ∷ filter p ys) (filter p ys)) k ≡ Some x → IsKeptAt p (y ∷ ys) k x
    go rest true test zero found = first test (let same : y ≡ x = cc in same)
    go rest true test (suc k) found = let e : 1 + k ≡ suc k = omega arith in rw e at (later p y ys true test k x (rest k found))
    go rest false test k found = let e : 0 + k ≡ k = omega arith in rw e at (later p y ys false test k x (rest k found))

-- nothing is kept where nothing passes
pub filter-none : {A : Type 0} (p : A → Bool) (xs : List A) → ((i : ℕ) (x : A) → slice_get xs i ≡ Some x → p x ≡ false) → filter p xs ≡ []
filter-none p [] fails = refl
filter-none p (y ∷ ys) fails =
    ap (λ b. cond b (y ∷ filter p ys) (filter p ys)) (fails 0 y refl) ∙ filter-none p ys (λ i x at. fails (suc i) x at)
