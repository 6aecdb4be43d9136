-- Plain facts that several crates use: on Booleans, tests of numbers, lists, options and results, and sums below a bound.
use Rattle.std.proofs.Common.{◌≡◌, ℕ, zero, suc, ◌+◌, ◌<◌, Bool, true, false, cond, nat_lt, ◌==◌, ◌&&◌, not, List, [], ◌∷◌, ◌++◌, map, length, replicate, take, slice_get, is_some, unwrap_or, filter, Option, Some, None, Result, Ok, Err, refl, sym, ap, ◌∙◌, arith}
use Rattle.std.specs.List.{find, range_with_len}
use Rattle.std.proofs.lemmas.Bool.Decides.{nat_tests}
use Rattle.std.proofs.lemmas.List.{map-id, take_more}
use Rattle.std.proofs.lemmas.List.FromFn.{map-range_with_len_more}
use Rattle.std.proofs.lemmas.Option.{get_or_from_slice_get, slice_get_within}
use Rattle.op_model.specs.Run.Weight.{total}

-- ---- Booleans

-- what a test of three passes says of each
pub three_parts : (a b c : Bool) → (a && b && c) ≡ true → (a ≡ true) × (b ≡ true) × (c ≡ true)
three_parts a b c e = (grind arith, grind arith, grind arith)

-- what a test of three passes says of the last two
pub last_two_parts : (a b c : Bool) → (a && b && c) ≡ true → (b ≡ true) × (c ≡ true)
last_two_parts a b c e = (grind arith, grind arith)

-- what a test of three, the last one turned, says of each
pub parts_but_last : (a b c : Bool) → (a && b && not c) ≡ true → (a ≡ true) × (b ≡ true) × (c ≡ false)
parts_but_last a b c e = (grind arith, grind arith, grind arith)

-- of four, of which the second alone isn't turned, the last is false
pub last_of_four : (a b c d : Bool) → (not a && b && not c && not d) ≡ true → d ≡ false
last_of_four a b c d e = grind arith

-- of four, of which the second alone isn't turned, the second isn't false
pub second_of_four : (a b c d : Bool) → (not a && b && not c && not d) ≡ true → b ≡ false → ⊥
second_of_four a b c d e f = grind arith

-- where two aren't both so and the first is, the other isn't
pub other_fails : (a b : Bool) → (a && b) ≡ false → a ≡ true → b ≡ false
other_fails a b e f = grind arith

-- a test that can't pass is false
pub never_passes : (test : Bool) → (test ≡ true → ⊥) → test ≡ false
never_passes true never = absurd (never refl)
never_passes false never = refl

-- ---- tests of numbers

-- a number is the same as itself
pub eqb-self : (n : ℕ) → (n == n) ≡ true
eqb-self n = grind (arith, nat_tests)

-- two numbers are the same whichever is named first
pub eqb-swap : (n m : ℕ) → (n == m) ≡ (m == n)
eqb-swap n m = grind (arith, nat_tests)

-- a number that is neither 0 nor 1 is above 1
pub above_one : (a : Bool) (n : ℕ) → (a && not (n == 0) && not (n == 1)) ≡ true → 1 < n
above_one a n e = grind (arith, nat_tests)

-- what a test of something and of a number above 1 says of each
pub and_above_one : (a : Bool) (n : ℕ) → (a && nat_lt 1 n) ≡ true → (a ≡ true) × (1 < n)
and_above_one a n e = (grind (arith, nat_tests), grind (arith, nat_tests))

-- ---- lists

-- one thing so many times, each mapped
pub map-replicate : {A B : Type 0} (f : A → B) (n : ℕ) (a : A) → map f (replicate n a) ≡ replicate n (f a)
map-replicate f zero a = refl
map-replicate f (suc n) a = ap (λ rest. f a ∷ rest) (map-replicate f n a)

-- the numbers below a bound, and one more
pub range-more : (n : ℕ) → range_with_len 0 (n + 1) ≡ range_with_len 0 n ++ n ∷ []
range-more n =
    sym (map-id (range_with_len 0 (n + 1))) ∙ map-range_with_len_more (λ x. x) 0 n n (omega arith) ∙ ap (λ (xs : List ℕ). xs ++ n ∷ []) (map-id (range_with_len 0 n))

-- the first elements of a list, and the next one
pub take-next : {A : Type 0} (xs : List A) (i : ℕ) (x : A) → slice_get xs i ≡ Some x → take (i + 1) xs ≡ take i xs ++ x ∷ []
take-next xs i x is = take_more xs i x (slice_get_within xs i x is) ∙ ap (λ y. take i xs ++ y ∷ []) (get_or_from_slice_get xs i x x is)

-- the element behind these
pub slice_get-middle : {A : Type 0} (xs : List A) (y : A) (ys : List A) → slice_get (xs ++ y ∷ ys) (length xs) ≡ Some y
slice_get-middle [] y ys = refl
slice_get-middle (x ∷ xs) y ys = slice_get-middle xs y ys

-- what is found passes the test
pub find-passes : {A : Type 0} (p : A → Bool) (xs : List A) (x : A) → find p xs ≡ Some x → p x ≡ true
find-passes p [] x is = cc
find-passes p (y ∷ ys) x is = by (p y) refl is (find-passes p ys x)
  where
    by : (b : Bool) → p y ≡ b → cond b (Some y) (find p ys) ≡ Some x → (find p ys ≡ Some x → p x ≡ true) → p x ≡ true
    by true e here later = let same : y ≡ x = cc in sym (ap p same) ∙ e
    by false e here later = later here

-- what is kept passes the test
pub filter-passes : {A : Type 0} (p : A → Bool) (xs : List A) (i : ℕ) (x : A) → slice_get (filter p xs) i ≡ Some x → p x ≡ true
filter-passes p [] i x is = cc
filter-passes p (y ∷ ys) i x is = by (p y) refl i is (λ k. filter-passes p ys k x)
  where
    by : (b : Bool) → p y ≡ b → (k : ℕ) → slice_get (cond b (y ∷ filter p ys) (filter p ys)) k ≡ Some x → ((j : ℕ) → slice_get (filter p ys) j ≡ Some x → p x ≡ true) → p x ≡ true
    by true e zero here later = let same : y ≡ x = cc in sym (ap p same) ∙ e
    by true e (suc k) here later = later k here
    by false e k here later = later k here

-- ---- options and results

-- something that is there is what stands in its place where it isn't asked for
pub some_held : {A : Type 0} (o : Option A) (other : A) → is_some o ≡ true → o ≡ Some (unwrap_or o other)
some_held None other e = cc
some_held (Some x) other e = refl

-- an error is no value
pub err-ok : {A E : Type 0} (c : E) (x : A) → ◌≡◌ {A = Result A E} (Err c) (Ok x) → ⊥
err-ok c x e = cc

-- ---- sums of a function of the numbers below a bound

-- a sum of nothing
pub total-zero : (n : ℕ) → total (λ i. 0) n ≡ 0
unfolding total
total-zero zero = refl
total-zero (suc n) = let ih = total-zero n in omega arith

-- a sum of two terms each
pub total-add : (f g : ℕ → ℕ) (n : ℕ) → total (λ i. f i + g i) n ≡ total f n + total g n
unfolding total
total-add f g zero = refl
total-add f g (suc n) = let ih = total-add f g n in omega arith

-- a sum of the same terms below the bound
pub total-alike : (f g : ℕ → ℕ) (n : ℕ) → ((i : ℕ) → i < n → g i ≡ f i) → total g n ≡ total f n
unfolding total
total-alike f g zero same = refl
total-alike f g (suc n) same = let rest = total-alike f g n (λ i less. same i (omega arith)) in let last = same n (omega arith) in omega arith
