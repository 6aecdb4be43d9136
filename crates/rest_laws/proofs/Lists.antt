-- What holds of each element of a list, and what a search finds.
-- By induction on the list.
use Rattle.std.proofs.Common.{◌≡◌, ℕ, zero, suc, ◌+◌, ◌<◌, ◌≤◌, Bool, true, false, cond, ◌==◌, List, [], ◌∷◌, ◌++◌, refl, arith, sym, ◌∙◌, subst, Option, Some, None}
use Rattle.std.proofs.lemmas.Bool.Decides.{nat_tests}
use Rattle.std.specs.List.{find, flat_map, range_with_len}

abbrev pub Each : {X : Type 0} → (X → Type 0) → List X → Type 0
Each P [] = Unit {0}
Each P (x ∷ xs) = P x × Each P xs

-- what is found passes, and is an element
pub find-some : {X : Type 0} (test : X → Bool) (P : X → Type 0) (xs : List X) (x : X) → Each P xs → find test xs ≡ Some x → P x × (test x ≡ true)
find-some {X = X} test P [] x all e = absurd (let n : ◌≡◌ {A = Option X} None (Some x) = e in cc)
find-some {X = X} test P (y ∷ ys) x all e = go (test y) refl e (find-some test P ys x all.1)
  where
    go : (c : Bool) → test y ≡ c → ◌≡◌ {A = Option X} (cond c (Some y) (find test ys)) (Some x) → (find test ys ≡ Some x → P x × (test x ≡ true)) → P x × (test x ≡ true)
    go true is e later = let same : y ≡ x = cc in subst (λ z. P z × (test z ≡ true)) same (all.0, is)
    go false is e later = later e

-- where nothing is found, no element passes
pub find-none : {X : Type 0} (test : X → Bool) (xs : List X) → find test xs ≡ None → Each (λ x. test x ≡ false) xs
find-none test [] e = tt
find-none {X = X} test (y ∷ ys) e = go (test y) refl e (find-none test ys)
  where
    go : (c : Bool) → test y ≡ c → ◌≡◌ {A = Option X} (cond c (Some y) (find test ys)) None → (find test ys ≡ None → Each (λ x. test x ≡ false) ys) → (test y ≡ false) × Each (λ x. test x ≡ false) ys
    go true is e later = absurd (let n : ◌≡◌ {A = Option X} (Some y) None = e in cc)
    go false is e later = (is, later e)

-- where an element passes, one is found
pub search : {X : Type 0} (test : X → Bool) (xs : List X) {x : X} → test x ≡ true → (Each (λ y. test y ≡ false) xs → test x ≡ false) → (y : X) × (find test xs ≡ Some y) × (test y ≡ true)
search {X = X} test xs {x} is among = go (find test xs) refl
  where
    all : (ys : List X) → Each (λ y. Unit {0}) ys
    all [] = tt
    all (y ∷ ys) = (tt, all ys)

    go : (o : Option X) → find test xs ≡ o → (y : X) × (find test xs ≡ Some y) × (test y ≡ true)
    go (Some y) e = (y, e, (find-some test (λ z. Unit {0}) xs y (all xs) e).1)
    go None e = absurd (let off = among (find-none test xs e) in let n : true ≡ false = sym is ∙ off in cc)

each-append : {X : Type 0} (P : X → Type 0) (xs ys : List X) → Each P xs → Each P ys → Each P (xs ++ ys)
each-append P [] ys h k = k
each-append P (x ∷ xs) ys h k = (h.0, each-append P xs ys h.1 k)

each-split : {X : Type 0} (P : X → Type 0) (xs ys : List X) → Each P (xs ++ ys) → Each P xs × Each P ys
each-split P [] ys h = (tt, h)
each-split P (x ∷ xs) ys h = let t = each-split P xs ys h.1 in ((h.0, t.0), t.1)

pub each-flat : {X A : Type 0} (P : A → Type 0) (f : X → List A) (xs : List X) → Each (λ x. Each P (f x)) xs → Each P (flat_map f xs)
each-flat P f [] h = tt
each-flat P f (x ∷ xs) h = each-append P (f x) (flat_map f xs) h.0 (each-flat P f xs h.1)

pub flat-each : {X A : Type 0} (P : A → Type 0) (f : X → List A) (xs : List X) → Each P (flat_map f xs) → Each (λ x. Each P (f x)) xs
flat-each P f [] h = tt
flat-each P f (x ∷ xs) h = let t = each-split P (f x) (flat_map f xs) h in (t.0, flat-each P f xs t.1)

pub each-range : (P : ℕ → Type 0) (a n : ℕ) → ((i : ℕ) → a ≤ i → i < a + n → P i) → Each P (range_with_len a n)
each-range P a zero h = tt
each-range P a (suc n) h = (h a (omega arith) (omega arith), each-range P (a + 1) n (λ i from below. h i (omega arith) (omega arith)))

pub range-each : (P : ℕ → Type 0) (a n : ℕ) → Each P (range_with_len a n) → (i : ℕ) → a ≤ i → i < a + n → P i
range-each P a zero h i from below = absurd (omega arith)
range-each P a (suc n) h i from below = go (i == a) refl (range-each P (a + 1) n h.1 i)
  where
    go : (c : Bool) → (i == a) ≡ c → (a + 1 ≤ i → i < a + 1 + n → P i) → P i
    go true e later = let same : a ≡ i = grind (arith, nat_tests) in subst P same h.0
    go false e later = let past : a + 1 ≤ i = grind (arith, nat_tests) in later past (omega arith)
