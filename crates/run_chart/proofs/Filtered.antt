-- What a test keeps of a list, and of a list without the first element that passes.
use Rattle.std.proofs.Common.{◌≡◌, ℕ, zero, suc, ◌+◌, ◌<◌, ◌≤◌, Bool, true, false, cond, not, nat_lt, Some, None, List, [], ◌∷◌, length, get_or, refl, sym, ap, subst, ◌∙◌, arith}
use Rattle.std.specs.List.{All, filter, position, position_or_len, remove}
use Rattle.std.proofs.lemmas.List.Elements.{All-head, All-tail}
use Rattle.std.proofs.lemmas.Bool.Decides.{nat_tests}

-- a test of which all elements know the answer
pub filter-all : {X : Type 0} (p : X → Bool) (t : Bool) (xs : List X) → All (λ x. p x ≡ t) xs → filter p xs ≡ cond t xs []
filter-all p true [] all = refl
filter-all p false [] all = refl
filter-all p true (x ∷ xs) all =
    let here : p x ≡ true = All-head (λ y. p y ≡ true) x xs all in
    ap (λ c. cond c (x ∷ filter p xs) (filter p xs)) here ∙ ap (λ l. x ∷ l) (filter-all p true xs (All-tail (λ y. p y ≡ true) x xs all))
filter-all p false (x ∷ xs) all =
    let here : p x ≡ false = All-head (λ y. p y ≡ false) x xs all in
    ap (λ c. cond c (x ∷ filter p xs) (filter p xs)) here ∙ filter-all p false xs (All-tail (λ y. p y ≡ false) x xs all)

-- where an element is removed that doesn't pass, the same elements are kept
pub filter-remove_other : {X : Type 0} (p : X → Bool) (xs : List X) (i : ℕ) (d : X) → i < length xs → p (get_or xs i d) ≡ false → filter p (remove xs i) ≡ filter p xs
filter-remove_other p [] i d within not_in = absurd (omega arith)
filter-remove_other p (x ∷ xs) zero d within not_in = sym (ap (λ c. cond c (x ∷ filter p xs) (filter p xs)) not_in)
filter-remove_other p (x ∷ xs) (suc i) d within not_in =
    ap (λ l. cond (p x) (x ∷ l) l) (filter-remove_other p xs i d (omega arith) not_in)

-- where the first element that passes is removed, it is the first one kept before
pub filter-remove_first : {X : Type 0} (p : X → Bool) (xs : List X) (i : ℕ) (d : X) → i < length xs → p (get_or xs i d) ≡ true → ((k : ℕ) → k < i → p (get_or xs k d) ≡ false) → filter p xs ≡ get_or xs i d ∷ filter p (remove xs i)
filter-remove_first p [] i d within is_in before = absurd (omega arith)
filter-remove_first p (x ∷ xs) zero d within is_in before = ap (λ c. cond c (x ∷ filter p xs) (filter p xs)) is_in
filter-remove_first p (x ∷ xs) (suc i) d within is_in before =
    let here : p x ≡ false = before 0 (omega arith) in
    let rest = filter-remove_first p xs i d (omega arith) is_in (λ k lt. before (suc k) (omega arith)) in
    ap (λ c. cond c (x ∷ filter p xs) (filter p xs)) here ∙ rest ∙ ap (λ c. get_or xs i d ∷ cond c (x ∷ filter p (remove xs i)) (filter p (remove xs i))) (sym here)

-- where no element passes, none is kept
none-kept : {X : Type 0} (p : X → Bool) (xs : List X) → length xs ≤ position_or_len p xs → filter p xs ≡ []
none-kept p [] all = refl
none-kept p (x ∷ xs) all = go (p x) refl (none-kept p xs)
  where
    go : (t : Bool) → p x ≡ t → (length xs ≤ position_or_len p xs → filter p xs ≡ []) → cond t (x ∷ filter p xs) (filter p xs) ≡ []
    go true e rest =
        let past : suc (length xs) ≤ 0 = subst (λ t. suc (length xs) ≤ cond (not t) (1 + position_or_len p xs) 0) e all in
        absurd (omega arith)
    go false e rest =
        let past : suc (length xs) ≤ 1 + position_or_len p xs = subst (λ t. suc (length xs) ≤ cond (not t) (1 + position_or_len p xs) 0) e all in
        rest (omega arith)

pub filter-none : {X : Type 0} (p : X → Bool) (xs : List X) → position p xs ≡ None → filter p xs ≡ []
filter-none p xs none = go (nat_lt (position_or_len p xs) (length xs)) refl none
  where
    go : (t : Bool) → nat_lt (position_or_len p xs) (length xs) ≡ t → cond t (Some (position_or_len p xs)) None ≡ None → filter p xs ≡ []
    go true e none = cc
    go false e none = none-kept p xs (grind (arith, nat_tests))
