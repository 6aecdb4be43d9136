-- A function over a list made of two parts.
use Rattle.std.proofs.Common.{◌≡◌, ℕ, ◌++◌, List, [], ◌∷◌, map, refl, ap}

pub map-append : {A : Type 0} (f : A → ℕ) (xs ys : List A) → map f (xs ++ ys) ≡ map f xs ++ map f ys
map-append f [] ys = refl
map-append f (x ∷ xs) ys = ap (λ zs. f x ∷ zs) (map-append f xs ys)

pub both-parts : {xs ys zs ws : List ℕ} → xs ≡ ys → zs ≡ ws → xs ++ zs ≡ ys ++ ws
both-parts e f = rw (e, f)
