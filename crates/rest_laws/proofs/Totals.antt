-- Sums over the numbers below a bound.
-- By induction on the bound.
use Rattle.std.proofs.Common.{◌≡◌, ℕ, zero, suc, ◌+◌, ◌*◌, ◌<◌, ◌≤◌, Bool, true, false, cond, ◌==◌, refl, arith, ap}
use Rattle.std.proofs.lemmas.Bool.Decides.{nat_tests}
use Rattle.op_model.specs.Run.Weight.{total}

pub total-le : (f g : ℕ → ℕ) (n : ℕ) → ((i : ℕ) → f i ≤ g i) → total f n ≤ total g n
unfolding total
total-le f g zero h = omega arith
total-le f g (suc n) h = let ih = total-le f g n h in let a = h n in omega arith

pub total-same : (f g : ℕ → ℕ) (n : ℕ) → ((i : ℕ) → f i ≡ g i) → total f n ≡ total g n
unfolding total
total-same f g zero h = refl
total-same f g (suc n) h = let ih = total-same f g n h in let a = h n in omega arith

-- one term is at most the sum
pub total-at : (f : ℕ → ℕ) (n k : ℕ) → k < n → f k ≤ total f n
unfolding total
total-at f zero k h = absurd (omega arith)
total-at f (suc n) k h = go (k == n) refl (total-at f n k)
  where
    go : (c : Bool) → (k == n) ≡ c → (k < n → f k ≤ total f n) → f k ≤ total f n + f n
    go true e earlier = let same : k ≡ n = grind (arith, nat_tests) in let s : f k ≡ f n = ap f same in omega arith
    go false e earlier = let below : k < n = grind (arith, nat_tests) in let ih = earlier below in omega arith

pub total-const : (c n : ℕ) → total (λ i. c) n ≡ c * n
unfolding total
total-const c zero = grind arith
total-const c (suc n) = let ih = total-const c n in grind arith

total-none : (k c n : ℕ) → n ≤ k → total (λ i. cond (i == k) c 0) n ≡ 0
unfolding total
total-none k c zero h = refl
total-none k c (suc n) h = let ih = total-none k c n (omega arith) in grind (arith, nat_tests)

-- a sum of which one term is above 0
pub total-one : (k c n : ℕ) → total (λ i. cond (i == k) c 0) n ≤ c
unfolding total
total-one k c zero = omega arith
total-one k c (suc n) = at (n == k) refl (total-one k c n)
  where
    at : (d : Bool) → (n == k) ≡ d → total (λ i. cond (i == k) c 0) n ≤ c → total (λ i. cond (i == k) c 0) n + cond (n == k) c 0 ≤ c
    at true e ih = let z = total-none k c n (let s : n ≡ k = grind (arith, nat_tests) in omega arith) in grind (arith, nat_tests)
    at false e ih = grind (arith, nat_tests)
