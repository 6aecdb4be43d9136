-- A quotient by a factor: where n * d is below p, n * (p / d + 1) / p is n / d.
use Rattle.std.proofs.Common.{◌≡◌, ℕ, ◌<◌, ◌≤◌, ◌+◌, ◌*◌, arith, sym, subst}
use Rattle.std.specs.Prelude.{◌/◌, ◌%◌}
use Rattle.std.proofs.Math.Nat.{div-eq_of_lt-le, lt-mul-div-succ, div-mul-le_self, lt_of_mul-lt-mul_right, mul-le-mul_left, mul-le-mul_right, mul_assoc}

-- for the quotients t of p and q of n
not-above : (n d p t q : ℕ) → p < d * (t + 1) → q * d ≤ n → q * p ≤ n * (t + 1)
not-above n d p t q over under =
    let a : q * p ≤ q * (d * (t + 1)) = mul-le-mul_left q (omega (arith, over)) in
    let b : q * d * (t + 1) ≤ n * (t + 1) = mul-le-mul_right (t + 1) under in
    let c = mul_assoc q d (t + 1) in
    omega (arith, a, b, c)

below : (n d p t q : ℕ) → t * d ≤ p → n < d * (q + 1) → n * d < p → n * (t + 1) < (q + 1) * p
below n d p t q under over small =
    let a : n * (t * d) ≤ n * p = mul-le-mul_left n under in
    let b : (n + 1) * p ≤ d * (q + 1) * p = mul-le-mul_right p (omega (arith, over)) in
    let c : n * (t + 1) * d < (q + 1) * p * d = omega (arith, a, b, small) in
    lt_of_mul-lt-mul_right d c

pub by-factor : (n d p : ℕ) → 0 < d → n * d < p → n * (p / d + 1) / p ≡ n / d
by-factor n d p some small =
    div-eq_of_lt-le p (not-above n d p (p / d) (n / d) (lt-mul-div-succ p some) (div-mul-le_self n d))
    (below n d p (p / d) (n / d) (div-mul-le_self p d) (lt-mul-div-succ n some) small)
