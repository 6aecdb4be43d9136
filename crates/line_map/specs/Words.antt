-- The words of a line in a fixed room of sixteen.
use Rattle.std.specs.Prelude.{◌≡◌, ℕ, zero, suc, ◌-◌, ◌≤◌, List, [], ◌∷◌, ◌++◌, take, replicate, length, refl}
use Rattle.std.proofs.Common.{ap, arith}

-- the words and, behind them, zeros
abbrev pub padded : List ℕ → ℕ → List ℕ
padded words count = words ++ replicate (16 - count) 0

length-take-le : (n : ℕ) (xs : List ℕ) → n ≤ length xs → length (take n xs) ≡ n
length-take-le zero xs le = refl
length-take-le (suc n) [] le = absurd (omega arith)
length-take-le (suc n) (x ∷ xs) le = ap suc (length-take-le n xs (omega arith))

pub length-take-room : (n : ℕ) (xs : List ℕ) → n ≤ 16 → length xs ≡ 16 → length (take n xs) ≡ n
length-take-room n xs le room = length-take-le n xs (omega arith)
