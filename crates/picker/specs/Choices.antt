-- What a choice is: a function that for each draw and each number of things above 0 answers one of them.
use Rattle.std.specs.Prelude.{ℕ, ◌<◌, ◌^◌}

-- at each draw and each number of things above 0 it may be asked, and whatever it answers is below that number
pub record IsChoice (can_answer : ℕ → ℕ → Type 0) (answers : ℕ → ℕ → ℕ → Type 0) : Type 0 where
  pub callable : (draw n : ℕ) → draw < 2 ^ 64 → n < 2 ^ 32 → 0 < n → can_answer draw n
  pub below : (draw n answer : ℕ) → draw < 2 ^ 64 → n < 2 ^ 32 → 0 < n → answers draw n answer → answer < n
