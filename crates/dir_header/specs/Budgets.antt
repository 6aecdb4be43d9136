-- The budget of a home: how many of its lines are pending, and how many may be.
use Rattle.std.specs.Prelude.{ℕ}

pub record BudgetView : Type 0 where
  pub used : ℕ
  pub limit : ℕ
