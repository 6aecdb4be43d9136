-- The factor by which a number is divided.
use Rattle.std.specs.Prelude.{ℕ, ◌+◌, ◌/◌, ◌^◌}

-- a little more than 2^40 divided by the value
abbrev pub factor_of : ℕ → ℕ
factor_of value = 2 ^ 40 / value + 1
