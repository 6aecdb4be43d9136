-- The age at which a row serves an operation, and on which words.
use Rattle.std.specs.Prelude.{◌≡◌, ℕ, ◌≤◌, Bool, true, false, ◌==◌}
use Rattle.op_model.specs.Operations.{Words, is_load}
use Rattle.op_model.specs.Messages.{Content}
use Rattle.op_model.specs.Lines.{Room, Service, NoService, Own, For, Outcome}
use Rattle.line_invariant.specs.Line.{share_of}
use Rattle.eager_model.specs.Ages.{LineAges, age_given, served_age}
use Rattle.eager_model.specs.Line.{AgedLine, ages_of, ages_after_take, row_taken}

-- the age of what a row at a node serves, which leaves it with these ages
abbrev pub age_served : ℕ → ℕ → Outcome → LineAges → AgedLine → ℕ
age_served home me row ages line = served_age (age_given (me == home) (share_of line.line me) (ages_of line me)) ages.copy row.served

-- the age of what a message serves
abbrev pub age_taken : ℕ → ℕ → ℕ → Content → ℕ → Room → AgedLine → ℕ
age_taken home from to content age room line = age_served home to (row_taken home from to content room line.line) (ages_after_take home from to content age room line) line

-- a load is served on the words of its age, a write on the newest words and at the greatest age after it
abbrev pub IsServedOn : Bool → AgedLine → ℕ → ℕ → Words → Type 0
IsServedOn true line top age on = (age ≤ line.top) × (on ≡ line.words_at age)
IsServedOn false line top age on = (age ≡ top) × (on ≡ line.line.words)

-- Whose operation a row serves, its last age doesn't fall. The load of another node is served as a load
abbrev pub IsServedAt : AgedLine → ℕ → ℕ → ℕ → Service → Type 0
IsServedAt line top me age NoService = Unit {0}
IsServedAt line top me age (Own op on) = (line.last me ≤ age) × IsServedOn (is_load op.kind) line top age on
IsServedAt line top me age (For node on) = (line.last node ≤ age) × IsServedOn true line top age on
