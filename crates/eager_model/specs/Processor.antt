-- One line after what a node's own processor does with it: a hit, an operation that is begun, and an eviction.
use Rattle.std.specs.Prelude.{ℕ, ◌==◌}
use Rattle.eager_model.specs.Types.{Op}
use Rattle.op_model.specs.Lines.{Outcome}
use Rattle.op_model.specs.Tables.Processor.{hit}
use Rattle.line_invariant.specs.Line.{share_of}
use Rattle.eager_model.specs.Ages.{LineAges, with_copy, ages_begun, ages_left}
use Rattle.eager_model.specs.Line.{AgedLine, ages_of, aged_row}

abbrev pub hit_row : ℕ → Op → AgedLine → Outcome
hit_row node op line = hit op (share_of line.line node)

-- the ages of the node that does it
abbrev pub ages_after_hit : ℕ → Op → AgedLine → LineAges
ages_after_hit node op line = with_copy (hit_row node op line).share.copy (ages_of line node)

abbrev pub ages_after_begin : ℕ → Outcome → AgedLine → LineAges
ages_after_begin node row line = with_copy row.share.copy (ages_begun row (ages_of line node))

abbrev pub ages_after_leave : ℕ → ℕ → Outcome → AgedLine → LineAges
ages_after_leave home node row line = with_copy row.share.copy (ages_left (node == home) (share_of line.line node) (ages_of line node))

-- and the line
abbrev pub after_hit : ℕ → ℕ → Op → AgedLine → AgedLine
after_hit home node op line = aged_row home node (hit_row node op line) (ages_after_hit node op line) line

abbrev pub after_begin : ℕ → ℕ → Outcome → AgedLine → AgedLine
after_begin home node row line = aged_row home node row (ages_after_begin node row line) line

abbrev pub after_leave : ℕ → ℕ → Outcome → AgedLine → AgedLine
after_leave home node row line = aged_row home node row (ages_after_leave home node row line) line
