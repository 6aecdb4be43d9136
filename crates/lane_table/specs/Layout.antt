-- Where the words of the shared table stand: the ticket word first, then the cells of the lanes one after another, in the order of their
-- numbers. A cell is a header word with the words of a line behind it.
use Rattle.std.specs.Prelude.{ℕ, ◌+◌, ◌*◌}
use Rattle.line_map.specs.Sizes.{Sizes}
use Rattle.op_model.specs.declared.events.Class.{Class}
use Rattle.lane_queues.specs.Queues.{lane_number, lane_count}

-- word i of the cell of a lane; word 0 of a cell is its header word
abbrev pub cell_word : Sizes → (src dst : ℕ) → Class → (i : ℕ) → ℕ
cell_word sizes src dst class i = 1 + (lane_number sizes.nodes src dst class * (1 + sizes.words) + i)

abbrev pub word_count : Sizes → ℕ
word_count sizes = 1 + lane_count sizes.nodes * (1 + sizes.words)
