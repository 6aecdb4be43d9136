-- The ages that a node keeps: one for each set of its cache, and one for each line of its home.
use Rattle.std.specs.Prelude.{◌≡◌, ℕ, ◌%◌, ◌==◌, if◌then◌else◌, List, length, slice_index, slice_set, Option, Some, None}
use Rattle.line_map.specs.Sizes.{Sizes, home_of, line_of, set_of}
use Rattle.op_model.specs.declared.operations.Op.{Op}
use Rattle.op_model.specs.Lines.{is_empty}
use Rattle.op_model.specs.Shares.{Copies, copy_in}
use Rattle.eager_model.specs.Ages.{LineAges}
use Rattle.eager_model.specs.Node.{NodeAges}
use Rattle.eager_home.specs.declared.ages.AgePair.{AgePair}

-- an age for the copy in each set of a cache, and one for the words in memory of each line of a home
pub record AgeLists : Type 0 where
  pub copies : List ℕ
  pub memory : List ℕ

-- as many as the cache has sets and the home lines
pub record AreAgeLists (sizes : Sizes) (lists : AgeLists) : Type 0 where
  pub copies : length lists.copies ≡ sizes.sets
  pub memory : length lists.memory ≡ sizes.lines

-- The ages of a node with these copies: a copy has the age of its set, and a line of this home that of its place there. Where there is no copy, and of other homes' lines, the age is 0
abbrev pub ages_of : Sizes → ℕ → Copies → AgeLists → NodeAges
ages_of sizes node copies lists =
    record {
      copy = λ line. if is_empty (copy_in copies line) then 0 else slice_index lists.copies (set_of sizes line);
      memory = λ line. if node == home_of sizes line then slice_index lists.memory (line % sizes.lines) else 0;
    }

-- the lists with these ages of a line, where the node has these copies
abbrev pub with_line : Sizes → ℕ → Copies → ℕ → LineAges → AgeLists → AgeLists
with_line sizes node copies line row lists =
    record {
      copies = (if is_empty (copy_in copies line) then lists.copies else slice_set lists.copies (set_of sizes line) row.copy);
      memory = (if node == home_of sizes line then slice_set lists.memory (line % sizes.lines) row.memory else lists.memory);
    }

-- the ages of a line, as the code has them
abbrev pub as_ages : AgePair → LineAges
as_ages pair = record { copy = pair.copy; memory = pair.memory }

-- the line of an operation, and 0 where there is none
abbrev pub line_next : Sizes → Option Op → ℕ
line_next sizes None = 0
line_next sizes (Some op) = line_of sizes op.word
