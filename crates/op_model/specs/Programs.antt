-- The programs of a machine's nodes.
use Rattle.std.specs.Prelude.{◌≡◌, ℕ, ◌<◌, ◌==◌, List, [], filter, length, slice_get, unwrap_or, Some}
use Rattle.line_map.specs.Sizes.{Sizes, all_words}
use Rattle.op_model.specs.Operations.{Op}
use Rattle.op_model.specs.Events.Step.{Programs}

-- an operation at this place of this node's program, on a word of the machine
pub record IsOpOf (sizes : Sizes) (node index : ℕ) (op : Op) : Type 0 where
  pub of_node : op.node ≡ node
  pub at_index : op.index ≡ index
  pub word : op.word < all_words sizes

-- a program of this node
abbrev pub IsProgramOf : Sizes → ℕ → List Op → Type 0
IsProgramOf sizes node program = (i : ℕ) (op : Op) → slice_get program i ≡ Some op → IsOpOf sizes node i op

-- one program a node, each at the place of its node
pub record ArePrograms (sizes : Sizes) (programs : List (List Op)) : Type 0 where
  pub count : length programs ≡ sizes.nodes
  pub each : (node : ℕ) (program : List Op) → slice_get programs node ≡ Some program → IsProgramOf sizes node program

-- the program of each node. There is none past the last node
abbrev pub programs_of : List (List Op) → Programs
programs_of programs node = unwrap_or (slice_get programs node) []

-- an order of all operations, in which those of each node are its program
abbrev pub IsOrderOf : Programs → List Op → Type 0
IsOrderOf programs order = (node : ℕ) → filter (λ op. op.node == node) order ≡ programs node
