-- The operation that a schedule goes on with.
use Rattle.std.specs.Prelude.{◌≡◌, ℕ, ◌<◌, List, slice_get, Option, Some, None}
use Rattle.line_map.specs.Sizes.{Sizes, all_words}
use Rattle.op_model.specs.declared.operations.Op.{Op}
use Rattle.op_model.specs.Run.Schedules.{all_nodes, first_left}
use Rattle.op_model.specs.Shares.{State}
use Rattle.op_model.specs.Run.Machines.{MachineRun}

-- an operation of a node of the machine, on one of its words
abbrev pub IsOpIn : Sizes → Op → Type 0
IsOpIn sizes op = (op.node < sizes.nodes) × (op.word < all_words sizes)

abbrev pub AreOpsIn : Sizes → List Op → Type 0
AreOpsIn sizes order = (i : ℕ) (op : Op) → slice_get order i ≡ Some op → IsOpIn sizes op

-- the operations of an order before this place are completed
abbrev pub AreCompletedTo : List Op → ℕ → State → Type 0
AreCompletedTo order at state = (i : ℕ) (op : Op) → i < at → slice_get order i ≡ Some op → op.index < (state.share op.node).place

-- the next operation of a node
abbrev pub next_op_at : MachineRun → ℕ → Option Op
next_op_at m node = slice_get (m.programs node) (m.past.state.share node).place

-- the next operation of the least node that has one left
abbrev pub first_op : MachineRun → Option Op
first_op m = first_left m.programs m.past.state (all_nodes m.sizes)

-- the nodes before this one have done their programs
abbrev pub AreDoneTo : MachineRun → ℕ → Type 0
AreDoneTo m bound = (node : ℕ) → node < bound → next_op_at m node ≡ None
