-- A machine as the run that it has made.
use Rattle.std.specs.Prelude.{◌≡◌, ℕ, ◌<◌, List, [], ◌∷◌, ◌++◌, slice_get, Some, Result, Ok}
use Rattle.line_map.specs.Sizes.{Sizes, AreSizes, all_lines}
use Rattle.op_model.specs.Operations.{Op}
use Rattle.op_model.specs.Tables.Processor.{Cause}
use Rattle.op_model.specs.Shares.{Charge, Event, Hit, Issue, Evict, Take, Reclaim}
use Rattle.op_model.specs.Events.Step.{Programs, Done, effect}
use Rattle.op_model.specs.Programs.{IsOpOf}
use Rattle.op_model.specs.Run.Runs.{Past, past_after, start, run_by}

-- A machine is its charge and its sizes, the programs of its nodes, the events that it has stored, and what these come to from the start
pub record MachineRun : Type 0 where
  pub charge : Charge
  pub sizes : Sizes
  pub programs : Programs
  pub events : List Event
  pub past : Past

-- the operation at a place of a node's program, where the machine has that node
pub record IsProgramOp (sizes : Sizes) (node place : ℕ) (op : Op) : Type 0 where
  pub of_machine : node < sizes.nodes
  pub is : IsOpOf sizes node place op

-- What holds of every machine: its sizes are within their limits, its programs are of its nodes, and its events run from the start
pub record IsRunning (m : MachineRun) : Type 0 where
  pub sizes : AreSizes m.sizes
  pub programs : (node place : ℕ) (op : Op) → slice_get (m.programs node) place ≡ Some op → IsProgramOp m.sizes node place op
  pub ran : run_by m.charge m.sizes m.programs (start m.sizes) m.events ≡ Some m.past

-- the nodes and lines that an event names are of the machine. A victim may be any number
abbrev pub IsEventOf : Sizes → Event → Type 0
IsEventOf sizes (Hit node) = node < sizes.nodes
IsEventOf sizes (Issue node) = node < sizes.nodes
IsEventOf sizes (Evict node line kind) = (node < sizes.nodes) × (line < all_lines sizes)
IsEventOf sizes (Take src dst class victim) = (src < sizes.nodes) × (dst < sizes.nodes)
IsEventOf sizes (Reclaim line) = line < all_lines sizes

-- what an event does here, or the first cause for which it is refused
abbrev pub effect_on : MachineRun → Event → Result Done Cause
effect_on m event = effect m.charge m.sizes m.programs m.past.state event

-- the machine after an event that does this
abbrev pub with_event : MachineRun → Event → Done → MachineRun
with_event m event done = record m { events = m.events ++ event ∷ []; past = past_after m.sizes m.past done }

-- the event is done, and stored behind the others
abbrev pub IsApplied : MachineRun → Event → MachineRun → Type 0
IsApplied m event after = (done : Done) × (effect_on m event ≡ Ok done) × (after ≡ with_event m event done)

-- whether an event is enabled
abbrev pub IsEnabled : MachineRun → Event → Type 0
IsEnabled m event = (done : Done) × (effect_on m event ≡ Ok done)
