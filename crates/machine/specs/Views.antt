-- What contracts see of the machine's nodes and lanes.
use Rattle.std.specs.Prelude.{◌≡◌, ℕ, List}
use Rattle.line_map.specs.Sizes.{Sizes}
use Rattle.op_model.specs.declared.events.Event.{Event}
use Rattle.op_model.specs.Shares.{State}
use Rattle.op_model.specs.Run.Bounds.{request_bound, reply_bound}
use Rattle.lane_queues.specs.LaneStates.{LaneState}
use Rattle.machine.specs.Machines.{MachineView}
use Rattle.machine.specs.Faces.{Face}
use Rattle.op_model.specs.Programs.{programs_of}
use Rattle.machine.specs.Kept.{programs_in, charge_in}

-- a machine by its nodes
abbrev pub view_by : {D : Type 0} → Sizes → List Face → List Event → List D → MachineView D
view_by sizes faces events dirs = record { sizes = sizes; programs = programs_in faces; charge = charge_in faces; events = events; dirs = dirs }

-- a node of the machine in this state
abbrev pub IsNodeOf : {D : Type 0} → MachineView D → State → ℕ → Face → Type 0
IsNodeOf view state node face = face ≡ record { sizes = view.sizes; number = node; program = programs_of view.programs node; charge = view.charge; share = state.share node }

-- the lanes of the machine in this state
abbrev pub IsLanesOf : {D : Type 0} → MachineView D → State → LaneState → Type 0
IsLanesOf view state lanes = lanes ≡ record { sizes = view.sizes; requests = request_bound view.sizes; replies = reply_bound view.sizes; lane = state.lane }
