-- What a schedule has made of a machine.
use Rattle.std.specs.Prelude.{◌≡◌, ℕ, ◌+◌, ◌*◌, Bool, true, false, List, ◌++◌, length, Option, Some, None}
use Rattle.op_model.specs.declared.events.Event.{Event}
use Rattle.op_model.specs.declared.operations.Op.{Op}
use Rattle.op_model.specs.Run.History.{AreEntriesOf, history}
use Rattle.op_model.specs.Run.Rest.{IsAtRest}
use Rattle.op_model.specs.Run.Runs.{Past, start, run_by}
use Rattle.op_model.specs.Run.Schedules.{IsFinishing, IsSchedule, first_busy, lane_or_next, serial_next}
use Rattle.op_model.specs.Run.Weight.{weight}
use Rattle.op_model.specs.Run.Machines.{MachineRun, IsApplied}
use Rattle.schedule_laws.specs.Courses.{left_count}

-- the machine after these events behind its own, which come to this
abbrev pub gone_on : MachineRun → List Event → Past → MachineRun
gone_on m made past = record m { events = m.events ++ made; past = past }

-- each node stands at the end of its program
abbrev pub IsAllDone : MachineRun → Type 0
IsAllDone m = (node : ℕ) → (m.past.state.share node).place ≡ length (m.programs node)

-- The finishing schedule is made: at rest, with every program done
pub record HasFinished (old new : MachineRun) : Type 0 where
  pub made : List Event
  pub went : new ≡ gone_on old made new.past
  pub finishing : IsFinishing old.charge old.sizes old.programs old.past made new.past
  pub rests : IsAtRest new.past.state
  pub done : IsAllDone new

-- The first events of the finishing schedule are made, and these are left of it
pub record HasBegun (old new : MachineRun) : Type 0 where
  pub made : List Event
  pub left : List Event
  pub end : Past
  pub went : new ≡ gone_on old made new.past
  pub finishing : IsFinishing old.charge old.sizes old.programs old.past (made ++ left) end

-- the most events of one operation, from rest
abbrev pub most_for_one : MachineRun → ℕ
most_for_one m = 2 * m.sizes.nodes + 8

-- the most events of the finishing schedule: the weight of what is under way, and those of each operation left
abbrev pub most_to_finish : MachineRun → ℕ
most_to_finish m = weight m.sizes m.past.state + most_for_one m * left_count m.sizes m.programs m.past.state

-- The events are the serial schedule of this order, and run so
pub record IsSerialBy (order : List Op) (m : MachineRun) (events : List Event) (past : Past) : Type 0 where
  pub ran : run_by m.charge m.sizes m.programs (start m.sizes) events ≡ Some past
  pub next : IsSchedule (serial_next m.charge m.sizes m.programs order) m.charge m.sizes m.programs events

-- The serial schedule is made: the history is the operations in their order, all completed, and the machine is at rest
pub record IsSerialRun (order : List Op) (old new : MachineRun) : Type 0 where
  pub went : new ≡ record old { events = new.events; past = new.past }
  pub serial : IsSerialBy order old new.events new.past
  pub in_order : AreEntriesOf order (history new.past)
  pub rests : IsAtRest new.past.state
  pub done : IsAllDone new

-- The first events of the serial schedule are made, and these are left of it
pub record HasBegunSerial (order : List Op) (old new : MachineRun) : Type 0 where
  pub left : List Event
  pub end : Past
  pub went : new ≡ record old { events = new.events; past = new.past }
  pub serial : IsSerialBy order old (new.events ++ left) end

-- the next event of a schedule that goes on with this operation
abbrev pub next_with : MachineRun → Option Op → Option Event
next_with m chosen = lane_or_next m.charge m.sizes m.programs m.past.state chosen (first_busy m.sizes m.past.state)

-- the next event is made, or there is none and nothing has changed
abbrev pub IsAdvanced : Option Event → MachineRun → Bool → MachineRun → Type 0
IsAdvanced next old true new = (event : Event) × (next ≡ Some event) × IsApplied old event new
IsAdvanced next old false new = (next ≡ None) × (new ≡ old)
