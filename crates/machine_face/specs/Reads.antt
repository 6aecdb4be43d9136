-- What a schedule reads of the state of a machine.
use Rattle.std.specs.Prelude.{◌≡◌, ℕ, Bool, not, List, filter, Option, Some, None, MatchOption}
use Rattle.line_map.specs.Sizes.{Sizes}
use Rattle.op_model.specs.declared.events.Class.{Class}
use Rattle.op_model.specs.Shares.{State}
use Rattle.op_model.specs.Events.Node.{fits_victim}
use Rattle.op_model.specs.Run.Schedules.{Lane, is_no_message, next_busy_in}
use Rattle.op_model.specs.Run.Seeded.{lines_of}
use Rattle.op_model.specs.Run.Machines.{MachineRun}

abbrev pub is_busy : State → Lane → Bool
is_busy state lane = not (is_no_message (state.lane lane.src lane.dst lane.class))

-- the first lane behind this one that isn't empty
abbrev pub next_busy : Sizes → State → Lane → Option Lane
next_busy sizes state here = next_busy_in sizes state.lane here

-- the answer is this lane, by its parts, or none
abbrev pub IsLane : Option (ℕ × ℕ × Class) → Option Lane → Type 0
IsLane answer lane = MatchOption answer (lane ≡ None) (λ parts. lane ≡ Some (record { src = parts.0; dst = parts.1; class = parts.2 }))

-- the lines of a home that may be called in, in increasing order
abbrev pub victims : MachineRun → ℕ → List ℕ
victims m home = filter (λ line. fits_victim m.charge m.sizes home (m.past.state.share home) line) (lines_of m.sizes home)
