-- What a report reads of a machine.
use Rattle.std.specs.Prelude.{◌≡◌, ℕ, ◌-◌, List}
use Rattle.line_map.specs.Sizes.{Sizes}
use Rattle.op_model.specs.Shares.{State, pending_lines, held_links}
use Rattle.op_model.specs.Run.Runs.{start}
use Rattle.op_model.specs.Run.Counts.{Moment, moments}
use Rattle.op_model.specs.Run.Machines.{MachineRun}
use Rattle.dir_report.specs.declared.homes.HomeCounts.{HomeCounts}
use Rattle.dir_report.specs.declared.mode.Mode.{Mode}
use Rattle.dir_report.specs.declared.mode.Mode.TheVariants.{Delayed}
use Rattle.dir_report.specs.Reports.{report_text}

-- the headers of a state, with what their text depends on
pub record Heads : Type 0 where
  pub mode : Mode
  pub sizes : Sizes
  pub state : State

-- those that a run of the delayed core has come to
abbrev pub heads_of : MachineRun → Heads
heads_of m = record { mode = Delayed; sizes = m.sizes; state = m.past.state }

-- the pending lines of a home, the links that its lists hold, and the free links
pub record IsHome (m : MachineRun) (home : ℕ) (counts : HomeCounts) : Type 0 where
  pub pending : counts.pending ≡ pending_lines (m.past.state.share home)
  pub held : counts.held ≡ held_links m.charge (m.past.state.share home)
  pub free : counts.free ≡ m.sizes.links - held_links m.charge (m.past.state.share home)

-- the events of the run, each with the state before it and what it did
abbrev pub moments_of : MachineRun → List Moment
moments_of m = moments m.charge m.sizes m.programs (start m.sizes).state m.events

-- the report of the machine's run
abbrev pub report_of : ℕ → MachineRun → List ℕ
report_of version m = report_text m.charge m.sizes m.programs version m.events m.past
