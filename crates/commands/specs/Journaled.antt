-- What is written of a run that a journal begins: the steps that were made, and the report of their run.
use Rattle.std.specs.Prelude.{◌≡◌, ℕ, List, ◌++◌, Some}
use Rattle.op_model.specs.declared.events.Event.{Event}
use Rattle.op_model.specs.Shares.{Trace, Charge, Linked}
use Rattle.op_model.specs.Run.History.{IsOneHistory}
use Rattle.op_model.specs.Run.Machines.{MachineRun}
use Rattle.op_model.specs.Run.Runs.{Past, run}
use Rattle.dir_report.specs.Machines.{report_of}
use Rattle.step_journal.specs.Printing.{journal_text}
use Rattle.commands.specs.Runs.{IsWhole, machine_after}

-- the events of a journal run from the start
abbrev pub Runs : Charge → Trace → List Event → Type 0
Runs charge trace journal = (past : Past) × (run charge trace journal ≡ Some past)

-- a machine has made the events of a journal and then others, until every operation was completed and all was at rest
pub record IsCompleted (charge : Charge) (trace : Trace) (journal : List Event) (m : MachineRun) : Type 0 where
  pub others : List Event
  pub is : m ≡ machine_after charge trace (journal ++ others) m.past
  pub ran : run charge trace (journal ++ others) ≡ Some m.past
  pub whole : IsWhole trace m.past

-- The text of the steps that were made and of the report of their run. The steps are those of the journal and then others; they run
-- from the start, each enabled at its place; every operation is completed, the last state is at rest, and the completed operations
-- are one history of one flat memory
pub record IsJournalOutput (trace : Trace) (journal : List Event) (text : List ℕ) : Type 0 where
  pub others : List Event
  pub past : Past
  pub ran : run Linked trace (journal ++ others) ≡ Some past
  pub one : IsOneHistory Linked trace (journal ++ others) past
  pub whole : IsWhole trace past
  pub printed : text ≡ journal_text (journal ++ others) ++ report_of trace.version (machine_after Linked trace (journal ++ others) past)
