-- What `run` writes.
use Rattle.std.specs.Prelude.{ℕ, List}
use Rattle.op_model.specs.declared.events.Event.{Event}
use Rattle.op_model.specs.Shares.{Trace}
use Rattle.commands.specs.Journaled.{IsJournalOutput}

-- the text of a run that some journal begins: that of the threads
pub record IsRunOutput (trace : Trace) (text : List ℕ) : Type 0 where
  pub journal : List Event
  pub output : IsJournalOutput trace journal text
