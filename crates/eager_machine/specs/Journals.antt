-- The journal of a machine, and what is kept of it.
use Rattle.std.specs.Prelude.{◌≡◌, ◌<◌, List, map}
use Rattle.std.specs.Vec.{vec_len, vec_capacity}
use Rattle.eager_model.specs.Runs.{AgedEntry}
use Rattle.eager_report.specs.declared.aged.AgedEntry.{AgedEntry as Kept}
use Rattle.eager_report.specs.Orders.{as_aged}
use Rattle.eager_machine.specs.declared.journal.Journal.{Journal}

-- there is room for one event more and its entry
pub record HasRoom (journal : Journal) : Type 0 where
  pub event : vec_len journal.events < vec_capacity journal.events
  pub entry : vec_len journal.served < vec_capacity journal.served

-- two journals that differ in their room alone
pub record IsSameJournal (old new : Journal) : Type 0 where
  pub events : new.events.items ≡ old.events.items
  pub served : new.served.items ≡ old.served.items
  pub counts : new.counts ≡ old.counts

-- the entries as the definition of a run has them
abbrev pub served_in : List Kept → List AgedEntry
served_in kept = map as_aged kept
