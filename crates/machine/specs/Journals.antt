-- The machine's journal, by its fields.
use Rattle.std.specs.Prelude.{◌≡◌, ◌<◌, List}
use Rattle.std.specs.Vec.{vec_len, vec_capacity}
use Rattle.line_map.specs.Sizes.{Sizes}
use Rattle.lane_queues.specs.LaneStates.{LaneState}
use Rattle.msg_words.specs.SendList.{SendList}
use Rattle.machine.specs.declared.journal.Journal.{Journal}
use Rattle.machine.specs.Faces.{Face}
use Rattle.machine.specs.Kept.{IsKept}

-- there is room for one event more and its entry
pub record HasRoom (journal : Journal) : Type 0 where
  pub event : vec_len journal.events < vec_capacity journal.events
  pub entry : vec_len journal.served < vec_capacity journal.served

-- two journals that differ in their room alone
pub record IsSameJournal (old new : Journal) : Type 0 where
  pub events : new.events.items ≡ old.events.items
  pub served : new.served.items ≡ old.served.items
  pub counts : new.counts ≡ old.counts
  pub left : new.left ≡ old.left

-- what the machine keeps between two events
abbrev pub IsKeptWith : Sizes → List Face → LaneState → Journal → SendList → Type 0
IsKeptWith sizes faces lanes journal out = IsKept sizes faces lanes journal.events.items journal.served.items journal.counts journal.left out
