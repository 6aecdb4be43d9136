-- What the machine keeps between two calls: its numbers are those of its run.
use Rattle.std.specs.Prelude.{◌≡◌, ◌≤◌, List, length}
use Rattle.line_map.specs.Sizes.{Sizes}
use Rattle.eager_home.specs.Views.{EagerView}
use Rattle.eager_machine.specs.Journals.{served_in}
use Rattle.event_tally.specs.Tallies.{tally_of}
use Rattle.eager_machine.specs.Kept.{moments_in, IsKept}
use Rattle.eager_machine.specs.Lanes.{AgedQueues}
use Rattle.eager_machine.specs.Outboxes.{under_way, IsOutbox}
use Rattle.eager_machine.specs.declared.journal.Journal.{Journal}
use Rattle.eager_machine.specs.declared.sending.Outbox.{Outbox}

pub record IsRunKept (sizes : Sizes) (nodes : List EagerView) (lanes : AgedQueues) (out : Outbox) (journal : Journal) : Type 0 where
  pub kept : IsKept sizes nodes (under_way lanes out) journal.events.items (served_in journal.served.items)
  pub same_sizes : lanes.sizes ≡ sizes
  pub outbox : IsOutbox sizes out
  pub given : out.given ≤ length journal.events.items
  pub tally : journal.counts ≡ tally_of sizes (moments_in sizes nodes journal.events.items)
