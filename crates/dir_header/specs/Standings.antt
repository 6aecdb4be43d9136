-- What the lines of a home have to do with its links: which hold one and are idle, and how many hold one and are pending.
use Rattle.std.specs.Prelude.{ℕ, ◌+◌, ◌-◌, Bool, true, false, ◌==◌, if◌then◌else◌}
use Rattle.op_model.specs.Nodes.{Nodes, enlist, unlist}
use Rattle.op_model.specs.declared.state.Wait.{Wait}
use Rattle.op_model.specs.Lines.{Header, is_idle}
use Rattle.dir_header.specs.Sharers.{Charge, held_by}
use Rattle.dir_header.specs.declared.header.Standing.{Standing}
use Rattle.dir_header.specs.declared.header.Standing.TheVariants.{Linkless, Victim, Pending}

abbrev pub standing_of : Wait → ℕ → Standing
standing_of wait links = if links == 0 then Linkless else (if is_idle wait then Victim else Pending)

abbrev pub standing_in : Charge → Header → Standing
standing_in charge header = standing_of header.wait (held_by charge header.list)

abbrev pub stands_victim : Standing → Bool
stands_victim Victim = true
stands_victim _ = false

abbrev pub stands_pending : Standing → Bool
stands_pending Pending = true
stands_pending _ = false

-- the idle lines that hold a link, by their numbers at the home, and how many pending lines hold one
pub record HoldersView : Type 0 where
  pub victims : Nodes
  pub pending : ℕ

abbrev pub put_in : Nodes → ℕ → Standing → Nodes
put_in victims m standing = if stands_victim standing then enlist victims m else unlist victims m

abbrev pub counted : Standing → ℕ
counted standing = if stands_pending standing then 1 else 0

-- after a line that stood so stands otherwise
abbrev pub moved : HoldersView → ℕ → Standing → Standing → HoldersView
moved holders m before after = record { victims = put_in holders.victims m after; pending = (holders.pending - counted before) + counted after }
