-- What holds of the share of one node in the eager core, whatever the other nodes have: of what it has begun, of the lines at their home, and of its room.
use Rattle.std.specs.Prelude.{◌≡◌, ◌≢◌, ℕ, ◌<◌, ◌≤◌, false, not, List, None}
use Rattle.std.specs.FinMap as fin
use Rattle.line_map.specs.Sizes.{Sizes, home_of, set_of}
use Rattle.op_model.specs.Nodes.{listed, count}
use Rattle.op_model.specs.declared.operations.Op.{Op}
use Rattle.op_model.specs.declared.state.Grantee.TheVariants.{Nobody, Me, Node}
use Rattle.op_model.specs.declared.state.Wait.{Wait}
use Rattle.op_model.specs.declared.state.Wait.TheVariants.{Idle, Invalidate, ForwardGet, ForwardGetX}
use Rattle.op_model.specs.Lines.{Absent, LineShare, is_empty, is_exclusive}
use Rattle.op_model.specs.Shares.{Share, copy_of, line_share, pending_lines}
use Rattle.op_model.specs.OwnPart.{IsOwnLine, IsOutstanding}

-- A line that drains, as its home has it. An acknowledgement is due of each listed node, and neither the home nor the node that was granted the line is listed.
-- The home's copy is exclusive where the line is dirty and local, and else there is none. Granted to the home, the line is local as long as it is dirty; granted to another node it isn't local
pub record IsDrainingLine (home grantee : ℕ) (share : LineShare) : Type 0 where
  pub some : 0 < share.header.acks
  pub due : share.header.acks ≡ count share.header.list
  pub unlisted : listed share.header.list home ≡ false
  pub granted : listed share.header.list grantee ≡ false
  pub local : share.header.local ≡ not (is_empty share.copy)
  pub exclusive : is_exclusive share.copy ≡ not (is_empty share.copy)
  pub at_home : grantee ≡ home → share.header.dirty ≡ share.header.local
  pub away : grantee ≢ home → share.copy ≡ Absent

-- A line at its home: it drains, or it is as in the delayed core. It never waits for acknowledgements in any other way
abbrev pub IsEagerLine : ℕ → Wait → LineShare → Type 0
IsEagerLine home (Invalidate (Node grantee)) share = IsDrainingLine home grantee share
IsEagerLine home (Invalidate Me) share = ⊥
IsEagerLine home (Invalidate Nobody) share = ⊥
IsEagerLine home Idle share = IsOwnLine home share
IsEagerLine home (ForwardGet requester) share = IsOwnLine home share
IsEagerLine home (ForwardGetX requester) share = IsOwnLine home share

-- What holds of a node's share. Lists cost no links here
pub record IsEagerPart (sizes : Sizes) (node : ℕ) (program : List Op) (share : Share) : Type 0 where
  pub outstanding : IsOutstanding sizes node program share share.want
  pub lines : (line : ℕ) → home_of sizes line ≡ node → IsEagerLine node (line_share sizes share line).header.wait (line_share sizes share line)
  pub pending : pending_lines share ≤ sizes.pending
  pub sets : (a b : ℕ) → is_empty (copy_of share a) ≡ false → is_empty (copy_of share b) ≡ false → set_of sizes a ≡ set_of sizes b → a ≡ b
  pub headers : (line : ℕ) → home_of sizes line ≢ node → fin.get share.headers line ≡ None
