-- What one node keeps, told by its parts: its processor, its cache and its home.
use Rattle.std.specs.Prelude.{◌≡◌, ℕ, ◌+◌, ◌≤◌, true, false, if◌then◌else◌, List, ◌++◌, length, is_some, Option, Result, Ok}
use Rattle.std.specs.FinMap as fin
use Rattle.line_map.specs.Sizes.{Sizes, home_of}
use Rattle.op_model.specs.declared.events.Cause.{Cause}
use Rattle.op_model.specs.declared.messages.Msg.{Msg}
use Rattle.op_model.specs.declared.operations.Op.{Op}
use Rattle.op_model.specs.declared.state.Want.{Want}
use Rattle.op_model.specs.Operations.{Words, is_load, after_op}
use Rattle.op_model.specs.Lines.{Copy, Shared, Exclusive, Header, LineShare, Outcome, is_empty}
use Rattle.op_model.specs.OwnPart.{IsOwnLine}
use Rattle.op_model.specs.Shares.{Share, line_share, Copies, copy_in, Headers}
use Rattle.op_model.specs.Events.Node.{NodeOutcome, by_row}
use Rattle.cpu_cache.specs.Processors.{ProcView}
use Rattle.msg_words.specs.SendList.{SendList}

-- the share of a node that has this processor, these copies and these headers
abbrev pub share_of : ProcView → Copies → Headers → Share
share_of proc copies headers = record { place = proc.place; want = proc.want; copies = copies; headers = headers }

-- each copy that is kept is one
abbrev pub AreCopies : Copies → Type 0
AreCopies copies = (line : ℕ) → is_some (fin.get copies line) ≡ true → is_empty (copy_in copies line) ≡ false

-- there is a header for each line of this home
abbrev pub AreHeaders : Sizes → ℕ → Headers → Type 0
AreHeaders sizes node headers = (line : ℕ) → home_of sizes line ≡ node → is_some (fin.get headers line) ≡ true

-- what a row of a table does at a line, in a node's share
abbrev pub row_at : Sizes → ℕ → Share → ℕ → (LineShare → Outcome) → NodeOutcome
row_at sizes node share line row = by_row sizes node share line (row (line_share sizes share line))

-- what is sent, with these messages at its end
abbrev pub sent : SendList → List (ℕ × Msg) → SendList
sent out sends = record out { list = out.list ++ sends }

-- a row of a line is done: the new share is the one that it leaves, and its messages are sent
pub record DoesRow (sizes : Sizes) (node : ℕ) (old new : Share) (out out' : SendList) (line : ℕ) (row : LineShare → Outcome) : Type 0 where
  pub share : new ≡ (row_at sizes node old line row).share
  pub sends : out' ≡ sent out (row_at sizes node old line row).sends

-- what the definition of an act says is done: the new share, and the messages sent
pub record Did (act : Result NodeOutcome Cause) (new : Share) (out out' : SendList) : Type 0 where
  pub outcome : NodeOutcome
  pub is : act ≡ Ok outcome
  pub share : new ≡ outcome.share
  pub sends : out' ≡ sent out outcome.sends

-- there is room for so many messages more
abbrev pub HasRoom : SendList → ℕ → Type 0
HasRoom out count = length out.list + count ≤ out.room

-- what holds of a line at its home, whose copy is this one
abbrev pub IsOwnCopy : ℕ → Copy → Header → Type 0
IsOwnCopy home copy header = (want : Option Want) × IsOwnLine home (record { copy = copy; want = want; header = header })

-- and whatever its copy is
abbrev pub IsOwnHeader : ℕ → Header → Type 0
IsOwnHeader home header = (copy : Copy) × IsOwnCopy home copy header

-- the copy of its line that an operation leaves where it took one with these words: a load a shared one, a write an exclusive one
abbrev pub copy_done : Op → Words → Copy
copy_done op words = if is_load op.kind then Shared words else Exclusive (after_op op words)
