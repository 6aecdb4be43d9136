-- The ages of a line that doesn't drain: every word that counts is newest. No role, no phase and nothing that is under way is named.
use Rattle.std.specs.Prelude.{◌≡◌, ℕ, ◌≤◌, Bool, true, false, if◌then◌else◌, not, ◌||◌, ◌==◌, map, Option, Some, None}
use Rattle.eager_model.specs.Types.{Class, Want}
use Rattle.op_model.specs.Messages.{Content, Wb, Put, PutX, ShWb}
use Rattle.op_model.specs.Lines.{is_empty}
use Rattle.eager_model.specs.Line.{AgedLine}

-- is a load begun whose line wasn't called in meanwhile
abbrev pub is_unmarked : Option Want → Bool
is_unmarked None = false
is_unmarked (Some want) = not want.marked

-- do the words under way to a node's load count: the home takes them into memory, and another node keeps them unless its load is marked
abbrev pub counts : ℕ → ℕ → Option Want → Bool
counts home node want = (node == home) || is_unmarked want

-- the age of a message under way to a node: a Put's is that of the load that it serves, and all other words are newest
abbrev pub newest_age : ℕ → ℕ → Content → ℕ
newest_age top last (Put words) = last
newest_age top last (PutX words) = top
newest_age top last (Wb words) = top
newest_age top last (ShWb words) = top
newest_age top last _ = 0

-- Each copy is newest, each message has its age, memory is newest where the line is clean. No node's last operation is younger than the newest words, and one whose words are
-- under way and count was served with the newest
pub record AreNewest (home : ℕ) (line : AgedLine) : Type 0 where
  pub copies : (node : ℕ) → line.copy_age node ≡ (if is_empty (line.line.copy node) then 0 else line.top)
  pub lanes : (a b : ℕ) (class : Class) → line.lane_age a b class ≡ map (newest_age line.top (line.last b)) (line.line.lane a b class)
  pub memory : line.line.header.dirty ≡ false → line.memory_age ≡ line.top
  pub past : (node : ℕ) → line.last node ≤ line.top
  pub served : (node : ℕ) → line.line.answered node ≡ true → counts home node (line.line.want node) ≡ true → line.last node ≡ line.top
