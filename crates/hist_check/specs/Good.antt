-- A good history: it is legal on one flat memory, and the entries of each node are the first operations of its program, in order.
use Rattle.std.specs.Prelude.{ℕ, ◌-◌, ◌<◌, List, length, sum_by}
use Rattle.std.specs.List.{range_with_len}
use Rattle.op_model.specs.declared.operations.Op.{Op}
use Rattle.op_model.specs.declared.operations.Entry.{Entry}
use Rattle.op_model.specs.Flat.{IsLegal}
use Rattle.op_model.specs.Events.Step.{Programs}
use Rattle.op_model.specs.Run.History.{entries_by, Follows}

-- an entry names an operation of its node's program. A node that the machine hasn't has an empty program
abbrev pub IsKnown : List Op → Entry → Type 0
IsKnown ops entry = entry.index < length ops

pub record IsGood (programs : Programs) (entries : List Entry) : Type 0 where
  pub legal : IsLegal entries
  pub order : (node : ℕ) → Follows (programs node) 0 (entries_by node entries)

-- how many operations of a node have no entry. In a good history they are the last ones of its program
abbrev pub missing_at : Programs → List Entry → ℕ → ℕ
missing_at programs entries node = length (programs node) - length (entries_by node entries)

-- and how many of all nodes
unfoldable pub all_missing : Programs → ℕ → List Entry → ℕ
all_missing programs nodes entries = sum_by (missing_at programs entries) (range_with_len 0 nodes)
