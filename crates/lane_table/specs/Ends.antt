-- What is left when a table ends and all its seats are given up.
use Rattle.std.specs.Prelude.{◌≡◌, ℕ, ◌<◌, List, length, if◌then◌else◌, nat_lt, ◌==◌, sum_by, count_by, All}
use Rattle.op_model.specs.Parts.Part.{Part}
use Rattle.op_model.specs.Parts.Journal.{drawn}
use Rattle.lane_table.specs.Setups.{Setup}
use Rattle.lane_table.specs.Rule.{IsTable}

-- The parts of all nodes, each once, and the rule over them. As many tickets were drawn as the journal is long, and each of them stands
-- in the logs once
pub record IsEnded (setup : Setup) (parts : List Part) (tickets : ℕ) : Type 0 where
  pub words : List ℕ
  pub each : ℕ → Part
  pub table : IsTable setup words each
  pub count : tickets ≡ length table.journal
  pub nodes : All (λ part. (part.number < setup.sizes.nodes) × (part ≡ each part.number)) parts
  pub every : (node : ℕ) → node < setup.sizes.nodes → count_by (λ (part : Part). part.number == node) parts ≡ 1
  pub once : (ticket : ℕ) → sum_by (λ (part : Part). drawn ticket part.log) parts ≡ (if nat_lt ticket tickets then 1 else 0)
