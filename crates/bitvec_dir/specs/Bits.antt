-- Directories as bit vectors: of each line one word, which has a bit for each node. They are seen as the sets of nodes that the words stand for.
use Rattle.std.specs.Prelude.{◌≡◌, ℕ, ◌<◌, ◌≤◌, true, replicate}
use Rattle.op_model.specs.Nodes.{listed, none}
use Rattle.dir_header.specs.Plain.{PlainView, plain_directory}
use Rattle.dir_header.specs.Sharers.{list_at}

-- What holds of each: a word has a bit for each node, and no bit is set at or above the bound on nodes
pub record IsBitDir (dir : PlainView) : Type 0 where
  pub few : dir.nodes ≤ 64
  pub below : (m node : ℕ) → listed (list_at (plain_directory dir) m) node ≡ true → node < dir.nodes

-- at first no bit is set
abbrev pub first_bits : ℕ → ℕ → ℕ → PlainView
first_bits lines nodes links = record { lists = replicate lines none; links = links; nodes = nodes }
