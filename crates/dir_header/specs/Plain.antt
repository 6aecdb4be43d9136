-- A plain directory: its lists cost no links, and each is kept as the bits of a word.
use Rattle.std.specs.Prelude.{ℕ, ◌≤◌, ◌<◌, ◌^◌, List, length, map}
use Rattle.op_model.specs.Nodes.{Nodes}
use Rattle.dir_header.specs.Sharers.{Directory, Unlinked, IsDirectory}
use Rattle.dir_header.specs.WordSets.{members}

-- the listed nodes of each line, how many links there are in all, and a bound on nodes
pub record PlainView : Type 0 where
  pub lists : List Nodes
  pub links : ℕ
  pub nodes : ℕ

-- the directory that it is
abbrev pub plain_directory : PlainView → Directory
plain_directory plain = record { lists = plain.lists; charge = Unlinked; links = plain.links; nodes = plain.nodes }

abbrev pub plain_view : List ℕ → ℕ → ℕ → PlainView
plain_view words links nodes = record { lists = map members words; links = links; nodes = nodes }

-- the nodes fit in a word, and the lines have numbers of 32 bits
pub record IsPlain (words : List ℕ) (links nodes : ℕ) : Type 0 where
  pub few : nodes ≤ 64
  pub lines : length words < 2 ^ 32
  pub kept : IsDirectory (plain_directory (plain_view words links nodes))
