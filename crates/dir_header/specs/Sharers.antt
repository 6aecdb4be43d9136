-- A directory: which nodes are listed for each line of one home, and the links that these lists hold.
use Rattle.std.specs.Prelude.{◌≡◌, ℕ, ◌-◌, ◌<◌, ◌≤◌, Bool, true, not, ◌&&◌, if◌then◌else◌, List, slice_index_or, slice_set, sum_by, Option, Some, None}
use Rattle.op_model.specs.Nodes.{Nodes, listed, none, only, count}
use Rattle.op_model.specs.Lines.{nobody_listed}
pub use Rattle.op_model.specs.Shares.{Charge, Linked, Unlinked, is_linked}

-- A directory: the listed nodes of each line of its home, by the line's number there; whether lists cost links; how many links
-- there are in all; and a bound on nodes
pub record Directory : Type 0 where
  pub lists : List Nodes
  pub charge : Charge
  pub links : ℕ
  pub nodes : ℕ

-- the listed nodes of a line
abbrev pub list_at : Directory → ℕ → Nodes
list_at dir m = slice_index_or dir.lists m none

-- a list of k nodes holds 0 links where k is 0, else k - 1; and none where links don't count
abbrev pub held_by : Charge → Nodes → ℕ
held_by Linked list = if nobody_listed list then 0 else Prim.Native.Nat.pred (count list)
held_by Unlinked list = 0

-- the links that all lists hold, and those that are free
abbrev pub held_in : Directory → ℕ
held_in dir = sum_by (held_by dir.charge) dir.lists

abbrev pub free_in : Directory → ℕ
free_in dir = dir.links - held_in dir

-- a new listing needs a link where the list isn't empty
abbrev pub needs_link : Directory → ℕ → ℕ → Bool
needs_link dir m node = is_linked dir.charge && (not (listed (list_at dir m) node) && not (nobody_listed (list_at dir m)))

-- the directory with another list for a line
abbrev pub with_list : Directory → ℕ → Nodes → Directory
with_list dir m list = record dir { lists = slice_set dir.lists m list }

-- the list of one node, or of none
abbrev pub only_this : Option ℕ → Nodes
only_this None = none
only_this (Some node) = only node

-- What holds of each directory: the lists hold no more links than there are, and each listed node is below the bound
pub record IsDirectory (dir : Directory) : Type 0 where
  pub fits : held_in dir ≤ dir.links
  pub below : (m node : ℕ) → listed (list_at dir m) node ≡ true → node < dir.nodes
