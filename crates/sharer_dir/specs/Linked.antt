-- A directory whose lists cost links: the head of each list stands in its line's record, and each other node in a link.
use Rattle.std.specs.Prelude.{◌≡◌, ℕ, suc, option_map, ◌<◌, ◌==◌, Bool, true, false, if◌then◌else◌, List, [], ◌∷◌, length, replicate, slice_index_or, slice_set, Option, Some, None, refl}
use Rattle.std.specs.Coded.{Coded, code_by, coded×, coded_ℕ, coded_list, coded_option}
use Rattle.op_model.specs.Nodes.{Nodes, none, listed, enlist, unlist, count}
use Rattle.dir_header.specs.Codes.{nodes_code}
use Rattle.dir_header.specs.Sharers.{Directory, Linked, only_this}
use Rattle.link_store.specs.Pools.{Chain, Pool, IsPartition, times_in, nodes_of, links_of, chain_of, with_chain, first_pool, first_node, after_put, after_pop, after_unlink, link_with}
use Rattle.link_store.specs.Codes.{pool_code}

-- A linked directory: the head of each line's list, the pool with the rest of the lists, and the sets that the lists stand for
pub record LinkedView : Type 0 where
  pub heads : List (Option ℕ)
  pub pool : Pool
  pub sets : List Nodes

-- the head of a line's list
abbrev pub head_at : LinkedView → ℕ → Option ℕ
head_at dir m = slice_index_or dir.heads m None

-- the set that a line's list stands for
abbrev pub set_at : LinkedView → ℕ → Nodes
set_at dir m = slice_index_or dir.sets m none

-- the nodes of a list: its head, and those of its links
abbrev pub nodes_in : Option ℕ → Chain → List ℕ
nodes_in None chain = nodes_of chain
nodes_in (Some head) chain = head ∷ nodes_of chain

-- A list stands for a set: without a head it has no links, and its nodes are all different and are together the set
pub record Stands (head : Option ℕ) (chain : Chain) (set : Nodes) : Type 0 where
  pub empty : head ≡ None → chain ≡ []
  pub once : (node : ℕ) → times_in node (nodes_in head chain) ≡ (if listed set node then 1 else 0)
  pub many : length (nodes_in head chain) ≡ count set

-- What holds of each linked directory: each list stands for its set, and each link is free or in the list of one line
pub record IsLinkedDir (dir : LinkedView) : Type 0 where
  pub heads : length dir.heads ≡ length dir.sets
  pub chains : length dir.pool.chains ≡ length dir.sets
  pub stands : (m : ℕ) → m < length dir.sets → Stands (head_at dir m) (chain_of dir.pool m) (set_at dir m)
  pub partition : IsPartition dir.pool

-- the directory that it is: its lists cost links, and its nodes are below 64
abbrev pub linked_directory : LinkedView → Directory
linked_directory dir = record { lists = dir.sets; charge = Linked; links = dir.pool.count; nodes = 64 }

-- the line in whose chain a link stands
abbrev pub line_among : ℕ → List Chain → Option ℕ
line_among link [] = None
line_among link (chain ∷ chains) = if times_in link (links_of chain) == 0 then option_map suc (line_among link chains) else Some 0

abbrev pub line_with : LinkedView → ℕ → Option ℕ
line_with dir link = line_among link dir.pool.chains

-- at first all lists are empty and all links are free
abbrev pub first_linked : ℕ → ℕ → LinkedView
first_linked lines links = record { heads = replicate lines None; pool = first_pool lines links; sets = replicate lines none }

-- the directory after a node that isn't listed was added: the head stays where there is one, and the node takes the first of these
-- free links
abbrev pub added : Option ℕ → List ℕ → LinkedView → ℕ → ℕ → LinkedView
added None free dir m node = record { heads = slice_set dir.heads m (Some node); pool = dir.pool; sets = slice_set dir.sets m (enlist (set_at dir m) node) }
added (Some head) [] dir m node = dir
added (Some head) (link ∷ free) dir m node = record { heads = dir.heads; pool = after_put dir.pool m node (link ∷ free); sets = slice_set dir.sets m (enlist (set_at dir m) node) }

abbrev pub after_add : LinkedView → ℕ → ℕ → LinkedView
after_add dir m node = if listed (set_at dir m) node then dir else added (head_at dir m) dir.pool.free dir m node

-- whether a node is the head of a list
abbrev pub is_head : Option ℕ → ℕ → Bool
is_head None node = false
is_head (Some head) node = head == node

-- the directory after a listed node was removed, which is the head or not: the node of the first link becomes the head
abbrev pub removed : Bool → LinkedView → ℕ → ℕ → LinkedView
removed true dir m node = record { heads = slice_set dir.heads m (first_node (chain_of dir.pool m)); pool = after_pop dir.pool m (chain_of dir.pool m); sets = slice_set dir.sets m (unlist (set_at dir m) node) }
removed false dir m node = record { heads = dir.heads; pool = after_unlink dir.pool m node (link_with (chain_of dir.pool m) node); sets = slice_set dir.sets m (unlist (set_at dir m) node) }

abbrev pub after_remove : LinkedView → ℕ → ℕ → LinkedView
after_remove dir m node = if listed (set_at dir m) node then removed (is_head (head_at dir m) node) dir m node else dir

-- the pool after the links of this chain of a line became free one by one, from the first one on
abbrev pub emptied : Chain → Pool → ℕ → Pool
emptied [] pool m = pool
emptied (e ∷ chain) pool m = emptied chain (with_chain pool m chain (e.0 ∷ pool.free)) m

-- the directory after a line's list became that of this node alone, or empty
abbrev pub after_clear : LinkedView → ℕ → Option ℕ → LinkedView
after_clear dir m only = record { heads = slice_set dir.heads m only; pool = emptied (chain_of dir.pool m) dir.pool m; sets = slice_set dir.sets m (only_this only) }

abbrev pub linked_code : Coded LinkedView
linked_code =
    code_by (List (Option ℕ) × (Pool × List Nodes)) (coded× (coded_list (coded_option coded_ℕ)) (coded× pool_code (coded_list nodes_code)))
    (λ d. (d.heads, (d.pool, d.sets))) (λ p. record { heads = p.0; pool = p.1.0; sets = p.1.1 }) (λ _. refl)
