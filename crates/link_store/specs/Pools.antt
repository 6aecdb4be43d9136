-- A pool of links: which links stand in the chain of each line and which are free, and what each call makes of that.
use Rattle.std.specs.Prelude.{◌≡◌, ℕ, ◌+◌, ◌<◌, ◌≤◌, ◌==◌, Bool, if◌then◌else◌, List, [], ◌∷◌, length, map, replicate, sum_by, slice_index_or, slice_set, Contains, Option, Some, None}
use Rattle.std.specs.List.{list_any, range_with_len}

-- a chain: its links from the first one on, each with its node
abbrev pub Chain : Type 0
Chain = List (ℕ × ℕ)

abbrev pub links_of : Chain → List ℕ
links_of chain = map (λ e. e.0) chain

abbrev pub nodes_of : Chain → List ℕ
nodes_of chain = map (λ e. e.1) chain

-- A pool: the chain of each line, the free links in their order, and how many links there are in all
pub record Pool : Type 0 where
  pub chains : List Chain
  pub free : List ℕ
  pub count : ℕ

-- the chain of a line
abbrev pub chain_of : Pool → ℕ → Chain
chain_of pool m = slice_index_or pool.chains m []

-- how often a link stands in a list of links
abbrev pub times_in : ℕ → List ℕ → ℕ
times_in link [] = 0
times_in link (other ∷ links) = (if other == link then 1 else 0) + times_in link links

-- how often a link stands in the pool
abbrev pub times : Pool → ℕ → ℕ
times pool link = times_in link pool.free + sum_by (λ chain. times_in link (links_of chain)) pool.chains

-- Each link stands exactly once, either in the free list or in one line's chain; no other number stands there
pub record IsPartition (pool : Pool) : Type 0 where
  pub once : (link : ℕ) → link < pool.count → times pool link ≡ 1
  pub never : (link : ℕ) → pool.count ≤ link → times pool link ≡ 0
  pub total : length pool.free + sum_by length pool.chains ≡ pool.count

-- whether a link of the line's chain has this node
abbrev pub has_node : Chain → ℕ → Bool
has_node chain node = list_any (λ e. e.1 == node) chain

-- at first all links are free, in their order
abbrev pub first_pool : ℕ → ℕ → Pool
first_pool lines count = record { chains = replicate lines []; free = range_with_len 0 count; count = count }

-- a pool with this chain of a line, and these free links
abbrev pub with_chain : Pool → ℕ → Chain → List ℕ → Pool
with_chain pool m chain free = record { chains = slice_set pool.chains m chain; free = free; count = pool.count }

-- the pool after the first of these free links was put in front of the line's chain, with this node
abbrev pub after_put : Pool → ℕ → ℕ → List ℕ → Pool
after_put pool m node [] = pool
after_put pool m node (link ∷ free) = with_chain pool m ((link, node) ∷ chain_of pool m) free

-- the node of the first link of a chain
abbrev pub first_node : Chain → Option ℕ
first_node [] = None
first_node (e ∷ chain) = Some e.1

-- the pool after the first link of the line's chain, which is this one, became free
abbrev pub after_pop : Pool → ℕ → Chain → Pool
after_pop pool m [] = pool
after_pop pool m (e ∷ chain) = with_chain pool m chain (e.0 ∷ pool.free)

-- the first link with a node
abbrev pub link_with : Chain → ℕ → Option ℕ
link_with [] node = None
link_with (e ∷ chain) node = if e.1 == node then Some e.0 else link_with chain node

-- a chain without the first link with a node
abbrev pub without : Chain → ℕ → Chain
without [] node = []
without (e ∷ chain) node = if e.1 == node then chain else e ∷ without chain node

-- the pool after this link, the first in the line's chain with a node, became free
abbrev pub after_unlink : Pool → ℕ → ℕ → Option ℕ → Pool
after_unlink pool m node None = pool
after_unlink pool m node (Some link) = with_chain pool m (without (chain_of pool m) node) (link ∷ pool.free)

-- the link stands in the line's chain
abbrev pub IsLinkOf : Pool → ℕ → ℕ → Type 0
IsLinkOf pool link m = (m < length pool.chains) × Contains (links_of (chain_of pool m)) link
