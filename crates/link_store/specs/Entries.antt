-- How a pool is kept: one array of entries, in which each link leads to the next one of its list and the last one to the end of the
-- free list or to the header of its line.
use Rattle.std.specs.Prelude.{◌≡◌, ℕ, zero, suc, ◌+◌, ◌<◌, ◌^◌, nat_lt, if◌then◌else◌, false, List, [], ◌∷◌, ◌++◌, length, map, slice_index_or, Option, Some, None}
use Rattle.link_store.specs.declared.entries.Next.{Next}
use Rattle.link_store.specs.declared.entries.Next.TheVariants.{Link, End, Header}
use Rattle.link_store.specs.declared.entries.Entry.{Entry}
use Rattle.link_store.specs.declared.entries.Start.{Start}
use Rattle.link_store.specs.declared.entries.Found.{Found}
use Rattle.link_store.specs.Pools.{Chain, links_of, has_node, Pool, IsPartition}

-- what stands past the end of the array
abbrev pub blank : Entry
blank = record { node = 0; next = End }

-- the entry of a link
abbrev pub entry_at : List Entry → ℕ → Entry
entry_at entries link = slice_index_or entries link blank

-- at first each link leads to the next number, and the last one to the end; and the chain of each line is empty
abbrev pub first_entry : ℕ → ℕ → Entry
first_entry count link = record { node = 0; next = if nat_lt (link + 1) count then Link (link + 1) else End }

abbrev pub first_start : ℕ → Start
first_start m = record { first = Header m; len = 0 }

-- Walking from here by `next` spells this chain, and stops here
abbrev pub Spells : List Entry → Next → Next → Chain → Type 0
Spells entries from stop [] = from ≡ stop
Spells entries from stop (e ∷ chain) = (from ≡ Link e.0) × (e.0 < length entries) × ((entry_at entries e.0).node ≡ e.1) × Spells entries (entry_at entries e.0).next stop chain

-- the chain of so many links that is walked from here
abbrev pub walked : List Entry → ℕ → Next → Chain
walked entries zero at = []
walked entries (suc n) (Link link) = (link, (entry_at entries link).node) ∷ walked entries n (entry_at entries link).next
walked entries (suc n) End = []
walked entries (suc n) (Header m) = []

abbrev pub chain_from : List Entry → Start → Chain
chain_from entries start = walked entries start.len start.first

-- Walking from this start spells this chain and stops here, and the chain has as many links as the start says
pub record IsListed (entries : List Entry) (stop : Next) (start : Start) (chain : Chain) : Type 0 where
  pub spells : Spells entries start.first stop chain
  pub many : length chain ≡ start.len

abbrev pub IsLink : Next → Type 0
IsLink (Link link) = Unit {0}
IsLink End = ⊥
IsLink (Header m) = ⊥

abbrev pub IsStop : Next → Type 0
IsStop (Link link) = ⊥
IsStop End = Unit {0}
IsStop (Header m) = Unit {0}

-- Walking from this start stops at the end of the free list or at a header
pub record Ends (entries : List Entry) (start : Start) : Type 0 where
  pub stop : Next
  pub outside : IsStop stop
  pub listed : IsListed entries stop start (chain_from entries start)

abbrev pub idle : Start
idle = record { first = End; len = 0 }

-- the start of a line's chain
abbrev pub start_at : List Start → ℕ → Start
start_at starts m = slice_index_or starts m idle

-- the pool that is kept so
abbrev pub pool_in : List Entry → List Start → Start → Pool
pool_in entries starts free = record { chains = map (chain_from entries) starts; free = links_of (chain_from entries free); count = length entries }

-- What holds of each pool: each line's chain stops at its own header, the free list at its end, and each link stands in one of them
pub record IsPool (entries : List Entry) (starts : List Start) (free : Start) : Type 0 where
  pub lines : (m : ℕ) → m < length starts → IsListed entries (Header m) (start_at starts m) (chain_from entries (start_at starts m))
  pub free_list : IsListed entries End free (chain_from entries free)
  pub partition : IsPartition (pool_in entries starts free)
  pub fits : length entries < 2 ^ 32

-- the last link of a chain
abbrev pub last_link : Chain → Option ℕ
last_link [] = None
last_link (e ∷ []) = Some e.0
last_link (e ∷ f ∷ chain) = last_link (f ∷ chain)

-- the first link of the chain with this node, and the link before it
pub record IsFound (chain : Chain) (node : ℕ) (found : Found) : Type 0 where
  pub done : Chain
  pub rest : Chain
  pub split : chain ≡ done ++ (found.link, node) ∷ rest
  pub first : has_node done node ≡ false
  pub last : found.before ≡ last_link done
