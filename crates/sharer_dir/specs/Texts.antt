-- The text of a line's list and that of the free list, each without a line's end.
use Rattle.std.specs.Prelude.{ℕ, ◌++◌, List, codes, decimal, flat_map, Option}
use Rattle.link_store.specs.Pools.{Chain}
pub use Rattle.decimal_text.specs.Text.{decimal_or_dash as head_text}

-- a link with its node, and a space before it
abbrev pub link_text : ℕ × ℕ → List ℕ
link_text e = codes " " ++ decimal e.0 ++ codes ":" ++ decimal e.1

-- the line's number, the head of its list, and the links
abbrev pub list_text : ℕ → Option ℕ → Chain → List ℕ
list_text m head chain = decimal m ++ codes " head " ++ head_text head ++ codes " links" ++ flat_map link_text chain

abbrev pub number_text : ℕ → List ℕ
number_text link = codes " " ++ decimal link

abbrev pub free_list_text : List ℕ → List ℕ
free_list_text free = codes "free" ++ flat_map number_text free
