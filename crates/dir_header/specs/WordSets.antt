-- Sets of small numbers, kept as the bits of words.
use Rattle.std.specs.Prelude.{◌≡◌, ℕ, zero, suc, ◌+◌, ◌<◌, ◌/◌, ◌%◌, Bool, not, ◌==◌, if◌then◌else◌, List, length, map, slice_index_or}
use Rattle.std.specs.Int.{bit_at}
use Rattle.op_model.specs.Nodes.{Nodes, none, enlist, listed, in_order}

abbrev pub has_bit : ℕ → ℕ → Bool
has_bit word i = bit_at word i == 1

-- the numbers below n that pass a test
unfoldable pub among : (ℕ → Bool) → ℕ → Nodes
among test zero = none
among test (suc n) = if test n then enlist (among test n) n else among test n

-- the numbers below 64 whose bits are set in a word
unfoldable pub members : ℕ → Nodes
members word = among (has_bit word) 64

-- the numbers below 4096, each of which has a bit in one of 64 words
unfoldable pub lines_of : List ℕ → Nodes
lines_of words = among (λ q. listed (members (slice_index_or words (q / 64) 0)) (q % 64)) 4096

-- the numbers of a home's lines, from their numbers there and the first line of the home
abbrev pub numbered_from : ℕ → Nodes → List ℕ
numbered_from first lines = map (λ m. first + m) (in_order lines)

-- there are 64 words, and a bit is set in the last one for each of them that isn't 0
pub record AreMarked (words : List ℕ) (some : ℕ) : Type 0 where
  pub count : length words ≡ 64
  pub marked : (place : ℕ) → place < 64 → listed (members some) place ≡ not (slice_index_or words place 0 == 0)
