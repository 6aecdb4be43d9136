-- The sizes of a machine, their limits, and the map from addresses to words, lines, homes and cache sets.
use Rattle.std.specs.Prelude.{ℕ, ◌*◌, ◌/◌, ◌%◌, ◌≡◌, Bool, true, ◌&&◌, ◌||◌, nat_le, nat_lt, ◌==◌, if◌then◌else◌, Result, Ok, Err}
use Rattle.line_map.specs.declared.machine.Field.{Field}
use Rattle.line_map.specs.declared.machine.Field.TheVariants.{Nodes, Lines, Words, Links, Sets, Pending, Evicts}
use Rattle.line_map.specs.declared.machine.OutOfRange.{OutOfRange}
use Rattle.line_map.specs.declared.address.BadAddr.{BadAddr}
use Rattle.line_map.specs.declared.address.BadAddr.TheVariants.{Unaligned, PastEnd}

-- A machine is its seven sizes: how many nodes, lines of memory a node, words a line, links a node, sets of each cache,
-- pending lines a home, and eviction messages a lane
pub record Sizes : Type 0 where
  pub nodes : ℕ
  pub lines : ℕ
  pub words : ℕ
  pub links : ℕ
  pub sets : ℕ
  pub pending : ℕ
  pub evicts : ℕ

abbrev pub in_limits : Field → ℕ → Bool
in_limits Nodes n = nat_le 2 n && nat_le n 64
in_limits Lines n = nat_le 1 n && nat_le n 4096
in_limits Words n = (n == 1) || ((n == 2) || ((n == 4) || ((n == 8) || (n == 16))))
in_limits Links n = nat_le 1 n && nat_le n 65535
in_limits Sets n = nat_le 1 n && nat_le n 1024
in_limits Pending n = nat_le 1 n && nat_le n 64
in_limits Evicts n = nat_le 1 n && nat_le n 16

-- all sizes are within their limits
pub record AreSizes (sizes : Sizes) : Type 0 where
  pub nodes : in_limits Nodes sizes.nodes ≡ true
  pub lines : in_limits Lines sizes.lines ≡ true
  pub words : in_limits Words sizes.words ≡ true
  pub links : in_limits Links sizes.links ≡ true
  pub sets : in_limits Sets sizes.sets ≡ true
  pub pending : in_limits Pending sizes.pending ≡ true
  pub evicts : in_limits Evicts sizes.evicts ≡ true

infixl 10 ◌>>=◌
abbrev pub ◌>>=◌ : {A B E : Type 0} → Result A E → (A → Result B E) → Result B E
(Ok x) >>= f = f x
(Err e) >>= f = Err e

-- a value within its limits
abbrev pub limited : Field → ℕ → Result ℕ OutOfRange
limited field n = if in_limits field n then Ok n else Err (record { field = field; value = n })

-- the machine of these sizes, or the first that is outside its limits
unfoldable pub sizes_of : ℕ → ℕ → ℕ → ℕ → ℕ → ℕ → ℕ → Result Sizes OutOfRange
sizes_of nodes lines words links sets pending evicts = do
  n ← limited Nodes nodes
  l ← limited Lines lines
  w ← limited Words words
  k ← limited Links links
  s ← limited Sets sets
  p ← limited Pending pending
  e ← limited Evicts evicts
  Ok (record { nodes = n; lines = l; words = w; links = k; sets = s; pending = p; evicts = e })

-- all lines of memory are numbered one after another, node by node, and so are all words
abbrev pub all_lines : Sizes → ℕ
all_lines sizes = sizes.nodes * sizes.lines

abbrev pub all_words : Sizes → ℕ
all_words sizes = sizes.nodes * sizes.lines * sizes.words

-- the word at a byte address
abbrev pub word_at : Sizes → ℕ → Result ℕ BadAddr
word_at sizes byte = if byte % 8 == 0 then (if nat_lt (byte / 8) (all_words sizes) then Ok (byte / 8) else Err PastEnd) else Err Unaligned

-- the line of a word, and the word's place in its line
abbrev pub line_of : Sizes → ℕ → ℕ
line_of sizes word = word / sizes.words

abbrev pub place_of : Sizes → ℕ → ℕ
place_of sizes word = word % sizes.words

-- the node whose memory holds a line
abbrev pub home_of : Sizes → ℕ → ℕ
home_of sizes line = line / sizes.lines

-- the set of each cache that a line goes into
abbrev pub set_of : Sizes → ℕ → ℕ
set_of sizes line = line % sizes.sets
