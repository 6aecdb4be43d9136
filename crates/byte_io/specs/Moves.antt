-- What was moved from a source or to a sink.
use Rattle.std.specs.Prelude.{◌≡◌, ℕ, ◌+◌, ◌^◌, ◌<◌, ◌≤◌, List, length, take, Option}
use Rattle.std.specs.Io.KnownBytes.{Consumes, Appends, IsAtEnd}
use Rattle.byte_io.specs.Faults.{raised}
use Rattle.byte_io.specs.declared.moves.ReadStop.{ReadStop}
use Rattle.byte_io.specs.declared.moves.ReadStop.TheVariants.{Fault, TooLong, Memory}

-- these bytes came, nothing is left, and they are within the limit
pub record ReadsAll (old new : Option (List ℕ)) (bytes : List ℕ) : Type 0 where
  pub came : Consumes old new bytes
  pub ended : IsAtEnd new
  pub few : length bytes ≤ 2 ^ 24

-- why reading stopped, where so many bytes had come and the count of faults stood so before and now. Want of memory may come at any time
abbrev pub StopsAfter : ReadStop → ℕ → ℕ → ℕ → Type 0
StopsAfter Fault count before now = (count ≤ 2 ^ 24) × (now ≡ raised before)
StopsAfter TooLong count before now = (count ≡ 2 ^ 24 + 1) × (now ≡ before)
StopsAfter Memory count before now = (count ≤ 2 ^ 24 + 1) × (now ≡ before)

-- some bytes came, perhaps more are left, and reading stopped for this cause
pub record ReadsUntil (old new : Option (List ℕ)) (before now : ℕ) (stop : ReadStop) : Type 0 where
  pub bytes : List ℕ
  pub came : Consumes old new bytes
  pub cause : StopsAfter stop (length bytes) before now

-- a prefix of the bytes was written, and not all of them
pub record AppendsPart (old new : Option (List ℕ)) (bytes : List ℕ) : Type 0 where
  pub count : ℕ
  pub written : Appends old new (take count bytes)
  pub short : count < length bytes
