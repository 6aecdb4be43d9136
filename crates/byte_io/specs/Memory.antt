-- A source and a sink in memory: what they hold, and how a call leaves them.
use Rattle.std.specs.Prelude.{◌≡◌, ℕ, ◌-◌, ◌<◌, min, List, ◌++◌, length, take, drop, Result, Ok, Err, Contains}
use Rattle.byte_io.specs.Faults.{raised}

-- the bytes that are left, the greatest piece, the numbers of the calls that are to fail, and how many calls and failed calls there were
pub record Supply : Type 0 where
  pub left : List ℕ
  pub piece : ℕ
  pub failing : List ℕ
  pub calls : ℕ
  pub faults : ℕ

-- the bytes that are written, the room that is left, and the rest as in a supply
pub record Store : Type 0 where
  pub written : List ℕ
  pub room : ℕ
  pub piece : ℕ
  pub failing : List ℕ
  pub calls : ℕ
  pub faults : ℕ

-- a source whose next call is on its list, and a sink too
abbrev pub IsReadDue : Supply → Type 0
IsReadDue s = Contains s.failing s.calls

abbrev pub IsWriteDue : Store → Type 0
IsWriteDue s = Contains s.failing s.calls

-- there are bytes to write, and there is no room
abbrev pub IsFull : Store → List ℕ → Type 0
IsFull s bytes = (0 < length bytes) × (s.room ≡ 0)

-- how many bytes a call moves that doesn't fail
abbrev pub read_count : Supply → List ℕ → ℕ
read_count s buf = min (min (length buf) s.piece) (length s.left)

abbrev pub write_count : Store → List ℕ → ℕ
write_count s bytes = min (min (length bytes) s.piece) s.room

-- the source and the buffer after a read
abbrev pub after_read : {E : Type 0} → Supply → Result ℕ E → Supply
after_read s (Ok n) = record s { left = drop n s.left; calls = raised s.calls }
after_read s (Err e) = record s { calls = raised s.calls; faults = raised s.faults }

abbrev pub filled : {E : Type 0} → Supply → List ℕ → Result ℕ E → List ℕ
filled s buf (Ok n) = take n s.left ++ drop n buf
filled s buf (Err e) = buf

-- the sink after a write of these bytes
abbrev pub after_write : {E : Type 0} → Store → List ℕ → Result ℕ E → Store
after_write s bytes (Ok n) = record s { written = s.written ++ take n bytes; room = s.room - n; calls = raised s.calls }
after_write s bytes (Err e) = record s { calls = raised s.calls; faults = raised s.faults }
