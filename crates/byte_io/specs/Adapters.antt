-- What a source over a reader and a sink over a writer show.
use Rattle.std.specs.Prelude.{ℕ, List, Option}

-- the bytes that the reader or the writer tells, if it does, and the count of faults
pub record Told : Type 0 where
  pub bytes : Option (List ℕ)
  pub faults : ℕ
