-- What a processor keeps: its program, its place in it, and the operation that it has begun and not done.
use Rattle.std.specs.Prelude.{◌≡◌, ℕ, ◌≤◌, List, length, slice_get, Option, Some, None}
use Rattle.op_model.specs.declared.Op.{Op}
use Rattle.op_model.specs.declared.Want.{Want}
use Rattle.op_model.specs.Lines.{begun}
pub use Rattle.op_model.specs.Tables.Remote.{waits_load as is_load_wanted}

pub record ProcView : Type 0 where
  pub program : List Op
  pub place : ℕ
  pub want : Option Want

-- the operation at the place
abbrev pub next_of : ProcView → Option Op
next_of proc = slice_get proc.program proc.place

-- an operation just begun
abbrev pub wanting : Option Op → Option Want
wanting None = None
wanting (Some op) = begun op

-- the place is in the program or behind it, and what has been begun is the operation at the place
pub record IsProc (proc : ProcView) : Type 0 where
  pub placed : proc.place ≤ length proc.program
  pub begun : (want : Want) → proc.want ≡ Some want → next_of proc ≡ Some want.op
