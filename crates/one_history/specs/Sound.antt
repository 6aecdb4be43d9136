-- What holds of the whole machine, with the operations served so far, after every run.
use Rattle.std.specs.Prelude.{◌≡◌, ℕ, suc, Bool, true, false, not, ◌&&◌, ◌||◌, ◌⊎◌, ◌==◌, List, length, slice_get, Option, Some, None}
use Rattle.line_map.specs.Sizes.{Sizes, line_of, home_of, set_of}
use Rattle.op_model.specs.declared.operations.Op.{Op}
use Rattle.op_model.specs.declared.operations.Entry.{Entry}
use Rattle.op_model.specs.declared.state.Want.{Want}
use Rattle.op_model.specs.Flat.{IsLegal}
use Rattle.op_model.specs.Lines.{is_empty}
use Rattle.op_model.specs.Shares.{Trace, program, Share, copy_of}
use Rattle.op_model.specs.Run.Runs.{Past}
use Rattle.op_model.specs.Run.History.{entries_by, Follows}
use Rattle.line_invariant.specs.Good.{IsGood}
use Rattle.one_history.specs.Project.{project, line_words}

-- an operation is the next one of a node, and of this line
abbrev pub IsNextOp : Trace → ℕ → ℕ → ℕ → Op → Type 0
IsNextOp trace node place line op = (slice_get (program trace node) place ≡ Some op) × (line_of trace.sizes op.word ≡ line)

-- what a node has begun is its next operation
abbrev pub IsBegunWell : Trace → ℕ → ℕ → Option Want → Type 0
IsBegunWell trace node place None = Unit {0}
IsBegunWell trace node place (Some want) = slice_get (program trace node) place ≡ Some want.op

-- A node's entries are its operations below its place, each once and in order, and after them the operation that it has begun
-- where that was served
pub record IsOrdered (trace : Trace) (node : ℕ) (share : Share) (entries : List Entry) : Type 0 where
  pub begun : IsBegunWell trace node share.place share.want
  pub order : Follows (program trace node) 0 entries
  pub count : (length entries ≡ share.place) ⊎ (length entries ≡ suc share.place)
  pub rests : share.want ≡ None → length entries ≡ share.place

-- whether a node has begun an operation on this line
abbrev pub is_begun_on : Sizes → Option Want → ℕ → Bool
is_begun_on sizes None line = false
is_begun_on sizes (Some want) line = line_of sizes want.op.word == line

-- whether the load of this line that a node has begun was served
abbrev pub answered_in : Sizes → Share → List Entry → ℕ → Bool
answered_in sizes share entries line = is_begun_on sizes share.want line && (length entries == suc share.place)

abbrev pub answered_of : Sizes → Past → ℕ → ℕ → Bool
answered_of sizes past line node = answered_in sizes (past.state.share node) (entries_by node past.served) line

-- whether a node has a copy of the line, or has begun an operation on it
abbrev pub is_kept : Sizes → Share → ℕ → Bool
is_kept sizes share line = not (is_empty (copy_of share line)) || is_begun_on sizes share.want line

-- a cache set holds at most one line, and no other than one that the node waits for
abbrev pub IsCached : Sizes → Share → Type 0
IsCached sizes share = (a b : ℕ) → is_kept sizes share a ≡ true → is_kept sizes share b ≡ true → set_of sizes a ≡ set_of sizes b → a ≡ b

-- The caches hold no two lines of one set; what was served is legal on one flat memory, and in the order of each program; and
-- what holds of one line holds of each
pub record IsSound (trace : Trace) (past : Past) : Type 0 where
  pub cached : (node : ℕ) → IsCached trace.sizes (past.state.share node)
  pub legal : IsLegal past.served
  pub ordered : (node : ℕ) → IsOrdered trace node (past.state.share node) (entries_by node past.served)
  pub lines : (line : ℕ) → IsGood (home_of trace.sizes line) (project trace.sizes past.state (line_words trace.sizes past.served line) (answered_of trace.sizes past line) line)
