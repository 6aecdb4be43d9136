-- What an input that is checked says: a trace and a printed history of it, which is good or has a first bad entry.
use Rattle.std.specs.Prelude.{◌≡◌, ℕ, List, ◌++◌, length, codes, Result, Ok, Err}
use Rattle.line_map.specs.Sizes.{◌>>=◌}
use Rattle.op_model.specs.declared.operations.Entry.{Entry}
use Rattle.op_model.specs.Shares.{Trace, program}
use Rattle.decimal_text.specs.Text.{named}
use Rattle.trace_text.specs.declared.fault.TraceError.{TraceError}
use Rattle.trace_text.specs.declared.fault.TraceError.TheVariants as fault
use Rattle.trace_text.specs.Reading.{trace_of}
use Rattle.hist_check.specs.declared.fault.EntryCause.{EntryCause}
use Rattle.hist_check.specs.declared.fault.EntriesError.{EntriesError}
use Rattle.hist_check.specs.declared.fault.EntriesError.TheVariants as behind
use Rattle.hist_check.specs.declared.fault.CheckError.{CheckError}
use Rattle.hist_check.specs.declared.fault.CheckError.TheVariants as judged
use Rattle.hist_check.specs.Cut.{IsCut}
use Rattle.hist_check.specs.Reading.{report_history}
use Rattle.hist_check.specs.Good.{IsGood, all_missing}
use Rattle.hist_check.specs.Bad.{IsFirstBad}
use Rattle.check_command.specs.declared.refusal.CheckRefusal.{CheckRefusal}
use Rattle.check_command.specs.declared.refusal.CheckRefusal.TheVariants.{Input, IllegalHistory}

-- a fault of the lines behind a trace, as a fault of the input
abbrev pub fault_of : EntriesError → TraceError
fault_of (behind.Bad line cause) = fault.Bad line cause
fault_of behind.Memory = fault.Memory

abbrev pub of_entries : Result (List Entry) EntriesError → Result (List Entry) TraceError
of_entries (Ok history) = Ok history
of_entries (Err error) = Err (fault_of error)

-- a trace and the history in the lines behind it, the first of which has this number; or the first fault: that of the trace, or else that of these lines
abbrev pub piece_by_piece : List ℕ → List ℕ → ℕ → Result (Trace × List Entry) TraceError
piece_by_piece front rest next = do
  trace ← trace_of front
  history ← of_entries (report_history trace.sizes trace.version next rest)
  Ok (trace, history)

-- An input is cut behind its trace, and both pieces are read. A fault of the trace is that of the whole input
pub record IsReadAs (bytes : List ℕ) (read : Result (Trace × List Entry) TraceError) : Type 0 where
  pub front : List ℕ
  pub rest : List ℕ
  pub next : ℕ
  pub cut : IsCut bytes front rest next
  pub whole : (error : TraceError) → trace_of front ≡ Err error → trace_of bytes ≡ Err error
  pub is : read ≡ piece_by_piece front rest next

-- an input is refused for a fault. Want of memory says nothing of it
abbrev pub IsFault : List ℕ → TraceError → Type 0
IsFault bytes fault.Memory = Unit {0}
IsFault bytes error = IsReadAs bytes (Err error)

-- how many entries a good history has, and how many operations have none
abbrev pub checked_text : ℕ → ℕ → List ℕ
checked_text entries missing = codes "flash check 1\n" ++ named (codes "entries ") entries ++ named (codes "missing ") missing ++ codes "end\n"

-- The input is a trace, a good history of it stands behind it, and this is the text
pub record IsChecked (bytes text : List ℕ) : Type 0 where
  pub trace : Trace
  pub history : List Entry
  pub read : IsReadAs bytes (Ok (trace, history))
  pub good : IsGood (program trace) history
  pub printed : text ≡ checked_text (length history) (all_missing (program trace) trace.sizes.nodes history)

-- The input is a trace, and the history behind it isn't good: the entry of this number, from 1, is the first bad one, and this is its first cause
pub record IsIllegal (bytes : List ℕ) (number : ℕ) (cause : EntryCause) : Type 0 where
  pub trace : Trace
  pub history : List Entry
  pub read : IsReadAs bytes (Ok (trace, history))
  pub first : IsFirstBad (program trace) history number cause
  pub refused : ¬ IsGood (program trace) history

-- why there is no text
abbrev pub IsUncheckable : List ℕ → CheckRefusal → Type 0
IsUncheckable bytes (Input error) = IsFault bytes error
IsUncheckable bytes (IllegalHistory number cause) = IsIllegal bytes number cause

-- how a judgement that isn't good ends
abbrev pub refusal_of : CheckError → CheckRefusal
refusal_of (judged.Bad number cause) = IllegalHistory number cause
refusal_of judged.Memory = Input fault.Memory
