-- The two pieces of an input are read one after the other, and each fault is that of the input.
use Rattle.std.proofs.Common.{◌≡◌, ℕ, List, Result, Ok, Err, refl}
use Rattle.op_model.specs.declared.operations.Entry.{Entry}
use Rattle.op_model.specs.Shares.{Trace}
use Rattle.trace_text.specs.declared.fault.TraceError.{TraceError}
use Rattle.trace_text.specs.declared.fault.TraceError.TheVariants.{Bad, TooManyOps, TooManySteps, Memory}
use Rattle.trace_text.specs.Reading.{Fails as TraceFails, trace_of}
use Rattle.hist_check.specs.declared.fault.EntriesError.{EntriesError}
use Rattle.hist_check.specs.declared.fault.EntriesError.TheVariants as behind
use Rattle.hist_check.specs.Cut.{IsCut}
use Rattle.hist_check.specs.Reading.{Fails, report_history}
use Rattle.check_command.specs.Checked.{fault_of, piece_by_piece, IsReadAs, IsFault}

module _ (bytes front rest : List ℕ) (next : ℕ) (cut : IsCut bytes front rest next) (whole : (error : TraceError) → trace_of front ≡ Err error → trace_of bytes ≡ Err error) where
  read-as : (read : Result (Trace × List Entry) TraceError) → read ≡ piece_by_piece front rest next → IsReadAs bytes read
  read-as read is = record { front = front; rest = rest; next = next; cut = cut; whole = whole; is = is }

  bad : (error : TraceError) → trace_of front ≡ Err error → IsReadAs bytes (Err error)
  bad error is = read-as (Err error) (rw is refl)

  pub trace-fault : (error : TraceError) → TraceFails error (trace_of front) → IsFault bytes error
  trace-fault (Bad line cause) is = bad (Bad line cause) is
  trace-fault TooManyOps is = bad TooManyOps is
  trace-fault TooManySteps is = bad TooManySteps is
  trace-fault Memory is = tt

  module _ (trace : Trace) (read : trace_of front ≡ Ok trace) where
    pub both-read : (history : List Entry) → report_history trace.sizes trace.version next rest ≡ Ok history → IsReadAs bytes (Ok (trace, history))
    both-read history is = read-as (Ok (trace, history)) (rw (read, is) refl)

    pub history-fault : (error : EntriesError) → Fails error (report_history trace.sizes trace.version next rest) → IsFault bytes (fault_of error)
    history-fault (behind.Bad line cause) is = read-as (Err (Bad line cause)) (rw (read, is) refl)
    history-fault behind.Memory is = tt
