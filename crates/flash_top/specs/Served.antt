-- What each status means: of the words, of the bytes that come in and of the bytes that go out.
use Rattle.std.specs.Prelude.{◌≡◌, ℕ, ◌+◌, ◌^◌, ◌≤◌, Bool, true, false, List, [], ◌∷◌, codes, length, Option, Some, None, Ok, Err}
use Rattle.std.specs.Str.{bytes_eq}
use Rattle.std.specs.Io.KnownBytes.{Appends, Consumes}
use Rattle.op_model.specs.declared.events.Cause.{Cause}
use Rattle.op_model.specs.Shares.{Trace, Charge, Linked, Unlinked}
use Rattle.byte_io.specs.Faults.{raised}
use Rattle.byte_io.specs.Moves.{ReadsAll, ReadsUntil, AppendsPart}
use Rattle.byte_io.specs.declared.moves.ReadStop.{ReadStop}
use Rattle.byte_io.specs.declared.moves.ReadStop.TheVariants as stop
use Rattle.trace_text.specs.declared.fault.TraceError.{TraceError}
use Rattle.trace_text.specs.declared.fault.TraceError.TheVariants as error
use Rattle.trace_text.specs.Generated.{generated}
use Rattle.trace_text.specs.Reading.{trace_of}
use Rattle.check_command.specs.declared.refusal.CheckRefusal.{CheckRefusal}
use Rattle.check_command.specs.declared.refusal.CheckRefusal.TheVariants as check
use Rattle.check_command.specs.Checked.{IsChecked, IsUncheckable}
use Rattle.command_words.specs.declared.command.Command.{Command}
use Rattle.command_words.specs.declared.command.Command.TheVariants as asked
use Rattle.command_words.specs.declared.command.EagerPlay.{EagerPlay}
use Rattle.command_words.specs.declared.command.Lists.{Lists}
use Rattle.command_words.specs.declared.command.Lists.TheVariants as lists
use Rattle.command_words.specs.declared.command.Play.{Play}
use Rattle.command_words.specs.declared.command.Play.TheVariants.{Gen}
use Rattle.command_words.specs.declared.command.View.{View}
use Rattle.command_words.specs.Words.{command_of}
use Rattle.commands.specs.declared.replaying.ReplayError.{ReplayError}
use Rattle.commands.specs.declared.replaying.ReplayError.TheVariants as replay
use Rattle.commands.specs.declared.viewing.ViewError.{ViewError}
use Rattle.commands.specs.declared.viewing.ViewError.TheVariants as view
use Rattle.commands.specs.Runs.{IsOutput, IsRefusedIn}
use Rattle.commands.specs.Views.{IsView, IsNoView}
use Rattle.eager_command.specs.Outputs.{IsEagerOutput, IsEagerRefusedIn}
use Rattle.run_text.specs.Runs.{IsRunOutput}
use Rattle.flash_top.specs.declared.status.Status.{Status}
use Rattle.flash_top.specs.declared.status.Status.TheVariants.{Done, Usage, BadTrace, TooLong, TooManyOps, TooManySteps, ReadFault, WriteFault, Memory, NotEnabled, IllegalHistory, TooFar, NoLine}

-- what a call saw of its source: the bytes that are left, where they are told, and the count of faults, before and after it
pub record SourceSeen : Type 0 where
  pub left_before : Option (List ℕ)
  pub left_after : Option (List ℕ)
  pub faults_before : ℕ
  pub faults_after : ℕ

-- and of its sink: the bytes that were written, where they are told, and the count of faults
pub record SinkSeen : Type 0 where
  pub written_before : Option (List ℕ)
  pub written_after : Option (List ℕ)
  pub faults_before : ℕ
  pub faults_after : ℕ

-- nothing was written, and no write failed
abbrev pub IsUnwritten : SinkSeen → Type 0
IsUnwritten sink = (sink.written_after ≡ sink.written_before) × (sink.faults_after ≡ sink.faults_before)

-- nothing was read, and no read failed
abbrev pub IsUnread : SourceSeen → Type 0
IsUnread source = (source.left_after ≡ source.left_before) × (source.faults_after ≡ source.faults_before)

-- no more bytes were taken than these, and no read failed
pub record TakesAtMost (source : SourceSeen) (count : ℕ) : Type 0 where
  pub quiet : source.faults_after ≡ source.faults_before
  pub bytes : List ℕ
  pub came : Consumes source.left_before source.left_after bytes
  pub few : length bytes ≤ count

-- reading stopped for this cause: a read failed, and the count of faults rose by it alone, or 16,777,217 bytes came
abbrev pub Stopped : SourceSeen → ReadStop → Type 0
Stopped source cause = ReadsUntil source.left_before source.left_after source.faults_before source.faults_after cause

-- the source was read to its end, no read failed, and these bytes came
abbrev pub Came : SourceSeen → List ℕ → Type 0
Came source bytes = ReadsAll source.left_before source.left_after bytes × (source.faults_after ≡ source.faults_before)

-- all bytes came, and this is so of them
pub record Reads (source : SourceSeen) (Says : List ℕ → Type 0) : Type 0 where
  pub bytes : List ℕ
  pub came : Came source bytes
  pub said : Says bytes

-- The trace that a command plays: `gen` generates it and reads nothing, and each other command reads it
abbrev pub IsInput : Play → SourceSeen → Trace → Type 0
IsInput (Gen count seed) source trace = IsUnread source × (trace ≡ generated count seed)
IsInput play source trace = Reads source (λ bytes. trace_of bytes ≡ Ok trace)

-- linked lists cost links, and bit vectors none
abbrev pub charge_of : Lists → Charge
charge_of lists.Linked = Linked
charge_of lists.Bits = Unlinked

-- the command's trace is played over lists of this kind, and this is the text of its run
pub record PlaysText (play : Play) (kind : Lists) (source : SourceSeen) (text : List ℕ) : Type 0 where
  pub trace : Trace
  pub input : IsInput play source trace
  pub right : IsOutput play (charge_of kind) trace text

-- the trace that the source has is played by the eager core, and this is the text of its run
pub record PlaysEagerText (play : EagerPlay) (source : SourceSeen) (text : List ℕ) : Type 0 where
  pub trace : Trace
  pub input : Reads source (λ bytes. trace_of bytes ≡ Ok trace)
  pub right : IsEagerOutput play trace text

-- this text is what is shown of the trace that the source has
pub record ShowsText (shown : View) (source : SourceSeen) (text : List ℕ) : Type 0 where
  pub trace : Trace
  pub input : Reads source (λ bytes. trace_of bytes ≡ Ok trace)
  pub right : IsView shown trace text

-- what a command writes of what its source had
abbrev pub IsTextOf : Command → SourceSeen → List ℕ → Type 0
IsTextOf (asked.Play play kind) source text = PlaysText play kind source text
IsTextOf (asked.Eager play) source text = PlaysEagerText play source text
IsTextOf (asked.View shown) source text = ShowsText shown source text
IsTextOf asked.Check source text = Reads source (λ bytes. IsChecked bytes text)

-- What is read came to nothing, and so the call ended: reading stopped, or the bytes that came are refused for this fault
abbrev pub IsUnreadable : (TraceError → List ℕ → Type 0) → Status → SourceSeen → Type 0
IsUnreadable Refuses (BadTrace line cause) source = Reads source (Refuses (error.Bad line cause))
IsUnreadable Refuses TooManyOps source = Reads source (Refuses error.TooManyOps)
IsUnreadable Refuses TooManySteps source = Reads source (Refuses error.TooManySteps)
IsUnreadable Refuses TooLong source = Stopped source stop.TooLong
IsUnreadable Refuses ReadFault source = Stopped source stop.Fault
IsUnreadable Refuses Memory source = TakesAtMost source (2 ^ 24 + 1)
IsUnreadable Refuses status source = ⊥

-- bytes are no trace
abbrev pub IsNoTrace : TraceError → List ℕ → Type 0
IsNoTrace fault bytes = trace_of bytes ≡ Err fault

-- bytes are no trace with a printed history behind it
abbrev pub IsNoReport : TraceError → List ℕ → Type 0
IsNoReport fault bytes = IsUncheckable bytes (check.Input fault)

-- a generated trace comes to nothing for want of memory alone
abbrev pub IsGenerationOut : Status → SourceSeen → Type 0
IsGenerationOut Memory source = IsUnread source
IsGenerationOut status source = ⊥

-- a command has no trace to play
abbrev pub IsNoInput : Status → Play → SourceSeen → Type 0
IsNoInput status (Gen count seed) source = IsGenerationOut status source
IsNoInput status play source = IsUnreadable IsNoTrace status source

-- the step of this number of the command's trace is the first that isn't enabled, for this cause
pub record IsHalted (play : Play) (kind : Lists) (source : SourceSeen) (step : ℕ) (cause : Cause) : Type 0 where
  pub trace : Trace
  pub input : IsInput play source trace
  pub refused : IsRefusedIn play (charge_of kind) trace step cause

abbrev pub IsUnplayed : Status → Play → Lists → SourceSeen → Type 0
IsUnplayed (NotEnabled step cause) play kind source = IsHalted play kind source step cause
IsUnplayed status play kind source = IsNoInput status play source

-- the step of this number of the trace that the source has is the first that isn't enabled in the eager core, for this cause
pub record IsEagerHalted (play : EagerPlay) (source : SourceSeen) (step : ℕ) (cause : Cause) : Type 0 where
  pub trace : Trace
  pub input : Reads source (λ bytes. trace_of bytes ≡ Ok trace)
  pub refused : IsEagerRefusedIn play trace step cause

abbrev pub IsEagerUnplayed : Status → EagerPlay → SourceSeen → Type 0
IsEagerUnplayed (NotEnabled step cause) play source = IsEagerHalted play source step cause
IsEagerUnplayed status play source = IsUnreadable IsNoTrace status source

-- nothing is shown of the trace that the source has, for this cause
pub record ShowsNone (shown : View) (source : SourceSeen) (cause : ViewError) : Type 0 where
  pub trace : Trace
  pub input : Reads source (λ bytes. trace_of bytes ≡ Ok trace)
  pub right : IsNoView shown trace cause

abbrev pub IsUnshown : Status → View → SourceSeen → Type 0
IsUnshown (TooFar count) shown source = ShowsNone shown source (view.TooFar count)
IsUnshown (NoLine line) shown source = ShowsNone shown source (view.NoLine line)
IsUnshown (NotEnabled step cause) shown source = ShowsNone shown source (view.NotEnabled step cause)
IsUnshown status shown source = IsUnreadable IsNoTrace status source

abbrev pub IsUnchecked : Status → SourceSeen → Type 0
IsUnchecked (IllegalHistory entry cause) source = Reads source (λ bytes. IsUncheckable bytes (check.IllegalHistory entry cause))
IsUnchecked status source = IsUnreadable IsNoReport status source

-- why a command writes no text, and so the call ended. Want of memory may come at any place before the first byte is written
abbrev pub HasNoText : Status → Command → SourceSeen → Type 0
HasNoText status (asked.Play play kind) source = IsUnplayed status play kind source
HasNoText status (asked.Eager play) source = IsEagerUnplayed status play source
HasNoText status (asked.View shown) source = IsUnshown status shown source
HasNoText status asked.Check source = IsUnchecked status source

-- a text that is so was written
pub record IsDone (IsSo : List ℕ → Type 0) (sink : SinkSeen) : Type 0 where
  pub text : List ℕ
  pub right : IsSo text
  pub written : Appends sink.written_before sink.written_after text
  pub quiet : sink.faults_after ≡ sink.faults_before

-- a write failed, the count of faults rose by it alone, and only a part of such a text was written, from its beginning
pub record IsCutShort (IsSo : List ℕ → Type 0) (sink : SinkSeen) : Type 0 where
  pub text : List ℕ
  pub right : IsSo text
  pub written : AppendsPart sink.written_before sink.written_after text
  pub failed : sink.faults_after ≡ raised sink.faults_before

-- What a status says of a call that writes a text that is so, or for some other status none. WriteFault comes only where a write failed.
-- Usage never comes
abbrev pub Ends : (List ℕ → Type 0) → (Status → Type 0) → Status → SinkSeen → Type 0
Ends IsSo HasNone Usage sink = ⊥
Ends IsSo HasNone Done sink = IsDone IsSo sink
Ends IsSo HasNone WriteFault sink = IsCutShort IsSo sink
Ends IsSo HasNone status sink = HasNone status × IsUnwritten sink

-- What a status says of a call whose words are this command. ReadFault comes only where a read failed
abbrev pub IsServed : Status → Command → SourceSeen → SinkSeen → Type 0
IsServed status command source sink = Ends (IsTextOf command source) (λ other. HasNoText other command source) status sink

abbrev pub IsServedFor : Status → Option Command → SourceSeen → SinkSeen → Type 0
IsServedFor status None source sink = ⊥
IsServedFor status (Some command) source sink = IsServed status command source sink

-- What a status says of a call with these words. Usage comes exactly where they are no form of a command, and then nothing is read or written
abbrev pub IsRight : Status → List (List ℕ) → SourceSeen → SinkSeen → Type 0
IsRight Usage words source sink = (command_of words ≡ None) × IsUnread source × IsUnwritten sink
IsRight status words source sink = IsServedFor status (command_of words) source sink

-- the trace that the source has is run in threads, and this is the text of that run
pub record RunsText (source : SourceSeen) (text : List ℕ) : Type 0 where
  pub trace : Trace
  pub input : Reads source (λ bytes. trace_of bytes ≡ Ok trace)
  pub right : IsRunOutput trace text

-- what a status says of a call whose word is `run`
abbrev pub IsRunServed : Status → SourceSeen → SinkSeen → Type 0
IsRunServed status source sink = Ends (RunsText source) (λ other. IsUnreadable IsNoTrace other source) status sink

-- the one word that names a run in threads
abbrev pub is_run : List (List ℕ) → Bool
is_run (word ∷ []) = bytes_eq word (codes "run")
is_run words = false

-- where words name a run in threads, and where they don't
abbrev pub IsRightBy : Bool → Status → List (List ℕ) → SourceSeen → SinkSeen → Type 0
IsRightBy true status words source sink = IsRunServed status source sink
IsRightBy false status words source sink = IsRight status words source sink

-- What a status says of a call with these words, where there are threads: they name a run in threads, or else it is as without threads
abbrev pub IsRightWithThreads : Status → List (List ℕ) → SourceSeen → SinkSeen → Type 0
IsRightWithThreads status words source sink = IsRightBy (is_run words) status words source sink

abbrev pub status_of_stop : ReadStop → Status
status_of_stop stop.Fault = ReadFault
status_of_stop stop.TooLong = TooLong
status_of_stop stop.Memory = Memory

abbrev pub status_of_refusal : TraceError → Status
status_of_refusal (error.Bad line cause) = BadTrace line cause
status_of_refusal error.TooManyOps = TooManyOps
status_of_refusal error.TooManySteps = TooManySteps
status_of_refusal error.Memory = Memory

abbrev pub status_of_replay : ReplayError → Status
status_of_replay (replay.NotEnabled step cause) = NotEnabled step cause
status_of_replay replay.Memory = Memory

abbrev pub status_of_view : ViewError → Status
status_of_view (view.TooFar count) = TooFar count
status_of_view (view.NoLine line) = NoLine line
status_of_view (view.NotEnabled step cause) = NotEnabled step cause
status_of_view view.Memory = Memory

abbrev pub status_of_check : CheckRefusal → Status
status_of_check (check.Input fault) = status_of_refusal fault
status_of_check (check.IllegalHistory entry cause) = IllegalHistory entry cause
