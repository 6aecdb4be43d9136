-- What each status of a call for a chart means: of the words, of the bytes that come in and of the bytes that go out.
use Rattle.std.specs.Prelude.{◌≡◌, ℕ, nat_le, if◌then◌else◌, List, [], ◌∷◌, Option, Some, None, Result, Ok, Err}
use Rattle.op_model.specs.Shares.{Trace}
use Rattle.text_lines.specs.declared.numbers.WordCause.{WordCause}
use Rattle.text_lines.specs.Numbers.{decimal_word}
use Rattle.trace_text.specs.Reading.{trace_of}
use Rattle.chart_command.specs.declared.charting.ChartError.{ChartError}
use Rattle.chart_command.specs.declared.charting.ChartError.TheVariants as error
use Rattle.chart_command.specs.Charted.{IsChart, IsNoChart}
use Rattle.flash_top.specs.declared.status.Status.{Status}
use Rattle.flash_top.specs.declared.status.Status.TheVariants.{Memory, NotEnabled, NoLine}
use Rattle.flash_top.specs.Served.{SourceSeen, SinkSeen, IsUnread, IsUnwritten, Reads, IsUnreadable, IsNoTrace, Ends}
use Rattle.chart_top.specs.declared.status.ChartStatus.{ChartStatus}
use Rattle.chart_top.specs.declared.status.ChartStatus.TheVariants.{Usage, TooManyNodes, TooManyShown, Plain}

-- ---- words

abbrev pub chosen_in : Result ℕ WordCause → Option (Option ℕ)
chosen_in (Ok line) = if nat_le line 4294967295 then Some (Some line) else None
chosen_in (Err cause) = None

-- Without words all lines are drawn, and with one word the line of this number, which has at most 32 bits. None for other words
abbrev pub chosen_of : List (List ℕ) → Option (Option ℕ)
chosen_of [] = Some None
chosen_of (number ∷ []) = chosen_in (decimal_word number)
chosen_of words = None

-- ---- what is read and written

-- this text is the chart of the trace that the source has
pub record ChartsText (chosen : Option ℕ) (source : SourceSeen) (text : List ℕ) : Type 0 where
  pub trace : Trace
  pub input : Reads source (λ bytes. trace_of bytes ≡ Ok trace)
  pub right : IsChart chosen trace text

-- there is no chart of the trace that the source has, for this cause
pub record ChartsNone (chosen : Option ℕ) (source : SourceSeen) (cause : ChartError) : Type 0 where
  pub trace : Trace
  pub input : Reads source (λ bytes. trace_of bytes ≡ Ok trace)
  pub right : IsNoChart chosen trace cause

abbrev pub IsUncharted : Status → Option ℕ → SourceSeen → Type 0
IsUncharted (NoLine line) chosen source = ChartsNone chosen source (error.NoLine line)
IsUncharted (NotEnabled step cause) chosen source = ChartsNone chosen source (error.NotEnabled step cause)
IsUncharted status chosen source = IsUnreadable IsNoTrace status source

-- why there is no chart, and so the call ended. Want of memory may come at any place before the first byte is written
abbrev pub HasNoChart : ChartStatus → Option ℕ → SourceSeen → Type 0
HasNoChart Usage chosen source = ⊥
HasNoChart (TooManyNodes count) chosen source = ChartsNone chosen source (error.TooManyNodes count)
HasNoChart (TooManyShown count) chosen source = ChartsNone chosen source (error.TooManySteps count)
HasNoChart (Plain status) chosen source = IsUncharted status chosen source

-- what a status says of a call for a chart of this choice
abbrev pub IsCharted : ChartStatus → Option ℕ → SourceSeen → SinkSeen → Type 0
IsCharted (Plain status) chosen source sink = Ends (ChartsText chosen source) (λ other. IsUncharted other chosen source) status sink
IsCharted status chosen source sink = HasNoChart status chosen source × IsUnwritten sink

abbrev pub IsChartedFor : ChartStatus → Option (Option ℕ) → SourceSeen → SinkSeen → Type 0
IsChartedFor status None source sink = ⊥
IsChartedFor status (Some chosen) source sink = IsCharted status chosen source sink

-- What a status says of a call with these words. Usage comes exactly where they choose nothing, and then nothing is read or written
abbrev pub IsRightChart : ChartStatus → List (List ℕ) → SourceSeen → SinkSeen → Type 0
IsRightChart Usage words source sink = (chosen_of words ≡ None) × IsUnread source × IsUnwritten sink
IsRightChart status words source sink = IsChartedFor status (chosen_of words) source sink

-- how a cause for no chart ends the call
abbrev pub status_of_chart : ChartError → ChartStatus
status_of_chart (error.TooManyNodes count) = TooManyNodes count
status_of_chart (error.TooManySteps count) = TooManyShown count
status_of_chart (error.NoLine line) = Plain (NoLine line)
status_of_chart (error.NotEnabled step cause) = Plain (NotEnabled step cause)
status_of_chart error.Memory = Plain Memory
