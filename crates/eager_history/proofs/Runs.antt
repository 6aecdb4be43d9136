-- Every run of the eager machine is sound: at the start each line is as it is at first, with no history, and each event keeps what holds.
use Rattle.std.proofs.Common.{◌≡◌, ℕ, ◌<◌, List, [], ◌∷◌, refl, sym, subst, Option, Some, None, Result, Ok, Err}
use Rattle.line_map.specs.Sizes.{home_of}
use Rattle.op_model.specs.Events.Step.{and_then}
use Rattle.op_model.specs.Shares.{Trace, program}
use Rattle.eager_model.specs.Types.{Cause, Event}
use Rattle.eager_model.specs.Good.{IsEagerGood}
use Rattle.eager_model.specs.Line.{first_line}
use Rattle.eager_model.specs.Runs.{Past, past_after, run, run_by, start}
use Rattle.eager_model.specs.Step.{AgedDone, effect}
use Rattle.eager_model.proofs.Public.{good-first-line}
use Rattle.one_history.specs.Project.{line_words}
use Rattle.one_history.proofs.Public.{first-line}
use Rattle.one_history.proofs.Public as delayed
use Rattle.eager_history.specs.Project.{aged_line}
use Rattle.eager_history.specs.Sound.{IsEagerSound, IsLineSound}
use Rattle.eager_history.proofs.AgedProject.{same_aged}
use Rattle.eager_history.proofs.Events.{keeps-event}

first-aged : (trace : Trace) (line : ℕ) → aged_line trace.sizes (start trace.sizes) 0 line ≡ first_line (line_words trace.sizes [] line)
unfolding aged_line
first-aged trace line = same_aged _ _ (first-line trace.sizes line) (λ node. refl) refl (λ a b class. refl) refl (λ age. refl) (λ node. refl)

pub sound-start : (trace : Trace) → IsEagerSound trace (start trace.sizes)
sound-start trace =
    record {
      cached = (delayed.sound-start trace).cached;
      ordered = (delayed.sound-start trace).ordered;
      paired = λ a b class. refl;
      lines = line-at;
    }
  where
    line-at : (line : ℕ) → IsLineSound trace (start trace.sizes) line
    line-at line =
        record {
          top = 0;
          good = subst (IsEagerGood (home_of trace.sizes line)) (sym (first-aged trace line)) (good-first-line (home_of trace.sizes line) (line_words trace.sizes [] line));
          history = record { legal = tt; within = tt; last = tt; order = λ node. refl };
        }

-- one event, and what comes after it
go-on : (trace : Trace) (past last : Past) (events : List Event) (r : Result AgedDone Cause) →
    ((d : AgedDone) → r ≡ Ok d → IsEagerSound trace (past_after trace.sizes past d)) →
    ((next : Past) → IsEagerSound trace next → run_by trace.sizes (program trace) next events ≡ Some last → IsEagerSound trace last) →
    and_then r (λ done. run_by trace.sizes (program trace) (past_after trace.sizes past done) events) ≡ Some last → IsEagerSound trace last
go-on trace past last events (Ok done) keeps rest e = rest (past_after trace.sizes past done) (keeps done refl) e
go-on trace past last events (Err cause) keeps rest e = absurd (let d : ◌≡◌ {A = Option Past} None (Some last) = e in cc)

sound-from : (trace : Trace) → 0 < trace.sizes.words → (past last : Past) (events : List Event) → IsEagerSound trace past → run_by trace.sizes (program trace) past events ≡ Some last → IsEagerSound trace last
sound-from trace positive past last [] sound e = let is : past ≡ last = cc in subst (IsEagerSound trace) is sound
sound-from trace positive past last (event ∷ events) sound e =
    go-on trace past last events (effect trace.sizes (program trace) past.state past.ages event) (λ d is. keeps-event trace positive past sound event d is) (λ next s n. sound-from trace positive next last events s n) e

-- every state that a run reaches is sound
pub sound-run : (trace : Trace) (events : List Event) (past : Past) → 0 < trace.sizes.words → run trace events ≡ Some past → IsEagerSound trace past
sound-run trace events past positive e = sound-from trace positive (start trace.sizes) past events (sound-start trace) e
