-- A chart follows its run, event by event.
use Rattle.std.proofs.Common.{◌≡◌, List, [], ◌∷◌, ◌++◌, Some, Result, Ok, Err, sym, ap, subst}
use Rattle.std.proofs.lemmas.Option.{same_Some}
use Rattle.line_map.specs.Sizes.{Sizes}
use Rattle.op_model.specs.declared.events.Event.{Event}
use Rattle.op_model.specs.declared.events.Cause.{Cause}
use Rattle.op_model.specs.Shares.{Charge}
use Rattle.op_model.specs.Events.Step.{Programs, Done, effect, and_then}
use Rattle.op_model.specs.Run.Runs.{Past, past_after, run_by}
use Rattle.chart_strokes.specs.Strokes.{Charted, charted_after, charted_then, charted}

module _ (charge : Charge) (sizes : Sizes) (programs : Programs) where
  -- a chart follows its run
  pub charted-past : (chart : Charted) (last : Past) (events : List Event) → run_by charge sizes programs chart.past events ≡ Some last → (charted charge sizes programs chart events).past ≡ last
  charted-past chart last [] is = same_Some chart.past last is
  charted-past chart last (e ∷ events) is = go (effect charge sizes programs chart.past.state e) is (λ d. charted-past (charted_after sizes programs chart e d) last events)
    where
      go : (r : Result Done Cause) → and_then r (λ d. run_by charge sizes programs (past_after sizes chart.past d) events) ≡ Some last →
          ((d : Done) → run_by charge sizes programs (past_after sizes chart.past d) events ≡ Some last → (charted charge sizes programs (charted_after sizes programs chart e d) events).past ≡ last) →
          (charted_then chart (λ d. charted charge sizes programs (charted_after sizes programs chart e d) events) r).past ≡ last
      go (Ok d) runs rest = rest d runs
      go (Err cause) runs rest = cc

  -- one event more
  pub charted-push : (chart : Charted) (mid : Past) (events : List Event) (event : Event) (done : Done) → run_by charge sizes programs chart.past events ≡ Some mid → effect charge sizes programs mid.state event ≡ Ok done →
      charted charge sizes programs chart (events ++ event ∷ []) ≡ charted_after sizes programs (charted charge sizes programs chart events) event done
  charted-push chart mid [] event done is does =
      let here : effect charge sizes programs chart.past.state event ≡ Ok done = subst (λ (p : Past). effect charge sizes programs p.state event ≡ Ok done) (sym (same_Some chart.past mid is)) does in
      ap (λ r. charted_then chart (λ d. charted_after sizes programs chart event d) r) here
  charted-push chart mid (e ∷ events) event done is does = go (effect charge sizes programs chart.past.state e) is (λ d. charted-push (charted_after sizes programs chart e d) mid events event done)
    where
      go : (r : Result Done Cause) → and_then r (λ d. run_by charge sizes programs (past_after sizes chart.past d) events) ≡ Some mid →
          ((d : Done) → run_by charge sizes programs (past_after sizes chart.past d) events ≡ Some mid → effect charge sizes programs mid.state event ≡ Ok done →
          charted charge sizes programs (charted_after sizes programs chart e d) (events ++ event ∷ []) ≡ charted_after sizes programs (charted charge sizes programs (charted_after sizes programs chart e d) events) event done) →
          charted_then chart (λ d. charted charge sizes programs (charted_after sizes programs chart e d) (events ++ event ∷ [])) r ≡ charted_after sizes programs (charted_then chart (λ d. charted charge sizes programs (charted_after sizes programs chart e d) events) r) event done
      go (Ok d) runs rest = rest d runs does
      go (Err cause) runs rest = cc

  -- what each event keeps is so of the whole chart
  pub charted-keeps : (P : Charted → Type 0) → ((chart : Charted) (event : Event) (done : Done) → P chart → P (charted_after sizes programs chart event done)) → (chart : Charted) (events : List Event) → P chart → P (charted charge sizes programs chart events)
  charted-keeps P step chart [] first = first
  charted-keeps P step chart (e ∷ events) first = go (effect charge sizes programs chart.past.state e) (λ d. charted-keeps P step (charted_after sizes programs chart e d) events (step chart e d first))
    where
      go : (r : Result Done Cause) → ((d : Done) → P (charted charge sizes programs (charted_after sizes programs chart e d) events)) → P (charted_then chart (λ d. charted charge sizes programs (charted_after sizes programs chart e d) events) r)
      go (Ok d) rest = rest d
      go (Err cause) rest = first
