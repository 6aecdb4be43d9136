-- Event by event a run none of whose events turns on links goes through the same states, whatever lists cost. By induction on the events.
use Rattle.std.proofs.Common.{◌≡◌, false, List, [], ◌∷◌, refl, ap, sym, subst, ◌∙◌, Option, Some, None, Result, Ok, Err}
use Rattle.std.proofs.lemmas.List.Elements.{All-head, All-tail}
use Rattle.std.proofs.lemmas.Option.{same_Some}
use Rattle.line_map.specs.Sizes.{Sizes}
use Rattle.op_model.specs.declared.events.Cause.{Cause}
use Rattle.op_model.specs.declared.events.Event.{Event}
use Rattle.op_model.specs.Shares.{Trace, program, Charge, Linked, Unlinked}
use Rattle.op_model.specs.Events.Step.{Done, Programs, after, and_then, effect}
use Rattle.op_model.specs.Run.Counts.{Moment, moments, moments_then}
use Rattle.op_model.specs.Run.History.{history}
use Rattle.op_model.specs.Run.Runs.{Past, past_after, run, run_by, start}
use Rattle.op_model.proofs.Public.{moment_of}
use Rattle.bitvec_dir.specs.Linkless.{AreLinkless, IsLinkless, trace_moments, turns_on_links}
use Rattle.bitvec_dir.proofs.Acts.{effect-alike}

module _ (a b : Charge) (sizes : Sizes) (programs : Programs) where
  abbrev Is : Moment → Type 0
  Is moment = turns_on_links sizes moment.before moment.event ≡ false

  pub run-alike : (past last : Past) (events : List Event) → run_by a sizes programs past events ≡ Some last → AreLinkless sizes (moments a sizes programs past.state events) →
      (run_by b sizes programs past events ≡ Some last) × (moments b sizes programs past.state events ≡ moments a sizes programs past.state events)
  run-alike past last [] ran free = (ran, refl)
  run-alike past last (event ∷ events) ran free = go (effect a sizes programs past.state event) refl ran free (λ d. run-alike (past_after sizes past d) last events)
    where
      rest_by : Charge → Done → Option Past
      rest_by charge d = run_by charge sizes programs (past_after sizes past d) events

      rest_of : Charge → Done → List Moment
      rest_of charge d = moments charge sizes programs (after past.state d) events

      go : (r : Result Done Cause) → effect a sizes programs past.state event ≡ r → and_then r (rest_by a) ≡ Some last → AreLinkless sizes (moments_then past.state event (λ next. moments a sizes programs next events) r) →
          ((d : Done) → rest_by a d ≡ Some last → AreLinkless sizes (rest_of a d) → (rest_by b d ≡ Some last) × (rest_of b d ≡ rest_of a d)) →
          (and_then (effect b sizes programs past.state event) (rest_by b) ≡ Some last)
          × (moments_then past.state event (λ next. moments b sizes programs next events) (effect b sizes programs past.state event) ≡ moments_then past.state event (λ next. moments a sizes programs next events) r)
      go (Ok d) does ran free later =
          let here = All-head Is (moment_of past.state event d) (rest_of a d) free in
          let same : effect b sizes programs past.state event ≡ Ok d = effect-alike sizes programs past.state b a event here ∙ does in
          let rest = later d ran (All-tail Is (moment_of past.state event d) (rest_of a d) free) in (
            ap (λ r. and_then r (rest_by b)) same ∙ rest.0,
            ap (λ r. moments_then past.state event (λ next. moments b sizes programs next events) r) same ∙ ap (λ ms. moment_of past.state event d ∷ ms) rest.1,
          )
      go (Err cause) does ran free later = absurd (let n : ◌≡◌ {A = Option Past} None (Some last) = ran in cc)

module _ (trace : Trace) (events : List Event) (past : Past) where
  both : IsLinkless trace events past → (run Unlinked trace events ≡ Some past) × (trace_moments Unlinked trace events ≡ trace_moments Linked trace events)
  both is = run-alike Linked Unlinked trace.sizes (program trace) (start trace.sizes) past events is.ran is.free

  pub runs-unlinked : IsLinkless trace events past → run Unlinked trace events ≡ Some past
  runs-unlinked is = (both is).0

  pub moments-alike : IsLinkless trace events past → trace_moments Unlinked trace events ≡ trace_moments Linked trace events
  moments-alike is = (both is).1

  pub ends-agree : (other : Past) → IsLinkless trace events past → run Unlinked trace events ≡ Some other → (other.state ≡ past.state) × (history other ≡ history past)
  ends-agree other is ran =
      let same : other ≡ past = same_Some other past (sym ran ∙ runs-unlinked is) in
      (ap (λ (p : Past). p.state) same, ap history same)

  pub runs-linked : run Unlinked trace events ≡ Some past → AreLinkless trace.sizes (trace_moments Unlinked trace events) → IsLinkless trace events past
  runs-linked ran free =
      let is = run-alike Unlinked Linked trace.sizes (program trace) (start trace.sizes) past events ran free in
      record { ran = is.0; free = subst (AreLinkless trace.sizes) (sym is.1) free }
