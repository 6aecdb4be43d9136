-- One event more: the run and the moments of a list of events and one more behind it. By induction over the events, by what each comes to.
use Rattle.std.proofs.Common.{◌≡◌, suc, List, [], ◌∷◌, ◌++◌, length, refl, ap, sym, subst, Some, Result, Ok, Err}
use Rattle.std.proofs.lemmas.Option.{same_Some}
use Rattle.line_map.specs.Sizes.{Sizes}
use Rattle.op_model.specs.declared.events.Event.{Event}
use Rattle.op_model.specs.declared.events.Cause.{Cause}
use Rattle.op_model.specs.Events.Step.{Programs, and_then}
use Rattle.eager_model.specs.Runs.{Past, past_after, run_by}
use Rattle.eager_model.specs.Step.{AgedDone, effect}
use Rattle.eager_report.specs.Moments.{moment_of, moments, moments_then}

module _ (sizes : Sizes) (programs : Programs) where
  pub run-push : (past mid : Past) (events : List Event) (event : Event) (done : AgedDone) → run_by sizes programs past events ≡ Some mid → effect sizes programs mid.state mid.ages event ≡ Ok done →
      run_by sizes programs past (events ++ event ∷ []) ≡ Some (past_after sizes mid done)
  run-push past mid [] event done is does =
      subst (λ p. run_by sizes programs p (event ∷ []) ≡ Some (past_after sizes mid done)) (sym (same_Some past mid is)) (ap (λ r. and_then r (λ d. Some (past_after sizes mid d))) does)
  run-push past mid (e ∷ events) event done is does = go (effect sizes programs past.state past.ages e) is (λ d. run-push (past_after sizes past d) mid events event done)
    where
      go : (r : Result AgedDone Cause) → and_then r (λ d. run_by sizes programs (past_after sizes past d) events) ≡ Some mid →
          ((d : AgedDone) → run_by sizes programs (past_after sizes past d) events ≡ Some mid → effect sizes programs mid.state mid.ages event ≡ Ok done → run_by sizes programs (past_after sizes past d) (events ++ event ∷ []) ≡ Some (past_after sizes mid done)) →
          and_then r (λ d. run_by sizes programs (past_after sizes past d) (events ++ event ∷ [])) ≡ Some (past_after sizes mid done)
      go (Ok d) runs rest = rest d runs does
      go (Err cause) runs rest = cc

  pub moments-push : (past mid : Past) (events : List Event) (event : Event) (done : AgedDone) → run_by sizes programs past events ≡ Some mid → effect sizes programs mid.state mid.ages event ≡ Ok done →
      moments sizes programs past (events ++ event ∷ []) ≡ moments sizes programs past events ++ moment_of mid event done ∷ []
  moments-push past mid [] event done is does =
      subst (λ p. moments sizes programs p (event ∷ []) ≡ moment_of mid event done ∷ []) (sym (same_Some past mid is)) (ap (λ r. moments_then mid event (λ d. []) r) does)
  moments-push past mid (e ∷ events) event done is does = go (effect sizes programs past.state past.ages e) is (λ d. moments-push (past_after sizes past d) mid events event done)
    where
      go : (r : Result AgedDone Cause) → and_then r (λ d. run_by sizes programs (past_after sizes past d) events) ≡ Some mid →
          ((d : AgedDone) → run_by sizes programs (past_after sizes past d) events ≡ Some mid → effect sizes programs mid.state mid.ages event ≡ Ok done →
          moments sizes programs (past_after sizes past d) (events ++ event ∷ []) ≡ moments sizes programs (past_after sizes past d) events ++ moment_of mid event done ∷ []) →
          moments_then past e (λ d. moments sizes programs (past_after sizes past d) (events ++ event ∷ [])) r ≡ moments_then past e (λ d. moments sizes programs (past_after sizes past d) events) r ++ moment_of mid event done ∷ []
      go (Ok d) runs rest = ap (λ ms. moment_of past e d ∷ ms) (rest d runs does)
      go (Err cause) runs rest = cc

  -- each event of a run is a moment
  pub length-moments : (past mid : Past) (events : List Event) → run_by sizes programs past events ≡ Some mid → length (moments sizes programs past events) ≡ length events
  length-moments past mid [] is = refl
  length-moments past mid (e ∷ events) is = go (effect sizes programs past.state past.ages e) is (λ d. length-moments (past_after sizes past d) mid events)
    where
      go : (r : Result AgedDone Cause) → and_then r (λ d. run_by sizes programs (past_after sizes past d) events) ≡ Some mid →
          ((d : AgedDone) → run_by sizes programs (past_after sizes past d) events ≡ Some mid → length (moments sizes programs (past_after sizes past d) events) ≡ length events) →
          length (moments_then past e (λ d. moments sizes programs (past_after sizes past d) events) r) ≡ suc (length events)
      go (Ok d) runs rest = ap suc (rest d runs)
      go (Err cause) runs rest = cc

  -- a run of one event more goes through what the event does
  pub run-split : (past mid last : Past) (events : List Event) (event : Event) → run_by sizes programs past events ≡ Some mid → run_by sizes programs past (events ++ event ∷ []) ≡ Some last →
      (done : AgedDone) × (effect sizes programs mid.state mid.ages event ≡ Ok done) × (last ≡ past_after sizes mid done)
  run-split past mid last [] event is more =
      let same : past ≡ mid = same_Some past mid is in
      go (effect sizes programs mid.state mid.ages event) refl (subst (λ p. run_by sizes programs p (event ∷ []) ≡ Some last) same more)
    where
      go : (r : Result AgedDone Cause) → effect sizes programs mid.state mid.ages event ≡ r → and_then r (λ d. Some (past_after sizes mid d)) ≡ Some last → (done : AgedDone) × (effect sizes programs mid.state mid.ages event ≡ Ok done) × (last ≡ past_after sizes mid done)
      go (Ok d) does e = (d, does, sym (same_Some (past_after sizes mid d) last e))
      go (Err cause) does e = cc
  run-split past mid last (e ∷ events) event is more = go (effect sizes programs past.state past.ages e) is more (λ d. run-split (past_after sizes past d) mid last events event)
    where
      go : (r : Result AgedDone Cause) → and_then r (λ d. run_by sizes programs (past_after sizes past d) events) ≡ Some mid → and_then r (λ d. run_by sizes programs (past_after sizes past d) (events ++ event ∷ [])) ≡ Some last →
          ((d : AgedDone) → run_by sizes programs (past_after sizes past d) events ≡ Some mid → run_by sizes programs (past_after sizes past d) (events ++ event ∷ []) ≡ Some last → (done : AgedDone) × (effect sizes programs mid.state mid.ages event ≡ Ok done) × (last ≡ past_after sizes mid done)) →
          (done : AgedDone) × (effect sizes programs mid.state mid.ages event ≡ Ok done) × (last ≡ past_after sizes mid done)
      go (Ok d) runs longer rest = rest d runs longer
      go (Err cause) runs longer rest = cc
