-- Delivery is done wherever a lane between nodes of the machine isn't empty, and ends where none is, in at most as many events as the
-- state weighs.
-- By induction on the weight, which each delivery step lowers.
use Rattle.std.proofs.Common.{◌≡◌, ℕ, zero, suc, ◌<◌, ◌≤◌, List, [], ◌∷◌, ◌++◌, refl, arith, ap, ◌∙◌, Option, Some, None, Result, Ok, Err, option_map}
use Rattle.op_model.specs.declared.events.Cause.{Cause}
use Rattle.op_model.specs.declared.events.Event.{Event}
use Rattle.op_model.specs.Events.Step.{Done, effect, after, and_then}
use Rattle.op_model.specs.Run.Rest.{IsAtRest}
use Rattle.op_model.specs.Run.Runs.{Past, past_after, run, run_from}
use Rattle.op_model.specs.Run.Schedules.{Lane, first_busy, delivery}
use Rattle.op_model.specs.Run.Weight.{weight, IsClear}
use Rattle.op_model.specs.Shares.{Charge, Trace, State, program}
use Rattle.one_history.specs.Sound.{IsSound}
use Rattle.one_history.proofs.Public.{keeps-event}
use Rattle.lane_bounds.proofs.Public.{IsBounded, bounded-event, bounded-run}
use Rattle.node_range.specs.Range.{IsOfMachine}
use Rattle.rest_laws.specs.Delivery.{Delivery, IsDelivered}
use Rattle.rest_laws.proofs.AtRest.{resting_clear}
use Rattle.rest_laws.proofs.Enabled.{delivered}
use Rattle.rest_laws.proofs.Falls.{falling}
use Rattle.rest_laws.proofs.FirstLane.{first-some, first-none}

-- the delivery of a lane is done, and lowers the weight
abbrev pub IsLighter : Charge → Trace → State → Event → Type 0
IsLighter charge trace state event = (done : Done) × (effect charge trace.sizes (program trace) state event ≡ Ok done) × (weight trace.sizes (after state done) < weight trace.sizes state)

pub delivery-done : (charge : Charge) (trace : Trace) → 0 < trace.sizes.words → 0 < trace.sizes.lines → 0 < trace.sizes.links → (past : Past) → IsSound trace past → IsBounded charge trace.sizes past.state →
    (lane : Lane) → first_busy trace.sizes past.state ≡ Some lane → IsLighter charge trace past.state (delivery charge trace.sizes past.state lane)
delivery-done charge trace positive lines links past sound bounded lane first =
    let it = first-some trace.sizes past.state lane first in
    let does = delivered charge trace.sizes (program trace) past.state lane.src lane.dst lane.class (bounded.own lane.dst) links lines it.1 in
    (does.0, does.1, falling charge trace positive past sound lane.src lane.dst lane.class _ does.0 it.0.0 it.0.1 does.1)

-- delivery comes to an end where no message is under way between nodes of the machine
abbrev pub Ends : Charge → Trace → Past → Type 0
Ends charge trace past = (whole : Delivery charge trace past) × IsClear trace.sizes whole.end.state

module _ (charge : Charge) (trace : Trace) (positive : 0 < trace.sizes.words) (lines : 0 < trace.sizes.lines) (links : 0 < trace.sizes.links) where
  none : (past : Past) → first_busy trace.sizes past.state ≡ None → Ends charge trace past
  none past e = (record { events = []; end = past; steps = refl; few = omega arith }, first-none trace.sizes past.state e)

  deliver : (fuel : ℕ) (past : Past) → IsSound trace past → IsBounded charge trace.sizes past.state → weight trace.sizes past.state ≤ fuel → Ends charge trace past
  deliver zero past sound bounded light = go (first_busy trace.sizes past.state) refl
    where
      go : (o : Option Lane) → first_busy trace.sizes past.state ≡ o → Ends charge trace past
      go None e = none past e
      go (Some lane) e = absurd (let falls = delivery-done charge trace positive lines links past sound bounded lane e in omega (arith, falls.2))
  deliver (suc fuel) past sound bounded light = go (first_busy trace.sizes past.state) refl (deliver fuel)
    where
      go : (o : Option Lane) → first_busy trace.sizes past.state ≡ o → ((next : Past) → IsSound trace next → IsBounded charge trace.sizes next.state → weight trace.sizes next.state ≤ fuel → Ends charge trace next) → Ends charge trace past
      go None e rest = none past e
      go (Some lane) e rest =
          let event : Event = delivery charge trace.sizes past.state lane in
          let does = delivery-done charge trace positive lines links past sound bounded lane e in
          let falls = does.2 in
          let later = rest (past_after trace.sizes past does.0) (keeps-event charge trace positive past sound event does.0 does.1) (bounded-event charge trace positive past sound bounded event does.0 does.1) (omega arith) in
          let few = later.0.few in (
            record {
              events = event ∷ later.0.events;
              end = later.0.end;
              steps = (does.0, ap (option_map (delivery charge trace.sizes past.state)) e, does.1, later.0.steps);
              few = omega arith;
            },
            later.1,
          )

-- events that are delivered run
pub delivered-run : (charge : Charge) (trace : Trace) (past end : Past) (events : List Event) → IsDelivered charge trace past events end → run_from charge trace past events ≡ Some end
delivered-run charge trace past end [] is = ap Some is
delivered-run charge trace past end (event ∷ events) is =
    ap (λ r. and_then r (λ done. run_from charge trace (past_after trace.sizes past done) events)) is.2 ∙ delivered-run charge trace (past_after trace.sizes past is.0) end events is.3

-- a run and one from its end are one run
pub run-on : (charge : Charge) (trace : Trace) (past mid end : Past) (first rest : List Event) → run_from charge trace past first ≡ Some mid → run_from charge trace mid rest ≡ Some end → run_from charge trace past (first ++ rest) ≡ Some end
run-on charge trace past mid end [] rest e f = let same : past ≡ mid = cc in ap (λ p. run_from charge trace p rest) same ∙ f
run-on charge trace past mid end (event ∷ events) rest e f = go (effect charge trace.sizes (program trace) past.state event) (λ next. run-on charge trace next mid end events rest) e
  where
    go : (r : Result Done Cause) → ((next : Past) → run_from charge trace next events ≡ Some mid → run_from charge trace mid rest ≡ Some end → run_from charge trace next (events ++ rest) ≡ Some end) →
        and_then r (λ done. run_from charge trace (past_after trace.sizes past done) events) ≡ Some mid → and_then r (λ done. run_from charge trace (past_after trace.sizes past done) (events ++ rest)) ≡ Some end
    go (Ok done) later e = later (past_after trace.sizes past done) e f
    go (Err cause) later e = absurd (let n : ◌≡◌ {A = Option Past} None (Some mid) = e in cc)

module _ (charge : Charge) (trace : Trace) (before : List Event) (past : Past) (positive : 0 < trace.sizes.words) (lines : 0 < trace.sizes.lines) (links : 0 < trace.sizes.links) (runs : run charge trace before ≡ Some past) where
  pub step_lighter : (lane : Lane) → first_busy trace.sizes past.state ≡ Some lane → IsLighter charge trace past.state (delivery charge trace.sizes past.state lane)
  step_lighter lane first = let both = bounded-run charge trace before past positive runs in delivery-done charge trace positive lines links past both.0 both.1 lane first

  pub delivery_ends : Ends charge trace past
  delivery_ends = let both = bounded-run charge trace before past positive runs in deliver charge trace positive lines links (weight trace.sizes past.state) past both.0 both.1 (omega arith)

  pub delivery_rests : IsOfMachine trace → (whole : Delivery charge trace past) × IsAtRest whole.end.state
  delivery_rests all =
      let whole = delivery_ends.0 in
      let ran = run-on charge trace _ past whole.end before whole.events runs (delivered-run charge trace past whole.end whole.events whole.steps) in
      (whole, resting_clear charge trace (before ++ whole.events) whole.end all positive ran delivery_ends.1)
