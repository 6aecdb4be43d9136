-- A lane that isn't empty can be taken from, and no line is ever called in for it. Delivery ends, since each delivery step lowers the weight.
use Rattle.std.proofs.Common.{◌≡◌, ◌≢◌, ℕ, zero, suc, ◌<◌, ◌≤◌, cond, List, [], ◌∷◌, refl, arith, ap, sym, ◌∙◌, subst, Option, Some, None, Ok, option_map}
use Rattle.line_map.specs.Sizes.{Sizes}
use Rattle.op_model.specs.declared.events.Class.{Class}
use Rattle.op_model.specs.declared.events.Event.{Event}
use Rattle.op_model.specs.declared.events.Event.TheVariants.{Take}
use Rattle.op_model.specs.declared.messages.Msg.{Msg}
use Rattle.op_model.specs.Events.Node.{TakeFrom, by_row}
use Rattle.op_model.specs.Events.Step.{Programs, after, and_then, one_off}
use Rattle.op_model.specs.Messages.{msg_line}
use Rattle.op_model.specs.Run.Schedules.{Lane, delivery, first_busy, least_victim, victim_for}
use Rattle.op_model.specs.Run.Weight.{IsClear, weight}
use Rattle.op_model.specs.Shares.{State, Trace, Unlinked, program}
use Rattle.op_model.proofs.Public.{never-asks}
use Rattle.rest_laws.proofs.Public.{first-none, first-some}
use Rattle.eager_model.specs.Node.{aged, local, taking}
use Rattle.eager_model.specs.Runs.{Past, past_after, run, run_by}
use Rattle.eager_model.specs.Step.{AgedDone, Ages, and_answer, answer, effect, first_age, front, without_ages}
use Rattle.eager_part.proofs.Public.{AreOwn, each-taken, own-event, own-run}
use Rattle.eager_rest.specs.Delivery.{Delivery, IsDelivered}
use Rattle.eager_rest.proofs.Falls.{falls}

pub delivery-takes : (sizes : Sizes) (state : State) (lane : Lane) → delivery Unlinked sizes state lane ≡ Take lane.src lane.dst lane.class None
delivery-takes sizes state lane = ap (Take lane.src lane.dst lane.class) (go (state.lane lane.src lane.dst lane.class))
  where
    go : (ms : List Msg) → victim_for Unlinked sizes state lane ms ≡ None
    go [] = refl
    go (m ∷ rest) = ap (λ b. cond b (least_victim Unlinked sizes state lane.dst) None) (never-asks sizes lane.dst (state.share lane.dst) lane.src m)

-- an event is done
abbrev pub IsDone : Sizes → Programs → State → Ages → Event → Type 0
IsDone sizes programs state ages event = (done : AgedDone) × (effect sizes programs state ages event ≡ Ok done)

pub enabled_take : (sizes : Sizes) (programs : Programs) (state : State) (ages : Ages) (src dst : ℕ) (class : Class) → state.lane src dst class ≢ [] → IsDone sizes programs state ages (Take src dst class None)
unfolding local
enabled_take sizes programs state ages src dst class some = go (state.lane src dst class) refl
  where
    go : (ms : List Msg) → state.lane src dst class ≡ ms → (done : AgedDone) × (and_answer (front src dst class None (ages.lane src dst class) ms) (answer sizes programs state ages) ≡ Ok done)
    go [] e = absurd (some e)
    go (m ∷ rest) e = (
      record {
        node = dst;
        off = one_off src dst class;
        did = aged sizes dst (state.share dst) (ages.node dst) (TakeFrom src m None) (first_age (ages.lane src dst class)) (by_row sizes dst (state.share dst) (msg_line m) (taking sizes dst (state.share dst) src m));
      },
      refl,
    )

-- the delivery of a lane is done, and lowers the weight
abbrev pub IsLighter : Trace → Past → Event → Type 0
IsLighter trace past event = (done : AgedDone) × (effect trace.sizes (program trace) past.state past.ages event ≡ Ok done) × (weight trace.sizes (after past.state (without_ages done)) < weight trace.sizes past.state)

pub delivery-done : (trace : Trace) (past : Past) → AreOwn trace past.state → (lane : Lane) → first_busy trace.sizes past.state ≡ Some lane → IsLighter trace past (delivery Unlinked trace.sizes past.state lane)
delivery-done trace past own lane first =
    let it = first-some trace.sizes past.state lane first in
    let does = enabled_take trace.sizes (program trace) past.state past.ages lane.src lane.dst lane.class it.1 in
    subst (IsLighter trace past) (sym (delivery-takes trace.sizes past.state lane)) (
      does.0,
      does.1,
      each-taken trace.sizes (program trace) past.state (λ s. weight trace.sizes s < weight trace.sizes past.state) past.ages lane.src lane.dst lane.class None
          (falls trace past.state own lane.src lane.dst it.0.0 it.0.1 lane.class) does.0 does.1,
    )

-- delivery comes to an end where no message is under way between nodes of the machine
abbrev pub Ends : Trace → Past → Type 0
Ends trace past = (whole : Delivery trace past) × IsClear trace.sizes whole.end.state

module _ (trace : Trace) where
  none : (past : Past) → first_busy trace.sizes past.state ≡ None → Ends trace past
  none past e = (record { events = []; end = past; steps = refl; few = omega arith }, first-none trace.sizes past.state e)

  pub deliver : (fuel : ℕ) (past : Past) → AreOwn trace past.state → weight trace.sizes past.state ≤ fuel → Ends trace past
  deliver zero past own light = go (first_busy trace.sizes past.state) refl
    where
      go : (o : Option Lane) → first_busy trace.sizes past.state ≡ o → Ends trace past
      go None e = none past e
      go (Some lane) e = absurd (let falls = delivery-done trace past own lane e in omega (arith, falls.2))
  deliver (suc fuel) past own light = go (first_busy trace.sizes past.state) refl (deliver fuel)
    where
      go : (o : Option Lane) → first_busy trace.sizes past.state ≡ o → ((next : Past) → AreOwn trace next.state → weight trace.sizes next.state ≤ fuel → Ends trace next) → Ends trace past
      go None e rest = none past e
      go (Some lane) e rest =
          let event : Event = delivery Unlinked trace.sizes past.state lane in
          let does = delivery-done trace past own lane e in
          let falls = does.2 in
          let later = rest (past_after trace.sizes past does.0) (own-event trace past own event does.0 does.1) (omega arith) in
          let few = later.0.few in (
            record {
              events = event ∷ later.0.events;
              end = later.0.end;
              steps = (does.0, ap (option_map (delivery Unlinked trace.sizes past.state)) e, does.1, later.0.steps);
              few = omega arith;
            },
            later.1,
          )

-- events that are delivered run
pub delivered-run : (trace : Trace) (past end : Past) (events : List Event) → IsDelivered trace past events end → run_by trace.sizes (program trace) past events ≡ Some end
delivered-run trace past end [] is = ap Some is
delivered-run trace past end (event ∷ events) is =
    ap (λ r. and_then r (λ done. run_by trace.sizes (program trace) (past_after trace.sizes past done) events)) is.2 ∙ delivered-run trace (past_after trace.sizes past is.0) end events is.3

module _ (trace : Trace) (before : List Event) (past : Past) (runs : run trace before ≡ Some past) where
  pub step_lighter : (lane : Lane) → first_busy trace.sizes past.state ≡ Some lane → IsLighter trace past (delivery Unlinked trace.sizes past.state lane)
  step_lighter lane first = delivery-done trace past (own-run trace before past runs) lane first

  pub delivery_ends : Ends trace past
  delivery_ends = deliver trace (weight trace.sizes past.state) past (own-run trace before past runs) (omega arith)
