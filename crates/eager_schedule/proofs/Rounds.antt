-- What an operation's course comes to, put together event by event: in so many events the operation of node p at its place is completed, no other is, and the machine is at rest. What was set going settles within what is left over.
use Rattle.std.proofs.Common.{◌≡◌, ◌≢◌, ℕ, zero, suc, ◌<◌, ◌≤◌, List, [], ◌∷◌, length, refl, arith, ap, subst, Option, Some, None, Ok}
use Rattle.line_map.specs.Sizes.{Sizes, home_of}
use Rattle.op_model.specs.declared.events.Event.{Event}
use Rattle.op_model.specs.Events.Step.{after}
use Rattle.op_model.specs.Messages.{msg_content, msg_line}
use Rattle.op_model.specs.Run.Rest.{IsAtRest}
use Rattle.op_model.specs.Run.Schedules.{Lane, current, delivery, first_busy, lane_or_next, serial_next}
use Rattle.op_model.specs.Shares.{State, Trace, Unlinked, is_set_empty, line_share, program, room_of}
use Rattle.rest_laws.proofs.Public.{first-none, first-some}
use Rattle.schedule_laws.proofs.Public.{IsTracked, IsUsual, Settles, rested-done, under-front}
use Rattle.eager_model.specs.Runs.{Past, past_after}
use Rattle.eager_model.specs.Step.{AgedDone, effect, without_ages}
use Rattle.eager_part.proofs.Public.{each-taken, own-run}
use Rattle.eager_rest.proofs.Public.{delivery-done, delivery-takes}
use Rattle.eager_schedule.specs.Courses.{IsCourse}
use Rattle.eager_schedule.proofs.Quiet.{resting_clear}
use Rattle.eager_schedule.proofs.Runs.{IsReached, reached-event}
use Rattle.eager_schedule.proofs.Settled.{message-settles}
use Rattle.eager_schedule.proofs.Settling.{IsCompleting, completing-after, left_over, less-left}

-- what is under way is delivered first
pub delivers : (trace : Trace) (state : State) (lane : Lane) → first_busy trace.sizes state ≡ Some lane → serial_next Unlinked trace.sizes (program trace) trace.ops state ≡ Some (delivery Unlinked trace.sizes state lane)
delivers trace state lane e = ap (lane_or_next Unlinked trace.sizes (program trace) state (current trace.ops state)) e

module _ (trace : Trace) (usual : IsUsual trace) (p : ℕ) (places : ℕ → ℕ) where
  abbrev sizes : Sizes
  sizes = trace.sizes

  -- in at most so many events the operation of p is completed and all is at rest
  pub record IsRound (past : Past) (most : ℕ) : Type 0 where
    pub events : List Event
    pub end : Past
    pub course : IsCourse trace past events end
    pub within : length events ≤ most
    pub rests : IsAtRest end.state
    pub done : (end.state.share p).place ≡ suc (places p)
    pub others : (n : ℕ) → n ≢ p → (end.state.share n).place ≡ places n

  -- a round may be given more events
  pub round-wider : (past : Past) (most more : ℕ) → most ≤ more → IsRound past most → IsRound past more
  round-wider past most more wide round =
      let within = round.within in
      record { events = round.events; end = round.end; course = round.course; within = omega arith; rests = round.rests; done = round.done; others = round.others }

  -- an event and then a round
  pub round-after : (past : Past) (most : ℕ) (event : Event) (done : AgedDone) → serial_next Unlinked sizes (program trace) trace.ops past.state ≡ Some event → effect sizes (program trace) past.state past.ages event ≡ Ok done →
      IsRound (past_after sizes past done) most → IsRound past (suc most)
  round-after past most event done chosen does round =
      let within = round.within in
      record { events = event ∷ round.events; end = round.end; course = (chosen, done, does, round.course); within = omega arith; rests = round.rests; done = round.done; others = round.others }

  -- a round that is no event
  pub round-none : (past : Past) (most : ℕ) → IsReached trace past → IsTracked p places past.state → first_busy sizes past.state ≡ None → IsRound past most
  round-none past most reached tracked none =
      let still = resting_clear trace reached.0 past usual.ops usual.words reached.1 (first-none sizes past.state none) in
      record { events = []; end = past; course = refl; within = omega arith; rests = still; done = rested-done (places p) (past.state.share p) (still.wants p) tracked.own; others = λ n apart. (tracked.others n apart).1 }

  -- one delivery leaves less to come
  abbrev Lighter : Past → State → Type 0
  Lighter past state = IsCompleting p places state × (left_over sizes state < left_over sizes past.state)

  lighter : (past : Past) → IsCompleting p places past.state → (lane : Lane) → first_busy sizes past.state ≡ Some lane → (done : AgedDone) → effect sizes (program trace) past.state past.ages (delivery Unlinked sizes past.state lane) ≡ Ok done → Lighter past (after past.state (without_ages done))
  lighter past now lane first done is =
      each-taken sizes (program trace) past.state (Lighter past) past.ages lane.src lane.dst lane.class None
      (λ m rest front.
      let inside = first-some sizes past.state lane first in
      let share = past.state.share lane.dst in
      let row = message-settles lane.dst (home_of sizes (msg_line m)) lane.src (room_of Unlinked sizes share) (line_share sizes share (msg_line m)) (is_set_empty sizes share (msg_line m)) (msg_content m) (under-front Settles lane.src lane.dst lane.class m rest past.state.lane front now.under).0 in
      (completing-after sizes past.state lane.src lane.dst lane.class m rest front _ row p places now, less-left sizes past.state lane.src lane.dst lane.class m rest front _ row inside.0.0 inside.0.1))
      done (subst (λ e. effect sizes (program trace) past.state past.ages e ≡ Ok done) (delivery-takes sizes past.state lane) is)

  -- what settles is a round
  pub settle : (fuel : ℕ) (past : Past) → IsReached trace past → IsCompleting p places past.state → left_over sizes past.state ≤ fuel → IsRound past fuel
  settle zero past reached now light = go (first_busy sizes past.state) refl
    where
      go : (o : Option Lane) → first_busy sizes past.state ≡ o → IsRound past zero
      go None e = round-none past zero reached now.tracked e
      go (Some lane) e =
          absurd (let does = delivery-done trace past (own-run trace reached.0 past reached.1) lane e in
          let less = lighter past now lane e does.0 does.1 in
          omega (arith, less.1))
  settle (suc fuel) past reached now light = go (first_busy sizes past.state) refl (settle fuel)
    where
      go : (o : Option Lane) → first_busy sizes past.state ≡ o → ((then : Past) → IsReached trace then → IsCompleting p places then.state → left_over sizes then.state ≤ fuel → IsRound then fuel) → IsRound past (suc fuel)
      go None e later = round-none past (suc fuel) reached now.tracked e
      go (Some lane) e later =
          let event : Event = delivery Unlinked sizes past.state lane in
          let does = delivery-done trace past (own-run trace reached.0 past reached.1) lane e in
          let less = lighter past now lane e does.0 does.1 in
          round-after past fuel event does.0 (delivers trace past.state lane e) does.1
          (later (past_after sizes past does.0) (reached-event trace past reached event does.0 does.1) less.0 (omega (arith, less.1)))
