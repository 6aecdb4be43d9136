-- The finishing schedule ends. First it delivers what is under way, within the weight of the state, and then it completes the operations that
-- are left, one after another; so it ends at rest with every program done. By induction on the operations left.
use Rattle.std.proofs.Common.{◌≡◌, ℕ, zero, suc, ◌+◌, ◌*◌, ◌≤◌, List, [], ◌∷◌, ◌++◌, length, length-append, refl, arith, ap, ◌∙◌, subst, Option, Some, None, option_map}
use Rattle.std.proofs.Math.Nat.{mul-le-mul_left}
use Rattle.line_map.specs.Sizes.{Sizes}
use Rattle.op_model.specs.declared.events.Event.{Event}
use Rattle.op_model.specs.declared.operations.Op.{Op}
use Rattle.op_model.specs.Events.Step.{Programs}
use Rattle.op_model.specs.Run.Rest.{IsAtRest}
use Rattle.op_model.specs.Run.Runs.{Past, past_after, run}
use Rattle.op_model.specs.Run.Schedules.{Lane, all_nodes, delivery, finishing_next, first_busy, first_left, lane_or_next, processor_event}
use Rattle.op_model.specs.Run.Weight.{weight}
use Rattle.op_model.specs.Shares.{Charge, State, Trace, program}
use Rattle.rest_laws.specs.Delivery.{Delivery, IsDelivered}
use Rattle.rest_laws.proofs.Public.{clear-none, delivered-run, delivery_rests, run-on}
use Rattle.schedule_laws.specs.Courses.{IsCompleted, IsCourse, left_count}
use Rattle.schedule_laws.specs.Ends.{AreAllDone, FinishingRun}
use Rattle.schedule_laws.proofs.Completing.{Completes}
use Rattle.schedule_laws.proofs.Courses.{course-append, course-run, course-schedule}
use Rattle.schedule_laws.proofs.Known.{IsUsual, known-run}
use Rattle.schedule_laws.proofs.Lefts.{left-none, left-some}
use Rattle.schedule_laws.proofs.Lists.{at-end}
use Rattle.schedule_laws.proofs.NextOps.{operation}
use Rattle.schedule_laws.proofs.Served.{places-rise, rest-within, served-prefix}
use Rattle.schedule_laws.proofs.Tallies.{left-less, left-one}

-- at rest no lane is busy
pub rest-quiet : (sizes : Sizes) (state : State) → IsAtRest state → first_busy sizes state ≡ None
rest-quiet sizes state rests = clear-none sizes state (λ src dst class src_in dst_in. rests.lanes src dst class)

-- where no lane is busy and no operation is chosen, nothing is next
pub none-next : (charge : Charge) (sizes : Sizes) (programs : Programs) (state : State) (chosen : Option Op) (busy : Option Lane) → chosen ≡ None → busy ≡ None → lane_or_next charge sizes programs state chosen busy ≡ None
none-next charge sizes programs state chosen busy none quiet =
    ap (lane_or_next charge sizes programs state chosen) quiet ∙ ap (λ o. option_map (processor_event charge sizes programs state) o) none

-- what is delivered is a course of the finishing schedule
delivered-next : (charge : Charge) (sizes : Sizes) (programs : Programs) (state : State) (event : Event) (chosen : Option Op) (busy : Option Lane) → option_map (delivery charge sizes state) busy ≡ Some event → lane_or_next charge sizes programs state chosen busy ≡ Some event
delivered-next charge sizes programs state event chosen None is = absurd (let n : ◌≡◌ {A = Option Event} None (Some event) = is in cc)
delivered-next charge sizes programs state event chosen (Some lane) is = is

delivered-course : (charge : Charge) (trace : Trace) (past end : Past) (events : List Event) → IsDelivered charge trace past events end → IsCourse (finishing_next charge trace.sizes (program trace)) charge trace.sizes (program trace) past events end
delivered-course charge trace past end [] is = is
delivered-course charge trace past end (event ∷ events) is =
    (delivered-next charge trace.sizes (program trace) past.state event (first_left (program trace) past.state (all_nodes trace.sizes)) (first_busy trace.sizes past.state) is.1, is.0, is.2, delivered-course charge trace (past_after trace.sizes past is.0) end events is.3)

one-more : (each first rest less left whole : ℕ) → whole ≡ first + rest → first ≤ each → rest ≤ each * less → suc less ≡ left → whole ≤ each * left
one-more each first rest less left whole sum few later next = subst (λ n. whole ≤ each * n) next (let all : whole ≤ each * suc less = omega arith in all)

-- A course of the finishing schedule, from a moment to its end
pub record IsEnded (charge : Charge) (trace : Trace) (past : Past) (most : ℕ) : Type 0 where
  pub events : List Event
  pub end : Past
  pub course : IsCourse (finishing_next charge trace.sizes (program trace)) charge trace.sizes (program trace) past events end
  pub stops : finishing_next charge trace.sizes (program trace) end.state ≡ None
  pub rests : IsAtRest end.state
  pub done : AreAllDone trace end.state
  pub within : length events ≤ most

finish-of : (charge : Charge) (trace : Trace) (past : Past) (most : ℕ) → IsEnded charge trace past most → FinishingRun charge trace past most
finish-of charge trace past most ended =
    let next = finishing_next charge trace.sizes (program trace) in
    record {
      events = ended.events;
      end = ended.end;
      finishing = record {
        ran = course-run next charge trace.sizes (program trace) past ended.end ended.events ended.course;
        next = course-schedule next charge trace.sizes (program trace) past ended.end ended.events ended.course ended.stops;
      };
      rests = ended.rests;
      done = ended.done;
      within = ended.within;
    }

module _ (charge : Charge) (trace : Trace) (usual : IsUsual trace) (completes : Completes charge trace) where
  abbrev programs : Programs
  programs = program trace

  abbrev next : State → Option Event
  next = finishing_next charge trace.sizes programs

  -- the bound on the events of one operation
  abbrev each : ℕ
  each = 2 * trace.sizes.nodes + 8

  abbrev left : Past → ℕ
  left past = left_count trace.sizes programs past.state

  abbrev first : Past → Option Op
  first past = first_left programs past.state (all_nodes trace.sizes)

  -- at rest with no operation left, the schedule is at its end
  ended : (before : List Event) (past : Past) → run charge trace before ≡ Some past → IsAtRest past.state → first past ≡ None → (most : ℕ) → IsEnded charge trace past most
  ended before past ran rests none most =
      let known = known-run charge trace usual before past ran in
      record {
        events = [];
        end = past;
        course = refl;
        stops = none-next charge trace.sizes programs past.state (first past) (first_busy trace.sizes past.state) none (rest-quiet trace.sizes past.state rests);
        rests = rests;
        done = λ node. at-end (program trace node) (past.state.share node).place (left-none trace usual.ops past.state none node) (rest-within trace past known.sound rests node);
        within = omega arith;
      }

  abbrev Completed : Past → Op → Type 0
  Completed past op = IsCompleted next charge trace.sizes programs past op

  fewer : (past : Past) (op : Op) → first past ≡ Some op → (now : Completed past op) → suc (left now.end) ≡ left past
  fewer past op some now =
      let is = left-some trace usual.ops past.state (all_nodes trace.sizes) op some in
      left-one trace.sizes programs past.state now.end.state op.node op is.0 is.1 now.done now.others

  rest-ends : (fuel : ℕ) (before : List Event) (past : Past) → run charge trace before ≡ Some past → IsAtRest past.state → left past ≤ fuel → IsEnded charge trace past (each * left past)
  rest-ends zero before past ran rests few = go (first past) refl
    where
      go : (o : Option Op) → first past ≡ o → IsEnded charge trace past (each * left past)
      go None none = ended before past ran rests none (each * left past)
      go (Some op) some = absurd (let less = fewer past op some (operation charge trace usual.ops completes before past op ran rests some) in omega arith)
  rest-ends (suc fuel) before past ran rests few = go (first past) refl (rest-ends fuel)
    where
      go : (o : Option Op) → first past ≡ o → ((before : List Event) (past : Past) → run charge trace before ≡ Some past → IsAtRest past.state → left past ≤ fuel → IsEnded charge trace past (each * left past)) → IsEnded charge trace past (each * left past)
      go None none later = ended before past ran rests none (each * left past)
      go (Some op) some later =
          let now : Completed past op = operation charge trace usual.ops completes before past op ran rests some in
          let less = fewer past op some now in
          let went = run-on charge trace _ past now.end before now.events ran (course-run next charge trace.sizes programs past now.end now.events now.course) in
          let rest = later (before ++ now.events) now.end went now.rests (omega arith) in
          record {
            events = now.events ++ rest.events;
            end = rest.end;
            course = course-append next charge trace.sizes programs past now.end rest.end now.events rest.events now.course rest.course;
            stops = rest.stops;
            rests = rest.rests;
            done = rest.done;
            within = one-more each (length now.events) (length rest.events) (left now.end) (left past) (length (now.events ++ rest.events)) (length-append now.events rest.events) now.within rest.within less;
          }

  -- from rest
  pub rested : (before : List Event) (past : Past) → run charge trace before ≡ Some past → IsAtRest past.state → FinishingRun charge trace past ((2 * trace.sizes.nodes + 8) * left_count trace.sizes (program trace) past.state)
  rested before past ran rests = finish-of charge trace past (each * left past) (rest-ends (left past) before past ran rests (omega arith))

  whole-within : (first rest whole heavy later now : ℕ) → whole ≡ first + rest → first ≤ heavy → rest ≤ each * later → later ≤ now → whole ≤ heavy + each * now
  whole-within first rest whole heavy later now sum few most less = let more = mul-le-mul_left each less in omega arith

  -- from every moment of a run
  pub finishes : (before : List Event) (past : Past) → run charge trace before ≡ Some past → FinishingRun charge trace past (weight trace.sizes past.state + (2 * trace.sizes.nodes + 8) * left_count trace.sizes (program trace) past.state)
  finishes before past ran =
      let calm : (whole : Delivery charge trace past) × IsAtRest whole.end.state = delivery_rests charge trace before past usual.words usual.lines usual.links ran usual.ops in
      let went = delivered-run charge trace past calm.0.end calm.0.events calm.0.steps in
      let goes = run-on charge trace _ past calm.0.end before calm.0.events ran went in
      let rest = rest-ends (left calm.0.end) (before ++ calm.0.events) calm.0.end goes calm.1 (omega arith) in
      let known = known-run charge trace usual before past ran in
      let later = known-run charge trace usual (before ++ calm.0.events) calm.0.end goes in
      let less = left-less trace.sizes programs past.state calm.0.end.state (places-rise trace past calm.0.end known.sound later.sound calm.1 (served-prefix charge trace.sizes programs past calm.0.end calm.0.events went)) in
      finish-of charge trace past (weight trace.sizes past.state + each * left past)
      (record {
        events = calm.0.events ++ rest.events;
        end = rest.end;
        course = course-append next charge trace.sizes programs past calm.0.end rest.end calm.0.events rest.events (delivered-course charge trace past calm.0.end calm.0.events calm.0.steps) rest.course;
        stops = rest.stops;
        rests = rest.rests;
        done = rest.done;
        within = whole-within (length calm.0.events) (length rest.events) (length (calm.0.events ++ rest.events)) (weight trace.sizes past.state) (left calm.0.end) (left past) (length-append calm.0.events rest.events) calm.0.few rest.within less;
      })
