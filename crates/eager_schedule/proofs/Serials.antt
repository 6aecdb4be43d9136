-- The serial schedule ends. It completes the operations of the trace one after another, each from rest; by induction on how many are done.
use Rattle.std.proofs.Common.{◌≡◌, ℕ, zero, suc, ◌+◌, ◌*◌, ◌≤◌, inr, List, [], ◌++◌, length, length-append, refl, arith, ap, sym, ◌∙◌, subst, Option, Some, None}
use Rattle.std.specs.Prelude.{slice_get}
use Rattle.std.proofs.lemmas.Option.{same_Some}
use Rattle.line_map.specs.Sizes.{AreSizes}
use Rattle.op_model.specs.declared.events.Event.{Event}
use Rattle.op_model.specs.declared.operations.Op.{Op}
use Rattle.op_model.specs.Run.Rest.{IsAtRest}
use Rattle.op_model.specs.Run.Schedules.{current, first_busy}
use Rattle.op_model.specs.Shares.{Trace, Unlinked, program}
use Rattle.node_range.specs.Range.{IsOfMachine}
use Rattle.schedule_laws.specs.Ends.{AreAllDone, IsInOrder}
use Rattle.schedule_laws.proofs.Public.{HaveDone, IsUsual, all-places, at-end, current-is, current-none}
use Rattle.schedule_laws.proofs.Public.{done-more, next-op, none-next, rest-quiet, usual}
use Rattle.eager_model.specs.Laws.{IsSerial}
use Rattle.eager_model.specs.Runs.{Past, run, start}
use Rattle.eager_schedule.specs.Courses.{IsCourse, SerialEnd}
use Rattle.eager_schedule.proofs.Operations.{completes}
use Rattle.eager_schedule.proofs.Quiet.{resting}
use Rattle.eager_schedule.proofs.Rounds.{IsRound}
use Rattle.eager_schedule.proofs.Runs.{course-append, course-at, course-run, serial-unique}

module _ (trace : Trace) (fits : IsUsual trace) (ordered : IsInOrder trace) where
  -- the bound on the events of one operation
  abbrev each : ℕ
  each = 2 * trace.sizes.nodes + 8

  -- The serial schedule up to a moment at rest at which so many operations are done
  record IsSerialTo (count : ℕ) : Type 0 where
    events : List Event
    past : Past
    course : IsCourse trace (start trace.sizes) events past
    rests : IsAtRest past.state
    places : HaveDone trace.ops count past.state
    within : length events ≤ each * count

  serial-none : IsSerialTo 0
  serial-none = record {
    events = [];
    past = start trace.sizes;
    course = refl;
    rests = resting trace [] (start trace.sizes) fits.words refl (λ a b class. refl);
    places = λ node. refl;
    within = omega arith;
  }

  -- one operation more
  module _ (count : ℕ) (op : Op) (is : slice_get trace.ops count ≡ Some op) (so_far : IsSerialTo count) where
    abbrev past : Past
    past = so_far.past

    round : IsRound trace fits op.node (λ n. (past.state.share n).place) past each
    round =
        completes trace fits op past (so_far.events, course-run trace (start trace.sizes) past so_far.events so_far.course) so_far.rests (next-op trace ordered past.state count so_far.places op is)
        (current-is trace ordered past.state count so_far.places op is)

    longer : length (so_far.events ++ round.events) ≤ each * (count + 1)
    longer = let sum = length-append so_far.events round.events in let few = so_far.within in let more = round.within in omega arith

    serial-and : IsSerialTo (count + 1)
    serial-and = record {
      events = so_far.events ++ round.events;
      past = round.end;
      course = course-append trace (start trace.sizes) past round.end so_far.events round.events so_far.course round.course;
      rests = round.rests;
      places = done-more trace ordered past.state count so_far.places op round.end.state is round.done round.others;
      within = longer;
    }

  serial-to : (count : ℕ) → count ≤ length trace.ops → IsSerialTo count
  serial-to zero below = serial-none
  serial-to (suc count) below = go (slice_get trace.ops count) refl (serial-to count (omega arith))
    where
      go : (o : Option Op) → slice_get trace.ops count ≡ o → IsSerialTo count → IsSerialTo (suc count)
      go None none so_far = absurd (let end = at-end trace.ops count none (omega arith) in omega arith)
      go (Some op) is so_far = subst IsSerialTo (let e : count + 1 ≡ suc count = omega arith in e) (serial-and count op is so_far)

  serial-whole : SerialEnd trace ((2 * trace.sizes.nodes + 8) * length trace.ops)
  serial-whole =
      let count : ℕ = length trace.ops in
      let all : IsSerialTo count = serial-to count (omega arith) in
      let stops = none-next Unlinked trace.sizes (program trace) all.past.state (current trace.ops all.past.state) (first_busy trace.sizes all.past.state)
      (current-none trace ordered all.past.state count all.places (omega arith)) (rest-quiet trace.sizes all.past.state all.rests) in
      record {
        events = all.events;
        past = all.past;
        serial = record {
          ran = course-run trace (start trace.sizes) all.past all.events all.course;
          next = λ k moment goes. course-at trace (start trace.sizes) all.past all.events all.course k moment goes (inr stops);
        };
        rests = all.rests;
        done = all-places trace ordered all.past.state count all.places (omega arith);
        within = all.within;
      }

  -- the serial schedule is one list, so that each that is it does this
  whole-each : (events : List Event) (past : Past) → IsSerial trace events past → AreAllDone trace past.state × IsAtRest past.state × (length events ≤ (2 * trace.sizes.nodes + 8) * length trace.ops)
  whole-each events past serial =
      let one = serial-whole in
      let same : one.events ≡ events = serial-unique trace one.past past one.events events one.serial serial in
      let ran : run trace events ≡ Some one.past = ap (run trace) (sym same) ∙ one.serial.ran in
      let alike : one.past ≡ past = same_Some one.past past (sym ran ∙ serial.ran) in (
        subst (λ (p : Past). AreAllDone trace p.state) alike one.done,
        subst (λ (p : Past). IsAtRest p.state) alike one.rests,
        subst (λ (es : List Event). length es ≤ (2 * trace.sizes.nodes + 8) * length trace.ops) same one.within,
      )

module _ (trace : Trace) (are : AreSizes trace.sizes) (all : IsOfMachine trace) (ordered : IsInOrder trace) where
  pub serial-ends : SerialEnd trace ((2 * trace.sizes.nodes + 8) * length trace.ops)
  serial-ends = serial-whole trace (usual trace are all) ordered

  pub serial-each : (events : List Event) (past : Past) → IsSerial trace events past → AreAllDone trace past.state × IsAtRest past.state × (length events ≤ (2 * trace.sizes.nodes + 8) * length trace.ops)
  serial-each = whole-each trace (usual trace are all) ordered
