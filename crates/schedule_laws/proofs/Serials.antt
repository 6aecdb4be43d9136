-- The serial schedule ends. It completes the operations of the trace one after another, each from rest, and each adds its own entry; so the
-- history is the trace's operations in their order. By induction on how many are done.
use Rattle.std.proofs.Common.{◌≡◌, ◌≢◌, ℕ, zero, suc, ◌+◌, ◌*◌, ◌≤◌, true, cond, ◌==◌, List, [], ◌∷◌, ◌++◌, length, length-append, take, refl, arith, ap, sym, ◌∙◌, subst, Option, Some, None}
use Rattle.std.specs.Prelude.{slice_get}
use Rattle.std.proofs.lemmas.Bool.Decides.{nat_tests}
use Rattle.std.proofs.lemmas.List.{take_all}
use Rattle.std.proofs.lemmas.Option.{same_Some}
use Rattle.op_model.specs.declared.events.Event.{Event}
use Rattle.op_model.specs.declared.operations.Op.{Op}
use Rattle.op_model.specs.Events.Step.{Programs}
use Rattle.op_model.specs.Run.History.{AreEntriesOf, Follows, IsEntryOf, entries_by, history}
use Rattle.op_model.specs.Run.Rest.{IsAtRest}
use Rattle.op_model.specs.Run.Runs.{Past, run, run_by, start}
use Rattle.op_model.specs.Run.Schedules.{IsSerial, current, first_busy, serial_next}
use Rattle.op_model.specs.Shares.{Charge, State, Trace, program}
use Rattle.op_model.proofs.Public.{take-next}
use Rattle.one_history.specs.Sound.{IsSound}
use Rattle.rest_laws.proofs.Public.{resting, run-on}
use Rattle.schedule_laws.specs.Courses.{IsCompleted, IsCourse}
use Rattle.schedule_laws.specs.Ends.{AreAllDone, IsInOrder, SerialRun}
use Rattle.schedule_laws.proofs.Completing.{Completes}
use Rattle.schedule_laws.proofs.Courses.{course-append, course-run, course-schedule}
use Rattle.schedule_laws.proofs.Entries.{IsOne, all-kept, entries-push, entry-at, last-follows, one-entry}
use Rattle.schedule_laws.proofs.Finishes.{none-next, rest-quiet}
use Rattle.schedule_laws.proofs.Known.{IsUsual, known-run}
use Rattle.schedule_laws.proofs.Lists.{at-end}
use Rattle.schedule_laws.proofs.Orders.{HaveDone, all-below, all-places, current-is, current-none, done-more, index-is, next-op}
use Rattle.schedule_laws.proofs.Uniques.{serial-unique}
use Rattle.schedule_laws.proofs.Served.{Adds, more-by, more-count, rest-count, served-prefix}

-- what one operation adds: one entry, of its node, which is the operation's
module _ (trace : Trace) (past end : Past) (sound : IsSound trace past) (later : IsSound trace end) (rests : IsAtRest past.state) (ends : IsAtRest end.state) (adds : Adds past end) (op : Op)
    (done : (end.state.share op.node).place ≡ suc (past.state.share op.node).place) (others : (node : ℕ) → node ≢ op.node → (end.state.share node).place ≡ (past.state.share node).place) where
  added-count : (node : ℕ) → (past.state.share node).place + length (entries_by node adds.0) ≡ (end.state.share node).place
  added-count node =
      let sum = more-count past end adds node in
      let before = rest-count trace past sound rests node in
      let after = rest-count trace end later ends node in
      omega arith

  pub added-one : IsOne op.node adds.0
  added-one = one-entry op.node adds.0 (let count = added-count op.node in omega arith) (λ node other. let count = added-count node in let same = others node other in omega arith)

  -- it is the entry of the operation at the place
  pub added-is : (one : IsOne op.node adds.0) → slice_get (program trace op.node) (past.state.share op.node).place ≡ Some op → IsEntryOf (past.state.share op.node).place op one.entry
  added-is one next =
      let own : entries_by op.node adds.0 ≡ one.entry ∷ [] = ap (entries_by op.node) one.same ∙ ap (λ c. cond c (one.entry ∷ []) []) (at one.entry.node one.at) in
      let grown : entries_by op.node end.served ≡ entries_by op.node past.served ++ one.entry ∷ [] = more-by past end adds op.node ∙ ap (λ es. entries_by op.node past.served ++ es) own in
      let follows = subst (Follows (program trace op.node) 0) grown (later.ordered op.node).order in
      let count = rest-count trace past sound rests op.node in
      entry-at (past.state.share op.node).place _ op one.entry next
      (last-follows (program trace op.node) 0 (entries_by op.node past.served) one.entry follows (past.state.share op.node).place (omega arith))
    where
      at : (n : ℕ) → n ≡ op.node → (n == op.node) ≡ true
      at n same = grind (arith, nat_tests)

module _ (charge : Charge) (trace : Trace) (usual : IsUsual trace) (ordered : IsInOrder trace) (completes : Completes charge trace) where
  abbrev programs : Programs
  programs = program trace

  abbrev next : State → Option Event
  next = serial_next charge trace.sizes programs trace.ops

  -- the bound on the events of one operation
  abbrev each : ℕ
  each = 2 * trace.sizes.nodes + 8

  -- The serial schedule up to a moment at rest at which so many operations are done
  record IsSerialTo (count : ℕ) : Type 0 where
    events : List Event
    past : Past
    course : IsCourse next charge trace.sizes programs (start trace.sizes) events past
    rests : IsAtRest past.state
    places : HaveDone trace.ops count past.state
    entries : AreEntriesOf (take count trace.ops) past.served
    within : length events ≤ each * count

  serial-none : IsSerialTo 0
  serial-none = record {
    events = [];
    past = start trace.sizes;
    course = refl;
    rests = resting charge trace [] (start trace.sizes) usual.words refl (λ a b class. refl);
    places = λ node. refl;
    entries = tt;
    within = omega arith;
  }

  -- one operation more, from its course
  module _ (count : ℕ) (op : Op) (is : slice_get trace.ops count ≡ Some op) (so_far : IsSerialTo count) where
    abbrev past : Past
    past = so_far.past

    ran : run charge trace so_far.events ≡ Some past
    ran = course-run next charge trace.sizes programs (start trace.sizes) past so_far.events so_far.course

    left : slice_get (program trace op.node) (past.state.share op.node).place ≡ Some op
    left = next-op trace ordered past.state count so_far.places op is

    completed : IsCompleted next charge trace.sizes programs past op
    completed =
        completes (current trace.ops) so_far.events past op ran so_far.rests (usual.ops.nodes count op is) left
        (λ state same. current-is trace ordered state count (λ node. same node ∙ so_far.places node) op is)

    module _ (now : IsCompleted next charge trace.sizes programs past op) where
      goes : run_by charge trace.sizes programs past now.events ≡ Some now.end
      goes = course-run next charge trace.sizes programs past now.end now.events now.course

      sound : IsSound trace past
      sound = (known-run charge trace usual so_far.events past ran).sound

      later : IsSound trace now.end
      later = (known-run charge trace usual (so_far.events ++ now.events) now.end (run-on charge trace (start trace.sizes) past now.end so_far.events now.events ran goes)).sound

      adds : Adds past now.end
      adds = served-prefix charge trace.sizes programs past now.end now.events goes

      one : IsOne op.node adds.0
      one = added-one trace past now.end sound later so_far.rests now.rests adds op now.done now.others

      own : IsEntryOf op.index op one.entry
      own = subst (λ n. IsEntryOf n op one.entry) (sym (index-is trace ordered past.state count so_far.places op is)) (added-is trace past now.end sound later so_far.rests now.rests adds op now.done now.others one left)

      more-entries : AreEntriesOf (take (count + 1) trace.ops) now.end.served
      more-entries =
          subst (AreEntriesOf (take (count + 1) trace.ops)) (sym (adds.1 ∙ ap (λ es. past.served ++ es) one.same))
          (subst (λ ops. AreEntriesOf ops (past.served ++ one.entry ∷ [])) (sym (take-next trace.ops count op is)) (entries-push (take count trace.ops) past.served op one.entry so_far.entries one.at own))

      more-within : length (so_far.events ++ now.events) ≤ each * (count + 1)
      more-within = let few = now.within in let before = so_far.within in let sum = length-append so_far.events now.events in omega arith

      serial-and : IsSerialTo (count + 1)
      serial-and = record {
        events = so_far.events ++ now.events;
        past = now.end;
        course = course-append next charge trace.sizes programs (start trace.sizes) past now.end so_far.events now.events so_far.course now.course;
        rests = now.rests;
        places = done-more trace ordered past.state count so_far.places op now.end.state is now.done now.others;
        entries = more-entries;
        within = more-within;
      }

  serial-more : (count : ℕ) (op : Op) → slice_get trace.ops count ≡ Some op → IsSerialTo count → IsSerialTo (count + 1)
  serial-more count op is so_far = serial-and count op is so_far (completed count op is so_far)

  serial-to : (count : ℕ) → count ≤ length trace.ops → IsSerialTo count
  serial-to zero below = serial-none
  serial-to (suc count) below = go (slice_get trace.ops count) refl (serial-to count (omega arith))
    where
      go : (o : Option Op) → slice_get trace.ops count ≡ o → IsSerialTo count → IsSerialTo (suc count)
      go None none so_far = absurd (let end = at-end trace.ops count none (omega arith) in omega arith)
      go (Some op) is so_far = subst IsSerialTo (let e : count + 1 ≡ suc count = omega arith in e) (serial-more count op is so_far)

  pub serial-ends : SerialRun charge trace ((2 * trace.sizes.nodes + 8) * length trace.ops)
  serial-ends =
      let count : ℕ = length trace.ops in
      let all : IsSerialTo count = serial-to count (omega arith) in
      let stops = none-next charge trace.sizes programs all.past.state (current trace.ops all.past.state) (first_busy trace.sizes all.past.state)
      (current-none trace ordered all.past.state count all.places (omega arith)) (rest-quiet trace.sizes all.past.state all.rests) in
      let entries : AreEntriesOf trace.ops all.past.served = subst (λ ops. AreEntriesOf ops all.past.served) (take_all count trace.ops (omega arith)) all.entries in
      record {
        events = all.events;
        past = all.past;
        serial = record {
          ran = course-run next charge trace.sizes programs (start trace.sizes) all.past all.events all.course;
          next = course-schedule next charge trace.sizes programs (start trace.sizes) all.past all.events all.course stops;
        };
        rests = all.rests;
        done = all-places trace ordered all.past.state count all.places (omega arith);
        in_order = subst (AreEntriesOf trace.ops) (sym (all-kept all.past.state trace.ops all.past.served entries (all-below trace ordered all.past.state count all.places (omega arith)))) entries;
        within = all.within;
      }

  -- the serial schedule is one list, so that each that is it does this
  pub serial-each : (events : List Event) (past : Past) → IsSerial charge trace events past → AreEntriesOf trace.ops (history past) × AreAllDone trace past.state × IsAtRest past.state × (length events ≤ (2 * trace.sizes.nodes + 8) * length trace.ops)
  serial-each events past serial =
      let one = serial-ends in
      let same : one.events ≡ events = serial-unique charge trace one.past past one.events events one.serial serial in
      let ran : run charge trace events ≡ Some one.past = ap (run charge trace) (sym same) ∙ one.serial.ran in
      let alike : one.past ≡ past = same_Some one.past past (sym ran ∙ serial.ran) in (
        subst (λ p. AreEntriesOf trace.ops (history p)) alike one.in_order,
        subst (λ (p : Past). AreAllDone trace p.state) alike one.done,
        subst (λ (p : Past). IsAtRest p.state) alike one.rests,
        subst (λ (es : List Event). length es ≤ (2 * trace.sizes.nodes + 8) * length trace.ops) same one.within,
      )
