-- A schedule under way: the events that were made of it, and those that are left. It goes on event by event, and stops at its end.
use Rattle.std.proofs.Common.{◌≡◌, ℕ, suc, ◌+◌, ◌-◌, ◌<◌, ◌≤◌, List, [], ◌∷◌, ◌++◌, length, length-append, append_assoc, refl, arith, ap, sym, ◌∙◌, subst, Option, Some, None, Ok}
use Rattle.std.proofs.lemmas.List.{append-nil}
use Rattle.std.proofs.lemmas.Option.{same_Some}
use Rattle.line_map.specs.Sizes.{Sizes}
use Rattle.op_model.specs.declared.events.Event.{Event}
use Rattle.op_model.specs.Shares.{Charge, State}
use Rattle.op_model.specs.Events.Step.{Programs, Done, effect}
use Rattle.op_model.specs.Run.Runs.{Past, past_after, run_by, start}
use Rattle.op_model.specs.Run.Schedules.{IsScheduleFrom}
use Rattle.op_model.specs.Run.Machines.{MachineRun, IsRunning, effect_on, with_event, IsApplied, IsEnabled}
use Rattle.schedule_laws.specs.Courses.{IsCourse}
use Rattle.schedule_laws.proofs.Public.{course-append, course-run, course-schedule}
use Rattle.schedule.specs.Made.{gone_on}

abbrev pub Schedule : Type 0
Schedule = Charge → Sizes → Programs → State → Option Event

abbrev pub next_on : Schedule → MachineRun → Option Event
next_on next m = next m.charge m.sizes m.programs m.past.state

-- a course of a schedule on this machine
abbrev pub IsCourseOn : Schedule → MachineRun → Past → List Event → Past → Type 0
IsCourseOn next m past events end = IsCourse (next m.charge m.sizes m.programs) m.charge m.sizes m.programs past events end

-- The schedule has come from the first moment to this one. It has an end, of which this holds, within so many events
pub record IsUnderWay (next : Schedule) (Good : Past → Type 0) (most : ℕ) (first now : MachineRun) : Type 0 where
  pub made : List Event
  pub left : List Event
  pub past : Past
  pub end : Past
  pub is : now ≡ gone_on first made past
  pub before : IsCourseOn next first first.past made past
  pub after : IsCourseOn next first past left end
  pub stops : next first.charge first.sizes first.programs end.state ≡ None
  pub good : Good end
  pub within : length made + length left ≤ most
  pub running : IsRunning now

-- a machine that has no events stands at the start
pub at-start : (m : MachineRun) → IsRunning m → m.events ≡ [] → start m.sizes ≡ m.past
at-start m running unused = same_Some (start m.sizes) m.past (ap (run_by m.charge m.sizes m.programs (start m.sizes)) (sym unused) ∙ running.ran)

-- how many events may still come
abbrev pub still : ℕ → MachineRun → MachineRun → ℕ
still most first now = (length first.events + most) - length now.events

-- the next event of a course that stops
pub record IsHead (next : Schedule) (m : MachineRun) (past : Past) (left : List Event) (end : Past) (event : Event) : Type 0 where
  pub rest : List Event
  pub done : Done
  pub is : left ≡ event ∷ rest
  pub does : effect m.charge m.sizes m.programs past.state event ≡ Ok done
  pub goes : IsCourseOn next m (past_after m.sizes past done) rest end

module _ (next : Schedule) (m : MachineRun) where
  head-of : (past : Past) (left : List Event) (end : Past) (event : Event) → IsCourseOn next m past left end → next m.charge m.sizes m.programs end.state ≡ None → next m.charge m.sizes m.programs past.state ≡ Some event →
      IsHead next m past left end event
  head-of past [] end event course stops is = absurd (
      let n : ◌≡◌ {A = Option Event} None (Some event) = sym stops ∙ ap (λ (p : Past). next m.charge m.sizes m.programs p.state) (sym course) ∙ is in
      cc)
  head-of past (other ∷ rest) end event course stops is =
      let same : other ≡ event = same_Some other event (sym course.0 ∙ is) in
      record {
        rest = rest;
        done = course.1;
        is = ap (λ e. e ∷ rest) same;
        does = ap (effect m.charge m.sizes m.programs past.state) (sym same) ∙ course.2;
        goes = course.3;
      }

  -- where nothing is next, nothing is left
  ended : (past : Past) (left : List Event) (end : Past) → IsCourseOn next m past left end → next m.charge m.sizes m.programs past.state ≡ None → (left ≡ []) × (past ≡ end)
  ended past [] end course none = (refl, course)
  ended past (event ∷ rest) end course none = absurd (let n : ◌≡◌ {A = Option Event} None (Some event) = sym none ∙ course.0 in cc)

module _ (next : Schedule) (Good : Past → Type 0) (most : ℕ) (first : MachineRun) where
  abbrev Under : MachineRun → Type 0
  Under now = IsUnderWay next Good most first now

  at-past : (now : MachineRun) (way : Under now) (o : Option Event) → next_on next now ≡ o → next first.charge first.sizes first.programs way.past.state ≡ o
  at-past now way o is = sym (ap (next_on next) way.is) ∙ is

  -- the next event is one that is left, and enabled
  pub next-head : (now : MachineRun) (way : Under now) (event : Event) → next_on next now ≡ Some event → IsHead next first way.past way.left way.end event
  next-head now way event is = head-of next first way.past way.left way.end event way.after way.stops (at-past now way (Some event) is)

  pub next-enabled : (now : MachineRun) → Under now → (event : Event) → next_on next now ≡ Some event → IsEnabled now event
  next-enabled now way event is =
      let head = next-head now way event is in
      (head.done, ap (λ m. effect_on m event) way.is ∙ head.does)

  -- one event more
  went-on : (now : MachineRun) (way : Under now) (event : Event) → next_on next now ≡ Some event → (done : Done) → effect_on now event ≡ Ok done → IsRunning (with_event now event done) → Under (with_event now event done)
  went-on now way event is done does running =
      let head = next-head now way event is in
      let same : head.done ≡ done = cc (sym head.does ∙ sym (ap (λ m. effect_on m event) way.is) ∙ does) in
      let whole : length way.left ≡ suc (length head.rest) = ap length head.is in
      record {
        made = way.made ++ event ∷ [];
        left = head.rest;
        past = past_after first.sizes way.past done;
        end = way.end;
        is = ap (λ m. with_event m event done) way.is ∙ ap (λ es. record first { events = es; past = past_after first.sizes way.past done }) (append_assoc first.events way.made (event ∷ []));
        before = course-append (next first.charge first.sizes first.programs) first.charge first.sizes first.programs first.past way.past (past_after first.sizes way.past done) way.made (event ∷ []) way.before
            (at-past now way (Some event) is, done, sym (ap (λ m. effect_on m event) way.is) ∙ does, refl);
        after = subst (λ d. IsCourseOn next first (past_after first.sizes way.past d) head.rest way.end) same head.goes;
        stops = way.stops;
        good = way.good;
        within = omega (arith, way.within, whole, length-append way.made (event ∷ []));
        running = running;
      }

  pub goes-on : (now : MachineRun) → Under now → (event : Event) → next_on next now ≡ Some event → (later : MachineRun) → IsApplied now event later → IsRunning later → Under later
  goes-on now way event is later applied running =
      subst Under (sym applied.2) (went-on now way event is applied.0 applied.1 (subst IsRunning applied.2 running))

  -- how many events were stored
  pub stored : (now : MachineRun) (way : Under now) → length now.events ≡ length first.events + length way.made
  stored now way = ap (λ (m : MachineRun). length m.events) way.is ∙ length-append first.events way.made

  pub stored-within : (now : MachineRun) → Under now → length now.events ≤ length first.events + most
  stored-within now way = omega (arith, stored now way, way.within)

  -- with each event fewer may come
  pub stored-more : (now : MachineRun) (event : Event) (later : MachineRun) → IsApplied now event later → length later.events ≡ length now.events + 1
  stored-more now event later applied = ap (λ (m : MachineRun). length m.events) applied.2 ∙ length-append now.events (event ∷ [])

  pub still-less : (now : MachineRun) → Under now → (event : Event) → (later : MachineRun) → IsApplied now event later → Under later → still most first later < still most first now
  still-less now way event later applied further =
      let more = stored-more now event later applied in
      let bound = stored-within later further in
      omega (arith, more, bound)

  pub same-way : (now later : MachineRun) → later ≡ now → Under now → Under later
  same-way now later same way = subst Under (sym same) way

  -- what was made and what is left is the schedule from the first moment on
  abbrev IsWhole : List Event → Past → Type 0
  IsWhole events end = (run_by first.charge first.sizes first.programs first.past events ≡ Some end) × IsScheduleFrom (next first.charge first.sizes first.programs) first.charge first.sizes first.programs first.past events

  pub whole : (now : MachineRun) (way : Under now) → IsWhole (way.made ++ way.left) way.end
  whole now way =
      let course = course-append (next first.charge first.sizes first.programs) first.charge first.sizes first.programs first.past way.past way.end way.made way.left way.before way.after in (
        course-run (next first.charge first.sizes first.programs) first.charge first.sizes first.programs first.past way.end (way.made ++ way.left) course,
        course-schedule (next first.charge first.sizes first.programs) first.charge first.sizes first.programs first.past way.end (way.made ++ way.left) course way.stops,
      )

  pub at-now : (now : MachineRun) (way : Under now) → now ≡ gone_on first way.made now.past
  at-now now way = way.is ∙ ap (λ p. gone_on first way.made p) (sym (ap (λ (m : MachineRun). m.past) way.is))

  -- where nothing is next, what was made is the schedule
  pub at-end : (now : MachineRun) (way : Under now) → next_on next now ≡ None → IsWhole way.made now.past × Good now.past
  at-end now way none =
      let stop = ended next first way.past way.left way.end way.after (at-past now way None none) in
      let here : way.end ≡ now.past = sym stop.1 ∙ sym (ap (λ (m : MachineRun). m.past) way.is) in
      let all = whole now way in
      (subst (IsWhole way.made) here (subst (λ es. IsWhole es way.end) (ap (λ es. way.made ++ es) stop.0 ∙ append-nil way.made) all), subst Good here way.good)
