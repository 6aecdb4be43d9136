-- The finishing schedule of a machine is under way from its first moment on, by the law that it ends; and what it has come to.
use Rattle.std.proofs.Common.{◌≡◌, ℕ, ◌+◌, ◌*◌, ◌≤◌, [], length, refl, arith, ap, sym, ◌∙◌, subst, Some, None}
use Rattle.std.proofs.lemmas.List.{append-nil}
use Rattle.op_model.specs.Run.Rest.{IsAtRest}
use Rattle.op_model.specs.Run.Runs.{Past, start, run, run_by}
use Rattle.op_model.specs.Run.Schedules.{finishing_next}
use Rattle.op_model.specs.Run.Weight.{weight}
use Rattle.op_model.specs.Shares.{Trace, program}
use Rattle.op_model.specs.Run.Machines.{MachineRun, IsRunning}
use Rattle.node_range.proofs.Public.{turn-programs, turn_of}
use Rattle.schedule_laws.specs.Courses.{IsCourse, left_count}
use Rattle.schedule_laws.specs.Ends.{FinishingRun}
use Rattle.schedule_laws.proofs.Public.{schedule-course}
use Rattle.schedule.specs.Made.{HasFinished, HasBegun, most_to_finish}
use Rattle.schedule.proofs.UnderWay.{IsUnderWay, next_on, whole, at-now, at-end}

-- what the end of a schedule is: at rest, with every program done
abbrev pub IsEnd : MachineRun → Past → Type 0
IsEnd m end = IsAtRest end.state × ((node : ℕ) → (end.state.share node).place ≡ length (m.programs node))

abbrev pub turn : MachineRun → Trace
turn m = turn_of m.sizes m.programs

abbrev pub IsFinishingTo : MachineRun → MachineRun → Type 0
IsFinishingTo first now = IsUnderWay finishing_next (IsEnd first) (most_to_finish first) first now

-- the run of a machine is one of its programs as a trace
pub turn-ran : (m : MachineRun) → IsRunning m → run m.charge (turn m) m.events ≡ Some m.past
turn-ran m running = subst (λ ps. run_by m.charge m.sizes ps (start m.sizes) m.events ≡ Some m.past) (sym (turn-programs m.sizes m.programs running.programs)) running.ran

pub begins : (m : MachineRun) → IsRunning m → FinishingRun m.charge (turn m) m.past (weight m.sizes m.past.state + (2 * m.sizes.nodes + 8) * left_count m.sizes (program (turn m)) m.past.state) → IsFinishingTo m m
begins m running law =
    let course = schedule-course (finishing_next m.charge m.sizes (program (turn m))) m.charge m.sizes (program (turn m)) m.past law.end law.events law.finishing.ran law.finishing.next in
    let same = turn-programs m.sizes m.programs running.programs in
    record {
      made = [];
      left = law.events;
      past = m.past;
      end = law.end;
      is = ap (λ es. record m { events = es }) (sym (append-nil m.events));
      before = refl;
      after = subst (λ ps. IsCourse (finishing_next m.charge m.sizes ps) m.charge m.sizes ps m.past law.events law.end) same course.0;
      stops = subst (λ ps. finishing_next m.charge m.sizes ps law.end.state ≡ None) same course.1;
      good = (law.rests, λ node. law.done node ∙ ap (λ ps. length (ps node)) same);
      within = subst (λ ps. 0 + length law.events ≤ weight m.sizes m.past.state + (2 * m.sizes.nodes + 8) * left_count m.sizes ps m.past.state) same (omega (arith, law.within));
      running = running;
    }

pub has-begun : (first now : MachineRun) → IsFinishingTo first now → HasBegun first now
has-begun first now way =
    let all = whole finishing_next (IsEnd first) (most_to_finish first) first now way in
    record {
      made = way.made;
      left = way.left;
      end = way.end;
      went = at-now finishing_next (IsEnd first) (most_to_finish first) first now way;
      finishing = record { ran = all.0; next = all.1 };
    }

pub has-finished : (first now : MachineRun) → IsFinishingTo first now → next_on finishing_next now ≡ None → HasFinished first now
has-finished first now way none =
    let all = at-end finishing_next (IsEnd first) (most_to_finish first) first now way none in
    record {
      made = way.made;
      went = at-now finishing_next (IsEnd first) (most_to_finish first) first now way;
      finishing = record { ran = all.0.0; next = all.0.1 };
      rests = all.1.0;
      done = λ node. all.1.1 node ∙ ap (λ (m : MachineRun). length (m.programs node)) (sym way.is);
    }
