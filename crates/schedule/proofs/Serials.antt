-- The serial schedule of a machine is under way from the start on, by the law that it ends; and what it has come to.
use Rattle.std.proofs.Common.{◌≡◌, ℕ, ◌+◌, ◌*◌, List, [], ◌++◌, ◌==◌, length, refl, arith, ap, sym, ◌∙◌, subst, Some, None}
use Rattle.std.specs.Prelude.{count_by, take}
use Rattle.std.proofs.lemmas.List.{append-nil}
use Rattle.line_map.specs.Sizes.{Sizes}
use Rattle.op_model.specs.declared.events.Event.{Event}
use Rattle.op_model.specs.declared.operations.Op.{Op}
use Rattle.op_model.specs.Events.Step.{Programs}
use Rattle.op_model.specs.Run.History.{AreEntriesOf, history}
use Rattle.op_model.specs.Run.Runs.{Past, start, run_by}
use Rattle.op_model.specs.Run.Schedules.{IsSchedule, IsScheduleFrom, IsSerial, serial_next}
use Rattle.op_model.specs.Shares.{Charge, Trace, program}
use Rattle.op_model.specs.Run.Machines.{MachineRun, IsRunning}
use Rattle.op_model.specs.Programs.{IsOrderOf}
use Rattle.node_range.proofs.Public.{order-in, order-programs, trace_in}
use Rattle.schedule_laws.specs.Courses.{IsCourse}
use Rattle.schedule_laws.specs.Ends.{IsInOrder, SerialRun}
use Rattle.schedule_laws.proofs.Public.{schedule-course}
use Rattle.schedule.specs.Chosen.{AreOpsIn}
use Rattle.schedule.specs.Made.{HasBegunSerial, IsSerialBy, IsSerialRun, most_for_one}
use Rattle.schedule.proofs.Finishes.{IsEnd}
use Rattle.schedule.proofs.Orders.{op-at}
use Rattle.schedule.proofs.UnderWay.{IsUnderWay, Schedule, next_on, whole, at-end, at-start}

abbrev pub serial_by : List Op → Schedule
serial_by order charge sizes programs = serial_next charge sizes programs order

abbrev pub IsSerialEnd : List Op → MachineRun → Past → Type 0
IsSerialEnd order m end = IsEnd m end × AreEntriesOf order (history end)

abbrev pub most_in_all : List Op → MachineRun → ℕ
most_in_all order m = most_for_one m * length order

abbrev pub IsSerialTo : List Op → MachineRun → MachineRun → Type 0
IsSerialTo order first now = IsUnderWay (serial_by order) (IsSerialEnd order first) (most_in_all order first) first now

module _ (m : MachineRun) (order : List Op) (running : IsRunning m) (ordered : IsOrderOf m.programs order) where
  pub order-ops : AreOpsIn m.sizes order
  order-ops i op is = let its = order-in m.sizes m.programs running.programs order ordered in (its.nodes i op is, its.words i op is)

  pub indexed : IsInOrder (trace_in m.sizes order)
  indexed i op is = (running.programs op.node (count_by (λ (other : Op). other.node == op.node) (take i order)) op (op-at m.programs order ordered i op is)).is.at_index

  module _ (unused : m.events ≡ []) where
    pub serial-begins : SerialRun m.charge (trace_in m.sizes order) ((2 * m.sizes.nodes + 8) * length order) → IsSerialTo order m m
    serial-begins law =
        let ps = program (trace_in m.sizes order) in
        let course = schedule-course (serial_next m.charge m.sizes ps order) m.charge m.sizes ps (start m.sizes) law.past law.events law.serial.ran law.serial.next in
        let same : ps ≡ m.programs = order-programs m.programs order ordered in
        record {
          made = [];
          left = law.events;
          past = m.past;
          end = law.past;
          is = ap (λ es. record m { events = es }) (sym (append-nil m.events));
          before = refl;
          after = subst (λ p. IsCourse (serial_next m.charge m.sizes m.programs order) m.charge m.sizes m.programs p law.events law.past) (at-start m running unused)
              (subst (λ qs. IsCourse (serial_next m.charge m.sizes qs order) m.charge m.sizes qs (start m.sizes) law.events law.past) same course.0);
          stops = subst (λ qs. serial_next m.charge m.sizes qs order law.past.state ≡ None) same course.1;
          good = ((law.rests, λ node. law.done node ∙ ap (λ qs. length (qs node)) same), law.in_order);
          within = omega (arith, law.within);
          running = running;
        }

    module _ (now : MachineRun) (way : IsSerialTo order m now) where
      went : now ≡ record m { events = now.events; past = now.past }
      went = subst (λ (n : MachineRun). n ≡ record m { events = n.events; past = n.past }) (sym way.is) refl

      made-all : way.made ≡ now.events
      made-all = ap (λ es. es ++ way.made) (sym unused) ∙ sym (ap (λ (n : MachineRun). n.events) way.is)

      serial-by : (events more : List Event) (end : Past) → events ≡ more → (run_by m.charge m.sizes m.programs m.past events ≡ Some end) → IsScheduleFrom (serial_next m.charge m.sizes m.programs order) m.charge m.sizes m.programs m.past events →
          IsSerialBy order m more end
      serial-by events more end same ran next = record {
        ran = subst (λ p. run_by m.charge m.sizes m.programs p more ≡ Some end) (sym (at-start m running unused)) (subst (λ es. run_by m.charge m.sizes m.programs m.past es ≡ Some end) same ran);
        next = subst (λ p. IsScheduleFrom (serial_next m.charge m.sizes m.programs order) m.charge m.sizes m.programs p more) (sym (at-start m running unused))
            (subst (IsScheduleFrom (serial_next m.charge m.sizes m.programs order) m.charge m.sizes m.programs m.past) same next);
      }

      pub has-begun-serial : HasBegunSerial order m now
      has-begun-serial =
          let all = whole (serial_by order) (IsSerialEnd order m) (most_in_all order m) m now way in
          record {
            left = way.left;
            end = way.end;
            went = went;
            serial = serial-by (way.made ++ way.left) (now.events ++ way.left) way.end (ap (λ es. es ++ way.left) made-all) all.0 all.1;
          }

      pub serial-run : next_on (serial_by order) now ≡ None → IsSerialRun order m now
      serial-run none =
          let all = at-end (serial_by order) (IsSerialEnd order m) (most_in_all order m) m now way none in
          record {
            went = went;
            serial = serial-by way.made now.events now.past made-all all.0.0 all.0.1;
            in_order = all.1.1;
            rests = all.1.0.0;
            done = λ node. all.1.0.1 node ∙ ap (λ (n : MachineRun). length (n.programs node)) (sym way.is);
          }

abbrev IsBy : Charge → List Event → Past → Sizes → Programs → List Op → Type 0
IsBy charge events past sizes programs order = (run_by charge sizes programs (start sizes) events ≡ Some past) × IsSchedule (serial_next charge sizes programs order) charge sizes programs events

-- for each trace of these operations it is the trace's serial schedule
pub serial-trace : (m : MachineRun) (order : List Op) (ordered : IsOrderOf m.programs order) (trace : Trace) → trace.sizes ≡ m.sizes → trace.ops ≡ order → (events : List Event) (past : Past) → IsSerialBy order m events past → IsSerial m.charge trace events past
serial-trace m order ordered trace sizes ops events past is =
    let programs : program trace ≡ m.programs = ap (λ os. program (trace_in m.sizes os)) ops ∙ order-programs m.programs order ordered in
    let one : IsBy m.charge events past m.sizes m.programs trace.ops = subst (IsBy m.charge events past m.sizes m.programs) (sym ops) (is.ran, is.next) in
    let two : IsBy m.charge events past m.sizes (program trace) trace.ops = subst (λ ps. IsBy m.charge events past m.sizes ps trace.ops) (sym programs) one in
    let three : IsBy m.charge events past trace.sizes (program trace) trace.ops = subst (λ s. IsBy m.charge events past s (program trace) trace.ops) (sym sizes) two in
    record { ran = three.0; next = three.1 }
