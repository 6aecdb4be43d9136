-- The serial schedule as far as a machine has made it. The next event is the first of those that are left, and where there is none all of it is made.
use Rattle.std.proofs.Common.{◌≡◌, ℕ, ◌+◌, ◌*◌, ◌-◌, ◌≤◌, ◌<◌, List, [], ◌∷◌, ◌++◌, length, length-append, append_assoc, refl, arith, ap, sym, ◌∙◌, subst, Option, Some, None, Ok}
use Rattle.std.specs.Prelude.{slice_get}
use Rattle.std.proofs.Math.Seq.{take-append_seam}
use Rattle.std.proofs.lemmas.List.{append-nil, length_push}
use Rattle.std.proofs.lemmas.Option.{same_Some}
use Rattle.line_map.specs.Sizes.{Sizes, AreSizes}
use Rattle.op_model.specs.declared.events.Event.{Event}
use Rattle.op_model.specs.declared.operations.Op.{Op}
use Rattle.op_model.specs.Programs.{ArePrograms, IsOrderOf, programs_of}
use Rattle.op_model.specs.Run.Schedules.{current, first_busy, lane_or_next, serial_next}
use Rattle.op_model.specs.Shares.{State, Trace, Unlinked, program}
use Rattle.node_range.proofs.Public.{trace_in}
use Rattle.schedule.specs.Chosen.{AreCompletedTo, AreOpsIn}
use Rattle.eager_model.specs.Laws.{IsSerial}
use Rattle.eager_model.specs.Runs.{Past, past_after, run, run_by, start}
use Rattle.eager_model.specs.Step.{AgedDone, effect}
use Rattle.eager_schedule.specs.Courses.{SerialEnd}
use Rattle.eager_schedule.specs.Promises.{KeepsPromise}
use Rattle.eager_schedule.proofs.Public.{places-rise, ran-first, run-rest, serial-each, serial-ends}
use Rattle.eager_machine.specs.Machines.{EagerMachineView, run_of, IsEnabled, IsMachine, IsNext}
use Rattle.eager_machine.specs.Schedules.{HasBegunSerial, IsSerialWhole, most_for_one, next_with}
use Rattle.eager_machine.proofs.Promised.{in-machine, in-order, keeps-traced, ops-in, run-traced, same-programs}

-- what stands behind a list
behind : {A : Type 0} (xs ys : List A) → slice_get (xs ++ ys) (length xs) ≡ slice_get ys 0
behind [] ys = refl
behind (x ∷ xs) ys = behind xs ys

first-of : {A : Type 0} (xs : List A) (x : A) → slice_get xs 0 ≡ Some x → (rest : List A) × (xs ≡ x ∷ rest)
first-of [] x is = cc
first-of (y ∷ xs) x is = (xs, ap (λ z. z ∷ xs) (same_Some y x is))

none-left : {A : Type 0} (xs : List A) → slice_get xs 0 ≡ None → xs ≡ []
none-left [] is = refl
none-left (x ∷ xs) is = cc

module _ (trace : Trace) where
  abbrev pub next_of : State → Option Event
  next_of state = serial_next Unlinked trace.sizes (program trace) trace.ops state

  module _ (events : List Event) (past : Past) (ran : run trace events ≡ Some past) (begun : HasBegunSerial trace events) where
    -- the next event is the first that is left
    next-left : next_of past.state ≡ slice_get begun.left 0
    next-left = begun.serial.next (length events) past (ap (run trace) (take-append_seam events begun.left) ∙ ran) ∙ behind events begun.left

    record IsHead (event : Event) : Type 0 where
      rest : List Event
      left_is : begun.left ≡ event ∷ rest
      done : AgedDone
      does : effect trace.sizes (program trace) past.state past.ages event ≡ Ok done

    head : (event : Event) → next_of past.state ≡ Some event → IsHead event
    head event is =
        let parts = first-of begun.left event (sym next-left ∙ is) in
        let goes = run-rest trace (start trace.sizes) past begun.end events begun.left ran begun.serial.ran in
        let first = ran-first trace past begun.end event parts.0 (subst (λ es. run_by trace.sizes (program trace) past es ≡ Some begun.end) parts.1 goes) in
        record { rest = parts.0; left_is = parts.1; done = first.0; does = first.1 }

    one-more : (event : Event) → next_of past.state ≡ Some event → HasBegunSerial trace (events ++ event ∷ [])
    one-more event is =
        let it = head event is in
        record { left = it.rest; end = begun.end; serial = subst (λ es. IsSerial trace es begun.end) (ap (λ l. events ++ l) it.left_is ∙ sym (append_assoc events (event ∷ []) it.rest)) begun.serial }

    all-made : next_of past.state ≡ None → IsSerial trace events past
    all-made none =
        let nothing = none-left begun.left (sym next-left ∙ none) in
        let serial = subst (λ es. IsSerial trace es begun.end) (ap (λ l. events ++ l) nothing ∙ append-nil events) begun.serial in
        subst (IsSerial trace events) (same_Some begun.end past (sym serial.ran ∙ ran)) serial

-- a trace of the same operations
begun-alike : (sizes : Sizes) (order : List Op) (trace : Trace) → trace.sizes ≡ sizes → trace.ops ≡ order → (events : List Event) → HasBegunSerial (trace_in sizes order) events → HasBegunSerial trace events
begun-alike sizes order trace sized ops events begun =
    let same = subst (λ (t : Trace). HasBegunSerial t events) (λ i. trace_in (sym sized i) (sym ops i)) begun in
    record { left = same.left; end = same.end; serial = record { ran = same.serial.ran; next = same.serial.next } }

whole-alike : (sizes : Sizes) (order : List Op) (trace : Trace) → trace.sizes ≡ sizes → trace.ops ≡ order → (events : List Event) (past : Past) → IsSerialWhole (trace_in sizes order) events past → IsSerialWhole trace events past
whole-alike sizes order trace sized ops events past whole =
    let same = subst (λ (t : Trace). IsSerialWhole t events past) (λ i. trace_in (sym sized i) (sym ops i)) whole in
    record { serial = record { ran = same.serial.ran; next = same.serial.next }; done = same.done; rests = same.rests; within = same.within }

-- The machine has made the first events of the serial schedule of this order
pub record IsUnderWay (first : EagerMachineView) (order : List Op) (now : EagerMachineView) : Type 0 where
  pub sizes_are : now.sizes ≡ first.sizes
  pub programs_are : now.programs ≡ first.programs
  pub past : Past
  pub ran : run_of now ≡ Some past
  pub begun : HasBegunSerial (trace_in first.sizes order) now.events

-- the most events of the whole schedule
abbrev pub most_in_all : EagerMachineView → List Op → ℕ
most_in_all first order = most_for_one (trace_in first.sizes order) * length order

module _ (first : EagerMachineView) (is : IsMachine first) (order : List Op) (ordered : IsOrderOf (programs_of first.programs) order) where
  abbrev pub trace : Trace
  trace = trace_in first.sizes order

  abbrev pub next : State → Option Event
  next state = next_of trace state

  -- at the start all of it is left
  pub begins : first.events ≡ [] → IsUnderWay first order first
  begins unused =
      let law = serial-ends trace is.sizes_are (in-machine trace first.programs is.sizes_are is.programs_are ordered) (in-order trace first.programs is.sizes_are is.programs_are ordered) in
      record { sizes_are = refl; programs_are = refl; past = is.past; ran = is.ran; begun = subst (HasBegunSerial trace) (sym unused) (record { left = law.events; end = law.past; serial = law.serial }) }

  module _ (now : EagerMachineView) (way : IsUnderWay first order now) where
    -- the run of the machine, as one of the trace
    traced : (past : Past) → run_of now ≡ Some past → run trace now.events ≡ Some past
    traced past ran =
        run-traced trace first.programs is.sizes_are is.programs_are ordered now.events past
        ((λ i. run_by (sym way.sizes_are i) (programs_of (sym way.programs_are i)) (start (sym way.sizes_are i)) now.events) ∙ ran)

    -- the next event of the schedule, where it goes on with the first operation that isn't completed
    next-is : (past : Past) (chosen : Option Op) → chosen ≡ current order past.state → next_with now past.state chosen ≡ next past.state
    next-is past chosen chosen_is =
        (λ i. lane_or_next Unlinked (way.sizes_are i) (programs_of (way.programs_are i)) past.state (chosen_is i) (first_busy (way.sizes_are i) past.state))
        ∙ ap (λ ps. lane_or_next Unlinked first.sizes ps past.state (current order past.state) (first_busy first.sizes past.state)) (sym (same-programs trace first.programs is.sizes_are is.programs_are ordered))

    pub next-enabled : (event : Event) → next way.past.state ≡ Some event → IsEnabled now event
    next-enabled event is_next =
        let it = head trace now.events way.past (traced way.past way.ran) way.begun event is_next in
        record {
          past = way.past;
          ran = way.ran;
          done = it.done;
          does = (λ i. effect (way.sizes_are i) (programs_of (way.programs_are i)) way.past.state way.past.ages event)
              ∙ ap (λ ps. effect first.sizes ps way.past.state way.past.ages event) (sym (same-programs trace first.programs is.sizes_are is.programs_are ordered)) ∙ it.does;
        }

    pub ops-are : AreOpsIn now.sizes order
    ops-are = subst (λ s. AreOpsIn s order) (sym way.sizes_are) (ops-in trace first.programs is.sizes_are is.programs_are ordered)

    -- what is answered for the next event
    pub answered : (at : ℕ) (chosen : Option Op) → chosen ≡ slice_get order at → ((past : Past) → run_of now ≡ Some past → current order past.state ≡ slice_get order at) →
        (answer : Option Event) → ((past : Past) → run_of now ≡ Some past → answer ≡ next_with now past.state chosen) → next way.past.state ≡ answer
    answered at chosen chosen_is comes answer told = sym (next-is way.past chosen (chosen_is ∙ sym (comes way.past way.ran))) ∙ sym (told way.past way.ran)

    -- one event more
    pub goes-on : (event : Event) → next way.past.state ≡ Some event → (later : EagerMachineView) → later.sizes ≡ now.sizes → later.programs ≡ now.programs → later.events ≡ now.events ++ event ∷ [] → IsNext now later way.past event → IsUnderWay first order later
    goes-on event is_next later sized programmed more made = record {
      sizes_are = sized ∙ way.sizes_are;
      programs_are = programmed ∙ way.programs_are;
      past = past_after now.sizes way.past made.done;
      ran = made.ran;
      begun = subst (HasBegunSerial trace) (sym more) (one-more trace now.events way.past (traced way.past way.ran) way.begun event is_next);
    }

    pub completed-on : (event : Event) (later : EagerMachineView) → IsNext now later way.past event → (at : ℕ) → AreCompletedTo order at way.past.state → (past : Past) → run_of later ≡ Some past → AreCompletedTo order at past.state
    completed-on event later made at done past ran =
        subst (λ (p : Past). AreCompletedTo order at p.state) (same_Some (past_after now.sizes way.past made.done) past (sym made.ran ∙ ran))
        (λ k op below there.
        let rises = places-rise now.sizes (programs_of now.programs) way.past.state op.node way.past.ages event made.done made.does in
        let was = done k op below there in
        omega (arith, rises, was))

    -- what is left is bounded
    pub few : length now.events ≤ most_in_all first order
    few =
        let all = serial-each trace is.sizes_are (in-machine trace first.programs is.sizes_are is.programs_are ordered) (in-order trace first.programs is.sizes_are is.programs_are ordered) (now.events ++ way.begun.left) way.begun.end way.begun.serial in
        omega (arith, all.2, length-append now.events way.begun.left)

    -- for each trace of these operations
    module _ (any : Trace) (sized : any.sizes ≡ first.sizes) (ops : any.ops ≡ order) where
      pub has-begun : HasBegunSerial any now.events
      has-begun = begun-alike first.sizes order any sized ops now.events way.begun

      pub keeps : (past : Past) → run_of now ≡ Some past → KeepsPromise any past
      keeps past ran =
          keeps-traced now (record { sizes_are = subst AreSizes (sym way.sizes_are) is.sizes_are; programs_are = subst (λ s. ArePrograms s now.programs) (sym way.sizes_are) (subst (ArePrograms first.sizes) (sym way.programs_are) is.programs_are); past = way.past; ran = way.ran }) any past (sized ∙ sym way.sizes_are)
          (subst (λ os. IsOrderOf (programs_of now.programs) os) (sym ops) (subst (λ ps. IsOrderOf (programs_of ps) order) (sym way.programs_are) ordered)) ran

      pub whole : (past : Past) → run_of now ≡ Some past → next way.past.state ≡ None → IsSerialWhole any now.events past
      whole past ran none =
          let same : way.past ≡ past = same_Some way.past past (sym way.ran ∙ ran) in
          let serial = all-made trace now.events past (traced past ran) way.begun (subst (λ (p : Past). next p.state ≡ None) same none) in
          let all = serial-each trace is.sizes_are (in-machine trace first.programs is.sizes_are is.programs_are ordered) (in-order trace first.programs is.sizes_are is.programs_are ordered) now.events past serial in
          whole-alike first.sizes order any sized ops now.events past (record { serial = serial; done = all.0; rests = all.1; within = all.2 })

  -- the same, where the machine was asked for its next event, and nothing that is seen has changed
  module _ (now mid : EagerMachineView) (way : IsUnderWay first order now) (same : mid ≡ now) where
    pub way-there : IsUnderWay first order mid
    way-there = subst (IsUnderWay first order) (sym same) way

    pub whole-there : next way.past.state ≡ None → (any : Trace) (past : Past) → any.sizes ≡ first.sizes → any.ops ≡ order → run_of mid ≡ Some past → IsSerialWhole any mid.events past
    whole-there none any past sized ops ran =
        subst (λ (m : EagerMachineView). IsSerialWhole any m.events past) (sym same) (whole now way any sized ops past (subst (λ (m : EagerMachineView). run_of m ≡ Some past) same ran) none)

    module _ (event : Event) (due : next way.past.state ≡ Some event) where
      pub enabled-there : IsEnabled mid event
      enabled-there = subst (λ (m : EagerMachineView). IsEnabled m event) (sym same) (next-enabled now way event due)

      module _ (later : EagerMachineView) (sized : later.sizes ≡ mid.sizes) (programmed : later.programs ≡ mid.programs) (more : later.events ≡ mid.events ++ event ∷ []) (made : (past : Past) → run_of mid ≡ Some past → IsNext mid later past event) where
        made-now : IsNext now later way.past event
        made-now = subst (λ (m : EagerMachineView). IsNext m later way.past event) same (made way.past (subst (λ (m : EagerMachineView). run_of m ≡ Some way.past) (sym same) way.ran))

        pub goes-there : IsUnderWay first order later
        goes-there =
            goes-on now way event due later (sized ∙ ap (λ (m : EagerMachineView). m.sizes) same) (programmed ∙ ap (λ (m : EagerMachineView). m.programs) same) (more ∙ ap (λ (m : EagerMachineView). m.events ++ event ∷ []) same) made-now

        pub completed-there : (at : ℕ) → ((past : Past) → run_of now ≡ Some past → AreCompletedTo order at past.state) → (past : Past) → run_of later ≡ Some past → AreCompletedTo order at past.state
        completed-there at done past ran = completed-on now way event later made-now at (done way.past way.ran) past ran

        -- with each event fewer may come
        pub fewer-left : most_in_all first order - length later.events < most_in_all first order - length now.events
        fewer-left =
            let one = ap (λ (es : List Event). length es) more ∙ length_push mid.events event ∙ ap (λ (m : EagerMachineView). length m.events + 1) same in
            let bound = few later goes-there in
            omega (arith, one, bound)
