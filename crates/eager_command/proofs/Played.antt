-- A machine of a trace that has made events of it, one by one or as a schedule.
use Rattle.std.proofs.Common.{◌≡◌, ℕ, ◌+◌, ◌<◌, ◌≤◌, List, [], ◌∷◌, ◌++◌, length, take, get_or, refl, sym, ap, subst, ◌∙◌, add-one, Some}
use Rattle.std.specs.Prelude.{slice_get}
use Rattle.std.specs.List.{All}
use Rattle.std.proofs.Math.Seq.{take-suc}
use Rattle.std.proofs.lemmas.List.{take_all}
use Rattle.std.proofs.lemmas.Option.{slice_get-get_or}
use Rattle.line_map.specs.Sizes.{Sizes}
use Rattle.op_model.specs.declared.events.Event.{Event}
use Rattle.op_model.specs.Events.Step.{Programs}
use Rattle.op_model.specs.Programs.{programs_of as program_in}
use Rattle.op_model.specs.Run.Machines.{IsEventOf}
use Rattle.op_model.specs.Shares.{Trace, program}
use Rattle.machine_face.specs.declared.refusal.ApplyError.{ApplyError}
use Rattle.machine_face.specs.declared.refusal.ApplyError.TheVariants.{NotEnabled, Memory}
use Rattle.step_journal.specs.Steps.{IsStep}
use Rattle.trace_text.specs.Traces.{IsTrace, programs_of}
use Rattle.commands.specs.Steps.{stopped_at}
use Rattle.commands.proofs.Public.{all-programs, event-of}
use Rattle.eager_model.specs.Runs.{Past, run, start}
use Rattle.eager_model.specs.Step.{effect}
use Rattle.eager_machine.specs.Machines.{EagerMachineView, IsRefusedFor, effect_in, run_of}
use Rattle.eager_machine.specs.Schedules.{IsSerialWhole}
use Rattle.eager_schedule.specs.Promises.{KeepsPromise}
use Rattle.eager_report.specs.Reports.{report_text}
use Rattle.command_words.specs.declared.command.EagerPlay.{EagerPlay}
use Rattle.command_words.specs.declared.command.EagerPlay.TheVariants.{Serial, Replay}
use Rattle.eager_command.specs.Outputs.{IsEagerOutput, IsEagerStopped}
use Rattle.eager_command.specs.Played.{machine_of, HasMade, IsPlayed}
use Rattle.eager_command.proofs.Traces.{runs-as}

module _ (trace : Trace) (is : IsTrace trace) where
  -- at its start the machine has made nothing
  pub none-made : (machine : EagerMachineView) → machine ≡ machine_of trace [] → HasMade trace [] machine
  none-made machine same = record { is = same; past = start trace.sizes; ran = refl }

  -- what keeps its programs and its sizes stays the machine of the trace
  pub made-by : (old new : EagerMachineView) (others events : List Event) (past : Past) → old ≡ machine_of trace others → new.sizes ≡ old.sizes → new.programs ≡ old.programs → new.events ≡ events → run_of new ≡ Some past → HasMade trace events new
  made-by old new others events past same sized its grew ran =
      let new_sizes : new.sizes ≡ trace.sizes = sized ∙ ap (λ (m : EagerMachineView). m.sizes) same in
      let new_programs : new.programs ≡ programs_of trace = its ∙ ap (λ (m : EagerMachineView). m.programs) same in
      let new_is : new ≡ machine_of trace events = λ i. record { sizes = new_sizes i; programs = new_programs i; events = grew i } in
      record { is = new_is; past = past; ran = sym (runs-as trace is events) ∙ (sym (ap run_of new_is) ∙ ran) }

  -- its run is the trace's
  run-made : (machine : EagerMachineView) (events : List Event) (has : HasMade trace events machine) → run_of machine ≡ Some has.past
  run-made machine events has = ap run_of has.is ∙ (runs-as trace is events ∙ has.ran)

  -- what an event does to it is what it does in the trace's run
  as-trace : (machine : EagerMachineView) (events : List Event) → machine ≡ machine_of trace events → (past : Past) (event : Event) → effect_in machine past event ≡ effect trace.sizes (program trace) past.state past.ages event
  as-trace machine events same past event =
      ap (λ (m : EagerMachineView). effect_in m past event) same
      ∙ ap (λ (programs : Programs). effect trace.sizes programs past.state past.ages event) (all-programs trace is)

  -- the serial schedule is a command's run
  pub serial-played : (old new : EagerMachineView) (past : Past) → old ≡ machine_of trace [] → new.sizes ≡ old.sizes → new.programs ≡ old.programs → run_of new ≡ Some past → IsSerialWhole trace new.events past → IsPlayed Serial trace new
  unfolding made-by
  serial-played old new past fresh sized its ran whole = record { has = made-by old new [] new.events past fresh sized its refl ran; made = whole }

  -- the text of a machine that has made a command's run is the command's text of the trace
  pub text-is : (play : EagerPlay) (machine : EagerMachineView) (text : List ℕ) (played : IsPlayed play trace machine) → KeepsPromise trace played.has.past →
      ((past : Past) → run_of machine ≡ Some past → text ≡ report_text machine.sizes (program_in machine.programs) machine.events past) → IsEagerOutput play trace text
  text-is play machine text played keeps printed =
      let past = played.has.past in
      let sized : machine.sizes ≡ trace.sizes = ap (λ (m : EagerMachineView). m.sizes) played.has.is in
      let its : program_in machine.programs ≡ program trace = ap (λ (m : EagerMachineView). program_in m.programs) played.has.is ∙ all-programs trace is in
      record {
        events = machine.events;
        past = past;
        made = played.made;
        ran = played.has.ran;
        keeps = keeps;
        printed = printed past (run-made machine machine.events played.has) ∙ (λ i. report_text (sized i) (its i) machine.events past);
      }

  -- the steps of the trace, one after another
  module _ (steps : List Event) (its_steps : steps ≡ trace.steps) where
    -- all of them are a command's run
    pub steps-played : (machine : EagerMachineView) (n : ℕ) → length steps ≤ n → HasMade trace (take n steps) machine → IsPlayed Replay trace machine
    steps-played machine n all has =
        let own : machine.events ≡ take n steps = ap (λ (m : EagerMachineView). m.events) has.is in
        record {
          has = record { is = has.is ∙ ap (machine_of trace) (sym own); past = has.past; ran = ap (run trace) own ∙ has.ran };
          made = own ∙ (take_all n steps all ∙ its_steps);
        }

    module _ (machine : EagerMachineView) (i : ℕ) (other : Event) (below : i < length steps) (has : HasMade trace (take i steps) machine) where
      abbrev pub event : Event
      event = get_or steps i other

      -- each names nodes and lines of the machine
      pub event-here : IsEventOf machine.sizes event
      event-here =
          let each : All (IsStep trace.sizes) steps = subst (All (IsStep trace.sizes)) (sym its_steps) is.steps in
          subst (λ (sizes : Sizes). IsEventOf sizes event) (sym (ap (λ (m : EagerMachineView). m.sizes) has.is)) (event-of trace.sizes event (each i other below))

      pub here-run : run_of machine ≡ Some has.past
      here-run = run-made machine (take i steps) has

      pub one-more : (new : EagerMachineView) (past : Past) → new.sizes ≡ machine.sizes → new.programs ≡ machine.programs → new.events ≡ machine.events ++ event ∷ [] → run_of new ≡ Some past → HasMade trace (take (i + 1) steps) new
      one-more new past sized its grew ran =
          let taken : take (i + 1) steps ≡ take i steps ++ event ∷ [] = rw add-one (take-suc steps i other below) in
          made-by machine new (take i steps) (take (i + 1) steps) past has.is sized its (grew ∙ (ap (λ (m : EagerMachineView). m.events ++ event ∷ []) has.is ∙ sym taken)) ran

      pub refused-here : (error : ApplyError) → IsRefusedFor machine has.past event error → IsEagerStopped Replay trace (stopped_at (i + 1) error)
      refused-here (NotEnabled cause) refused =
          record {
            before = i;
            number = refl;
            moment = has.past;
            ran = ap (λ (s : List Event). run trace (take i s)) (sym its_steps) ∙ has.ran;
            event = event;
            next = ap (λ (s : List Event). slice_get s i) (sym its_steps) ∙ slice_get-get_or steps i other below;
            refused = sym (as-trace machine (take i steps) has.is has.past event) ∙ refused;
          }
      refused-here Memory refused = tt
