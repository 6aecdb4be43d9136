-- A journal that runs is made whole, and the finishing schedule behind it completes all operations.
use Rattle.std.proofs.Common.{◌≡◌, ℕ, zero, suc, List, [], ◌∷◌, ◌++◌, length, take, slice_get, refl, sym, ap, subst, ◌∙◌, Some, Result, Ok, Err}
use Rattle.std.proofs.lemmas.Option.{slice_get_within, get_or_from_slice_get}
use Rattle.line_map.specs.Sizes.{Sizes}
use Rattle.op_model.specs.declared.events.Cause.{Cause}
use Rattle.op_model.specs.declared.events.Event.{Event}
use Rattle.op_model.specs.declared.events.Event.TheVariants.{Hit, Issue, Evict, Take, Reclaim}
use Rattle.op_model.specs.Events.Step.{Programs, Done, effect, and_then}
use Rattle.op_model.specs.Run.History.{IsOneHistory}
use Rattle.op_model.specs.Run.Machines.{MachineRun, IsEventOf}
use Rattle.op_model.specs.Run.Runs.{Past, past_after, run, run_by, run_from, start}
use Rattle.op_model.specs.Shares.{Trace, Charge, Linked}
use Rattle.rest_laws.proofs.Public.{run-on}
use Rattle.schedule.specs.Made.{HasFinished, gone_on}
use Rattle.dir_report.specs.Machines.{report_of}
use Rattle.step_journal.specs.Printing.{journal_text}
use Rattle.step_journal.specs.Steps.{IsStep, AreSteps}
use Rattle.commands.specs.Journaled.{Runs, IsCompleted, IsJournalOutput}
use Rattle.commands.specs.Runs.{machine_at_start, machine_after}
use Rattle.commands.specs.Steps.{AreStepsOf, HasMade, IsRefusedAt}

-- a step that names nodes and lines of the machine is an event of it
pub event-of : (sizes : Sizes) (event : Event) → IsStep sizes event → IsEventOf sizes event
event-of sizes (Hit node) is = is
event-of sizes (Issue node) is = is
event-of sizes (Evict node line kind) is = is
event-of sizes (Take src dst class victim) is = (is.0, is.1)
event-of sizes (Reclaim line) is = is

-- no step of a run is refused at its place
pub never-refused : (charge : Charge) (sizes : Sizes) (programs : Programs) (past last moment : Past) (steps : List Event) (before : ℕ) (event : Event) (cause : Cause) → run_by charge sizes programs past steps ≡ Some last →
    run_by charge sizes programs past (take before steps) ≡ Some moment → slice_get steps before ≡ Some event → effect charge sizes programs moment.state event ≡ Err cause → ⊥
never-refused charge sizes programs past last moment [] before event cause ran so_far next refused = cc
never-refused charge sizes programs past last moment (step ∷ steps) zero event cause ran so_far next refused = go (effect charge sizes programs past.state step) refl ran
  where
    same : past ≡ moment
    same = cc

    its : step ≡ event
    its = cc

    go : (r : Result Done Cause) → effect charge sizes programs past.state step ≡ r → and_then r (λ d. run_by charge sizes programs (past_after sizes past d) steps) ≡ Some last → ⊥
    go (Ok d) does on = let e : Ok d ≡ Err cause = sym does ∙ (λ i. effect charge sizes programs (same i).state (its i)) ∙ refused in cc
    go (Err other) does on = cc
never-refused charge sizes programs past last moment (step ∷ steps) (suc before) event cause ran so_far next refused =
    go (effect charge sizes programs past.state step) ran so_far (λ d. never-refused charge sizes programs (past_after sizes past d) last moment steps before event cause)
  where
    go : (r : Result Done Cause) → and_then r (λ d. run_by charge sizes programs (past_after sizes past d) steps) ≡ Some last → and_then r (λ d. run_by charge sizes programs (past_after sizes past d) (take before steps)) ≡ Some moment →
        ((d : Done) → run_by charge sizes programs (past_after sizes past d) steps ≡ Some last → run_by charge sizes programs (past_after sizes past d) (take before steps) ≡ Some moment → slice_get steps before ≡ Some event →
        effect charge sizes programs moment.state event ≡ Err cause → ⊥) → ⊥
    go (Ok d) on until rest = rest d on until next refused
    go (Err other) on until rest = cc

pub journal-goes : (old : MachineRun) (trace : Trace) (journal : List Event) (step : ℕ) (cause : Cause) → old ≡ machine_at_start old.charge trace → Runs old.charge trace journal → IsRefusedAt old journal step cause → ⊥
journal-goes old trace journal step cause fresh runs refused =
    never-refused old.charge old.sizes old.programs old.past runs.0 refused.moment journal refused.before refused.event cause
    (ap (λ (m : MachineRun). run_by m.charge m.sizes m.programs m.past journal) fresh ∙ runs.1) refused.ran refused.next refused.refused

-- the events of a journal are of the machine
pub journal-steps : (old : MachineRun) (trace : Trace) (journal : List Event) → old ≡ machine_at_start old.charge trace → AreSteps trace.sizes journal → AreStepsOf old journal
journal-steps old trace journal fresh are i event at =
    let sizes : trace.sizes ≡ old.sizes = sym (ap (λ (m : MachineRun). m.sizes) fresh) in
    let here = slice_get_within journal i event at in
    subst (λ s. IsEventOf s event) sizes (event-of trace.sizes event (subst (IsStep trace.sizes) (get_or_from_slice_get journal i event event at) (are i event here)))

-- a machine that has made a journal and then the finishing schedule is complete
module _ (charge : Charge) (trace : Trace) (journal : List Event) (old mid new : MachineRun) (fresh : old ≡ machine_at_start charge trace) (made : HasMade old journal mid) (finished : HasFinished mid new) where
  between : mid ≡ machine_after charge trace journal mid.past
  between = made.went ∙ ap (λ (m : MachineRun). record m { events = m.events ++ journal; past = mid.past }) fresh

  its : new ≡ machine_after charge trace (journal ++ finished.made) new.past
  its = finished.went ∙ ap (λ m. gone_on m finished.made new.past) between

  so_far : run charge trace journal ≡ Some mid.past
  so_far = sym (ap (λ (m : MachineRun). run_by m.charge m.sizes m.programs m.past journal) fresh) ∙ made.ran

  behind : run_from charge trace mid.past finished.made ≡ Some new.past
  behind = sym (ap (λ (m : MachineRun). run_by m.charge m.sizes m.programs mid.past finished.made) between) ∙ finished.finishing.ran

  pub completed-by : IsCompleted charge trace journal new
  completed-by = record {
    others = finished.made;
    is = its;
    ran = run-on charge trace (start trace.sizes) mid.past new.past journal finished.made so_far behind;
    whole = record { completed = λ node. finished.done node ∙ ap (λ (m : MachineRun). length (m.programs node)) its; rests = finished.rests };
  }

-- what is printed of such a machine
pub printed-by : (trace : Trace) (journal : List Event) (m : MachineRun) (text : List ℕ) → IsCompleted Linked trace journal m → ((events : List Event) (past : Past) → run Linked trace events ≡ Some past → IsOneHistory Linked trace events past) →
    text ≡ journal_text m.events ++ report_of trace.version m → IsJournalOutput trace journal text
printed-by trace journal m text done one is = record {
  others = done.others;
  past = m.past;
  ran = done.ran;
  one = one (journal ++ done.others) m.past done.ran;
  whole = done.whole;
  printed = is ∙ ap (λ (r : MachineRun). journal_text r.events ++ report_of trace.version r) done.is;
}
