-- The machine as those who drive it see it: what it keeps, what an event makes of it, and what is read of its nodes.
use Rattle.std.proofs.Common.{◌≡◌, ℕ, List, [], ◌∷◌, ◌++◌, refl, arith, ap, sym, ◌∙◌, subst, OnOk, Option, Some, None, Result, Ok, Err}
use Rattle.std.specs.Prelude.{slice_get, unwrap_or}
use Rattle.std.proofs.lemmas.Option.{slice_get_within}
use Rattle.line_map.specs.Sizes.{Sizes, AreSizes}
use Rattle.op_model.specs.declared.events.Cause.{Cause}
use Rattle.op_model.specs.declared.events.Event.{Event}
use Rattle.op_model.specs.declared.operations.Op.{Op}
use Rattle.op_model.specs.Events.Step.{Done}
use Rattle.op_model.specs.Run.Runs.{Past, past_after, start}
use Rattle.op_model.specs.Run.Machines.{MachineRun, IsRunning, effect_on, IsApplied, IsEnabled, IsProgramOp}
use Rattle.machine.specs.Machines.{MachineView, IsMachine, IsNext, effect_in, run_of}
use Rattle.op_model.specs.Events.Node.{permit}
use Rattle.op_model.specs.Programs.{ArePrograms, programs_of}
use Rattle.machine_face.specs.declared.refusal.ApplyError.{ApplyError}
use Rattle.machine.specs.Driven.{past_or, run_made}

module _ {D : Type 0} (view : MachineView D) where
  pub made-past : (past : Past) → run_of view ≡ Some past → (run_made view).past ≡ past
  made-past past ran = ap (past_or (start view.sizes)) ran

  pub made-ran : IsMachine view → run_of view ≡ Some (run_made view).past
  made-ran is = is.ran ∙ ap Some (sym (made-past is.past is.ran))

  program-of : ArePrograms view.sizes view.programs → (node place : ℕ) (op : Op) → slice_get (programs_of view.programs node) place ≡ Some op → IsProgramOp view.sizes node place op
  program-of are node place op at = go (slice_get view.programs node) refl at
    where
      go : (o : Option (List Op)) → slice_get view.programs node ≡ o → slice_get (unwrap_or o []) place ≡ Some op → IsProgramOp view.sizes node place op
      go None none at = absurd (let n : ◌≡◌ {A = Option Op} None (Some op) = at in cc)
      go (Some program) there at =
          record { of_machine = (let within = slice_get_within view.programs node program there in omega (arith, within, are.count)); is = are.each node program there place op at }

  pub made-running : IsMachine view → IsRunning (run_made view)
  made-running is = record { sizes = is.sizes_are; programs = program-of is.programs_are; ran = made-ran is }

-- each operation of these programs is one at its place
abbrev AreOpsOf : Sizes → List (List Op) → Type 0
AreOpsOf sizes programs = (node place : ℕ) (op : Op) → slice_get (programs_of programs node) place ≡ Some op → IsProgramOp sizes node place op

-- what a machine keeps, after a call
pub kept-running : {D : Type 0} (old new : MachineView D) → new.sizes ≡ old.sizes → new.programs ≡ old.programs → IsRunning (run_made old) → (past : Past) → run_of new ≡ Some past → IsRunning (run_made new)
kept-running old new sizes programs was past ran = record {
  sizes = subst AreSizes (sym sizes) was.sizes;
  programs = subst (λ (s : Sizes). AreOpsOf s new.programs) (sym sizes) (subst (AreOpsOf old.sizes) (sym programs) was.programs);
  ran = ran ∙ ap Some (sym (made-past new past ran));
}

-- an event that is made
pub made-applied : {D : Type 0} (old new : MachineView D) (event : Event) → new.sizes ≡ old.sizes → new.programs ≡ old.programs → new.charge ≡ old.charge → new.events ≡ old.events ++ event ∷ [] → (past : Past) → run_of old ≡ Some past → IsNext old new past event →
    IsApplied (run_made old) event (run_made new)
made-applied old new event sizes programs charge events past ran next =
    let here = made-past old past ran in
    let there = made-past new (past_after old.sizes past next.done) next.ran in (
      next.done,
      ap (λ (p : Past). effect_in old p.state event) here ∙ next.does,
      λ i. record { charge = charge i; sizes = sizes i; programs = programs_of (programs i); events = events i; past = (there ∙ ap (λ p. past_after old.sizes p next.done) (sym here)) i },
    )

pub applied-if : {D : Type 0} (old new : MachineView D) (event : Event) → new.sizes ≡ old.sizes → new.programs ≡ old.programs → new.charge ≡ old.charge → (past : Past) → run_of old ≡ Some past → (r : Result (Unit {0}) ApplyError) →
    OnOk r (new.events ≡ old.events ++ event ∷ []) → OnOk r (IsNext old new past event) → OnOk r (IsApplied (run_made old) event (run_made new))
applied-if old new event sizes programs charge past ran (Ok done) events next = made-applied old new event sizes programs charge events past ran next
applied-if old new event sizes programs charge past ran (Err cause) events next = tt

-- whether an event would be made
pub permit-ok : (m : MachineRun) (event : Event) (answer : Result (Unit {0}) Cause) → answer ≡ permit (effect_on m event) → OnOk answer (IsEnabled m event)
permit-ok m event answer is = go (effect_on m event) refl is
  where
    go : (r : Result Done Cause) → effect_on m event ≡ r → answer ≡ permit r → OnOk answer (IsEnabled m event)
    go (Ok done) does is = subst (λ a. OnOk a (IsEnabled m event)) (sym is) (done, does)
    go (Err cause) does is = subst (λ a. OnOk a (IsEnabled m event)) (sym is) tt
