-- A machine that is made of a trace's programs is the machine of the trace at its start.
use Rattle.std.proofs.Common.{◌≡◌, List, [], map, ap, ◌∙◌, IfOk, Result, Ok, Err}
use Rattle.line_map.specs.Sizes.{Sizes}
use Rattle.op_model.specs.declared.operations.Op.{Op}
use Rattle.op_model.specs.Shares.{Trace, Charge}
use Rattle.op_model.specs.Events.Step.{Programs}
use Rattle.op_model.specs.Programs.{programs_of as program_in}
use Rattle.op_model.specs.Run.Machines.{MachineRun}
use Rattle.op_model.specs.Run.Runs.{start}
use Rattle.dir_header.specs.Sharers.{Directory}
use Rattle.machine.specs.Driven.{run_made}
use Rattle.machine.specs.Machines.{MachineView}
use Rattle.machine.specs.Starts.{charge_of}
use Rattle.trace_text.specs.Traces.{IsTrace, programs_of}
use Rattle.commands.specs.Runs.{machine_at_start}
use Rattle.commands.proofs.Programs.{all-programs}

at_first : Charge → Sizes → Programs → MachineRun
at_first charge sizes programs = record { charge = charge; sizes = sizes; programs = programs; events = []; past = start sizes }

module _ {D : Type 0} (directory : D → Directory) where
  abbrev pub new_view : Sizes → List (List Op) → List D → MachineView D
  new_view sizes programs dirs = record { sizes = sizes; programs = programs; charge = charge_of (map directory dirs); events = []; dirs = dirs }

  pub started : (trace : Trace) → IsTrace trace → (sizes : Sizes) (programs : List (List Op)) (dirs : List D) → sizes ≡ trace.sizes → programs ≡ programs_of trace →
      run_made (new_view sizes programs dirs) ≡ machine_at_start (charge_of (map directory dirs)) trace
  unfolding at_first
  started trace is sizes programs dirs sized its =
      let charge = charge_of (map directory dirs) in
      ap (λ (s : Sizes). at_first charge s (program_in programs)) sized
      ∙ (ap (λ (ps : List (List Op)). at_first charge trace.sizes (program_in ps)) its
      ∙ ap (λ (ps : Programs). at_first charge trace.sizes ps) (all-programs trace is))

pub if-made : {D E : Type 0} (r : Result (MachineView D) E) (view : MachineView D) (m : MachineRun) → run_made view ≡ m → IfOk r (λ made. made ≡ view) → IfOk r (λ made. run_made made ≡ m)
if-made (Ok made) view m is same = ap run_made same ∙ is
if-made (Err e) view m is same = tt
