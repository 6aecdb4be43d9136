-- A trace of the programs of a machine: its operations are of the machine, and each has its place as its index. So what every run keeps holds of the run that the machine has made.
use Rattle.std.proofs.Common.{◌≡◌, ◌↔◌, ℕ, List, [], refl, ap, subst, sym, ◌∙◌, Some}
use Rattle.line_map.specs.Sizes.{Sizes, AreSizes}
use Rattle.op_model.specs.declared.events.Class.{Class}
use Rattle.op_model.specs.declared.events.Event.{Event}
use Rattle.op_model.specs.declared.operations.Op.{Op}
use Rattle.op_model.specs.Programs.{ArePrograms, IsOrderOf, programs_of}
use Rattle.op_model.specs.Run.Machines.{IsRunning}
use Rattle.op_model.specs.Run.Rest.{IsAtRest}
use Rattle.op_model.specs.Run.Runs as delayed
use Rattle.op_model.specs.Shares.{Trace, Unlinked, program}
use Rattle.node_range.specs.Range.{IsOfMachine}
use Rattle.node_range.proofs.Public.{order-programs, trace-in}
use Rattle.schedule_laws.specs.Ends.{IsInOrder}
use Rattle.machine.specs.Driven.{run_made}
use Rattle.machine.specs.Machines.{MachineView}
use Rattle.machine.proofs.Public.{made-running, program-of, some-words}
use Rattle.schedule.specs.Chosen.{AreOpsIn}
use Rattle.schedule.proofs.Public.{indexed, order-ops}
use Rattle.eager_model.specs.Runs.{Past, run, run_by, start}
use Rattle.eager_schedule.specs.Promises.{KeepsPromise}
use Rattle.eager_schedule.proofs.Public.{keeps_promise, resting}
use Rattle.eager_machine.specs.Machines.{EagerMachineView, run_of, trace_of, IsMachine}

module _ (trace : Trace) (programs : List (List Op)) (are : AreSizes trace.sizes) (of : ArePrograms trace.sizes programs) (ordered : IsOrderOf (programs_of programs) trace.ops) where
  -- a machine of the delayed core with these programs, which has made nothing
  abbrev unused : MachineView (Unit {0})
  unused = record { sizes = trace.sizes; programs = programs; charge = Unlinked; events = []; dirs = [] }

  running : IsRunning (run_made unused)
  running = made-running unused (record { sizes_are = are; programs_are = of; past = delayed.start trace.sizes; ran = refl })

  pub ops-in : AreOpsIn trace.sizes trace.ops
  ops-in = order-ops (run_made unused) trace.ops running ordered

  pub in-order : IsInOrder trace
  in-order = indexed (run_made unused) trace.ops running ordered

  pub in-machine : IsOfMachine trace
  in-machine = trace-in trace.sizes (programs_of programs) running.programs trace (record { sized = refl; ordered = ordered })

  pub same-programs : program trace ≡ programs_of programs
  same-programs = order-programs (programs_of programs) trace.ops ordered

  module _ (events : List Event) (past : Past) (ran : run_by trace.sizes (programs_of programs) (start trace.sizes) events ≡ Some past) where
    pub run-traced : run trace events ≡ Some past
    run-traced = subst (λ ps. run_by trace.sizes ps (start trace.sizes) events ≡ Some past) (sym same-programs) ran

    pub promised : KeepsPromise trace past
    promised = keeps_promise trace events past are in-machine in-order run-traced

    pub rests-empty : ((src dst : ℕ) (class : Class) → past.state.lane src dst class ≡ []) ↔ IsAtRest past.state
    rests-empty = (resting trace events past (some-words trace.sizes are) run-traced, λ rest. rest.lanes)

-- a trace of the programs of a machine
pub keeps-traced : (view : EagerMachineView) → IsMachine view → (trace : Trace) (past : Past) → trace.sizes ≡ view.sizes → IsOrderOf (programs_of view.programs) trace.ops → run_of view ≡ Some past → KeepsPromise trace past
keeps-traced view is trace past sized ordered ran =
    promised trace view.programs (subst AreSizes (sym sized) is.sizes_are) (subst (λ s. ArePrograms s view.programs) (sym sized) is.programs_are) ordered view.events past
    (subst (λ (s : Sizes). run_by s (programs_of view.programs) (start s) view.events ≡ Some past) (sym sized) ran)

module _ (view : EagerMachineView) (is : IsMachine view) (past : Past) (ran : run_of view ≡ Some past) where
  -- node by node the programs are a trace of themselves
  turn-ordered : IsOrderOf (programs_of view.programs) (trace_of view).ops
  turn-ordered node = ap (λ ps. ps node) (program-of view.sizes view.programs is.programs_are.each)

  pub keeps-own : KeepsPromise (trace_of view) past
  keeps-own = keeps-traced view is (trace_of view) past refl turn-ordered ran

  pub rests-own : ((src dst : ℕ) (class : Class) → past.state.lane src dst class ≡ []) ↔ IsAtRest past.state
  rests-own = rests-empty (trace_of view) view.programs is.sizes_are is.programs_are turn-ordered view.events past ran
