-- The machine of a trace has the trace's programs, so that its runs are the trace's.
use Rattle.std.proofs.Common.{◌≡◌, List, sym, ap, subst}
use Rattle.op_model.specs.declared.events.Event.{Event}
use Rattle.op_model.specs.Events.Step.{Programs}
use Rattle.op_model.specs.Programs.{IsOrderOf, programs_of}
use Rattle.op_model.specs.Shares.{Trace}
use Rattle.schedule_laws.specs.Ends.{IsInOrder}
use Rattle.trace_text.specs.Traces.{IsTrace}
use Rattle.commands.proofs.Public.{all-programs, programs-in}
use Rattle.eager_model.specs.Runs.{run, run_by, start}
use Rattle.eager_machine.specs.Machines.{EagerMachineView, run_of}
use Rattle.eager_command.specs.Played.{machine_of}

module _ (trace : Trace) (is : IsTrace trace) where
  pub runs-as : (events : List Event) → run_of (machine_of trace events) ≡ run trace events
  runs-as events = ap (λ (programs : Programs). run_by trace.sizes programs (start trace.sizes) events) (all-programs trace is)

  -- the trace's operations are an order of its machine's
  pub ordered : (machine : EagerMachineView) (events : List Event) → machine ≡ machine_of trace events → IsOrderOf (programs_of machine.programs) trace.ops
  ordered machine events same = subst (λ (m : EagerMachineView). IsOrderOf (programs_of m.programs) trace.ops) (sym same) (λ node. sym (programs-in trace is node))

  -- each operation of a trace has its place as its index
  pub in-order : IsInOrder trace
  in-order = λ i op at. (is.ops i op at).index
