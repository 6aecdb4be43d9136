-- A run of a machine with the programs of a trace is a run of the trace.
use Rattle.std.proofs.Common.{◌≡◌, List, ap, ◌∙◌, sym, Some}
use Rattle.op_model.specs.declared.events.Event.{Event}
use Rattle.op_model.specs.declared.operations.Op.{Op}
use Rattle.op_model.specs.Events.Step.{Programs}
use Rattle.op_model.specs.Run.Runs.{Past, run_by, start}
use Rattle.op_model.specs.Shares.{Trace, Linked}
use Rattle.line_map.specs.Sizes.{Sizes}
use Rattle.lane_table.specs.Setups.{Setup, run_in}
use Rattle.trace_text.specs.Traces.{IsTrace, programs_of}
use Rattle.commands.proofs.Public.{all-programs}
use Rattle.commands.specs.Journaled.{Runs}

pub runs-traced : (trace : Trace) → IsTrace trace → (setup : Setup) (journal : List Event) (past : Past) → setup.sizes ≡ trace.sizes → setup.programs ≡ programs_of trace → run_in setup journal ≡ Some past → Runs Linked trace journal
runs-traced trace is setup journal past sized its ran = (
  past,
  sym (
      (λ i. run_in (record { sizes = sized i; programs = its i }) journal)
      ∙ ap (λ (ps : Programs). run_by Linked trace.sizes ps (start trace.sizes) journal) (all-programs trace is)) ∙ ran,
)
