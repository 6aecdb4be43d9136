-- What the laws of every run say of the nodes and the lanes.
use Rattle.std.proofs.Common.{◌≡◌, ℕ, List, refl, sym, subst, ◌∙◌, Option, Some, None}
use Rattle.std.specs.Prelude.{slice_get, option_map, All}
use Rattle.std.proofs.lemmas.Option.{slice_get-map}
use Rattle.std.proofs.lemmas.List.{length-map}
use Rattle.std.proofs.lemmas.List.Elements.{All-head}
use Rattle.line_map.specs.Sizes.{Sizes}
use Rattle.op_model.specs.declared.events.Event.{Event}
use Rattle.op_model.specs.declared.operations.Op.{Op}
use Rattle.op_model.specs.MessageWords.{IsMsgOf}
use Rattle.op_model.specs.Programs.{programs_of, IsProgramOf}
use Rattle.node_range.specs.Range.{IsOfMachine}
use Rattle.machine.proofs.Public.{of-machine, program-of, programs-each, some-words, trace_by}
use Rattle.eager_model.specs.Runs.{AgedEntry, Past, run, run_by, start}
use Rattle.eager_part.proofs.Public.{messages_of_machine}
use Rattle.eager_history.proofs.Public.{sound-meets, sound-run}
use Rattle.eager_home.specs.Views.{EagerView}
use Rattle.eager_machine.specs.Acts.{AreFrontsMet}
use Rattle.eager_machine.specs.Kept.{past_of, programs_in, AreNodes, IsKept}
use Rattle.eager_machine.specs.Lanes.{UnderWay}

pub programs-are : (sizes : Sizes) (nodes : List EagerView) → AreNodes sizes nodes → (node : ℕ) (program : List Op) → slice_get (programs_in nodes) node ≡ Some program → IsProgramOf sizes node program
programs-are sizes nodes are = programs-each (λ (v : EagerView). v.program) sizes nodes (λ node view is. (are.each node view is).program)

-- a run of the programs is one of their trace
pub traced : (sizes : Sizes) (nodes : List EagerView) → AreNodes sizes nodes → (events : List Event) (past : Past) → run_by sizes (programs_of (programs_in nodes)) (start sizes) events ≡ Some past → run (trace_by sizes (programs_in nodes)) events ≡ Some past
traced sizes nodes are events past ran =
    subst (λ ps. run_by sizes ps (start sizes) events ≡ Some past) (sym (program-of sizes (programs_in nodes) (programs-are sizes nodes are))) ran

-- the trace of the programs is one of the machine
pub machine-trace : (sizes : Sizes) (nodes : List EagerView) → AreNodes sizes nodes → IsOfMachine (trace_by sizes (programs_in nodes))
machine-trace sizes nodes are = of-machine sizes (programs_in nodes) (length-map nodes (λ (v : EagerView). v.program) ∙ are.count) (programs-are sizes nodes are)

pub fronts-met : (sizes : Sizes) (nodes : List EagerView) (way : UnderWay) (events : List Event) (served : List AgedEntry) → IsKept sizes nodes way events served → AreFrontsMet sizes nodes way
fronts-met sizes nodes way events served kept =
    let trace = trace_by sizes (programs_in nodes) in
    let past = past_of sizes nodes way served in
    let ran = traced sizes nodes kept.nodes_are events past kept.ran in
    record {
      meets = λ src dst class m rest front. sound-meets trace past (sound-run trace events past (some-words sizes kept.sizes_are) ran) src dst class m rest front;
      of_machine = λ src dst class m rest front.
          All-head (IsMsgOf sizes) m rest (subst (All (IsMsgOf sizes)) front (messages_of_machine trace events past (machine-trace sizes nodes kept.nodes_are) kept.sizes_are ran src dst class));
    }
