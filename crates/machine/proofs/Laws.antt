-- What the laws of every run say of the nodes and the lanes: the first message of a lane meets a row, and what an event sends finds room.
use Rattle.std.proofs.Common.{◌≡◌, ℕ, ◌+◌, ◌≤◌, ◌<◌, true, cond, ◌==◌, List, [], ◌++◌, length, map, refl, ap, arith, sym, subst, ◌∙◌, Option, Some, None}
use Rattle.std.specs.Prelude.{slice_get, option_map}
use Rattle.std.proofs.lemmas.Option.{slice_get-map}
use Rattle.std.proofs.lemmas.List.{length-append, length-map}
use Rattle.std.proofs.lemmas.Bool.Decides.{nat_tests}
use Rattle.line_map.specs.Sizes.{Sizes, AreSizes}
use Rattle.op_model.specs.declared.events.Class.{Class}
use Rattle.op_model.specs.declared.events.Class.TheVariants.{Request, Reply}
use Rattle.op_model.specs.declared.events.Event.{Event}
use Rattle.op_model.specs.declared.messages.Msg.{Msg}
use Rattle.op_model.specs.declared.operations.Entry.{Entry}
use Rattle.op_model.specs.declared.operations.Op.{Op}
use Rattle.op_model.specs.Shares.{Charge, program}
use Rattle.op_model.specs.Events.Step.{to_lane}
use Rattle.op_model.specs.Run.Bounds.{lane_bound}
use Rattle.op_model.specs.Run.Runs.{Past, start, run, run_by}
use Rattle.one_history.proofs.Public.{front_meets}
use Rattle.node_range.specs.Range.{IsOfMachine}
use Rattle.lane_bounds.proofs.Public.{bounded_lanes}
use Rattle.lane_queues.specs.LaneStates.{LaneState, capacity_of}
use Rattle.msg_words.specs.SendList.{SendList}
use Rattle.machine.specs.Kept.{charge_in, programs_in, state_of, AreNodes, AreLanesOf, IsKept}
use Rattle.machine.specs.Acts.{AreFrontsMet}
use Rattle.machine.specs.Faces.{Face}
use Rattle.op_model.specs.Programs.{programs_of, IsProgramOf}
use Rattle.machine.proofs.Programs.{trace_by, program-of, of-machine}

-- each program of a list of nodes is of its node
pub programs-each : {A : Type 0} (program_in : A → List Op) (sizes : Sizes) (nodes : List A) → ((node : ℕ) (x : A) → slice_get nodes node ≡ Some x → IsProgramOf sizes node (program_in x)) →
    (node : ℕ) (program : List Op) → slice_get (map program_in nodes) node ≡ Some program → IsProgramOf sizes node program
programs-each {A = A} program_in sizes nodes each node program is = go (slice_get nodes node) refl (sym (slice_get-map program_in nodes node) ∙ is)
  where
    go : (o : Option A) → slice_get nodes node ≡ o → option_map program_in o ≡ Some program → IsProgramOf sizes node program
    go None at e = cc
    go (Some x) at e = let same : program_in x ≡ program = cc in subst (IsProgramOf sizes node) same (each node x at)

pub programs-are : (sizes : Sizes) (charge : Charge) (faces : List Face) → AreNodes sizes charge faces → (node : ℕ) (program : List Op) → slice_get (programs_in faces) node ≡ Some program → IsProgramOf sizes node program
programs-are sizes charge faces nodes = programs-each (λ (f : Face). f.program) sizes faces (λ node face is. (nodes.each node face is).program)

pub some-words : (sizes : Sizes) → AreSizes sizes → 0 < sizes.words
some-words sizes are = let words = are.words in grind (arith, nat_tests)

-- a run of the programs is one of their trace
pub traced : (sizes : Sizes) (charge : Charge) (faces : List Face) → AreNodes sizes charge faces → (events : List Event) (past : Past) → run_by charge sizes (programs_of (programs_in faces)) (start sizes) events ≡ Some past →
    run charge (trace_by sizes (programs_in faces)) events ≡ Some past
traced sizes charge faces nodes events past ran =
    subst (λ ps. run_by charge sizes ps (start sizes) events ≡ Some past) (sym (program-of sizes (programs_in faces) (programs-are sizes charge faces nodes))) ran

pub fronts-met : (sizes : Sizes) (faces : List Face) (lanes : LaneState) (events : List Event) (served : List Entry) (tally : List ℕ) (left : ℕ) (out : SendList) → IsKept sizes faces lanes events served tally left out → AreFrontsMet sizes faces lanes.lane
fronts-met sizes faces lanes events served tally left out kept =
    let charge = charge_in faces in
    let trace = trace_by sizes (programs_in faces) in
    let past : Past = record { state = state_of sizes faces lanes.lane; served = served } in
    let ran = traced sizes charge faces kept.nodes events past kept.ran in
    let positive = some-words sizes kept.sizes_are in
    record { meets = λ src dst class m rest front. front_meets charge trace events past src dst class m rest positive ran front }

capacity-is : (sizes : Sizes) (lanes : LaneState) → AreLanesOf sizes lanes → (class : Class) → capacity_of lanes class ≡ lane_bound sizes class
capacity-is sizes lanes are Request = are.requests
capacity-is sizes lanes are Reply = are.replies

-- no lane of a run holds more than it may
pub lane-fits : (sizes : Sizes) (charge : Charge) (faces : List Face) (lanes : LaneState) → AreSizes sizes → AreNodes sizes charge faces → AreLanesOf sizes lanes → (events : List Event) (past : Past) →
    run_by charge sizes (programs_of (programs_in faces)) (start sizes) events ≡ Some past → (a b : ℕ) (class : Class) → length (past.state.lane a b class) ≤ capacity_of lanes class
lane-fits sizes charge faces lanes sizes_are nodes are events past ran a b class =
    let bound = bounded_lanes charge (trace_by sizes (programs_in faces)) events past a b class (some-words sizes sizes_are) (traced sizes charge faces nodes events past ran) in
    subst (λ n. length (past.state.lane a b class) ≤ n) (sym (capacity-is sizes lanes are class)) bound

-- messages behind others in a node's lane
pub length-sent : (front : List Msg) (node dst : ℕ) (class : Class) (sends : List (ℕ × Msg)) → length (front ++ cond (node == node) (to_lane dst class sends) []) ≡ length front + length (to_lane dst class sends)
length-sent front node dst class sends =
    let self : (node == node) ≡ true = grind (arith, nat_tests) in
    ap (λ c. length (front ++ cond c (to_lane dst class sends) [])) self ∙ length-append front (to_lane dst class sends)

pub some-links : (sizes : Sizes) → AreSizes sizes → 0 < sizes.links
some-links sizes are = let links = are.links in grind (arith, nat_tests)

-- the trace of the programs is one of the machine
pub machine-trace : (sizes : Sizes) (charge : Charge) (faces : List Face) → AreNodes sizes charge faces → IsOfMachine (trace_by sizes (programs_in faces))
machine-trace sizes charge faces nodes = of-machine sizes (programs_in faces) (length-map faces (λ (f : Face). f.program) ∙ nodes.count) (programs-are sizes charge faces nodes)
