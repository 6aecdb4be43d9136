-- The box of one node.
use Rattle.std.specs.Prelude.{◌≡◌, ℕ, ◌+◌, ◌<◌, ◌≤◌, Bool, false, List, [], length, slice_index_or, Result, All, refl}
use Rattle.std.specs.Coded.{Coded, code_by, coded×, coded_ℕ, coded_bool, coded_list}
use Rattle.line_map.specs.Sizes.{Sizes}
use Rattle.line_map.specs.Codes.{sizes_code}
use Rattle.op_model.specs.contracts.messages.Msg as msg_type
use Rattle.op_model.specs.contracts.events.Numbered as numbered_type
use Rattle.op_model.specs.declared.events.Cause.{Cause}
use Rattle.op_model.specs.declared.events.Numbered.{Numbered}
use Rattle.op_model.specs.declared.events.Class.{Class}
use Rattle.op_model.specs.declared.events.Class.TheVariants.{Request}
use Rattle.op_model.specs.declared.messages.Msg.{Msg}
use Rattle.op_model.specs.Events.Node.{Input, NodeOutcome, local}
use Rattle.op_model.specs.Programs.{IsProgramOf}
use Rattle.op_model.specs.Shares.{Linked}
use Rattle.op_model.specs.Parts.Part.{Part, sent_to, flushed_to, taken_from, cleared_from, last_departs}
use Rattle.op_model.specs.Events.Step.{event_node}
use Rattle.msg_words.specs.SendList.{SendList}
use Rattle.sharer_dir.specs.Linked.{LinkedView, linked_code}
use Rattle.out_space.specs.Boxes.{BoxState, waiting}
use Rattle.magic_node.specs.Nodes.{MagicView}
use Rattle.magic_node.specs.Codes.{magic_code}
use Rattle.step_journal.specs.Logs.{LogList}
use Rattle.lane_table.specs.Codes.{seat_code}
use Rattle.lane_table.specs.Views.{TableView, SeatView, IsSeatOf}
use Rattle.lane_table.specs.Told.{unflushed}

-- a node whose lists cost links, as contracts see it
abbrev pub LinkedNode : Type 0
LinkedNode = MagicView LinkedView

-- what a node does with an input, or why not
abbrev pub outcome_at : LinkedNode → Input → Result NodeOutcome Cause
outcome_at node input = local node.charge node.sizes node.number node.program node.share input

-- the node whose part this is, with this directory
abbrev pub node_of : Part → LinkedView → LinkedNode
node_of part dir = record { sizes = part.sizes; number = part.number; program = part.program; charge = Linked; share = part.share; dir = dir }

-- each event of a log is one of this node
abbrev pub IsOwnLog : Sizes → ℕ → List Numbered → Type 0
IsOwnLog sizes node log = All (λ (entry : Numbered). event_node sizes entry.event ≡ node) log

-- A box: its node; what waits in its outbox; which of its lanes of requests a write-back or a hint left last; the list for what it
-- sends at one event; its log; and its seat
pub record BoxView : Type 0 where
  pub node : LinkedNode
  pub out : BoxState
  pub departed : List Bool
  pub sends : SendList
  pub log : LogList
  pub seat : SeatView

-- What each box keeps: its seat is one of the table, with the table's machine and the node's program; node, outbox, memory and log are
-- the seat's part; all that was taken is cleared; and each event of the log is one of the node
pub record IsBox (table : TableView) (box : BoxView) : Type 0 where
  pub seat : IsSeatOf table box.seat
  pub program : IsProgramOf box.seat.part.sizes box.seat.part.number box.seat.part.program
  pub node : box.node ≡ node_of box.seat.part box.node.dir
  pub log : box.log.entries ≡ box.seat.part.log
  pub sends : box.sends ≡ record { list = []; room = box.seat.part.sizes.nodes + 1 }
  pub machine : box.out.sizes ≡ box.seat.part.sizes
  pub out : (dst : ℕ) (class : Class) → waiting box.out dst class ≡ unflushed box.seat.part dst class
  pub within : (dst : ℕ) (class : Class) → flushed_to box.seat.part dst class ≤ length (sent_to box.seat.part dst class)
  pub last : (dst : ℕ) → dst < box.seat.part.sizes.nodes → slice_index_or box.departed dst false ≡ last_departs (flushed_to box.seat.part dst Request) (sent_to box.seat.part dst Request)
  pub places : length box.departed ≡ box.seat.part.sizes.nodes
  pub ready : (src : ℕ) (class : Class) → taken_from box.seat.part src class ≡ cleared_from box.seat.part src class
  pub own : IsOwnLog box.seat.part.sizes box.seat.part.number box.log.entries

abbrev pub out_code : Coded BoxState
out_code =
    code_by (Sizes × (List (List Msg) × List (List Msg))) (coded× sizes_code (coded× (coded_list (coded_list msg_type.the_row.coded)) (coded_list (coded_list msg_type.the_row.coded))))
    (λ b. (b.sizes, (b.requests, b.replies))) (λ p. record { sizes = p.0; requests = p.1.0; replies = p.1.1 }) (λ _. refl)

abbrev pub log_code : Coded LogList
log_code = code_by (List Numbered × ℕ) (coded× (coded_list numbered_type.the_row.coded) coded_ℕ) (λ l. (l.entries, l.room)) (λ p. record { entries = p.0; room = p.1 }) (λ _. refl)

abbrev pub sends_code : Coded SendList
sends_code = code_by (List (ℕ × Msg) × ℕ) (coded× (coded_list (coded× coded_ℕ msg_type.the_row.coded)) coded_ℕ) (λ l. (l.list, l.room)) (λ p. record { list = p.0; room = p.1 }) (λ _. refl)

abbrev pub box_code : Coded BoxView
box_code =
    code_by (LinkedNode × (BoxState × (List Bool × (SendList × (LogList × SeatView)))))
    (coded× (magic_code linked_code) (coded× out_code (coded× (coded_list coded_bool) (coded× sends_code (coded× log_code seat_code)))))
    (λ b. (b.node, (b.out, (b.departed, (b.sends, (b.log, b.seat))))))
    (λ p. record { node = p.0; out = p.1.0; departed = p.1.1.0; sends = p.1.1.1.0; log = p.1.1.1.1.0; seat = p.1.1.1.1.1 }) (λ _. refl)

-- where no table was picked
abbrev pub no_table : TableView
no_table = record { id = record { words = 0; slots = 0; views_name = 0; atom = 0; block = 0; offset = 0; slot_names = [] }; setup = record { sizes = record { nodes = 0; lines = 0; words = 0; links = 0; sets = 0; pending = 0; evicts = 0 }; programs = [] } }
