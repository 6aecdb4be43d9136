-- Small machines: their sizes, what one of their nodes has, and a state of all nodes.
use Rattle.std.specs.Prelude.{ℕ, ◌==◌, ◌&&◌, if◌then◌else◌, List, [], ◌∷◌, Option, None}
use Rattle.std.specs.FinMap as fin
use Rattle.line_map.specs.Sizes.{Sizes}
use Rattle.op_model.specs.Messages.{same_class}
use Rattle.op_model.specs.declared.messages.Msg.TheVariants as msg
use Rattle.op_model.specs.Lines.{Copy, Header}
use Rattle.op_model.specs.Shares.{Share, State, Lanes}
use Rattle.op_model.specs.Events.Step.{Programs}
use Rattle.row_examples.specs.Types.{Want, Request}

-- nodes, lines a node, words a line, links a node, sets of each cache, pending lines a home, eviction messages a lane
abbrev pub machine : ℕ → ℕ → ℕ → ℕ → ℕ → ℕ → ℕ → Sizes
machine nodes lines words links sets pending evicts =
    record { nodes = nodes; lines = lines; words = words; links = links; sets = sets; pending = pending; evicts = evicts }

-- a node that has done this many operations and begun none, with its copies and the headers of its own lines
abbrev pub share_with : ℕ → List (ℕ × Copy) → List (ℕ × Header) → Share
share_with place copies headers = record { place = place; want = None; copies = fin.from_entries copies; headers = fin.from_entries headers }

-- a node that has begun its first operation
abbrev pub share_waiting : Option Want → Share
share_waiting want = record { place = 0; want = want; copies = fin.empty; headers = fin.empty }

-- nobody has an operation left
abbrev pub no_programs : Programs
no_programs node = []

-- the lanes are empty; or the lane of requests from node 1 to node 0 holds the hint of line 0
abbrev pub no_message : Lanes
no_message src dst class = []

abbrev pub one_hint : Lanes
one_hint src dst class = if (src == 1) && (dst == 0) && same_class class Request then msg.Rpl 0 ∷ [] else []

-- every node has the same, and the lanes are these
abbrev pub all_with : Share → Lanes → State
all_with share lane = record { share = λ node. share; lane = lane }
