-- The text of the whole state that a run has come to: the nodes, the copies in the caches, the memory, the headers and the messages under way.
use Rattle.std.specs.Prelude.{ℕ, ◌++◌, ◌==◌, Bool, true, false, if◌then◌else◌, List, [], ◌∷◌, length, map, drop, codes, decimal, Option, Some, None}
use Rattle.std.specs.List.{flat_map, range_with_len, list_all}
use Rattle.line_map.specs.Sizes.{Sizes, all_lines}
use Rattle.decimal_text.specs.Text.{named}
use Rattle.text_lines.specs.Printing.{line_text}
use Rattle.trace_text.specs.Printing.{op_words}
use Rattle.op_model.specs.declared.state.CopyState.{CopyState}
use Rattle.op_model.specs.declared.state.CopyState.TheVariants as state
use Rattle.op_model.specs.declared.state.Want.{Want}
use Rattle.op_model.specs.Operations.{Words}
use Rattle.op_model.specs.Lines.{Copy, Absent, Shared, Exclusive}
use Rattle.op_model.specs.Shares.{Share, State, copy_of}
use Rattle.op_model.specs.Run.Schedules.{Lane, all_nodes, lanes_in_order}
use Rattle.op_model.specs.Run.Machines.{MachineRun}
pub use Rattle.dir_report.specs.Reports.{nodes_word as numbers_word}
use Rattle.dir_report.specs.declared.mode.Mode.TheVariants.{Delayed}
use Rattle.dir_report.specs.Reports.{header_at, lines_text}
use Rattle.time_view.specs.Messages.{message_words}

-- a section: its name with the number of its lines, and the lines, each made of words
abbrev pub section : List ℕ → List (List (List ℕ)) → List ℕ
section name lines = named name (length lines) ++ flat_map line_text lines

-- ---- nodes

abbrev pub mark_words : Bool → List (List ℕ)
mark_words true = codes "marked" ∷ []
mark_words false = []

-- what a node has begun: the operation as in its trace, without the node
abbrev pub want_words : Option Want → List (List ℕ)
want_words None = codes "-" ∷ []
want_words (Some want) = drop 1 (op_words want.op) ++ mark_words want.marked

-- <node> <place> <want>
abbrev pub node_words : ℕ → Share → List (List ℕ)
node_words node share = decimal node ∷ decimal share.place ∷ want_words share.want

unfoldable pub nodes_text : Sizes → State → List ℕ
nodes_text sizes state = named (codes "nodes ") sizes.nodes ++ flat_map (λ node. line_text (node_words node (state.share node))) (all_nodes sizes)

-- ---- copies

abbrev pub state_word : CopyState → List ℕ
state_word state.Absent = codes "absent"
state_word state.Shared = codes "shared"
state_word state.Exclusive = codes "exclusive"

-- <node> <line> shared|exclusive <words>
abbrev pub copy_words : ℕ → ℕ → CopyState → Words → List (List ℕ)
copy_words node line copied words = decimal node ∷ decimal line ∷ state_word copied ∷ numbers_word words ∷ []

-- a line that a cache doesn't have isn't printed
abbrev pub copy_lines : ℕ → ℕ → Copy → List (List (List ℕ))
copy_lines node line Absent = []
copy_lines node line (Shared words) = copy_words node line state.Shared words ∷ []
copy_lines node line (Exclusive words) = copy_words node line state.Exclusive words ∷ []

abbrev pub node_copies : Sizes → State → ℕ → List (List (List ℕ))
node_copies sizes state node = flat_map (λ line. copy_lines node line (copy_of (state.share node) line)) (range_with_len 0 (all_lines sizes))

abbrev pub all_copies : Sizes → State → List (List (List ℕ))
all_copies sizes state = flat_map (node_copies sizes state) (all_nodes sizes)

unfoldable pub copies_text : Sizes → State → List ℕ
copies_text sizes state = section (codes "copies ") (all_copies sizes state)

-- ---- memory

abbrev pub are_zeros : Words → Bool
are_zeros words = list_all (λ word. word == 0) words

-- <line> <words>, where these aren't all 0
abbrev pub memory_lines : ℕ → Words → List (List (List ℕ))
memory_lines line words = if are_zeros words then [] else (decimal line ∷ numbers_word words ∷ []) ∷ []

abbrev pub all_memory : Sizes → State → List (List (List ℕ))
all_memory sizes state = flat_map (λ line. memory_lines line (header_at sizes state line).memory) (range_with_len 0 (all_lines sizes))

unfoldable pub memory_text : Sizes → State → List ℕ
memory_text sizes state = section (codes "memory ") (all_memory sizes state)

-- ---- lanes

-- the messages of a lane, from the front
abbrev pub lane_lines : State → Lane → List (List (List ℕ))
lane_lines state lane = map (message_words lane) (state.lane lane.src lane.dst lane.class)

abbrev pub all_messages : Sizes → State → List (List (List ℕ))
all_messages sizes state = flat_map (lane_lines state) (lanes_in_order sizes)

unfoldable pub lanes_text : Sizes → State → List ℕ
lanes_text sizes state = section (codes "lanes ") (all_messages sizes state)

-- ---- the whole state

-- the state that a run has come to, with the number of its events
unfoldable pub state_text : MachineRun → List ℕ
state_text m =
    codes "flash state 1\n"
    ++ named (codes "step ") (length m.events)
    ++ nodes_text m.sizes m.past.state
    ++ copies_text m.sizes m.past.state
    ++ memory_text m.sizes m.past.state
    ++ lines_text Delayed (codes "headers ") m.sizes m.past.state
    ++ lanes_text m.sizes m.past.state
    ++ codes "end\n"
