-- The situations of the examples: operations, headers, what a node has of one line, and the room of a home. Node 0 is the home of
-- line 0, which has one word in most examples, word 0 of the machine.
use Rattle.std.specs.Prelude.{ℕ, Bool, true, false, List, [], ◌∷◌, length, Option, Some, None}
use Rattle.op_model.specs.Nodes.{Nodes, none, enlist, only}
use Rattle.op_model.specs.Operations.{Words}
use Rattle.op_model.specs.Messages.{Content}
use Rattle.op_model.specs.Lines.{Copy, Absent, Header, LineShare, Room, Outcome, is_empty}
pub use Rattle.op_model.specs.Lines.{begun as wants}
use Rattle.op_model.specs.Tables.Remote.{on_message}
use Rattle.row_examples.specs.Types.{Kind, Load, Store, Op, Want, Grantee, Wait, Idle, Invalidate}

-- the set of these nodes
abbrev pub nodes : List ℕ → Nodes
nodes [] = none
nodes (node ∷ more) = enlist (nodes more) node

-- an operation of a node: its place in the program, its kind, its word and its operand
abbrev pub operation : ℕ → ℕ → Kind → ℕ → ℕ → Op
operation node index kind word value = record { node = node; index = index; kind = kind; word = word; value = value }

-- a node's first operation loads word 0, or stores a value there
abbrev pub load_by : ℕ → Op
load_by node = operation node 0 Load 0 0

abbrev pub store_by : ℕ → ℕ → Op
store_by node value = operation node 0 Store 0 value

-- what a node wants that has begun a load whose line was invalidated meanwhile
abbrev pub wants_marked : Op → Option Want
wants_marked op = Some (record { op = op; marked = true })

-- a clean and idle line, with the listed nodes and the words in memory; the home's own cache has no copy, or a shared one
abbrev pub clean : List ℕ → Words → Header
clean list memory = record { local = false; dirty = false; wait = Idle; acks = 0; list = nodes list; memory = memory }

abbrev pub clean_local : List ℕ → Words → Header
clean_local list memory = record (clean list memory) { local = true }

-- an idle line of which the home itself has the exclusive copy
abbrev pub home_owned : Words → Header
home_owned memory = record { local = true; dirty = true; wait = Idle; acks = 0; list = none; memory = memory }

-- an idle line of which another node has the exclusive copy
abbrev pub owned_by : ℕ → Words → Header
owned_by node memory = record { local = false; dirty = true; wait = Idle; acks = 0; list = only node; memory = memory }

-- a line whose copies are called in for a grantee: as many acknowledgements are due as nodes are listed
abbrev pub called : Grantee → List ℕ → Words → Header
called grantee list memory = record { local = false; dirty = false; wait = Invalidate grantee; acks = length list; list = nodes list; memory = memory }

-- a line that was forwarded to its owner, dirty still or already written back
abbrev pub forwarded : Wait → Bool → List ℕ → Words → Header
forwarded wait dirty list memory = record { local = false; dirty = dirty; wait = wait; acks = 0; list = nodes list; memory = memory }

-- what the home has of a line: its copy and the header, with nothing begun; or with no copy and an operation begun
abbrev pub at_home : Copy → Header → LineShare
at_home copy header = record { copy = copy; want = None; header = header }

abbrev pub home_waits : Op → Header → LineShare
home_waits op header = record { copy = Absent; want = wants op; header = header }

-- what another node has of a line: its copy and what it wants. The header doesn't count there
abbrev pub away : Copy → Option Want → LineShare
away copy want = record { copy = copy; want = want; header = clean [] (0 ∷ []) }

-- the home may make another line pending and has a free link; it has no free link; its budget of pending lines is used up; both
abbrev pub roomy : Room
roomy = record { full = false; link_free = true; link_pending = false; linked = true }

abbrev pub no_link : Room
no_link = record { full = false; link_free = false; link_pending = false; linked = true }

abbrev pub no_budget : Room
no_budget = record { full = true; link_free = true; link_pending = true; linked = true }

abbrev pub no_room : Room
no_room = record { full = true; link_free = false; link_pending = false; linked = true }

-- what node 0 does with a message from the sender on its own line, where its cache set holds no other line
abbrev pub home_takes : ℕ → Content → Room → LineShare → Outcome
home_takes sender content room share = on_message 0 0 sender (is_empty share.copy) room content share

-- what another node does with a message from the sender on a line of node 0, where its cache set holds no other line
abbrev pub node_takes : ℕ → ℕ → Content → LineShare → Outcome
node_takes node sender content share = on_message node 0 sender (is_empty share.copy) roomy content share
