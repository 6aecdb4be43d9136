-- Each kind of event of the run, in the whole machine, where a node has this share and a lane this message.
use Rattle.std.proofs.Common.{◌≡◌, ℕ, true, false, ◌==◌, List, [], ◌∷◌, slice_get, Some, None, Ok}
use Rattle.op_model.specs.Nodes.{unlist}
use Rattle.op_model.specs.Operations.{Words}
use Rattle.op_model.specs.Lines.{Copy, Absent, Shared, Header, begun}
use Rattle.op_model.specs.Shares.{program}
use Rattle.op_model.specs.Events.Step.{Programs, Off, none_off, one_off}
use Rattle.op_model.specs.declared.messages.Msg.TheVariants as msg
use Rattle.row_examples.specs.Situations.{nodes, clean}
use Rattle.row_examples.specs.Types.{Reply}
use Rattle.eager_model.specs.Examples.{draining}
use Rattle.eager_model.specs.Types.{Event, Hit, Issue, Request}
use Rattle.eager_model.specs.Step.{AgedDone, effect, first_age}
use Rattle.eager_model.specs.Runs.{Past}
use Rattle.op_model.specs.Events.Node.{NodeOutcome}
use Rattle.eager_run.specs.Worked.{worked, request, reply}
use Rattle.eager_run.proofs.Shares.{Line, number, sizes, node_on, home_on}
use Rattle.eager_run.proofs.Acts.{did, load_of, store_of, asked_load, asks-load, asks-load-aged, asked_store, asks-store, asks-store-aged, took_put, takes-put, takes-put-aged, took_putx, takes-putx, takes-putx-aged, loaded, loads, loads-aged, took_inv, takes-inv, takes-inv-aged}
use Rattle.eager_run.proofs.HomeActs.{shared_with, shares, shares-aged, both_listed, granted_to, grants, grants-aged, drained_to, drains, drains-aged}
use Rattle.eager_run.proofs.Steps.{by_node, issues, hits, takes}

abbrev pub programs : Programs
programs = program worked

abbrev pub zeros : Words
zeros = 0 ∷ []

-- an event does this
abbrev pub Does : Past → Event → AgedDone → Type 0
Does past event done = effect sizes programs past.state past.ages event ≡ Ok done

-- the ages of a line that a node has before it, and that of the message that it takes
abbrev copy_age : Past → ℕ → Line → ℕ
copy_age past node line = (past.ages.node node).copy (number line)

abbrev memory_age : Past → ℕ → Line → ℕ
memory_age past node line = (past.ages.node node).memory (number line)

abbrev reply_age : Past → ℕ → ℕ
reply_age past node = first_age (past.ages.lane 0 node Reply)

-- ---- what the node did, where the words and all ages were 0. A store is on words of age 1

abbrev pub plainly : ℕ → Off → NodeOutcome → AgedDone
plainly node off out = by_node node off (did out 0 0 0 0)

abbrev pub asks_to_load : Line → ℕ → ℕ → Copy → AgedDone
asks_to_load line node place other = plainly node none_off (asked_load line node place other)

abbrev pub asks_to_store : Line → ℕ → ℕ → Copy → AgedDone
asks_to_store line node place other = plainly node none_off (asked_store line node place other)

abbrev pub loads_its_copy : Line → ℕ → ℕ → Copy → AgedDone
loads_its_copy line node place other = plainly node none_off (loaded line node place zeros other)

abbrev pub has_loaded : Line → ℕ → ℕ → Copy → AgedDone
has_loaded line node place other = plainly node (one_off 0 node Reply) (took_put line node place zeros other)

abbrev pub has_stored : Line → ℕ → ℕ → Copy → AgedDone
has_stored line node place other = by_node node (one_off 0 node Reply) (did (took_putx line node place other) 1 0 0 1)

abbrev pub gives_up : Line → ℕ → ℕ → Copy → AgedDone
gives_up line node place other = plainly node (one_off 0 node Request) (took_inv line node place other)

abbrev pub shares_with : Line → ℕ → List ℕ → Header → AgedDone
shares_with line node list other = plainly 0 (one_off node 0 Request) (shared_with line node list zeros other)

abbrev pub grants_to : Line → ℕ → ℕ → Header → AgedDone
grants_to line node left other = plainly 0 (one_off node 0 Request) (granted_to line node left zeros other)

abbrev pub has_drained : Line → ℕ → ℕ → Header → AgedDone
has_drained line owner node other = plainly 0 (one_off node 0 Reply) (drained_to line owner zeros other)

-- ---- events at another node

pub issue-load : (past : Past) (line : Line) (node place : ℕ) (other : Copy) → past.state.share node ≡ node_on line node place None Absent other →
    (node == 0) ≡ false → slice_get (programs node) place ≡ Some (load_of line node place) →
    Does past (Issue node) (by_node node none_off (did (asked_load line node place other) 0 (memory_age past node line) (copy_age past node line) 0))
issue-load past line node place other has away next =
    issues sizes programs past node (node_on line node place None Absent other) (asked_load line node place other) _ has
    (asks-load line node place (programs node) other away next) (asks-load-aged line node place (past.ages.node node) 0 other away)

pub issue-store : (past : Past) (line : Line) (node place : ℕ) (other : Copy) → past.state.share node ≡ node_on line node place None (Shared zeros) other →
    (node == 0) ≡ false → slice_get (programs node) place ≡ Some (store_of line node place) →
    Does past (Issue node) (by_node node none_off (did (asked_store line node place other) 0 (memory_age past node line) (copy_age past node line) 0))
issue-store past line node place other has away next =
    issues sizes programs past node (node_on line node place None (Shared zeros) other) (asked_store line node place other) _ has
    (asks-store line node place zeros (programs node) other away next) (asks-store-aged line node place zeros (past.ages.node node) 0 other away)

pub hit-load : (past : Past) (line : Line) (node place : ℕ) (other : Copy) → past.state.share node ≡ node_on line node place None (Shared zeros) other →
    (node == 0) ≡ false → slice_get (programs node) place ≡ Some (load_of line node place) →
    Does past (Hit node) (by_node node none_off (did (loaded line node place zeros other) (copy_age past node line) (memory_age past node line) (copy_age past node line) (copy_age past node line)))
hit-load past line node place other has away next =
    hits sizes programs past node (node_on line node place None (Shared zeros) other) (loaded line node place zeros other) _ has
    (loads line node place zeros (programs node) other away next) (loads-aged line node place zeros (past.ages.node node) 0 other away)

pub take-put : (past : Past) (line : Line) (node place : ℕ) (other : Copy) → past.state.share node ≡ node_on line node place (begun (load_of line node place)) Absent other →
    (node == 0) ≡ false → past.state.lane 0 node Reply ≡ msg.Put (number line) zeros ∷ [] →
    Does past (reply 0 node) (by_node node (one_off 0 node Reply) (did (took_put line node place zeros other) (reply_age past node) (memory_age past node line) (copy_age past node line) 0))
take-put past line node place other has away first =
    takes sizes programs past 0 node Reply (msg.Put (number line) zeros) (node_on line node place (begun (load_of line node place)) Absent other) (took_put line node place zeros other) _ first has
    (takes-put line node place zeros (programs node) other away) (takes-put-aged line node place zeros (past.ages.node node) (reply_age past node) other away)

pub take-putx : (past : Past) (line : Line) (node place : ℕ) (other : Copy) → past.state.share node ≡ node_on line node place (begun (store_of line node place)) Absent other →
    (node == 0) ≡ false → past.state.lane 0 node Reply ≡ msg.PutX (number line) zeros ∷ [] →
    Does past (reply 0 node) (by_node node (one_off 0 node Reply) (did (took_putx line node place other) (reply_age past node) (memory_age past node line) (copy_age past node line) (reply_age past node)))
take-putx past line node place other has away first =
    takes sizes programs past 0 node Reply (msg.PutX (number line) zeros) (node_on line node place (begun (store_of line node place)) Absent other) (took_putx line node place other) _ first has
    (takes-putx line node place (programs node) other away) (takes-putx-aged line node place (past.ages.node node) (reply_age past node) other away)

pub take-inv : (past : Past) (line : Line) (node place : ℕ) (other : Copy) → past.state.share node ≡ node_on line node place None (Shared zeros) other →
    (node == 0) ≡ false → past.state.lane 0 node Request ≡ msg.Inv (number line) ∷ [] →
    Does past (request 0 node) (by_node node (one_off 0 node Request) (did (took_inv line node place other) 0 (memory_age past node line) (copy_age past node line) 0))
take-inv past line node place other has away first =
    takes sizes programs past 0 node Request (msg.Inv (number line)) (node_on line node place None (Shared zeros) other) (took_inv line node place other) _ first has
    (takes-inv line node place zeros (programs node) other away) (takes-inv-aged line node place zeros (past.ages.node node) (first_age (past.ages.lane 0 node Request)) other away)

-- ---- events at the home

pub share-line : (past : Past) (line : Line) (node : ℕ) (list : List ℕ) (other : Header) → past.state.share 0 ≡ home_on line (clean list zeros) other →
    (node == 0) ≡ false → past.state.lane node 0 Request ≡ msg.Get (number line) ∷ [] →
    Does past (request node 0) (by_node 0 (one_off node 0 Request) (did (shared_with line node list zeros other) 0 (memory_age past 0 line) (memory_age past 0 line) (memory_age past 0 line)))
share-line past line node list other has away first =
    takes sizes programs past node 0 Request (msg.Get (number line)) (home_on line (clean list zeros) other) (shared_with line node list zeros other) _ first has
    (shares line node list zeros (programs 0) other away) (shares-aged line node list zeros (past.ages.node 0) (first_age (past.ages.lane node 0 Request)) other away)

pub grant-line : (past : Past) (line : Line) (node left : ℕ) (other : Header) → past.state.share 0 ≡ home_on line (clean both_listed zeros) other →
    (node == 0) ≡ false → unlist (nodes both_listed) node ≡ nodes (left ∷ []) → past.state.lane node 0 Request ≡ msg.GetX (number line) ∷ [] →
    Does past (request node 0) (by_node 0 (one_off node 0 Request) (did (granted_to line node left zeros other) 0 (memory_age past 0 line) (memory_age past 0 line) 0))
grant-line past line node left other has away rest first =
    takes sizes programs past node 0 Request (msg.GetX (number line)) (home_on line (clean both_listed zeros) other) (granted_to line node left zeros other) _ first has
    (grants line node left zeros (programs 0) other away rest) (grants-aged line node left zeros (past.ages.node 0) (first_age (past.ages.lane node 0 Request)) other away)

pub drain-line : (past : Past) (line : Line) (owner node : ℕ) (other : Header) → past.state.share 0 ≡ home_on line (draining owner false true (node ∷ []) zeros) other →
    (owner == 0) ≡ false → past.state.lane node 0 Reply ≡ msg.InvAck (number line) ∷ [] →
    Does past (reply node 0) (by_node 0 (one_off node 0 Reply) (did (drained_to line owner zeros other) 0 (memory_age past 0 line) (copy_age past 0 line) 0))
drain-line past line owner node other has away first =
    takes sizes programs past node 0 Reply (msg.InvAck (number line)) (home_on line (draining owner false true (node ∷ []) zeros) other) (drained_to line owner zeros other) _ first has
    (drains line owner node zeros (programs 0) other away) (drains-aged line owner node zeros (past.ages.node 0) (first_age (past.ages.lane node 0 Reply)) other)
