-- What a node other than the home does in the run, for either line: it asks, takes an answer or an invalidation, or loads its copy.
use Rattle.std.proofs.Common.{◌≡◌, ℕ, suc, true, false, ◌==◌, List, [], ◌∷◌, slice_get, Some, None, Ok, refl}
use Rattle.op_model.specs.Operations.{Words, after_op}
use Rattle.op_model.specs.Lines.{Copy, Absent, Shared, Exclusive, NoService, Own, begun}
use Rattle.op_model.specs.Shares.{copy_of, put_share}
use Rattle.op_model.specs.Events.Node.{HitNext, IssueNext, TakeFrom, NodeOutcome}
use Rattle.op_model.specs.Events.Node as delayed_node
use Rattle.op_model.specs.Tables.Processor as delayed
use Rattle.op_model.specs.Tables.Remote as delayed_remote
use Rattle.op_model.specs.declared.messages.Msg.TheVariants as msg
use Rattle.row_examples.specs.Situations.{operation}
use Rattle.row_examples.specs.Types.{Load, Store}
use Rattle.eager_model.specs.Types.{Op}
use Rattle.eager_model.specs.Rows.{begin_op, meets, row_of, on_message}
use Rattle.eager_model.specs.Node.{Aged, NodeAges, aged, local, meets_row}
use Rattle.eager_run.proofs.Shares.{Line, line_x, line_y, number, sizes, node_on, copy-on, put-on, no-conflict, alone-on}

-- what a node did with a line, with the ages of its copy and of memory after it, of the words that it gave and of the operation served
abbrev pub did : NodeOutcome → ℕ → ℕ → ℕ → ℕ → Aged
did out copy memory given served = record { out = out; ages = record { copy = copy; memory = memory }; given = given; served = served }

abbrev pub load_of : Line → ℕ → ℕ → Op
load_of line node place = operation node place Load (number line) 0

abbrev pub store_of : Line → ℕ → ℕ → Op
store_of line node place = operation node place Store (number line) 1

-- ---- it asks for a line that it has no copy of, to load it

abbrev pub asked_load : Line → ℕ → ℕ → Copy → NodeOutcome
asked_load line node place other =
    record { share = node_on line node place (begun (load_of line node place)) Absent other; sends = (0, msg.Get (number line)) ∷ []; line = number line; served = NoService; done = false }

pub asks-load : (line : Line) (node place : ℕ) (program : List Op) (other : Copy) → (node == 0) ≡ false → slice_get program place ≡ Some (load_of line node place) →
    local sizes node program (node_on line node place None Absent other) IssueNext ≡ Ok (asked_load line node place other)
unfolding local copy_of put_share begin_op delayed.begin_op delayed.ask
asks-load line_x node place program other away next = rw (next, copy-on line_x, no-conflict line_x, away, put-on line_x, away) refl
asks-load line_y node place program other away next = rw (next, copy-on line_y, no-conflict line_y, away, put-on line_y, away) refl

pub asks-load-aged : (line : Line) (node place : ℕ) (ages : NodeAges) (age : ℕ) (other : Copy) → (node == 0) ≡ false →
    aged sizes node (node_on line node place None Absent other) ages IssueNext age (asked_load line node place other)
    ≡ did (asked_load line node place other) 0 (ages.memory (number line)) (ages.copy (number line)) 0
unfolding aged copy_of
asks-load-aged line_x node place ages age other away = rw (copy-on line_x, away) refl
asks-load-aged line_y node place ages age other away = rw (copy-on line_y, away) refl

-- ---- it asks for a line that it has a shared copy of, to store to it

abbrev pub asked_store : Line → ℕ → ℕ → Copy → NodeOutcome
asked_store line node place other =
    record { share = node_on line node place (begun (store_of line node place)) Absent other; sends = (0, msg.GetX (number line)) ∷ []; line = number line; served = NoService; done = false }

pub asks-store : (line : Line) (node place : ℕ) (words : Words) (program : List Op) (other : Copy) → (node == 0) ≡ false → slice_get program place ≡ Some (store_of line node place) →
    local sizes node program (node_on line node place None (Shared words) other) IssueNext ≡ Ok (asked_store line node place other)
unfolding local copy_of put_share begin_op delayed.begin_op delayed.ask
asks-store line_x node place words program other away next = rw (next, copy-on line_x, no-conflict line_x, away, put-on line_x, away) refl
asks-store line_y node place words program other away next = rw (next, copy-on line_y, no-conflict line_y, away, put-on line_y, away) refl

pub asks-store-aged : (line : Line) (node place : ℕ) (words : Words) (ages : NodeAges) (age : ℕ) (other : Copy) → (node == 0) ≡ false →
    aged sizes node (node_on line node place None (Shared words) other) ages IssueNext age (asked_store line node place other)
    ≡ did (asked_store line node place other) 0 (ages.memory (number line)) (ages.copy (number line)) 0
unfolding aged copy_of
asks-store-aged line_x node place words ages age other away = rw (copy-on line_x, away) refl
asks-store-aged line_y node place words ages age other away = rw (copy-on line_y, away) refl

-- ---- it takes the words for its load

abbrev pub took_put : Line → ℕ → ℕ → Words → Copy → NodeOutcome
took_put line node place words other =
    record { share = node_on line node (suc place) None (Shared words) other; sends = []; line = number line; served = NoService; done = true }

pub takes-put : (line : Line) (node place : ℕ) (words : Words) (program : List Op) (other : Copy) → (node == 0) ≡ false →
    local sizes node program (node_on line node place (begun (load_of line node place)) Absent other) (TakeFrom 0 (msg.Put (number line) words) None) ≡ Ok (took_put line node place words other)
unfolding local copy_of put_share on_message meets delayed_remote.meets row_of delayed_remote.row_of delayed_remote.on_put
takes-put line_x node place words program other away = rw (copy-on line_x, alone-on line_x, away, put-on line_x) refl
takes-put line_y node place words program other away = rw (copy-on line_y, alone-on line_y, away, put-on line_y) refl

pub takes-put-aged : (line : Line) (node place : ℕ) (words : Words) (ages : NodeAges) (age : ℕ) (other : Copy) → (node == 0) ≡ false →
    aged sizes node (node_on line node place (begun (load_of line node place)) Absent other) ages (TakeFrom 0 (msg.Put (number line) words) None) age (took_put line node place words other)
    ≡ did (took_put line node place words other) age (ages.memory (number line)) (ages.copy (number line)) 0
unfolding aged copy_of meets_row meets delayed_remote.meets
takes-put-aged line_x node place words ages age other away = rw (copy-on line_x, alone-on line_x, away) refl
takes-put-aged line_y node place words ages age other away = rw (copy-on line_y, alone-on line_y, away) refl

-- ---- it takes the words for its store

abbrev pub took_putx : Line → ℕ → ℕ → Copy → NodeOutcome
took_putx line node place other =
    record { share = node_on line node (suc place) None (Exclusive (1 ∷ [])) other; sends = []; line = number line; served = Own (store_of line node place) (0 ∷ []); done = true }

pub takes-putx : (line : Line) (node place : ℕ) (program : List Op) (other : Copy) → (node == 0) ≡ false →
    local sizes node program (node_on line node place (begun (store_of line node place)) Absent other) (TakeFrom 0 (msg.PutX (number line) (0 ∷ [])) None) ≡ Ok (took_putx line node place other)
unfolding local copy_of put_share on_message meets delayed_remote.meets row_of delayed_remote.row_of delayed_remote.on_putx after_op
takes-putx line_x node place program other away = rw (copy-on line_x, alone-on line_x, away, put-on line_x) refl
takes-putx line_y node place program other away = rw (copy-on line_y, alone-on line_y, away, put-on line_y) refl

pub takes-putx-aged : (line : Line) (node place : ℕ) (ages : NodeAges) (age : ℕ) (other : Copy) → (node == 0) ≡ false →
    aged sizes node (node_on line node place (begun (store_of line node place)) Absent other) ages (TakeFrom 0 (msg.PutX (number line) (0 ∷ [])) None) age (took_putx line node place other)
    ≡ did (took_putx line node place other) age (ages.memory (number line)) (ages.copy (number line)) age
unfolding aged copy_of meets_row meets delayed_remote.meets
takes-putx-aged line_x node place ages age other away = rw (copy-on line_x, alone-on line_x, away) refl
takes-putx-aged line_y node place ages age other away = rw (copy-on line_y, alone-on line_y, away) refl

-- ---- it loads from its shared copy

abbrev pub loaded : Line → ℕ → ℕ → Words → Copy → NodeOutcome
loaded line node place words other =
    record { share = node_on line node (suc place) None (Shared words) other; sends = []; line = number line; served = Own (load_of line node place) words; done = true }

pub loads : (line : Line) (node place : ℕ) (words : Words) (program : List Op) (other : Copy) → (node == 0) ≡ false → slice_get program place ≡ Some (load_of line node place) →
    local sizes node program (node_on line node place None (Shared words) other) HitNext ≡ Ok (loaded line node place words other)
unfolding local copy_of put_share delayed_node.local delayed.hit
loads line_x node place words program other away next = rw (next, copy-on line_x, away, put-on line_x) refl
loads line_y node place words program other away next = rw (next, copy-on line_y, away, put-on line_y) refl

pub loads-aged : (line : Line) (node place : ℕ) (words : Words) (ages : NodeAges) (age : ℕ) (other : Copy) → (node == 0) ≡ false →
    aged sizes node (node_on line node place None (Shared words) other) ages HitNext age (loaded line node place words other)
    ≡ did (loaded line node place words other) (ages.copy (number line)) (ages.memory (number line)) (ages.copy (number line)) (ages.copy (number line))
unfolding aged copy_of
loads-aged line_x node place words ages age other away = rw (copy-on line_x, away) refl
loads-aged line_y node place words ages age other away = rw (copy-on line_y, away) refl

-- ---- it takes an invalidation of its shared copy

abbrev pub took_inv : Line → ℕ → ℕ → Copy → NodeOutcome
took_inv line node place other =
    record { share = node_on line node place None Absent other; sends = (0, msg.InvAck (number line)) ∷ []; line = number line; served = NoService; done = false }

pub takes-inv : (line : Line) (node place : ℕ) (words : Words) (program : List Op) (other : Copy) → (node == 0) ≡ false →
    local sizes node program (node_on line node place None (Shared words) other) (TakeFrom 0 (msg.Inv (number line)) None) ≡ Ok (took_inv line node place other)
unfolding local copy_of put_share on_message meets delayed_remote.meets row_of delayed_remote.row_of delayed_remote.on_inv
takes-inv line_x node place words program other away = rw (copy-on line_x, away, put-on line_x) refl
takes-inv line_y node place words program other away = rw (copy-on line_y, away, put-on line_y) refl

pub takes-inv-aged : (line : Line) (node place : ℕ) (words : Words) (ages : NodeAges) (age : ℕ) (other : Copy) → (node == 0) ≡ false →
    aged sizes node (node_on line node place None (Shared words) other) ages (TakeFrom 0 (msg.Inv (number line)) None) age (took_inv line node place other)
    ≡ did (took_inv line node place other) 0 (ages.memory (number line)) (ages.copy (number line)) 0
unfolding aged copy_of meets_row meets delayed_remote.meets
takes-inv-aged line_x node place words ages age other away = rw (copy-on line_x, away) refl
takes-inv-aged line_y node place words ages age other away = rw (copy-on line_y, away) refl
