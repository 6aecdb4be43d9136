-- What the home of both lines does in the run, for either line: it shares it, grants it while it drains, and takes the one acknowledgement.
use Rattle.std.proofs.Common.{◌≡◌, ℕ, true, false, ◌==◌, List, [], ◌∷◌, None, Ok, refl, arith}
use Rattle.std.proofs.lemmas.Bool.Decides.{nat_tests}
use Rattle.op_model.specs.Nodes.{listed, unlist, count, listings, in_order-only}
use Rattle.op_model.specs.Operations.{Words}
use Rattle.op_model.specs.Lines.{Header, NoService, For}
use Rattle.op_model.specs.Shares.{copy_of, put_share}
use Rattle.op_model.specs.Events.Node.{TakeFrom, NodeOutcome}
use Rattle.op_model.specs.Tables.Home as delayed
use Rattle.op_model.specs.Tables.Remote as delayed_remote
use Rattle.op_model.specs.declared.messages.Msg.TheVariants as msg
use Rattle.row_examples.specs.Situations.{nodes, clean, owned_by}
use Rattle.row_examples.proofs.Public.{get-none, remove-empty}
use Rattle.eager_model.specs.Types.{Op}
use Rattle.eager_model.specs.Examples.{draining}
use Rattle.eager_model.specs.Rows.{meets, row_of, on_message, on_getx, on_inv_ack}
use Rattle.eager_model.specs.Node.{NodeAges, aged, local, meets_row}
use Rattle.eager_run.proofs.Shares.{Line, line_x, line_y, number, sizes, home_on, header-on, put-header, roomy-on}
use Rattle.eager_run.proofs.Acts.{did}

-- ---- it sends memory's words to a node that loads, and lists it

abbrev pub shared_with : Line → ℕ → List ℕ → Words → Header → NodeOutcome
shared_with line node list words other =
    record { share = home_on line (clean (node ∷ list) words) other; sends = (node, msg.Put (number line) words) ∷ []; line = number line; served = For node words; done = false }

pub shares : (line : Line) (node : ℕ) (list : List ℕ) (words : Words) (program : List Op) (other : Header) → (node == 0) ≡ false →
    local sizes 0 program (home_on line (clean list words) other) (TakeFrom node (msg.Get (number line)) None) ≡ Ok (shared_with line node list words other)
unfolding local copy_of put_share on_message meets delayed_remote.meets row_of delayed_remote.row_of delayed.on_get
shares line_x node list words program other away = rw (header-on line_x, away, get-none, remove-empty, put-header line_x) refl
shares line_y node list words program other away = rw (header-on line_y, away, get-none, remove-empty, put-header line_y) refl

pub shares-aged : (line : Line) (node : ℕ) (list : List ℕ) (words : Words) (ages : NodeAges) (age : ℕ) (other : Header) → (node == 0) ≡ false →
    aged sizes 0 (home_on line (clean list words) other) ages (TakeFrom node (msg.Get (number line)) None) age (shared_with line node list words other)
    ≡ did (shared_with line node list words other) 0 (ages.memory (number line)) (ages.memory (number line)) (ages.memory (number line))
unfolding aged copy_of meets_row meets delayed_remote.meets
shares-aged line_x node list words ages age other away = rw (header-on line_x, away, get-none) refl
shares-aged line_y node list words ages age other away = rw (header-on line_y, away, get-none) refl

-- ---- it grants the line to one of its two sharers, and calls the copy of the other in

abbrev pub both_listed : List ℕ
both_listed = 2 ∷ 1 ∷ []

abbrev pub granted_to : Line → ℕ → ℕ → Words → Header → NodeOutcome
granted_to line node left words other =
    record {
      share = home_on line (draining node false true (left ∷ []) words) other;
      sends = (node, msg.PutX (number line) words) ∷ (left, msg.Inv (number line)) ∷ [];
      line = number line;
      served = NoService;
      done = false;
    }

one-listed : (node : ℕ) → count (nodes (node ∷ [])) ≡ 1
one-listed node = simp listings refl

pub grants : (line : Line) (node left : ℕ) (words : Words) (program : List Op) (other : Header) → (node == 0) ≡ false → unlist (nodes both_listed) node ≡ nodes (left ∷ []) →
    local sizes 0 program (home_on line (clean both_listed words) other) (TakeFrom node (msg.GetX (number line)) None) ≡ Ok (granted_to line node left words other)
unfolding local copy_of put_share on_message meets delayed_remote.meets row_of on_getx
grants line_x node left words program other away rest =
    rw (header-on line_x, away, rest, one-listed left, roomy-on line_x (clean both_listed words) other refl, in_order-only left, remove-empty, put-header line_x) refl
grants line_y node left words program other away rest =
    rw (header-on line_y, away, rest, one-listed left, roomy-on line_y (clean both_listed words) other refl, in_order-only left, remove-empty, put-header line_y) refl

pub grants-aged : (line : Line) (node left : ℕ) (words : Words) (ages : NodeAges) (age : ℕ) (other : Header) → (node == 0) ≡ false →
    aged sizes 0 (home_on line (clean both_listed words) other) ages (TakeFrom node (msg.GetX (number line)) None) age (granted_to line node left words other)
    ≡ did (granted_to line node left words other) 0 (ages.memory (number line)) (ages.memory (number line)) 0
unfolding aged copy_of meets_row meets delayed_remote.meets
grants-aged line_x node left words ages age other away = rw (header-on line_x, away, get-none) refl
grants-aged line_y node left words ages age other away = rw (header-on line_y, away, get-none) refl

-- ---- it takes the only acknowledgement that is due: the grantee owns the line

abbrev pub drained_to : Line → ℕ → Words → Header → NodeOutcome
drained_to line owner words other = record { share = home_on line (owned_by owner words) other; sends = []; line = number line; served = NoService; done = false }

listed-alone : (node : ℕ) → listed (nodes (node ∷ [])) node ≡ true
listed-alone node = grind (arith, nat_tests, listings)

pub drains : (line : Line) (owner node : ℕ) (words : Words) (program : List Op) (other : Header) → (owner == 0) ≡ false →
    local sizes 0 program (home_on line (draining owner false true (node ∷ []) words) other) (TakeFrom node (msg.InvAck (number line)) None) ≡ Ok (drained_to line owner words other)
unfolding local copy_of put_share on_message meets delayed_remote.meets row_of on_inv_ack
drains line_x owner node words program other away = rw (header-on line_x, listed-alone node, away, get-none, remove-empty, put-header line_x) refl
drains line_y owner node words program other away = rw (header-on line_y, listed-alone node, away, get-none, remove-empty, put-header line_y) refl

pub drains-aged : (line : Line) (owner node : ℕ) (words : Words) (ages : NodeAges) (age : ℕ) (other : Header) →
    aged sizes 0 (home_on line (draining owner false true (node ∷ []) words) other) ages (TakeFrom node (msg.InvAck (number line)) None) age (drained_to line owner words other)
    ≡ did (drained_to line owner words other) 0 (ages.memory (number line)) (ages.copy (number line)) 0
unfolding aged copy_of meets_row meets delayed_remote.meets
drains-aged line_x owner node words ages age other = rw (header-on line_x, listed-alone node, get-none) refl
drains-aged line_y owner node words ages age other = rw (header-on line_y, listed-alone node, get-none) refl
