-- What a node has yet to hand over: its machine, and for each destination the requests and the replies that wait, from the front.
use Rattle.std.specs.Prelude.{◌≡◌, ℕ, ◌≤◌, ◌<◌, Bool, if◌then◌else◌, ◌&&◌, ◌==◌, List, [], length, replicate, slice_index_or, slice_set, refl}
use Rattle.std.proofs.Common.{arith, zero, suc, true, false, ◌∙◌}
use Rattle.std.proofs.lemmas.Bool.Decides.{nat_tests}
use Rattle.std.proofs.lemmas.Grind.{get_or-set_at}
use Rattle.std.proofs.lemmas.List.{get_or-set_other}
use Rattle.line_map.specs.Sizes.{Sizes}
use Rattle.op_model.specs.declared.events.Class.{Class}
use Rattle.op_model.specs.declared.events.Class.TheVariants.{Request, Reply}
use Rattle.op_model.specs.declared.messages.Msg.{Msg}
use Rattle.op_model.specs.Messages.{same_class}
use Rattle.op_model.specs.Run.Bounds.{lane_bound}

pub record BoxState : Type 0 where
  pub sizes : Sizes
  pub requests : List (List Msg)
  pub replies : List (List Msg)

abbrev pub empty_box : Sizes → BoxState
empty_box sizes = record { sizes = sizes; requests = replicate sizes.nodes []; replies = replicate sizes.nodes [] }

-- the messages that wait for a destination, of one class
abbrev pub waiting : BoxState → ℕ → Class → List Msg
waiting box dst Request = slice_index_or box.requests dst []
waiting box dst Reply = slice_index_or box.replies dst []

-- the box with these messages in the place of those
abbrev pub with_waiting : BoxState → ℕ → Class → List Msg → BoxState
with_waiting box dst Request messages = record box { requests = slice_set box.requests dst messages }
with_waiting box dst Reply messages = record box { replies = slice_set box.replies dst messages }

-- What holds of every box: it has a place for each node, and no lane holds more than its bound
pub record IsBox (box : BoxState) : Type 0 where
  pub requests : length box.requests ≡ box.sizes.nodes
  pub replies : length box.replies ≡ box.sizes.nodes
  pub bound : (dst : ℕ) (class : Class) → length (waiting box dst class) ≤ lane_bound box.sizes class

-- the machine stays
pub sizes-with_waiting : (box : BoxState) (dst : ℕ) (class : Class) (messages : List Msg) → (with_waiting box dst class messages).sizes ≡ box.sizes
sizes-with_waiting box dst Request messages = refl
sizes-with_waiting box dst Reply messages = refl

-- at first no message waits
none_of : (n dst : ℕ) → slice_index_or (replicate {A = List Msg} n []) dst [] ≡ []
none_of zero dst = refl
none_of (suc n) zero = refl
none_of (suc n) (suc dst) = none_of n dst

pub waiting-empty_box : (sizes : Sizes) (dst : ℕ) (class : Class) → waiting (empty_box sizes) dst class ≡ []
waiting-empty_box sizes dst Request = none_of sizes.nodes dst
waiting-empty_box sizes dst Reply = none_of sizes.nodes dst

-- what waits elsewhere stays
at_place : (lists : List (List Msg)) (i j : ℕ) (messages : List Msg) → i < length lists → slice_index_or (slice_set lists i messages) j [] ≡ (if j == i then messages else slice_index_or lists j [])
at_place lists i j messages within = grind (arith, nat_tests, get_or-set_at, get_or-set_other)

by_node : (b : Bool) (here there : List Msg) → (if b then here else there) ≡ (if b && true then here else there)
by_node true here there = refl
by_node false here there = refl

by_class : (b : Bool) (here there : List Msg) → there ≡ (if b && false then here else there)
by_class true here there = refl
by_class false here there = refl

pub waiting-with_waiting : (box : BoxState) (dst : ℕ) (class : Class) (messages : List Msg) (other : ℕ) (k : Class) → IsBox box → dst < box.sizes.nodes
    → waiting (with_waiting box dst class messages) other k ≡ (if (other == dst) && same_class k class then messages else waiting box other k)
waiting-with_waiting box dst Request messages other Request is below = at_place box.requests dst other messages (omega arith) ∙ by_node (other == dst) _ _
waiting-with_waiting box dst Reply messages other Reply is below = at_place box.replies dst other messages (omega arith) ∙ by_node (other == dst) _ _
waiting-with_waiting box dst Request messages other Reply is below = by_class (other == dst) _ _
waiting-with_waiting box dst Reply messages other Request is below = by_class (other == dst) _ _
