-- The definition of the first busy lane, a search in the list of all lanes, answers the lane before which no lane is busy: the list goes by sender, then by taker, then requests before replies.
use Rattle.std.proofs.Common.{◌≡◌, ℕ, zero, suc, ◌+◌, ◌<◌, ◌≤◌, Bool, true, false, cond, List, find, flat_map, Option, Some, None, refl, ap, ◌∙◌, arith, ◌⊎◌, inl, inr}
use Rattle.std.specs.List.{range_with_len}
use Rattle.std.specs.Option.{option_or}
use Rattle.std.proofs.lemmas.List.Concat.{flat_map-cons}
use Rattle.std.proofs.lemmas.List.Folds.{find-append}
use Rattle.std.proofs.Math.Nat.{eq-or-lt_of_le}
use Rattle.line_map.specs.Sizes.{Sizes}
use Rattle.op_model.specs.declared.events.Class.{Class}
use Rattle.op_model.specs.declared.events.Class.TheVariants.{Request, Reply}
use Rattle.op_model.specs.Shares.{Lanes}
use Rattle.op_model.specs.Run.Schedules.{Lane, both_lanes, lanes_in_order, first_busy_in}
use Rattle.lane_queues.specs.FirstBusy.{Marks, IsFirst, IsNowhere, busy_in}

abbrev lane_at : ℕ → ℕ → Class → Lane
lane_at src dst class = record { src = src; dst = dst; class = class }

abbrev test : Marks → Lane → Bool
test marks lane = marks lane.src lane.dst lane.class

-- the lanes from one sender to so many takers
abbrev from_one : ℕ → ℕ → ℕ → List Lane
from_one src a n = flat_map (both_lanes src) (range_with_len a n)

past_pair : {X : Type 0} (p q : Bool) (x y z : Option X) → p ≡ false → q ≡ false → cond p x (cond q y z) ≡ z
past_pair p q x y z e f = rw (e, f) refl

-- a search over the two lanes to one taker, and then over others
both_then : (marks : Marks) (src a n : ℕ)
    → find (test marks) (from_one src a (suc n)) ≡ cond (marks src a Request) (Some (lane_at src a Request)) (cond (marks src a Reply) (Some (lane_at src a Reply)) (find (test marks) (from_one src (a + 1) n)))
both_then marks src a n = ap (find (test marks)) (flat_map-cons (both_lanes src) a (range_with_len (a + 1) n))

one_none : (marks : Marks) (src a n : ℕ) → ((b : ℕ) (k : Class) → a ≤ b → b < a + n → marks src b k ≡ false) → find (test marks) (from_one src a n) ≡ None
one_none marks src a zero quiet = refl
one_none marks src a (suc n) quiet =
    both_then marks src a n
    ∙ past_pair (marks src a Request) (marks src a Reply) (Some (lane_at src a Request)) (Some (lane_at src a Reply)) (find (test marks) (from_one src (a + 1) n)) (quiet a Request (omega arith) (omega arith)) (quiet a Reply (omega arith) (omega arith))
    ∙ one_none marks src (a + 1) n (λ b k low high. quiet b k (omega (arith, low)) (omega (arith, high)))

-- the pair of lanes to the taker that is sought
here : {X : Type 0} (f : Class → X) (m : Class → Bool) (class : Class) (z : Option X) → m class ≡ true → (class ≡ Reply → m Request ≡ false) → cond (m Request) (Some (f Request)) (cond (m Reply) (Some (f Reply)) z) ≡ Some (f class)
here f m Request z marked first = rw marked refl
here f m Reply z marked first = rw (first refl, marked) refl

one_first : (marks : Marks) (src a n dst : ℕ) (class : Class) → a ≤ dst → dst < a + n → marks src dst class ≡ true → ((b : ℕ) (k : Class) → a ≤ b → b < dst → marks src b k ≡ false) → (class ≡ Reply → marks src dst Request ≡ false)
    → find (test marks) (from_one src a n) ≡ Some (lane_at src dst class)
one_first marks src a zero dst class low high marked quiet first = absurd (omega (arith, low, high))
one_first marks src a (suc n) dst class low high marked quiet first =
    both_then marks src a n ∙ go (one_first marks src (a + 1) n dst class) (eq-or-lt_of_le low)
  where
    rest : Option Lane
    rest = find (test marks) (from_one src (a + 1) n)

    go : (a + 1 ≤ dst → dst < a + 1 + n → marks src dst class ≡ true → ((b : ℕ) (k : Class) → a + 1 ≤ b → b < dst → marks src b k ≡ false) → (class ≡ Reply → marks src dst Request ≡ false) → rest ≡ Some (lane_at src dst class))
        → (a ≡ dst) ⊎ (a < dst) → cond (marks src a Request) (Some (lane_at src a Request)) (cond (marks src a Reply) (Some (lane_at src a Reply)) rest) ≡ Some (lane_at src dst class)
    go later (inl same) = rw same (here (lane_at src dst) (marks src dst) class (find (test marks) (from_one src (dst + 1) n)) marked first)
    go later (inr less) =
        past_pair (marks src a Request) (marks src a Reply) (Some (lane_at src a Request)) (Some (lane_at src a Reply)) rest (quiet a Request (omega arith) less) (quiet a Reply (omega arith) less)
        ∙ later (omega (arith, less)) (omega (arith, high)) marked (λ b k x y. quiet b k (omega (arith, x)) y) first

-- the lanes from so many senders
abbrev from_all : ℕ → ℕ → ℕ → List Lane
from_all nodes a n = flat_map (λ src. from_one src 0 nodes) (range_with_len a n)

one_then : (marks : Marks) (nodes a n : ℕ) → find (test marks) (from_all nodes a (suc n)) ≡ option_or (find (test marks) (from_one a 0 nodes)) (find (test marks) (from_all nodes (a + 1) n))
one_then marks nodes a n =
    ap (find (test marks)) (flat_map-cons (λ src. from_one src 0 nodes) a (range_with_len (a + 1) n))
    ∙ find-append (test marks) (from_one a 0 nodes) (from_all nodes (a + 1) n)

all_none : (marks : Marks) (nodes a n : ℕ) → ((src dst : ℕ) (k : Class) → a ≤ src → src < a + n → dst < nodes → marks src dst k ≡ false) → find (test marks) (from_all nodes a n) ≡ None
all_none marks nodes a zero quiet = refl
all_none marks nodes a (suc n) quiet =
    let first = one_none marks a 0 nodes (λ b k low high. quiet a b k (omega arith) (omega arith) (omega (arith, high))) in
    one_then marks nodes a n
    ∙ ap (λ o. option_or o (find (test marks) (from_all nodes (a + 1) n))) first
    ∙ all_none marks nodes (a + 1) n (λ src dst k low high below. quiet src dst k (omega (arith, low)) (omega (arith, high)) below)

all_first : (marks : Marks) (nodes a n src dst : ℕ) (class : Class) → a ≤ src → src < a + n → IsFirst nodes marks src dst class → find (test marks) (from_all nodes a n) ≡ Some (lane_at src dst class)
all_first marks nodes a zero src dst class low high is = absurd (omega (arith, low, high))
all_first marks nodes a (suc n) src dst class low high is = one_then marks nodes a n ∙ go (all_first marks nodes (a + 1) n src dst class) (eq-or-lt_of_le low)
  where
    rest : Option Lane
    rest = find (test marks) (from_all nodes (a + 1) n)

    go : (a + 1 ≤ src → src < a + 1 + n → IsFirst nodes marks src dst class → rest ≡ Some (lane_at src dst class)) → (a ≡ src) ⊎ (a < src) → option_or (find (test marks) (from_one a 0 nodes)) rest ≡ Some (lane_at src dst class)
    go later (inl same) =
        let found = one_first marks src 0 nodes dst class (omega arith) (omega (arith, is.first.to)) is.first.marked (λ b k x y. is.first.before b k y) is.first.requests in
        rw (same, found) refl
    go later (inr less) =
        let nothing = one_none marks a 0 nodes (λ b k x y. is.before a b k less (omega (arith, y))) in
        rw nothing (later (omega (arith, less)) (omega (arith, high)) is)

-- a search for marked lanes
pub marked-none : (sizes : Sizes) (marks : Marks) → IsNowhere sizes.nodes marks → find (test marks) (lanes_in_order sizes) ≡ None
unfolding lanes_in_order
marked-none sizes marks quiet = all_none marks sizes.nodes 0 sizes.nodes (λ src dst k low high below. quiet src (omega (arith, high)) dst k below)

pub marked-some : (sizes : Sizes) (marks : Marks) (src dst : ℕ) (class : Class) → IsFirst sizes.nodes marks src dst class → find (test marks) (lanes_in_order sizes) ≡ Some (lane_at src dst class)
unfolding lanes_in_order
marked-some sizes marks src dst class is = all_first marks sizes.nodes 0 sizes.nodes src dst class (omega arith) (omega (arith, is.from)) is

pub first_busy-none : (sizes : Sizes) (lanes : Lanes) → IsNowhere sizes.nodes (busy_in lanes) → first_busy_in sizes lanes ≡ None
unfolding lanes_in_order
first_busy-none sizes lanes quiet = all_none (busy_in lanes) sizes.nodes 0 sizes.nodes (λ src dst k low high below. quiet src (omega (arith, high)) dst k below)

pub first_busy-some : (sizes : Sizes) (lanes : Lanes) (src dst : ℕ) (class : Class) → IsFirst sizes.nodes (busy_in lanes) src dst class → first_busy_in sizes lanes ≡ Some (lane_at src dst class)
unfolding lanes_in_order
first_busy-some sizes lanes src dst class is = all_first (busy_in lanes) sizes.nodes 0 sizes.nodes src dst class (omega arith) (omega (arith, is.from)) is
