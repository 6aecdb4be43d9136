-- The first lane behind one: among the higher takers of its sender, and then of the next sender with a mark.
use Rattle.std.proofs.Common.{◌≡◌, ◌≢◌, ℕ, ◌+◌, ◌*◌, ◌-◌, ◌%◌, ◌^◌, ◌<◌, ◌≤◌, ◌⊎◌, inl, inr, Bool, true, false, cond, ◌&&◌, ◌||◌, ◌==◌, nat_lt, refl, ap, sym, ◌∙◌, arith, List, get_or, bit_and, bit_or, w64, Option, Some, None}
use Rattle.std.specs.Int.{bit_at, trailing_zeros}
use Rattle.std.proofs.Math.Bool.{and-false, or-false}
use Rattle.std.proofs.lemmas.Bool.{cases_lt, lt-ltb, le-ltb, eq-eqb, ne_eqb, cases_eq}
use Rattle.std.proofs.lemmas.Bool.Decides.{nat_tests}
use Rattle.std.proofs.lemmas.Nat.{and_le_l, or_lt}
use Rattle.std.proofs.lemmas.Nat.Bits.{bit_at-zero, bit_at-lt, bit_at_and, bit_at_or, bit_at_set_same, bit_at_set_other, bit_at_clear_same, bit_at_clear_other, bit_at-trailing_zeros, bit_at_mask_inside, bit_at_mask_below, ones_shl, same_from_bits_below}
use Rattle.op_model.specs.declared.events.Class.{Class}
use Rattle.op_model.specs.declared.events.Class.TheVariants.{Request, Reply}
use Rattle.op_model.specs.Run.Schedules.{lane_before, class_before}
use Rattle.lane_queues.specs.FirstBusy.{Marks, IsNowhereFrom, AnswersFirstFrom, behind, lane_named}
use Rattle.lane_queues.specs.BusyLanes.{AnswersLowest, AnswersNextSender, AreSenders, IsLowest, mask_place, marks_of}
use Rattle.lane_queues.specs.LaneStates.{by_class}
use Rattle.lane_queues.proofs.MaskSteps.{quiet_sender, without_bit}

-- ---- bits

-- the places above one
pub above-bits : (k i : ℕ) → k < 64 → i < 64 → bit_at (without_bit ((2 ^ 64 - 1) * 2 ^ k % 2 ^ 64) k) i ≡ cond (nat_lt k i) 1 0
above-bits k i within to = go (cases_lt k i) (cases_lt i k)
  where
    ones : (2 ^ 64 - 1) * 2 ^ k % 2 ^ 64 ≡ 2 ^ 64 - 2 ^ k
    ones = ones_shl 64 k (omega arith)

    go : (k < i) ⊎ (i ≤ k) → (i < k) ⊎ (k ≤ i) → bit_at (without_bit ((2 ^ 64 - 1) * 2 ^ k % 2 ^ 64) k) i ≡ cond (nat_lt k i) 1 0
    go (inl above) y =
        rw (lt-ltb k i above) (bit_at_clear_other w64 ((2 ^ 64 - 1) * 2 ^ k % 2 ^ 64) k within i to (λ e. omega (arith, e, above)) ∙ (ap (λ n. bit_at n i) ones ∙ bit_at_mask_inside k 64 i (omega arith) to))
    go (inr under) (inl below) =
        rw (le-ltb k i under) (bit_at_clear_other w64 ((2 ^ 64 - 1) * 2 ^ k % 2 ^ 64) k within i to (λ e. omega (arith, e, below)) ∙ (ap (λ n. bit_at n i) ones ∙ bit_at_mask_below k 64 i below))
    go (inr under) (inr over) =
        let same : k ≡ i = omega arith in
        rw (le-ltb k i under) (ap (bit_at (without_bit ((2 ^ 64 - 1) * 2 ^ k % 2 ^ 64) k)) (sym same) ∙ bit_at_clear_same w64 ((2 ^ 64 - 1) * 2 ^ k % 2 ^ 64) k within)

bit-test : (bit : ℕ) → bit ≡ 0 → (bit == 1) ≡ false
bit-test bit none = rw none refl

-- ---- the lowest of two masks

pub lowest_none : (requests replies : ℕ) → bit_or requests replies ≡ 0 → (i : ℕ) → (bit_at requests i ≡ 0) × (bit_at replies i ≡ 0)
lowest_none requests replies none i =
    let split = bit_at_or requests replies i in
    let zero_bit : bit_at (bit_or requests replies) i ≡ 0 = rw none (bit_at-zero i) in
    (omega (arith, split, zero_bit), omega (arith, split, zero_bit))

pub lowest_some : (requests replies : ℕ) (class : Class) → requests < 2 ^ 64 → replies < 2 ^ 64 → bit_or requests replies ≢ 0
    → (class ≡ Request → bit_at requests (trailing_zeros w64 (bit_or requests replies)) ≡ 1) → (class ≡ Reply → bit_at requests (trailing_zeros w64 (bit_or requests replies)) ≢ 1)
    → IsLowest requests replies (trailing_zeros w64 (bit_or requests replies)) class
lowest_some requests replies class small few some requested replied = record {
  to = found.0;
  here = at_class class requested replied;
  before = λ i less. (let none = found.2 i less in let split = bit_at_or requests replies i in (omega (arith, none, split), omega (arith, none, split)));
  requests_first = λ e. (let other = replied e in omega (arith, other, bit_at-lt requests dst));
}
  where
    dst : ℕ
    dst = trailing_zeros w64 (bit_or requests replies)

    found : (dst < 64) × (bit_at (bit_or requests replies) dst ≡ 1) × ((i : ℕ) → i < dst → bit_at (bit_or requests replies) i ≡ 0)
    found = bit_at-trailing_zeros w64 (bit_or requests replies) (omega (arith, some)) (or_lt 64 requests replies small few)

    at_class : (k : Class) → (k ≡ Request → bit_at requests dst ≡ 1) → (k ≡ Reply → bit_at requests dst ≢ 1) → bit_at (by_class requests replies k) dst ≡ 1
    at_class Request one other = one refl
    at_class Reply one other =
        let both = found.1 in
        let split = bit_at_or requests replies dst in
        let apart = other refl in
        omega (arith, both, split, apart, bit_at-lt requests dst, bit_at-lt replies dst)

-- marks of one sender, read as bits of two masks
pub from_lowest : (marks : Marks) (src requests replies : ℕ) → ((b : ℕ) → b < 64 → marks src b Request ≡ (bit_at requests b == 1)) → ((b : ℕ) → b < 64 → marks src b Reply ≡ (bit_at replies b == 1))
    → (answer : Option (ℕ × Class)) → AnswersLowest requests replies answer → AnswersFirstFrom 64 marks src answer
from_lowest marks src requests replies as_request as_reply None quiet = λ dst class to. each dst class to
  where
    each : (dst : ℕ) (class : Class) → dst < 64 → marks src dst class ≡ false
    each dst Request to = as_request dst to ∙ bit-test (bit_at requests dst) (quiet dst).0
    each dst Reply to = as_reply dst to ∙ bit-test (bit_at replies dst) (quiet dst).1
from_lowest marks src requests replies as_request as_reply (Some taker) is = record {
  to = is.to;
  marked = here taker.1 is.here;
  before = before;
  requests = λ e. as_request taker.0 is.to ∙ bit-test (bit_at requests taker.0) (is.requests_first e);
}
  where
    here : (class : Class) → bit_at (by_class requests replies class) taker.0 ≡ 1 → marks src taker.0 class ≡ true
    here Request one = as_request taker.0 is.to ∙ eq-eqb (bit_at requests taker.0) 1 one
    here Reply one = as_reply taker.0 is.to ∙ eq-eqb (bit_at replies taker.0) 1 one

    before : (other : ℕ) (k : Class) → other < taker.0 → marks src other k ≡ false
    before other Request less = as_request other (omega (arith, less, is.to)) ∙ bit-test (bit_at requests other) (is.before other less).0
    before other Reply less = as_reply other (omega (arith, less, is.to)) ∙ bit-test (bit_at replies other) (is.before other less).1

-- ---- behind a lane of the same sender

not_before_request : (class : Class) → class_before class Request ≡ false
not_before_request Request = refl
not_before_request Reply = refl

same-sender : (src dst b : ℕ) (class k : Class) → lane_before (lane_named (src, dst, class)) (lane_named (src, b, k)) ≡ (nat_lt dst b || ((dst == b) && class_before class k))
same-sender src dst b class k = rw (le-ltb src src (omega arith), eq-eqb src src refl) refl

masked : (mask chosen b : ℕ) (test : Bool) → bit_at chosen b ≡ cond test 1 0 → (test && (bit_at mask b == 1)) ≡ (bit_at (bit_and mask chosen) b == 1)
masked mask chosen b true is = ap (λ n. n == 1) (sym (bit_at_and mask chosen b ∙ (let few = bit_at-lt mask b in omega (arith, is, few))))
masked mask chosen b false is = sym (bit-test (bit_at (bit_and mask chosen) b) (bit_at_and mask chosen b ∙ omega (arith, is)))

module _ (masks : List ℕ) (src dst : ℕ) (class : Class) (above : ℕ) (places : (i : ℕ) → i < 64 → bit_at above i ≡ cond (nat_lt dst i) 1 0) where
  pub next_requests : (mask : ℕ) → mask ≡ get_or masks (mask_place src Request) 0 → (b : ℕ) → b < 64 → behind (lane_named (src, dst, class)) (marks_of masks) src b Request ≡ (bit_at (bit_and mask above) b == 1)
  unfolding marks_of
  next_requests mask is b to =
      rw (← is) (ap (λ t. t && (bit_at mask b == 1)) (same-sender src dst b class Request ∙ (ap (λ c. nat_lt dst b || ((dst == b) && c)) (not_before_request class) ∙ (ap (λ c. nat_lt dst b || c) (and-false (dst == b)) ∙ or-false (nat_lt dst b))))
      ∙ masked mask above b (nat_lt dst b) (places b to))

  pub next_replies : (mask : ℕ) → mask ≡ get_or masks (mask_place src Reply) 0 → (chosen : ℕ) → ((i : ℕ) → i < 64 → bit_at chosen i ≡ cond (nat_lt dst i || ((dst == i) && class_before class Reply)) 1 0) → (b : ℕ) → b < 64 →
      behind (lane_named (src, dst, class)) (marks_of masks) src b Reply ≡ (bit_at (bit_and mask chosen) b == 1)
  unfolding marks_of
  next_replies mask is chosen bits b to =
      rw (← is) (ap (λ t. t && (bit_at mask b == 1)) (same-sender src dst b class Reply) ∙ masked mask chosen b (nat_lt dst b || ((dst == b) && class_before class Reply)) (bits b to))

-- the replies behind a request are those from its taker on
pub replies_from : (above dst : ℕ) → dst < 64 → ((i : ℕ) → i < 64 → bit_at above i ≡ cond (nat_lt dst i) 1 0) → (i : ℕ) → i < 64 → bit_at (bit_or above (1 * 2 ^ dst % 2 ^ 64)) i ≡ cond (nat_lt dst i || ((dst == i) && true)) 1 0
replies_from above dst within places i to = go (cases_eq dst i)
  where
    go : (dst ≡ i) ⊎ (dst ≢ i) → bit_at (bit_or above (1 * 2 ^ dst % 2 ^ 64)) i ≡ cond (nat_lt dst i || ((dst == i) && true)) 1 0
    go (inl same) = rw (le-ltb dst i (omega arith), eq-eqb dst i same) (ap (bit_at (bit_or above (1 * 2 ^ dst % 2 ^ 64))) (sym same) ∙ bit_at_set_same w64 above dst within)
    go (inr other) = rw (ne_eqb dst i other) (bit_at_set_other w64 above dst within i (λ e. other (sym e)) ∙ (places i to ∙ ap (λ t. cond t 1 0) (sym (or-false (nat_lt dst i)))))

-- behind a reply only those above it
pub replies_above : (above dst : ℕ) → ((i : ℕ) → i < 64 → bit_at above i ≡ cond (nat_lt dst i) 1 0) → (i : ℕ) → i < 64 → bit_at above i ≡ cond (nat_lt dst i || ((dst == i) && false)) 1 0
replies_above above dst places i to = places i to ∙ ap (λ t. cond t 1 0) (sym (ap (λ c. nat_lt dst i || c) (and-false (dst == i)) ∙ or-false (nat_lt dst i)))

-- ---- the next sender

high-bit : (senders above i : ℕ) → bit_at above i ≡ 1 → bit_at (bit_and senders above) i ≡ bit_at senders i
high-bit senders above i one = bit_at_and senders above i ∙ (let few = bit_at-lt senders i in omega (arith, one, few))

pub sender_none : (senders : ℕ) (masks : List ℕ) (src above : ℕ) → AreSenders senders masks → ((i : ℕ) → i < 64 → bit_at above i ≡ cond (nat_lt src i) 1 0) → bit_and senders above ≡ 0 → AnswersNextSender (marks_of masks) src None
sender_none senders masks src above are places none = λ other behind below.
    let one : bit_at above other ≡ 1 = places other below ∙ ap (λ t. cond t 1 0) (lt-ltb src other behind) in
    let quiet : bit_at senders other ≡ 0 = sym (high-bit senders above other one) ∙ (ap (λ n. bit_at n other) none ∙ bit_at-zero other) in
    λ dst class to. quiet_sender senders masks other are below quiet dst class

mask-zero : (masks : List ℕ) (i : ℕ) → get_or masks i 0 < 2 ^ 64 → ((b : ℕ) → b < 64 → (bit_at (get_or masks i 0) b == 1) ≡ false) → get_or masks i 0 ≡ 0
mask-zero masks i small none = same_from_bits_below 64 (get_or masks i 0) 0 small (omega arith) (λ b to. bit-zero (bit_at (get_or masks i 0) b) (bit_at-lt (get_or masks i 0) b) (none b to) ∙ sym (bit_at-zero b))
  where
    bit-zero : (bit : ℕ) → bit < 2 → (bit == 1) ≡ false → bit ≡ 0
    bit-zero bit few e = grind (arith, nat_tests)

-- a sender with a bit has a mark
some_mark : (senders : ℕ) (masks : List ℕ) (src : ℕ) → AreSenders senders masks → src < 64 → bit_at senders src ≡ 1 → IsNowhereFrom 64 (marks_of masks) src → ⊥
unfolding marks_of
some_mark senders masks src are below one nowhere =
    let even_place : mask_place src Request ≡ 2 * src = omega arith in
    let even : get_or masks (2 * src) 0 ≡ 0 = mask-zero masks (2 * src) (are.small (2 * src)) (λ b to. ap (λ i. bit_at (get_or masks i 0) b == 1) (sym even_place) ∙ nowhere b Request to) in
    let odd : get_or masks (2 * src + 1) 0 ≡ 0 = mask-zero masks (2 * src + 1) (are.small (2 * src + 1)) (λ b to. nowhere b Reply to) in
    let none = (are.each src below).1 (even, odd) in
    omega (arith, none, one)

pub sender_some : (senders : ℕ) (masks : List ℕ) (src above : ℕ) → AreSenders senders masks → ((i : ℕ) → i < 64 → bit_at above i ≡ cond (nat_lt src i) 1 0) → bit_and senders above ≢ 0 → AnswersNextSender (marks_of masks) src (Some (trailing_zeros w64 (bit_and senders above)))
sender_some senders masks src above are places some = record {
  behind = after;
  below = found.0;
  before = λ other behind less dst class to.
      (let below : other < 64 = omega (arith, less, found.0) in
      let one : bit_at above other ≡ 1 = places other below ∙ ap (λ t. cond t 1 0) (lt-ltb src other behind) in
      quiet_sender senders masks other are below (sym (high-bit senders above other one) ∙ found.2 other less) dst class);
  some = some_mark senders masks next are found.0 (let both = bit_at_and senders above next in let few = bit_at-lt senders next in let small = bit_at-lt above next in omega (arith, found.1, both, few, small));
}
  where
    next : ℕ
    next = trailing_zeros w64 (bit_and senders above)

    found : (next < 64) × (bit_at (bit_and senders above) next ≡ 1) × ((i : ℕ) → i < next → bit_at (bit_and senders above) i ≡ 0)
    found = bit_at-trailing_zeros w64 (bit_and senders above) (omega (arith, some)) (omega (arith, are.fits, and_le_l senders above))

    chosen : bit_at above next ≡ 1
    chosen = let both = bit_at_and senders above next in let small = bit_at-lt above next in omega (arith, found.1, both, small)

    after : src < next
    after = go (cases_lt src next)
      where
        go : (src < next) ⊎ (next ≤ src) → src < next
        go (inl less) = less
        go (inr over) = absurd (let none : bit_at above next ≡ 0 = places next found.0 ∙ ap (λ t. cond t 1 0) (le-ltb src next over) in omega (arith, none, chosen))

pub lowest_within : (requests replies : ℕ) → requests < 2 ^ 64 → replies < 2 ^ 64 → bit_or requests replies ≢ 0 → trailing_zeros w64 (bit_or requests replies) < 64
lowest_within requests replies small few some = (bit_at-trailing_zeros w64 (bit_or requests replies) (omega (arith, some)) (or_lt 64 requests replies small few)).0

-- the marks of a sender are the bits of its two masks
pub first_lowest : (masks : List ℕ) (src requests replies : ℕ) → requests ≡ get_or masks (mask_place src Request) 0 → replies ≡ get_or masks (mask_place src Reply) 0 → (answer : Option (ℕ × Class)) → AnswersLowest requests replies answer → AnswersFirstFrom 64 (marks_of masks) src answer
unfolding marks_of
first_lowest masks src requests replies as_request as_reply answer is =
    from_lowest (marks_of masks) src requests replies (λ b to. ap (λ n. bit_at n b == 1) (sym as_request)) (λ b to. ap (λ n. bit_at n b == 1) (sym as_reply)) answer is

-- and those behind a lane of it are bits of its masks above the lane's taker
pub next_lowest : (masks : List ℕ) (src dst : ℕ) (class : Class) (above chosen requests replies : ℕ) → ((i : ℕ) → i < 64 → bit_at above i ≡ cond (nat_lt dst i) 1 0) → ((i : ℕ) → i < 64 → bit_at chosen i ≡ cond (nat_lt dst i || ((dst == i) && class_before class Reply)) 1 0) →
    requests ≡ get_or masks (mask_place src Request) 0 → replies ≡ get_or masks (mask_place src Reply) 0 → (answer : Option (ℕ × Class)) → AnswersLowest (bit_and requests above) (bit_and replies chosen) answer → AnswersFirstFrom 64 (behind (lane_named (src, dst, class)) (marks_of masks)) src answer
next_lowest masks src dst class above chosen requests replies places bits as_request as_reply answer is =
    from_lowest (behind (lane_named (src, dst, class)) (marks_of masks)) src (bit_and requests above) (bit_and replies chosen)
    (next_requests masks src dst class above places requests as_request) (next_replies masks src dst class above places replies as_reply chosen bits) answer is

-- which replies stand behind a lane
pub chosen_bits : (above dst : ℕ) (class : Class) (chosen : ℕ) → dst < 64 → ((i : ℕ) → i < 64 → bit_at above i ≡ cond (nat_lt dst i) 1 0) → chosen ≡ by_class (bit_or above (1 * 2 ^ dst % 2 ^ 64)) above class → (i : ℕ) → i < 64 →
    bit_at chosen i ≡ cond (nat_lt dst i || ((dst == i) && class_before class Reply)) 1 0
chosen_bits above dst Request chosen within places is i to = ap (λ n. bit_at n i) is ∙ replies_from above dst within places i to
chosen_bits above dst Reply chosen within places is i to = ap (λ n. bit_at n i) is ∙ replies_above above dst places i to
