-- A list of queues, one a lane: what reading or changing one of them is for the lanes.
use Rattle.std.proofs.Common.{◌≡◌, ◌≢◌, ℕ, ◌<◌, Bool, true, false, cond, ◌==◌, ◌&&◌, refl, ap, sym, subst, ◌∙◌, arith, List, [], ◌∷◌, length, set, get_or, ◌++◌, drop}
use Rattle.std.specs.Prelude.{nat_lt}
use Rattle.std.proofs.lemmas.Bool.Decides.{nat_tests}
use Rattle.std.proofs.lemmas.List.{get_or_default, get_or-set_same, get_or-set_other, set-get_or}
use Rattle.op_model.specs.declared.events.Class.{Class}
use Rattle.lane_queues.specs.LaneStates.{same_lane}
use Rattle.lane_queues.specs.Queues.{lane_number, lane_count}
use Rattle.lane_queues.proofs.Public.{lane_number-lt, lane_number-one, same_lane-is}
use Rattle.eager_machine.specs.declared.queue.AgedMsg.{AgedMsg}
use Rattle.eager_machine.specs.Lanes.{AgedQueues, lane_in, with_lane}

-- both nodes are of the machine
inside : (n src dst : ℕ) → src < n → dst < n → (nat_lt src n && nat_lt dst n) ≡ true
inside n src dst from to = grind (arith, nat_tests)

pub lane_in-inside : (queues : AgedQueues) (src dst : ℕ) (class : Class) → src < queues.sizes.nodes → dst < queues.sizes.nodes → lane_in queues src dst class ≡ get_or queues.lists (lane_number queues.sizes.nodes src dst class) []
lane_in-inside queues src dst class from to =
    ap (λ b. cond b (get_or queues.lists (lane_number queues.sizes.nodes src dst class) []) []) (inside queues.sizes.nodes src dst from to)

-- the queue that is read at a lane's number is the lane
pub lane-read : (queues : AgedQueues) → length queues.lists ≡ lane_count queues.sizes.nodes → (src dst : ℕ) (class : Class) → src < queues.sizes.nodes → dst < queues.sizes.nodes → (n : ℕ) → n ≡ lane_number queues.sizes.nodes src dst class →
    (queue d : List AgedMsg) → queue ≡ get_or queues.lists n d → queue ≡ lane_in queues src dst class
lane-read queues count src dst class from to n number queue d is =
    let below = lane_number-lt queues.sizes.nodes src dst class from to in
    is ∙ ap (λ k. get_or queues.lists k d) number ∙ get_or_default queues.lists (lane_number queues.sizes.nodes src dst class) d [] (omega (arith, below, count)) ∙ sym (lane_in-inside queues src dst class from to)

-- one queue put in is one lane changed
pub lane-set : (queues : AgedQueues) → length queues.lists ≡ lane_count queues.sizes.nodes → (src dst : ℕ) (class : Class) → src < queues.sizes.nodes → dst < queues.sizes.nodes → (n : ℕ) → n ≡ lane_number queues.sizes.nodes src dst class → (new messages : List AgedMsg) → new ≡ messages →
    lane_in (record queues { lists = set queues.lists n new }) ≡ with_lane (lane_in queues) src dst class messages
lane-set queues count src dst class from to n number new messages is =
    ap (λ k. lane_in (record queues { lists = set queues.lists k new })) number ∙ ap (λ m. lane_in (record queues { lists = set queues.lists at m })) is ∙ (λ i a b k. each a b k i)
  where
    nodes : ℕ
    nodes = queues.sizes.nodes

    at : ℕ
    at = lane_number nodes src dst class

    within : at < length queues.lists
    within = let below = lane_number-lt nodes src dst class from to in omega (arith, below, count)

    pick : (a b : ℕ) (k : Class) (in_machine same : Bool) → (nat_lt a nodes && nat_lt b nodes) ≡ in_machine → same_lane src dst class a b k ≡ same →
        cond in_machine (get_or (set queues.lists at messages) (lane_number nodes a b k) []) [] ≡ cond same messages (cond in_machine (get_or queues.lists (lane_number nodes a b k) []) [])
    pick a b k true true there is_same =
        let p = same_lane-is src dst class a b k is_same in
        ap (λ m. get_or (set queues.lists at messages) m []) (λ i. lane_number nodes (p.0 i) (p.1 i) (p.2 i)) ∙ get_or-set_same queues.lists at messages [] within
    pick a b k true false there other =
        let below : b < nodes = grind (arith, nat_tests) in
        let apart : lane_number nodes a b k ≢ at = λ e. let never = lane_number-one nodes src dst class a b k to below e in cc in
        get_or-set_other queues.lists at (lane_number nodes a b k) messages [] apart
    pick a b k false true there is_same =
        let p = same_lane-is src dst class a b k is_same in
        let from_in : a < nodes = subst (λ m. m < nodes) (sym p.0) from in
        let to_in : b < nodes = subst (λ m. m < nodes) (sym p.1) to in
        let yes = inside nodes a b from_in to_in in
        cc
    pick a b k false false there other = refl

    each : (a b : ℕ) (k : Class) → lane_in (record queues { lists = set queues.lists at messages }) a b k ≡ with_lane (lane_in queues) src dst class messages a b k
    each a b k = pick a b k (nat_lt a nodes && nat_lt b nodes) (same_lane src dst class a b k) refl refl

-- lanes as they are made
pub lanes-new : (queues : AgedQueues) → ((n : ℕ) (d : List AgedMsg) → n < length queues.lists → get_or queues.lists n d ≡ []) → length queues.lists ≡ lane_count queues.sizes.nodes → lane_in queues ≡ (λ src dst class. [])
lanes-new queues each count = λ i a b k. go a b k (nat_lt a queues.sizes.nodes && nat_lt b queues.sizes.nodes) refl i
  where
    go : (a b : ℕ) (k : Class) (in_machine : Bool) → (nat_lt a queues.sizes.nodes && nat_lt b queues.sizes.nodes) ≡ in_machine → cond in_machine (get_or queues.lists (lane_number queues.sizes.nodes a b k) []) [] ≡ []
    go a b k true there =
        let from : a < queues.sizes.nodes = grind (arith, nat_tests) in
        let to : b < queues.sizes.nodes = grind (arith, nat_tests) in
        let below = lane_number-lt queues.sizes.nodes a b k from to in
        each (lane_number queues.sizes.nodes a b k) [] (omega (arith, below, count))
    go a b k false there = refl

-- a message at the end of a queue is one at the end of its lane
pub lane-pushed : (queues : AgedQueues) → length queues.lists ≡ lane_count queues.sizes.nodes → (src dst : ℕ) (class : Class) → src < queues.sizes.nodes → dst < queues.sizes.nodes → (n : ℕ) → n ≡ lane_number queues.sizes.nodes src dst class →
    (queue new : List AgedMsg) (aged : AgedMsg) → queue ≡ get_or queues.lists n queue → new ≡ queue ++ aged ∷ [] → lane_in (record queues { lists = set queues.lists n new }) ≡ with_lane (lane_in queues) src dst class (lane_in queues src dst class ++ aged ∷ [])
lane-pushed queues count src dst class from to n number queue new aged is more =
    lane-set queues count src dst class from to n number new (lane_in queues src dst class ++ aged ∷ []) (more ∙ ap (λ q. q ++ aged ∷ []) (lane-read queues count src dst class from to n number queue queue is))

-- and one that leaves its front leaves that of its lane
pub lane-dropped : (queues : AgedQueues) → length queues.lists ≡ lane_count queues.sizes.nodes → (src dst : ℕ) (class : Class) → src < queues.sizes.nodes → dst < queues.sizes.nodes → (n : ℕ) → n ≡ lane_number queues.sizes.nodes src dst class →
    (queue new : List AgedMsg) → queue ≡ get_or queues.lists n queue → new ≡ drop 1 queue → lane_in (record queues { lists = set queues.lists n new }) ≡ with_lane (lane_in queues) src dst class (drop 1 (lane_in queues src dst class))
lane-dropped queues count src dst class from to n number queue new is less =
    lane-set queues count src dst class from to n number new (drop 1 (lane_in queues src dst class)) (less ∙ ap (drop 1) (lane-read queues count src dst class from to n number queue queue is))

-- a queue put in as it was changes no lane
pub lane-kept : (queues : AgedQueues) (n : ℕ) (queue new : List AgedMsg) → queue ≡ get_or queues.lists n queue → new ≡ queue → lane_in (record queues { lists = set queues.lists n new }) ≡ lane_in queues
lane-kept queues n queue new is same = ap (λ lists. lane_in (record queues { lists = lists })) (ap (set queues.lists n) (same ∙ is) ∙ set-get_or queues.lists n queue)
