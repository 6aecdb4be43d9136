-- The lists of a box are those of its queues: one queue written is one list written, and no list is longer than its queue may be.
use Rattle.std.proofs.Common.{◌≡◌, ℕ, zero, suc, ◌<◌, ◌≤◌, List, [], ◌∷◌, length, get_or, set, replicate, refl, sym, ap, ◌∙◌, arith, None, ◌↔◌, drop, inl, inr}
use Rattle.std.specs.Prelude.{All, slice_get, IsNone}
use Rattle.std.proofs.lemmas.Bool.{cases_lt}
use Rattle.std.proofs.lemmas.List.{map-set, get_or-map, length-map, get_or_past, set-get_or}
use Rattle.line_map.specs.Sizes.{Sizes}
use Rattle.op_model.specs.declared.messages.Msg.{Msg}
use Rattle.op_model.specs.declared.events.Class.{Class}
use Rattle.op_model.specs.declared.events.Class.TheVariants.{Request, Reply}
use Rattle.op_model.specs.Run.Bounds.{request_bound, reply_bound, lane_bound}
use Rattle.msg_words.specs.QueueState.{QueueState, empty_queue}
use Rattle.out_space.specs.Queues.{IsWithin, AreQueues, lists_of}
use Rattle.out_space.specs.Boxes.{BoxState, waiting, with_waiting, IsBox}

abbrev pub box_of : Sizes → List QueueState → List QueueState → BoxState
box_of sizes requests replies = record { sizes = sizes; requests = lists_of requests; replies = lists_of replies }

lists_of-set : (queues : List QueueState) (i : ℕ) (queue : QueueState) → lists_of (set queues i queue) ≡ set (lists_of queues) i queue.messages
lists_of-set queues i queue = map-set (λ q. q.messages) queues i queue

list_at : (queues : List QueueState) (i : ℕ) (queue : QueueState) → i < length queues → queue ≡ get_or queues i queue → get_or (lists_of queues) i [] ≡ queue.messages
list_at queues i queue within is = get_or-map (λ q. q.messages) queues i queue [] within ∙ ap (λ q. q.messages) (sym is)

pub lists_of-empty : (n capacity : ℕ) → lists_of (replicate n (empty_queue capacity)) ≡ replicate n []
lists_of-empty zero capacity = refl
lists_of-empty (suc n) capacity = ap (λ ls. [] ∷ ls) (lists_of-empty n capacity)

no_first : (messages : List Msg) → slice_get messages 0 ≡ None → drop 1 messages ≡ messages
no_first [] none = refl
no_first (m ∷ messages) none = cc

pub empty_first : (messages : List Msg) → IsNone (slice_get messages 0) ↔ (messages ≡ [])
empty_first [] = (λ none. refl, λ empty. refl)
empty_first (m ∷ messages) = (λ none. cc, λ empty. cc)

-- the change of one queue's messages by f is that of the messages that wait
within : (old : BoxState) (sizes : Sizes) (requests replies : List QueueState) (dst n : ℕ) → box_of sizes requests replies ≡ old → n ≡ sizes.nodes → dst < old.sizes.nodes → dst < n
within old sizes requests replies dst n view count below = let same = ap (λ v. v.sizes.nodes) view in omega (arith, same)

pub requests_at : (old : BoxState) (sizes : Sizes) (requests replies : List QueueState) (dst : ℕ) (queue : QueueState)
    → box_of sizes requests replies ≡ old → length requests ≡ sizes.nodes → dst < old.sizes.nodes → queue ≡ get_or requests dst queue → waiting old dst Request ≡ queue.messages
requests_at old sizes requests replies dst queue view count below is =
    let there = within old sizes requests replies dst (length requests) view count below in
    rw (← view) (list_at requests dst queue there is)

pub replies_at : (old : BoxState) (sizes : Sizes) (requests replies : List QueueState) (dst : ℕ) (queue : QueueState)
    → box_of sizes requests replies ≡ old → length replies ≡ sizes.nodes → dst < old.sizes.nodes → queue ≡ get_or replies dst queue → waiting old dst Reply ≡ queue.messages
replies_at old sizes requests replies dst queue view count below is =
    let there = within old sizes requests replies dst (length replies) view count below in
    rw (← view) (list_at replies dst queue there is)

pub requests_changed : (f : List Msg → List Msg) (old : BoxState) (sizes : Sizes) (requests replies : List QueueState) (dst : ℕ) (queue new : QueueState)
    → box_of sizes requests replies ≡ old → length requests ≡ sizes.nodes → dst < old.sizes.nodes → queue ≡ get_or requests dst queue → new.messages ≡ f queue.messages
    → box_of sizes (set requests dst new) replies ≡ with_waiting old dst Request (f (waiting old dst Request))
requests_changed f old sizes requests replies dst queue new view count below is changed =
    let there = within old sizes requests replies dst (length requests) view count below in
    rw (← view, lists_of-set requests dst new, list_at requests dst queue there is, changed) refl

pub replies_changed : (f : List Msg → List Msg) (old : BoxState) (sizes : Sizes) (requests replies : List QueueState) (dst : ℕ) (queue new : QueueState)
    → box_of sizes requests replies ≡ old → length replies ≡ sizes.nodes → dst < old.sizes.nodes → queue ≡ get_or replies dst queue → new.messages ≡ f queue.messages
    → box_of sizes requests (set replies dst new) ≡ with_waiting old dst Reply (f (waiting old dst Reply))
replies_changed f old sizes requests replies dst queue new view count below is changed =
    let there = within old sizes requests replies dst (length replies) view count below in
    rw (← view, lists_of-set replies dst new, list_at replies dst queue there is, changed) refl

-- where no message waits, taking the first away changes nothing
pub nothing_taken : (box : BoxState) (dst : ℕ) (class : Class) → slice_get (waiting box dst class) 0 ≡ None → with_waiting box dst class (drop 1 (waiting box dst class)) ≡ box
nothing_taken box dst Request none = ap (λ ls. record box { requests = ls }) (ap (λ ms. set box.requests dst ms) (no_first _ none) ∙ set-get_or box.requests dst [])
nothing_taken box dst Reply none = ap (λ ls. record box { replies = ls }) (ap (λ ms. set box.replies dst ms) (no_first _ none) ∙ set-get_or box.replies dst [])

-- beyond the end there is no message
list_within : (bound : ℕ) (queues : List QueueState) → All (IsWithin bound) queues → (i : ℕ) → length (get_or (lists_of queues) i []) ≤ bound
list_within bound queues all i = elim (cases_lt i (length queues)) [
  | inl lt ↦ rw (get_or-map (λ (q : QueueState). q.messages) queues i (empty_queue 0) [] lt) (all i (empty_queue 0) lt).1
  | inr past ↦ rw (get_or_past (lists_of queues) i [] (rw (length-map queues (λ (q : QueueState). q.messages)) past)) (omega arith)
]

bounded : (sizes : Sizes) (requests replies : List QueueState) → AreQueues sizes.nodes (request_bound sizes) requests → AreQueues sizes.nodes (reply_bound sizes) replies
    → (dst : ℕ) (class : Class) → length (waiting (box_of sizes requests replies) dst class) ≤ lane_bound sizes class
bounded sizes requests replies these those dst Request = list_within _ requests these.within dst
bounded sizes requests replies these those dst Reply = list_within _ replies those.within dst

pub is_box : (sizes : Sizes) (requests replies : List QueueState) → AreQueues sizes.nodes (request_bound sizes) requests → AreQueues sizes.nodes (reply_bound sizes) replies → IsBox (box_of sizes requests replies)
is_box sizes requests replies these those = record {
  requests = length-map requests (λ q. q.messages) ∙ these.count;
  replies = length-map replies (λ q. q.messages) ∙ those.count;
  bound = bounded sizes requests replies these those;
}
