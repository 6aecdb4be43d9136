-- The gate's count of a queue of messages with their ages: at most their number, and with one more it rises exactly where that is a write-back or a hint.
use Rattle.std.proofs.Common.{◌≡◌, ℕ, ◌+◌, ◌≤◌, Bool, true, false, List, [], ◌∷◌, ◌++◌, length, drop, map, slice_get, Some, cond, refl, ap, ◌∙◌, arith}
use Rattle.std.proofs.lemmas.List.{length-map, map_push}
use Rattle.op_model.specs.Messages.{msg_content}
use Rattle.op_model.specs.Events.Step.{is_departure, departures}
use Rattle.msg_words.proofs.Public.{departures-le, departures-push}
use Rattle.eager_machine.specs.declared.queue.AgedMsg.{AgedMsg}
use Rattle.eager_machine.specs.Lanes.{msg_of}

pub count-push : (xs : List AgedMsg) (x : AgedMsg) → departures (map msg_of (xs ++ x ∷ [])) ≡ departures (map msg_of xs) + cond (is_departure (msg_content x.msg)) 1 0
count-push xs x = ap departures (map_push msg_of xs x) ∙ departures-push (map msg_of xs) (msg_of x)

pub count-le : (xs : List AgedMsg) → departures (map msg_of xs) ≤ length xs
count-le xs = let le = departures-le (map msg_of xs) in let long = length-map xs msg_of in omega (arith, le, long)

pub count-pop : (xs : List AgedMsg) (x : AgedMsg) → slice_get xs 0 ≡ Some x → departures (map msg_of xs) ≡ departures (map msg_of (drop 1 xs)) + cond (is_departure (msg_content x.msg)) 1 0
count-pop [] x is = cc
count-pop (y ∷ xs) x is =
    let same : y ≡ x = cc in
    ap (λ z. departures (map msg_of (z ∷ xs))) same ∙ by (is_departure (msg_content x.msg)) (departures (map msg_of xs))
  where
    by : (b : Bool) (n : ℕ) → cond b (n + 1) n ≡ n + cond b 1 0
    by true n = refl
    by false n = omega arith

pub ruleset counting = (count-push, count-le, count-pop)
