-- The gate's count of a list of messages is at most their number. With one message more it rises exactly where that message is a write-back or a hint.
use Rattle.std.proofs.Common.{◌≡◌, ℕ, suc, ◌+◌, ◌≤◌, Bool, true, false, List, [], ◌∷◌, ◌++◌, length, drop, slice_get, Some, refl, arith, if◌then◌else◌, cond}
use Rattle.op_model.specs.declared.messages.Msg.{Msg}
use Rattle.op_model.specs.declared.events.Class.TheVariants.{Reply}
use Rattle.op_model.specs.Messages.{Content, Wb, Rpl, class_of, msg_class, msg_content}
use Rattle.op_model.specs.Events.Step.{is_departure, departures}

-- one message more at the end
pub departures-push : (messages : List Msg) (m : Msg) → departures (messages ++ m ∷ []) ≡ departures messages + cond (is_departure (msg_content m)) 1 0
departures-push [] m = by (is_departure (msg_content m))
  where
    by : (b : Bool) → cond b (0 + 1) 0 ≡ 0 + cond b 1 0
    by true = omega arith
    by false = omega arith
departures-push (first ∷ messages) m = by _ _ _ (is_departure (msg_content first)) (departures-push messages m)
  where
    by : (a b n : ℕ) (t : Bool) → a ≡ b + n → cond t (a + 1) a ≡ cond t (b + 1) b + n
    by a b n true e = omega arith
    by a b n false e = omega arith

pub departures-le : (messages : List Msg) → departures messages ≤ length messages
departures-le [] = omega arith
departures-le (first ∷ messages) = by _ _ (is_departure (msg_content first)) (departures-le messages)
  where
    by : (a n : ℕ) (t : Bool) → a ≤ n → cond t (a + 1) a ≤ suc n
    by a n true le = omega arith
    by a n false le = omega arith

pub ruleset counting = (departures-push, departures-le)

-- the first one less
pub departures-pop : (messages : List Msg) (m : Msg) → slice_get messages 0 ≡ Some m → departures messages ≡ departures (m ∷ []) + departures (drop 1 messages)
departures-pop [] m first = cc
departures-pop (x ∷ rest) m first =
    let same : x ≡ m = cc in
    rw same (one_first (is_departure (msg_content m)) (departures rest))
  where
    one_first : (b : Bool) (n : ℕ) → (if b then n + 1 else n) ≡ (if b then 0 + 1 else 0) + n
    one_first true n = omega arith
    one_first false n = omega arith

reply_stays : (content : Content) → class_of content ≡ Reply → is_departure content ≡ false
reply_stays (Wb words) e = cc
reply_stays Rpl e = cc
reply_stays _ e = refl

-- no reply is one of an eviction
pub departures-reply : (m : Msg) → msg_class m ≡ Reply → departures (m ∷ []) ≡ 0
departures-reply m e = rw (reply_stays (msg_content m) e) refl
