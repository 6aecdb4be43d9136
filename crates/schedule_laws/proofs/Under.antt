-- What is so of every message under way: it stays so where a message is taken, and where what a row sends is so too.
use Rattle.std.proofs.Common.{◌≡◌, ℕ, Bool, true, false, cond, ◌==◌, ◌&&◌, List, [], ◌∷◌, ◌++◌, sym, subst}
use Rattle.op_model.specs.declared.events.Class.{Class}
use Rattle.op_model.specs.declared.messages.Msg.{Msg}
use Rattle.op_model.specs.Messages.{Content, class_of, msg_content, msg_content-message, same_class}
use Rattle.op_model.specs.Shares.{Lanes}
use Rattle.line_invariant.specs.Line.{addressed}
use Rattle.lane_bounds.proofs.Public.{sent_of, tag, taken-either, taken_of}

module _ (Is : Content → Type 0) where
  -- each message of a list says something that is so
  abbrev pub Under : List Msg → Type 0
  Under [] = Unit {0}
  Under (m ∷ messages) = Is (msg_content m) × Under messages

  abbrev pub AllSent : List (ℕ × Content) → Type 0
  AllSent [] = Unit {0}
  AllSent (send ∷ sends) = Is send.1 × AllSent sends

  abbrev pub AllUnder : Lanes → Type 0
  AllUnder lane = (a b : ℕ) (class : Class) → Under (lane a b class)

  under-append : (xs ys : List Msg) → Under xs → Under ys → Under (xs ++ ys)
  under-append [] ys one two = two
  under-append (m ∷ xs) ys one two = (one.0, under-append xs ys one.1 two)

  under-tagged : (line b : ℕ) (class : Class) (sends : List (ℕ × Content)) → AllSent sends → Under (tag line (addressed b class sends))
  under-tagged line b class [] all = tt
  under-tagged line b class (send ∷ sends) all = go ((send.0 == b) && same_class class (class_of send.1)) (under-tagged line b class sends all.1)
    where
      go : (c : Bool) → Under (tag line (addressed b class sends)) → Under (tag line (cond c (send.1 ∷ addressed b class sends) (addressed b class sends)))
      go true rest = (subst Is (sym (msg_content-message line send.1)) all.0, rest)
      go false rest = rest

  pub under-sent : (me line : ℕ) (sends : List (ℕ × Content)) (lane : Lanes) → AllUnder lane → AllSent sends → AllUnder (sent_of me line sends lane)
  under-sent me line sends lane under all a b class = under-append (lane a b class) _ (under a b class) (go (a == me))
    where
      go : (c : Bool) → Under (cond c (tag line (addressed b class sends)) [])
      go true = under-tagged line b class sends all
      go false = tt

  pub under-taken : (src dst : ℕ) (class : Class) (m : Msg) (rest : List Msg) (lane : Lanes) → lane src dst class ≡ m ∷ rest → AllUnder lane → AllUnder (taken_of src dst class rest lane)
  under-taken src dst class m rest lane front under a b k =
      taken-either src dst class rest lane Under a b k (under a b k) (λ x y z. later (subst Under front (under src dst class)))
    where
      later : Under (m ∷ rest) → Under rest
      later all = all.1

  -- the message at the front
  pub under-front : (src dst : ℕ) (class : Class) (m : Msg) (rest : List Msg) (lane : Lanes) → lane src dst class ≡ m ∷ rest → AllUnder lane → Is (msg_content m)
  under-front src dst class m rest lane front under = let all : Under (m ∷ rest) = subst Under front (under src dst class) in all.0
