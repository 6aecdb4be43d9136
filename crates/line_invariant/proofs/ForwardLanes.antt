-- The lanes after the owner has answered a forward: a message to the requester and one to the home, or one to the home alone.
-- The Nak stands before the Nakc where both go to the home.
use Rattle.std.proofs.Common.{◌≡◌, ◌≢◌, ℕ, Bool, cond, ◌==◌, List, [], ◌∷◌, arith}
use Rattle.std.proofs.lemmas.Bool.Decides.{nat_tests}
use Rattle.line_invariant.specs.Types.{Class, Request, Reply}
use Rattle.op_model.specs.Messages.{Content, InvAck, ShWb, FAck, Nakc, class_of}
use Rattle.line_invariant.specs.Line.{Lanes, sent, taken}
use Rattle.line_invariant.specs.Good.{Status, Forwarded, Answered, Duty, NoDuty, Told, Acked, ToGive, Returned, Handed, Refused, expected, told_part}

-- what is under way after the owner has answered the requester and told the home
abbrev pub answered_by : ℕ → ℕ → Content → Duty → (ℕ → Status) → ℕ → Status
answered_by p r content duty status node = record { carrier = cond (node == r) (Answered p content) (status node).carrier; leaving = (status node).leaving; duty = cond (node == p) duty (status node).duty }

abbrev pub backs : ℕ → Duty → List (ℕ × Content)
backs home (Returned words) = (home, ShWb words) ∷ []
backs home Acked = (home, InvAck) ∷ []
backs home Handed = (home, FAck) ∷ []
backs home Refused = (home, Nakc) ∷ []
backs home _ = []

module _ (home p : ℕ) (lane : Lanes) (status : ℕ → Status) (apart : p ≢ home) (lanes : (a b : ℕ) (class : Class) → lane a b class ≡ expected home status a b class)
    (write : Bool) (r : ℕ) (rest : List Content) (empty : rest ≡ []) (duty : (status p).duty ≡ ToGive write r) (waits : (status r).carrier ≡ Forwarded write) (other : r ≢ p) (content : Content) (reply : class_of content ≡ Reply) where
  pub lanes-answered : (next : Duty) → told_part next ≡ [] → (a b : ℕ) (class : Class) →
      sent p ((r, content) ∷ backs home next) (taken home p Request rest lane) a b class ≡ expected home (answered_by p r content next status) a b class
  lanes-answered NoDuty silent a b Request = grind (arith, nat_tests, lanes a b Request)
  lanes-answered NoDuty silent a b Reply = grind (arith, nat_tests, lanes a b Reply)
  lanes-answered (Returned words) silent a b Request = grind (arith, nat_tests, lanes a b Request)
  lanes-answered (Returned words) silent a b Reply = grind (arith, nat_tests, lanes a b Reply)
  lanes-answered Handed silent a b Request = grind (arith, nat_tests, lanes a b Request)
  lanes-answered Handed silent a b Reply = grind (arith, nat_tests, lanes a b Reply)
  lanes-answered Refused silent a b Request = grind (arith, nat_tests, lanes a b Request)
  lanes-answered Refused silent a b Reply = grind (arith, nat_tests, lanes a b Reply)
  lanes-answered Told silent a b class = cc
  lanes-answered Acked silent a b Request = grind (arith, nat_tests, lanes a b Request)
  lanes-answered Acked silent a b Reply = grind (arith, nat_tests, lanes a b Reply)
  lanes-answered (ToGive w q) silent a b class = cc
