-- What holds of another node after a row of the home: of one that is answered, told, forwarded to or listed.
-- The phase changes its role, and the facts of the new role are facts of the old one.
use Rattle.std.proofs.Common.{◌≡◌, ◌≢◌, ℕ, Bool, true, false, cond, ◌==◌, ◌&&◌, refl, arith, Option}
use Rattle.std.proofs.lemmas.Bool.Decides.{nat_tests}
use Rattle.line_invariant.specs.Types.{Want, NakCause, Node}
use Rattle.op_model.specs.Operations.{Words}
use Rattle.op_model.specs.Messages.{Put, PutX, Nak}
use Rattle.op_model.specs.Lines.{Copy}
use Rattle.line_invariant.specs.Good.{Status, Resting, Asking, AskingX, Forwarded, Answered, NotLeaving, NoDuty, Told, Acked, ToGive, Role, MayShare, Recalled, Bare, Holds, Usual, ByGrant, ByForward, IsGoodNode, role_in, Owned, Asked, Called}

module _ (words : Words) (listed : Bool) (copy : Copy) (want : Option Want) (status : Status) where
  -- a request is refused
  pub node-refused : (role : Role) (load : Bool) (from : ℕ) (cause : NakCause) → IsGoodNode role words listed copy want status → status.carrier ≡ cond load Asking AskingX → status.leaving ≡ NotLeaving →
      IsGoodNode role words listed copy want (record status { carrier = Answered from (Nak cause) })
  node-refused role true from cause good asking stays = grind arith
  node-refused role false from cause good asking stays = grind arith

  -- a load is answered with the line's words, and its node is listed
  pub node-loaded : (from : ℕ) (has : Words) (lists : Bool) → IsGoodNode (MayShare NoDuty) words listed copy want status → status.carrier ≡ Asking → status.leaving ≡ NotLeaving → has ≡ words → lists ≡ true →
      IsGoodNode (MayShare NoDuty) words lists copy want (record status { carrier = Answered from (Put has) })
  node-loaded from has lists good asking stays same lists_it = grind arith

  -- a node that has no copy may share the line
  pub node-may-share : (lists : Bool) → IsGoodNode (Bare Usual NoDuty) words listed copy want status → IsGoodNode (MayShare NoDuty) words lists copy want status
  node-may-share lists good = grind arith

  -- a node is told to give up the line, where it is listed
  pub node-called : IsGoodNode (MayShare NoDuty) words listed copy want status → IsGoodNode Recalled words listed copy want (record status { duty = cond listed Told status.duty })
  node-called good = grind arith

  -- an acknowledgement is in
  pub node-acked : IsGoodNode Recalled words listed copy want status → status.duty ≡ Acked → IsGoodNode Recalled words false copy want (record status { duty = NoDuty })
  node-acked good acked = grind arith

  -- all acknowledgements are in: a node that isn't listed has no copy
  pub node-recalled : (next : Words) → IsGoodNode Recalled words listed copy want status → listed ≡ false → IsGoodNode (Bare Usual NoDuty) next false copy want status
  node-recalled next good unlisted = grind arith

-- a request is forwarded: the owner has to give the line, the requester waits
pub node-forward : (home p o : ℕ) (write : Bool) (words : Words) (listed lists : Bool) (copy : Copy) (want : Option Want) (status : Status) (node : ℕ) → p ≢ o →
    (node ≡ p → (status.carrier ≡ cond write AskingX Asking) × (status.leaving ≡ NotLeaving)) →
    IsGoodNode (role_in home words (Owned o) node) words listed copy want status →
    IsGoodNode (role_in home words (Asked write p o false true) node) words lists copy want (record { carrier = cond (node == p) (Forwarded write) status.carrier; leaving = status.leaving; duty = cond (node == o) (ToGive write p) status.duty })
node-forward home p o write words listed lists copy want status node differs asks good = go (node == p) (node == o) write refl refl asks good
  where
    go : (at_p at_o w : Bool) → (node == p) ≡ at_p → (node == o) ≡ at_o → (node ≡ p → (status.carrier ≡ cond w AskingX Asking) × (status.leaving ≡ NotLeaving)) →
        IsGoodNode (cond at_o (Holds NoDuty) (Bare Usual NoDuty)) words listed copy want status →
        IsGoodNode (cond at_o (Holds (ToGive w p)) (Bare (cond (at_p && true) (ByForward w) Usual) NoDuty)) words lists copy want (record { carrier = cond at_p (Forwarded w) status.carrier; leaving = status.leaving; duty = cond at_o (ToGive w p) status.duty })
    go true true w e f a g = absurd (grind (arith, nat_tests))
    go true false w e f a g = let same : node ≡ p = grind (arith, nat_tests) in let asked = a same in asked_ok w asked g
      where
        asked_ok : (w : Bool) → (status.carrier ≡ cond w AskingX Asking) × (status.leaving ≡ NotLeaving) → IsGoodNode (Bare Usual NoDuty) words listed copy want status → IsGoodNode (Bare (ByForward w) NoDuty) words lists copy want (record { carrier = Forwarded w; leaving = status.leaving; duty = status.duty })
        asked_ok true asked g = grind arith
        asked_ok false asked g = grind arith
    go false true w e f a g = grind arith
    go false false w e f a g = grind arith

-- the last acknowledgement is in: every node has no copy
pub node-all-in : (words next : Words) (lists : Bool) (copy : Copy) (want : Option Want) (status : Status) (home p node : ℕ) → node ≢ home → IsGoodNode Recalled words lists copy want status → (node ≡ p → status.duty ≡ Acked) → (node ≢ p → lists ≡ false) →
    IsGoodNode (Bare Usual NoDuty) next false copy want (record { carrier = cond (node == home) Resting status.carrier; leaving = status.leaving; duty = cond (node == p) NoDuty status.duty })
node-all-in words next lists copy want status home p node far good acked others =
    go (node == home) (node == p) refl refl
  where
    go : (b c : Bool) → (node == home) ≡ b → (node == p) ≡ c → IsGoodNode (Bare Usual NoDuty) next false copy want (record { carrier = cond b Resting status.carrier; leaving = status.leaving; duty = cond c NoDuty status.duty })
    go true c e f = absurd (grind (arith, nat_tests))
    go false true e f = let is : status.duty ≡ Acked = acked (grind (arith, nat_tests)) in grind arith
    go false false e f = let isnt : lists ≡ false = others (grind (arith, nat_tests)) in grind arith

-- the last acknowledgement is in, and a node gets the line
pub node-handed : (home p n : ℕ) (words has : Words) (lists listed : Bool) (copy : Copy) (want : Option Want) (status : Status) (node : ℕ) → has ≡ words → IsGoodNode (role_in home words (Called (Node n)) node) words lists copy want status →
    (node ≡ p → status.duty ≡ Acked) → (node ≢ p → lists ≡ false) → (node ≡ n → lists ≡ false) →
    IsGoodNode (role_in home words (Owned n) node) words listed copy want (record { carrier = cond (node == n) (Answered home (PutX has)) status.carrier; leaving = status.leaving; duty = cond (node == p) NoDuty status.duty })
node-handed home p n words has lists listed copy want status node same good acked others isnt = go (node == n) (node == p) refl refl good
  where
    go : (b c : Bool) → (node == n) ≡ b → (node == p) ≡ c → IsGoodNode (cond b (Bare ByGrant NoDuty) Recalled) words lists copy want status →
        IsGoodNode (cond b (Holds NoDuty) (Bare Usual NoDuty)) words listed copy want (record { carrier = cond b (Answered home (PutX has)) status.carrier; leaving = status.leaving; duty = cond c NoDuty status.duty })
    go true true e f g = let is : status.duty ≡ Acked = acked (grind (arith, nat_tests)) in grind arith
    go true false e f g = grind arith
    go false true e f g = let is : status.duty ≡ Acked = acked (grind (arith, nat_tests)) in grind arith
    go false false e f g = let no : lists ≡ false = others (grind (arith, nat_tests)) in grind arith
