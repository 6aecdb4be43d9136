-- A forward isn't for the node that takes it: it is at the owner of its line, and the requester of a line isn't its owner.
use Rattle.std.proofs.Common.{◌≡◌, ◌≢◌, ℕ, Bool, true, false, List, ◌∷◌}
use Rattle.op_model.specs.Messages.{Content, FAck, FwdGet, FwdGetX, Get, GetX, Inv, InvAck, Nak, Nakc, Put, PutX, Rpl, ShWb, Wb}
use Rattle.op_model.specs.declared.events.Class.TheVariants.{Reply, Request}
use Rattle.op_model.specs.declared.events.Class.{Class}
use Rattle.line_invariant.specs.Good.{Asked, IsGood, IsGoodHeader, ToGive}
use Rattle.line_invariant.specs.Line.{Line}
use Rattle.line_invariant.proofs.Public.{answer-comes, answered, asked-phase, fwd-first, fwdx-first}
use Rattle.line_invariant.proofs.Public.{request-away}
use Rattle.lane_bounds.proofs.Sends.{IsForAnother}

module _ (home : ℕ) (line : Line) (good : IsGood home line) (p : ℕ) (apart : p ≢ home) (src : ℕ) (rest : List Content) where
  differs : (write : Bool) (r : ℕ) → (good.status p).duty ≡ ToGive write r → r ≢ p
  differs write r duty =
      let asked = asked-phase home line.words good.phase p _ _ write r (good.nodes p apart).duty duty in
      let header : IsGoodHeader home (Asked write r p false asked.0) line.words line.header (line.copy home) = rw asked.1 at good.header in
      header.6

  no-forward : (content : Content) → line.lane src p Reply ≡ content ∷ rest → IsForAnother p content
  no-forward Get front = tt
  no-forward GetX front = tt
  no-forward (FwdGet r) front = let comes = answer-comes home line good p apart rest src (FwdGet r) front in let op = answered (line.want p) (line.copy p) src (FwdGet r) (rw comes.0 at (good.nodes p apart).carried) in absurd op.3
  no-forward (FwdGetX r) front = let comes = answer-comes home line good p apart rest src (FwdGetX r) front in let op = answered (line.want p) (line.copy p) src (FwdGetX r) (rw comes.0 at (good.nodes p apart).carried) in absurd op.3
  no-forward Inv front = tt
  no-forward (Wb words) front = tt
  no-forward Rpl front = tt
  no-forward (Put words) front = tt
  no-forward (PutX words) front = tt
  no-forward (Nak cause) front = tt
  no-forward InvAck front = tt
  no-forward (ShWb words) front = tt
  no-forward FAck front = tt
  no-forward Nakc front = tt

  forward-other : (content : Content) → line.lane src p Request ≡ content ∷ rest → IsForAnother p content
  forward-other (FwdGet r) front = differs false r (fwd-first (good.status p).duty r rest (request-away home line good src (FwdGet r) rest p apart front).1).0
  forward-other (FwdGetX r) front = differs true r (fwdx-first (good.status p).duty r rest (request-away home line good src (FwdGetX r) rest p apart front).1).0
  forward-other Get front = tt
  forward-other GetX front = tt
  forward-other Inv front = tt
  forward-other (Wb words) front = tt
  forward-other Rpl front = tt
  forward-other (Put words) front = tt
  forward-other (PutX words) front = tt
  forward-other (Nak cause) front = tt
  forward-other InvAck front = tt
  forward-other (ShWb words) front = tt
  forward-other FAck front = tt
  forward-other Nakc front = tt

  pub for-another : (class : Class) (content : Content) → line.lane src p class ≡ content ∷ rest → IsForAnother p content
  for-another Request content front = forward-other content front
  for-another Reply content front = no-forward content front
