-- What holds of a node after the owner has answered a forward: of the owner, the requester and the others.
-- The phase names owner and requester, so that each one's role is known.
use Rattle.std.proofs.Common.{◌≡◌, ℕ, Bool, true, false, cond, ◌==◌, ◌&&◌, not, refl, arith, ap, Option}
use Rattle.std.proofs.lemmas.Bool.Decides.{nat_tests}
use Rattle.line_invariant.specs.Types.{Want, Nobody, Me, Node, NakCause}
use Rattle.op_model.specs.Operations.{Words}
use Rattle.op_model.specs.Messages.{Put, PutX, Nak}
use Rattle.op_model.specs.Lines.{Copy, Absent, Shared, Exclusive, is_exclusive}
use Rattle.line_invariant.specs.Good.{Status, Forwarded, Answered, Duty, NoDuty, ToGive, Refused, MayShare, Bare, Holds, Usual, ByForward, asked_role, IsGoodNode, IsGoodHome, IsCarried, IsOnDuty, role_in, Phase, Clean, HomeOwns, Owned, Called, Asked, SharedOut, HandedOn}

-- only the owner of a line that is asked for has a forward under way to it
pub asked-phase : (home : ℕ) (words : Words) (phase : Phase) (p : ℕ) (lists : Bool) (duty : Duty) (write : Bool) (r : ℕ) → IsOnDuty (role_in home words phase p) lists duty → duty ≡ ToGive write r → (holds : Bool) × (phase ≡ Asked write r p false holds)
asked-phase home words Clean p lists duty write r on is = absurd (grind arith)
asked-phase home words HomeOwns p lists duty write r on is = absurd (grind arith)
asked-phase home words (Owned o) p lists duty write r on is = absurd (grind arith)
asked-phase home words (Called Nobody) p lists duty write r on is = absurd (grind arith)
asked-phase home words (Called Me) p lists duty write r on is = absurd (grind arith)
asked-phase home words (Called (Node g)) p lists duty write r on is = absurd (grind arith)
asked-phase home words (Asked w q o f h) p lists duty write r on is = (h, asked (p == o) f h refl on)
  where
    asked : (c f h : Bool) → (p == o) ≡ c → IsOnDuty (cond c (asked_role h (cond f Refused (ToGive w q))) (Bare (cond ((p == q) && not f) (ByForward w) Usual) NoDuty)) lists duty → Asked w q o f h ≡ Asked write r p false h
    asked true false true e on = let same : o ≡ p = grind (arith, nat_tests) in cc
    asked true false false e on = let same : o ≡ p = grind (arith, nat_tests) in cc
    asked true true true e on = cc
    asked true true false e on = cc
    asked false f h e on = cc
asked-phase home words (SharedOut q o) p lists duty write r on is = absurd (grind arith)
asked-phase home words (HandedOn q o h) p lists duty write r on is = absurd (grind arith)

module _ (words : Words) (lists : Bool) (copy : Copy) (want : Option Want) (status : Status) where
  -- who asked gets the words, to share or to hold
  pub node-gets : (from : ℕ) (has : Words) (listed : Bool) → IsGoodNode (Bare (ByForward false) NoDuty) words lists copy want status → has ≡ words → listed ≡ true →
      IsGoodNode (MayShare NoDuty) words listed copy want (record status { carrier = Answered from (Put has) })
  node-gets from has listed good same is = grind arith

  pub node-gets-all : (from : ℕ) (has : Words) (listed : Bool) → IsGoodNode (Bare (ByForward true) NoDuty) words lists copy want status → has ≡ words →
      IsGoodNode (Holds NoDuty) words listed copy want (record status { carrier = Answered from (PutX has) })
  node-gets-all from has listed good same = grind arith

  -- or is refused
  pub node-fails : (write : Bool) (from : ℕ) (cause : NakCause) (listed : Bool) → IsGoodNode (Bare (ByForward write) NoDuty) words lists copy want status →
      IsGoodNode (Bare Usual NoDuty) words listed copy want (record status { carrier = Answered from (Nak cause) })
  node-fails write from cause listed good = grind arith

  -- the owner keeps a shared copy
  pub node-shares : (duty : Duty) (has : Words) (listed : Bool) (next : Duty) → IsGoodNode (Holds duty) words lists copy want status → copy ≡ Exclusive has → listed ≡ true →
      IsGoodNode (MayShare next) words listed (Shared has) want (record status { duty = next }) × (has ≡ words)
  node-shares duty has listed next good is l = (grind arith, grind arith)

  -- or none
  pub node-gives : (duty : Duty) (has : Words) (listed : Bool) (next : Duty) → IsGoodNode (Holds duty) words lists copy want status → copy ≡ Exclusive has →
      IsGoodNode (Bare Usual next) words listed Absent want (record status { duty = next }) × (has ≡ words)
  node-gives duty has listed next good is = (grind arith, grind arith)

  -- or has nothing to give
  pub node-refuses : (holds : Bool) (duty next : Duty) → IsGoodNode (asked_role holds duty) words lists copy want status →
      IsGoodNode (asked_role holds next) words lists copy want (record status { duty = next })
  node-refuses true duty next good = grind arith
  node-refuses false duty next good = grind arith

  -- who holds an exclusive copy holds the line
  pub node-holds : (holds : Bool) (duty : Duty) → IsGoodNode (asked_role holds duty) words lists copy want status → is_exclusive copy ≡ true → holds ≡ true
  node-holds true duty good is = refl
  node-holds false duty good is = grind arith

  pub node-bare-shares : (duty : Duty) (listed : Bool) → IsGoodNode (Bare Usual duty) words lists copy want status → IsGoodNode (MayShare duty) words listed copy want status
  node-bare-shares duty listed good = grind arith

-- the home's own operation, forwarded, is answered
module _ (home : ℕ) (words : Words) (r p : ℕ) (holds : Bool) (copy : Copy) (want : Option Want) (status : Status) where
  pub home-fails : (write c : Bool) (cause : NakCause) → (r == home) ≡ c → IsGoodHome home (Asked write r p false holds) words copy want status →
      IsGoodHome home (Asked write r p true holds) words copy want (record status { carrier = cond c (Answered p (Nak cause)) status.carrier })
  home-fails write true cause e good =
      let c : status.carrier ≡ Forwarded write = rw e at good.carrier in
      record { carried = failed want write good.carried c; stays = good.stays; off_duty = good.off_duty; carrier = rw e refl }
    where
      failed : (want : Option Want) (write : Bool) → IsCarried want copy status.carrier → status.carrier ≡ Forwarded write → IsCarried want copy (Answered p (Nak cause))
      failed want write carried c = grind arith
  home-fails write false cause e good = record { carried = good.carried; stays = good.stays; off_duty = good.off_duty; carrier = rw e (rw e at good.carrier) }

  pub home-gets : (c : Bool) (has : Words) → has ≡ words → (r == home) ≡ c → IsGoodHome home (Asked false r p false holds) words copy want status →
      IsGoodHome home (SharedOut r p) words copy want (record status { carrier = cond c (Answered p (Put has)) status.carrier })
  home-gets true has same e good =
      let c : status.carrier ≡ Forwarded false = rw e at good.carrier in
      record { carried = got want good.carried c; stays = good.stays; off_duty = good.off_duty; carrier = rw e (ap (λ w. Answered p (Put w)) same) }
    where
      got : (want : Option Want) → IsCarried want copy status.carrier → status.carrier ≡ Forwarded false → IsCarried want copy (Answered p (Put has))
      got want carried c = grind arith
  home-gets false has same e good = record { carried = good.carried; stays = good.stays; off_duty = good.off_duty; carrier = rw e (rw e at good.carrier) }

  pub home-gets-all : (c : Bool) (has : Words) → has ≡ words → (r == home) ≡ c → IsGoodHome home (Asked true r p false holds) words copy want status →
      IsGoodHome home (HandedOn r p true) words copy want (record status { carrier = cond c (Answered p (PutX has)) status.carrier })
  home-gets-all true has same e good =
      let c : status.carrier ≡ Forwarded true = rw e at good.carrier in
      record { carried = got want good.carried c; stays = good.stays; off_duty = good.off_duty; carrier = rw e (ap (λ w. Answered p (PutX w)) same) }
    where
      got : (want : Option Want) → IsCarried want copy status.carrier → status.carrier ≡ Forwarded true → IsCarried want copy (Answered p (PutX has))
      got want carried c = grind arith
  home-gets-all false has same e good = record { carried = good.carried; stays = good.stays; off_duty = good.off_duty; carrier = rw e (rw e at good.carrier) }
