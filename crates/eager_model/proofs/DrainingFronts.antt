-- What the first message of a lane tells of what is under way, while a line drains: no forward, and no answer to the home.
use Rattle.std.proofs.Common.{◌≡◌, ◌≢◌, ℕ, Bool, true, false, cond, ◌==◌, List, [], ◌∷◌, ◌++◌, refl, arith, ap, sym, ◌∙◌}
use Rattle.std.proofs.lemmas.Bool.{ne_eqb}
use Rattle.std.proofs.lemmas.Bool.Decides.{nat_tests}
use Rattle.eager_model.specs.Types.{Request, Reply}
use Rattle.op_model.specs.Messages.{Content, Inv, InvAck}
use Rattle.op_model.proofs.Public.{eqb-self}
use Rattle.line_invariant.specs.Good.{Answered, Duty, NoDuty, Told, Acked, IsOnDuty, asked_role, Recalled, leaving_part, asking_part, told_part, reply_part, answer_part}
use Rattle.line_invariant.proofs.Public.{answer-first}
use Rattle.eager_model.specs.Line.{AgedLine}
use Rattle.eager_model.specs.Good.{IsDraining, draining_role}

-- of requests the home sends Inv alone, and of replies it gets InvAck alone
drain-told : (grantee p : ℕ) (holds lists : Bool) (duty : Duty) (content : Content) (rest : List Content) → IsOnDuty (draining_role grantee holds p) lists duty → told_part duty ≡ content ∷ rest → (content ≡ Inv) × (duty ≡ Told) × (rest ≡ []) × ((p == grantee) ≡ false)
drain-told grantee p holds lists duty content rest on = go (p == grantee) holds on
  where
    go : (b h : Bool) → IsOnDuty (cond b (asked_role h NoDuty) Recalled) lists duty → told_part duty ≡ content ∷ rest → (content ≡ Inv) × (duty ≡ Told) × (rest ≡ []) × (b ≡ false)
    go true true on e = absurd (grind arith)
    go true false on e = absurd (grind arith)
    go false h on e = grind arith

drain-replies : (grantee p : ℕ) (holds lists : Bool) (duty : Duty) (content : Content) (rest : List Content) → IsOnDuty (draining_role grantee holds p) lists duty → reply_part duty ≡ content ∷ rest → (content ≡ InvAck) × (duty ≡ Acked) × (rest ≡ [])
drain-replies grantee p holds lists duty content rest on = go (p == grantee) holds on
  where
    go : (b h : Bool) → IsOnDuty (cond b (asked_role h NoDuty) Recalled) lists duty → reply_part duty ≡ content ∷ rest → (content ≡ InvAck) × (duty ≡ Acked) × (rest ≡ [])
    go true true on e = absurd (grind arith)
    go true false on e = absurd (grind arith)
    go false h on e = grind arith

module _ (home : ℕ) (line : AgedLine) (good : IsDraining home line) (from : ℕ) (content : Content) (rest : List Content) where
  -- at the home
  pub asks : line.line.lane from home Request ≡ content ∷ rest → leaving_part (good.status from).leaving ++ asking_part (good.status from).carrier ≡ content ∷ rest
  asks front = sym (simp (eqb-self home) at (good.lanes from home Request)) ∙ front

  pub asks-apart : line.line.lane from home Request ≡ content ∷ rest → from ≢ home
  asks-apart front same =
      let e : leaving_part (good.status home).leaving ++ asking_part (good.status home).carrier ≡ content ∷ rest = ap (λ k. leaving_part (good.status k).leaving ++ asking_part (good.status k).carrier) (sym same) ∙ asks front in
      let none : leaving_part (good.status home).leaving ++ asking_part (good.status home).carrier ≡ [] = rw (good.at_home.stays, good.at_home.carrier) in
      let n : [] ≡ content ∷ rest = sym none ∙ e in cc

  owes : line.line.lane from home Reply ≡ content ∷ rest → reply_part (good.status from).duty ≡ content ∷ rest
  owes front =
      let e : answer_part from (good.status home).carrier ++ reply_part (good.status from).duty ≡ content ∷ rest = sym (simp (eqb-self home) at (good.lanes from home Reply)) ∙ front in
      let none : answer_part from (good.status home).carrier ≡ [] = rw good.at_home.carrier in
      sym (ap (λ xs. xs ++ reply_part (good.status from).duty) none) ∙ e

  pub owes-apart : line.line.lane from home Reply ≡ content ∷ rest → from ≢ home
  owes-apart front same =
      let e : reply_part (good.status home).duty ≡ content ∷ rest = ap (λ k. reply_part (good.status k).duty) (sym same) ∙ owes front in
      let none : reply_part (good.status home).duty ≡ [] = rw good.at_home.off_duty in
      let n : [] ≡ content ∷ rest = sym none ∙ e in cc

  pub acknowledges : line.line.lane from home Reply ≡ content ∷ rest → content ≡ InvAck
  acknowledges front = (drain-replies good.grantee from good.holds _ (good.status from).duty content rest (good.nodes from (owes-apart front)).duty (owes front)).0

  -- elsewhere
  module _ (p : ℕ) (apart : p ≢ home) where
    pub told : line.line.lane from p Request ≡ content ∷ rest → (from ≡ home) × (content ≡ Inv) × ((good.status p).duty ≡ Told) × (rest ≡ []) × ((p == good.grantee) ≡ false)
    told front =
        let e : line.line.lane from p Request ≡ cond (from == home) (told_part (good.status p).duty) [] = simp (ne_eqb p home apart) at (good.lanes from p Request) in
        let away = home-sends (from == home) (sym e ∙ front) in
        let is = drain-told good.grantee p good.holds _ (good.status p).duty content rest (good.nodes p apart).duty away.1 in
        (grind (arith, nat_tests), is.0, is.1, is.2, is.3)
      where
        home-sends : (b : Bool) → cond b (told_part (good.status p).duty) [] ≡ content ∷ rest → (b ≡ true) × (told_part (good.status p).duty ≡ content ∷ rest)
        home-sends true e = (refl, e)
        home-sends false e = absurd (grind arith)

    pub answers : line.line.lane from p Reply ≡ content ∷ rest → ((good.status p).carrier ≡ Answered from content) × (rest ≡ [])
    answers front =
        let e : line.line.lane from p Reply ≡ answer_part from (good.status p).carrier ++ [] = simp (ne_eqb p home apart) at (good.lanes from p Reply) in
        let t = answer-first from (good.status p).carrier content rest in
        grind (arith, nat_tests)
