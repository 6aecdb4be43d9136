-- What the first message of a lane tells of what is under way.
-- The lane is spelled from the statuses, and each kind of message stands for one status alone.
use Rattle.std.proofs.Common.{◌≡◌, ◌≢◌, ℕ, Bool, true, false, cond, ◌==◌, List, [], ◌∷◌, ◌++◌, arith, ap, sym, ◌∙◌, Option}
use Rattle.std.proofs.lemmas.Bool.{ne_eqb}
use Rattle.std.proofs.lemmas.Bool.Decides.{nat_tests}
use Rattle.line_invariant.specs.Types.{Want, NakCause, Request, Reply, Nobody, Me, Node}
use Rattle.op_model.specs.Operations.{Words}
use Rattle.op_model.specs.Messages.{Content, Get, GetX, FwdGet, FwdGetX, Inv, Wb, Rpl, Put, PutX, Nak, InvAck, ShWb, FAck, Nakc, class_of}
use Rattle.op_model.specs.Lines.{Copy}
use Rattle.op_model.proofs.Public.{eqb-self}
use Rattle.line_invariant.specs.Line.{Line}
use Rattle.line_invariant.specs.Good.{Carrier, Resting, Asking, AskingX, Answered, Leaving, NotLeaving, WritesBack, Hints, Duty, Told, Acked, ToGive, Returned, Handed, Refused, IsGood, leaving_part, asking_part, told_part, reply_part, answer_part, IsCarried, IsHomeCarrier, IsAskedBy, Phase, Clean, HomeOwns, Owned, Called, Asked, SharedOut, HandedOn}

-- in the lane of requests to the home
pub get-first : (leaving : Leaving) (carries : Carrier) (rest : List Content) → leaving_part leaving ++ asking_part carries ≡ Get ∷ rest → (leaving ≡ NotLeaving) × (carries ≡ Asking) × (rest ≡ [])
get-first leaving carries rest e = grind arith

pub getx-first : (leaving : Leaving) (carries : Carrier) (rest : List Content) → leaving_part leaving ++ asking_part carries ≡ GetX ∷ rest → (leaving ≡ NotLeaving) × (carries ≡ AskingX) × (rest ≡ [])
getx-first leaving carries rest e = grind arith

pub wb-first : (leaving : Leaving) (carries : Carrier) (words : Words) (rest : List Content) → leaving_part leaving ++ asking_part carries ≡ Wb words ∷ rest → (leaving ≡ WritesBack words) × (rest ≡ asking_part carries)
wb-first leaving carries words rest e = grind arith

pub rpl-first : (leaving : Leaving) (carries : Carrier) (rest : List Content) → leaving_part leaving ++ asking_part carries ≡ Rpl ∷ rest → (leaving ≡ Hints) × (rest ≡ asking_part carries)
rpl-first leaving carries rest e = grind arith

-- in the lane of requests from the home
inv-first : (duty : Duty) (rest : List Content) → told_part duty ≡ Inv ∷ rest → (duty ≡ Told) × (rest ≡ [])
inv-first duty rest e = grind arith

pub fwd-first : (duty : Duty) (requester : ℕ) (rest : List Content) → told_part duty ≡ FwdGet requester ∷ rest → (duty ≡ ToGive false requester) × (rest ≡ [])
fwd-first duty requester rest e = grind arith

pub fwdx-first : (duty : Duty) (requester : ℕ) (rest : List Content) → told_part duty ≡ FwdGetX requester ∷ rest → (duty ≡ ToGive true requester) × (rest ≡ [])
fwdx-first duty requester rest e = grind arith

-- an answer to an operation
pub answer-first : (from : ℕ) (carries : Carrier) (content : Content) (rest : List Content) → answer_part from carries ≡ content ∷ rest → (carries ≡ Answered from content) × (rest ≡ [])
answer-first from carries content rest e = grind (arith, nat_tests)

-- an acknowledgement stands behind no answer
pub ack-first : (from : ℕ) (want : Option Want) (copy : Copy) (carries : Carrier) (duty : Duty) (rest : List Content) → IsCarried want copy carries → answer_part from carries ++ reply_part duty ≡ InvAck ∷ rest → (answer_part from carries ≡ []) × (duty ≡ Acked) × (rest ≡ [])
ack-first from want copy carries duty rest c e = grind (arith, nat_tests)

module _ (home : ℕ) (line : Line) (good : IsGood home line) (p : ℕ) (apart : p ≢ home) (rest : List Content) where
  pub get-comes : line.lane p home Request ≡ Get ∷ rest → ((good.status p).leaving ≡ NotLeaving) × ((good.status p).carrier ≡ Asking) × (rest ≡ [])
  get-comes front = get-first _ _ rest (sym (simp (eqb-self home) at (good.lanes p home Request)) ∙ front)

  pub getx-comes : line.lane p home Request ≡ GetX ∷ rest → ((good.status p).leaving ≡ NotLeaving) × ((good.status p).carrier ≡ AskingX) × (rest ≡ [])
  getx-comes front = getx-first _ _ rest (sym (simp (eqb-self home) at (good.lanes p home Request)) ∙ front)

  pub wb-comes : (words : Words) → line.lane p home Request ≡ Wb words ∷ rest → ((good.status p).leaving ≡ WritesBack words) × (rest ≡ asking_part (good.status p).carrier)
  wb-comes words front = wb-first _ _ words rest (sym (simp (eqb-self home) at (good.lanes p home Request)) ∙ front)

  pub rpl-comes : line.lane p home Request ≡ Rpl ∷ rest → ((good.status p).leaving ≡ Hints) × (rest ≡ asking_part (good.status p).carrier)
  rpl-comes front = rpl-first _ _ rest (sym (simp (eqb-self home) at (good.lanes p home Request)) ∙ front)

  -- a request to another node than the home comes from the home
  request-from : (from : ℕ) → line.lane from p Request ≡ cond (from == home) (told_part (good.status p).duty) []
  request-from from = simp (ne_eqb p home apart) at (good.lanes from p Request)

  pub inv-comes : (from : ℕ) → line.lane from p Request ≡ Inv ∷ rest → (from ≡ home) × ((good.status p).duty ≡ Told) × (rest ≡ [])
  inv-comes from front = let e = request-from from in let t = inv-first (good.status p).duty rest in grind (arith, nat_tests)

  -- an answer to another node than the home
  pub answer-comes : (from : ℕ) (content : Content) → line.lane from p Reply ≡ content ∷ rest → ((good.status p).carrier ≡ Answered from content) × (rest ≡ [])
  answer-comes from content front =
      let e : line.lane from p Reply ≡ answer_part from (good.status p).carrier ++ [] = simp (ne_eqb p home apart) at (good.lanes from p Reply) in
      let t = answer-first from (good.status p).carrier content rest in
      grind (arith, nat_tests)

  pub ack-comes : line.lane p home Reply ≡ InvAck ∷ rest → (answer_part p (good.status home).carrier ≡ []) × ((good.status p).duty ≡ Acked) × (rest ≡ [])
  ack-comes front = ack-first p _ _ _ _ rest good.at_home.carried (sym (simp (eqb-self home) at (good.lanes p home Reply)) ∙ front)

-- each lane carries its own class
pub requests-only : (leaving : Leaving) (carries : Carrier) (content : Content) (rest : List Content) → leaving_part leaving ++ asking_part carries ≡ content ∷ rest → class_of content ≡ Request
requests-only leaving carries content rest e = grind arith

pub told-only : (duty : Duty) (content : Content) (rest : List Content) → told_part duty ≡ content ∷ rest → class_of content ≡ Request
told-only duty content rest e = grind arith

pub replies-only : (from : ℕ) (want : Option Want) (copy : Copy) (carries : Carrier) (duty : Duty) (content : Content) (rest : List Content) → IsCarried want copy carries → answer_part from carries ++ reply_part duty ≡ content ∷ rest → class_of content ≡ Reply
replies-only from want copy carries duty content rest c e = grind (arith, nat_tests)

pub shwb-first : (from : ℕ) (want : Option Want) (copy : Copy) (carries : Carrier) (duty : Duty) (words : Words) (rest : List Content) → IsCarried want copy carries → answer_part from carries ++ reply_part duty ≡ ShWb words ∷ rest → (answer_part from carries ≡ []) × (duty ≡ Returned words) × (rest ≡ [])
shwb-first from want copy carries duty words rest c e = grind (arith, nat_tests)

pub fack-first : (from : ℕ) (want : Option Want) (copy : Copy) (carries : Carrier) (duty : Duty) (rest : List Content) → IsCarried want copy carries → answer_part from carries ++ reply_part duty ≡ FAck ∷ rest → (answer_part from carries ≡ []) × (duty ≡ Handed) × (rest ≡ [])
fack-first from want copy carries duty rest c e = grind (arith, nat_tests)

pub nakc-first : (from : ℕ) (want : Option Want) (copy : Copy) (carries : Carrier) (duty : Duty) (rest : List Content) → IsCarried want copy carries → answer_part from carries ++ reply_part duty ≡ Nakc ∷ rest → (answer_part from carries ≡ []) × (duty ≡ Refused) × (rest ≡ [])
nakc-first from want copy carries duty rest c e = grind (arith, nat_tests)

pub put-first : (from : ℕ) (carries : Carrier) (duty : Duty) (words : Words) (rest : List Content) → answer_part from carries ++ reply_part duty ≡ Put words ∷ rest → (carries ≡ Answered from (Put words)) × (rest ≡ reply_part duty)
put-first from carries duty words rest e = grind (arith, nat_tests)

pub putx-first : (from : ℕ) (carries : Carrier) (duty : Duty) (words : Words) (rest : List Content) → answer_part from carries ++ reply_part duty ≡ PutX words ∷ rest → (carries ≡ Answered from (PutX words)) × (rest ≡ reply_part duty)
putx-first from carries duty words rest e = grind (arith, nat_tests)

pub nak-first : (from : ℕ) (carries : Carrier) (duty : Duty) (cause : NakCause) (rest : List Content) → answer_part from carries ++ reply_part duty ≡ Nak cause ∷ rest → (carries ≡ Answered from (Nak cause)) × (rest ≡ reply_part duty)
nak-first from carries duty cause rest e = grind (arith, nat_tests)

-- the home sends no request to itself
pub silent-home : (home : ℕ) (words : Words) (phase : Phase) (carries : Carrier) → IsHomeCarrier home words phase carries → asking_part carries ≡ []
silent-home home words Clean carries is = grind arith
silent-home home words HomeOwns carries is = grind arith
silent-home home words (Owned o) carries is = grind arith
silent-home home words (Called Nobody) carries is = grind arith
silent-home home words (Called Me) carries is = grind arith
silent-home home words (Called (Node n)) carries is = grind arith
silent-home home words (Asked w r o f h) carries is = asked (r == home) f is
  where
    asked : (c f : Bool) → IsAskedBy c f w o carries → asking_part carries ≡ []
    asked true true is = grind arith
    asked true false is = grind arith
    asked false f is = grind arith
silent-home home words (SharedOut r o) carries is = shared (r == home) is
  where
    shared : (c : Bool) → carries ≡ cond c (Answered o (Put words)) Resting → asking_part carries ≡ []
    shared true is = grind arith
    shared false is = grind arith
silent-home home words (HandedOn r o h) carries is = handed (r == home) is
  where
    handed : (c : Bool) → carries ≡ cond c (Answered o (PutX words)) Resting → asking_part carries ≡ []
    handed true is = grind arith
    handed false is = grind arith

module _ (home : ℕ) (line : Line) (good : IsGood home line) (from : ℕ) (content : Content) (rest : List Content) where
  -- at the home
  pub request-home : line.lane from home Request ≡ content ∷ rest → leaving_part (good.status from).leaving ++ asking_part (good.status from).carrier ≡ content ∷ rest
  request-home front = sym (simp (eqb-self home) at (good.lanes from home Request)) ∙ front

  pub request-apart : line.lane from home Request ≡ content ∷ rest → from ≢ home
  request-apart front same =
      let at_home = good.at_home in
      let e : line.lane home home Request ≡ content ∷ rest = ap (λ k. line.lane k home Request) (sym same) ∙ front in
      let l : leaving_part (good.status home).leaving ++ asking_part (good.status home).carrier ≡ content ∷ rest = sym (simp (eqb-self home) at (good.lanes home home Request)) ∙ e in
      let s : asking_part (good.status home).carrier ≡ [] = silent-home home line.words good.phase _ at_home.carrier in
      let t : leaving_part (good.status home).leaving ≡ [] = rw at_home.stays in
      let none : [] ≡ content ∷ rest = sym (ap (λ xs. xs ++ asking_part (good.status home).carrier) t ∙ s) ∙ l in
      cc

  pub reply-home : line.lane from home Reply ≡ content ∷ rest → answer_part from (good.status home).carrier ++ reply_part (good.status from).duty ≡ content ∷ rest
  reply-home front = sym (simp (eqb-self home) at (good.lanes from home Reply)) ∙ front

  -- elsewhere
  pub request-away : (p : ℕ) → p ≢ home → line.lane from p Request ≡ content ∷ rest → (from ≡ home) × (told_part (good.status p).duty ≡ content ∷ rest)
  request-away p apart front =
      let e : line.lane from p Request ≡ cond (from == home) (told_part (good.status p).duty) [] = simp (ne_eqb p home apart) at (good.lanes from p Request) in
      grind (arith, nat_tests)

  pub reply-away : (p : ℕ) → p ≢ home → line.lane from p Reply ≡ content ∷ rest → answer_part from (good.status p).carrier ++ [] ≡ content ∷ rest
  reply-away p apart front = sym (simp (ne_eqb p home apart) at (good.lanes from p Reply)) ∙ front
