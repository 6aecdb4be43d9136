-- A line of which no message is under way isn't pending, and no node has begun an operation on it.
-- Each part of what is under way is spelled in some lane, so no node has a duty, and no operation asks or has an answer. Then no phase
-- with a wait is possible: a line that is called in has a listed node with its Inv or InvAck, and a line that was asked for or handed on
-- has an owner or a requester with a message. In the other phases an operation that waits has a message.
use Rattle.std.proofs.Common.{◌≡◌, ◌≢◌, ℕ, ◌<◌, Bool, true, false, cond, ◌==◌, not, List, [], ◌∷◌, ◌++◌, refl, arith, ap, sym, ◌∙◌, subst, Option, Some, None}
use Rattle.std.proofs.lemmas.Bool.{ne_eqb}
use Rattle.std.proofs.lemmas.Bool.Decides.{nat_tests}
use Rattle.op_model.specs.declared.events.Class.{Class}
use Rattle.op_model.specs.declared.events.Class.TheVariants.{Reply, Request}
use Rattle.op_model.specs.declared.state.Grantee.{Grantee}
use Rattle.op_model.specs.declared.state.Grantee.TheVariants.{Me, Nobody, Node}
use Rattle.op_model.specs.declared.state.Want.{Want}
use Rattle.op_model.specs.Lines.{Copy, Header, is_pending}
use Rattle.op_model.specs.Messages.{Content, Put, PutX}
use Rattle.op_model.specs.Nodes.{Nodes, count, count-none, in_order, in_order-once, listed, listed-none, none, same_nodes, times}
use Rattle.op_model.specs.Operations.{Words}
use Rattle.op_model.proofs.Public.{eqb-self}
use Rattle.line_invariant.specs.Good.{IsUsual, IsWaiting, Answered, Asked, Asking, AskingX, Bare, Called, Carrier, Clean, Duty, Forwarded, Granted, Handed, HandedOn, Holds, HomeOwns, IsCarried, IsGood, IsGoodHeader, IsGrantee, IsHomeCarrier, IsOnDuty, NoDuty, Owned, Phase, Recalled, Refused, Resting, Returned, SharedOut, ToGive, Usual, answer_part, asked_role, asking_part, expected, leaving_part, reply_part, role_in, told_part}
use Rattle.line_invariant.specs.Line.{Line}

-- a reply that is under way shows in some lane
pub app-none : (xs ys : List Content) → xs ++ ys ≡ [] → (xs ≡ []) × (ys ≡ [])
app-none [] ys e = (refl, e)
app-none (x ∷ xs) ys e = cc

pub silent-duty : (duty : Duty) → told_part duty ≡ [] → reply_part duty ≡ [] → duty ≡ NoDuty
silent-duty duty e f = grind arith

-- a set with a member
pub some-listed : (list : Nodes) → 0 < count list → (n : ℕ) × (listed list n ≡ true)
some-listed list many = go (in_order list) refl
  where
    go : (ns : List ℕ) → in_order list ≡ ns → (n : ℕ) × (listed list n ≡ true)
    go [] e = absurd (let all : (q : ℕ) → listed list q ≡ listed none q = λ q. out (listed list q) (sym (in_order-once list q) ∙ ap (times q) e) ∙ sym (listed-none q) in let same : list ≡ none = same_nodes list none all in let z : count list ≡ 0 = ap count same ∙ count-none in omega arith)
      where
        out : (c : Bool) → cond {A = ℕ} c 1 0 ≡ 0 → c ≡ false
        out true e = absurd (omega arith)
        out false e = refl
    go (n ∷ ns) e = (n, in_list (listed list n) (sym (in_order-once list n) ∙ ap (times n) e))
      where
        in_list : (c : Bool) → cond {A = ℕ} c 1 0 ≡ times n (n ∷ ns) → c ≡ true
        in_list true e = refl
        in_list false e = absurd (grind (arith, nat_tests))

-- the operation of a node that no message carries
want-none : (want : Option Want) (copy : Copy) (carries : Carrier) → IsCarried want copy carries → asking_part carries ≡ [] → ((src : ℕ) → answer_part src carries ≡ []) → IsUsual carries → want ≡ None
want-none None copy carries is asks answers usual = refl
want-none (Some want) copy Resting is asks answers usual = absurd is
want-none (Some want) copy Asking is asks answers usual = cc
want-none (Some want) copy AskingX is asks answers usual = cc
want-none (Some want) copy Granted is asks answers usual = absurd usual
want-none (Some want) copy (Forwarded write) is asks answers usual = absurd usual
want-none (Some want) copy (Answered src content) is asks answers usual = absurd (let a = answers src in let b : answer_part src (Answered src content) ≡ content ∷ [] = rw (eqb-self src) refl in let n : [] ≡ content ∷ [] = sym a ∙ b in cc)

usual-idle : (home : ℕ) (words : Words) (phase : Phase) (p : ℕ) (header : Header) (copy : Copy) (carries : Carrier) → IsGoodHeader home phase words header copy → is_pending header ≡ false → IsWaiting (role_in home words phase p) carries → IsUsual carries
usual-idle home words Clean p header copy carries good idle is = is
usual-idle home words HomeOwns p header copy carries good idle is = is
usual-idle home words (Owned o) p header copy carries good idle is = go (p == o) is
  where
    go : (c : Bool) → IsWaiting (cond c (Holds NoDuty) (Bare Usual NoDuty)) carries → IsUsual carries
    go true is = is
    go false is = is
usual-idle home words (Called g) p header copy carries good idle is = absurd (grind arith)
usual-idle home words (Asked true r o f h) p header copy carries good idle is = absurd (grind arith)
usual-idle home words (Asked false r o f h) p header copy carries good idle is = absurd (grind arith)
usual-idle home words (SharedOut r o) p header copy carries good idle is = absurd (grind arith)
usual-idle home words (HandedOn r o h) p header copy carries good idle is = absurd (grind arith)

resting-home : (home : ℕ) (words : Words) (phase : Phase) (header : Header) (copy : Copy) (carries : Carrier) → IsGoodHeader home phase words header copy → is_pending header ≡ false → IsHomeCarrier home words phase carries → carries ≡ Resting
resting-home home words Clean header copy carries good idle is = is
resting-home home words HomeOwns header copy carries good idle is = is
resting-home home words (Owned o) header copy carries good idle is = is
resting-home home words (Called g) header copy carries good idle is = absurd (grind arith)
resting-home home words (Asked true r o f h) header copy carries good idle is = absurd (grind arith)
resting-home home words (Asked false r o f h) header copy carries good idle is = absurd (grind arith)
resting-home home words (SharedOut r o) header copy carries good idle is = absurd (grind arith)
resting-home home words (HandedOn r o h) header copy carries good idle is = absurd (grind arith)

-- a line of which nothing is under way isn't pending
module _ (home : ℕ) (words : Words) (header : Header) (copy : Copy) (duty : ℕ → Duty) (carries : Carrier)
    (duties : (n : ℕ) → duty n ≡ NoDuty) (answers : (src : ℕ) → answer_part src carries ≡ []) (unlisted : listed header.list home ≡ false) where
  abbrev Duties : Phase → Type 0
  Duties phase = (n : ℕ) → n ≢ home → IsOnDuty (role_in home words phase n) (listed header.list n) (duty n)

  unanswered : (src : ℕ) (content : Content) → carries ≡ Answered src content → ⊥
  unanswered src content is = let b : answer_part src carries ≡ content ∷ [] = rw is (rw (eqb-self src) refl) in let n : [] ≡ content ∷ [] = sym (answers src) ∙ b in cc

  no-recall : (g : ℕ) → listed header.list g ≡ true → IsOnDuty Recalled (listed header.list g) (duty g) → ⊥
  no-recall g has on = let d = duties g in let t : IsOnDuty Recalled true NoDuty = rw (has, d) at on in let n : true ≡ false = t in cc

  idle : (phase : Phase) → IsGoodHeader home phase words header copy → IsHomeCarrier home words phase carries → Duties phase → is_pending header ≡ false
  idle Clean good at on = grind arith
  idle HomeOwns good at on = grind arith
  idle (Owned o) good at on = grind arith
  idle (Called g) good at on =
      let has = some-listed header.list (omega (arith, good.3, good.4)) in
      absurd (called g has.0 has.1 good.7 (on has.0 (λ same. let n : true ≡ false = sym has.1 ∙ ap (listed header.list) same ∙ unlisted in cc)))
    where
      called : (g : Grantee) (n : ℕ) → listed header.list n ≡ true → IsGrantee home g header.list → IsOnDuty (role_in home words (Called g) n) (listed header.list n) (duty n) → ⊥
      called Nobody n has is on = no-recall n has on
      called Me n has is on = no-recall n has on
      called (Node k) n has is on = no-recall n has (rw (ne_eqb n k other) at on)
        where
          other : n ≢ k
          other same = let t : true ≡ false = sym has ∙ ap (listed header.list) same ∙ is.1 in cc
  idle (Asked w r o f h) good at on = absurd (asked f h (rw (eqb-self o) at (on o good.5)))
    where
      asked : (f h : Bool) → IsOnDuty (asked_role h (cond f Refused (ToGive w r))) (listed header.list o) (duty o) → ⊥
      asked true true is = let d = duties o in cc
      asked true false is = let d = duties o in cc
      asked false true is = let d = duties o in cc
      asked false false is = let d = duties o in cc
  idle (SharedOut r o) good at on = absurd (shared (r == home) at (rw (eqb-self o) at (on o good.4)))
    where
      shared : (c : Bool) → carries ≡ cond c (Answered o (Put words)) Resting → duty o ≡ cond (not c) (Returned words) NoDuty → ⊥
      shared true is on = unanswered o (Put words) is
      shared false is on = let d = duties o in cc
  idle (HandedOn r o h) good at on = absurd (handed (r == home) at (rw (eqb-self o) at (on o good.5)))
    where
      handed : (c : Bool) → carries ≡ cond c (Answered o (PutX words)) Resting → duty o ≡ cond c NoDuty Handed → ⊥
      handed true is on = unanswered o (PutX words) is
      handed false is on = let d = duties o in cc

module _ (home : ℕ) (line : Line) (good : IsGood home line) (empty : (a b : ℕ) (class : Class) → line.lane a b class ≡ []) where
  pub silent : (a b : ℕ) (class : Class) → expected home good.status a b class ≡ []
  silent a b class = sym (good.lanes a b class) ∙ empty a b class

  pub no-answer : (n src : ℕ) → answer_part src (good.status n).carrier ≡ []
  no-answer n src = (app-none _ _ (silent src n Reply)).0

  no-duty : (n : ℕ) → (good.status n).duty ≡ NoDuty
  no-duty n = go (n == home) refl
    where
      go : (c : Bool) → (n == home) ≡ c → (good.status n).duty ≡ NoDuty
      go true e = let same : home ≡ n = grind (arith, nat_tests) in subst (λ k. (good.status k).duty ≡ NoDuty) same good.at_home.off_duty
      go false e = silent-duty (good.status n).duty (rw (e, eqb-self home) at (silent home n Request)) (app-none (answer_part n (good.status home).carrier) _ (rw (eqb-self home) at (silent n home Reply))).1

  -- no line is pending
  pub quiet-header : is_pending line.header ≡ false
  quiet-header = idle home line.words line.header (line.copy home) (λ n. (good.status n).duty) (good.status home).carrier no-duty (no-answer home) good.unlisted good.phase good.header good.at_home.carrier (λ n far. (good.nodes n far).duty)

  -- nothing is begun
  pub quiet-want : (n : ℕ) → line.want n ≡ None
  quiet-want n = go (n == home) refl
    where
      asks : asking_part (good.status n).carrier ≡ []
      asks = (app-none (leaving_part (good.status n).leaving) _ (rw (eqb-self home) at (silent n home Request))).1

      go : (c : Bool) → (n == home) ≡ c → line.want n ≡ None
      go true e =
          let same : home ≡ n = grind (arith, nat_tests) in
          let rests : (good.status home).carrier ≡ Resting = resting-home home line.words good.phase line.header (line.copy home) _ good.header quiet-header good.at_home.carrier in
          subst (λ k. line.want k ≡ None) same (want-none (line.want home) (line.copy home) (good.status home).carrier good.at_home.carried (ap asking_part rests) (no-answer home) (rw rests tt))
      go false e =
          let far : n ≢ home = grind (arith, nat_tests) in
          let it = good.nodes n far in
          want-none (line.want n) (line.copy n) (good.status n).carrier it.carried asks (no-answer n) (usual-idle home line.words good.phase n line.header (line.copy home) _ good.header quiet-header it.waiting)
