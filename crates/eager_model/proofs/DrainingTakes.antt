-- Each message that is taken while a line drains: it meets a row, and the line stays good.
use Rattle.std.proofs.Common.{◌≡◌, ◌≢◌, ℕ, Bool, true, false, ◌==◌, List, ◌∷◌, ◌++◌, map, refl, arith, ap, sym, ◌∙◌, subst, inr}
use Rattle.std.proofs.lemmas.Bool.Decides.{nat_tests}
use Rattle.eager_model.specs.Types.{Class, Request, Reply}
use Rattle.line_invariant.specs.Types.{NakCause}
use Rattle.op_model.specs.Operations.{Words, is_load}
use Rattle.op_model.specs.Messages.{Content, Get, GetX, FwdGet, FwdGetX, Inv, Wb, Rpl, Put, PutX, Nak, InvAck, ShWb, FAck, Nakc}
use Rattle.op_model.specs.Lines.{Room, is_empty}
use Rattle.line_invariant.specs.Line.{share_of}
use Rattle.line_invariant.specs.Good.{Carrier, Resting, Asking, AskingX, Granted, Forwarded, Answered, Leaving, NotLeaving, WritesBack, Hints, IsAnswerTo, leaving_part, asking_part}
use Rattle.line_invariant.proofs.Public.{answered}
use Rattle.eager_model.specs.Rows.{meets}
use Rattle.eager_model.specs.Line.{AgedLine, after_take}
use Rattle.eager_model.specs.Good.{IsEagerGood, IsDraining, message_age}
use Rattle.eager_model.proofs.Acknowledgements as acked
use Rattle.eager_model.proofs.Acks.{good-ack, meets-ack}
use Rattle.eager_model.proofs.Hints.{good-hint, meets-rpl}
use Rattle.eager_model.proofs.DrainingFronts.{asks, asks-apart, owes-apart, acknowledges, told, answers}
use Rattle.eager_model.proofs.DrainingMeets.{meets-get, meets-getx, meets-inv, meets-put, meets-putx, meets-nak}
use Rattle.eager_model.proofs.DrainingAtHome.{good-get, good-getx, good-back, back-meets}
use Rattle.eager_model.proofs.DrainingAway.{good-inv, good-put, good-putx, good-nak}

-- which messages come to the home, and which to another node
pub data IsComing : Bool → Class → Content → Type 0 where
  get_comes : IsComing true Request Get
  getx_comes : IsComing true Request GetX
  wb_comes : (words : Words) → IsComing true Request (Wb words)
  rpl_comes : IsComing true Request Rpl
  ack_comes : IsComing true Reply InvAck
  inv_comes : IsComing false Request Inv
  put_comes : (words : Words) → IsComing false Reply (Put words)
  putx_comes : (words : Words) → IsComing false Reply (PutX words)
  nak_comes : (cause : NakCause) → IsComing false Reply (Nak cause)

request-comes : (leaving : Leaving) (carries : Carrier) (content : Content) (rest : List Content) → leaving_part leaving ++ asking_part carries ≡ content ∷ rest → IsComing true Request content
request-comes NotLeaving Resting content rest e = absurd (grind arith)
request-comes NotLeaving Asking content rest e = let is : Get ≡ content = grind arith in subst (λ c. IsComing true Request c) is get_comes
request-comes NotLeaving AskingX content rest e = let is : GetX ≡ content = grind arith in subst (λ c. IsComing true Request c) is getx_comes
request-comes NotLeaving Granted content rest e = absurd (grind arith)
request-comes NotLeaving (Forwarded write) content rest e = absurd (grind arith)
request-comes NotLeaving (Answered from has) content rest e = absurd (grind arith)
request-comes (WritesBack words) carries content rest e = let is : Wb words ≡ content = grind arith in subst (λ c. IsComing true Request c) is (wb_comes words)
request-comes Hints carries content rest e = let is : Rpl ≡ content = grind arith in subst (λ c. IsComing true Request c) is rpl_comes

answer-comes : (load : Bool) (content : Content) → IsAnswerTo load content → IsComing false Reply content
answer-comes load (Put words) is = put_comes words
answer-comes load (PutX words) is = putx_comes words
answer-comes load (Nak cause) is = nak_comes cause
answer-comes load Get is = absurd is
answer-comes load GetX is = absurd is
answer-comes load (FwdGet r) is = absurd is
answer-comes load (FwdGetX r) is = absurd is
answer-comes load Inv is = absurd is
answer-comes load (Wb words) is = absurd is
answer-comes load Rpl is = absurd is
answer-comes load InvAck is = absurd is
answer-comes load (ShWb words) is = absurd is
answer-comes load FAck is = absurd is
answer-comes load Nakc is = absurd is

module _ (home : ℕ) (line : AgedLine) (newest : line.words_at line.top ≡ line.line.words) (good : IsDraining home line) (from : ℕ) (content : Content) (rest : List Content) where
  pub coming : (to : ℕ) (class : Class) → line.line.lane from to class ≡ content ∷ rest → IsComing (to == home) class content
  coming to class front = go (to == home) refl class front
    where
      go : (b : Bool) → (to == home) ≡ b → (class : Class) → line.line.lane from to class ≡ content ∷ rest → IsComing b class content
      go true e Request front =
          let same : to ≡ home = grind (arith, nat_tests) in
          request-comes _ _ content rest (asks home line good from content rest (ap (λ t. line.line.lane from t Request) (sym same) ∙ front))
      go true e Reply front =
          let same : to ≡ home = grind (arith, nat_tests) in
          subst (λ c. IsComing true Reply c) (sym (acknowledges home line good from content rest (ap (λ t. line.line.lane from t Reply) (sym same) ∙ front))) ack_comes
      go false e Request front =
          let apart : to ≢ home = grind (arith, nat_tests) in
          subst (λ c. IsComing false Request c) (sym (told home line good from content rest to apart front).1) inv_comes
      go false e Reply front =
          let apart : to ≢ home = grind (arith, nat_tests) in
          let is = (answers home line good from content rest to apart front).0 in
          let op = answered (line.line.want to) (line.line.copy to) from content (rw is at (good.nodes to apart).carried) in
          answer-comes (is_load (op.0).kind) content op.3

module _ (home : ℕ) (line : AgedLine) (newest : line.words_at line.top ≡ line.line.words) (good : IsDraining home line) (from : ℕ) (rest : List Content) where
  met-home : (class : Class) (content : Content) → IsComing true class content → line.line.lane from home class ≡ content ∷ rest → meets home home from (is_empty (line.line.copy home)) content (share_of line.line home) ≡ true
  met-home class content get_comes front = meets-get home from (share_of line.line home) good.grantee good.header.waits (asks-apart home line good from Get rest front)
  met-home class content getx_comes front = meets-getx home from (share_of line.line home) good.grantee good.header.waits (asks-apart home line good from GetX rest front)
  met-home class content (wb_comes words) front = back-meets home line newest good from rest words front
  met-home class content rpl_comes front = meets-rpl home from (share_of line.line home)
  met-home class content ack_comes front =
      let first = good.ages.lanes from home Reply ∙ ap (λ ms. map (message_age line.top good.has from home) ms) front in
      meets-ack home from (share_of line.line home) good.grantee good.header.waits (acked.from home line newest good from (owes-apart home line good from InvAck rest front) rest _ _ front first).1

  met-away : (to : ℕ) → to ≢ home → (class : Class) (content : Content) → IsComing false class content → line.line.lane from to class ≡ content ∷ rest → meets to home from (is_empty (line.line.copy to)) content (share_of line.line to) ≡ true
  met-away to apart class content inv_comes front = meets-inv to home apart from (share_of line.line to)
  met-away to apart class content (put_comes words) front =
      let is = (answers home line good from (Put words) rest to apart front).0 in
      let op = answered (line.line.want to) (line.line.copy to) from (Put words) (rw is at (good.nodes to apart).carried) in
      meets-put to home apart from (share_of line.line to) op.0 op.1 op.2 words op.3 op.4
  met-away to apart class content (putx_comes words) front =
      let is = (answers home line good from (PutX words) rest to apart front).0 in
      let op = answered (line.line.want to) (line.line.copy to) from (PutX words) (rw is at (good.nodes to apart).carried) in
      meets-putx to home apart from (share_of line.line to) op.0 op.1 op.2 words op.3 op.4
  met-away to apart class content (nak_comes cause) front =
      let is = (answers home line good from (Nak cause) rest to apart front).0 in
      let op = answered (line.line.want to) (line.line.copy to) from (Nak cause) (rw is at (good.nodes to apart).carried) in
      meets-nak to home apart from (share_of line.line to) op.0 op.1 op.2 cause

  pub front-meets : (to : ℕ) (class : Class) (content : Content) → line.line.lane from to class ≡ content ∷ rest → meets to home from (is_empty (line.line.copy to)) content (share_of line.line to) ≡ true
  front-meets to class content front = go (to == home) refl (coming home line newest good from content rest to class front)
    where
      go : (b : Bool) → (to == home) ≡ b → IsComing b class content → meets to home from (is_empty (line.line.copy to)) content (share_of line.line to) ≡ true
      go true e comes =
          let same : home ≡ to = grind (arith, nat_tests) in
          subst (λ t. line.line.lane from t class ≡ content ∷ rest → meets t home from (is_empty (line.line.copy t)) content (share_of line.line t) ≡ true) same (met-home class content comes) front
      go false e comes = met-away to (grind (arith, nat_tests)) class content comes front

  module _ (age : ℕ) (ages : List ℕ) (room : Room) where
    kept-home : (class : Class) (content : Content) → IsComing true class content → line.line.lane from home class ≡ content ∷ rest → line.lane_age from home class ≡ age ∷ ages → IsEagerGood home (after_take home from home class content rest age ages room line)
    kept-home class content get_comes front first = good-get home line newest good from rest age ages room front first
    kept-home class content getx_comes front first = good-getx home line newest good from rest age ages room front first
    kept-home class content (wb_comes words) front first = good-back home line newest good from rest age ages room words front first
    kept-home class content rpl_comes front first = good-hint home line newest good from (asks-apart home line good from Rpl rest front) rest age ages room front first
    kept-home class content ack_comes front first = good-ack home line from (owes-apart home line good from InvAck rest front) rest age ages room front first (record { newest = newest; stands = inr good })

    kept-away : (to : ℕ) → to ≢ home → (class : Class) (content : Content) → IsComing false class content → line.line.lane from to class ≡ content ∷ rest → line.lane_age from to class ≡ age ∷ ages → IsEagerGood home (after_take home from to class content rest age ages room line)
    kept-away to apart class content inv_comes front first = good-inv home line newest good to apart from rest age ages room front first
    kept-away to apart class content (put_comes words) front first = good-put home line newest good to apart from rest age ages room words front first
    kept-away to apart class content (putx_comes words) front first = good-putx home line newest good to apart from rest age ages room words front first
    kept-away to apart class content (nak_comes cause) front first = good-nak home line newest good to apart from rest age ages room cause front first

    pub good-take : (to : ℕ) (class : Class) (content : Content) → line.line.lane from to class ≡ content ∷ rest → line.lane_age from to class ≡ age ∷ ages → IsEagerGood home (after_take home from to class content rest age ages room line)
    good-take to class content front first = go (to == home) refl (coming home line newest good from content rest to class front)
      where
        go : (b : Bool) → (to == home) ≡ b → IsComing b class content → IsEagerGood home (after_take home from to class content rest age ages room line)
        go true e comes =
            let same : home ≡ to = grind (arith, nat_tests) in
            subst (λ t. line.line.lane from t class ≡ content ∷ rest → line.lane_age from t class ≡ age ∷ ages → IsEagerGood home (after_take home from t class content rest age ages room line)) same (kept-home class content comes) front first
        go false e comes = kept-away to (grind (arith, nat_tests)) class content comes front first
