-- Every message that is taken keeps the line good, at any node.
-- The message at the front is one of those that a lane of its class can have there, and each has its row.
use Rattle.std.proofs.Common.{◌≡◌, ◌≢◌, ℕ, Bool, true, false, cond, ◌==◌, List, [], ◌∷◌, ◌++◌, refl, arith, ap, sym, ◌∙◌, subst}
use Rattle.std.proofs.lemmas.Bool.Decides.{nat_tests}
use Rattle.line_invariant.specs.Types.{Op, Class, Request, Reply}
use Rattle.op_model.specs.Nodes.{listed}
use Rattle.op_model.specs.Operations.{Words, is_load}
use Rattle.op_model.specs.Messages.{Content, Get, GetX, FwdGet, FwdGetX, Inv, Wb, Rpl, Put, PutX, Nak, InvAck, ShWb, FAck, Nakc}
use Rattle.op_model.specs.Lines.{Copy, Absent, Shared, Exclusive, Room, Outcome, For, sending, is_exclusive}
use Rattle.op_model.specs.Tables.Home.{on_wb, on_rpl, on_shwb, on_fack, on_nakc}
use Rattle.op_model.specs.Tables.Remote.{gone, on_nak}
use Rattle.op_model.proofs.Public.{eqb-self}
use Rattle.line_invariant.specs.Line.{Line, share_of, after_row, after_take, taken}
use Rattle.line_invariant.specs.Good.{Carrier, Answered, Leaving, Duty, NoDuty, ToGive, Returned, Handed, Asked, SharedOut, HandedOn, told_part, reply_part, leaving_part, asking_part, asked_role, IsGoodNode, IsGood, IsGoodHeader, IsAnswerTo}
use Rattle.line_invariant.specs.Rows.{wanting}
use Rattle.line_invariant.proofs.Fronts.{wb-comes, rpl-comes, answer-comes, ack-first, requests-only, told-only, replies-only, fwd-first, fwdx-first, shwb-first, fack-first, nakc-first, put-first, putx-first, nak-first, request-home, request-apart, reply-home, request-away}
use Rattle.line_invariant.proofs.Meets.{by-row, does-wb, does-rpl, does-shwb, does-fack, does-nakc, does-home-put, does-home-putx, does-home-nak, does-putx, does-fwd, does-fwdx, does-fwd-gone, does-fwdx-gone}
use Rattle.line_invariant.proofs.RemoteRows.{good-inv, good-nak, good-put, answered}
use Rattle.line_invariant.proofs.HomeRows.{good-get}
use Rattle.line_invariant.proofs.GetXRows.{good-getx}
use Rattle.line_invariant.proofs.AckRows.{good-ack}
use Rattle.line_invariant.proofs.ForwardLanes.{backs}
use Rattle.line_invariant.proofs.ForwardNodes.{asked-phase, node-holds}
use Rattle.line_invariant.proofs.ForwardRows.{good-gone, good-shared, good-handed}
use Rattle.line_invariant.proofs.BackRows.{returned-phase, handed-phase, refused-phase, good-shwb, good-fack, good-nakc}
use Rattle.line_invariant.proofs.LeaveRows.{good-wb, good-rpl, wb-meets, held-in, node-wrote-back}
use Rattle.line_invariant.proofs.AnswerRows.{good-putx, good-home-put, good-home-putx, good-home-nak, put-phase, putx-phase, nak-phase}

pub exclusive-words : (copy : Copy) → is_exclusive copy ≡ true → (has : Words) × (copy ≡ Exclusive has)
exclusive-words Absent e = cc
exclusive-words (Shared words) e = cc
exclusive-words (Exclusive words) e = (words, refl)

module _ (home : ℕ) (line : Line) (good : IsGood home line) (from : ℕ) (rest : List Content) (room : Room) where
  module _ (p : ℕ) (apart : p ≢ home) where
    good-fwd : (r : ℕ) → line.lane from p Request ≡ FwdGet r ∷ rest → IsGood home (after_take home from p Request (FwdGet r) rest room line)
    good-fwd r front =
        let away = request-away home line good from (FwdGet r) rest p apart front in
        let comes = fwd-first (good.status p).duty r rest away.1 in
        let asked = asked-phase home line.words good.phase p _ _ false r (good.nodes p apart).duty comes.0 in
        go asked.0 asked.1 away.0 comes.0 comes.1 (is_exclusive (line.copy p)) refl
      where
        go : (holds : Bool) → good.phase ≡ Asked false r p false holds → from ≡ home → (good.status p).duty ≡ ToGive false r → rest ≡ [] → (c : Bool) → is_exclusive (line.copy p) ≡ c → IsGood home (after_take home from p Request (FwdGet r) rest room line)
        go holds phase same duty empty false not_held =
            by-row home from p Request (FwdGet r) rest room line (gone home r (share_of line p)) (does-fwd-gone p home apart from room (share_of line p) r not_held)
            (subst (λ f. IsGood home (after_row home p (gone home r (share_of line p)) (record line { lane = taken f p Request rest line.lane }))) (sym same) (good-gone home line good p apart rest empty false r holds phase duty))
        go holds phase same duty empty true held =
            let words = exclusive-words (line.copy p) held in
            let it : IsGoodNode (asked_role holds (ToGive false r)) line.words (listed line.header.list p) (line.copy p) (line.want p) (good.status p) = rw (eqb-self p) at (rw phase at (good.nodes p apart)) in
            let is_held : holds ≡ true = node-holds line.words _ (line.copy p) (line.want p) (good.status p) holds (ToGive false r) it held in
            let out : Outcome = record { share = record (share_of line p) { copy = Shared words.0 }; sends = (r, Put words.0) ∷ backs home (cond (r == home) NoDuty (Returned words.0)); served = For r words.0; done = false } in
            by-row home from p Request (FwdGet r) rest room line out (does-fwd p home apart from room (share_of line p) r words.0 words.1)
            (subst (λ f. IsGood home (after_row home p out (record line { lane = taken f p Request rest line.lane }))) (sym same) (good-shared home line good p apart rest empty r words.0 words.1 (phase ∙ ap (Asked false r p false) is_held) duty _ refl))

    good-fwdx : (r : ℕ) → line.lane from p Request ≡ FwdGetX r ∷ rest → IsGood home (after_take home from p Request (FwdGetX r) rest room line)
    good-fwdx r front =
        let away = request-away home line good from (FwdGetX r) rest p apart front in
        let comes = fwdx-first (good.status p).duty r rest away.1 in
        let asked = asked-phase home line.words good.phase p _ _ true r (good.nodes p apart).duty comes.0 in
        go asked.0 asked.1 away.0 comes.0 comes.1 (is_exclusive (line.copy p)) refl
      where
        go : (holds : Bool) → good.phase ≡ Asked true r p false holds → from ≡ home → (good.status p).duty ≡ ToGive true r → rest ≡ [] → (c : Bool) → is_exclusive (line.copy p) ≡ c → IsGood home (after_take home from p Request (FwdGetX r) rest room line)
        go holds phase same duty empty false not_held =
            by-row home from p Request (FwdGetX r) rest room line (gone home r (share_of line p)) (does-fwdx-gone p home apart from room (share_of line p) r not_held)
            (subst (λ f. IsGood home (after_row home p (gone home r (share_of line p)) (record line { lane = taken f p Request rest line.lane }))) (sym same) (good-gone home line good p apart rest empty true r holds phase duty))
        go holds phase same duty empty true held =
            let words = exclusive-words (line.copy p) held in
            let it : IsGoodNode (asked_role holds (ToGive true r)) line.words (listed line.header.list p) (line.copy p) (line.want p) (good.status p) = rw (eqb-self p) at (rw phase at (good.nodes p apart)) in
            let is_held : holds ≡ true = node-holds line.words _ (line.copy p) (line.want p) (good.status p) holds (ToGive true r) it held in
            let out : Outcome = sending (record (share_of line p) { copy = Absent }) ((r, PutX words.0) ∷ backs home (cond (r == home) NoDuty Handed)) in
            by-row home from p Request (FwdGetX r) rest room line out (does-fwdx p home apart from room (share_of line p) r words.0 words.1)
            (subst (λ f. IsGood home (after_row home p out (record line { lane = taken f p Request rest line.lane }))) (sym same) (good-handed home line good p apart rest empty r words.0 words.1 (phase ∙ ap (Asked true r p false) is_held) duty _ refl))

    good-given : (words : Words) → line.lane from p Reply ≡ PutX words ∷ rest → IsGood home (after_take home from p Reply (PutX words) rest room line)
    good-given words front =
        let comes = answer-comes home line good p apart rest from (PutX words) front in
        let it = good.nodes p apart in
        let op = answered (line.want p) (line.copy p) from (PutX words) (rw comes.0 at it.carried) in
        by-row home from p Reply (PutX words) rest room line _ (does-putx p home apart from room (share_of line p) words op.0 op.1 op.2 op.3 op.4)
        (good-putx home line good rest p apart from words op.0 op.1 comes.1 comes.0 op.2)

    -- no other message comes to a node that isn't the home
    no-reply : (content : Content) → line.lane from p Reply ≡ content ∷ rest → (load : Bool) × IsAnswerTo load content
    no-reply content front =
        let comes = answer-comes home line good p apart rest from content front in
        let it = good.nodes p apart in
        let op = answered (line.want p) (line.copy p) from content (rw comes.0 at it.carried) in
        (is_load (op.0).kind, op.3)

    good-away-request : (content : Content) → line.lane from p Request ≡ content ∷ rest → IsGood home (after_take home from p Request content rest room line)
    good-away-request Inv front = good-inv home line good p apart rest room from front
    good-away-request (FwdGet r) front = good-fwd r front
    good-away-request (FwdGetX r) front = good-fwdx r front
    good-away-request Get front = let t = (request-away home line good from Get rest p apart front).1 in let d = (good.status p).duty in absurd (told-not Get (good.status p).duty rest t)
      where
        told-not : (content : Content) (duty : Duty) (rest : List Content) → told_part duty ≡ Get ∷ rest → ⊥
        told-not content duty rest e = grind arith
    good-away-request GetX front = absurd (told-not (good.status p).duty (request-away home line good from GetX rest p apart front).1)
      where
        told-not : (duty : Duty) → told_part duty ≡ GetX ∷ rest → ⊥
        told-not duty e = grind arith
    good-away-request (Wb words) front = absurd (told-not (good.status p).duty (request-away home line good from (Wb words) rest p apart front).1)
      where
        told-not : (duty : Duty) → told_part duty ≡ Wb words ∷ rest → ⊥
        told-not duty e = grind arith
    good-away-request Rpl front = absurd (told-not (good.status p).duty (request-away home line good from Rpl rest p apart front).1)
      where
        told-not : (duty : Duty) → told_part duty ≡ Rpl ∷ rest → ⊥
        told-not duty e = grind arith
    good-away-request (Put words) front = let c = told-only (good.status p).duty _ rest (request-away home line good from (Put words) rest p apart front).1 in cc
    good-away-request (PutX words) front = let c = told-only (good.status p).duty _ rest (request-away home line good from (PutX words) rest p apart front).1 in cc
    good-away-request (Nak cause) front = let c = told-only (good.status p).duty _ rest (request-away home line good from (Nak cause) rest p apart front).1 in cc
    good-away-request InvAck front = let c = told-only (good.status p).duty _ rest (request-away home line good from InvAck rest p apart front).1 in cc
    good-away-request (ShWb words) front = let c = told-only (good.status p).duty _ rest (request-away home line good from (ShWb words) rest p apart front).1 in cc
    good-away-request FAck front = let c = told-only (good.status p).duty _ rest (request-away home line good from FAck rest p apart front).1 in cc
    good-away-request Nakc front = let c = told-only (good.status p).duty _ rest (request-away home line good from Nakc rest p apart front).1 in cc

    good-away-reply : (content : Content) → line.lane from p Reply ≡ content ∷ rest → IsGood home (after_take home from p Reply content rest room line)
    good-away-reply (Put words) front = good-put home line good p apart rest room from words front
    good-away-reply (PutX words) front = good-given words front
    good-away-reply (Nak cause) front = good-nak home line good p apart rest room from cause front
    good-away-reply Get front = absurd (no-reply Get front).1
    good-away-reply GetX front = absurd (no-reply GetX front).1
    good-away-reply (FwdGet r) front = absurd (no-reply (FwdGet r) front).1
    good-away-reply (FwdGetX r) front = absurd (no-reply (FwdGetX r) front).1
    good-away-reply Inv front = absurd (no-reply Inv front).1
    good-away-reply (Wb words) front = absurd (no-reply (Wb words) front).1
    good-away-reply Rpl front = absurd (no-reply Rpl front).1
    good-away-reply InvAck front = absurd (no-reply InvAck front).1
    good-away-reply (ShWb words) front = absurd (no-reply (ShWb words) front).1
    good-away-reply FAck front = absurd (no-reply FAck front).1
    good-away-reply Nakc front = absurd (no-reply Nakc front).1

  -- the operation that the home is answered
  pub home-op : (content : Content) → (good.status home).carrier ≡ Answered from content → (op : Op) × (marked : Bool) × (line.want home ≡ wanting op marked) × IsAnswerTo (is_load op.kind) content × (line.copy home ≡ Absent)
  home-op content is = answered (line.want home) (line.copy home) from content (rw is at good.at_home.carried)

  good-home-request : (content : Content) → line.lane from home Request ≡ content ∷ rest → IsGood home (after_take home from home Request content rest room line)
  good-home-request Get front = good-get home line good from (request-apart home line good from Get rest front) rest room front
  good-home-request GetX front = good-getx home line good from (request-apart home line good from GetX rest front) rest room front
  good-home-request (Wb words) front =
      let apart = request-apart home line good from (Wb words) rest front in
      let comes = wb-comes home line good from apart rest words front in
      let it = node-wrote-back line.words _ (line.copy from) (line.want from) (good.status from) _ words (good.nodes from apart) comes.0 in
      let meets = wb-meets home good.phase line.words line.header (line.copy home) from good.header good.local (held-in home line.words good.phase from it.0) in
      by-row home from home Request (Wb words) rest room line (on_wb words (share_of line home)) (does-wb home from room (share_of line home) words meets.0 meets.1 meets.2)
      (good-wb home line good from apart rest comes.1 words comes.0)
  good-home-request Rpl front =
      let apart = request-apart home line good from Rpl rest front in
      let comes = rpl-comes home line good from apart rest front in
      by-row home from home Request Rpl rest room line (on_rpl from (share_of line home)) (does-rpl home from room (share_of line home)) (good-rpl home line good from apart rest comes.1 comes.0)
  good-home-request Inv front = absurd (no-such (good.status from).leaving (good.status from).carrier (request-home home line good from Inv rest front))
    where
      no-such : (leaving : Leaving) (carries : Carrier) → leaving_part leaving ++ asking_part carries ≡ Inv ∷ rest → ⊥
      no-such leaving carries e = grind arith
  good-home-request (FwdGet r) front = absurd (no-such (good.status from).leaving (good.status from).carrier (request-home home line good from (FwdGet r) rest front))
    where
      no-such : (leaving : Leaving) (carries : Carrier) → leaving_part leaving ++ asking_part carries ≡ FwdGet r ∷ rest → ⊥
      no-such leaving carries e = grind arith
  good-home-request (FwdGetX r) front = absurd (no-such (good.status from).leaving (good.status from).carrier (request-home home line good from (FwdGetX r) rest front))
    where
      no-such : (leaving : Leaving) (carries : Carrier) → leaving_part leaving ++ asking_part carries ≡ FwdGetX r ∷ rest → ⊥
      no-such leaving carries e = grind arith
  good-home-request (Put words) front = let c = requests-only (good.status from).leaving (good.status from).carrier _ rest (request-home home line good from (Put words) rest front) in cc
  good-home-request (PutX words) front = let c = requests-only (good.status from).leaving (good.status from).carrier _ rest (request-home home line good from (PutX words) rest front) in cc
  good-home-request (Nak cause) front = let c = requests-only (good.status from).leaving (good.status from).carrier _ rest (request-home home line good from (Nak cause) rest front) in cc
  good-home-request InvAck front = let c = requests-only (good.status from).leaving (good.status from).carrier _ rest (request-home home line good from InvAck rest front) in cc
  good-home-request (ShWb words) front = let c = requests-only (good.status from).leaving (good.status from).carrier _ rest (request-home home line good from (ShWb words) rest front) in cc
  good-home-request FAck front = let c = requests-only (good.status from).leaving (good.status from).carrier _ rest (request-home home line good from FAck rest front) in cc
  good-home-request Nakc front = let c = requests-only (good.status from).leaving (good.status from).carrier _ rest (request-home home line good from Nakc rest front) in cc

  -- a reply of duty doesn't come from the home itself
  pub duty-apart : (content : Content) → reply_part (good.status from).duty ≡ content ∷ [] → from ≢ home
  duty-apart content e same = let off = good.at_home.off_duty in let is : reply_part (good.status home).duty ≡ content ∷ [] = ap (λ k. reply_part (good.status k).duty) (sym same) ∙ e in let none : reply_part (good.status home).duty ≡ [] = rw off in let n : [] ≡ content ∷ [] = sym none ∙ is in cc

  good-home-reply : (content : Content) → line.lane from home Reply ≡ content ∷ rest → IsGood home (after_take home from home Reply content rest room line)
  good-home-reply InvAck front =
      let is = reply-home home line good from InvAck rest front in
      let first = ack-first from _ _ _ (good.status from).duty rest good.at_home.carried is in
      good-ack home line good from (duty-apart InvAck (rw first.1)) rest room front
  good-home-reply (ShWb words) front =
      let first = shwb-first from _ _ _ (good.status from).duty words rest good.at_home.carried (reply-home home line good from (ShWb words) rest front) in
      let apart = duty-apart (ShWb words) (rw first.1) in
      let phase = returned-phase home line.words good.phase from _ _ words (good.nodes from apart).duty first.1 in
      let header : IsGoodHeader home (SharedOut phase.0 from) line.words line.header (line.copy home) = rw phase.1 at good.header in
      by-row home from home Reply (ShWb words) rest room line (on_shwb words (share_of line home)) (does-shwb home from room (share_of line home) words phase.0 header.0 phase.2)
      (good-shwb home line good from apart rest first.2 first.0 phase.0 words phase.1 phase.2 phase.3 first.1)
  good-home-reply FAck front =
      let first = fack-first from _ _ _ (good.status from).duty rest good.at_home.carried (reply-home home line good from FAck rest front) in
      let apart = duty-apart FAck (rw first.1) in
      let phase = handed-phase home line.words good.phase from _ _ (good.nodes from apart).duty first.1 in
      let header : IsGoodHeader home (HandedOn phase.0 from phase.1) line.words line.header (line.copy home) = rw phase.2 at good.header in
      by-row home from home Reply FAck rest room line (on_fack (share_of line home)) (does-fack home from room (share_of line home) phase.0 header.0 phase.3)
      (good-fack home line good from apart rest first.2 first.0 phase.0 phase.1 phase.2 phase.3 first.1)
  good-home-reply Nakc front =
      let first = nakc-first from _ _ _ (good.status from).duty rest good.at_home.carried (reply-home home line good from Nakc rest front) in
      let apart = duty-apart Nakc (rw first.1) in
      let phase = refused-phase home line.words good.phase from _ _ (good.nodes from apart).duty first.1 in
      let header : IsGoodHeader home (Asked phase.0 phase.1 from true phase.2) line.words line.header (line.copy home) = rw phase.3 at good.header in
      by-row home from home Reply Nakc rest room line (on_nakc (share_of line home)) (does-nakc home from room (share_of line home) phase.0 phase.1 header.0)
      (good-nakc home line good from apart rest first.2 first.0 phase.0 phase.1 phase.2 phase.3 first.1)
  good-home-reply (Put words) front =
      let first = put-first from (good.status home).carrier (good.status from).duty words rest (reply-home home line good from (Put words) rest front) in
      let op = home-op (Put words) first.0 in
      let phase = put-phase home line.words good.phase _ from words good.at_home.carrier first.0 in
      let header : IsGoodHeader home (SharedOut home from) line.words line.header (line.copy home) = rw phase.0 at good.header in
      by-row home from home Reply (Put words) rest room line _ (does-home-put home from room (share_of line home) words op.0 op.1 op.2 op.3 op.4 header.0)
      (good-home-put home line good rest from words first.1 first.0)
  good-home-reply (PutX words) front =
      let first = putx-first from (good.status home).carrier (good.status from).duty words rest (reply-home home line good from (PutX words) rest front) in
      let op = home-op (PutX words) first.0 in
      let phase = putx-phase home line.words good.phase _ from words good.at_home.carrier first.0 in
      let header : IsGoodHeader home (HandedOn home from phase.0) line.words line.header (line.copy home) = rw phase.1 at good.header in
      by-row home from home Reply (PutX words) rest room line _ (does-home-putx home from room (share_of line home) words op.0 op.1 op.2 op.3 op.4 header.0)
      (good-home-putx home line good rest from words op.0 op.1 first.1 first.0 op.2)
  good-home-reply (Nak cause) front =
      let first = nak-first from (good.status home).carrier (good.status from).duty cause rest (reply-home home line good from (Nak cause) rest front) in
      let op = home-op (Nak cause) first.0 in
      let phase = nak-phase home line.words good.phase _ from cause good.at_home.carrier first.0 in
      let header : IsGoodHeader home (Asked phase.0 home from true phase.1) line.words line.header (line.copy home) = rw phase.2 at good.header in
      by-row home from home Reply (Nak cause) rest room line (on_nak (share_of line home)) (does-home-nak home from room (share_of line home) cause phase.0 op.0 op.1 op.2 header.0)
      (good-home-nak home line good rest from cause first.1 first.0)
  good-home-reply Get front = let c = replies-only from _ _ (good.status home).carrier (good.status from).duty _ rest good.at_home.carried (reply-home home line good from Get rest front) in cc
  good-home-reply GetX front = let c = replies-only from _ _ (good.status home).carrier (good.status from).duty _ rest good.at_home.carried (reply-home home line good from GetX rest front) in cc
  good-home-reply (FwdGet r) front = let c = replies-only from _ _ (good.status home).carrier (good.status from).duty _ rest good.at_home.carried (reply-home home line good from (FwdGet r) rest front) in cc
  good-home-reply (FwdGetX r) front = let c = replies-only from _ _ (good.status home).carrier (good.status from).duty _ rest good.at_home.carried (reply-home home line good from (FwdGetX r) rest front) in cc
  good-home-reply Inv front = let c = replies-only from _ _ (good.status home).carrier (good.status from).duty _ rest good.at_home.carried (reply-home home line good from Inv rest front) in cc
  good-home-reply (Wb words) front = let c = replies-only from _ _ (good.status home).carrier (good.status from).duty _ rest good.at_home.carried (reply-home home line good from (Wb words) rest front) in cc
  good-home-reply Rpl front = let c = replies-only from _ _ (good.status home).carrier (good.status from).duty _ rest good.at_home.carried (reply-home home line good from Rpl rest front) in cc

  -- any message, at any node
  pub good-take : (to : ℕ) (class : Class) (content : Content) → line.lane from to class ≡ content ∷ rest → IsGood home (after_take home from to class content rest room line)
  good-take to class content front = go (to == home) refl class front
    where
      go : (c : Bool) → (to == home) ≡ c → (class : Class) → line.lane from to class ≡ content ∷ rest → IsGood home (after_take home from to class content rest room line)
      go true e Request front = let same : home ≡ to = grind (arith, nat_tests) in subst (λ t. line.lane from t Request ≡ content ∷ rest → IsGood home (after_take home from t Request content rest room line)) same (good-home-request content) front
      go true e Reply front = let same : home ≡ to = grind (arith, nat_tests) in subst (λ t. line.lane from t Reply ≡ content ∷ rest → IsGood home (after_take home from t Reply content rest room line)) same (good-home-reply content) front
      go false e Request front = let apart : to ≢ home = grind (arith, nat_tests) in good-away-request to apart content front
      go false e Reply front = let apart : to ≢ home = grind (arith, nat_tests) in good-away-reply to apart content front
