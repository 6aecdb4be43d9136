-- The message at the front of a lane meets a row.
-- What is under way tells the phase, and the phase the facts that the row asks for.
use Rattle.std.proofs.Common.{◌≡◌, ◌≢◌, ℕ, Bool, true, false, cond, ◌==◌, ◌&&◌, not, List, [], ◌∷◌, ◌++◌, refl, arith, ap, sym, ◌∙◌, subst}
use Rattle.std.proofs.lemmas.Bool.{ne_eqb}
use Rattle.std.proofs.lemmas.Bool.Decides.{nat_tests}
use Rattle.line_invariant.specs.Types.{Op, Grantee, Invalidate, ForwardGet, ForwardGetX, NakCause, Class, Request, Reply}
use Rattle.op_model.specs.Nodes.{listed}
use Rattle.op_model.specs.Operations.{Words, is_load}
use Rattle.op_model.specs.Messages.{Content, Get, GetX, FwdGet, FwdGetX, Inv, Wb, Rpl, Put, PutX, Nak, InvAck, ShWb, FAck, Nakc}
use Rattle.op_model.specs.Lines.{Absent, LineShare, is_empty, is_idle}
use Rattle.op_model.specs.Tables.Remote.{meets, asks_well, is_invalidate}
use Rattle.op_model.proofs.Public.{eqb-self}
use Rattle.line_invariant.specs.Line.{Line, share_of}
use Rattle.line_invariant.specs.Good.{Carrier, Answered, Leaving, Duty, Called, Asked, SharedOut, HandedOn, told_part, reply_part, leaving_part, asking_part, IsGood, IsGoodHeader, IsAnswerTo}
use Rattle.line_invariant.specs.Rows.{wanting}
use Rattle.line_invariant.proofs.Fronts.{get-comes, getx-comes, wb-comes, ack-first, answer-comes, requests-only, told-only, replies-only, shwb-first, fack-first, nakc-first, put-first, putx-first, nak-first, request-home, request-apart, reply-home, request-away}
use Rattle.line_invariant.proofs.RemoteRows.{answered}
use Rattle.line_invariant.proofs.HomeRows.{not-owner}
use Rattle.line_invariant.proofs.AckRows.{called-phase}
use Rattle.line_invariant.proofs.BackRows.{returned-phase, handed-phase, refused-phase}
use Rattle.line_invariant.proofs.LeaveRows.{wb-meets, held-in, node-wrote-back}
use Rattle.line_invariant.proofs.AnswerRows.{put-phase, putx-phase, nak-phase}

-- by the facts of its row
abbrev Meets : ℕ → ℕ → ℕ → Content → LineShare → Type 0
Meets me home from content share = meets me home from (is_empty share.copy) content share ≡ true

module _ (p home : ℕ) (apart : p ≢ home) (from : ℕ) (share : LineShare) where
  meets-inv : Meets p home from Inv share
  unfolding meets
  meets-inv = simp (ne_eqb p home apart)

  meets-fwd : (r : ℕ) → Meets p home from (FwdGet r) share
  unfolding meets
  meets-fwd r = simp (ne_eqb p home apart)

  meets-fwdx : (r : ℕ) → Meets p home from (FwdGetX r) share
  unfolding meets
  meets-fwdx r = simp (ne_eqb p home apart)

  meets-nak : (cause : NakCause) (op : Op) (marked : Bool) → share.want ≡ wanting op marked → Meets p home from (Nak cause) share
  unfolding meets
  meets-nak cause op marked wants = simp (ne_eqb p home apart, wants)

  meets-put : (words : Words) (op : Op) (marked : Bool) → share.want ≡ wanting op marked → is_load op.kind ≡ true → share.copy ≡ Absent → Meets p home from (Put words) share
  unfolding meets
  meets-put words op marked wants load empty = simp (ne_eqb p home apart, wants, load, empty)

  meets-putx : (words : Words) (op : Op) (marked : Bool) → share.want ≡ wanting op marked → is_load op.kind ≡ false → share.copy ≡ Absent → Meets p home from (PutX words) share
  unfolding meets
  meets-putx words op marked wants write empty = simp (ne_eqb p home apart, wants, write, empty)

module _ (home from : ℕ) (share : LineShare) where
  asks-well : (idle dirty local lists : Bool) → (idle ≡ true → dirty ≡ true → local ≡ false → lists ≡ false) → not (idle && dirty && not local && lists) ≡ true
  asks-well idle dirty local lists h = grind arith

  meets-get : from ≢ home → (is_idle share.header.wait ≡ true → share.header.dirty ≡ true → share.header.local ≡ false → listed share.header.list from ≡ false) → Meets home home from Get share
  unfolding meets
  meets-get apart strange =
      let well : asks_well from share.header ≡ true = asks-well (is_idle share.header.wait) share.header.dirty share.header.local (listed share.header.list from) strange in
      simp (eqb-self home, ne_eqb from home apart, well)

  meets-getx : from ≢ home → (is_idle share.header.wait ≡ true → share.header.dirty ≡ true → share.header.local ≡ false → listed share.header.list from ≡ false) → Meets home home from GetX share
  unfolding meets
  meets-getx apart strange =
      let well : asks_well from share.header ≡ true = asks-well (is_idle share.header.wait) share.header.dirty share.header.local (listed share.header.list from) strange in
      simp (eqb-self home, ne_eqb from home apart, well)

  meets-ack : (grantee : Grantee) → share.header.wait ≡ Invalidate grantee → listed share.header.list from ≡ true → Meets home home from InvAck share
  unfolding meets
  meets-ack grantee waits has = simp (eqb-self home, waits, has)

  meets-wb : (words : Words) → share.header.dirty ≡ true → share.header.local ≡ false → is_invalidate share.header.wait ≡ false → Meets home home from (Wb words) share
  unfolding meets
  meets-wb words dirty away calm = simp (eqb-self home, dirty, away, calm)

  meets-rpl : Meets home home from Rpl share
  unfolding meets
  meets-rpl = simp (eqb-self home)

  meets-shwb : (words : Words) (r : ℕ) → share.header.wait ≡ ForwardGet r → r ≢ home → Meets home home from (ShWb words) share
  unfolding meets
  meets-shwb words r waits far = simp (eqb-self home, waits, ne_eqb r home far)

  meets-fack : (r : ℕ) → share.header.wait ≡ ForwardGetX r → r ≢ home → Meets home home from FAck share
  unfolding meets
  meets-fack r waits far = simp (eqb-self home, waits, ne_eqb r home far)

  meets-nakc : (w : Bool) (r : ℕ) → share.header.wait ≡ cond w (ForwardGetX r) (ForwardGet r) → Meets home home from Nakc share
  unfolding meets
  meets-nakc true r waits = simp (eqb-self home, waits)
  meets-nakc false r waits = simp (eqb-self home, waits)

  meets-home-put : (words : Words) (op : Op) (marked : Bool) → share.want ≡ wanting op marked → is_load op.kind ≡ true → share.copy ≡ Absent → share.header.wait ≡ ForwardGet home → Meets home home from (Put words) share
  unfolding meets
  meets-home-put words op marked wants load empty waits = simp (eqb-self home, wants, load, empty, waits)

  meets-home-putx : (words : Words) (op : Op) (marked : Bool) → share.want ≡ wanting op marked → is_load op.kind ≡ false → share.copy ≡ Absent → share.header.wait ≡ ForwardGetX home → Meets home home from (PutX words) share
  unfolding meets
  meets-home-putx words op marked wants write empty waits = simp (eqb-self home, wants, write, empty, waits)

  meets-home-nak : (cause : NakCause) (w : Bool) (op : Op) (marked : Bool) → share.want ≡ wanting op marked → share.header.wait ≡ cond w (ForwardGetX home) (ForwardGet home) → Meets home home from (Nak cause) share
  unfolding meets
  meets-home-nak cause true op marked wants waits = simp (eqb-self home, wants, waits)
  meets-home-nak cause false op marked wants waits = simp (eqb-self home, wants, waits)

module _ (home : ℕ) (line : Line) (good : IsGood home line) (from : ℕ) (rest : List Content) where
  module _ (p : ℕ) (apart : p ≢ home) where
    -- no other message comes to a node that isn't the home
    no-reply : (content : Content) → line.lane from p Reply ≡ content ∷ rest → (load : Bool) × IsAnswerTo load content
    no-reply content front =
        let comes = answer-comes home line good p apart rest from content front in
        let it = good.nodes p apart in
        let op = answered (line.want p) (line.copy p) from content (rw comes.0 at it.carried) in
        (is_load (op.0).kind, op.3)

    meets-away-request : (content : Content) → line.lane from p Request ≡ content ∷ rest → Meets p home from content (share_of line p)
    meets-away-request Inv front = meets-inv p home apart from (share_of line p)
    meets-away-request (FwdGet r) front = meets-fwd p home apart from (share_of line p) r
    meets-away-request (FwdGetX r) front = meets-fwdx p home apart from (share_of line p) r
    meets-away-request Get front = let t = (request-away home line good from Get rest p apart front).1 in let d = (good.status p).duty in absurd (told-not Get (good.status p).duty rest t)
      where
        told-not : (content : Content) (duty : Duty) (rest : List Content) → told_part duty ≡ Get ∷ rest → ⊥
        told-not content duty rest e = grind arith
    meets-away-request GetX front = absurd (told-not (good.status p).duty (request-away home line good from GetX rest p apart front).1)
      where
        told-not : (duty : Duty) → told_part duty ≡ GetX ∷ rest → ⊥
        told-not duty e = grind arith
    meets-away-request (Wb words) front = absurd (told-not (good.status p).duty (request-away home line good from (Wb words) rest p apart front).1)
      where
        told-not : (duty : Duty) → told_part duty ≡ Wb words ∷ rest → ⊥
        told-not duty e = grind arith
    meets-away-request Rpl front = absurd (told-not (good.status p).duty (request-away home line good from Rpl rest p apart front).1)
      where
        told-not : (duty : Duty) → told_part duty ≡ Rpl ∷ rest → ⊥
        told-not duty e = grind arith
    meets-away-request (Put words) front = let c = told-only (good.status p).duty _ rest (request-away home line good from (Put words) rest p apart front).1 in cc
    meets-away-request (PutX words) front = let c = told-only (good.status p).duty _ rest (request-away home line good from (PutX words) rest p apart front).1 in cc
    meets-away-request (Nak cause) front = let c = told-only (good.status p).duty _ rest (request-away home line good from (Nak cause) rest p apart front).1 in cc
    meets-away-request InvAck front = let c = told-only (good.status p).duty _ rest (request-away home line good from InvAck rest p apart front).1 in cc
    meets-away-request (ShWb words) front = let c = told-only (good.status p).duty _ rest (request-away home line good from (ShWb words) rest p apart front).1 in cc
    meets-away-request FAck front = let c = told-only (good.status p).duty _ rest (request-away home line good from FAck rest p apart front).1 in cc
    meets-away-request Nakc front = let c = told-only (good.status p).duty _ rest (request-away home line good from Nakc rest p apart front).1 in cc

    meets-away-reply : (content : Content) → line.lane from p Reply ≡ content ∷ rest → Meets p home from content (share_of line p)
    meets-away-reply (Put words) front =
        let comes = answer-comes home line good p apart rest from (Put words) front in
        let op = answered (line.want p) (line.copy p) from (Put words) (rw comes.0 at (good.nodes p apart).carried) in
        meets-put p home apart from (share_of line p) words op.0 op.1 op.2 op.3 op.4
    meets-away-reply (PutX words) front =
        let comes = answer-comes home line good p apart rest from (PutX words) front in
        let op = answered (line.want p) (line.copy p) from (PutX words) (rw comes.0 at (good.nodes p apart).carried) in
        meets-putx p home apart from (share_of line p) words op.0 op.1 op.2 op.3 op.4
    meets-away-reply (Nak cause) front =
        let comes = answer-comes home line good p apart rest from (Nak cause) front in
        let op = answered (line.want p) (line.copy p) from (Nak cause) (rw comes.0 at (good.nodes p apart).carried) in
        meets-nak p home apart from (share_of line p) cause op.0 op.1 op.2
    meets-away-reply Get front = absurd (no-reply Get front).1
    meets-away-reply GetX front = absurd (no-reply GetX front).1
    meets-away-reply (FwdGet r) front = absurd (no-reply (FwdGet r) front).1
    meets-away-reply (FwdGetX r) front = absurd (no-reply (FwdGetX r) front).1
    meets-away-reply Inv front = absurd (no-reply Inv front).1
    meets-away-reply (Wb words) front = absurd (no-reply (Wb words) front).1
    meets-away-reply Rpl front = absurd (no-reply Rpl front).1
    meets-away-reply InvAck front = absurd (no-reply InvAck front).1
    meets-away-reply (ShWb words) front = absurd (no-reply (ShWb words) front).1
    meets-away-reply FAck front = absurd (no-reply FAck front).1
    meets-away-reply Nakc front = absurd (no-reply Nakc front).1

  -- the operation that the home is answered
  pub home-op : (content : Content) → (good.status home).carrier ≡ Answered from content → (op : Op) × (marked : Bool) × (line.want home ≡ wanting op marked) × IsAnswerTo (is_load op.kind) content × (line.copy home ≡ Absent)
  home-op content is = answered (line.want home) (line.copy home) from content (rw is at good.at_home.carried)

  home-request : (content : Content) → line.lane from home Request ≡ content ∷ rest → Meets home home from content (share_of line home)
  home-request Get front =
      let apart = request-apart home line good from Get rest front in
      let comes = get-comes home line good from apart rest front in
      meets-get home from (share_of line home) apart (not-owner home good.phase line.words line.header (line.copy home) (line.copy from) from (line.want from) (good.status from) true good.header good.local (good.nodes from apart) comes.1 comes.0)
  home-request GetX front =
      let apart = request-apart home line good from GetX rest front in
      let comes = getx-comes home line good from apart rest front in
      meets-getx home from (share_of line home) apart (not-owner home good.phase line.words line.header (line.copy home) (line.copy from) from (line.want from) (good.status from) false good.header good.local (good.nodes from apart) comes.1 comes.0)
  home-request (Wb words) front =
      let apart = request-apart home line good from (Wb words) rest front in
      let comes = wb-comes home line good from apart rest words front in
      let it = node-wrote-back line.words _ (line.copy from) (line.want from) (good.status from) _ words (good.nodes from apart) comes.0 in
      let meets = wb-meets home good.phase line.words line.header (line.copy home) from good.header good.local (held-in home line.words good.phase from it.0) in
      meets-wb home from (share_of line home) words meets.0 meets.1 meets.2
  home-request Rpl front = meets-rpl home from (share_of line home)
  home-request Inv front = absurd (no-such (good.status from).leaving (good.status from).carrier (request-home home line good from Inv rest front))
    where
      no-such : (leaving : Leaving) (carries : Carrier) → leaving_part leaving ++ asking_part carries ≡ Inv ∷ rest → ⊥
      no-such leaving carries e = grind arith
  home-request (FwdGet r) front = absurd (no-such (good.status from).leaving (good.status from).carrier (request-home home line good from (FwdGet r) rest front))
    where
      no-such : (leaving : Leaving) (carries : Carrier) → leaving_part leaving ++ asking_part carries ≡ FwdGet r ∷ rest → ⊥
      no-such leaving carries e = grind arith
  home-request (FwdGetX r) front = absurd (no-such (good.status from).leaving (good.status from).carrier (request-home home line good from (FwdGetX r) rest front))
    where
      no-such : (leaving : Leaving) (carries : Carrier) → leaving_part leaving ++ asking_part carries ≡ FwdGetX r ∷ rest → ⊥
      no-such leaving carries e = grind arith
  home-request (Put words) front = let c = requests-only (good.status from).leaving (good.status from).carrier _ rest (request-home home line good from (Put words) rest front) in cc
  home-request (PutX words) front = let c = requests-only (good.status from).leaving (good.status from).carrier _ rest (request-home home line good from (PutX words) rest front) in cc
  home-request (Nak cause) front = let c = requests-only (good.status from).leaving (good.status from).carrier _ rest (request-home home line good from (Nak cause) rest front) in cc
  home-request InvAck front = let c = requests-only (good.status from).leaving (good.status from).carrier _ rest (request-home home line good from InvAck rest front) in cc
  home-request (ShWb words) front = let c = requests-only (good.status from).leaving (good.status from).carrier _ rest (request-home home line good from (ShWb words) rest front) in cc
  home-request FAck front = let c = requests-only (good.status from).leaving (good.status from).carrier _ rest (request-home home line good from FAck rest front) in cc
  home-request Nakc front = let c = requests-only (good.status from).leaving (good.status from).carrier _ rest (request-home home line good from Nakc rest front) in cc

  -- a reply of duty doesn't come from the home itself
  pub duty-apart : (content : Content) → reply_part (good.status from).duty ≡ content ∷ [] → from ≢ home
  duty-apart content e same = let off = good.at_home.off_duty in let is : reply_part (good.status home).duty ≡ content ∷ [] = ap (λ k. reply_part (good.status k).duty) (sym same) ∙ e in let none : reply_part (good.status home).duty ≡ [] = rw off in let n : [] ≡ content ∷ [] = sym none ∙ is in cc

  home-reply : (content : Content) → line.lane from home Reply ≡ content ∷ rest → Meets home home from content (share_of line home)
  home-reply InvAck front =
      let is = reply-home home line good from InvAck rest front in
      let first = ack-first from _ _ _ (good.status from).duty rest good.at_home.carried is in
      let apart = duty-apart InvAck (rw first.1) in
      let called = called-phase home line.words good.phase from _ _ (good.nodes from apart).duty first.1 in
      let header : IsGoodHeader home (Called called.0) line.words line.header (line.copy home) = rw called.1 at good.header in
      meets-ack home from (share_of line home) called.0 header.0 called.3
  home-reply (ShWb words) front =
      let first = shwb-first from _ _ _ (good.status from).duty words rest good.at_home.carried (reply-home home line good from (ShWb words) rest front) in
      let apart = duty-apart (ShWb words) (rw first.1) in
      let phase = returned-phase home line.words good.phase from _ _ words (good.nodes from apart).duty first.1 in
      let header : IsGoodHeader home (SharedOut phase.0 from) line.words line.header (line.copy home) = rw phase.1 at good.header in
      meets-shwb home from (share_of line home) words phase.0 header.0 phase.2
  home-reply FAck front =
      let first = fack-first from _ _ _ (good.status from).duty rest good.at_home.carried (reply-home home line good from FAck rest front) in
      let apart = duty-apart FAck (rw first.1) in
      let phase = handed-phase home line.words good.phase from _ _ (good.nodes from apart).duty first.1 in
      let header : IsGoodHeader home (HandedOn phase.0 from phase.1) line.words line.header (line.copy home) = rw phase.2 at good.header in
      meets-fack home from (share_of line home) phase.0 header.0 phase.3
  home-reply Nakc front =
      let first = nakc-first from _ _ _ (good.status from).duty rest good.at_home.carried (reply-home home line good from Nakc rest front) in
      let apart = duty-apart Nakc (rw first.1) in
      let phase = refused-phase home line.words good.phase from _ _ (good.nodes from apart).duty first.1 in
      let header : IsGoodHeader home (Asked phase.0 phase.1 from true phase.2) line.words line.header (line.copy home) = rw phase.3 at good.header in
      meets-nakc home from (share_of line home) phase.0 phase.1 header.0
  home-reply (Put words) front =
      let first = put-first from (good.status home).carrier (good.status from).duty words rest (reply-home home line good from (Put words) rest front) in
      let op = home-op (Put words) first.0 in
      let phase = put-phase home line.words good.phase _ from words good.at_home.carrier first.0 in
      let header : IsGoodHeader home (SharedOut home from) line.words line.header (line.copy home) = rw phase.0 at good.header in
      meets-home-put home from (share_of line home) words op.0 op.1 op.2 op.3 op.4 header.0
  home-reply (PutX words) front =
      let first = putx-first from (good.status home).carrier (good.status from).duty words rest (reply-home home line good from (PutX words) rest front) in
      let op = home-op (PutX words) first.0 in
      let phase = putx-phase home line.words good.phase _ from words good.at_home.carrier first.0 in
      let header : IsGoodHeader home (HandedOn home from phase.0) line.words line.header (line.copy home) = rw phase.1 at good.header in
      meets-home-putx home from (share_of line home) words op.0 op.1 op.2 op.3 op.4 header.0
  home-reply (Nak cause) front =
      let first = nak-first from (good.status home).carrier (good.status from).duty cause rest (reply-home home line good from (Nak cause) rest front) in
      let op = home-op (Nak cause) first.0 in
      let phase = nak-phase home line.words good.phase _ from cause good.at_home.carrier first.0 in
      let header : IsGoodHeader home (Asked phase.0 home from true phase.1) line.words line.header (line.copy home) = rw phase.2 at good.header in
      meets-home-nak home from (share_of line home) cause phase.0 op.0 op.1 op.2 header.0
  home-reply Get front = let c = replies-only from _ _ (good.status home).carrier (good.status from).duty _ rest good.at_home.carried (reply-home home line good from Get rest front) in cc
  home-reply GetX front = let c = replies-only from _ _ (good.status home).carrier (good.status from).duty _ rest good.at_home.carried (reply-home home line good from GetX rest front) in cc
  home-reply (FwdGet r) front = let c = replies-only from _ _ (good.status home).carrier (good.status from).duty _ rest good.at_home.carried (reply-home home line good from (FwdGet r) rest front) in cc
  home-reply (FwdGetX r) front = let c = replies-only from _ _ (good.status home).carrier (good.status from).duty _ rest good.at_home.carried (reply-home home line good from (FwdGetX r) rest front) in cc
  home-reply Inv front = let c = replies-only from _ _ (good.status home).carrier (good.status from).duty _ rest good.at_home.carried (reply-home home line good from Inv rest front) in cc
  home-reply (Wb words) front = let c = replies-only from _ _ (good.status home).carrier (good.status from).duty _ rest good.at_home.carried (reply-home home line good from (Wb words) rest front) in cc
  home-reply Rpl front = let c = replies-only from _ _ (good.status home).carrier (good.status from).duty _ rest good.at_home.carried (reply-home home line good from Rpl rest front) in cc

  -- any message at the front, at any node
  pub meets-take : (to : ℕ) (class : Class) (content : Content) → line.lane from to class ≡ content ∷ rest → Meets to home from content (share_of line to)
  meets-take to class content front = go (to == home) refl class front
    where
      go : (c : Bool) → (to == home) ≡ c → (class : Class) → line.lane from to class ≡ content ∷ rest → Meets to home from content (share_of line to)
      go true e Request front = let same : home ≡ to = grind (arith, nat_tests) in subst (λ t. line.lane from t Request ≡ content ∷ rest → Meets t home from content (share_of line t)) same (home-request content) front
      go true e Reply front = let same : home ≡ to = grind (arith, nat_tests) in subst (λ t. line.lane from t Reply ≡ content ∷ rest → Meets t home from content (share_of line t)) same (home-reply content) front
      go false e Request front = let apart : to ≢ home = grind (arith, nat_tests) in meets-away-request to apart content front
      go false e Reply front = let apart : to ≢ home = grind (arith, nat_tests) in meets-away-reply to apart content front
