-- The operation that a message serves is served on the line's words, and a load is served once.
-- Who holds the line, or memory where nobody does, has the line's words; a Put is under way for exactly the loads that are served and not done.
use Rattle.std.proofs.Common.{◌≡◌, ◌≢◌, ℕ, Bool, true, false, nat_le, ◌==◌, ◌&&◌, not, List, [], ◌∷◌, refl, arith, ap, sym, ◌∙◌, subst, Option, Some, None}
use Rattle.std.proofs.lemmas.Bool.{not-true}
use Rattle.std.proofs.lemmas.Bool.Decides.{nat_tests}
use Rattle.line_invariant.specs.Types.{Op, Want, Grantee, Nobody, Me, Node, Class, Request, Reply}
use Rattle.op_model.specs.Nodes.{listed, unlist}
use Rattle.op_model.specs.Operations.{Words, is_load}
use Rattle.op_model.specs.Messages.{Content, Get, GetX, FwdGet, FwdGetX, Inv, Wb, Rpl, Put, PutX, Nak, InvAck, ShWb, FAck, Nakc}
use Rattle.op_model.specs.Lines.{Copy, Absent, Exclusive, Header, Room, LineShare, Outcome, NoService, is_exclusive, is_empty, is_idle, is_pending, words_of}
use Rattle.op_model.specs.Tables.Home.{on_get, on_getx, on_inv_ack, on_shwb, on_fack, on_nakc, on_wb, on_rpl, grant, grantee_of, lacks_link, no_other}
use Rattle.op_model.specs.Tables.Remote.{on_message, row_of, meets, on_inv, on_nak, on_put, on_putx, on_fwd_get, on_fwd_getx, is_invalidate, waits_write}
use Rattle.op_model.proofs.Public.{eqb-self, three_parts}
use Rattle.line_invariant.specs.Line.{Line, row_taken, share_of}
use Rattle.line_invariant.specs.Good.{Status, Asking, Forwarded, Answered, Phase, Clean, HomeOwns, IsGood, IsGoodHeader, IsCarried, is_put, Granted, Carrier, Resting, IsGoodHome, Role, IsGoodNode, asked_role, ToGive, Owned, Called, Asked, SharedOut, HandedOn}
use Rattle.line_invariant.specs.Rows.{EndsRight, IsPut, wanting, IsLoadWanted, IsServedFor}
use Rattle.line_invariant.proofs.Basics.{if-either}
use Rattle.line_invariant.proofs.Fronts.{get-comes, answer-comes, fwd-first, put-first, putx-first, requests-only, replies-only, told-only, request-home, request-away, reply-home}
use Rattle.line_invariant.proofs.RemoteRows.{answered}
use Rattle.line_invariant.proofs.HomeRows.{home-phase, clean-phase}
use Rattle.line_invariant.proofs.ForwardNodes.{asked-phase}
use Rattle.line_invariant.proofs.ForwardRows.{waits_is}
use Rattle.line_invariant.proofs.AnswerRows.{putx-phase}
use Rattle.line_invariant.proofs.Takes.{exclusive-words}
use Rattle.line_invariant.proofs.Wants.{done-right}

-- memory has the line's words while the line is called in
called-memory : (home : ℕ) (phase : Phase) (words : Words) (header : Header) (copy : Copy) → IsGoodHeader home phase words header copy → is_invalidate header.wait ≡ true → header.memory ≡ words
called-memory home Clean words header copy good waits = absurd (grind arith)
called-memory home HomeOwns words header copy good waits = absurd (grind arith)
called-memory home (Owned o) words header copy good waits = absurd (grind arith)
called-memory home (Called g) words header copy good waits = good.2
called-memory home (Asked true r o f h) words header copy good waits = absurd (grind arith)
called-memory home (Asked false r o f h) words header copy good waits = absurd (grind arith)
called-memory home (SharedOut r o) words header copy good waits = absurd (grind arith)
called-memory home (HandedOn r o h) words header copy good waits = absurd (grind arith)

me-phase : (home : ℕ) (phase : Phase) (words : Words) (header : Header) (copy : Copy) → IsGoodHeader home phase words header copy → is_invalidate header.wait ≡ true → grantee_of header.wait ≡ Me → phase ≡ Called Me
me-phase home Clean words header copy good waits me = absurd (grind arith)
me-phase home HomeOwns words header copy good waits me = absurd (grind arith)
me-phase home (Owned o) words header copy good waits me = absurd (grind arith)
me-phase home (Called g) words header copy good waits me = let e : grantee_of header.wait ≡ g = ap grantee_of good.0 in cc
me-phase home (Asked true r o f h) words header copy good waits me = absurd (grind arith)
me-phase home (Asked false r o f h) words header copy good waits me = absurd (grind arith)
me-phase home (SharedOut r o) words header copy good waits me = absurd (grind arith)
me-phase home (HandedOn r o h) words header copy good waits me = absurd (grind arith)

granted-writes : (want : Option Want) (copy : Copy) (op : Op) (marked : Bool) → IsCarried want copy Granted → want ≡ wanting op marked → is_load op.kind ≡ false
granted-writes want copy op marked c e = grind arith

fresh-copy : (words : Words) (lists : Bool) (copy : Copy) (want : Option Want) (status : Status) (role : Role) (has : Words) → IsGoodNode role words lists copy want status → copy ≡ Exclusive has → has ≡ words
fresh-copy words lists copy want status role has good is = grind arith

fresh-answer : (words : Words) (lists : Bool) (copy : Copy) (want : Option Want) (status : Status) (role : Role) (from : ℕ) (has : Words) → IsGoodNode role words lists copy want status → status.carrier ≡ Answered from (PutX has) → has ≡ words
fresh-answer words lists copy want status role from has good is = grind arith

-- rows that serve nothing
module _ (room : Room) (home from to : ℕ) (share : LineShare) where
  abbrev Quiet : Outcome → Type 0
  Quiet o = o.served ≡ NoService

  quiet-getx : Quiet (on_getx room from share)
  unfolding on_getx
  quiet-getx =
      if-either Quiet (is_pending share.header) _ _ (λ _. refl) (λ _.
      (if-either Quiet (share.header.dirty && share.header.local) _ _ (λ _. refl) (λ _.
      (if-either Quiet (share.header.dirty && room.full) _ _ (λ _. refl) (λ _.
      (if-either Quiet share.header.dirty _ _ (λ _. refl) (λ _.
      (if-either Quiet (no_other from share.header.list) _ _ (λ _. refl) (λ _.
      (if-either Quiet room.full _ _ (λ _. refl) (λ _. refl)))))))))))

  quiet-rpl : Quiet (on_rpl from share)
  unfolding on_rpl
  quiet-rpl = if-either Quiet (is_idle share.header.wait && not share.header.dirty) _ _ (λ _. refl) (λ _. refl)

  quiet-fwdx : (r : ℕ) → Quiet (on_fwd_getx home r share)
  unfolding on_fwd_getx
  quiet-fwdx r = if-either Quiet (is_exclusive share.copy) _ _ (λ _. refl) (λ _. refl)

  quiet-put : (c : Bool) (words : Words) → Quiet (on_put c words share)
  unfolding on_put
  quiet-put true words = refl
  quiet-put false words = refl

  abbrev serves_none : Content → Bool
  serves_none Get = false
  serves_none (FwdGet r) = false
  serves_none InvAck = false
  serves_none (PutX words) = false
  serves_none _ = true

  quiet-row : (content : Content) → serves_none content ≡ true → Quiet (row_of to home from room content share)
  unfolding row_of on_inv on_wb on_nak on_shwb on_fack on_nakc
  quiet-row Get e = cc
  quiet-row (FwdGet r) e = cc
  quiet-row InvAck e = cc
  quiet-row (PutX words) e = cc
  quiet-row GetX e = quiet-getx
  quiet-row (FwdGetX r) e = quiet-fwdx r
  quiet-row Inv e = refl
  quiet-row (Wb words) e = refl
  quiet-row Rpl e = quiet-rpl
  quiet-row (Put words) e = quiet-put (to == home) words
  quiet-row (Nak cause) e = refl
  quiet-row (ShWb words) e = refl
  quiet-row FAck e = refl
  quiet-row Nakc e = refl

  quiet-message : (content : Content) → serves_none content ≡ true → Quiet (on_message to home from (is_empty share.copy) room content share)
  unfolding on_message
  quiet-message content e = if-either Quiet (meets to home from (is_empty share.copy) content share) _ _ (λ _. quiet-row content e) (λ _. refl)

asking-loads : (want : Option Want) (copy : Copy) → IsCarried want copy Asking → IsLoadWanted want
asking-loads None copy c = let d : Asking ≡ Resting = c in cc
asking-loads (Some want) copy c = c.1

forwarded-loads : (want : Option Want) (copy : Copy) → IsCarried want copy (Forwarded false) → IsLoadWanted want
forwarded-loads None copy c = let d : Forwarded false ≡ Resting = c in cc
forwarded-loads (Some want) copy c = c.1

module _ (home : ℕ) (line : Line) (good : IsGood home line) (from : ℕ) (rest : List Content) (room : Room) where
  abbrev At : ℕ → Outcome → Type 0
  At to o = IsServedFor line.want line.answered to line.words o.served

  served-get : from ≢ home → line.lane from home Request ≡ Get ∷ rest → At home (on_get room from (share_of line home))
  unfolding on_get
  served-get apart front =
      let comes = get-comes home line good from apart rest front in
      let header = line.header in
      let loads : IsLoadWanted (line.want from) = asking-loads (line.want from) (line.copy from) (rw comes.1 at (good.nodes from apart).carried) in
      let not_yet : line.answered from ≡ false = good.answered from ∙ ap is_put comes.1 in
      if-either (At home) (is_pending header) _ _ (λ _. tt) (λ idle.
      (if-either (At home) (lacks_link room from header && room.link_pending) _ _ (λ _. tt) (λ _.
      (if-either (At home) (lacks_link room from header && room.full) _ _ (λ _. tt) (λ _.
      (if-either (At home) (lacks_link room from header) _ _ (λ _. tt) (λ _.
      (if-either (At home) (header.dirty && header.local) _ _
      (λ own.
      let phase = home-phase home good.phase line.words header (line.copy home) good.header idle (grind arith) good.local (grind arith) in
      let is : IsGoodHeader home HomeOwns line.words header (line.copy home) = rw phase at good.header in
      (ap words_of is.3, loads, not_yet, apart)) (λ _.
      (if-either (At home) (header.dirty && room.full) _ _ (λ _. tt) (λ _.
      (if-either (At home) header.dirty _ _ (λ _. tt)
      (λ clean.
      let phase = clean-phase home good.phase line.words header (line.copy home) good.header idle clean in
      let is : IsGoodHeader home Clean line.words header (line.copy home) = rw phase at good.header in
      (is.2, loads, not_yet, apart))))))))))))))

  served-ack : is_invalidate line.header.wait ≡ true → At home (on_inv_ack from (share_of line home))
  unfolding on_inv_ack
  served-ack waits = if-either (At home) (nat_le line.header.acks 1) _ _ (λ _. granted (grantee_of line.header.wait) refl (line.want home) refl) (λ _. tt)
    where
      memory : line.header.memory ≡ line.words
      memory = called-memory home good.phase line.words line.header (line.copy home) good.header waits

      granted : (g : Grantee) → grantee_of line.header.wait ≡ g → (want : Option Want) → line.want home ≡ want → At home (grant g want (unlist line.header.list from) (share_of line home))
      granted Nobody m want e = tt
      granted (Node n) m want e = tt
      granted Me m None e = tt
      granted Me m (Some want) e =
          let phase = me-phase home good.phase line.words line.header (line.copy home) good.header waits m in
          let at_home : IsGoodHome home (Called Me) line.words (line.copy home) (line.want home) (good.status home) = rw phase at good.at_home in
          (memory, (want.marked, e), granted-writes (line.want home) (line.copy home) want.op want.marked (rw at_home.carrier at at_home.carried) e)

  served-fwd : (p : ℕ) → p ≢ home → (r : ℕ) → line.lane from p Request ≡ FwdGet r ∷ rest → At p (on_fwd_get home r (share_of line p))
  unfolding on_fwd_get
  served-fwd p apart r front =
      let away = request-away home line good from (FwdGet r) rest p apart front in
      let comes = fwd-first (good.status p).duty r rest away.1 in
      let asked = asked-phase home line.words good.phase p _ _ false r (good.nodes p apart).duty comes.0 in
      if-either (At p) (is_exclusive (line.copy p)) _ _ (λ held. go asked.0 asked.1 comes.0 comes.1 held) (λ _. tt)
    where
      go : (holds : Bool) → good.phase ≡ Asked false r p false holds → (good.status p).duty ≡ ToGive false r → rest ≡ [] → is_exclusive (line.copy p) ≡ true → (words_of (line.copy p) ≡ line.words) × IsLoadWanted (line.want r) × (line.answered r ≡ false) × (r ≢ p)
      go holds phase duty empty held =
          let words = exclusive-words (line.copy p) held in
          let it : IsGoodNode (asked_role holds (ToGive false r)) line.words (listed line.header.list p) (line.copy p) (line.want p) (good.status p) = rw (eqb-self p) at (rw phase at (good.nodes p apart)) in
          let waits = waits_is home line good p apart rest empty false r holds phase duty in
          (ap words_of words.1 ∙ fresh-copy line.words _ (line.copy p) (line.want p) (good.status p) _ words.0 it words.1, forwarded-loads (line.want r) (line.copy r) (carried-at (r == home) refl waits), good.answered r ∙ ap is_put waits, (let h : IsGoodHeader home (Asked false r p false holds) line.words line.header (line.copy home) = rw phase at good.header in h.6))
        where
          carried-at : (c : Bool) → (r == home) ≡ c → (good.status r).carrier ≡ Forwarded false → IsCarried (line.want r) (line.copy r) (Forwarded false)
          carried-at true e waits = let same : home ≡ r = grind (arith, nat_tests) in rw waits at (subst (λ k. IsCarried (line.want k) (line.copy k) (good.status k).carrier) same good.at_home.carried)
          carried-at false e waits = let far : r ≢ home = grind (arith, nat_tests) in rw waits at (good.nodes r far).carried

  served-putx : (to : ℕ) (words : Words) (c : Bool) → words ≡ line.words → (want : Option Want) → line.want to ≡ want → waits_write want ≡ true → At to (on_putx c words (record (share_of line to) { want = want }))
  unfolding on_putx
  served-putx to words c same None e w = tt
  served-putx to words c same (Some want) e w = (same, (want.marked, e), not-true (is_load want.op.kind) w)

  putx-words : (to : ℕ) (class : Class) (words : Words) → line.lane from to class ≡ PutX words ∷ rest → words ≡ line.words
  putx-words to class words front = go (to == home) refl class front
    where
      go : (c : Bool) → (to == home) ≡ c → (class : Class) → line.lane from to class ≡ PutX words ∷ rest → words ≡ line.words
      go true e Request front = let same : to ≡ home = grind (arith, nat_tests) in
          let c = requests-only (good.status from).leaving (good.status from).carrier _ rest (request-home home line good from (PutX words) rest (ap (λ t. line.lane from t Request) (sym same) ∙ front)) in cc
      go true e Reply front = let same : to ≡ home = grind (arith, nat_tests) in
          let first = putx-first from (good.status home).carrier (good.status from).duty words rest (reply-home home line good from (PutX words) rest (ap (λ t. line.lane from t Reply) (sym same) ∙ front)) in
          (putx-phase home line.words good.phase _ from words good.at_home.carrier first.0).2
      go false e Request front = let apart : to ≢ home = grind (arith, nat_tests) in
          let c = told-only (good.status to).duty _ rest (request-away home line good from (PutX words) rest to apart front).1 in cc
      go false e Reply front = let apart : to ≢ home = grind (arith, nat_tests) in
          let comes = answer-comes home line good to apart rest from (PutX words) front in
          fresh-answer line.words _ (line.copy to) (line.want to) (good.status to) _ from words (good.nodes to apart) comes.0

  at-home-get : (class : Class) → line.lane from home class ≡ Get ∷ rest → from ≢ home → At home (on_get room from (share_of line home))
  at-home-get Request front apart = served-get apart front
  at-home-get Reply front apart = let c = replies-only from _ _ (good.status home).carrier (good.status from).duty _ rest good.at_home.carried (reply-home home line good from Get rest front) in cc

  away-fwd : (p : ℕ) → p ≢ home → (r : ℕ) (class : Class) → line.lane from p class ≡ FwdGet r ∷ rest → At p (on_fwd_get home r (share_of line p))
  away-fwd p apart r Request front = served-fwd p apart r front
  away-fwd p apart r Reply front =
      let comes = answer-comes home line good p apart rest from (FwdGet r) front in
      absurd (answered (line.want p) (line.copy p) from (FwdGet r) (rw comes.0 at (good.nodes p apart).carried)).3

  pub served-take : (to : ℕ) (class : Class) (content : Content) → line.lane from to class ≡ content ∷ rest → At to (on_message to home from (is_empty (line.copy to)) room content (share_of line to))
  unfolding on_message row_of meets
  served-take to class Get front =
      if-either (At to) (meets to home from (is_empty (line.copy to)) Get (share_of line to)) _ _
      (λ met.
      let same : home ≡ to = grind (arith, nat_tests) in
      let apart : from ≢ home = grind (arith, nat_tests) in
      subst (λ t. line.lane from t class ≡ Get ∷ rest → At t (on_get room from (share_of line t))) same (λ f. at-home-get class f apart) front)
      (λ _. tt)
  served-take to class (FwdGet r) front =
      if-either (At to) (meets to home from (is_empty (line.copy to)) (FwdGet r) (share_of line to)) _ _ (λ met. let apart : to ≢ home = grind (arith, nat_tests) in away-fwd to apart r class front) (λ _. tt)
  served-take to class InvAck front =
      if-either (At to) (meets to home from (is_empty (line.copy to)) InvAck (share_of line to)) _ _
      (λ met.
      let same : home ≡ to = grind (arith, nat_tests) in
      let waits : is_invalidate line.header.wait ≡ true = (three_parts (to == home) (is_invalidate line.header.wait) (listed line.header.list from) met).1 in
      subst (λ t. At t (on_inv_ack from (share_of line t))) same (served-ack waits))
      (λ _. tt)
  served-take to class (PutX words) front =
      if-either (At to) (meets to home from (is_empty (line.copy to)) (PutX words) (share_of line to)) _ _ (λ met. served-putx to words (to == home) (putx-words to class words front) (line.want to) refl (three_parts (waits_write (line.want to)) _ _ met).0) (λ _. tt)
  served-take to class GetX front = rw (quiet-message room home from to (share_of line to) GetX refl) tt
  served-take to class (FwdGetX r) front = rw (quiet-message room home from to (share_of line to) (FwdGetX r) refl) tt
  served-take to class Inv front = rw (quiet-message room home from to (share_of line to) Inv refl) tt
  served-take to class (Wb words) front = rw (quiet-message room home from to (share_of line to) (Wb words) refl) tt
  served-take to class Rpl front = rw (quiet-message room home from to (share_of line to) Rpl refl) tt
  served-take to class (Put words) front = rw (quiet-message room home from to (share_of line to) (Put words) refl) tt
  served-take to class (Nak cause) front = rw (quiet-message room home from to (share_of line to) (Nak cause) refl) tt
  served-take to class (ShWb words) front = rw (quiet-message room home from to (share_of line to) (ShWb words) refl) tt
  served-take to class FAck front = rw (quiet-message room home from to (share_of line to) FAck refl) tt
  served-take to class Nakc front = rw (quiet-message room home from to (share_of line to) Nakc refl) tt

-- a node that wants nothing of the line has no load served
pub idle-answered : (home : ℕ) (line : Line) → IsGood home line → (node : ℕ) → line.want node ≡ None → line.answered node ≡ false
idle-answered home line good node none = good.answered node ∙ ap is_put (rests (node == home) refl)
  where
    at-rest : (want : Option Want) (copy : Copy) (carries : Carrier) → IsCarried want copy carries → want ≡ None → carries ≡ Resting
    at-rest want copy carries c e = grind arith

    rests : (c : Bool) → (node == home) ≡ c → (good.status node).carrier ≡ Resting
    rests true e = let same : node ≡ home = grind (arith, nat_tests) in at-rest (line.want node) (line.copy node) (good.status node).carrier (subst (λ k. IsCarried (line.want k) (line.copy k) (good.status k).carrier) (sym same) good.at_home.carried) none
    rests false e = let far : node ≢ home = grind (arith, nat_tests) in at-rest (line.want node) (line.copy node) (good.status node).carrier (good.nodes node far).carried none

pub writes-answered : (home : ℕ) (line : Line) → IsGood home line → (node : ℕ) (op : Op) (marked : Bool) → line.want node ≡ wanting op marked → is_load op.kind ≡ false → line.answered node ≡ false
writes-answered home line good node op marked wants write = good.answered node ∙ rests (node == home) refl
  where
    isnt : (want : Option Want) (copy : Copy) (carries : Carrier) → IsCarried want copy carries → want ≡ wanting op marked → is_put carries ≡ false
    isnt want copy carries c e = grind arith

    rests : (c : Bool) → (node == home) ≡ c → is_put (good.status node).carrier ≡ false
    rests true e = let same : node ≡ home = grind (arith, nat_tests) in isnt (line.want node) (line.copy node) (good.status node).carrier (subst (λ k. IsCarried (line.want k) (line.copy k) (good.status k).carrier) (sym same) good.at_home.carried) wants
    rests false e = let far : node ≢ home = grind (arith, nat_tests) in isnt (line.want node) (line.copy node) (good.status node).carrier (good.nodes node far).carried wants

-- a node has no copy of a line that it waits for
pub wants-empty : (home : ℕ) (line : Line) → IsGood home line → (node : ℕ) (op : Op) (marked : Bool) → line.want node ≡ wanting op marked → line.copy node ≡ Absent
wants-empty home line good node op marked wants = by-home (node == home) refl
  where
    empty : (want : Option Want) (copy : Copy) (carries : Carrier) → IsCarried want copy carries → want ≡ wanting op marked → copy ≡ Absent
    empty want copy carries c e = grind arith

    by-home : (c : Bool) → (node == home) ≡ c → line.copy node ≡ Absent
    by-home true e = let same : node ≡ home = grind (arith, nat_tests) in empty (line.want node) (line.copy node) (good.status node).carrier (subst (λ k. IsCarried (line.want k) (line.copy k) (good.status k).carrier) (sym same) good.at_home.carried) wants
    by-home false e = let far : node ≢ home = grind (arith, nat_tests) in empty (line.want node) (line.copy node) (good.status node).carrier (good.nodes node far).carried wants

module _ (home : ℕ) (line : Line) (good : IsGood home line) (from : ℕ) (rest : List Content) where
  -- who takes a Put had its load served
  pub put-answered : (to : ℕ) (class : Class) (words : Words) → line.lane from to class ≡ Put words ∷ rest → line.answered to ≡ true
  put-answered to class words front = go (to == home) refl class front
    where
      go : (c : Bool) → (to == home) ≡ c → (class : Class) → line.lane from to class ≡ Put words ∷ rest → line.answered to ≡ true
      go true e Request front = let same : to ≡ home = grind (arith, nat_tests) in
          let c = requests-only (good.status from).leaving (good.status from).carrier _ rest (request-home home line good from (Put words) rest (ap (λ t. line.lane from t Request) (sym same) ∙ front)) in cc
      go true e Reply front = let same : to ≡ home = grind (arith, nat_tests) in
          let first = put-first from (good.status home).carrier (good.status from).duty words rest (reply-home home line good from (Put words) rest (ap (λ t. line.lane from t Reply) (sym same) ∙ front)) in
          ap line.answered same ∙ good.answered home ∙ ap is_put first.0
      go false e Request front = let apart : to ≢ home = grind (arith, nat_tests) in
          let c = told-only (good.status to).duty _ rest (request-away home line good from (Put words) rest to apart front).1 in cc
      go false e Reply front = let apart : to ≢ home = grind (arith, nat_tests) in
          let comes = answer-comes home line good to apart rest from (Put words) front in
          good.answered to ∙ ap is_put comes.0

  -- what a message serves or ends is done right: a Put ends a load that was served
  pub take-done : (room : Room) (to : ℕ) (class : Class) (content : Content) → line.lane from to class ≡ content ∷ rest → EndsRight (line.answered to ≡ true) (row_taken home from to content room line)
  take-done room to class content front = done-right to home from (is_empty (line.copy to)) room (share_of line to) (line.answered to ≡ true) content (known content front)
    where
      known : (content : Content) → line.lane from to class ≡ content ∷ rest → IsPut content → line.answered to ≡ true
      known (Put words) front is = put-answered to class words front
      known Get front is = absurd is
      known GetX front is = absurd is
      known (FwdGet r) front is = absurd is
      known (FwdGetX r) front is = absurd is
      known Inv front is = absurd is
      known (Wb words) front is = absurd is
      known Rpl front is = absurd is
      known (PutX words) front is = absurd is
      known (Nak cause) front is = absurd is
      known InvAck front is = absurd is
      known (ShWb words) front is = absurd is
      known FAck front is = absurd is
      known Nakc front is = absurd is
