-- Which row a message meets and which row begins an operation, with what is known of it. A row is the delayed core's on a line that doesn't drain, and leaves it so, but for E1 to E5 and what a line that drains does with requests and writebacks.
use Rattle.std.proofs.Common.{◌≡◌, ◌≢◌, ℕ, Bool, true, false, cond, ◌==◌, ◌&&◌, ◌||◌, not, refl, arith, sym, ap, subst, ◌∙◌, Option, Some, None}
use Rattle.std.proofs.lemmas.Bool.{and_parts, not-true, eqb-true, eqb-false}
use Rattle.op_model.specs.declared.messages.NakCause.TheVariants.{Pending}
use Rattle.op_model.specs.declared.state.Wait.{Wait}
use Rattle.op_model.specs.declared.state.Wait.TheVariants.{Idle, Invalidate, ForwardGet, ForwardGetX}
use Rattle.op_model.specs.declared.state.Want.{Want}
use Rattle.op_model.specs.Nodes.{listed}
use Rattle.op_model.specs.Operations.{Words}
use Rattle.op_model.specs.Messages.{Content, Get, GetX, FwdGet, FwdGetX, Inv, Wb, Rpl, Put, PutX, Nak, InvAck, ShWb, FAck, Nakc}
use Rattle.op_model.specs.Lines.{LineShare, Outcome, Room, sending, no_message, is_exclusive, is_idle, is_outstanding, is_pending}
use Rattle.op_model.specs.Tables.Home.{lacks_link, no_other, on_fack, on_get, on_nakc, on_rpl, on_shwb, on_wb, refuse}
use Rattle.op_model.specs.Tables.Home as delayed_home
use Rattle.op_model.specs.Tables.Remote.{asks_well, gets_elsewhere, getxs_elsewhere, is_forward, is_forward_get, is_forward_getx, is_invalidate, on_fwd_get, on_fwd_getx, on_inv, on_nak, on_put, on_putx, waits_load, waits_write}
use Rattle.op_model.specs.Tables.Remote as delayed
use Rattle.op_model.proofs.Public.{called-pends, three_parts}
use Rattle.line_invariant.proofs.Public.{if-either}
use Rattle.own_part.proofs.Public.{at-home}
use Rattle.eager_model.specs.Rows.{asks_shared, give_and_drain, meets, on_getx, on_inv_ack, on_message, row_of}

-- what is told by a GetX that calls others: another node is listed, and one more line may be pending
pub shared-parts : (p d o f : Bool) → (not p && not d && not o && not f) ≡ true → (o ≡ false) × (f ≡ false)
shared-parts p d o f e = (grind arith, grind arith)

-- a line that is called in isn't forwarded
called-unforwarded : (home : ℕ) (wait : Wait) → is_invalidate wait ≡ true → (is_forward wait ≡ false) × (is_forward_get home wait ≡ false) × (is_forward_getx home wait ≡ false) × (gets_elsewhere home wait ≡ false) × (getxs_elsewhere home wait ≡ false)
called-unforwarded home Idle e = absurd (cc)
called-unforwarded home (Invalidate g) e = (refl, refl, refl, refl, refl)
called-unforwarded home (ForwardGet r) e = absurd (cc)
called-unforwarded home (ForwardGetX r) e = absurd (cc)

module _ (me home sender : ℕ) (alone : Bool) (room : Room) (s : LineShare) where
  -- What is shown of each row that a message may meet
  pub record IsEachRow (content : Content) (P : Outcome → Type 0) : Type 0 where
    pub delayed : (me ≡ home → (is_invalidate s.header.wait ≡ false) × (is_invalidate (delayed.on_message me home sender alone room content s).share.header.wait ≡ false)) → P (delayed.on_message me home sender alone room content s)
    pub gives : me ≡ home → sender ≢ home → asks_shared room sender s.header ≡ true → P (give_and_drain sender s)
    pub acknowledges : me ≡ home → is_invalidate s.header.wait ≡ true → listed s.header.list sender ≡ true → P (on_inv_ack home sender s)
    pub writes_back : (words : Words) → content ≡ Wb words → me ≡ home → is_invalidate s.header.wait ≡ true → s.header.local ≡ false → P (on_wb words s)
    pub refuses : me ≡ home → sender ≢ home → is_invalidate s.header.wait ≡ true → P (refuse sender Pending s)
    pub nothing : P (sending s no_message)

  -- a line that isn't called in isn't so after a row of the delayed core, but for a GetX that calls others
  module _ (calm : is_invalidate s.header.wait ≡ false) where
    abbrev Calm : Outcome → Type 0
    Calm o = is_invalidate o.share.header.wait ≡ false

    get-calm : Calm (on_get room sender s)
    unfolding on_get
    get-calm =
        if-either Calm (is_pending s.header) _ _ (λ _. calm) (λ _.
        (if-either Calm (lacks_link room sender s.header && room.link_pending) _ _ (λ _. calm) (λ _.
        (if-either Calm (lacks_link room sender s.header && room.full) _ _ (λ _. calm) (λ _.
        (if-either Calm (lacks_link room sender s.header) _ _ (λ _. calm) (λ _.
        (if-either Calm (s.header.dirty && s.header.local) _ _ (λ _. calm) (λ _.
        (if-either Calm (s.header.dirty && room.full) _ _ (λ _. calm) (λ _.
        (if-either Calm s.header.dirty _ _ (λ _. refl) (λ _. calm)))))))))))))

    getx-calm : asks_shared room sender s.header ≡ false → Calm (delayed_home.on_getx room sender s)
    unfolding delayed_home.on_getx
    getx-calm none =
        if-either Calm (is_pending s.header) _ _ (λ _. calm) (λ free.
        (if-either Calm (s.header.dirty && s.header.local) _ _ (λ _. calm) (λ _.
        (if-either Calm (s.header.dirty && room.full) _ _ (λ _. calm) (λ _.
        (if-either Calm s.header.dirty _ _ (λ _. refl) (λ clean.
        (if-either Calm (no_other sender s.header.list) _ _ (λ _. calm) (λ others.
        (if-either Calm room.full _ _ (λ _. calm) (λ more. absurd (never (is_pending s.header) s.header.dirty (no_other sender s.header.list) room.full free clean others more none))))))))))))
      where
        never : (p d o f : Bool) → p ≡ false → d ≡ false → o ≡ false → f ≡ false → (not p && not d && not o && not f) ≡ false → ⊥
        never p d o f a b c e g = grind arith

    fwd-calm : (r : ℕ) → Calm (on_fwd_get home r s)
    unfolding on_fwd_get
    fwd-calm r = if-either Calm (is_exclusive s.copy) _ _ (λ _. calm) (λ _. calm)

    fwdx-calm : (r : ℕ) → Calm (on_fwd_getx home r s)
    unfolding on_fwd_getx
    fwdx-calm r = if-either Calm (is_exclusive s.copy) _ _ (λ _. calm) (λ _. calm)

    rpl-calm : Calm (on_rpl sender s)
    unfolding on_rpl
    rpl-calm = if-either Calm (is_idle s.header.wait && not s.header.dirty) _ _ (λ _. calm) (λ _. calm)

    put-calm : (at_home : Bool) (words : Words) → Calm (on_put at_home words s)
    unfolding on_put
    put-calm true words = refl
    put-calm false words = calm

    putx-calm : (at_home : Bool) (words : Words) (want : Option Want) → Calm (on_putx at_home words (record s { want = want }))
    unfolding on_putx
    putx-calm at_home words None = calm
    putx-calm true words (Some want) = refl
    putx-calm false words (Some want) = calm

  -- elsewhere each row is the delayed core's
  module _ (away : (me == home) ≡ false) (P : Outcome → Type 0) where
    elsewhere : (content : Content) → IsEachRow content P → P (on_message me home sender alone room content s)
    unfolding on_message meets row_of delayed.on_message delayed.meets delayed.row_of
    elsewhere Get is = is.delayed (λ same. absurd (eqb-false me home away same))
    elsewhere GetX is = if-either P ((me == home) && not (sender == home) && asks_well sender s.header) _ _ (λ h. absurd (let d : true ≡ false = sym (three_parts (me == home) (not (sender == home)) (asks_well sender s.header) h).0 ∙ away in cc)) (λ _. is.nothing)
    elsewhere (FwdGet r) is = is.delayed (λ same. absurd (eqb-false me home away same))
    elsewhere (FwdGetX r) is = is.delayed (λ same. absurd (eqb-false me home away same))
    elsewhere Inv is = is.delayed (λ same. absurd (eqb-false me home away same))
    elsewhere (Wb words) is = if-either P ((me == home) && s.header.dirty && not s.header.local) _ _ (λ h. absurd (let d : true ≡ false = sym (three_parts (me == home) s.header.dirty (not s.header.local) h).0 ∙ away in cc)) (λ _. is.nothing)
    elsewhere Rpl is = is.delayed (λ same. absurd (eqb-false me home away same))
    elsewhere (Put words) is = is.delayed (λ same. absurd (eqb-false me home away same))
    elsewhere (PutX words) is = is.delayed (λ same. absurd (eqb-false me home away same))
    elsewhere (Nak cause) is = is.delayed (λ same. absurd (eqb-false me home away same))
    elsewhere InvAck is = if-either P ((me == home) && is_invalidate s.header.wait && listed s.header.list sender) _ _ (λ h. absurd (let d : true ≡ false = sym (three_parts (me == home) (is_invalidate s.header.wait) (listed s.header.list sender) h).0 ∙ away in cc)) (λ _. is.nothing)
    elsewhere (ShWb words) is = is.delayed (λ same. absurd (eqb-false me home away same))
    elsewhere FAck is = is.delayed (λ same. absurd (eqb-false me home away same))
    elsewhere Nakc is = is.delayed (λ same. absurd (eqb-false me home away same))

  -- at the home of a line that drains
  module _ (here : (me == home) ≡ true) (called : is_invalidate s.header.wait ≡ true) (P : Outcome → Type 0) where
    abbrev same : me ≡ home
    same = eqb-true me home here

    pends : is_pending s.header ≡ true
    pends = called-pends s.header.wait called

    -- a request is refused
    get-refused : (content : Content) → IsEachRow content P → sender ≢ home → P (on_get room sender s)
    unfolding on_get
    get-refused content is apart = if-either P (is_pending s.header) _ _ (λ _. is.refuses same apart called) (λ free. absurd (let d : false ≡ true = sym free ∙ pends in cc))

    getx-refused : (content : Content) → IsEachRow content P → sender ≢ home → P (on_getx room sender s)
    unfolding on_getx delayed_home.on_getx
    getx-refused content is apart =
        if-either P (asks_shared room sender s.header) _ _ (λ asks. is.gives same apart asks)
        (λ _. if-either P (is_pending s.header) _ _ (λ _. is.refuses same apart called) (λ free. absurd (let d : false ≡ true = sym free ∙ pends in cc)))

    rpl-late : (content : Content) → IsEachRow content P → P (on_rpl sender s)
    unfolding on_rpl
    rpl-late content is = if-either P (is_idle s.header.wait && not s.header.dirty) _ _ (λ h. absurd (idles (is_idle s.header.wait) s.header.dirty h pends)) (λ _. is.nothing)
      where
        idles : (i d : Bool) → (i && not d) ≡ true → not i ≡ true → ⊥
        idles i d e f = grind arith

    -- what comes only to another node, or answers a forward, meets no row
    no : {A : Type 0} (b : Bool) → b ≡ true → b ≡ false → A
    no b e f = absurd (let d : true ≡ false = sym e ∙ f in cc)

    draining : (content : Content) → IsEachRow content P → P (on_message me home sender alone room content s)
    unfolding on_message meets row_of delayed.meets delayed.row_of
    draining Get is = if-either P ((me == home) && not (sender == home) && asks_well sender s.header) _ _ (λ h. get-refused Get is (eqb-false sender home (not-true (sender == home) (three_parts (me == home) (not (sender == home)) (asks_well sender s.header) h).1))) (λ _. is.nothing)
    draining GetX is = if-either P ((me == home) && not (sender == home) && asks_well sender s.header) _ _ (λ h. getx-refused GetX is (eqb-false sender home (not-true (sender == home) (three_parts (me == home) (not (sender == home)) (asks_well sender s.header) h).1))) (λ _. is.nothing)
    draining (FwdGet r) is = if-either P (not (me == home)) _ _ (λ h. no (me == home) here (not-true (me == home) h)) (λ _. is.nothing)
    draining (FwdGetX r) is = if-either P (not (me == home)) _ _ (λ h. no (me == home) here (not-true (me == home) h)) (λ _. is.nothing)
    draining Inv is = if-either P (not (me == home)) _ _ (λ h. no (me == home) here (not-true (me == home) h)) (λ _. is.nothing)
    draining (Wb words) is = if-either P ((me == home) && s.header.dirty && not s.header.local) _ _ (λ h. is.writes_back words refl same called (not-true s.header.local (three_parts (me == home) s.header.dirty (not s.header.local) h).2)) (λ _. is.nothing)
    draining Rpl is = if-either P (me == home) _ _ (λ _. rpl-late Rpl is) (λ _. is.nothing)
    draining (Put words) is = if-either P (waits_load s.want && alone && (not (me == home) || is_forward_get home s.header.wait)) _ _
        (λ h. no (is_forward_get home s.header.wait) (at-home (me == home) (is_forward_get home s.header.wait) here (three_parts (waits_load s.want) alone (not (me == home) || is_forward_get home s.header.wait) h).2) (called-unforwarded home s.header.wait called).1) (λ _. is.nothing)
    draining (PutX words) is = if-either P (waits_write s.want && alone && (not (me == home) || is_forward_getx home s.header.wait)) _ _
        (λ h. no (is_forward_getx home s.header.wait) (at-home (me == home) (is_forward_getx home s.header.wait) here (three_parts (waits_write s.want) alone (not (me == home) || is_forward_getx home s.header.wait) h).2) (called-unforwarded home s.header.wait called).2) (λ _. is.nothing)
    draining (Nak cause) is = if-either P (is_outstanding s.want && (not (me == home) || is_forward_get home s.header.wait || is_forward_getx home s.header.wait)) _ _
        (λ h. let f = called-unforwarded home s.header.wait called in neither (me == home) (is_forward_get home s.header.wait) (is_forward_getx home s.header.wait) here f.1 f.2 (and_parts (is_outstanding s.want) (not (me == home) || is_forward_get home s.header.wait || is_forward_getx home s.header.wait) h).1) (λ _. is.nothing)
      where
        neither : {A : Type 0} (m a b : Bool) → m ≡ true → a ≡ false → b ≡ false → (not m || a || b) ≡ true → A
        neither m a b e f g h = absurd (grind arith)
    draining InvAck is = if-either P ((me == home) && is_invalidate s.header.wait && listed s.header.list sender) _ _ (λ h. is.acknowledges same called (three_parts (me == home) (is_invalidate s.header.wait) (listed s.header.list sender) h).2) (λ _. is.nothing)
    draining (ShWb words) is = if-either P ((me == home) && gets_elsewhere home s.header.wait) _ _ (λ h. no (gets_elsewhere home s.header.wait) (and_parts (me == home) (gets_elsewhere home s.header.wait) h).1 (called-unforwarded home s.header.wait called).3) (λ _. is.nothing)
    draining FAck is = if-either P ((me == home) && getxs_elsewhere home s.header.wait) _ _ (λ h. no (getxs_elsewhere home s.header.wait) (and_parts (me == home) (getxs_elsewhere home s.header.wait) h).1 (called-unforwarded home s.header.wait called).4) (λ _. is.nothing)
    draining Nakc is = if-either P ((me == home) && is_forward s.header.wait) _ _ (λ h. no (is_forward s.header.wait) (and_parts (me == home) (is_forward s.header.wait) h).1 (called-unforwarded home s.header.wait called).0) (λ _. is.nothing)

  -- at the home of a line that doesn't drain
  module _ (here : (me == home) ≡ true) (calm : is_invalidate s.header.wait ≡ false) (P : Outcome → Type 0) where
    -- a row of the delayed core leaves the line calm
    by-test : (test : Bool) (x : Outcome) → Calm calm x → Calm calm (cond test x (sending s no_message))
    by-test true x is = is
    by-test false x is = calm

    settled : (content : Content) → IsEachRow content P → P (on_message me home sender alone room content s)
    unfolding on_message meets row_of on_getx on_inv on_nak on_shwb on_fack on_nakc on_wb delayed.on_message delayed.meets delayed.row_of
    settled Get is = is.delayed (λ _. (calm, by-test _ (on_get room sender s) (get-calm calm)))
    settled (FwdGet r) is = is.delayed (λ _. (calm, by-test _ (on_fwd_get home r s) (fwd-calm calm r)))
    settled (FwdGetX r) is = is.delayed (λ _. (calm, by-test _ (on_fwd_getx home r s) (fwdx-calm calm r)))
    settled Inv is = is.delayed (λ _. (calm, by-test _ (on_inv home s) calm))
    settled Rpl is = is.delayed (λ _. (calm, by-test _ (on_rpl sender s) (rpl-calm calm)))
    settled (Put words) is = is.delayed (λ _. (calm, by-test _ (on_put (me == home) words s) (put-calm calm (me == home) words)))
    settled (PutX words) is = is.delayed (λ _. (calm, by-test _ (on_putx (me == home) words s) (putx-calm calm (me == home) words s.want)))
    settled (Nak cause) is = is.delayed (λ _. (calm, by-test _ (on_nak s) calm))
    settled (ShWb words) is = is.delayed (λ _. (calm, by-test _ (on_shwb words s) refl))
    settled FAck is = is.delayed (λ _. (calm, by-test _ (on_fack s) refl))
    settled Nakc is = is.delayed (λ _. (calm, by-test _ (on_nakc s) refl))
    settled InvAck is = if-either P ((me == home) && is_invalidate s.header.wait && listed s.header.list sender) _ _ (λ h. absurd (let d : true ≡ false = sym (three_parts (me == home) (is_invalidate s.header.wait) (listed s.header.list sender) h).1 ∙ calm in cc)) (λ _. is.nothing)
    settled (Wb words) is = subst P (ap (λ b. cond b (on_wb words s) (sending s no_message)) tests) (is.delayed (λ _. (calm, by-test _ (on_wb words s) calm)))
      where
        tests : ((me == home) && s.header.dirty && not s.header.local && not (is_invalidate s.header.wait)) ≡ ((me == home) && s.header.dirty && not s.header.local)
        tests = shorter (me == home) s.header.dirty (not s.header.local) (is_invalidate s.header.wait) calm
          where
            shorter : (a b c d : Bool) → d ≡ false → (a && b && c && not d) ≡ (a && b && c)
            shorter a b c d e = grind arith
    settled GetX is =
        if-either P ((me == home) && not (sender == home) && asks_well sender s.header) _ _
        (λ h. if-either P (asks_shared room sender s.header) _ _
        (λ asks. is.gives (eqb-true me home here) (eqb-false sender home (not-true (sender == home) (three_parts (me == home) (not (sender == home)) (asks_well sender s.header) h).1)) asks)
        (λ other. subst P (ap (λ b. cond b (delayed_home.on_getx room sender s) (sending s no_message)) h) (is.delayed (λ _. (calm, by-test _ (delayed_home.on_getx room sender s) (getx-calm calm other))))))
        (λ _. is.nothing)

  pub each-row : (content : Content) (P : Outcome → Type 0) → IsEachRow content P → P (on_message me home sender alone room content s)
  each-row content P is = go (me == home) refl (is_invalidate s.header.wait) refl
    where
      go : (m : Bool) → (me == home) ≡ m → (c : Bool) → is_invalidate s.header.wait ≡ c → P (on_message me home sender alone room content s)
      go false away c e = elsewhere away P content is
      go true here true called = draining here called P content is
      go true here false calm = settled here calm P content is
