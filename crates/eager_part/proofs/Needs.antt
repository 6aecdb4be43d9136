-- What the handlers of an eager node need, from the row that a message meets and from what a node keeps of its share.
use Rattle.std.proofs.Common.{◌≡◌, ◌≢◌, ℕ, ◌<◌, true, false, not, ◌||◌, ◌==◌, List, refl, sym, ap, ◌∙◌, subst}
use Rattle.std.proofs.lemmas.Bool.{and_parts, not-true, eqb-true, eq-eqb}
use Rattle.line_map.specs.Sizes.{Sizes, home_of}
use Rattle.op_model.specs.declared.messages.Msg.TheVariants as msg
use Rattle.op_model.specs.declared.messages.NakCause.{NakCause}
use Rattle.op_model.specs.declared.operations.Op.{Op}
use Rattle.op_model.specs.declared.state.Wait.{Wait}
use Rattle.op_model.specs.declared.state.Wait.TheVariants.{Idle, Invalidate, ForwardGet, ForwardGetX}
use Rattle.op_model.specs.Nodes.{listed}
use Rattle.op_model.specs.Operations.{Words}
use Rattle.op_model.specs.Lines.{Header, LineShare, is_idle, is_pending, is_outstanding}
use Rattle.op_model.specs.OwnPart.{IsOwnLine, IsOwnWait}
use Rattle.op_model.specs.Shares.{Share, header_in, header_of, is_set_empty, line_share, want_on}
use Rattle.op_model.specs.Tables.Home.{requester_of}
use Rattle.op_model.specs.Tables.Remote.{asks_well, gets_elsewhere, getxs_elsewhere, is_forward, is_forward_get, is_forward_getx, is_invalidate, waits_load, waits_write}
use Rattle.op_model.specs.Tables.Remote as delayed
use Rattle.op_model.proofs.Public.{forward-get, forward-getx, three_parts}
use Rattle.node_range.specs.Range.{IsWaitIn}
use Rattle.own_part.proofs.Public.{at-home, gets, getxs, idle-is}
use Rattle.message_range.specs.Fitting.{IsShareOf}
use Rattle.eager_model.specs.Node.{meets_row}
use Rattle.eager_model.specs.Rows.{Drain, meets}
use Rattle.eager_part.specs.Part.{IsDrainingLine, IsEagerLine, IsEagerPart}
use Rattle.eager_part.proofs.Lines.{as-delayed, as-draining}

-- a line that drains, and to whom it was granted
pub record IsDraining (nodes home : ℕ) (share : LineShare) : Type 0 where
  pub grantee : ℕ
  pub waits : share.header.wait ≡ Drain grantee
  pub below : grantee < nodes
  pub line : IsDrainingLine home grantee share

-- a forward waits, no acknowledgement of it is due, and its requester is a node of the machine
pub record IsForwarded (nodes : ℕ) (header : Header) : Type 0 where
  pub pending : is_pending header ≡ true
  pub acks : header.acks ≡ 0
  pub requester : requester_of header.wait < nodes

forwarded : (home nodes : ℕ) (wait : Wait) (s : LineShare) → IsEagerLine home s.header.wait s → IsWaitIn nodes s.header.wait → s.header.wait ≡ wait → is_forward wait ≡ true → IsForwarded nodes s.header
forwarded home nodes Idle s is in_it e f = absurd (cc)
forwarded home nodes (Invalidate g) s is in_it e f = absurd (cc)
forwarded home nodes (ForwardGet r) s is in_it e f =
    let w = subst (λ k. IsOwnWait home k s) e (as-delayed home s.header.wait s (ap is_invalidate e) is).waiting in
    record { pending = ap (λ k. not (is_idle k)) e; acks = w.0; requester = subst (λ k. k < nodes) (sym (ap requester_of e)) (subst (IsWaitIn nodes) e in_it) }
forwarded home nodes (ForwardGetX r) s is in_it e f =
    let w = subst (λ k. IsOwnWait home k s) e (as-delayed home s.header.wait s (ap is_invalidate e) is).waiting in
    record { pending = ap (λ k. not (is_idle k)) e; acks = w.0; requester = subst (λ k. k < nodes) (sym (ap requester_of e)) (subst (IsWaitIn nodes) e in_it) }

module _ (sizes : Sizes) (node : ℕ) (program : List Op) (share : Share) (part : IsEagerPart sizes node program share) (fits : IsShareOf sizes share) (line : ℕ) where
  abbrev h : Header
  h = header_of sizes share line

  abbrev at : ℕ
  at = home_of sizes line

  -- a line of this home
  module _ (own : at ≡ node) where
    -- but for one that drains, it is as in the delayed core
    pub calm-line : is_invalidate h.wait ≡ false → IsOwnLine node (line_share sizes share line)
    calm-line calm = as-delayed node h.wait (line_share sizes share line) calm (part.lines line own)

    pub idle-line : is_pending h ≡ false → IsOwnLine node (line_share sizes share line)
    idle-line free = calm-line (ap is_invalidate (idle-is h.wait free))

    pub forward-facts : is_forward h.wait ≡ true → IsForwarded sizes.nodes h
    forward-facts waits = forwarded node sizes.nodes h.wait (line_share sizes share line) (part.lines line own) (fits.headers line).nodes.waits refl waits

    pub drain-facts : is_invalidate h.wait ≡ true → IsDraining sizes.nodes node (line_share sizes share line)
    drain-facts called =
        let g = as-draining node h.wait (line_share sizes share line) called (part.lines line own) in
        record { grantee = g.0; waits = g.1; below = subst (IsWaitIn sizes.nodes) g.1 (fits.headers line).nodes.waits; line = g.2 }

  module _ (src : ℕ) where
    here : (node == at) ≡ true → at ≡ node
    here e = sym (eqb-true node at e)

    away : not (node == at) ≡ true → at ≢ node
    away e same = let d : true ≡ false = sym (eq-eqb node at (sym same)) ∙ not-true (node == at) e in cc

    pub get-met : meets_row sizes node share src (msg.Get line) ≡ true → (at ≡ node) × (asks_well src h ≡ true)
    unfolding meets_row meets delayed.meets header_in
    get-met e = let m = three_parts (node == at) (not (src == at)) (asks_well src h) e in (here m.0, m.2)

    pub getx-met : meets_row sizes node share src (msg.GetX line) ≡ true → (at ≡ node) × (asks_well src h ≡ true)
    unfolding meets_row meets delayed.meets header_in
    getx-met e = let m = three_parts (node == at) (not (src == at)) (asks_well src h) e in (here m.0, m.2)

    pub rpl-met : meets_row sizes node share src (msg.Rpl line) ≡ true → at ≡ node
    unfolding meets_row meets delayed.meets
    rpl-met e = here e

    pub wb-met : (words : Words) → meets_row sizes node share src (msg.Wb line words) ≡ true → (at ≡ node) × (h.dirty ≡ true) × (h.local ≡ false)
    unfolding meets_row meets header_in
    wb-met words e = let m = three_parts (node == at) h.dirty (not h.local) e in (here m.0, m.1, not-true h.local m.2)

    pub inv_ack-met : meets_row sizes node share src (msg.InvAck line) ≡ true → (at ≡ node) × (is_invalidate h.wait ≡ true) × (listed h.list src ≡ true)
    unfolding meets_row meets delayed.meets header_in
    inv_ack-met e = let m = three_parts (node == at) (is_invalidate h.wait) (listed h.list src) e in (here m.0, m.1, m.2)

    pub shwb-met : (words : Words) → meets_row sizes node share src (msg.ShWb line words) ≡ true → (at ≡ node) × (is_forward h.wait ≡ true)
    unfolding meets_row meets delayed.meets header_in
    shwb-met words e = let m = and_parts (node == at) (gets_elsewhere at h.wait) e in (here m.0, ap is_forward (gets at h.wait m.1).1)

    pub fack-met : meets_row sizes node share src (msg.FAck line) ≡ true → (at ≡ node) × (is_forward h.wait ≡ true)
    unfolding meets_row meets delayed.meets header_in
    fack-met e = let m = and_parts (node == at) (getxs_elsewhere at h.wait) e in (here m.0, ap is_forward (getxs at h.wait m.1).1)

    pub nakc-met : meets_row sizes node share src (msg.Nakc line) ≡ true → (at ≡ node) × (is_forward h.wait ≡ true)
    unfolding meets_row meets delayed.meets header_in
    nakc-met e = let m = and_parts (node == at) (is_forward h.wait) e in (here m.0, m.1)

    pub fwd_get-met : (req : ℕ) → meets_row sizes node share src (msg.FwdGet line req) ≡ true → at ≢ node
    unfolding meets_row meets delayed.meets
    fwd_get-met req e = away e

    pub fwd_getx-met : (req : ℕ) → meets_row sizes node share src (msg.FwdGetX line req) ≡ true → at ≢ node
    unfolding meets_row meets delayed.meets
    fwd_getx-met req e = away e

    pub inv-met : meets_row sizes node share src (msg.Inv line) ≡ true → at ≢ node
    unfolding meets_row meets delayed.meets
    inv-met e = away e

    -- where the home itself has asked, it waits for the owner
    pub put-met : (words : Words) → meets_row sizes node share src (msg.Put line words) ≡ true → (waits_load (want_on sizes share.want line) ≡ true) × (is_set_empty sizes share line ≡ true) × (at ≡ node → is_forward h.wait ≡ true)
    unfolding meets_row meets delayed.meets header_in
    put-met words e =
        let m = three_parts (waits_load (want_on sizes share.want line)) (is_set_empty sizes share line) (not (node == at) || is_forward_get at h.wait) e in
        (m.0, m.1, λ own. forward-get at h.wait (at-home (node == at) (is_forward_get at h.wait) (eq-eqb node at (sym own)) m.2))

    pub putx-met : (words : Words) → meets_row sizes node share src (msg.PutX line words) ≡ true → (waits_write (want_on sizes share.want line) ≡ true) × (is_set_empty sizes share line ≡ true) × (at ≡ node → is_forward h.wait ≡ true)
    unfolding meets_row meets delayed.meets header_in
    putx-met words e =
        let m = three_parts (waits_write (want_on sizes share.want line)) (is_set_empty sizes share line) (not (node == at) || is_forward_getx at h.wait) e in
        (m.0, m.1, λ own. forward-getx at h.wait (at-home (node == at) (is_forward_getx at h.wait) (eq-eqb node at (sym own)) m.2))

    pub nak-met : (cause : NakCause) → meets_row sizes node share src (msg.Nak line cause) ≡ true → is_outstanding (want_on sizes share.want line) ≡ true
    unfolding meets_row meets delayed.meets header_in
    nak-met cause e = (and_parts (is_outstanding (want_on sizes share.want line)) (not (node == at) || is_forward_get at h.wait || is_forward_getx at h.wait) e).0
