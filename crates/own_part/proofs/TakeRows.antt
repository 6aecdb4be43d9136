-- Taking a message keeps what holds of its line at its home, and leaves, marks or ends what its taker has begun. A message that meets no row changes nothing.
use Rattle.std.proofs.Common.{◌≡◌, ◌≢◌, inl, inr, ℕ, Bool, true, ◌==◌, ◌&&◌, ◌||◌, not, refl, arith, sym, subst}
use Rattle.std.proofs.lemmas.Bool.{and_parts, not-true, eqb-true, eq-eqb, eqb-false}
use Rattle.op_model.specs.Nodes.{listed}
use Rattle.op_model.specs.Messages.{Content, Get, GetX, FwdGet, FwdGetX, Inv, Wb, Rpl, Put, PutX, Nak, InvAck, ShWb, FAck, Nakc}
use Rattle.op_model.specs.Lines.{LineShare, Outcome, Room, sending, no_message, is_outstanding}
use Rattle.op_model.specs.OwnPart.{IsOwnLine}
use Rattle.op_model.specs.Tables.Home.{on_get, on_getx, on_wb, on_rpl, on_shwb, on_fack, on_nakc}
use Rattle.op_model.specs.Tables.Remote.{on_fwd_get, on_fwd_getx, on_inv, meets, row_of, on_message, on_put, on_putx, asks_well, waits_load, waits_write, is_invalidate, is_forward, is_forward_get, is_forward_getx, gets_elsewhere, getxs_elsewhere}
use Rattle.op_model.proofs.Public.{three_parts}
use Rattle.line_invariant.proofs.Public.{if-either}
use Rattle.own_part.proofs.Basics.{all4}
use Rattle.own_part.proofs.Effects.{IsQuiet, IsEffect, IsKept}
use Rattle.own_part.proofs.GetRows.{get-keeps, getx-keeps}
use Rattle.own_part.proofs.BackRows.{inv-ack-keeps, shwb-keeps, fack-keeps, nakc-keeps, wb-keeps, rpl-keeps}
use Rattle.own_part.proofs.RemoteRows.{fwd-get-quiet, fwd-getx-quiet, inv-mark, put-ends, put-keeps, putx-ends, putx-keeps, nak-ends, nak-keeps}

pub at-home : (here rest : Bool) → here ≡ true → (not here || rest) ≡ true → rest ≡ true
at-home here rest e f = grind arith

pub at-home3 : (here a b : Bool) → here ≡ true → (not here || a || b) ≡ true → (a || b) ≡ true
at-home3 here a b e f = grind arith

module _ (me home sender : ℕ) (alone : Bool) (room : Room) (s : LineShare) (own : me ≡ home → IsOwnLine home s) where
  abbrev Keeps : Outcome → Type 0
  Keeps o = IsKept me home s o

  -- a row at the home
  by-home : (o : Outcome) → IsOwnLine home o.share × IsQuiet s o → Keeps o
  by-home o k = ((λ _. k.0), inl k.1)

  -- a row elsewhere
  by-other : (o : Outcome) → me ≢ home → IsEffect me home s o → Keeps o
  by-other o apart e = ((λ same. absurd (apart same)), e)

  unmet : Keeps (sending s no_message)
  unmet = (own, inl (refl, refl, λ none. none))

  pub message-keeps : (content : Content) → Keeps (on_message me home sender alone room content s)
  unfolding on_message meets row_of
  message-keeps Get = if-either Keeps ((me == home) && not (sender == home) && asks_well sender s.header) _ _
      (λ h. let t = three_parts (me == home) (not (sender == home)) (asks_well sender s.header) h in by-home (on_get room sender s) (get-keeps home sender (eqb-false sender home (not-true (sender == home) t.1)) room s (own (eqb-true me home t.0)) t.2)) (λ _. unmet)
  message-keeps GetX = if-either Keeps ((me == home) && not (sender == home) && asks_well sender s.header) _ _
      (λ h. let t = three_parts (me == home) (not (sender == home)) (asks_well sender s.header) h in by-home (on_getx room sender s) (getx-keeps home sender (eqb-false sender home (not-true (sender == home) t.1)) room s (own (eqb-true me home t.0)) t.2)) (λ _. unmet)
  message-keeps (FwdGet r) = if-either Keeps (not (me == home)) _ _ (λ h. by-other (on_fwd_get home r s) (eqb-false me home (not-true (me == home) h)) (inl (fwd-get-quiet home r s))) (λ _. unmet)
  message-keeps (FwdGetX r) = if-either Keeps (not (me == home)) _ _ (λ h. by-other (on_fwd_getx home r s) (eqb-false me home (not-true (me == home) h)) (inl (fwd-getx-quiet home r s))) (λ _. unmet)
  message-keeps Inv = if-either Keeps (not (me == home)) _ _ (λ h. by-other (on_inv home s) (eqb-false me home (not-true (me == home) h)) (inr (inl (inv-mark me home s (eqb-false me home (not-true (me == home) h)))))) (λ _. unmet)
  message-keeps (Wb words) = if-either Keeps ((me == home) && s.header.dirty && not s.header.local && not (is_invalidate s.header.wait)) _ _
      (λ h. let t = all4 (me == home) s.header.dirty (not s.header.local) (not (is_invalidate s.header.wait)) h in by-home (on_wb words s) (wb-keeps home words s (own (eqb-true me home t.0)) (not-true s.header.local t.2) (not-true (is_invalidate s.header.wait) t.3))) (λ _. unmet)
  message-keeps Rpl = if-either Keeps (me == home) _ _ (λ h. by-home (on_rpl sender s) (rpl-keeps home sender s (own (eqb-true me home h)))) (λ _. unmet)
  message-keeps (Put words) = if-either Keeps (waits_load s.want && alone && (not (me == home) || is_forward_get home s.header.wait)) _ _
      (λ h. let t = three_parts (waits_load s.want) alone (not (me == home) || is_forward_get home s.header.wait) h in
      ((λ same. let here = eq-eqb me home same in subst (λ b. IsOwnLine home (on_put b words s).share) (sym here) (put-keeps home words s (own same) (at-home (me == home) (is_forward_get home s.header.wait) here t.2))), inr (inr (put-ends (me == home) words s t.0)))) (λ _. unmet)
  message-keeps (PutX words) = if-either Keeps (waits_write s.want && alone && (not (me == home) || is_forward_getx home s.header.wait)) _ _
      (λ h. let t = three_parts (waits_write s.want) alone (not (me == home) || is_forward_getx home s.header.wait) h in
      ((λ same. let here = eq-eqb me home same in subst (λ b. IsOwnLine home (on_putx b words s).share) (sym here) (putx-keeps home words s (own same) t.0 (at-home (me == home) (is_forward_getx home s.header.wait) here t.2))), inr (inr (putx-ends (me == home) words s t.0)))) (λ _. unmet)
  message-keeps (Nak cause) = if-either Keeps (is_outstanding s.want && (not (me == home) || is_forward_get home s.header.wait || is_forward_getx home s.header.wait)) _ _
      (λ h. let t = and_parts (is_outstanding s.want) (not (me == home) || is_forward_get home s.header.wait || is_forward_getx home s.header.wait) h in
      ((λ same. nak-keeps home s (own same) (at-home3 (me == home) (is_forward_get home s.header.wait) (is_forward_getx home s.header.wait) (eq-eqb me home same) t.1)), inr (inr (nak-ends s t.0)))) (λ _. unmet)
  message-keeps InvAck = if-either Keeps ((me == home) && is_invalidate s.header.wait && listed s.header.list sender) _ _
      (λ h. let t = three_parts (me == home) (is_invalidate s.header.wait) (listed s.header.list sender) h in
      let k = inv-ack-keeps home sender s (own (eqb-true me home t.0)) t.1 t.2 in
      ((λ _. k.0), elim k.1 [ inl q ↦ inl q | inr e ↦ inr (inr e) ])) (λ _. unmet)
  message-keeps (ShWb words) = if-either Keeps ((me == home) && gets_elsewhere home s.header.wait) _ _
      (λ h. let t = and_parts (me == home) (gets_elsewhere home s.header.wait) h in by-home (on_shwb words s) (shwb-keeps home words s (own (eqb-true me home t.0)) t.1)) (λ _. unmet)
  message-keeps FAck = if-either Keeps ((me == home) && getxs_elsewhere home s.header.wait) _ _
      (λ h. let t = and_parts (me == home) (getxs_elsewhere home s.header.wait) h in by-home (on_fack s) (fack-keeps home s (own (eqb-true me home t.0)) t.1)) (λ _. unmet)
  message-keeps Nakc = if-either Keeps ((me == home) && is_forward s.header.wait) _ _
      (λ h. let t = and_parts (me == home) (is_forward s.header.wait) h in by-home (on_nakc s) (nakc-keeps home s (own (eqb-true me home t.0)) t.1)) (λ _. unmet)
