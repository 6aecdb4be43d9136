-- A message leaves no node an operation that it had not begun, and ends one only by a Put or by serving it.
-- By the tables alone, row by row.
use Rattle.std.proofs.Common.{◌≡◌, ℕ, Bool, true, false, nat_le, ◌==◌, ◌&&◌, not, inl, inr, refl, Option, Some, None}
use Rattle.line_invariant.specs.Types.{Want, Grantee, Nobody, Me, Node}
use Rattle.op_model.specs.Nodes.{unlist}
use Rattle.op_model.specs.Operations.{Words}
use Rattle.op_model.specs.Messages.{Content, Get, GetX, FwdGet, FwdGetX, Inv, Wb, Rpl, Put, PutX, Nak, InvAck, ShWb, FAck, Nakc}
use Rattle.op_model.specs.Lines.{Room, LineShare, Outcome, marked_load, sending, no_message, is_exclusive, is_idle, is_pending}
use Rattle.op_model.specs.Tables.Home.{on_get, on_getx, on_inv_ack, on_shwb, on_fack, on_nakc, on_wb, on_rpl, grant, grantee_of, lacks_link, no_other}
use Rattle.op_model.specs.Tables.Remote.{on_message, row_of, meets, on_inv, on_nak, on_put, on_putx, on_fwd_get, on_fwd_getx}
use Rattle.line_invariant.specs.Rows.{IsWantKept, IsDoneRight, IsPut}
use Rattle.line_invariant.proofs.Basics.{if-either}

same-want : (want : Option Want) → IsWantKept want want
same-want None = refl
same-want (Some want) = inr (want.marked, refl)

no-want : (want : Option Want) → IsWantKept want None
no-want None = refl
no-want (Some want) = inl refl

marked-want : (want : Option Want) → IsWantKept want (marked_load want)
marked-want None = refl
marked-want (Some want) = inr (_, refl)

module _ (to home from : ℕ) (alone : Bool) (room : Room) (share : LineShare) where
  abbrev Keeps : Outcome → Type 0
  Keeps o = IsWantKept share.want o.share.want

  same : Keeps (sending share no_message)
  same = same-want share.want

  keeps-get : Keeps (on_get room from share)
  unfolding on_get
  keeps-get =
      if-either Keeps (is_pending share.header) _ _ (λ _. same) (λ _.
      (if-either Keeps (lacks_link room from share.header && room.link_pending) _ _ (λ _. same) (λ _.
      (if-either Keeps (lacks_link room from share.header && room.full) _ _ (λ _. same) (λ _.
      (if-either Keeps (lacks_link room from share.header) _ _ (λ _. same) (λ _.
      (if-either Keeps (share.header.dirty && share.header.local) _ _ (λ _. same) (λ _.
      (if-either Keeps (share.header.dirty && room.full) _ _ (λ _. same) (λ _.
      (if-either Keeps share.header.dirty _ _ (λ _. same) (λ _. same)))))))))))))

  keeps-getx : Keeps (on_getx room from share)
  unfolding on_getx
  keeps-getx =
      if-either Keeps (is_pending share.header) _ _ (λ _. same) (λ _.
      (if-either Keeps (share.header.dirty && share.header.local) _ _ (λ _. same) (λ _.
      (if-either Keeps (share.header.dirty && room.full) _ _ (λ _. same) (λ _.
      (if-either Keeps share.header.dirty _ _ (λ _. same) (λ _.
      (if-either Keeps (no_other from share.header.list) _ _ (λ _. same) (λ _.
      (if-either Keeps room.full _ _ (λ _. same) (λ _. same)))))))))))

  keeps-grant : (g : Grantee) (want : Option Want) → share.want ≡ want → Keeps (grant g want (unlist share.header.list from) share)
  keeps-grant Nobody want e = same
  keeps-grant (Node n) want e = same
  keeps-grant Me None e = same
  keeps-grant Me (Some want) e = no-want share.want

  keeps-ack : Keeps (on_inv_ack from share)
  unfolding on_inv_ack
  keeps-ack = if-either Keeps (nat_le share.header.acks 1) _ _ (λ _. keeps-grant (grantee_of share.header.wait) share.want refl) (λ _. same)

  keeps-rpl : Keeps (on_rpl from share)
  unfolding on_rpl
  keeps-rpl = if-either Keeps (is_idle share.header.wait && not share.header.dirty) _ _ (λ _. same) (λ _. same)

  keeps-fwd : (r : ℕ) → Keeps (on_fwd_get home r share)
  unfolding on_fwd_get
  keeps-fwd r = if-either Keeps (is_exclusive share.copy) _ _ (λ _. same) (λ _. same)

  keeps-fwdx : (r : ℕ) → Keeps (on_fwd_getx home r share)
  unfolding on_fwd_getx
  keeps-fwdx r = if-either Keeps (is_exclusive share.copy) _ _ (λ _. same) (λ _. same)

  keeps-put : (c : Bool) (words : Words) → Keeps (on_put c words share)
  unfolding on_put
  keeps-put true words = no-want share.want
  keeps-put false words = no-want share.want

  keeps-putx : (c : Bool) (words : Words) (want : Option Want) → share.want ≡ want → IsWantKept want (on_putx c words (record share { want = want })).share.want
  unfolding on_putx
  keeps-putx c words None e = refl
  keeps-putx c words (Some want) e = inl refl

  keeps-row : (content : Content) → Keeps (row_of to home from room content share)
  unfolding row_of on_inv on_wb on_nak on_shwb on_fack on_nakc
  keeps-row Get = keeps-get
  keeps-row GetX = keeps-getx
  keeps-row (FwdGet r) = keeps-fwd r
  keeps-row (FwdGetX r) = keeps-fwdx r
  keeps-row Inv = marked-want share.want
  keeps-row (Wb words) = same
  keeps-row Rpl = keeps-rpl
  keeps-row (Put words) = keeps-put (to == home) words
  keeps-row (PutX words) = keeps-putx (to == home) words share.want refl
  keeps-row (Nak cause) = no-want share.want
  keeps-row InvAck = keeps-ack
  keeps-row (ShWb words) = same
  keeps-row FAck = same
  keeps-row Nakc = same

  pub keeps-want : (content : Content) → IsWantKept share.want (on_message to home from alone room content share).share.want
  unfolding on_message
  keeps-want content = if-either Keeps (meets to home from alone content share) _ _ (λ _. keeps-row content) (λ _. same)

module _ (to home from : ℕ) (alone : Bool) (room : Room) (share : LineShare) (Known : Type 0) where
  abbrev Right : Outcome → Type 0
  Right o = IsDoneRight Known o.served o.done o.share.want

  right-get : Right (on_get room from share)
  unfolding on_get
  right-get =
      if-either Right (is_pending share.header) _ _ (λ _. tt) (λ _.
      (if-either Right (lacks_link room from share.header && room.link_pending) _ _ (λ _. tt) (λ _.
      (if-either Right (lacks_link room from share.header && room.full) _ _ (λ _. tt) (λ _.
      (if-either Right (lacks_link room from share.header) _ _ (λ _. tt) (λ _.
      (if-either Right (share.header.dirty && share.header.local) _ _ (λ _. refl) (λ _.
      (if-either Right (share.header.dirty && room.full) _ _ (λ _. tt) (λ _.
      (if-either Right share.header.dirty _ _ (λ _. tt) (λ _. refl)))))))))))))

  right-getx : Right (on_getx room from share)
  unfolding on_getx
  right-getx =
      if-either Right (is_pending share.header) _ _ (λ _. tt) (λ _.
      (if-either Right (share.header.dirty && share.header.local) _ _ (λ _. tt) (λ _.
      (if-either Right (share.header.dirty && room.full) _ _ (λ _. tt) (λ _.
      (if-either Right share.header.dirty _ _ (λ _. tt) (λ _.
      (if-either Right (no_other from share.header.list) _ _ (λ _. tt) (λ _.
      (if-either Right room.full _ _ (λ _. tt) (λ _. tt)))))))))))

  right-grant : (g : Grantee) (want : Option Want) → Right (grant g want (unlist share.header.list from) share)
  right-grant Nobody want = tt
  right-grant (Node n) want = tt
  right-grant Me None = tt
  right-grant Me (Some want) = (refl, refl)

  right-ack : Right (on_inv_ack from share)
  unfolding on_inv_ack
  right-ack = if-either Right (nat_le share.header.acks 1) _ _ (λ _. right-grant (grantee_of share.header.wait) share.want) (λ _. tt)

  right-rpl : Right (on_rpl from share)
  unfolding on_rpl
  right-rpl = if-either Right (is_idle share.header.wait && not share.header.dirty) _ _ (λ _. tt) (λ _. tt)

  right-fwd : (r : ℕ) → Right (on_fwd_get home r share)
  unfolding on_fwd_get
  right-fwd r = if-either Right (is_exclusive share.copy) _ _ (λ _. refl) (λ _. tt)

  right-fwdx : (r : ℕ) → Right (on_fwd_getx home r share)
  unfolding on_fwd_getx
  right-fwdx r = if-either Right (is_exclusive share.copy) _ _ (λ _. tt) (λ _. tt)

  right-put : Known → (c : Bool) (words : Words) → Right (on_put c words share)
  unfolding on_put
  right-put known true words = (refl, known)
  right-put known false words = (refl, known)

  right-putx : (c : Bool) (words : Words) (want : Option Want) → Right (on_putx c words (record share { want = want }))
  unfolding on_putx
  right-putx c words None = tt
  right-putx c words (Some want) = (refl, refl)

  right-row : (content : Content) → (IsPut content → Known) → Right (row_of to home from room content share)
  unfolding row_of on_inv on_wb on_nak on_shwb on_fack on_nakc
  right-row Get known = right-get
  right-row GetX known = right-getx
  right-row (FwdGet r) known = right-fwd r
  right-row (FwdGetX r) known = right-fwdx r
  right-row Inv known = tt
  right-row (Wb words) known = tt
  right-row Rpl known = right-rpl
  right-row (Put words) known = right-put (known tt) (to == home) words
  right-row (PutX words) known = right-putx (to == home) words share.want
  right-row (Nak cause) known = tt
  right-row InvAck known = right-ack
  right-row (ShWb words) known = tt
  right-row FAck known = tt
  right-row Nakc known = tt

  pub done-right : (content : Content) → (IsPut content → Known) → Right (on_message to home from alone room content share)
  unfolding on_message
  done-right content known = if-either Right (meets to home from alone content share) _ _ (λ _. right-row content known) (λ _. tt)
