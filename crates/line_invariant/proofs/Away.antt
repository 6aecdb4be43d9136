-- A row at a node that isn't the line's home neither reads nor changes the header. A message brings no copy to a node that has none and has begun nothing, and ends nothing there.
-- By the tables alone, row by row.
use Rattle.std.proofs.Common.{subst, ◌≡◌, ◌≢◌, ℕ, Bool, true, false, cond, nat_le, ◌==◌, ◌&&◌, ◌||◌, not, refl, arith, ap, sym, ◌∙◌, Result, Ok, Err, Option, Some, None}
use Rattle.std.proofs.lemmas.Bool.{ne_eqb}
use Rattle.std.proofs.lemmas.Bool.Decides.{nat_tests}
use Rattle.line_invariant.specs.Types.{Op, Want, Grantee, Nobody, Me, Node, Cause, EvictKind, NoCopy, WrongKind, HitFirst}
use Rattle.op_model.specs.declared.events.EvictKind.TheVariants as way
use Rattle.op_model.specs.Nodes.{unlist}
use Rattle.op_model.specs.Operations.{is_load}
use Rattle.op_model.specs.Messages.{Content, Get, GetX, FwdGet, FwdGetX, Inv, Wb, Rpl, Put, PutX, Nak, InvAck, ShWb, FAck, Nakc}
use Rattle.op_model.specs.Lines.{nobody_listed, Absent, Header, Room, LineShare, Outcome, sending, no_message, one_to, is_exclusive, is_empty, is_idle, is_pending, without_shared, begun}
use Rattle.op_model.specs.Tables.Processor.{serves, ask, begin_op, begin_at_home, fits, evict, leave_remote}
use Rattle.op_model.specs.Tables.Home.{on_get, on_getx, on_inv_ack, on_shwb, on_fack, on_nakc, on_wb, on_rpl, grant, grantee_of, lacks_link, no_other}
use Rattle.op_model.specs.Tables.Remote.{on_message, row_of, meets, on_inv, on_nak, on_put, on_putx, on_fwd_get, on_fwd_getx, waits_load, waits_write, asks_well, is_forward_get, is_forward_getx}
use Rattle.op_model.proofs.Public.{three_parts}
use Rattle.line_invariant.specs.Rows.{wanting, with_header, with_header_ok}
use Rattle.line_invariant.proofs.Basics.{if-either}

either-header : (h : Header) (c : Bool) (x y : Outcome) → with_header h (cond c x y) ≡ cond c (with_header h x) (with_header h y)
either-header h true x y = refl
either-header h false x y = refl

module _ (me home : ℕ) (apart : me ≢ home) (share : LineShare) (h : Header) where
  away-row : (from : ℕ) (alone : Bool) (room : Room) (content : Content) → meets me home from alone content share ≡ true → row_of me home from room content (record share { header = h }) ≡ with_header h (row_of me home from room content share)
  unfolding meets row_of on_inv on_nak on_put on_putx on_fwd_get on_fwd_getx
  away-row from alone room Get met = let off = ne_eqb me home apart in absurd (grind arith)
  away-row from alone room GetX met = let off = ne_eqb me home apart in absurd (grind arith)
  away-row from alone room (FwdGet r) met = sym (either-header h (is_exclusive share.copy) _ _)
  away-row from alone room (FwdGetX r) met = sym (either-header h (is_exclusive share.copy) _ _)
  away-row from alone room Inv met = refl
  away-row from alone room (Wb words) met = let off = ne_eqb me home apart in absurd (grind arith)
  away-row from alone room Rpl met = let off = ne_eqb me home apart in absurd (grind arith)
  away-row from alone room (Put words) met = rw (ne_eqb me home apart) refl
  away-row from alone room (PutX words) met = let off = ne_eqb me home apart in ap (λ c. on_putx c words (record share { header = h })) off ∙ by-want share.want ∙ ap (λ c. with_header h (on_putx c words share)) (sym off)
    where
      by-want : (want : Option Want) → on_putx false words (record { copy = share.copy; want = want; header = h }) ≡ with_header h (on_putx false words (record share { want = want }))
      by-want None = refl
      by-want (Some want) = refl
  away-row from alone room (Nak cause) met = refl
  away-row from alone room InvAck met = let off = ne_eqb me home apart in absurd (grind arith)
  away-row from alone room (ShWb words) met = let off = ne_eqb me home apart in absurd (grind arith)
  away-row from alone room FAck met = let off = ne_eqb me home apart in absurd (grind arith)
  away-row from alone room Nakc met = let off = ne_eqb me home apart in absurd (grind arith)

  pub away-meets : (from : ℕ) (alone : Bool) (content : Content) → meets me home from alone content (record share { header = h }) ≡ meets me home from alone content share
  unfolding meets
  away-meets from alone Get = rw (ne_eqb me home apart) refl
  away-meets from alone GetX = rw (ne_eqb me home apart) refl
  away-meets from alone (FwdGet r) = refl
  away-meets from alone (FwdGetX r) = refl
  away-meets from alone Inv = refl
  away-meets from alone (Wb words) = rw (ne_eqb me home apart) refl
  away-meets from alone Rpl = refl
  away-meets from alone (Put words) = rw (ne_eqb me home apart) refl
  away-meets from alone (PutX words) = rw (ne_eqb me home apart) refl
  away-meets from alone (Nak cause) = rw (ne_eqb me home apart) refl
  away-meets from alone InvAck = rw (ne_eqb me home apart) refl
  away-meets from alone (ShWb words) = rw (ne_eqb me home apart) refl
  away-meets from alone FAck = rw (ne_eqb me home apart) refl
  away-meets from alone Nakc = rw (ne_eqb me home apart) refl

  pub away-message : (from : ℕ) (alone : Bool) (room : Room) (content : Content) → on_message me home from alone room content (record share { header = h }) ≡ with_header h (on_message me home from alone room content share)
  unfolding on_message
  away-message from alone room content =
      ap (λ c. cond c (row_of me home from room content (record share { header = h })) (sending (record share { header = h }) no_message)) (away-meets from alone content)
      ∙ go (meets me home from alone content share) refl
    where
      go : (c : Bool) → meets me home from alone content share ≡ c → cond c (row_of me home from room content (record share { header = h })) (sending (record share { header = h }) no_message) ≡ with_header h (cond c (row_of me home from room content share) (sending share no_message))
      go true e = away-row from alone room content e
      go false e = refl

  pub away-begin : (room : Room) (op : Op) → begin_op me home room op (record share { header = h }) ≡ with_header_ok h (begin_op me home room op share)
  unfolding begin_op ask
  away-begin room op = rw (ne_eqb me home apart) (go (serves op share.copy) (is_load op.kind))
    where
      go : (c d : Bool) → ◌≡◌ {A = Result Outcome Cause} (cond c (Err HitFirst) (Ok (cond d (sending (record { copy = share.copy; want = begun op; header = h }) (one_to home Get)) (sending (record { copy = without_shared share.copy; want = begun op; header = h }) (one_to home GetX))))) (with_header_ok h (cond c (Err HitFirst) (Ok (cond d (sending (record share { want = begun op }) (one_to home Get)) (sending (record share { want = begun op; copy = without_shared share.copy }) (one_to home GetX))))))
      go true d = refl
      go false true = refl
      go false false = refl

  pub away-evict : (kind : EvictKind) → evict me home kind (record share { header = h }) ≡ with_header_ok h (evict me home kind share)
  unfolding evict
  away-evict kind = rw (ne_eqb me home apart) (go kind (fits false kind share.copy))
    where
      go : (kind : EvictKind) (c : Bool) → cond c (Ok (leave_remote home kind (record share { header = h }))) (Err (elim share.copy [ Absent ↦ NoCopy | _ ↦ WrongKind ])) ≡ with_header_ok h (cond c (Ok (leave_remote home kind share)) (Err (elim share.copy [ Absent ↦ NoCopy | _ ↦ WrongKind ])))
      go way.Wb true = refl
      go way.Hint true = refl
      go way.Silent true = refl
      go kind false = refl

-- no copy comes without a want
module _ (to home from : ℕ) (alone : Bool) (room : Room) (share : LineShare) (empty : share.copy ≡ Absent) (none : share.want ≡ None) (local : to ≡ home → share.header.local ≡ not (is_empty share.copy)) where
  abbrev Empty : Outcome → Type 0
  Empty o = o.share.copy ≡ Absent

  unlocal : (to == home) ≡ true → (share.header.dirty && share.header.local) ≡ true → ⊥
  unlocal e own = let same : to ≡ home = grind (arith, nat_tests) in let l = local same in let f : share.header.local ≡ false = rw empty at l in grind arith

  empty-get : ((share.header.dirty && share.header.local) ≡ true → ⊥) → Empty (on_get room from share)
  unfolding on_get
  empty-get away =
      if-either Empty (is_pending share.header) _ _ (λ _. empty) (λ _.
      (if-either Empty (lacks_link room from share.header && room.link_pending) _ _ (λ _. empty) (λ _.
      (if-either Empty (lacks_link room from share.header && room.full) _ _ (λ _. empty) (λ _.
      (if-either Empty (lacks_link room from share.header) _ _ (λ _. empty) (λ _.
      (if-either Empty (share.header.dirty && share.header.local) _ _ (λ own. absurd (away own)) (λ _.
      (if-either Empty (share.header.dirty && room.full) _ _ (λ _. empty) (λ _.
      (if-either Empty share.header.dirty _ _ (λ _. empty) (λ _. empty)))))))))))))

  empty-getx : Empty (on_getx room from share)
  unfolding on_getx
  empty-getx =
      if-either Empty (is_pending share.header) _ _ (λ _. empty) (λ _.
      (if-either Empty (share.header.dirty && share.header.local) _ _ (λ _. refl) (λ _.
      (if-either Empty (share.header.dirty && room.full) _ _ (λ _. empty) (λ _.
      (if-either Empty share.header.dirty _ _ (λ _. empty) (λ _.
      (if-either Empty (no_other from share.header.list) _ _ (λ _. refl) (λ _.
      (if-either Empty room.full _ _ (λ _. empty) (λ _. refl)))))))))))

  empty-grant : (g : Grantee) (want : Option Want) → want ≡ None → Empty (grant g want (unlist share.header.list from) share)
  empty-grant Nobody want e = empty
  empty-grant (Node n) want e = empty
  empty-grant Me None e = empty
  empty-grant Me (Some want) e = absurd (let d : wanting want.op want.marked ≡ None = e in cc)

  empty-ack : Empty (on_inv_ack from share)
  unfolding on_inv_ack
  empty-ack = if-either Empty (nat_le share.header.acks 1) _ _ (λ _. empty-grant (grantee_of share.header.wait) share.want none) (λ _. empty)

  empty-rpl : Empty (on_rpl from share)
  unfolding on_rpl
  empty-rpl = if-either Empty (is_idle share.header.wait && not share.header.dirty) _ _ (λ _. empty) (λ _. empty)

  empty-fwd : (r : ℕ) → Empty (on_fwd_get home r share)
  unfolding on_fwd_get
  empty-fwd r = if-either Empty (is_exclusive share.copy) _ _ (λ e. absurd (let f : is_exclusive Absent ≡ true = rw empty at e in cc)) (λ _. empty)

  empty-fwdx : (r : ℕ) → Empty (on_fwd_getx home r share)
  unfolding on_fwd_getx
  empty-fwdx r = if-either Empty (is_exclusive share.copy) _ _ (λ _. refl) (λ _. empty)

  no-load : waits_load share.want ≡ true → ⊥
  no-load e = let f : waits_load None ≡ true = rw none at e in cc

  no-write : waits_write share.want ≡ true → ⊥
  no-write e = let f : waits_write None ≡ true = rw none at e in cc

  empty-row : (content : Content) → meets to home from alone content share ≡ true → Empty (row_of to home from room content share)
  unfolding meets row_of on_inv on_wb on_nak on_shwb on_fack on_nakc
  empty-row Get met = empty-get (unlocal (three_parts (to == home) (not (from == home)) (asks_well from share.header) met).0)
  empty-row GetX met = empty-getx
  empty-row (FwdGet r) met = empty-fwd r
  empty-row (FwdGetX r) met = empty-fwdx r
  empty-row Inv met = ap without_shared empty
  empty-row (Wb words) met = empty
  empty-row Rpl met = empty-rpl
  empty-row (Put words) met = absurd (no-load (three_parts (waits_load share.want) alone (not (to == home) || is_forward_get home share.header.wait) met).0)
  empty-row (PutX words) met = absurd (no-write (three_parts (waits_write share.want) alone (not (to == home) || is_forward_getx home share.header.wait) met).0)
  empty-row (Nak cause) met = empty
  empty-row InvAck met = empty-ack
  empty-row (ShWb words) met = empty
  empty-row FAck met = empty
  empty-row Nakc met = empty

  pub stays-empty : (content : Content) → (on_message to home from alone room content share).share.copy ≡ Absent
  unfolding on_message
  stays-empty content = if-either Empty (meets to home from alone content share) _ _ (λ met. empty-row content met) (λ _. empty)

-- no operation is done without a want
module _ (to home from : ℕ) (alone : Bool) (room : Room) (share : LineShare) (none : share.want ≡ None) where
  abbrev Still : Outcome → Type 0
  Still o = o.done ≡ false

  still-get : Still (on_get room from share)
  unfolding on_get
  still-get =
      if-either Still (is_pending share.header) _ _ (λ _. refl) (λ _.
      (if-either Still (lacks_link room from share.header && room.link_pending) _ _ (λ _. refl) (λ _.
      (if-either Still (lacks_link room from share.header && room.full) _ _ (λ _. refl) (λ _.
      (if-either Still (lacks_link room from share.header) _ _ (λ _. refl) (λ _.
      (if-either Still (share.header.dirty && share.header.local) _ _ (λ _. refl) (λ _.
      (if-either Still (share.header.dirty && room.full) _ _ (λ _. refl) (λ _.
      (if-either Still share.header.dirty _ _ (λ _. refl) (λ _. refl)))))))))))))

  still-getx : Still (on_getx room from share)
  unfolding on_getx
  still-getx =
      if-either Still (is_pending share.header) _ _ (λ _. refl) (λ _.
      (if-either Still (share.header.dirty && share.header.local) _ _ (λ _. refl) (λ _.
      (if-either Still (share.header.dirty && room.full) _ _ (λ _. refl) (λ _.
      (if-either Still share.header.dirty _ _ (λ _. refl) (λ _.
      (if-either Still (no_other from share.header.list) _ _ (λ _. refl) (λ _.
      (if-either Still room.full _ _ (λ _. refl) (λ _. refl)))))))))))

  still-grant : (g : Grantee) (want : Option Want) → want ≡ None → Still (grant g want (unlist share.header.list from) share)
  still-grant Nobody want e = refl
  still-grant (Node n) want e = refl
  still-grant Me None e = refl
  still-grant Me (Some want) e = absurd (let d : wanting want.op want.marked ≡ None = e in cc)

  still-ack : Still (on_inv_ack from share)
  unfolding on_inv_ack
  still-ack = if-either Still (nat_le share.header.acks 1) _ _ (λ _. still-grant (grantee_of share.header.wait) share.want none) (λ _. refl)

  still-rpl : Still (on_rpl from share)
  unfolding on_rpl
  still-rpl = if-either Still (is_idle share.header.wait && not share.header.dirty) _ _ (λ _. refl) (λ _. refl)

  still-fwd : (r : ℕ) → Still (on_fwd_get home r share)
  unfolding on_fwd_get
  still-fwd r = if-either Still (is_exclusive share.copy) _ _ (λ _. refl) (λ _. refl)

  still-fwdx : (r : ℕ) → Still (on_fwd_getx home r share)
  unfolding on_fwd_getx
  still-fwdx r = if-either Still (is_exclusive share.copy) _ _ (λ _. refl) (λ _. refl)

  never-load : waits_load share.want ≡ true → ⊥
  never-load e = let f : waits_load None ≡ true = rw none at e in cc

  never-write : waits_write share.want ≡ true → ⊥
  never-write e = let f : waits_write None ≡ true = rw none at e in cc

  still-row : (content : Content) → meets to home from alone content share ≡ true → Still (row_of to home from room content share)
  unfolding meets row_of on_inv on_wb on_nak on_shwb on_fack on_nakc
  still-row Get met = still-get
  still-row GetX met = still-getx
  still-row (FwdGet r) met = still-fwd r
  still-row (FwdGetX r) met = still-fwdx r
  still-row Inv met = refl
  still-row (Wb words) met = refl
  still-row Rpl met = still-rpl
  still-row (Put words) met = absurd (never-load (three_parts (waits_load share.want) alone (not (to == home) || is_forward_get home share.header.wait) met).0)
  still-row (PutX words) met = absurd (never-write (three_parts (waits_write share.want) alone (not (to == home) || is_forward_getx home share.header.wait) met).0)
  still-row (Nak cause) met = refl
  still-row InvAck met = still-ack
  still-row (ShWb words) met = refl
  still-row FAck met = refl
  still-row Nakc met = refl

  pub stays-still : (content : Content) → (on_message to home from alone room content share).done ≡ false
  unfolding on_message
  stays-still content = if-either Still (meets to home from alone content share) _ _ (λ met. still-row content met) (λ _. refl)

-- where an operation is done as it is begun, nothing is left begun
module _ (me home : ℕ) (room : Room) (op : Op) (share : LineShare) (none : share.want ≡ None) (o : Outcome) where
  abbrev Ends : Result Outcome Cause → Type 0
  Ends r = r ≡ Ok o → o.done ≡ true → o.share.want ≡ None

  ends-error : (c : Cause) → Ends (Err c)
  ends-error c e = absurd (let d : ◌≡◌ {A = Result Outcome Cause} (Err c) (Ok o) = e in cc)

  ends-ok : (x : Outcome) → (x.done ≡ true → x.share.want ≡ None) → Ends (Ok x)
  ends-ok x h e = let is : x ≡ o = cc in subst (λ y. y.done ≡ true → y.share.want ≡ None) is h

  no-end : {A : Type 0} → false ≡ true → A
  no-end e = absurd (cc)

  home-ends : Ends (begin_at_home home room op share)
  unfolding begin_at_home
  home-ends =
      if-either Ends (is_pending share.header) _ _ (λ _. ends-error _) (λ _.
      (if-either Ends (not share.header.dirty && is_load op.kind) _ _ (λ _. ends-ok _ (λ _. none)) (λ _.
      (if-either Ends (not share.header.dirty && nobody_listed share.header.list) _ _ (λ _. ends-ok _ (λ _. none)) (λ _.
      (if-either Ends room.full _ _ (λ _. ends-error _) (λ _.
      (if-either Ends (not share.header.dirty) _ _ (λ _. ends-ok _ (λ e. no-end e)) (λ _.
      (if-either Ends (is_load op.kind) _ _ (λ _. ends-ok _ (λ e. no-end e)) (λ _. ends-ok _ (λ e. no-end e))))))))))))

  pub begin-ends : Ends (begin_op me home room op share)
  unfolding begin_op ask
  begin-ends =
      if-either Ends (serves op share.copy) _ _ (λ _. ends-error _) (λ _.
      (if-either Ends (me == home) _ _ (λ _. home-ends) (λ _. asks (is_load op.kind))))
    where
      asks : (c : Bool) → Ends (Ok (cond c (sending (record share { want = begun op }) (one_to home Get)) (sending (record share { want = begun op; copy = without_shared share.copy }) (one_to home GetX))))
      asks true = ends-ok _ (λ e. no-end e)
      asks false = ends-ok _ (λ e. no-end e)

-- it is the same whether a node's set or its copy of the line is empty, where one that waits for the line has both empty
pub same-alone : (to home from : ℕ) (room : Room) (share : LineShare) (alone : Bool) → ((op : Op) (marked : Bool) → share.want ≡ wanting op marked → alone ≡ is_empty share.copy) → (content : Content) →
    meets to home from alone content share ≡ meets to home from (is_empty share.copy) content share
unfolding meets
same-alone to home from room share alone waits Get = refl
same-alone to home from room share alone waits GetX = refl
same-alone to home from room share alone waits (FwdGet r) = refl
same-alone to home from room share alone waits (FwdGetX r) = refl
same-alone to home from room share alone waits Inv = refl
same-alone to home from room share alone waits (Wb words) = refl
same-alone to home from room share alone waits Rpl = refl
same-alone to home from room share alone waits (Put words) = go share.want refl
  where
    go : (want : Option Want) → share.want ≡ want → (waits_load want && alone && (not (to == home) || is_forward_get home share.header.wait)) ≡ (waits_load want && is_empty share.copy && (not (to == home) || is_forward_get home share.header.wait))
    go None e = refl
    go (Some want) e = rw (waits want.op want.marked e) refl
same-alone to home from room share alone waits (PutX words) = go share.want refl
  where
    go : (want : Option Want) → share.want ≡ want → (waits_write want && alone && (not (to == home) || is_forward_getx home share.header.wait)) ≡ (waits_write want && is_empty share.copy && (not (to == home) || is_forward_getx home share.header.wait))
    go None e = refl
    go (Some want) e = rw (waits want.op want.marked e) refl
same-alone to home from room share alone waits (Nak cause) = refl
same-alone to home from room share alone waits InvAck = refl
same-alone to home from room share alone waits (ShWb words) = refl
same-alone to home from room share alone waits FAck = refl
same-alone to home from room share alone waits Nakc = refl
