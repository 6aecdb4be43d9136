-- A row makes a line pending only where its home may have one more, and takes a link only where one is free.
-- The tables test it: what makes a line pending is behind the test of the budget, and who is listed anew is behind that of the links.
use Rattle.std.proofs.Common.{◌≡◌, ℕ, ◌+◌, ◌≤◌, Bool, true, false, cond, nat_le, ◌==◌, ◌&&◌, not, ◌⊎◌, inl, inr, refl, arith, subst, ap, sym, ◌∙◌, List, Option, Some, None, Result, Ok, Err}
use Rattle.std.proofs.lemmas.Bool.Decides.{nat_tests}
use Rattle.op_model.specs.Lines.{Absent, Copy, Exclusive, Header, LineShare, Outcome, Room, Shared, is_exclusive, is_idle, is_pending, nobody_listed}
use Rattle.op_model.specs.Messages.{Content, FAck, FwdGet, FwdGetX, Get, GetX, Inv, InvAck, Nak, Nakc, Put, PutX, Rpl, ShWb, Wb}
use Rattle.op_model.specs.Nodes.{Nodes, count, enlist, listed, listings, none, only, unlist}
use Rattle.op_model.specs.Operations.{is_load}
use Rattle.op_model.specs.Shares.{links_in}
use Rattle.op_model.specs.Tables.Home.{grant, grantee_of, lacks_link, needs_link, no_other, on_fack, on_get, on_getx, on_inv_ack, on_nakc, on_rpl, on_shwb, on_wb, requester_of}
use Rattle.op_model.specs.Tables.Processor.{ask, begin_at_home, begin_op, evict, fits, hit, holds_link, leave_home, leave_remote, load_at_home, reclaim, serves, write_at_home}
use Rattle.op_model.specs.Tables.Remote.{meets, on_fwd_get, on_fwd_getx, on_inv, on_message, on_nak, on_put, on_putx, row_of}
use Rattle.op_model.specs.declared.events.Cause.{Cause}
use Rattle.op_model.specs.declared.events.EvictKind.TheVariants as way
use Rattle.op_model.specs.declared.events.EvictKind.{EvictKind}
use Rattle.op_model.specs.declared.operations.Op.{Op}
use Rattle.op_model.specs.declared.state.Want.{Want}
use Rattle.line_invariant.specs.Types.{Grantee, Me, Nobody, Node}
use Rattle.line_invariant.proofs.Public.{if-either}

-- the links that a list holds
abbrev links : Nodes → ℕ
links list = cond (count list == 0) 0 (Prim.Native.Nat.pred (count list))

pub record IsAllowed (room : Room) (old new : Header) : Type 0 where
  pub pending : is_pending old ≡ false → is_pending new ≡ true → room.full ≡ false
  pub links : room.linked ≡ true → (links_in new ≤ links_in old) ⊎ ((links_in new ≤ links_in old + 1) × (room.link_free ≡ true))

links-none : links none ≡ 0
links-none = grind (arith, nat_tests, listings)

links-only : (k : ℕ) → links (only k) ≡ 0
links-only k = grind (arith, nat_tests, listings)

links-unlist : (s : Nodes) (k : ℕ) → links (unlist s k) ≤ links s
links-unlist s k = grind (arith, nat_tests, listings)

links-enlist : (s : Nodes) (k : ℕ) → links (enlist s k) ≤ links s + 1
links-enlist s k = grind (arith, nat_tests, listings)

-- a node that is listed, or the first one, takes no link
links-kept : (s : Nodes) (k : ℕ) → (not (listed s k) && not (nobody_listed s)) ≡ false → links (enlist s k) ≤ links s
links-kept s k e = grind (arith, nat_tests, listings)

-- a row that makes no line pending and takes no link
still : (room : Room) (old new : Header) → (is_pending old ≡ false → is_pending new ≡ false) → links_in new ≤ links_in old → IsAllowed room old new
still room old new calm fewer = record { pending = λ a b. absurd (let e = calm a in let n : false ≡ true = sym e ∙ b in cc); links = λ _. inl fewer }

same : (room : Room) (header : Header) → IsAllowed room header header
same room header = still room header header (λ e. e) (omega arith)

-- a row of a home that may have one more pending line
starts : (room : Room) (old new : Header) → room.full ≡ false → links_in new ≤ links_in old → IsAllowed room old new
starts room old new free fewer = record { pending = λ a b. free; links = λ _. inl fewer }

room-for : (a b : Bool) → a ≡ true → (a && b) ≡ false → b ≡ false
room-for a b e f = grind arith

module _ (room : Room) (row : LineShare) where
  abbrev pub Allowed : Outcome → Type 0
  Allowed o = IsAllowed room row.header o.share.header

  abbrev pub AllowedOk : Result Outcome Cause → Type 0
  AllowedOk r = (o : Outcome) → r ≡ Ok o → Allowed o

  bad : (c : Cause) → AllowedOk (Err c)
  bad c o e = absurd (let d : ◌≡◌ {A = Result Outcome Cause} (Err c) (Ok o) = e in cc)

  fine : (x : Outcome) → Allowed x → AllowedOk (Ok x)
  fine x a o e = let is : x ≡ o = cc in subst Allowed is a

  abbrev header : Header
  header = row.header

  pub hit-allowed : (op : Op) → Allowed (hit op row)
  unfolding hit
  hit-allowed op = same room header

  ask-allowed : (home : ℕ) (op : Op) → Allowed (ask home op row)
  unfolding ask
  ask-allowed home op = if-either Allowed (is_load op.kind) _ _ (λ _. same room header) (λ _. same room header)

  pub begin-allowed : (me home : ℕ) (op : Op) → AllowedOk (begin_op me home room op row)
  unfolding begin_op begin_at_home
  begin-allowed me home op =
      if-either AllowedOk (serves op row.copy) _ _ (λ _. bad _) (λ _.
      (if-either AllowedOk (me == home) _ _ (λ _.
      (if-either AllowedOk (is_pending header) _ _ (λ _. bad _) (λ _.
      (if-either AllowedOk (not header.dirty && is_load op.kind) _ _ (λ _. fine (load_at_home op row) (still room _ _ (λ e. e) (omega arith))) (λ _.
      (if-either AllowedOk (not header.dirty && nobody_listed header.list) _ _ (λ _. fine (write_at_home op row) (still room _ _ (λ e. e) (omega arith))) (λ _.
      (if-either AllowedOk room.full _ _ (λ _. bad _) (λ free.
      (if-either AllowedOk (not header.dirty) _ _ (λ _. fine _ (starts room _ _ free (omega arith))) (λ _.
      (if-either AllowedOk (is_load op.kind) _ _ (λ _. fine _ (starts room _ _ free (omega arith))) (λ _. fine _ (starts room _ _ free (omega arith)))))))))))))))
      (λ _. fine _ (ask-allowed home op))))

  pub evict-allowed : (me home : ℕ) (kind : EvictKind) → AllowedOk (evict me home kind row)
  unfolding evict
  evict-allowed me home kind = if-either AllowedOk (fits (me == home) kind row.copy) _ _ (λ _. fine _ (if-either Allowed (me == home) _ _ (λ _. here row.copy) (λ _. there kind))) (λ _. bad _)
    where
      here : (copy : Copy) → Allowed (leave_home copy row)
      here Absent = same room header
      here (Shared words) = still room _ _ (λ e. e) (omega arith)
      here (Exclusive words) = still room _ _ (λ e. e) (omega arith)

      there : (kind : EvictKind) → Allowed (leave_remote home kind row)
      there way.Wb = same room header
      there way.Hint = same room header
      there way.Silent = same room header

  pub reclaim-allowed : AllowedOk (reclaim room row)
  unfolding reclaim
  reclaim-allowed =
      if-either AllowedOk (not (holds_link room header)) _ _ (λ _. bad _) (λ _.
      (if-either AllowedOk (is_pending header) _ _ (λ _. bad _) (λ _.
      (if-either AllowedOk room.full _ _ (λ _. bad _) (λ free. fine _ (starts room _ _ free (omega arith)))))))

  -- who is listed takes a link only where one is free
  enlists : (p : ℕ) (new : Header) → lacks_link room p header ≡ false → new.list ≡ enlist header.list p → (is_pending header ≡ false → is_pending new ≡ true → room.full ≡ false) → IsAllowed room header new
  enlists p new has list free = record { pending = free; links = λ linked. go linked (needs_link room p header) refl room.link_free refl }
    where
      go : room.linked ≡ true → (c : Bool) → needs_link room p header ≡ c → (d : Bool) → room.link_free ≡ d → (links_in new ≤ links_in header) ⊎ ((links_in new ≤ links_in header + 1) × (room.link_free ≡ true))
      go linked false e d f = let k = links-kept header.list p (sym (ap (λ b. b && not (listed header.list p) && not (nobody_listed header.list)) linked) ∙ e) in inl (rw list k)
      go linked true e true f = inr (rw list (links-enlist header.list p), f)
      go linked true e false f = absurd (let a : (needs_link room p header && not room.link_free) ≡ true = rw (e, f) refl in let n : true ≡ false = sym a ∙ has in cc)

  get-allowed : (p : ℕ) → Allowed (on_get room p row)
  unfolding on_get
  get-allowed p =
      if-either Allowed (is_pending header) _ _ (λ _. same room header) (λ idle.
      (if-either Allowed (lacks_link room p header && room.link_pending) _ _ (λ _. same room header) (λ _.
      (if-either Allowed (lacks_link room p header && room.full) _ _ (λ _. same room header) (λ _.
      (if-either Allowed (lacks_link room p header) _ _ (λ _. same room header) (λ has.
      (if-either Allowed (header.dirty && header.local) _ _ (λ _. enlists p _ has refl (λ a b. absurd (never idle b))) (λ _.
      (if-either Allowed (header.dirty && room.full) _ _ (λ _. same room header) (λ free.
      (if-either Allowed header.dirty _ _ (λ dirty. enlists p _ has refl (λ a b. room-for header.dirty room.full dirty free)) (λ _. enlists p _ has refl (λ a b. absurd (never idle b)))))))))))))))
    where
      never : is_pending header ≡ false → is_pending header ≡ true → ⊥
      never a b = let n : false ≡ true = sym a ∙ b in cc

  calm : (new : Header) → is_idle new.wait ≡ true → links_in new ≤ links_in header → IsAllowed room header new
  calm new idle fewer = still room header new (λ _. ap not idle) fewer

  getx-allowed : (p : ℕ) → Allowed (on_getx room p row)
  unfolding on_getx
  getx-allowed p =
      if-either Allowed (is_pending header) _ _ (λ _. same room header) (λ idle.
      (if-either Allowed (header.dirty && header.local) _ _ (λ _. still room _ _ (λ e. e) (rw (links-only p) (omega arith))) (λ _.
      (if-either Allowed (header.dirty && room.full) _ _ (λ _. same room header) (λ free.
      (if-either Allowed header.dirty _ _ (λ dirty. starts room _ _ (room-for header.dirty room.full dirty free) (omega arith)) (λ _.
      (if-either Allowed (no_other p header.list) _ _ (λ _. still room _ _ (λ e. e) (rw (links-only p) (omega arith))) (λ _.
      (if-either Allowed room.full _ _ (λ _. same room header) (λ free. starts room _ _ free (links-unlist header.list p))))))))))))

  grant-allowed : (grantee : Grantee) (want : Option Want) (p : ℕ) → Allowed (grant grantee want (unlist header.list p) row)
  grant-allowed Nobody want p = calm _ refl (links-unlist header.list p)
  grant-allowed (Node n) want p = calm _ refl (rw (links-only n) (omega arith))
  grant-allowed Me None p = calm _ refl (links-unlist header.list p)
  grant-allowed Me (Some want) p = calm _ refl (links-unlist header.list p)

  ack-allowed : (p : ℕ) → Allowed (on_inv_ack p row)
  unfolding on_inv_ack
  ack-allowed p = if-either Allowed (nat_le header.acks 1) _ _ (λ _. grant-allowed (grantee_of header.wait) row.want p) (λ _. still room _ _ (λ e. e) (links-unlist header.list p))

  fack-allowed : Allowed (on_fack row)
  unfolding on_fack
  fack-allowed = calm _ refl (if-either (λ l. links l ≤ links header.list) header.dirty _ _ (λ _. rw (links-only (requester_of header.wait)) (omega arith)) (λ _. rw links-none (omega arith)))

  nakc-allowed : Allowed (on_nakc row)
  unfolding on_nakc
  nakc-allowed = calm _ refl (if-either (λ l. links l ≤ links header.list) header.dirty _ _ (λ _. links-unlist header.list (requester_of header.wait)) (λ _. rw links-none (omega arith)))

  wb-allowed : (words : List ℕ) → Allowed (on_wb words row)
  unfolding on_wb
  wb-allowed words = still room _ _ (λ e. e) (if-either (λ l. links l ≤ links header.list) (is_idle header.wait) _ _ (λ _. rw links-none (omega arith)) (λ _. omega arith))

  rpl-allowed : (p : ℕ) → Allowed (on_rpl p row)
  unfolding on_rpl
  rpl-allowed p = if-either Allowed (is_idle header.wait && not header.dirty) _ _ (λ _. still room _ _ (λ e. e) (links-unlist header.list p)) (λ _. same room header)

  fwd-allowed : (home requester : ℕ) → Allowed (on_fwd_get home requester row)
  unfolding on_fwd_get
  fwd-allowed home requester = if-either Allowed (is_exclusive row.copy) _ _ (λ _. same room header) (λ _. same room header)

  fwdx-allowed : (home requester : ℕ) → Allowed (on_fwd_getx home requester row)
  unfolding on_fwd_getx
  fwdx-allowed home requester = if-either Allowed (is_exclusive row.copy) _ _ (λ _. same room header) (λ _. same room header)

  put-allowed : (at_home : Bool) (words : List ℕ) → Allowed (on_put at_home words row)
  unfolding on_put
  put-allowed true words = calm _ refl (omega arith)
  put-allowed false words = same room header

  putx-allowed : (at_home : Bool) (words : List ℕ) (want : Option Want) → Allowed (on_putx at_home words (record row { want = want }))
  unfolding on_putx
  putx-allowed at_home words None = same room header
  putx-allowed true words (Some want) = calm _ refl (rw links-none (omega arith))
  putx-allowed false words (Some want) = same room header

  row-allowed : (me home src : ℕ) (content : Content) → Allowed (row_of me home src room content row)
  unfolding row_of on_inv on_nak on_shwb
  row-allowed me home src Get = get-allowed src
  row-allowed me home src GetX = getx-allowed src
  row-allowed me home src (FwdGet r) = fwd-allowed home r
  row-allowed me home src (FwdGetX r) = fwdx-allowed home r
  row-allowed me home src Inv = same room header
  row-allowed me home src (Wb words) = wb-allowed words
  row-allowed me home src Rpl = rpl-allowed src
  row-allowed me home src (Put words) = put-allowed (me == home) words
  row-allowed me home src (PutX words) = putx-allowed (me == home) words row.want
  row-allowed me home src (Nak cause) = same room header
  row-allowed me home src InvAck = ack-allowed src
  row-allowed me home src (ShWb words) = calm _ refl (omega arith)
  row-allowed me home src FAck = fack-allowed
  row-allowed me home src Nakc = nakc-allowed

  pub message-allowed : (me home src : ℕ) (alone : Bool) (content : Content) → Allowed (on_message me home src alone room content row)
  unfolding on_message
  message-allowed me home src alone content = if-either Allowed (meets me home src alone content row) _ _ (λ _. row-allowed me home src content) (λ _. same room header)
