-- By which facts a message meets its row, and what the row then does.
-- The test and the row compute from these facts.
use Rattle.std.proofs.Common.{◌≡◌, ◌≢◌, ℕ, Bool, true, false, cond, ◌==◌, ◌&&◌, not, List, [], ◌∷◌, refl, arith, ap, sym, subst, None}
use Rattle.std.proofs.lemmas.Bool.{ne_eqb}
use Rattle.std.proofs.lemmas.Bool.Decides.{nat_tests}
use Rattle.line_invariant.specs.Types.{Op, Idle, Invalidate, Grantee, NakCause, Class, ForwardGet, ForwardGetX}
use Rattle.op_model.specs.Nodes.{listed, none}
use Rattle.op_model.specs.Operations.{is_load, Words, after_op}
use Rattle.op_model.specs.Messages.{Content, Get, GetX, FwdGet, FwdGetX, Inv, Wb, Rpl, Put, PutX, Nak, InvAck, ShWb, FAck, Nakc}
use Rattle.op_model.specs.Lines.{Absent, Room, LineShare, Outcome, NoService, Own, For, Shared, Exclusive, no_message, sending, is_idle, is_exclusive, is_empty}
use Rattle.op_model.specs.Tables.Home.{on_get, on_getx, on_inv_ack, on_shwb, on_fack, on_nakc, on_wb, on_rpl}
use Rattle.op_model.specs.Tables.Remote.{on_message, row_of, meets, on_inv, on_nak, on_put, on_putx, on_fwd_get, on_fwd_getx, gone, asks_well, is_invalidate}
use Rattle.op_model.proofs.Public.{eqb-self}
use Rattle.line_invariant.specs.Line.{Line, share_of, after_row, after_take, taken}
use Rattle.line_invariant.specs.Good.{IsGood, NoDuty, Returned, Handed}
use Rattle.line_invariant.specs.Rows.{wanting}
use Rattle.line_invariant.proofs.ForwardLanes.{backs}

-- a line after a message that does this
pub by-row : (home from to : ℕ) (class : Class) (content : Content) (rest : List Content) (room : Room) (line : Line) (outcome : Outcome) → on_message to home from (is_empty (line.copy to)) room content (share_of line to) ≡ outcome →
    IsGood home (after_row home to outcome (record line { lane = taken from to class rest line.lane })) →
    IsGood home (after_take home from to class content rest room line)
by-row home from to class content rest room line outcome e good =
    subst (λ o. IsGood home (after_row home to o (record line { lane = taken from to class rest line.lane }))) (sym e) good

module _ (p home : ℕ) (apart : p ≢ home) (from : ℕ) (room : Room) (share : LineShare) where
  pub does-inv : on_message p home from (is_empty share.copy) room Inv share ≡ on_inv home share
  unfolding on_message row_of meets on_inv
  does-inv = simp (ne_eqb p home apart)

  pub does-nak : (cause : NakCause) (op : Op) (marked : Bool) → share.want ≡ wanting op marked → on_message p home from (is_empty share.copy) room (Nak cause) share ≡ on_nak share
  unfolding on_message row_of meets on_nak
  does-nak cause op marked wants = simp (ne_eqb p home apart, wants)

  pub does-put : (words : Words) (op : Op) (marked : Bool) → share.want ≡ wanting op marked → is_load op.kind ≡ true → share.copy ≡ Absent →
      on_message p home from (is_empty share.copy) room (Put words) share ≡ record { share = record share { copy = cond marked share.copy (Shared words); want = None }; sends = no_message; served = NoService; done = true }
  unfolding on_message row_of meets on_put
  does-put words op marked wants load empty = simp (ne_eqb p home apart, wants, load, empty)

-- a Get of a line that the asker doesn't own
pub does-get : (home from : ℕ) (room : Room) (share : LineShare) → from ≢ home → (is_idle share.header.wait ≡ true → share.header.dirty ≡ true → share.header.local ≡ false → listed share.header.list from ≡ false) →
    on_message home home from (is_empty share.copy) room Get share ≡ on_get room from share
unfolding on_message row_of meets
does-get home from room share apart strange =
    let on : (home == home) ≡ true = eqb-self home in
    let off : (from == home) ≡ false = ne_eqb from home apart in
    let well : asks_well from share.header ≡ true = asks-well (is_idle share.header.wait) share.header.dirty share.header.local (listed share.header.list from) strange in
    simp (on, off, well)
  where
    asks-well : (idle dirty local lists : Bool) → (idle ≡ true → dirty ≡ true → local ≡ false → lists ≡ false) → not (idle && dirty && not local && lists) ≡ true
    asks-well idle dirty local lists h = grind arith

pub does-ack : (home from : ℕ) (room : Room) (share : LineShare) (grantee : Grantee) → share.header.wait ≡ Invalidate grantee → listed share.header.list from ≡ true → on_message home home from (is_empty share.copy) room InvAck share ≡ on_inv_ack from share
unfolding on_message row_of meets
does-ack home from room share grantee waits has = simp (eqb-self home, waits, has)

pub does-getx : (home from : ℕ) (room : Room) (share : LineShare) → from ≢ home → (is_idle share.header.wait ≡ true → share.header.dirty ≡ true → share.header.local ≡ false → listed share.header.list from ≡ false) →
    on_message home home from (is_empty share.copy) room GetX share ≡ on_getx room from share
unfolding on_message row_of meets
does-getx home from room share apart strange =
    let on : (home == home) ≡ true = eqb-self home in
    let off : (from == home) ≡ false = ne_eqb from home apart in
    let well : asks_well from share.header ≡ true = asks-well (is_idle share.header.wait) share.header.dirty share.header.local (listed share.header.list from) strange in
    simp (on, off, well)
  where
    asks-well : (idle dirty local lists : Bool) → (idle ≡ true → dirty ≡ true → local ≡ false → lists ≡ false) → not (idle && dirty && not local && lists) ≡ true
    asks-well idle dirty local lists h = grind arith

module _ (home from : ℕ) (room : Room) (share : LineShare) where
  pub does-wb : (words : Words) → share.header.dirty ≡ true → share.header.local ≡ false → is_invalidate share.header.wait ≡ false → on_message home home from (is_empty share.copy) room (Wb words) share ≡ on_wb words share
  unfolding on_message row_of meets
  does-wb words dirty away calm = simp (eqb-self home, dirty, away, calm)

  pub does-rpl : on_message home home from (is_empty share.copy) room Rpl share ≡ on_rpl from share
  unfolding on_message row_of meets
  does-rpl = simp (eqb-self home)

  pub does-shwb : (words : Words) (r : ℕ) → share.header.wait ≡ ForwardGet r → r ≢ home → on_message home home from (is_empty share.copy) room (ShWb words) share ≡ on_shwb words share
  unfolding on_message row_of meets
  does-shwb words r waits far = simp (eqb-self home, waits, ne_eqb r home far)

  pub does-fack : (r : ℕ) → share.header.wait ≡ ForwardGetX r → r ≢ home → on_message home home from (is_empty share.copy) room FAck share ≡ on_fack share
  unfolding on_message row_of meets
  does-fack r waits far = simp (eqb-self home, waits, ne_eqb r home far)

  pub does-nakc : (w : Bool) (r : ℕ) → share.header.wait ≡ cond w (ForwardGetX r) (ForwardGet r) → on_message home home from (is_empty share.copy) room Nakc share ≡ on_nakc share
  unfolding on_message row_of meets
  does-nakc true r waits = simp (eqb-self home, waits)
  does-nakc false r waits = simp (eqb-self home, waits)

  pub does-home-put : (words : Words) (op : Op) (marked : Bool) → share.want ≡ wanting op marked → is_load op.kind ≡ true → share.copy ≡ Absent → share.header.wait ≡ ForwardGet home →
      on_message home home from (is_empty share.copy) room (Put words) share ≡ record { share = record { copy = Shared words; want = None; header = record share.header { local = true; dirty = false; wait = Idle; memory = words } }; sends = no_message; served = NoService; done = true }
  unfolding on_message row_of meets on_put
  does-home-put words op marked wants load empty waits = simp (eqb-self home, wants, load, empty, waits)

  pub does-home-putx : (words : Words) (op : Op) (marked : Bool) → share.want ≡ wanting op marked → is_load op.kind ≡ false → share.copy ≡ Absent → share.header.wait ≡ ForwardGetX home →
      on_message home home from (is_empty share.copy) room (PutX words) share ≡ record { share = record { copy = Exclusive (after_op op words); want = None; header = record share.header { local = true; dirty = true; wait = Idle; list = none } }; sends = no_message; served = Own op words; done = true }
  unfolding on_message row_of meets on_putx
  does-home-putx words op marked wants write empty waits =
      simp (eqb-self home, wants, write, empty, waits) (ap (λ w. on_putx true words (record share { want = w })) wants)

  pub does-home-nak : (cause : NakCause) (w : Bool) (op : Op) (marked : Bool) → share.want ≡ wanting op marked → share.header.wait ≡ cond w (ForwardGetX home) (ForwardGet home) → on_message home home from (is_empty share.copy) room (Nak cause) share ≡ on_nak share
  unfolding on_message row_of meets on_nak
  does-home-nak cause true op marked wants waits = simp (eqb-self home, wants, waits)
  does-home-nak cause false op marked wants waits = simp (eqb-self home, wants, waits)

module _ (p home : ℕ) (apart : p ≢ home) (from : ℕ) (room : Room) (share : LineShare) where
  pub does-putx : (words : Words) (op : Op) (marked : Bool) → share.want ≡ wanting op marked → is_load op.kind ≡ false → share.copy ≡ Absent →
      on_message p home from (is_empty share.copy) room (PutX words) share ≡ record { share = record share { copy = Exclusive (after_op op words); want = None }; sends = no_message; served = Own op words; done = true }
  unfolding on_message row_of meets on_putx
  does-putx words op marked wants write empty =
      simp (ne_eqb p home apart, wants, write, empty) (ap (λ w. on_putx false words (record share { want = w })) wants)

  pub does-fwd-gone : (requester : ℕ) → is_exclusive share.copy ≡ false → on_message p home from (is_empty share.copy) room (FwdGet requester) share ≡ gone home requester share
  unfolding on_message row_of meets on_fwd_get
  does-fwd-gone requester none_left = simp (ne_eqb p home apart, none_left)

  pub does-fwdx-gone : (requester : ℕ) → is_exclusive share.copy ≡ false → on_message p home from (is_empty share.copy) room (FwdGetX requester) share ≡ gone home requester share
  unfolding on_message row_of meets on_fwd_getx
  does-fwdx-gone requester none_left = simp (ne_eqb p home apart, none_left)

  pub does-fwd : (r : ℕ) (has : Words) → share.copy ≡ Exclusive has → on_message p home from (is_empty share.copy) room (FwdGet r) share ≡ record { share = record share { copy = Shared has }; sends = (r, Put has) ∷ backs home (cond (r == home) NoDuty (Returned has)); served = For r has; done = false }
  unfolding on_message row_of meets on_fwd_get
  does-fwd r has is = simp (ne_eqb p home apart, is) (λ i. record { share = record share { copy = Shared has }; sends = to (r == home) refl i; served = For r has; done = false })
    where
      to : (c : Bool) → (r == home) ≡ c → cond c ((home, Put has) ∷ []) ((r, Put has) ∷ (home, ShWb has) ∷ []) ≡ (r, Put has) ∷ backs home (cond c NoDuty (Returned has))
      to true e = let same : home ≡ r = grind (arith, nat_tests) in ap (λ n. (n, Put has) ∷ []) same
      to false e = refl

  pub does-fwdx : (r : ℕ) (has : Words) → share.copy ≡ Exclusive has → on_message p home from (is_empty share.copy) room (FwdGetX r) share ≡ sending (record share { copy = Absent }) ((r, PutX has) ∷ backs home (cond (r == home) NoDuty Handed))
  unfolding on_message row_of meets on_fwd_getx
  does-fwdx r has is = simp (ne_eqb p home apart, is) (λ i. sending (record share { copy = Absent }) (to (r == home) refl i))
    where
      to : (c : Bool) → (r == home) ≡ c → cond c ((home, PutX has) ∷ []) ((r, PutX has) ∷ (home, FAck) ∷ []) ≡ (r, PutX has) ∷ backs home (cond c NoDuty Handed)
      to true e = let same : home ≡ r = grind (arith, nat_tests) in ap (λ n. (n, PutX has) ∷ []) same
      to false e = refl
