-- What a row does on any line, whether it drains or not: what the rows of the delayed core do, but for those of a drain.
use Rattle.std.proofs.Common.{◌≡◌, ◌≢◌, ℕ, Bool, true, false, cond, nat_le, ◌==◌, ◌&&◌, not, refl, inr, Result, Ok, Err, Option, Some, None}
use Rattle.std.proofs.lemmas.Bool.{ne_eqb}
use Rattle.eager_model.specs.Types.{Cause, Op, Want}
use Rattle.op_model.specs.Operations.{Words}
use Rattle.op_model.specs.Messages.{Content, Get, GetX, FwdGet, FwdGetX, Inv, Wb, Rpl, Put, PutX, Nak, InvAck, ShWb, FAck, Nakc}
use Rattle.op_model.specs.Lines.{Absent, Header, LineShare, Room, Outcome, sending, no_message, is_empty}
use Rattle.op_model.specs.Tables.Home.{on_wb}
use Rattle.op_model.specs.Tables.Home as delayed_home
use Rattle.op_model.specs.Tables.Processor as delayed_processor
use Rattle.op_model.specs.Tables.Remote as delayed
use Rattle.op_model.specs.Events.Node.{map_ok}
use Rattle.line_invariant.specs.Rows.{wanting, IsPut, IsWantKept, EndsRight}
use Rattle.line_invariant.proofs.Public.{done-right, if-either, keeps-want, same-alone, stays-empty}
use Rattle.line_invariant.proofs.Public.{stays-still}
use Rattle.eager_model.specs.Rows.{asks_shared, begin_op, write_and_drain, writes_shared, give_and_drain, on_getx, on_inv_ack, meets, row_of, on_message}

same-want : (want : Option Want) → IsWantKept want want
same-want None = refl
same-want (Some want) = inr (want.marked, refl)

module _ (me home from : ℕ) (alone : Bool) (room : Room) (share : LineShare) where
  -- a message does what it does in the delayed core, or it is one of those whose rows differ
  row-is : (P : Outcome → Type 0) (content : Content) → P (delayed.on_message me home from alone room content share) → P (give_and_drain from share) → ((words : Words) → P (on_wb words share)) → P (on_inv_ack home from share) → P (sending share no_message) →
      P (on_message me home from alone room content share)
  unfolding on_message row_of meets on_getx delayed.on_message delayed.row_of
  row-is P GetX same gives backs acks stays = go (delayed.meets me home from alone GetX share) (asks_shared room from share.header) same
    where
      go : (m a : Bool) → P (cond m (delayed_home.on_getx room from share) (sending share no_message)) →
          P (cond m (cond a (give_and_drain from share) (delayed_home.on_getx room from share)) (sending share no_message))
      go true true h = gives
      go true false h = h
      go false a h = h
  row-is P (Wb words) same gives backs acks stays = if-either P ((me == home) && share.header.dirty && not share.header.local) _ _ (λ _. backs words) (λ _. stays)
  row-is P InvAck same gives backs acks stays = if-either P (delayed.meets me home from alone InvAck share) _ _ (λ _. acks) (λ _. stays)
  row-is P Get same gives backs acks stays = same
  row-is P (FwdGet r) same gives backs acks stays = same
  row-is P (FwdGetX r) same gives backs acks stays = same
  row-is P Inv same gives backs acks stays = same
  row-is P Rpl same gives backs acks stays = same
  row-is P (Put words) same gives backs acks stays = same
  row-is P (PutX words) same gives backs acks stays = same
  row-is P (Nak cause) same gives backs acks stays = same
  row-is P (ShWb words) same gives backs acks stays = same
  row-is P FAck same gives backs acks stays = same
  row-is P Nakc same gives backs acks stays = same

  -- what holds after both rows of an InvAck
  acked-is : (P : Outcome → Type 0) → ((header : Header) → P (sending (record share { header = header }) no_message)) → P (on_inv_ack home from share)
  unfolding on_inv_ack
  acked-is P all = if-either P (nat_le share.header.acks 1) _ _ (λ _. all _) (λ _. all _)

  backed-is : (P : Outcome → Type 0) → ((header : Header) → P (sending (record share { header = header }) no_message)) → (words : Words) → P (on_wb words share)
  unfolding on_wb
  backed-is P all words = all _

  pub eager-want : (content : Content) → IsWantKept share.want (on_message me home from alone room content share).share.want
  eager-want content =
      row-is Keeps content (keeps-want me home from alone room share content) (same-want share.want) (backed-is Keeps (λ header. same-want share.want)) (acked-is Keeps (λ header. same-want share.want)) (same-want share.want)
    where
      Keeps : Outcome → Type 0
      Keeps o = IsWantKept share.want o.share.want

  pub eager-done : (Known : Type 0) (content : Content) → (IsPut content → Known) → EndsRight Known (on_message me home from alone room content share)
  eager-done Known content known =
      row-is (EndsRight Known) content (done-right me home from alone room share Known content known) tt (backed-is (EndsRight Known) (λ header. tt)) (acked-is (EndsRight Known) (λ header. tt)) tt

  pub eager-still : share.want ≡ None → (content : Content) → (on_message me home from alone room content share).done ≡ false
  eager-still none content = row-is Still content (stays-still me home from alone room share none content) refl (backed-is Still (λ header. refl)) (acked-is Still (λ header. refl)) refl
    where
      Still : Outcome → Type 0
      Still o = o.done ≡ false

  pub eager-empty : share.copy ≡ Absent → share.want ≡ None → (me ≡ home → share.header.local ≡ not (is_empty share.copy)) → (content : Content) → (on_message me home from alone room content share).share.copy ≡ Absent
  eager-empty empty none local content = row-is Empty content (stays-empty me home from alone room share empty none local content) refl (backed-is Empty (λ header. empty)) (acked-is Empty (λ header. empty)) empty
    where
      Empty : Outcome → Type 0
      Empty o = o.share.copy ≡ Absent

  -- elsewhere than at the home nothing differs
  pub eager-elsewhere : me ≢ home → (content : Content) → on_message me home from alone room content share ≡ delayed.on_message me home from alone room content share
  unfolding on_message row_of meets on_getx delayed.on_message delayed.row_of delayed.meets
  eager-elsewhere far GetX = rw (ne_eqb me home far)
  eager-elsewhere far (Wb words) = rw (ne_eqb me home far)
  eager-elsewhere far InvAck = rw (ne_eqb me home far)
  eager-elsewhere far Get = refl
  eager-elsewhere far (FwdGet r) = refl
  eager-elsewhere far (FwdGetX r) = refl
  eager-elsewhere far Inv = refl
  eager-elsewhere far Rpl = refl
  eager-elsewhere far (Put words) = refl
  eager-elsewhere far (PutX words) = refl
  eager-elsewhere far (Nak cause) = refl
  eager-elsewhere far (ShWb words) = refl
  eager-elsewhere far FAck = refl
  eager-elsewhere far Nakc = refl

  pub begins-elsewhere : me ≢ home → (op : Op) → begin_op me home room op share ≡ delayed_processor.begin_op me home room op share
  unfolding begin_op
  begins-elsewhere far op = rw (ne_eqb me home far) (same (delayed_processor.begin_op me home room op share))
    where
      same : (r : Result Outcome Cause) → map_ok (λ row. cond (false && writes_shared op share.header) (write_and_drain home op share) row) r ≡ r
      same (Ok row) = refl
      same (Err cause) = refl

-- it is the same whether a node's set or its copy of the line is empty, where one that waits for the line has both empty
pub eager-alone : (me home from : ℕ) (alone : Bool) (room : Room) (share : LineShare) → ((op : Op) (marked : Bool) → share.want ≡ wanting op marked → alone ≡ is_empty share.copy) → (content : Content) → meets me home from alone content share ≡ meets me home from (is_empty share.copy) content share
unfolding meets
eager-alone me home from alone room share waits (Wb words) = refl
eager-alone me home from alone room share waits Get = same-alone me home from room share alone waits Get
eager-alone me home from alone room share waits GetX = same-alone me home from room share alone waits GetX
eager-alone me home from alone room share waits (FwdGet r) = same-alone me home from room share alone waits (FwdGet r)
eager-alone me home from alone room share waits (FwdGetX r) = same-alone me home from room share alone waits (FwdGetX r)
eager-alone me home from alone room share waits Inv = same-alone me home from room share alone waits Inv
eager-alone me home from alone room share waits Rpl = same-alone me home from room share alone waits Rpl
eager-alone me home from alone room share waits (Put words) = same-alone me home from room share alone waits (Put words)
eager-alone me home from alone room share waits (PutX words) = same-alone me home from room share alone waits (PutX words)
eager-alone me home from alone room share waits (Nak cause) = same-alone me home from room share alone waits (Nak cause)
eager-alone me home from alone room share waits InvAck = same-alone me home from room share alone waits InvAck
eager-alone me home from alone room share waits (ShWb words) = same-alone me home from room share alone waits (ShWb words)
eager-alone me home from alone room share waits FAck = same-alone me home from room share alone waits FAck
eager-alone me home from alone room share waits Nakc = same-alone me home from room share alone waits Nakc
