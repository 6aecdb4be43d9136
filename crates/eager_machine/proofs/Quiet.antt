-- Which acts serve an operation of another node: only takes of a message, and those leave what their own node has begun as it was.
use Rattle.std.proofs.Common.{◌≡◌, ℕ, suc, Bool, true, false, cond, ◌==◌, ◌&&◌, List, refl, ap, arith, sym, ◌∙◌, Option, Some, None, Result, Ok, Err}
use Rattle.line_map.specs.Sizes.{Sizes, home_of, line_of}
use Rattle.op_model.specs.declared.events.Cause.{Cause}
use Rattle.op_model.specs.declared.messages.Msg.{Msg}
use Rattle.op_model.specs.declared.operations.Op.{Op}
use Rattle.op_model.specs.Messages.{Content, Get, GetX, FwdGet, FwdGetX, Inv, Wb, Rpl, Put, PutX, Nak, InvAck, ShWb, FAck, Nakc, msg_line, msg_content}
use Rattle.op_model.specs.Lines.{LineShare, Room, Outcome, For, sending, no_message}
use Rattle.op_model.specs.Operations.{Words}
use Rattle.op_model.specs.Shares.{Share, Unlinked, line_share, room_of, is_set_empty, put_share}
use Rattle.op_model.specs.Tables.Processor.{hit}
use Rattle.op_model.specs.Tables.Processor as delayed
use Rattle.op_model.specs.Tables.Remote as delayed_remote
use Rattle.op_model.specs.Tables.Home as delayed_home
use Rattle.op_model.specs.Events.Node.{Input, TakeFrom, NodeOutcome, by_row, map_ok}
use Rattle.machine.specs.Acts.{IsRead}
use Rattle.machine.proofs.Public.{begun-op, evicted, is_for, row-quiet, row-undone, row-want}
use Rattle.eager_model.specs.Node.{local, taking}
use Rattle.eager_model.specs.Rows.{begin_op, write_and_drain, writes_shared, asks_shared, give_and_drain, on_getx, on_inv_ack, meets, row_of, on_message}
use Rattle.eager_part.proofs.Public.{each-act}

begun : (me home : ℕ) (room : Room) (op : Op) (share : LineShare) (outcome : Outcome) → begin_op me home room op share ≡ Ok outcome → is_for outcome.served ≡ false
unfolding begin_op
begun me home room op share outcome is = go ((me == home) && writes_shared op share.header) (delayed.begin_op me home room op share) refl is
  where
    go : (drains : Bool) (r : Result Outcome Cause) → delayed.begin_op me home room op share ≡ r → map_ok (λ row. cond drains (write_and_drain home op share) row) r ≡ Ok outcome → is_for outcome.served ≡ false
    go true (Ok row) e whole = let same : write_and_drain home op share ≡ outcome = cc in ap (λ (o : Outcome). is_for o.served) (sym same)
    go false (Ok row) e whole = let same : row ≡ outcome = cc in begun-op me home room op share outcome (e ∙ ap Ok same)
    go drains (Err cause) e whole = cc

-- an act that serves another node leaves what its own node wants, and does nothing of its own
pub record IsCalm (share : LineShare) (outcome : Outcome) : Type 0 where
  pub want : outcome.share.want ≡ share.want
  pub undone : outcome.done ≡ false

-- a row of the delayed core
old-calm : (me home src : ℕ) (room : Room) (content : Content) (share : LineShare) → is_for (delayed_remote.row_of me home src room content share).served ≡ true → IsCalm share (delayed_remote.row_of me home src room content share)
old-calm me home src room content share is = record { want = row-quiet me home src room content share is; undone = row-undone me home src room content share is }

getx-calm : (me home src : ℕ) (room : Room) (share : LineShare) → is_for (on_getx room src share).served ≡ true → IsCalm share (on_getx room src share)
unfolding on_getx delayed_remote.row_of
getx-calm me home src room share is = go (asks_shared room src share.header) is
  where
    go : (drains : Bool) → is_for (cond drains (give_and_drain src share) (delayed_home.on_getx room src share)).served ≡ true → IsCalm share (cond drains (give_and_drain src share) (delayed_home.on_getx room src share))
    go true e = cc
    go false e = old-calm me home src room GetX share e

ack-calm : (home src : ℕ) (share : LineShare) → is_for (on_inv_ack home src share).served ≡ true → IsCalm share (on_inv_ack home src share)
unfolding on_inv_ack
ack-calm home src share is = grind arith

row-calm : (me home src : ℕ) (room : Room) (content : Content) (share : LineShare) → is_for (row_of me home src room content share).served ≡ true → IsCalm share (row_of me home src room content share)
unfolding row_of
row-calm me home src room Get share is = old-calm me home src room Get share is
row-calm me home src room GetX share is = getx-calm me home src room share is
row-calm me home src room (FwdGet requester) share is = old-calm me home src room (FwdGet requester) share is
row-calm me home src room (FwdGetX requester) share is = old-calm me home src room (FwdGetX requester) share is
row-calm me home src room Inv share is = old-calm me home src room Inv share is
row-calm me home src room (Wb words) share is = old-calm me home src room (Wb words) share is
row-calm me home src room Rpl share is = old-calm me home src room Rpl share is
row-calm me home src room (Put words) share is = old-calm me home src room (Put words) share is
row-calm me home src room (PutX words) share is = old-calm me home src room (PutX words) share is
row-calm me home src room (Nak cause) share is = old-calm me home src room (Nak cause) share is
row-calm me home src room InvAck share is = ack-calm home src share is
row-calm me home src room (ShWb words) share is = old-calm me home src room (ShWb words) share is
row-calm me home src room FAck share is = old-calm me home src room FAck share is
row-calm me home src room Nakc share is = old-calm me home src room Nakc share is

message-calm : (me home src : ℕ) (alone : Bool) (room : Room) (content : Content) (share : LineShare) → is_for (on_message me home src alone room content share).served ≡ true → IsCalm share (on_message me home src alone room content share)
unfolding on_message
message-calm me home src alone room content share is = go (meets me home src alone content share) is
  where
    go : (b : Bool) → is_for (cond b (row_of me home src room content share) (sending share no_message)).served ≡ true → IsCalm share (cond b (row_of me home src room content share) (sending share no_message))
    go true e = row-calm me home src room content share e
    go false e = cc

abbrev pub taken_in : Input → Option Msg
taken_in (TakeFrom src m victim) = Some m
taken_in _ = None

take-read : (sizes : Sizes) (node : ℕ) (share : Share) (src : ℕ) (m : Msg) → is_for (taking sizes node share src m).served ≡ true → IsRead share (by_row sizes node share (msg_line m) (taking sizes node share src m)) (Some m)
unfolding put_share
take-read sizes node share src m for =
    let line = msg_line m in
    let calm = message-calm node (home_of sizes line) src (is_set_empty sizes share line) (room_of Unlinked sizes share) (msg_content m) (line_share sizes share line) for in
    record {
      m = m;
      taken_is = refl;
      line = refl;
      place = ap (λ d. cond d (suc share.place) share.place) calm.undone;
      want = row-want sizes node share line (taking sizes node share src m) calm.want;
    }

-- whatever a node does
pub read : (sizes : Sizes) (node : ℕ) (program : List Op) (share : Share) (input : Input) (out : NodeOutcome) → local sizes node program share input ≡ Ok out → (reader : ℕ) (on : Words) → out.served ≡ For reader on → IsRead share out (taken_in input)
unfolding hit
read sizes node program share input out does reader on served =
    each-act sizes node program share (λ i (o : NodeOutcome). is_for o.served ≡ true → IsRead share o (taken_in i))
    (record {
      hits = λ op _ _ _ for. cc;
      begins = λ op _ _ _ o is for. let none = begun node (home_of sizes (line_of sizes op.word)) (room_of Unlinked sizes share) op (line_share sizes share (line_of sizes op.word)) o is in cc;
      evicts = λ line kind _ o is for. let none = evicted node (home_of sizes line) kind (line_share sizes share line) o is in cc;
      takes = λ src m. take-read sizes node share src m;
    }) input out does (ap is_for served)
