-- Which rows serve an operation of another node: only takes of a message, and those leave what their own node has begun as it was.
use Rattle.std.proofs.Common.{◌≡◌, ℕ, suc, Bool, true, false, cond, ◌==◌, List, refl, ap, sym, subst, arith, ◌∙◌, Option, Some, None, Result, Ok, Err}
use Rattle.std.specs.Prelude.{slice_get, not, ◌&&◌}
use Rattle.line_map.specs.Sizes.{Sizes, line_of, home_of}
use Rattle.op_model.specs.declared.events.Cause.{Cause}
use Rattle.op_model.specs.declared.events.EvictKind.{EvictKind}
use Rattle.op_model.specs.declared.messages.Msg.{Msg}
use Rattle.op_model.specs.declared.operations.Op.{Op}
use Rattle.op_model.specs.declared.state.Want.{Want}
use Rattle.op_model.specs.declared.state.Grantee.{Grantee}
use Rattle.op_model.specs.declared.state.Grantee.TheVariants.{Nobody, Me, Node}
use Rattle.op_model.specs.Nodes.{Nodes}
use Rattle.op_model.specs.Operations.{Words}
use Rattle.op_model.specs.Messages.{Content, Get, GetX, FwdGet, FwdGetX, Inv, Wb, Rpl, Put, PutX, Nak, InvAck, ShWb, FAck, Nakc, msg_line, msg_content}
use Rattle.op_model.specs.Lines.{LineShare, Room, Service, NoService, Own, For, Outcome, sending, no_message}
use Rattle.op_model.specs.Shares.{Charge, Share, want_on, want_after, line_share, put_share, room_of, is_set_empty, conflicts}
use Rattle.op_model.specs.Tables.Processor.{serves, hit, begin_op, begin_at_home, ask, evict, reclaim, call_in}
use Rattle.op_model.specs.Tables.Home.{on_get, on_getx, on_inv_ack, on_shwb, on_fack, on_nakc, on_wb, on_rpl, grant}
use Rattle.op_model.specs.Tables.Remote.{meets, on_message, row_of, on_fwd_get, on_fwd_getx, on_inv, on_put, on_putx, on_nak}
use Rattle.op_model.specs.Events.Node.{Input, HitNext, IssueNext, EvictLine, TakeFrom, ReclaimLine, NodeOutcome, local, with_next, hit_next, issue_next, evict_line, with_victim, by_row, and_call, map_ok, bind, is_outstanding, taking, asks_victim, fits_victim, departs}
use Rattle.op_model.proofs.Public.{want-stays}
use Rattle.magic_node.specs.Nodes.{input_of}
use Rattle.magic_node.specs.declared.acts.LocalEvent.{LocalEvent}
use Rattle.magic_node.specs.declared.acts.LocalEvent.TheVariants as own

-- whether the load of another node is served
abbrev pub is_for : Service → Bool
is_for NoService = false
is_for (Own op on) = false
is_for (For reader on) = true

pub not-for : (service : Service) (reader : ℕ) (on : Words) → is_for service ≡ false → service ≡ For reader on → ⊥
not-for service reader on none is = let yes : is_for service ≡ true = ap is_for is in cc

begun-at-home : (home : ℕ) (room : Room) (op : Op) (share : LineShare) (outcome : Outcome) → begin_at_home home room op share ≡ Ok outcome → is_for outcome.served ≡ false
unfolding begin_at_home
begun-at-home home room op share outcome is = grind arith

pub begun-op : (me home : ℕ) (room : Room) (op : Op) (share : LineShare) (outcome : Outcome) → begin_op me home room op share ≡ Ok outcome → is_for outcome.served ≡ false
unfolding begin_op ask
begun-op me home room op share outcome is = let h = begun-at-home home room op share outcome in grind arith

pub evicted : (me home : ℕ) (kind : EvictKind) (share : LineShare) (outcome : Outcome) → evict me home kind share ≡ Ok outcome → is_for outcome.served ≡ false
unfolding evict
evicted me home kind share outcome is = grind arith

called-in : (room : Room) (share : LineShare) (outcome : Outcome) → reclaim room share ≡ Ok outcome → is_for outcome.served ≡ false
unfolding reclaim
called-in room share outcome is = grind arith

granted : (grantee : Grantee) (want : Option Want) (list : Nodes) (share : LineShare) → is_for (grant grantee want list share).served ≡ false
granted Nobody want list share = refl
granted (Node node) want list share = refl
granted Me None list share = refl
granted Me (Some want) list share = refl

written-for : (at_home : Bool) (words : Words) (share : LineShare) (want : Option Want) → share.want ≡ want → is_for (on_putx at_home words share).served ≡ false
unfolding on_putx
written-for at_home words share None is = rw is refl
written-for at_home words share (Some want) is = rw is refl

-- the row of a message that serves another node leaves what this one wants, and does nothing of its own
pub row-quiet : (me home src : ℕ) (room : Room) (content : Content) (share : LineShare) → is_for (row_of me home src room content share).served ≡ true → (row_of me home src room content share).share.want ≡ share.want
unfolding row_of on_get on_getx on_fwd_get on_fwd_getx on_inv on_wb on_rpl on_put on_nak on_inv_ack on_shwb on_fack on_nakc
row-quiet me home src room Get share is = grind arith
row-quiet me home src room GetX share is = grind arith
row-quiet me home src room (FwdGet requester) share is = grind arith
row-quiet me home src room (FwdGetX requester) share is = grind arith
row-quiet me home src room Inv share is = grind arith
row-quiet me home src room (Wb words) share is = grind arith
row-quiet me home src room Rpl share is = grind arith
row-quiet me home src room (Put words) share is = grind arith
row-quiet me home src room (PutX words) share is = let f = written-for (me == home) words share share.want refl in grind arith
row-quiet me home src room (Nak cause) share is = grind arith
row-quiet me home src room InvAck share is = grind (arith, granted)
row-quiet me home src room (ShWb words) share is = grind arith
row-quiet me home src room FAck share is = grind arith
row-quiet me home src room Nakc share is = grind arith

pub row-undone : (me home src : ℕ) (room : Room) (content : Content) (share : LineShare) → is_for (row_of me home src room content share).served ≡ true → (row_of me home src room content share).done ≡ false
unfolding row_of on_get on_getx on_fwd_get on_fwd_getx on_inv on_wb on_rpl on_put on_nak on_inv_ack on_shwb on_fack on_nakc
row-undone me home src room Get share is = grind arith
row-undone me home src room GetX share is = grind arith
row-undone me home src room (FwdGet requester) share is = grind arith
row-undone me home src room (FwdGetX requester) share is = grind arith
row-undone me home src room Inv share is = grind arith
row-undone me home src room (Wb words) share is = grind arith
row-undone me home src room Rpl share is = grind arith
row-undone me home src room (Put words) share is = grind arith
row-undone me home src room (PutX words) share is = let f = written-for (me == home) words share share.want refl in grind arith
row-undone me home src room (Nak cause) share is = grind arith
row-undone me home src room InvAck share is = grind (arith, granted)
row-undone me home src room (ShWb words) share is = grind arith
row-undone me home src room FAck share is = grind arith
row-undone me home src room Nakc share is = grind arith

-- what a node does by itself serves nobody else
next-alone : (share : Share) (next : Option Op) (f : Op → Result NodeOutcome Cause) (out : NodeOutcome) → ((op : Op) → f op ≡ Ok out → is_for out.served ≡ false) → with_next share next f ≡ Ok out → is_for out.served ≡ false
next-alone share None f out each is = cc
next-alone share (Some op) f out each is = go (is_outstanding share.want) is
  where
    go : (b : Bool) → cond b (Err Cause.Outstanding) (f op) ≡ Ok out → is_for out.served ≡ false
    go true e = cc
    go false e = each op e

mapped : (sizes : Sizes) (me : ℕ) (share : Share) (line : ℕ) (r : Result Outcome Cause) (out : NodeOutcome) → ((outcome : Outcome) → r ≡ Ok outcome → is_for outcome.served ≡ false) → map_ok (by_row sizes me share line) r ≡ Ok out → is_for out.served ≡ false
mapped sizes me share line (Ok outcome) out each is = let same : by_row sizes me share line outcome ≡ out = cc in ap (λ (o : NodeOutcome). is_for o.served) (sym same) ∙ each outcome refl
mapped sizes me share line (Err cause) out each is = cc

hit-alone : (sizes : Sizes) (me : ℕ) (share : Share) (op : Op) (out : NodeOutcome) → hit_next sizes me share op ≡ Ok out → is_for out.served ≡ false
unfolding hit
hit-alone sizes me share op out is = grind arith

issue-alone : (charge : Charge) (sizes : Sizes) (me : ℕ) (share : Share) (op : Op) (out : NodeOutcome) → issue_next charge sizes me share op ≡ Ok out → is_for out.served ≡ false
issue-alone charge sizes me share op out is =
    go (serves op (line_share sizes share (line_of sizes op.word)).copy) (conflicts sizes share (line_of sizes op.word)) is
  where
    go : (a b : Bool) → cond a (Err Cause.HitFirst) (cond b (Err Cause.Conflict) (map_ok (by_row sizes me share (line_of sizes op.word)) (begin_op me (home_of sizes (line_of sizes op.word)) (room_of charge sizes share) op (line_share sizes share (line_of sizes op.word))))) ≡ Ok out → is_for out.served ≡ false
    go true b e = cc
    go false true e = cc
    go false false e = mapped sizes me share (line_of sizes op.word) _ out (begun-op me (home_of sizes (line_of sizes op.word)) (room_of charge sizes share) op (line_share sizes share (line_of sizes op.word))) e

evict-alone : (sizes : Sizes) (me : ℕ) (share : Share) (line : ℕ) (kind : EvictKind) (room : Bool) (out : NodeOutcome) → evict_line sizes me share line kind room ≡ Ok out → is_for out.served ≡ false
evict-alone sizes me share line kind room out is = go (evict me (home_of sizes line) kind (line_share sizes share line)) (evicted me (home_of sizes line) kind (line_share sizes share line)) is
  where
    gate : (b : Bool) (outcome : Outcome) → is_for outcome.served ≡ false → cond b (Err Cause.LaneGate) (Ok (by_row sizes me share line outcome)) ≡ Ok out → is_for out.served ≡ false
    gate true outcome calm e = cc
    gate false outcome calm e = let same : by_row sizes me share line outcome ≡ out = cc in ap (λ (o : NodeOutcome). is_for o.served) (sym same) ∙ calm

    go : (r : Result Outcome Cause) → ((outcome : Outcome) → r ≡ Ok outcome → is_for outcome.served ≡ false) → bind r (λ outcome. cond (departs (me == home_of sizes line) kind && not room) (Err Cause.LaneGate) (Ok (by_row sizes me share line outcome))) ≡ Ok out → is_for out.served ≡ false
    go (Ok outcome) each e = gate (departs (me == home_of sizes line) kind && not room) outcome (each outcome refl) e
    go (Err cause) each e = cc

pub alone-for : (charge : Charge) (sizes : Sizes) (me : ℕ) (program : List Op) (share : Share) (event : LocalEvent) (room : Bool) (out : NodeOutcome) → local charge sizes me program share (input_of event room) ≡ Ok out → is_for out.served ≡ false
unfolding local
alone-for charge sizes me program share own.Hit room out is = next-alone share (slice_get program share.place) (hit_next sizes me share) out (λ op. hit-alone sizes me share op out) is
alone-for charge sizes me program share own.Issue room out is = next-alone share (slice_get program share.place) (issue_next charge sizes me share) out (λ op. issue-alone charge sizes me share op out) is
alone-for charge sizes me program share (own.Evict line kind) room out is = evict-alone sizes me share line kind room out is
alone-for charge sizes me program share (own.Reclaim line) room out is = mapped sizes me share line _ out (called-in (room_of charge sizes share) (line_share sizes share line)) is

-- a message is taken with its line, whether a line is called in beside it or not
with-line : (charge : Charge) (sizes : Sizes) (me : ℕ) (share : Share) (asks : Bool) (victim : Option ℕ) (row out : NodeOutcome) → with_victim charge sizes me share asks victim row ≡ Ok out → out.line ≡ row.line
with-line charge sizes me share true None row out is = cc
with-line charge sizes me share true (Some victim) row out is = go (fits_victim charge sizes me share victim) is
  where
    go : (b : Bool) → cond b (Ok (and_call sizes me victim row)) (Err Cause.VictimUnfit) ≡ Ok out → out.line ≡ row.line
    go true e = let same : and_call sizes me victim row ≡ out = cc in ap (λ (o : NodeOutcome). o.line) (sym same)
    go false e = cc
with-line charge sizes me share false None row out is = let same : row ≡ out = cc in ap (λ (o : NodeOutcome). o.line) (sym same)
with-line charge sizes me share false (Some victim) row out is = cc

pub take-line : (charge : Charge) (sizes : Sizes) (me : ℕ) (program : List Op) (share : Share) (src : ℕ) (m : Msg) (victim : Option ℕ) (out : NodeOutcome) → local charge sizes me program share (TakeFrom src m victim) ≡ Ok out → out.line ≡ msg_line m
unfolding local
take-line charge sizes me program share src m victim out is = with-line charge sizes me share (asks_victim charge sizes me share src m) victim (by_row sizes me share (msg_line m) (taking charge sizes me share src m)) out is

message-quiet : (me home src : ℕ) (alone : Bool) (room : Room) (content : Content) (share : LineShare) → is_for (on_message me home src alone room content share).served ≡ true → (on_message me home src alone room content share).share.want ≡ share.want
unfolding on_message
message-quiet me home src alone room content share is = go (meets me home src alone content share) is
  where
    go : (b : Bool) → is_for (cond b (row_of me home src room content share) (sending share no_message)).served ≡ true → (cond b (row_of me home src room content share) (sending share no_message)).share.want ≡ share.want
    go true e = row-quiet me home src room content share e
    go false e = refl

message-undone : (me home src : ℕ) (alone : Bool) (room : Room) (content : Content) (share : LineShare) → is_for (on_message me home src alone room content share).served ≡ true → (on_message me home src alone room content share).done ≡ false
unfolding on_message
message-undone me home src alone room content share is = go (meets me home src alone content share) is
  where
    go : (b : Bool) → is_for (cond b (row_of me home src room content share) (sending share no_message)).served ≡ true → (cond b (row_of me home src room content share) (sending share no_message)).done ≡ false
    go true e = row-undone me home src room content share e
    go false e = refl

-- the place of a node moves where its operation is done, and only there
abbrev IsPlaced : Share → NodeOutcome → Type 0
IsPlaced share out = out.share.place ≡ cond out.done (suc share.place) share.place

row-place : (sizes : Sizes) (me : ℕ) (share : Share) (line : ℕ) (outcome : Outcome) → IsPlaced share (by_row sizes me share line outcome)
unfolding put_share
row-place sizes me share line outcome = refl

pub row-want : (sizes : Sizes) (me : ℕ) (share : Share) (line : ℕ) (outcome : Outcome) → outcome.share.want ≡ want_on sizes share.want line → (by_row sizes me share line outcome).share.want ≡ share.want
unfolding put_share
row-want sizes me share line outcome same = ap (want_after sizes share.want line) same ∙ want-stays sizes share.want line

call-place : (sizes : Sizes) (me : ℕ) (share : Share) (victim : ℕ) (out : NodeOutcome) → IsPlaced share out → IsPlaced share (and_call sizes me victim out)
unfolding put_share
call-place sizes me share victim out placed = placed

call-want : (sizes : Sizes) (me victim : ℕ) (out : NodeOutcome) → (and_call sizes me victim out).share.want ≡ out.share.want
call-want sizes me victim out = row-want sizes me out.share victim (call_in (line_share sizes out.share victim)) refl

with-kept : (P : NodeOutcome → Type 0) (charge : Charge) (sizes : Sizes) (me : ℕ) (share : Share) (asks : Bool) (victim : Option ℕ) (row out : NodeOutcome) → P row → ((line : ℕ) → P (and_call sizes me line row)) →
    with_victim charge sizes me share asks victim row ≡ Ok out → P out
with-kept P charge sizes me share true None row out here called is = cc
with-kept P charge sizes me share true (Some victim) row out here called is = go (fits_victim charge sizes me share victim) is
  where
    go : (b : Bool) → cond b (Ok (and_call sizes me victim row)) (Err Cause.VictimUnfit) ≡ Ok out → P out
    go true e = let same : and_call sizes me victim row ≡ out = cc in subst P same (called victim)
    go false e = cc
with-kept P charge sizes me share false None row out here called is = let same : row ≡ out = cc in subst P same here
with-kept P charge sizes me share false (Some victim) row out here called is = cc

mapped-place : (sizes : Sizes) (me : ℕ) (share : Share) (line : ℕ) (r : Result Outcome Cause) (out : NodeOutcome) → map_ok (by_row sizes me share line) r ≡ Ok out → IsPlaced share out
mapped-place sizes me share line (Ok outcome) out is = let same : by_row sizes me share line outcome ≡ out = cc in subst (IsPlaced share) same (row-place sizes me share line outcome)
mapped-place sizes me share line (Err cause) out is = cc

next-place : (share : Share) (next : Option Op) (f : Op → Result NodeOutcome Cause) (out : NodeOutcome) → ((op : Op) → f op ≡ Ok out → IsPlaced share out) → with_next share next f ≡ Ok out → IsPlaced share out
next-place share None f out each is = cc
next-place share (Some op) f out each is = go (is_outstanding share.want) is
  where
    go : (b : Bool) → cond b (Err Cause.Outstanding) (f op) ≡ Ok out → IsPlaced share out
    go true e = cc
    go false e = each op e

hit-place : (sizes : Sizes) (me : ℕ) (share : Share) (op : Op) (out : NodeOutcome) → hit_next sizes me share op ≡ Ok out → IsPlaced share out
hit-place sizes me share op out is = go (serves op (line_share sizes share (line_of sizes op.word)).copy) is
  where
    go : (b : Bool) → cond b (Ok (by_row sizes me share (line_of sizes op.word) (hit op (line_share sizes share (line_of sizes op.word))))) (Err Cause.Miss) ≡ Ok out → IsPlaced share out
    go true e = mapped-place sizes me share (line_of sizes op.word) (Ok (hit op (line_share sizes share (line_of sizes op.word)))) out e
    go false e = cc

issue-place : (charge : Charge) (sizes : Sizes) (me : ℕ) (share : Share) (op : Op) (out : NodeOutcome) → issue_next charge sizes me share op ≡ Ok out → IsPlaced share out
issue-place charge sizes me share op out is =
    go (serves op (line_share sizes share (line_of sizes op.word)).copy) (conflicts sizes share (line_of sizes op.word)) is
  where
    go : (a b : Bool) → cond a (Err Cause.HitFirst) (cond b (Err Cause.Conflict) (map_ok (by_row sizes me share (line_of sizes op.word)) (begin_op me (home_of sizes (line_of sizes op.word)) (room_of charge sizes share) op (line_share sizes share (line_of sizes op.word))))) ≡ Ok out → IsPlaced share out
    go true b e = cc
    go false true e = cc
    go false false e = mapped-place sizes me share (line_of sizes op.word) (begin_op me (home_of sizes (line_of sizes op.word)) (room_of charge sizes share) op (line_share sizes share (line_of sizes op.word))) out e

evict-place : (sizes : Sizes) (me : ℕ) (share : Share) (line : ℕ) (kind : EvictKind) (room : Bool) (out : NodeOutcome) → evict_line sizes me share line kind room ≡ Ok out → IsPlaced share out
evict-place sizes me share line kind room out is = go (evict me (home_of sizes line) kind (line_share sizes share line)) is
  where
    gate : (b : Bool) (outcome : Outcome) → cond b (Err Cause.LaneGate) (Ok (by_row sizes me share line outcome)) ≡ Ok out → IsPlaced share out
    gate true outcome e = cc
    gate false outcome e = mapped-place sizes me share line (Ok outcome) out e

    go : (r : Result Outcome Cause) → bind r (λ outcome. cond (departs (me == home_of sizes line) kind && not room) (Err Cause.LaneGate) (Ok (by_row sizes me share line outcome))) ≡ Ok out → IsPlaced share out
    go (Ok outcome) e = gate (departs (me == home_of sizes line) kind && not room) outcome e
    go (Err cause) e = cc

pub place-after : (charge : Charge) (sizes : Sizes) (me : ℕ) (program : List Op) (share : Share) (input : Input) (out : NodeOutcome) → local charge sizes me program share input ≡ Ok out → IsPlaced share out
unfolding local
place-after charge sizes me program share HitNext out is = next-place share (slice_get program share.place) (hit_next sizes me share) out (λ op. hit-place sizes me share op out) is
place-after charge sizes me program share IssueNext out is = next-place share (slice_get program share.place) (issue_next charge sizes me share) out (λ op. issue-place charge sizes me share op out) is
place-after charge sizes me program share (EvictLine line kind room) out is = evict-place sizes me share line kind room out is
place-after charge sizes me program share (TakeFrom src m victim) out is =
    with-kept (IsPlaced share) charge sizes me share (asks_victim charge sizes me share src m) victim (by_row sizes me share (msg_line m) (taking charge sizes me share src m)) out
    (row-place sizes me share (msg_line m) (taking charge sizes me share src m)) (λ line. call-place sizes me share line (by_row sizes me share (msg_line m) (taking charge sizes me share src m)) (row-place sizes me share (msg_line m) (taking charge sizes me share src m))) is
place-after charge sizes me program share (ReclaimLine line) out is = mapped-place sizes me share line (reclaim (room_of charge sizes share) (line_share sizes share line)) out is

-- the words for another node leave what their sender has begun, and finish nothing of its own
pub record IsQuiet (share : Share) (out : NodeOutcome) : Type 0 where
  pub undone : is_for out.served ≡ true → out.done ≡ false
  pub want : is_for out.served ≡ true → out.share.want ≡ share.want

pub take-quiet : (charge : Charge) (sizes : Sizes) (me : ℕ) (program : List Op) (share : Share) (src : ℕ) (m : Msg) (victim : Option ℕ) (out : NodeOutcome) → local charge sizes me program share (TakeFrom src m victim) ≡ Ok out → IsQuiet share out
unfolding local
take-quiet charge sizes me program share src m victim out is =
    let outcome = taking charge sizes me share src m in
    let row = by_row sizes me share (msg_line m) outcome in
    let undone : is_for outcome.served ≡ true → outcome.done ≡ false =
    message-undone me (home_of sizes (msg_line m)) src (is_set_empty sizes share (msg_line m)) (room_of charge sizes share) (msg_content m) (line_share sizes share (msg_line m)) in
    let want : is_for outcome.served ≡ true → row.share.want ≡ share.want =
    λ for. row-want sizes me share (msg_line m) outcome (message-quiet me (home_of sizes (msg_line m)) src (is_set_empty sizes share (msg_line m)) (room_of charge sizes share) (msg_content m) (line_share sizes share (msg_line m)) for) in
    with-kept (IsQuiet share) charge sizes me share (asks_victim charge sizes me share src m) victim row out (record { undone = undone; want = want })
    (λ line. record { undone = undone; want = λ for. call-want sizes me line row ∙ want for }) is
