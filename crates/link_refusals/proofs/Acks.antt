-- The acknowledgement that ends a reclaim leaves no node listed: as many are due as nodes are listed, the sender is listed, and the last
-- one that comes takes the last node away.
use Rattle.std.proofs.Common.{◌≡◌, ℕ, ◌<◌, Bool, true, false, nat_le, ◌==◌, ◌&&◌, List, ◌∷◌, refl, arith, ap, sym, ◌∙◌, subst, Option, Some, Ok}
use Rattle.std.proofs.lemmas.Bool.Decides.{nat_tests}
use Rattle.line_map.specs.Sizes.{Sizes, home_of}
use Rattle.op_model.specs.Events.Node.{is_get}
use Rattle.op_model.specs.Events.Step.{Done, after, effect}
use Rattle.op_model.specs.Lines.{Copy, Header, LineShare, Outcome, Room, is_empty, is_idle, nobody_listed}
use Rattle.op_model.specs.Messages.{InvAck, message, msg_content, msg_line}
use Rattle.op_model.specs.Nodes.{Nodes, count, listed, listings, unlist}
use Rattle.op_model.specs.Operations.{Words}
use Rattle.op_model.specs.Run.Runs.{Past, run}
use Rattle.op_model.specs.Shares.{Charge, State, Trace, copy_of, header_of, program, room_of, share_at}
use Rattle.op_model.specs.Tables.Home.{grant, grantee_of, on_inv_ack}
use Rattle.op_model.specs.Tables.Remote.{is_invalidate, meets, on_message, row_of}
use Rattle.op_model.specs.declared.events.Class.TheVariants.{Reply}
use Rattle.op_model.specs.declared.events.Event.TheVariants.{Take}
use Rattle.op_model.specs.declared.events.Event.{Event}
use Rattle.op_model.specs.declared.messages.Msg.{Msg}
use Rattle.line_invariant.specs.Good.{Asked, Called, Clean, HandedOn, HomeOwns, IsGoodHeader, Owned, Phase, SharedOut}
use Rattle.line_invariant.specs.Types.{Grantee, Invalidate, Nobody}
use Rattle.line_invariant.proofs.Public.{if-either}
use Rattle.one_history.specs.Project.{line_words, of_line, project}
use Rattle.one_history.specs.Sound.{IsSound}
use Rattle.one_history.proofs.Public.{meets-whole, of_line-front}
use Rattle.lane_bounds.proofs.Public.{Act, after_act, bounded-run, each-taken, row_at, taken_of, taking}
use Rattle.link_refusals.proofs.Links.{header-at}

-- a line that is called in awaits as many acknowledgements as nodes are listed
called-acks : (home : ℕ) (phase : Phase) (words : Words) (header : Header) (copy : Copy) (g : Grantee) → IsGoodHeader home phase words header copy → header.wait ≡ Invalidate g → header.acks ≡ count header.list
called-acks home (Called h) words header copy g good waits = good.4
called-acks home Clean words header copy g good waits = absurd (grind arith)
called-acks home HomeOwns words header copy g good waits = absurd (grind arith)
called-acks home (Owned o) words header copy g good waits = absurd (grind arith)
called-acks home (Asked true r o f h) words header copy g good waits = absurd (grind arith)
called-acks home (Asked false r o f h) words header copy g good waits = absurd (grind arith)
called-acks home (SharedOut r o) words header copy g good waits = absurd (grind arith)
called-acks home (HandedOn r o h) words header copy g good waits = absurd (grind arith)

pub last-listed : (list : Nodes) (p : ℕ) (acks : ℕ) → listed list p ≡ true → acks ≡ count list → nat_le acks 1 ≡ true → nobody_listed (unlist list p) ≡ true
last-listed list p acks has is last = grind (arith, nat_tests, listings)

abbrev Leaves : Outcome → Type 0
Leaves o = is_idle o.share.header.wait ≡ true → nobody_listed o.share.header.list ≡ true

ends : (row : LineShare) (p : ℕ) → row.header.wait ≡ Invalidate Nobody → listed row.header.list p ≡ true → row.header.acks ≡ count row.header.list → Leaves (on_inv_ack p row)
unfolding on_inv_ack
ends row p waits has is =
    if-either Leaves (nat_le row.header.acks 1) _ _
    (λ last idle. granted (grantee_of row.header.wait) (ap grantee_of waits) (last-listed row.header.list p row.header.acks has is last))
    (λ _ idle. absurd (let n : is_idle row.header.wait ≡ false = ap is_idle waits in let m : false ≡ true = sym n ∙ idle in cc))
  where
    granted : (g : Grantee) → g ≡ Nobody → nobody_listed (unlist row.header.list p) ≡ true → nobody_listed (grant g row.want (unlist row.header.list p) row).share.header.list ≡ true
    granted g e none = rw e none

meets-ack : (me home src : ℕ) (alone : Bool) (row : LineShare) → meets me home src alone InvAck row ≡ true → ((me == home) ≡ true) × (listed row.header.list src ≡ true)
unfolding meets
meets-ack me home src alone row meet = go (me == home) (is_invalidate row.header.wait) (listed row.header.list src) meet
  where
    go : (a b c : Bool) → ((a && b) && c) ≡ true → (a ≡ true) × (c ≡ true)
    go a b c e = (grind arith, grind arith)

does-ack : (me home src : ℕ) (alone : Bool) (room : Room) (row : LineShare) → meets me home src alone InvAck row ≡ true → on_message me home src alone room InvAck row ≡ on_inv_ack src row
unfolding on_message row_of
does-ack me home src alone room row meet = rw meet refl

-- the line at its home is idle only where no node is listed
abbrev IsLeft : Sizes → State → (home line : ℕ) → Type 0
IsLeft sizes state home line = is_idle (header_of sizes (state.share home) line).wait ≡ true → nobody_listed (header_of sizes (state.share home) line).list ≡ true

pub ended_reclaim : (charge : Charge) (trace : Trace) (events : List Event) (past : Past) (src dst line : ℕ) (rest : List Msg) (victim : Option ℕ) (done : Done) → 0 < trace.sizes.words → run charge trace events ≡ Some past →
    past.state.lane src dst Reply ≡ message line InvAck ∷ rest → effect charge trace.sizes (program trace) past.state (Take src dst Reply victim) ≡ Ok done → (header_of trace.sizes (past.state.share dst) line).wait ≡ Invalidate Nobody →
    IsLeft trace.sizes (after past.state done) dst line
unfolding after_act project
ended_reclaim charge trace events past src dst line rest victim done positive runs front is waits =
    let sound = (bounded-run charge trace events past positive runs).0 in
    let met = each-taken charge trace positive past sound Ends src dst Reply
    (record {
      takes = λ m more first asks. subst (λ k. Ends (taking charge trace.sizes past.state src dst Reply k more)) (same m more first) (at sound more);
      calls = λ m more g first asks fit. absurd (never (is_get (msg_content m)) (dst == home_of trace.sizes (msg_line m)) _ (ap (λ k. is_get (msg_content k)) (sym (same m more first))) asks);
    }) victim done is in
    subst (λ s. IsLeft trace.sizes s dst line) (sym met.2.same) met.1
  where
    Ends : Act → Type 0
    Ends d = IsLeft trace.sizes (after_act trace.sizes d past.state) dst line

    same : (m : Msg) (more : List Msg) → past.state.lane src dst Reply ≡ m ∷ more → message line InvAck ≡ m
    same m more first = let both : message line InvAck ∷ rest ≡ m ∷ more = sym front ∙ first in cc

    never : (a b c : Bool) → a ≡ false → (a && b && c) ≡ true → ⊥
    never a b c e f = grind arith

    at : IsSound trace past → (more : List Msg) → Ends (taking charge trace.sizes past.state src dst Reply (message line InvAck) more)
    at sound more =
        let row : LineShare = share_at trace.sizes past.state dst line in
        let room : Room = room_of charge trace.sizes (past.state.share dst) in
        let met = meets-whole charge trace past sound src dst Reply line InvAck (of_line line rest) (ap (of_line line) front ∙ of_line-front (message line InvAck) rest) in
        let acked = meets-ack dst (home_of trace.sizes line) src (is_empty row.copy) row met in
        let here : dst ≡ home_of trace.sizes line = let e = acked.0 in grind (arith, nat_tests) in
        let does = does-ack dst (home_of trace.sizes line) src (is_empty row.copy) room row met in
        let it = sound.lines line in
        let waits' : row.header.wait ≡ Invalidate Nobody = subst (λ n. (header_of trace.sizes (past.state.share n) line).wait ≡ Invalidate Nobody) here waits in
        let acks = called-acks (home_of trace.sizes line) it.phase (line_words trace.sizes past.served line) row.header (copy_of (past.state.share (home_of trace.sizes line)) line) Nobody it.header waits' in
        let leaves : Leaves (row_at charge trace.sizes past.state src dst line InvAck) = subst Leaves (sym does) (ends row src waits' acked.1 acks) in
        let k = header-at trace.sizes (record past.state { lane = taken_of src dst Reply more past.state.lane }) dst line (row_at charge trace.sizes past.state src dst line InvAck) here in
        subst (λ h. is_idle h.wait ≡ true → nobody_listed h.list ≡ true) (sym k) leaves
