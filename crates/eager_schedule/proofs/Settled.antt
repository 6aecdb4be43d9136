-- Rows of messages that neither ask nor forward: they settle what was set going. Each one that is taken leaves less to come, since an Inv is answered by an InvAck and all others by nothing; none of them sends a Nak, and none is done for a node that has begun nothing.
use Rattle.std.proofs.Common.{◌≡◌, ℕ, ◌<◌, inr, Bool, true, false, nat_le, ◌==◌, ◌&&◌, not, [], refl, arith, Option, Some, None, is_some}
use Rattle.op_model.specs.declared.state.Want.{Want}
use Rattle.op_model.specs.Operations.{Words}
use Rattle.op_model.specs.Messages.{Content, Get, GetX, FwdGet, FwdGetX, Inv, Wb, Rpl, Put, PutX, Nak, InvAck, ShWb, FAck, Nakc}
use Rattle.op_model.specs.Lines.{Header, LineShare, Room, Outcome, sending, is_idle}
use Rattle.op_model.specs.Tables.Home.{on_fack, on_rpl, on_shwb, on_wb}
use Rattle.op_model.specs.Tables.Remote.{on_inv, on_nak, on_put, on_putx}
use Rattle.op_model.specs.Tables.Remote as delayed
use Rattle.line_invariant.proofs.Public.{if-either}
use Rattle.schedule_laws.specs.Courses.{is_any_nak}
use Rattle.schedule_laws.proofs.Public.{AllSettle, GoesOn, settles, still, still_sent}
use Rattle.schedule_laws.proofs.Public as before
use Rattle.eager_model.specs.Rows.{meets, on_inv_ack, on_message, row_of}

-- a row of a message that settles
pub record IsSettling (content : Content) (share : LineShare) (outcome : Outcome) : Type 0 where
  pub lighter : still_sent outcome.sends < still content
  pub sends : AllSettle outcome.sends
  pub unwanted : share.want ≡ None → (outcome.share.want ≡ None) × (outcome.done ≡ false)
  pub wanted : is_any_nak content ≡ false → is_some share.want ≡ true → GoesOn outcome

still-some : (content : Content) → 0 < still content
still-some content = grind arith

-- what a row sends is less than what it takes
abbrev IsLight : Content → Outcome → Type 0
IsLight content outcome = still_sent outcome.sends < still content

module _ (me home sender : ℕ) (room : Room) (share : LineShare) where
  -- a row that sends nothing, and leaves what is begun
  silent : (content : Content) (header : Header) → IsSettling content share (sending (record share { header = header }) [])
  silent content header = record { lighter = still-some content; sends = tt; unwanted = λ none. (none, refl); wanted = λ nak some. inr (refl, some) }

  module _ (alone : Bool) where
    -- a row of the delayed core that sends less than it takes
    kept : (content : Content) → settles content ≡ true → IsLight content (delayed.on_message me home sender alone room content share) → IsSettling content share (delayed.on_message me home sender alone room content share)
    kept content kind light = let it = before.message-settles me home sender room share alone content kind in record { lighter = light; sends = it.sends; unwanted = it.unwanted; wanted = it.wanted }

    putx-light : (at_home : Bool) (words : Words) (want : Option Want) → IsLight (PutX words) (on_putx at_home words (record share { want = want }))
    unfolding on_putx
    putx-light at_home words None = omega arith
    putx-light at_home words (Some want) = omega arith

    put-light : (at_home : Bool) (words : Words) → IsLight (Put words) (on_put at_home words share)
    unfolding on_put
    put-light true words = omega arith
    put-light false words = omega arith

    rpl-light : IsLight Rpl (on_rpl sender share)
    unfolding on_rpl
    rpl-light = if-either (IsLight Rpl) (is_idle share.header.wait && not share.header.dirty) _ _ (λ _. omega arith) (λ _. omega arith)

    pub message-settles : (content : Content) → settles content ≡ true → IsSettling content share (on_message me home sender alone room content share)
    unfolding on_message meets row_of on_inv_ack on_wb on_inv on_nak on_shwb on_fack delayed.on_message delayed.row_of
    message-settles Get kind = absurd (cc)
    message-settles GetX kind = absurd (cc)
    message-settles (FwdGet r) kind = absurd (cc)
    message-settles (FwdGetX r) kind = absurd (cc)
    message-settles Nakc kind = absurd (cc)
    message-settles Inv kind = kept Inv refl (if-either (IsLight Inv) (delayed.meets me home sender alone Inv share) _ _ (λ _. omega arith) (λ _. omega arith))
    message-settles Rpl kind = kept Rpl refl (if-either (IsLight Rpl) (delayed.meets me home sender alone Rpl share) _ _ (λ _. rpl-light) (λ _. omega arith))
    message-settles (Put words) kind = kept (Put words) refl (if-either (IsLight (Put words)) (delayed.meets me home sender alone (Put words) share) _ _ (λ _. put-light (me == home) words) (λ _. omega arith))
    message-settles (PutX words) kind = kept (PutX words) refl (if-either (IsLight (PutX words)) (delayed.meets me home sender alone (PutX words) share) _ _ (λ _. putx-light (me == home) words share.want) (λ _. omega arith))
    message-settles (Nak cause) kind = kept (Nak cause) refl (if-either (IsLight (Nak cause)) (delayed.meets me home sender alone (Nak cause) share) _ _ (λ _. omega arith) (λ _. omega arith))
    message-settles (ShWb words) kind = kept (ShWb words) refl (if-either (IsLight (ShWb words)) (delayed.meets me home sender alone (ShWb words) share) _ _ (λ _. omega arith) (λ _. omega arith))
    message-settles FAck kind = kept FAck refl (if-either (IsLight FAck) (delayed.meets me home sender alone FAck share) _ _ (λ _. omega arith) (λ _. omega arith))
    message-settles InvAck kind = if-either (IsSettling InvAck share) (delayed.meets me home sender alone InvAck share) _ _ (λ _. if-either (IsSettling InvAck share) (nat_le share.header.acks 1) _ _ (λ _. silent InvAck _) (λ _. silent InvAck _)) (λ _. silent InvAck share.header)
    message-settles (Wb words) kind = if-either (IsSettling (Wb words) share) ((me == home) && share.header.dirty && not share.header.local) _ _ (λ _. silent (Wb words) _) (λ _. silent (Wb words) share.header)
