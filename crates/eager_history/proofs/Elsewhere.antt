-- A row elsewhere than at the line's home neither reads nor changes the header: there the eager rows are those of the delayed core.
use Rattle.std.proofs.Common.{◌≡◌, ◌≢◌, ℕ, Bool, true, false, ◌==◌, refl, arith, ap, sym, ◌∙◌, Result, Ok}
use Rattle.std.proofs.lemmas.Bool.{ne_eqb}
use Rattle.std.proofs.lemmas.Bool.Decides.{nat_tests}
use Rattle.op_model.specs.Lines.{Header, LineShare, Room, Outcome}
use Rattle.op_model.specs.Messages.{Content, FAck, FwdGet, FwdGetX, Get, GetX, Inv, InvAck, Nak, Nakc, Put, PutX, Rpl, ShWb, Wb}
use Rattle.op_model.specs.Tables.Processor.{ask, serves}
use Rattle.op_model.specs.Tables.Processor as delayed_processor
use Rattle.op_model.proofs.Public.{ask-undone, err-ok}
use Rattle.line_invariant.specs.Rows.{with_header, with_header_ok}
use Rattle.line_invariant.proofs.Public as delayed
use Rattle.line_invariant.proofs.Public.{if-either}
use Rattle.eager_model.specs.Types.{Cause, Op}
use Rattle.eager_model.specs.Rows.{begin_op, meets, on_message}
use Rattle.eager_model.proofs.Public.{begins-elsewhere, eager-elsewhere}

module _ (me home : ℕ) (apart : me ≢ home) (share : LineShare) (h : Header) where
  pub away-meets : (from : ℕ) (alone : Bool) (content : Content) → meets me home from alone content (record share { header = h }) ≡ meets me home from alone content share
  unfolding meets
  away-meets from alone (Wb words) = rw (ne_eqb me home apart) refl
  away-meets from alone Get = delayed.away-meets me home apart share h from alone Get
  away-meets from alone GetX = delayed.away-meets me home apart share h from alone GetX
  away-meets from alone (FwdGet r) = delayed.away-meets me home apart share h from alone (FwdGet r)
  away-meets from alone (FwdGetX r) = delayed.away-meets me home apart share h from alone (FwdGetX r)
  away-meets from alone Inv = delayed.away-meets me home apart share h from alone Inv
  away-meets from alone Rpl = delayed.away-meets me home apart share h from alone Rpl
  away-meets from alone (Put words) = delayed.away-meets me home apart share h from alone (Put words)
  away-meets from alone (PutX words) = delayed.away-meets me home apart share h from alone (PutX words)
  away-meets from alone (Nak cause) = delayed.away-meets me home apart share h from alone (Nak cause)
  away-meets from alone InvAck = delayed.away-meets me home apart share h from alone InvAck
  away-meets from alone (ShWb words) = delayed.away-meets me home apart share h from alone (ShWb words)
  away-meets from alone FAck = delayed.away-meets me home apart share h from alone FAck
  away-meets from alone Nakc = delayed.away-meets me home apart share h from alone Nakc

  pub away-message : (from : ℕ) (alone : Bool) (room : Room) (content : Content) → on_message me home from alone room content (record share { header = h }) ≡ with_header h (on_message me home from alone room content share)
  away-message from alone room content =
      eager-elsewhere me home from alone room (record share { header = h }) apart content
      ∙ delayed.away-message me home apart share h from alone room content
      ∙ ap (with_header h) (sym (eager-elsewhere me home from alone room share apart content))

  pub away-begin : (room : Room) (op : Op) → begin_op me home room op (record share { header = h }) ≡ with_header_ok h (begin_op me home room op share)
  away-begin room op =
      begins-elsewhere me home me false room (record share { header = h }) apart op
      ∙ delayed.away-begin me home apart share h room op
      ∙ ap (with_header_ok h) (sym (begins-elsewhere me home me false room share apart op))

delayed-asks : (me home : ℕ) (room : Room) (op : Op) (share : LineShare) (o : Outcome) → (me == home) ≡ false → delayed_processor.begin_op me home room op share ≡ Ok o → o.done ≡ false
unfolding delayed_processor.begin_op
delayed-asks me home room op share o off =
    if-either Asks (serves op share.copy) _ _ (λ _ e. absurd (err-ok _ o e)) (λ _.
    (if-either Asks (me == home) _ _ (λ on e. absurd (let d : true ≡ false = sym on ∙ off in cc)) (λ _ e. let is : ask home op share ≡ o = cc in sym (ap (λ x. x.done) is) ∙ ask-undone home op share)))
  where
    Asks : Result Outcome Cause → Type 0
    Asks r = r ≡ Ok o → o.done ≡ false

pub away-asks : (me home : ℕ) (room : Room) (op : Op) (share : LineShare) (o : Outcome) → (me == home) ≡ false → begin_op me home room op share ≡ Ok o → o.done ≡ false
away-asks me home room op share o off ok =
    let apart : me ≢ home = (λ same. grind (arith, nat_tests)) in
    delayed-asks me home room op share o off (sym (begins-elsewhere me home me false room share apart op) ∙ ok)
