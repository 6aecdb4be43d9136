-- What a row of an eager node sends is on its way and goes to another node, and a forward asks its owner for another node.
use Rattle.std.proofs.Common.{◌≡◌, ◌≢◌, ℕ, nat_le, Bool, true, false, cond, ◌==◌, ◌&&◌, not, refl, arith, sym, ◌∙◌, subst, Option, Some, None, Result, Ok}
use Rattle.std.proofs.lemmas.Bool.{not-true, eqb-true, eqb-false}
use Rattle.std.proofs.lemmas.Bool.Decides.{nat_tests}
use Rattle.op_model.specs.declared.events.Cause.{Cause}
use Rattle.op_model.specs.declared.events.EvictKind.{EvictKind}
use Rattle.op_model.specs.declared.events.EvictKind.TheVariants as way
use Rattle.op_model.specs.declared.operations.Op.{Op}
use Rattle.op_model.specs.declared.state.Want.{Want}
use Rattle.op_model.specs.Lines.{Copy, Absent, Exclusive, LineShare, Outcome, Room, Shared, is_exclusive, is_idle, no_message, sending}
use Rattle.op_model.specs.Messages.{Content, FAck, FwdGet, FwdGetX, Get, GetX, Inv, InvAck, Nak, Nakc, Put, PutX, Rpl, ShWb, Wb}
use Rattle.op_model.specs.Nodes.{listed, listings, unlist}
use Rattle.op_model.specs.Operations.{Words, is_load}
use Rattle.op_model.specs.OwnPart.{IsOwnLine}
use Rattle.op_model.specs.Tables.Home.{on_fack, on_get, on_getx, on_inv_ack, on_nakc, on_rpl, on_shwb, on_wb}
use Rattle.op_model.specs.Tables.Processor.{ask, begin_op, evict, fits, leave_home, leave_remote, serves}
use Rattle.op_model.specs.Tables.Remote.{asks_well, is_invalidate, meets, on_fwd_get, on_fwd_getx, on_inv, on_message, on_nak, on_put, on_putx, row_of}
use Rattle.op_model.proofs.Public.{err-ok, three_parts}
use Rattle.line_invariant.proofs.Public.{if-either}
use Rattle.message_range.specs.Fitting.{IsContentForOther}
use Rattle.eager_model.specs.Rows as eager
use Rattle.eager_part.proofs.Beginnings.{each-beginning}
use Rattle.eager_part.proofs.HomeWays.{AreGoing, begin-home-going, from-home, get-going, getx-going, listed-going}
use Rattle.eager_part.proofs.Kept.{calm-own}
use Rattle.eager_part.proofs.Lines.{IsLine, home-unlisted}
use Rattle.eager_part.proofs.Rows.{each-row}

-- an eviction tells the home
pub evict-going : (me home : ℕ) (s : LineShare) (kind : EvictKind) (o : Outcome) → evict me home kind s ≡ Ok o → AreGoing home me o.sends
unfolding evict
evict-going me home s kind o =
    if-either Gives (fits (me == home) kind s.copy) _ _
    (λ _ e. let is : cond (me == home) (leave_home s.copy s) (leave_remote home kind s) ≡ o = cc in
    subst Goes is (if-either Goes (me == home) _ _ (λ _. left s.copy) (λ there. away (eqb-false me home there) kind)))
    (λ _ e. absurd (err-ok _ o e))
  where
    Goes : Outcome → Type 0
    Goes o = AreGoing home me o.sends

    Gives : Result Outcome Cause → Type 0
    Gives r = r ≡ Ok o → Goes o

    left : (copy : Copy) → Goes (leave_home copy s)
    left Absent = tt
    left (Shared words) = tt
    left (Exclusive words) = tt

    away : me ≢ home → (kind : EvictKind) → Goes (leave_remote home kind s)
    away apart way.Wb = ((refl, tt, apart), tt)
    away apart way.Hint = ((refl, tt, apart), tt)
    away apart way.Silent = tt

module _ (me home : ℕ) (room : Room) (s : LineShare) (own : me ≡ home → IsOwnLine home s) where
  abbrev Goes : Outcome → Type 0
  Goes o = AreGoing home me o.sends

  pub begin-going : (op : Op) (o : Outcome) → begin_op me home room op s ≡ Ok o → Goes o
  unfolding begin_op ask
  begin-going op o =
      if-either Gives (serves op s.copy) _ _ (λ _ e. absurd (err-ok _ o e)) (λ miss.
      (if-either Gives (me == home) _ _
      (λ at e. let same = eqb-true me home at in from-home me home o.sends same (begin-home-going home room s (own same) op miss o e))
      (λ there e. let is = ok-is _ e in subst Goes is (if-either Goes (is_load op.kind) _ _ (λ _. ((refl, tt, eqb-false me home there), tt)) (λ _. ((refl, tt, eqb-false me home there), tt))))))
    where
      Gives : Result Outcome Cause → Type 0
      Gives r = r ≡ Ok o → Goes o

      ok-is : (x : Outcome) → ◌≡◌ {A = Result Outcome Cause} (Ok x) (Ok o) → x ≡ o
      ok-is x e = cc

  module _ (src : ℕ) (alone : Bool) (calm : me ≡ home → is_invalidate s.header.wait ≡ false) where
    -- a message that meets no row is only removed
    met : (c : Bool) (x : Outcome) → (c ≡ true → Goes x) → Goes (cond c x (sending s no_message))
    met true x is = is refl
    met false x is = tt

    forwards : (r : ℕ) → me ≢ home → r ≢ me → Goes (on_fwd_get home r s)
    unfolding on_fwd_get
    forwards r apart asks = if-either Goes (is_exclusive s.copy) _ _ (λ _. if-either (AreGoing home me) (r == home) _ _ (λ _. ((tt, tt, apart), tt)) (λ _. ((tt, tt, λ e. asks (sym e)), ((refl, tt, apart), tt)))) (λ _. ((tt, tt, λ e. asks (sym e)), ((refl, tt, apart), tt)))

    forwards-x : (r : ℕ) → me ≢ home → r ≢ me → Goes (on_fwd_getx home r s)
    unfolding on_fwd_getx
    forwards-x r apart asks = if-either Goes (is_exclusive s.copy) _ _ (λ _. if-either (AreGoing home me) (r == home) _ _ (λ _. ((tt, tt, apart), tt)) (λ _. ((tt, tt, λ e. asks (sym e)), ((refl, tt, apart), tt)))) (λ _. ((tt, tt, λ e. asks (sym e)), ((refl, tt, apart), tt)))

    putx : (at_home : Bool) (words : Words) (want : Option Want) → Goes (on_putx at_home words (record s { want = want }))
    unfolding on_putx
    putx at_home words None = tt
    putx at_home words (Some want) = tt

    put : (at_home : Bool) (words : Words) → Goes (on_put at_home words s)
    unfolding on_put
    put true words = tt
    put false words = tt

    rpl : Goes (on_rpl src s)
    unfolding on_rpl
    rpl = if-either Goes (is_idle s.header.wait && not s.header.dirty) _ _ (λ _. tt) (λ _. tt)

    pub message-going : (content : Content) → IsContentForOther me content → Goes (on_message me home src alone room content s)
    unfolding on_message meets row_of on_inv on_wb on_rpl on_nak on_shwb on_fack on_nakc
    message-going Get asks = met _ (on_get room src s) (λ h. let t = three_parts (me == home) (not (src == home)) (asks_well src s.header) h in let same = eqb-true me home t.0 in from-home me home (on_get room src s).sends same (get-going home room s (own same) src (eqb-false src home (not-true (src == home) t.1)) t.2))
    message-going GetX asks = met _ (on_getx room src s) (λ h. let t = three_parts (me == home) (not (src == home)) (asks_well src s.header) h in let same = eqb-true me home t.0 in from-home me home (on_getx room src s).sends same (getx-going home room s (own same) src (eqb-false src home (not-true (src == home) t.1)) t.2))
    message-going (FwdGet r) asks = met _ (on_fwd_get home r s) (λ h. forwards r (eqb-false me home (not-true (me == home) h)) asks)
    message-going (FwdGetX r) asks = met _ (on_fwd_getx home r s) (λ h. forwards-x r (eqb-false me home (not-true (me == home) h)) asks)
    message-going Inv asks = met _ (on_inv home s) (λ h. ((refl, tt, eqb-false me home (not-true (me == home) h)), tt))
    message-going (Wb words) asks = met _ (on_wb words s) (λ _. tt)
    message-going Rpl asks = met _ (on_rpl src s) (λ _. rpl)
    message-going (Put words) asks = met _ (on_put (me == home) words s) (λ _. put (me == home) words)
    message-going (PutX words) asks = met _ (on_putx (me == home) words s) (λ _. putx (me == home) words s.want)
    message-going (Nak cause) asks = met _ (on_nak s) (λ _. tt)
    message-going InvAck asks = met _ (on_inv_ack src s) (λ h. let t = three_parts (me == home) (is_invalidate s.header.wait) (listed s.header.list src) h in absurd (let d : true ≡ false = sym t.1 ∙ calm (eqb-true me home t.0) in cc))
    message-going (ShWb words) asks = met _ (on_shwb words s) (λ _. tt)
    message-going FAck asks = met _ (on_fack s) (λ _. tt)
    message-going Nakc asks = met _ (on_nakc s) (λ _. tt)

-- the eager rows
module _ (me home : ℕ) (room : Room) (s : LineShare) (line : me ≡ home → IsLine home s) where
  abbrev Leaves : Outcome → Type 0
  Leaves o = AreGoing home me o.sends

  off : me ≡ home → listed s.header.list home ≡ false
  off same = home-unlisted home s.header.wait s (line same)

  pub eager-begin-going : (op : Op) (o : Outcome) → eager.begin_op me home room op s ≡ Ok o → Leaves o
  eager-begin-going op =
      each-beginning me home room op s Leaves
      (record {
        writes = λ same _ _ _ _ _. from-home me home (eager.write_and_drain home op s).sends same (listed-going home s.header.list (off same));
        delayed = λ x was calm. begin-going me home room s (λ same. calm-own me home s line (calm same).0 same) op x was;
      })

  ack-going : (src : ℕ) → Leaves (eager.on_inv_ack home src s)
  unfolding eager.on_inv_ack
  ack-going src = if-either Leaves (nat_le s.header.acks 1) _ _ (λ _. tt) (λ _. tt)

  wb-going : (words : Words) → Leaves (on_wb words s)
  unfolding on_wb
  wb-going words = tt

  pub eager-message-going : (src : ℕ) (alone : Bool) (content : Content) → IsContentForOther me content → Leaves (eager.on_message me home src alone room content s)
  eager-message-going src alone content asks =
      each-row me home src alone room s content Leaves
      (record {
        delayed = λ calm. message-going me home room s (λ same. calm-own me home s line (calm same).0 same) src alone (λ same. (calm same).0) content asks;
        gives = λ same apart _. from-home me home (eager.give_and_drain src s).sends same ((tt, tt, λ e. apart (sym e)), listed-going home (unlist s.header.list src) (gone same));
        acknowledges = λ _ _ _. ack-going src;
        writes_back = λ words _ _ _ _. wb-going words;
        refuses = λ same apart _. ((tt, tt, λ e. apart (sym e ∙ same)), tt);
        nothing = tt;
      })
    where
      gone : me ≡ home → listed (unlist s.header.list src) home ≡ false
      gone same = let none = off same in grind (arith, nat_tests, listings)
