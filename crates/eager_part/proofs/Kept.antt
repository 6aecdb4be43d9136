-- What a row leaves at a node: at the home the line drains or is as in the delayed core, and what the node has begun stays, is marked, or has ended.
use Rattle.std.proofs.Common.{◌≡◌, ◌≢◌, inl, ℕ, Bool, true, false, cond, nat_le, ◌==◌, refl, sym, ap, subst, ◌∙◌, Result, Ok}
use Rattle.std.proofs.lemmas.Bool.{eqb-false}
use Rattle.op_model.specs.declared.events.Cause.{Cause}
use Rattle.op_model.specs.declared.events.EvictKind.{EvictKind}
use Rattle.op_model.specs.declared.operations.Op.{Op}
use Rattle.op_model.specs.Operations.{Words}
use Rattle.op_model.specs.Messages.{Content}
use Rattle.op_model.specs.Lines.{Absent, Copy, Exclusive, LineShare, Outcome, Room, Shared, is_pending}
use Rattle.op_model.specs.OwnPart.{IsOwnLine}
use Rattle.op_model.specs.Tables.Home.{no_other, on_wb}
use Rattle.op_model.specs.Tables.Processor.{evict, fits, hit, leave_home, leave_remote}
use Rattle.op_model.specs.Tables.Remote.{is_invalidate}
use Rattle.op_model.proofs.Public.{err-ok}
use Rattle.line_invariant.proofs.Public.{if-either}
use Rattle.own_part.proofs.Public.{IsBegun, IsEffect, IsQuiet, begin-keeps, evict-keeps, hit-keeps}
use Rattle.own_part.proofs.Public.{leave-home-quiet, message-keeps}
use Rattle.eager_model.specs.Rows.{Drain, asks_shared, begin_op, give_and_drain, on_inv_ack, on_message}
use Rattle.eager_part.specs.Part.{IsDrainingLine}
use Rattle.eager_part.proofs.Beginnings.{each-beginning}
use Rattle.eager_part.proofs.Drains.{ack-drains, hit-drains, home-drains, leave-drains, sender-drains, wb-drains}
use Rattle.eager_part.proofs.Lines.{IsLine, as-delayed, as-draining, as-eager, home-unlisted}
use Rattle.eager_part.proofs.Rows.{each-row, shared-parts}

module _ (me home : ℕ) (s : LineShare) (line : me ≡ home → IsLine home s) where
  -- where it doesn't drain
  pub calm-own : is_invalidate s.header.wait ≡ false → me ≡ home → IsOwnLine home s
  calm-own calm same = as-delayed home s.header.wait s calm (line same)

  abbrev pub Keeps : Outcome → Type 0
  Keeps o = (me ≡ home → IsLine home o.share) × IsEffect me home s o

  abbrev pub Begins : Op → Outcome → Type 0
  Begins op o = (me ≡ home → IsLine home o.share) × IsBegun op s o

  abbrev pub Leaves : Outcome → Type 0
  Leaves o = (me ≡ home → IsLine home o.share) × IsQuiet s o

  pub hit-kept : (op : Op) → me ≡ home → IsLine home (hit op s).share
  unfolding hit
  hit-kept op same = go (is_invalidate s.header.wait) refl
    where
      go : (c : Bool) → is_invalidate s.header.wait ≡ c → IsLine home (hit op s).share
      go true called = let g = as-draining home s.header.wait s called (line same) in hit-drains home g.0 s g.1 g.2 op
      go false calm = as-eager home s.header.wait (hit op s).share calm (hit-keeps home op s (calm-own calm same))

  -- an eviction
  leave-wait : (copy : Copy) → (leave_home copy s).share.header.wait ≡ s.header.wait
  leave-wait Absent = refl
  leave-wait (Shared words) = refl
  leave-wait (Exclusive words) = refl

  at-home : (kind : EvictKind) (o : Outcome) → (me == home) ≡ true → evict me home kind s ≡ Ok o → leave_home s.copy s ≡ o
  unfolding evict
  at-home kind o here = if-either (λ r. r ≡ Ok o → leave_home s.copy s ≡ o) (fits (me == home) kind s.copy) _ _ (λ _ e. sym (ap (λ b. cond b (leave_home s.copy s) (leave_remote home kind s)) here) ∙ ok-is _ e) (λ _ e. absurd (err-ok _ o e))
    where
      ok-is : (x : Outcome) → ◌≡◌ {A = Result Outcome Cause} (Ok x) (Ok o) → x ≡ o
      ok-is x e = cc

  pub evict-kept : (kind : EvictKind) (o : Outcome) → evict me home kind s ≡ Ok o → Leaves o
  evict-kept kind o e = go (me == home) refl (is_invalidate s.header.wait) refl
    where
      go : (m : Bool) → (me == home) ≡ m → (c : Bool) → is_invalidate s.header.wait ≡ c → Leaves o
      go false away c _ =
          let far : (me ≡ home → IsOwnLine home s) = λ same. absurd (eqb-false me home away same) in
          ((λ same. absurd (eqb-false me home away same)), (evict-keeps me home kind s o far e).1)
      go true here true called = subst Leaves (at-home kind o here e) ((λ same. let g = as-draining home s.header.wait s called (line same) in leave-drains home g.0 s g.1 g.2 s.copy refl), leave-home-quiet s.copy s refl)
      go true here false calm =
          let k = evict-keeps me home kind s o (calm-own calm) e in
          let stays : o.share.header.wait ≡ s.header.wait = sym (ap (λ (x : Outcome). x.share.header.wait) (at-home kind o here e)) ∙ leave-wait s.copy in
          ((λ same. as-eager home o.share.header.wait o.share (ap is_invalidate stays ∙ calm) (k.0 same)), k.1)

  -- a beginning
  pub begin-kept : (room : Room) (op : Op) (o : Outcome) → begin_op me home room op s ≡ Ok o → Begins op o
  begin-kept room op o =
      each-beginning me home room op s (Begins op)
      (record {
        writes = λ same idle clean store some left. ((λ _. home-drains home op s (home-unlisted home s.header.wait s (line same)) some), inl refl);
        delayed = λ x was calm. let k = begin-keeps me home room op s x (λ same. calm-own (calm same).0 same) was in ((λ same. as-eager home x.share.header.wait x.share (calm same).1 (k.0 same)), k.1);
      }) o

  -- a message
  module _ (sender : ℕ) (alone : Bool) (room : Room) where
    drains : is_invalidate s.header.wait ≡ true → me ≡ home → (n : ℕ) × (s.header.wait ≡ Drain n) × IsDrainingLine home n s
    drains called same = as-draining home s.header.wait s called (line same)

    gives : me ≡ home → sender ≢ home → asks_shared room sender s.header ≡ true → Keeps (give_and_drain sender s)
    gives same apart asks =
        let t = shared-parts (is_pending s.header) s.header.dirty (no_other sender s.header.list) room.full asks in
        ((λ _. sender-drains home sender s apart (home-unlisted home s.header.wait s (line same)) t.0), inl (refl, refl, λ _. refl))

    ack-quiet : IsQuiet s (on_inv_ack home sender s)
    unfolding on_inv_ack
    ack-quiet = if-either (IsQuiet s) (nat_le s.header.acks 1) _ _ (λ _. (refl, refl, λ e. e)) (λ _. (refl, refl, λ e. e))

    wb-quiet : (words : Words) → IsQuiet s (on_wb words s)
    unfolding on_wb
    wb-quiet words = (refl, refl, λ e. e)

    pub message-kept : (content : Content) → Keeps (on_message me home sender alone room content s)
    message-kept content =
        each-row me home sender alone room s content Keeps
        (record {
          delayed = λ calm.
              let k = message-keeps me home sender alone room s (λ same. calm-own (calm same).0 same) content in
              ((λ same. as-eager home _ _ (calm same).1 (k.0 same)), k.1);
          gives = gives;
          acknowledges = λ same called from. ((λ _. let g = drains called same in ack-drains home g.0 s g.1 g.2 sender from), inl ack-quiet);
          writes_back = λ words is same called far. ((λ _. let g = drains called same in wb-drains home g.0 s g.1 g.2 words far), inl (wb-quiet words));
          refuses = λ same apart called. (line, inl (refl, refl, λ e. e));
          nothing = (line, inl (refl, refl, λ e. e));
        })
