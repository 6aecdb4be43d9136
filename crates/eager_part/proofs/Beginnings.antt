-- Which row begins an operation, with what is known of it: E1, or one of the delayed core that leaves a line of the home idle or forwarded.
use Rattle.std.proofs.Common.{◌≡◌, ℕ, Bool, true, false, cond, ◌==◌, ◌&&◌, not, refl, arith, ap, subst, ◌∙◌, Result, Ok, Err}
use Rattle.std.proofs.lemmas.Bool.{and_parts, not-true, eqb-true, eqb-false}
use Rattle.op_model.specs.declared.events.Cause.{Cause}
use Rattle.op_model.specs.declared.events.Cause.TheVariants.{HitFirst}
use Rattle.op_model.specs.declared.operations.Op.{Op}
use Rattle.op_model.specs.declared.state.Wait.TheVariants.{Idle}
use Rattle.op_model.specs.Operations.{is_load}
use Rattle.op_model.specs.Lines.{LineShare, Outcome, Room, is_pending, nobody_listed}
use Rattle.op_model.specs.Tables.Processor.{ask, begin_at_home, forward_get_home, forward_getx_home, invalidate_for_home, load_at_home, serves, write_at_home}
use Rattle.op_model.specs.Tables.Processor as delayed
use Rattle.op_model.specs.Tables.Remote.{is_invalidate}
use Rattle.op_model.specs.Events.Node.{map_ok}
use Rattle.op_model.proofs.Public.{err-ok, three_parts}
use Rattle.line_invariant.proofs.Public.{if-either}
use Rattle.own_part.proofs.Public.{idle-is}
use Rattle.eager_model.specs.Rows.{begin_op, write_and_drain, writes_shared}

-- what is known of a beginning at the home: the line was idle, a budget was left for E1, and no other row calls anybody
record IsBegunAtHome (room : Room) (op : Op) (s : LineShare) (o : Outcome) : Type 0 where
  idle : s.header.wait ≡ Idle
  room_left : writes_shared op s.header ≡ true → room.full ≡ false
  calm : writes_shared op s.header ≡ false → is_invalidate o.share.header.wait ≡ false

module _ (me home : ℕ) (room : Room) (op : Op) (s : LineShare) where
  abbrev Gives : Result Outcome Cause → Type 0
  Gives r = (o : Outcome) → r ≡ Ok o → IsBegunAtHome room op s o

  bad : (c : Cause) → Gives (Err c)
  bad c o e = absurd (err-ok c o e)

  good : (x : Outcome) → IsBegunAtHome room op s x → Gives (Ok x)
  good x k o e = let is : x ≡ o = cc in subst (IsBegunAtHome room op s) is k

  idle-calm : (x : Outcome) → x.share.header.wait ≡ s.header.wait → s.header.wait ≡ Idle → is_invalidate x.share.header.wait ≡ false
  idle-calm x stays idle = ap is_invalidate (stays ∙ idle)

  at-home : Gives (begin_at_home home room op s)
  unfolding begin_at_home
  at-home =
      if-either Gives (is_pending s.header) _ _ (λ _. bad _) (λ free.
      (if-either Gives (not s.header.dirty && is_load op.kind) _ _ (λ c. good (load_at_home op s) (record { idle = idle-is s.header.wait free; room_left = λ w. absurd (loads s.header.dirty (is_load op.kind) (nobody_listed s.header.list) c w); calm = λ _. idle-calm (load_at_home op s) refl (idle-is s.header.wait free) })) (λ writes.
      (if-either Gives (not s.header.dirty && nobody_listed s.header.list) _ _ (λ c. good (write_at_home op s) (record { idle = idle-is s.header.wait free; room_left = λ w. absurd (alone s.header.dirty (is_load op.kind) (nobody_listed s.header.list) c w); calm = λ _. idle-calm (write_at_home op s) refl (idle-is s.header.wait free) })) (λ shared.
      (if-either Gives room.full _ _ (λ _. bad _) (λ left.
      (if-either Gives (not s.header.dirty) _ _ (λ clean. good (invalidate_for_home op s) (record { idle = idle-is s.header.wait free; room_left = λ _. left; calm = λ none. absurd (calls s.header.dirty (is_load op.kind) (nobody_listed s.header.list) writes shared clean none) })) (λ _.
      (if-either Gives (is_load op.kind) _ _
      (λ _. good (forward_get_home home op s) (record { idle = idle-is s.header.wait free; room_left = λ _. left; calm = λ _. refl }))
      (λ _. good (forward_getx_home home op s) (record { idle = idle-is s.header.wait free; room_left = λ _. left; calm = λ _. refl }))))))))))))
    where
      loads : (d l n : Bool) → (not d && l) ≡ true → (not d && not l && not n) ≡ true → ⊥
      loads d l n e f = grind arith

      alone : (d l n : Bool) → (not d && n) ≡ true → (not d && not l && not n) ≡ true → ⊥
      alone d l n e f = grind arith

      calls : (d l n : Bool) → (not d && l) ≡ false → (not d && n) ≡ false → not d ≡ true → (not d && not l && not n) ≡ false → ⊥
      calls d l n e f g h = grind arith

  -- What is shown of each row that may begin an operation
  pub record IsEachBeginning (P : Outcome → Type 0) : Type 0 where
    pub writes : me ≡ home → s.header.wait ≡ Idle → s.header.dirty ≡ false → is_load op.kind ≡ false → nobody_listed s.header.list ≡ false → room.full ≡ false → P (write_and_drain home op s)
    pub delayed : (o : Outcome) → delayed.begin_op me home room op s ≡ Ok o → (me ≡ home → (is_invalidate s.header.wait ≡ false) × (is_invalidate o.share.header.wait ≡ false)) → P o

  at-home-of : (o : Outcome) → delayed.begin_op me home room op s ≡ Ok o → (me == home) ≡ true → IsBegunAtHome room op s o
  unfolding delayed.begin_op
  at-home-of o e here = by (serves op s.copy) (me == home) here e
    where
      by : (c m : Bool) → m ≡ true → cond c (Err HitFirst) (cond m (begin_at_home home room op s) (Ok (ask home op s))) ≡ Ok o → IsBegunAtHome room op s o
      by true m here e = absurd (err-ok _ o e)
      by false true here e = at-home o e
      by false false here e = absurd (cc)

  pub each-beginning : (P : Outcome → Type 0) → IsEachBeginning P → (o : Outcome) → begin_op me home room op s ≡ Ok o → P o
  unfolding begin_op
  each-beginning P is o e = by (delayed.begin_op me home room op s) refl e
    where
      by : (r : Result Outcome Cause) → delayed.begin_op me home room op s ≡ r → map_ok (λ (row : Outcome). cond ((me == home) && writes_shared op s.header) (write_and_drain home op s) row) r ≡ Ok o → P o
      by (Err c) was e = absurd (err-ok c o e)
      by (Ok x) was e = let is_o : cond ((me == home) && writes_shared op s.header) (write_and_drain home op s) x ≡ o = cc in subst P is_o (if-either P ((me == home) && writes_shared op s.header) _ _ drains stays)
        where
          drains : ((me == home) && writes_shared op s.header) ≡ true → P (write_and_drain home op s)
          drains h =
              let both = and_parts (me == home) (writes_shared op s.header) h in
              let w = three_parts (not s.header.dirty) (not (is_load op.kind)) (not (nobody_listed s.header.list)) both.1 in
              let k = at-home-of x was both.0 in
              is.writes (eqb-true me home both.0) k.idle (not-true s.header.dirty w.0) (not-true (is_load op.kind) w.1) (not-true (nobody_listed s.header.list) w.2) (k.room_left both.1)

          stays : ((me == home) && writes_shared op s.header) ≡ false → P x
          stays h = is.delayed x was (λ same. go (me == home) refl h same)
            where
              go : (m : Bool) → (me == home) ≡ m → (m && writes_shared op s.header) ≡ false → me ≡ home → (is_invalidate s.header.wait ≡ false) × (is_invalidate x.share.header.wait ≡ false)
              go true here h same = let k = at-home-of x was here in (ap is_invalidate k.idle, k.calm h)
              go false away h same = absurd (eqb-false me home away same)
