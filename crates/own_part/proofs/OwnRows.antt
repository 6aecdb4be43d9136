-- What a node does by itself with one line, a hit, a beginning, an eviction and a call, keeps what holds of the line at its home.
use Rattle.std.proofs.Common.{◌≡◌, ◌⊎◌, inl, inr, ℕ, ◌<◌, Bool, true, false, cond, ◌==◌, ◌&&◌, not, refl, arith, sym, ap, subst, ◌∙◌, Result, Ok, Err}
use Rattle.std.proofs.Math.Bool.{and-false}
use Rattle.std.proofs.lemmas.Bool.{not-true, not-false, eqb-true, eqb-false}
use Rattle.op_model.specs.Nodes.{count}
use Rattle.op_model.specs.Operations.{Words, is_load}
use Rattle.op_model.specs.Lines.{Copy, Absent, Shared, Exclusive, LineShare, Outcome, Room, begun, is_idle, is_pending, is_empty, is_exclusive, nobody_listed, without_shared}
use Rattle.op_model.specs.OwnPart.{IsOwnLine, IsOwnWait, IsOwnGrantee}
use Rattle.op_model.specs.Tables.Processor.{serves, done_on, hit, ask, load_at_home, write_at_home, invalidate_for_home, forward_get_home, forward_getx_home, begin_at_home, begin_op, fits, leave_home, leave_remote, evict, call_in, holds_link}
use Rattle.op_model.specs.declared.events.Cause.{Cause}
use Rattle.op_model.specs.declared.events.EvictKind.{EvictKind}
use Rattle.op_model.specs.declared.events.EvictKind.TheVariants as way
use Rattle.op_model.specs.declared.operations.Op.{Op}
use Rattle.op_model.specs.declared.state.Wait.{Wait}
use Rattle.op_model.specs.declared.state.Wait.TheVariants.{Idle, Invalidate, ForwardGet, ForwardGetX}
use Rattle.op_model.specs.declared.state.Grantee.{Grantee}
use Rattle.op_model.specs.declared.state.Grantee.TheVariants.{Nobody, Me, Node}
use Rattle.op_model.proofs.Public.{above_one, eqb-self, err-ok, other_fails}
use Rattle.line_invariant.proofs.Public.{if-either}
use Rattle.own_part.proofs.Basics.{above-none, away-empty, idle-is, none-between}
use Rattle.own_part.proofs.Effects.{IsQuiet, idle-exclusive, waits-so}

-- a change of the copy alone, which leaves its state and an empty one empty
pub done-copy : (op : Op) (copy : Copy) → (is_empty (done_on op copy) ≡ is_empty copy) × (is_exclusive (done_on op copy) ≡ is_exclusive copy)
done-copy op Absent = (refl, refl)
done-copy op (Shared words) = (refl, refl)
done-copy op (Exclusive words) = (refl, refl)

pub hit-keeps : (home : ℕ) (op : Op) (s : LineShare) → IsOwnLine home s → IsOwnLine home (hit op s).share
unfolding hit
hit-keeps home op s own =
    record { local = own.local ∙ sym (ap not (done-copy op s.copy).0); unlisted = own.unlisted; exclusive = (done-copy op s.copy).1 ∙ own.exclusive; waiting = go s.header.wait own.waiting }
  where
    still : (g : Grantee) → IsOwnGrantee home g s → IsOwnGrantee home g (record s { copy = done_on op s.copy })
    still Nobody h = tt
    still Me h = (ap (done_on op) h.0, h.1)
    still (Node n) h = (ap (done_on op) h.0, h.1, h.2)

    go : (wait : Wait) → IsOwnWait home wait s → IsOwnWait home wait (record s { copy = done_on op s.copy })
    go Idle w = w
    go (Invalidate g) w = (w.0, w.1, w.2, still g w.3)
    go (ForwardGet r) w = w
    go (ForwardGetX r) w = w

-- an operation that begins is done at once, or is left begun with no copy
abbrev pub IsBegun : Op → LineShare → Outcome → Type 0
IsBegun op s o = (o.share.want ≡ s.want) ⊎ ((o.share.want ≡ begun op) × (o.done ≡ false) × (o.share.copy ≡ Absent))

abbrev pub BeginKeeps : ℕ → ℕ → Op → LineShare → Outcome → Type 0
BeginKeeps me home op s o = (me ≡ home → IsOwnLine home o.share) × IsBegun op s o

missed-load : (op : Op) (copy : Copy) → serves op copy ≡ false → is_load op.kind ≡ true → copy ≡ Absent
missed-load op Absent e f = refl
missed-load op (Shared words) e f = absurd (let d : false ≡ true = sym e ∙ f in cc)
missed-load op (Exclusive words) e f = absurd (let d : false ≡ true = sym e in cc)

missed : (op : Op) (copy : Copy) → serves op copy ≡ false → (is_exclusive copy ≡ false) × (without_shared copy ≡ Absent)
missed op Absent e = (refl, refl)
missed op (Shared words) e = (refl, refl)
missed op (Exclusive words) e = absurd (let d : false ≡ true = sym e in cc)

pub not-local : (exclusive dirty local : Bool) → exclusive ≡ (dirty && local) → exclusive ≡ false → dirty ≡ true → local ≡ false
not-local exclusive dirty local e f d = grind arith

module _ (home : ℕ) (room : Room) (op : Op) (s : LineShare) (own : IsOwnLine home s) (miss : serves op s.copy ≡ false) where
  abbrev Gives : Result Outcome Cause → Type 0
  Gives r = (o : Outcome) → r ≡ Ok o → IsOwnLine home o.share × IsBegun op s o

  bad : (c : Cause) → Gives (Err c)
  bad c o e = absurd (let d : ◌≡◌ {A = Result Outcome Cause} (Err c) (Ok o) = e in cc)

  good : (x : Outcome) → IsOwnLine home x.share × IsBegun op s x → Gives (Ok x)
  good x k o e = let is : x ≡ o = cc in subst (λ y. IsOwnLine home y.share × IsBegun op s y) is k

  module _ (idle : s.header.wait ≡ Idle) where
    loads : s.header.dirty ≡ false → IsOwnLine home (load_at_home op s).share
    loads clean =
        let w = waits-so home Idle s idle own in
        record {
          local = refl;
          unlisted = own.unlisted;
          exclusive = sym (ap (λ d. is_idle s.header.wait && d && true) clean ∙ none-between (is_idle s.header.wait) true);
          waiting = subst (λ k. IsOwnWait home k (load_at_home op s).share) (sym idle) (w.0, λ d. absurd (let e : false ≡ true = sym clean ∙ d in cc));
        }

    writes : nobody_listed s.header.list ≡ true → IsOwnLine home (write_at_home op s).share
    writes nobody =
        let w = waits-so home Idle s idle own in
        record {
          local = refl;
          unlisted = own.unlisted;
          exclusive = sym (ap (λ k. is_idle k && true && true) idle);
          waiting = subst (λ k. IsOwnWait home k (write_at_home op s).share) (sym idle) (w.0, λ d. eqb-true (count s.header.list) 0 nobody);
        }

    calls : s.header.dirty ≡ false → is_load op.kind ≡ false → nobody_listed s.header.list ≡ false → IsOwnLine home (invalidate_for_home op s).share
    calls clean write others =
        record { local = refl; unlisted = own.unlisted; exclusive = refl; waiting = (clean, above-none (count s.header.list) others, refl, (refl, ap not write)) }

    away : s.header.dirty ≡ true → s.header.local ≡ false
    away dirty = not-local (is_exclusive s.copy) s.header.dirty s.header.local (idle-exclusive home s idle own) (missed op s.copy miss).0 dirty

    empty : s.header.dirty ≡ true → s.copy ≡ Absent
    empty dirty = away-empty s.header.local s.copy own.local (away dirty)

    one : s.header.dirty ≡ true → count s.header.list ≡ 1
    one dirty = (waits-so home Idle s idle own).1 dirty ∙ ap (λ c. cond c 0 1) (away dirty)

    forwards-get : s.header.dirty ≡ true → IsOwnLine home (forward_get_home home op s).share
    forwards-get dirty =
        let w = waits-so home Idle s idle own in
        record {
          local = own.local;
          unlisted = own.unlisted;
          exclusive = (missed op s.copy miss).0;
          waiting = (w.0, away dirty, own.unlisted ∙ sym (ap not (eqb-self home)), one dirty ∙ sym (ap (λ c. cond c 1 2) (eqb-self home)));
        }

    forwards-getx : s.header.dirty ≡ true → IsOwnLine home (forward_getx_home home op s).share
    forwards-getx dirty =
        let w = waits-so home Idle s idle own in
        record { local = own.local; unlisted = own.unlisted; exclusive = (missed op s.copy miss).0; waiting = (w.0, away dirty, own.unlisted, one dirty) }

  at-home-keeps : Gives (begin_at_home home room op s)
  unfolding begin_at_home
  at-home-keeps =
      if-either Gives (is_pending s.header) _ _ (λ _. bad _) (λ free.
      (if-either Gives (not s.header.dirty && is_load op.kind) _ _ (λ c. good _ (loads (idle-is s.header.wait free) (first s.header.dirty (is_load op.kind) c), inl refl)) (λ not_load.
      (if-either Gives (not s.header.dirty && nobody_listed s.header.list) _ _ (λ c. good _ (writes (idle-is s.header.wait free) (second s.header.dirty (nobody_listed s.header.list) c), inl refl)) (λ listed_some.
      (if-either Gives room.full _ _ (λ _. bad _) (λ _.
      (if-either Gives (not s.header.dirty) _ _ (λ clean. good _ (calls (idle-is s.header.wait free) (not-true s.header.dirty clean) (other_fails (not s.header.dirty) (is_load op.kind) not_load clean) (other_fails (not s.header.dirty) (nobody_listed s.header.list) listed_some clean), inr (refl, refl, refl))) (λ dirty.
      (if-either Gives (is_load op.kind) _ _
      (λ _. good _ (forwards-get (idle-is s.header.wait free) (not-false s.header.dirty dirty), inr (refl, refl, empty (idle-is s.header.wait free) (not-false s.header.dirty dirty))))
      (λ _. good _ (forwards-getx (idle-is s.header.wait free) (not-false s.header.dirty dirty), inr (refl, refl, empty (idle-is s.header.wait free) (not-false s.header.dirty dirty))))))))))))))
    where
      first : (d l : Bool) → (not d && l) ≡ true → d ≡ false
      first d l e = grind arith

      second : (d l : Bool) → (not d && l) ≡ true → l ≡ true
      second d l e = grind arith

asks : (home : ℕ) (op : Op) (s : LineShare) → serves op s.copy ≡ false → IsBegun op s (ask home op s)
unfolding ask
asks home op s miss = if-either (IsBegun op s) (is_load op.kind) _ _ (λ load. inr (refl, refl, missed-load op s.copy miss load)) (λ write. inr (refl, refl, (missed op s.copy miss).1))

pub begin-keeps : (me home : ℕ) (room : Room) (op : Op) (s : LineShare) (o : Outcome) → (me ≡ home → IsOwnLine home s) → begin_op me home room op s ≡ Ok o → BeginKeeps me home op s o
unfolding begin_op
begin-keeps me home room op s o own =
    if-either Gives' (serves op s.copy) _ _ (λ _ e. absurd (err-ok _ o e)) (λ miss.
    (if-either Gives' (me == home) _ _
    (λ here e. let k = at-home-keeps home room op s (own (eqb-true me home here)) miss o e in ((λ _. k.0), k.1))
    (λ there e. let is : ask home op s ≡ o = cc in subst (BeginKeeps me home op s) is ((λ same. absurd (eqb-false me home there same)), asks home op s miss))))
  where
    Gives' : Result Outcome Cause → Type 0
    Gives' r = r ≡ Ok o → BeginKeeps me home op s o

abbrev pub LeaveKeeps : ℕ → ℕ → LineShare → Outcome → Type 0
LeaveKeeps me home s o = (me ≡ home → IsOwnLine home o.share) × IsQuiet s o

-- a copy leaves the home's cache
module _ (home : ℕ) (s : LineShare) (own : IsOwnLine home s) where
  unshared : (wait : Wait) → (words : Words) → s.copy ≡ Shared words → IsOwnWait home wait s → (is_idle wait ≡ true → s.header.dirty ≡ false) → IsOwnWait home wait (record s { copy = Absent; header = record s.header { local = false } })
  unshared Idle words has w clean = (w.0, λ d. absurd (let e : false ≡ true = sym (clean refl) ∙ d in cc))
  unshared (Invalidate Nobody) words has w clean = w
  unshared (Invalidate Me) words has w clean = (w.0, w.1, w.2, (refl, (w.3).1))
  unshared (Invalidate (Node n)) words has w clean = (w.0, w.1, w.2, (refl, (w.3).1, (w.3).2))
  unshared (ForwardGet r) words has w clean = (w.0, refl, w.2, w.3)
  unshared (ForwardGetX r) words has w clean = (w.0, refl, w.2, w.3)

  idle-clean : (words : Words) → s.copy ≡ Shared words → is_idle s.header.wait ≡ true → s.header.dirty ≡ false
  idle-clean words has idle = clean (is_idle s.header.wait) s.header.dirty s.header.local idle (own.local ∙ ap (λ c. not (is_empty c)) has) (sym own.exclusive ∙ ap is_exclusive has)
    where
      clean : (i d l : Bool) → i ≡ true → l ≡ true → (i && d && l) ≡ false → d ≡ false
      clean i d l e f g = grind arith

  idle-here : (words : Words) → s.copy ≡ Exclusive words → s.header.wait ≡ Idle
  idle-here words has = idle-is s.header.wait (idle (is_idle s.header.wait) s.header.dirty s.header.local (sym own.exclusive ∙ ap is_exclusive has))
    where
      idle : (i d l : Bool) → (i && d && l) ≡ true → not i ≡ false
      idle i d l e = grind arith

  leave-home-keeps : (copy : Copy) → s.copy ≡ copy → IsOwnLine home (leave_home copy s).share
  leave-home-keeps Absent e = own
  leave-home-keeps (Shared words) e =
      record { local = refl; unlisted = own.unlisted; exclusive = sym (and-false (is_idle s.header.wait && s.header.dirty)); waiting = unshared s.header.wait words e own.waiting (idle-clean words e) }
  leave-home-keeps (Exclusive words) e =
      record {
        local = refl;
        unlisted = own.unlisted;
        exclusive = sym (none-between (is_idle s.header.wait) false);
        waiting = subst (λ k. IsOwnWait home k (leave_home (Exclusive words) s).share) (sym (idle-here words e)) ((waits-so home Idle s (idle-here words e) own).0, λ d. absurd (cc));
      }

pub leave-home-quiet : (copy : Copy) (s : LineShare) → s.copy ≡ copy → IsQuiet s (leave_home copy s)
leave-home-quiet Absent s e = (refl, refl, λ none. none)
leave-home-quiet (Shared words) s e = (refl, refl, λ none. refl)
leave-home-quiet (Exclusive words) s e = (refl, refl, λ none. refl)

leave-remote-quiet : (home : ℕ) (kind : EvictKind) (s : LineShare) → IsQuiet s (leave_remote home kind s)
leave-remote-quiet home way.Wb s = (refl, refl, λ none. refl)
leave-remote-quiet home way.Hint s = (refl, refl, λ none. refl)
leave-remote-quiet home way.Silent s = (refl, refl, λ none. refl)

pub evict-keeps : (me home : ℕ) (kind : EvictKind) (s : LineShare) (o : Outcome) → (me ≡ home → IsOwnLine home s) → evict me home kind s ≡ Ok o → LeaveKeeps me home s o
unfolding evict
evict-keeps me home kind s o own =
    if-either Gives' (fits (me == home) kind s.copy) _ _
    (λ _ e. let is : cond (me == home) (leave_home s.copy s) (leave_remote home kind s) ≡ o = cc in subst (LeaveKeeps me home s) is (if-either (LeaveKeeps me home s) (me == home) (leave_home s.copy s) (leave_remote home kind s)
    (λ here. ((λ same. leave-home-keeps home s (own same) s.copy refl), leave-home-quiet s.copy s refl))
    (λ there. ((λ same. absurd (eqb-false me home there same)), leave-remote-quiet home kind s))))
    (λ _ e. absurd (err-ok _ o e))
  where
    Gives' : Result Outcome Cause → Type 0
    Gives' r = r ≡ Ok o → LeaveKeeps me home s o

-- A line that holds a link and isn't pending is clean, since a dirty one is listed by one node at most
pub call-keeps : (home : ℕ) (room : Room) (s : LineShare) → IsOwnLine home s → is_pending s.header ≡ false → holds_link room s.header ≡ true → IsOwnLine home (call_in s).share
call-keeps home room s own free holds =
    let idle = idle-is s.header.wait free in
    let w = waits-so home Idle s idle own in
    let many = above_one room.linked (count s.header.list) holds in
    let clean = not-dirty s.header.dirty s.header.local (count s.header.list) w.1 many in
    record { local = own.local; unlisted = own.unlisted; exclusive = idle-exclusive home s idle own ∙ ap (λ d. d && s.header.local) clean; waiting = (clean, above (count s.header.list) many, refl, tt) }
  where
    above : (n : ℕ) → 1 < n → 0 < n
    above n e = omega arith

    not-dirty : (d l : Bool) (n : ℕ) → (d ≡ true → n ≡ cond l 0 1) → 1 < n → d ≡ false
    not-dirty true true n w m = absurd (let e = w refl in omega arith)
    not-dirty true false n w m = absurd (let e = w refl in omega arith)
    not-dirty false l n w m = refl

pub call-quiet : (s : LineShare) → IsQuiet s (call_in s)
call-quiet s = (refl, refl, λ none. none)
