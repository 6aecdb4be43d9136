-- What a row leaves of the operation that its node has begun: it stays, perhaps marked now, or has ended, or begins. In each case the
-- share keeps what holds of it.
use Rattle.std.proofs.Common.{◌≡◌, ◌≢◌, ◌⊎◌, inl, inr, ℕ, suc, Bool, true, false, cond, ◌==◌, slice_get, List, refl, arith, sym, ap, subst, ◌∙◌, Option, Some, None}
use Rattle.std.proofs.lemmas.Bool.{eqb-true, eq-eqb, eqb-false}
use Rattle.std.proofs.lemmas.Bool.Decides.{nat_tests}
use Rattle.line_map.specs.Sizes.{Sizes, home_of, line_of, set_of}
use Rattle.op_model.specs.declared.operations.Op.{Op}
use Rattle.op_model.specs.declared.state.Want.{Want}
use Rattle.op_model.specs.Operations.{is_load}
use Rattle.op_model.specs.Lines.{Absent, LineShare, Outcome, begun, is_empty, marked_load, is_outstanding}
use Rattle.op_model.specs.OwnPart.{IsOutstanding}
use Rattle.op_model.specs.Shares.{Charge, Share, copy_of, header_of, is_set_empty, line_share, put_share, room_of, want_after, want_on}
use Rattle.op_model.proofs.Public.{empty-copy, want-stays}
use Rattle.one_history.proofs.Public.{IsOn, copy-other, copy-same}
use Rattle.lane_bounds.proofs.Public.{IsAllowed}
use Rattle.own_part.proofs.Effects.{IsQuiet, IsMark, IsEnd, IsEffect}
use Rattle.own_part.proofs.ShareRows.{AreOthersAway, IsPartOf, all-empty, empty-set, next_share, part-row}

-- what is begun on a line is of that line
pub own-on : (sizes : Sizes) (want : Option Want) (line : ℕ) → IsOn sizes line (want_on sizes want line)
own-on sizes None line = tt
own-on sizes (Some want) line = go (line_of sizes want.op.word == line) refl
  where
    go : (c : Bool) → (line_of sizes want.op.word == line) ≡ c → IsOn sizes line (cond c (Some want) None)
    go true e = grind (arith, nat_tests)
    go false e = tt

-- an operation that a node waits for is of this line
pub waited : (sizes : Sizes) (want : Option Want) (line : ℕ) → is_outstanding (want_on sizes want line) ≡ true → (w : Want) × (want ≡ Some w) × (line_of sizes w.op.word ≡ line)
waited sizes None line e = absurd (cc)
waited sizes (Some w) line e = go (line_of sizes w.op.word == line) refl e
  where
    go : (c : Bool) → (line_of sizes w.op.word == line) ≡ c → is_outstanding (cond c (Some w) None) ≡ true → (x : Want) × (Some w ≡ Some x) × (line_of sizes x.op.word ≡ line)
    go true f h = (w, refl, eqb-true (line_of sizes w.op.word) line f)
    go false f h = absurd (cc)

pub gone-after : (sizes : Sizes) (w : Want) (line : ℕ) (next : Option Want) → line_of sizes w.op.word ≡ line → want_after sizes (Some w) line next ≡ next
gone-after sizes w line next on = ap (λ c. cond c next (Some w)) (eq-eqb (line_of sizes w.op.word) line on)

module _ (Line : ℕ → LineShare → Type 0) (charge : Charge) (sizes : Sizes) (node : ℕ) (program : List Op) (share : Share) (part : IsPartOf Line sizes node program share) (line : ℕ) (o : Outcome)
    (kept : node ≡ home_of sizes line → Line (home_of sizes line) o.share)
    (allowed : (node == home_of sizes line) ≡ true → IsAllowed (room_of charge sizes share) (header_of sizes share line) o.share.header) where
  abbrev next : Share
  next = next_share Line charge sizes node program share part line o

  abbrev Outstanding : Option Want → Type 0
  Outstanding want = IsOutstanding sizes node program next want

  place-stays : o.done ≡ false → next.place ≡ share.place
  unfolding put_share
  place-stays still = ap (λ c. cond c (suc share.place) share.place) still

  want-is : next.want ≡ want_after sizes share.want line o.share.want
  unfolding put_share
  want-is = refl

  -- a set that was empty stays so where no copy comes
  set-stays : (q : ℕ) → (copy_of share line ≡ Absent → o.share.copy ≡ Absent) → is_set_empty sizes share q ≡ true → is_set_empty sizes next q ≡ true
  set-stays q stays alone = empty-set sizes next q each
    where
      each : (b : ℕ) → set_of sizes b ≡ set_of sizes q → is_empty (copy_of next b) ≡ true
      each b same = go (b == line) refl
        where
          before : is_empty (copy_of share b) ≡ true
          before = all-empty sizes share q b alone same

          go : (c : Bool) → (b == line) ≡ c → is_empty (copy_of next b) ≡ true
          go true e =
              let here : b ≡ line = eqb-true b line e in
              ap (λ k. is_empty (copy_of next k)) here ∙ ap is_empty (copy-same sizes (node == home_of sizes line) line o.done o.share share ∙ stays (empty-copy (copy_of share line) (ap (λ k. is_empty (copy_of share k)) (sym here) ∙ before)))
          go false e =
              let other : b ≢ line = eqb-false b line e in
              ap is_empty (copy-other sizes (node == home_of sizes line) line o.done o.share share b other) ∙ before

  -- the operation stays
  stays-outstanding : (copy_of share line ≡ Absent → o.share.copy ≡ Absent) → o.done ≡ false → (want : Option Want) → IsOutstanding sizes node program share want → Outstanding want
  stays-outstanding stays still None h = tt
  stays-outstanding stays still (Some w) h = (ap (slice_get program) (place-stays still) ∙ h.0, set-stays (line_of sizes w.op.word) stays h.1, h.2)

  pub quiet-row : IsQuiet (line_share sizes share line) o → IsPartOf Line sizes node program next
  quiet-row q =
      part-row Line charge sizes node program share part line o
      (record {
        kept = kept;
        allowed = allowed;
        on = subst (IsOn sizes line) (sym q.0) (own-on sizes share.want line);
        fits = inr (λ none. q.0 ∙ none);
        comes = inl q.2;
        begun = subst Outstanding (sym (want-is ∙ ap (want_after sizes share.want line) q.0 ∙ want-stays sizes share.want line)) (stays-outstanding q.2 q.1 share.want part.outstanding);
      })

  -- a load that waits is marked
  marked-outstanding : node ≢ home_of sizes line → (copy_of share line ≡ Absent → o.share.copy ≡ Absent) → o.done ≡ false → (want : Option Want) → IsOutstanding sizes node program share want → Outstanding (want_after sizes want line (marked_load (want_on sizes want line)))
  marked-outstanding apart stays still None h = tt
  marked-outstanding apart stays still (Some w) h = go (line_of sizes w.op.word == line) refl
    where
      there : (line_of sizes w.op.word == line) ≡ true → home_of sizes (line_of sizes w.op.word) ≢ node
      there e same = apart (sym (sym (ap (home_of sizes) (eqb-true (line_of sizes w.op.word) line e)) ∙ same))

      mark : (line_of sizes w.op.word == line) ≡ true → (l : Bool) → is_load w.op.kind ≡ l → cond l true w.marked ≡ true → (is_load w.op.kind ≡ true) × (home_of sizes (line_of sizes w.op.word) ≢ node)
      mark e true f m = (f, there e)
      mark e false f m = h.2 m

      go : (c : Bool) → (line_of sizes w.op.word == line) ≡ c → Outstanding (cond c (marked_load (cond c (Some w) None)) (Some w))
      go true e = (ap (slice_get program) (place-stays still) ∙ h.0, set-stays (line_of sizes w.op.word) stays h.1, mark e (is_load w.op.kind) refl)
      go false e = stays-outstanding stays still (Some w) h

  pub mark-row : IsMark node (home_of sizes line) (line_share sizes share line) o → IsPartOf Line sizes node program next
  mark-row m =
      part-row Line charge sizes node program share part line o
      (record {
        kept = kept;
        allowed = allowed;
        on = subst (IsOn sizes line) (sym m.1) (marked-on (want_on sizes share.want line) (own-on sizes share.want line));
        fits = inr (λ none. m.1 ∙ ap marked_load none);
        comes = inl m.3;
        begun = subst Outstanding (sym (want-is ∙ ap (want_after sizes share.want line) m.1)) (marked-outstanding m.0 m.3 m.2 share.want part.outstanding);
      })
    where
      marked-on : (want : Option Want) → IsOn sizes line want → IsOn sizes line (marked_load want)
      marked-on None on = tt
      marked-on (Some w) on = on

  -- the operation ends: the set of its line was empty
  pub end-row : IsEnd (line_share sizes share line) o → IsPartOf Line sizes node program next
  end-row e =
      let w = waited sizes share.want line e.1 in
      part-row Line charge sizes node program share part line o
      (record {
        kept = kept;
        allowed = allowed;
        on = subst (IsOn sizes line) (sym e.0) tt;
        fits = inr (λ none. e.0);
        comes = inr (away w.0 w.1 w.2);
        begun = subst Outstanding (sym (want-is ∙ ap (λ k. want_after sizes k line o.share.want) w.1 ∙ gone-after sizes w.0 line o.share.want w.2 ∙ e.0)) tt;
      })
    where
      away : (w : Want) → share.want ≡ Some w → line_of sizes w.op.word ≡ line → AreOthersAway Line charge sizes node program share part line o
      away w is on b other same =
          let h : IsOutstanding sizes node program share (Some w) = subst (IsOutstanding sizes node program share) is part.outstanding in
          all-empty sizes share (line_of sizes w.op.word) b h.1 (same ∙ ap (set_of sizes) (sym on))

  pub effect-row : IsEffect node (home_of sizes line) (line_share sizes share line) o → IsPartOf Line sizes node program next
  effect-row (inl q) = quiet-row q
  effect-row (inr (inl m)) = mark-row m
  effect-row (inr (inr e)) = end-row e

  -- nothing was begun, and nothing is
  pub free-row : share.want ≡ None → o.share.want ≡ None → (copy_of share line ≡ Absent → o.share.copy ≡ Absent) ⊎ AreOthersAway Line charge sizes node program share part line o → IsPartOf Line sizes node program next
  free-row free none comes =
      part-row Line charge sizes node program share part line o
      (record {
        kept = kept;
        allowed = allowed;
        on = subst (IsOn sizes line) (sym none) tt;
        fits = inl free;
        comes = comes;
        begun = subst Outstanding (sym (want-is ∙ ap (λ k. want_after sizes k line o.share.want) free ∙ none)) tt;
      })

  -- an operation begins: no other line stands in its set, and its own has no copy
  pub begun-row : (op : Op) → share.want ≡ None → slice_get program share.place ≡ Some op → line_of sizes op.word ≡ line → o.share.want ≡ begun op → o.done ≡ false → o.share.copy ≡ Absent → AreOthersAway Line charge sizes node program share part line o → IsPartOf Line sizes node program next
  begun-row op free at on begins still bare away =
      part-row Line charge sizes node program share part line o
      (record {
        kept = kept;
        allowed = allowed;
        on = subst (IsOn sizes line) (sym begins) on;
        fits = inl free;
        comes = inl (λ _. bare);
        begun = subst Outstanding (sym (want-is ∙ ap (λ k. want_after sizes k line o.share.want) free ∙ begins)) (ap (slice_get program) (place-stays still) ∙ at, empty-set sizes next (line_of sizes op.word) each, λ m. absurd (cc));
      })
    where
      each : (b : ℕ) → set_of sizes b ≡ set_of sizes (line_of sizes op.word) → is_empty (copy_of next b) ≡ true
      each b same = go (b == line) refl
        where
          go : (c : Bool) → (b == line) ≡ c → is_empty (copy_of next b) ≡ true
          go true e =
              let here : b ≡ line = eqb-true b line e in
              ap (λ k. is_empty (copy_of next k)) here ∙ ap is_empty (copy-same sizes (node == home_of sizes line) line o.done o.share share ∙ bare)
          go false e =
              let other : b ≢ line = eqb-false b line e in
              ap is_empty (copy-other sizes (node == home_of sizes line) line o.done o.share share b other) ∙ away b other (same ∙ ap (set_of sizes) on)
