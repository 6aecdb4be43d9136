-- A row that begins an age: no other node has words that count then.
use Rattle.std.proofs.Common.{◌≡◌, ℕ, suc, ◌≤◌, Bool, true, false, cond, ◌==◌, List, [], map, refl, arith, ap, sym, ◌∙◌, subst}
use Rattle.std.proofs.lemmas.Bool.Decides.{nat_tests}
use Rattle.eager_model.specs.Types.{Class, Op}
use Rattle.op_model.specs.Operations.{Words, is_load}
use Rattle.op_model.specs.Messages.{Content}
use Rattle.op_model.specs.Lines.{LineShare, NoService, Own, is_empty}
use Rattle.op_model.specs.Tables.Remote.{is_invalidate}
use Rattle.line_invariant.specs.Line.{share_of}
use Rattle.eager_model.specs.Ages.{LineAges, age_given}
use Rattle.eager_model.specs.Line.{AgedLine, ages_of, greater, begun_age}
use Rattle.eager_model.specs.Newest.{AreNewest, newest_age, counts}
use Rattle.eager_model.proofs.Sent.{AreSent}
use Rattle.eager_model.proofs.NewestRows.{IsNewRow, newest-row}

-- no node but this one has the line's words, and none that count are under way
pub record IsAlone (home me : ℕ) (line : AgedLine) : Type 0 where
  pub copies : (node : ℕ) → (node == me) ≡ false → is_empty (line.line.copy node) ≡ true
  pub lanes : (l a b : ℕ) (class : Class) → map (newest_age line.top l) (line.line.lane a b class) ≡ map (newest_age (suc line.top) l) (line.line.lane a b class)
  pub puts : (node : ℕ) → line.line.answered node ≡ true → counts home node (line.line.want node) ≡ false

module _ (home me : ℕ) (line : AgedLine) (share : LineShare) (ages : LineAges) (good : AreNewest home line) (alone : IsAlone home me line) where
  below : (node : ℕ) → line.last node ≤ suc line.top
  below node = let le = good.past node in grind arith

  no-copy : (node : ℕ) → (node == me) ≡ false → is_empty (line.line.copy node) ≡ false → suc line.top ≡ line.top
  no-copy node e f = absurd (let none = alone.copies node e in grind arith)

  none-counts : (node : ℕ) → line.line.answered node ≡ true → counts home node (line.line.want node) ≡ true → line.last node ≡ suc line.top
  none-counts node e f = absurd (let no = alone.puts node e in grind arith)

  -- the line is given away
  pub newest-given : (sends : List (ℕ × Content)) →
      is_invalidate (cond (me == home) share.header line.line.header).wait ≡ false →
      greater line.top (greater ages.copy (begun_age (age_given (me == home) (share_of line.line me) (ages_of line me)) sends)) ≡ suc line.top →
      ages.copy ≡ cond (is_empty share.copy) 0 (suc line.top) →
      AreSent (age_given (me == home) (share_of line.line me) (ages_of line me)) (suc line.top) line.last sends →
      ((cond (me == home) share.header line.line.header).dirty ≡ false → ⊥) →
      share.want ≡ line.line.want me →
      IsNewRow home me line (record { share = share; sends = sends; served = NoService; done = false }) ages
  newest-given sends waits top copy sent dirty wants =
      record {
        waits = waits;
        newest = newest-row home me line (record { share = share; sends = sends; served = NoService; done = false }) ages good (suc line.top) line.last top
            (λ node. refl) copy no-copy (λ a b class. alone.lanes (line.last b) a b class) sent (λ e. absurd (dirty e)) below
            (λ node e counted. served node (node == me) refl e counted);
        at_top = tt;
      }
    where
      served : (node : ℕ) (b : Bool) → (node == me) ≡ b → line.line.answered node ≡ true → counts home node (cond b share.want (line.line.want node)) ≡ true → line.last node ≡ suc line.top
      served node false e answered counted = none-counts node answered counted
      served node true e answered counted =
          let is : node ≡ me = grind (arith, nat_tests) in
          none-counts node answered (subst (λ w. counts home node w ≡ true) (wants ∙ ap line.line.want (sym is)) counted)

  -- the home writes
  pub newest-written : (op : Op) (on : Words) → is_load op.kind ≡ false →
      is_invalidate (cond (me == home) share.header line.line.header).wait ≡ false →
      is_empty share.copy ≡ false → ages.copy ≡ suc line.top →
      ((cond (me == home) share.header line.line.header).dirty ≡ false → ⊥) →
      ((a : ℕ) (class : Class) (l : ℕ) → map (newest_age line.top (line.last me)) (line.line.lane a me class) ≡ map (newest_age line.top l) (line.line.lane a me class)) →
      IsNewRow home me line (record { share = share; sends = []; served = Own op on; done = true }) ages
  newest-written op on write waits full copy dirty free =
      record {
        waits = waits;
        newest = newest-row home me line (record { share = share; sends = []; served = Own op on; done = true }) ages good (suc line.top) last top
            (λ node. refl) (copy ∙ ap (λ c. cond c 0 (suc line.top)) (sym full)) no-copy (λ a b class. lanes a b class (b == me) refl) tt (λ e. absurd (dirty e)) past
            (λ node e counted. served node (node == me) e counted);
        at_top = (copy ∙ sym top, λ load. absurd (grind arith));
      }
    where
      last : ℕ → ℕ
      last b = cond (b == me) ages.copy (line.last b)

      raised : (top copy : ℕ) → copy ≡ suc top → greater top (greater copy 0) ≡ suc top
      raised top copy e = grind (arith, nat_tests)

      top : greater line.top (greater ages.copy 0) ≡ suc line.top
      top = raised line.top ages.copy copy

      past : (node : ℕ) → last node ≤ suc line.top
      past node = go (node == me)
        where
          go : (c : Bool) → cond c ages.copy (line.last node) ≤ suc line.top
          go true = grind arith
          go false = below node

      lanes : (a b : ℕ) (class : Class) (c : Bool) → (b == me) ≡ c → map (newest_age line.top (line.last b)) (line.line.lane a b class) ≡ map (newest_age (suc line.top) (cond c ages.copy (line.last b))) (line.line.lane a b class)
      lanes a b class false e = alone.lanes (line.last b) a b class
      lanes a b class true e =
          let is : me ≡ b = grind (arith, nat_tests) in
          subst (λ n. map (newest_age line.top (line.last n)) (line.line.lane a n class) ≡ map (newest_age line.top ages.copy) (line.line.lane a n class)) is (free a class ages.copy) ∙ alone.lanes ages.copy a b class

      served : (node : ℕ) (b : Bool) → cond b false (line.line.answered node) ≡ true → counts home node (cond b share.want (line.line.want node)) ≡ true → cond b ages.copy (line.last node) ≡ suc line.top
      served node true answered counted = copy
      served node false answered counted = none-counts node answered counted
