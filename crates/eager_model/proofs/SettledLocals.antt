-- What a processor does on a line that doesn't drain keeps it good: a hit, a beginning and an eviction.
use Rattle.std.proofs.Common.{◌≡◌, ℕ, Bool, true, false, cond, ◌==◌, ◌&&◌, List, [], ◌∷◌, refl, arith, ap, sym, ◌∙◌, subst, inl, Result, Ok, Option, Some, None}
use Rattle.eager_model.specs.Types.{Cause, Op, Want}
use Rattle.op_model.specs.declared.events.EvictKind.{EvictKind}
use Rattle.op_model.specs.declared.events.EvictKind.TheVariants as way
use Rattle.op_model.specs.Messages.{Content, Wb, Rpl}
use Rattle.op_model.specs.Lines.{Copy, Absent, Shared, Exclusive, Header, Outcome, Own, sending, no_message, is_empty, is_exclusive, words_of}
use Rattle.op_model.specs.Tables.Processor.{serves, done_on, hit, fits, evict, leave_home, leave_remote}
use Rattle.op_model.specs.Tables.Remote.{is_invalidate}
use Rattle.op_model.proofs.Public.{err-ok}
use Rattle.line_invariant.specs.Line.{share_of, after_row}
use Rattle.line_invariant.specs.Good.{IsGood}
use Rattle.line_invariant.proofs.Public.{good-evict, good-hit, hit-fresh, idle-answered, if-either}
use Rattle.line_invariant.proofs.Public.{wants-empty}
use Rattle.eager_model.specs.Ages.{LineAges, age_given, ages_left, with_copy}
use Rattle.eager_model.specs.Line.{AgedLine, ages_of, aged_row}
use Rattle.eager_model.specs.Served.{IsServedAt, age_served}
use Rattle.eager_model.specs.Good.{IsSettled, IsEagerGood}
use Rattle.eager_model.proofs.Quiet.{at-top}
use Rattle.eager_model.proofs.SettledFacts.{same-waits, same-memory, copy-newest}
use Rattle.eager_model.proofs.Taken.{free-lane}
use Rattle.eager_model.proofs.ServedAt.{above, served-at}
use Rattle.eager_model.proofs.Sent.{AreSent}
use Rattle.eager_model.proofs.NewestRows.{IsNewRow, newest-quiet, newest-own, given-copy, home-waits, home-memory}

-- a row that keeps the line settled keeps it good
pub settled-row : (home me : ℕ) (line : AgedLine) (row : Outcome) (ages : LineAges) → IsGood home (after_row home me row line.line) → IsNewRow home me line row ages → IsEagerGood home (aged_row home me row ages line)
settled-row home me line row ages good is = record { newest = at-top line.words_at _ _; stands = inl (record { good = good; settled = is.waits; ages = is.newest }) }

module _ (home : ℕ) (line : AgedLine) (settled : IsSettled home line) (me : ℕ) where
  module _ (op : Op) (serve : serves op (line.line.copy me) ≡ true) where
    -- who has a copy waits for nothing
    unanswered : line.line.answered me ≡ false
    unanswered = go (line.line.want me) refl
      where
        none_served : (copy : Copy) → copy ≡ Absent → serves op copy ≡ true → ⊥
        none_served copy e s = grind arith

        go : (want : Option Want) → line.line.want me ≡ want → line.line.answered me ≡ false
        go None e = idle-answered home line.line settled.good me e
        go (Some want) e = absurd (none_served (line.line.copy me) (wants-empty home line.line settled.good me want.op want.marked e) serve)

    served-full : (copy : Copy) → serves op copy ≡ true → (is_empty copy ≡ false) × (is_empty (done_on op copy) ≡ false)
    served-full copy e = (grind arith, grind arith)

    hit-row : IsNewRow home me line (hit op (share_of line.line me)) (with_copy (hit op (share_of line.line me)).share.copy (ages_of line me))
    unfolding hit
    hit-row =
        let full = served-full (line.line.copy me) serve in
        newest-own home me line (record (share_of line.line me) { copy = done_on op (line.line.copy me) }) no_message true (with_copy (done_on op (line.line.copy me)) (ages_of line me)) settled.ages
        op (words_of (line.line.copy me)) refl refl (same-waits home line settled me) full.1 (ap (λ c. cond c 0 (line.copy_age me)) full.1 ∙ copy-newest home line settled me full.0) (same-memory home line settled me)
        (λ a k l. free-lane home line settled.good me unanswered line.top (line.last me) l a k)

    pub good-settled-hit : IsEagerGood home (aged_row home me (hit op (share_of line.line me)) (with_copy (hit op (share_of line.line me)).share.copy (ages_of line me)) line)
    good-settled-hit = settled-row home me line (hit op (share_of line.line me)) (with_copy (hit op (share_of line.line me)).share.copy (ages_of line me)) (good-hit home line.line settled.good me op serve) hit-row

    pub served-settled-hit : line.words_at line.top ≡ line.line.words →
        IsServedAt line (aged_row home me (hit op (share_of line.line me)) (with_copy (hit op (share_of line.line me)).share.copy (ages_of line me)) line).top me
        (age_served home me (hit op (share_of line.line me)) (with_copy (hit op (share_of line.line me)).share.copy (ages_of line me)) line) (hit op (share_of line.line me)).served
    unfolding hit
    served-settled-hit newest = served-at line me newest settled.ages.past _ (above line.top _) (Own op (words_of (line.line.copy me))) _ (hit-fresh home line.line settled.good me op serve) hit-row.at_top

  -- an eviction
  abbrev LeftRow : Outcome → Type 0
  LeftRow o = IsNewRow home me line o (with_copy o.share.copy (ages_left (me == home) (share_of line.line me) (ages_of line me)))

  left-home : (me == home) ≡ true → LeftRow (leave_home (line.line.copy me) (share_of line.line me))
  left-home on = by (me == home) on (line.line.copy me) refl
    where
      at_home : (copy : Copy) (header : Header) (m : ℕ) → is_invalidate header.wait ≡ false → (header.dirty ≡ false → m ≡ line.top) → cond (is_empty copy) 0 (line.copy_age me) ≡ cond (is_empty copy) 0 line.top →
          IsNewRow home me line (sending (record (share_of line.line me) { copy = copy; header = header }) no_message) (record { copy = cond (is_empty copy) 0 (line.copy_age me); memory = m })
      at_home copy header m waits memory is =
          newest-quiet home me line (record (share_of line.line me) { copy = copy; header = header }) no_message false (record { copy = cond (is_empty copy) 0 (line.copy_age me); memory = m }) settled.ages
          (home-waits line header m (me == home) settled.settled waits) is tt (home-memory line header m home settled.ages (me == home) memory) (λ d e counted. counted)

      by : (b : Bool) → b ≡ true → (copy : Copy) → line.line.copy me ≡ copy →
          IsNewRow home me line (leave_home copy (record (share_of line.line me) { copy = copy })) (with_copy (leave_home copy (record (share_of line.line me) { copy = copy })).share.copy (cond (b && is_exclusive copy) (record (ages_of line me) { memory = line.copy_age me }) (ages_of line me)))
      by true e Absent f = at_home Absent line.line.header line.memory_age settled.settled settled.ages.memory refl
      by true e (Shared words) f = at_home Absent (record line.line.header { local = false }) line.memory_age settled.settled settled.ages.memory refl
      by true e (Exclusive words) f = at_home Absent (record line.line.header { local = false; dirty = false; memory = words }) (line.copy_age me) settled.settled (λ _. copy-newest home line settled me (ap is_empty f)) refl
      by false e copy f = absurd (grind arith)

  fits-full : (kind : EvictKind) (copy : Copy) → fits false kind copy ≡ true → is_empty copy ≡ false
  fits-full kind copy e = grind arith

  left-remote : (me == home) ≡ false → (kind : EvictKind) → fits false kind (line.line.copy me) ≡ true → LeftRow (leave_remote home kind (share_of line.line me))
  left-remote off kind fit = by kind
    where
      away : (sends : List (ℕ × Content)) → AreSent (age_given (me == home) (share_of line.line me) (ages_of line me)) line.top line.last sends → LeftRow (sending (record (share_of line.line me) { copy = Absent }) sends)
      away sends sent = go (me == home) off
        where
          quiet : (m : ℕ) → m ≡ line.memory_age → IsNewRow home me line (sending (record (share_of line.line me) { copy = Absent }) sends) (record { copy = 0; memory = m })
          quiet m e =
              newest-quiet home me line (record (share_of line.line me) { copy = Absent }) sends false (record { copy = 0; memory = m }) settled.ages
              (same-waits home line settled me) refl sent (home-memory line line.line.header m home settled.ages (me == home) (λ clean. e ∙ settled.ages.memory clean)) (λ d e counted. counted)

          go : (b : Bool) → b ≡ false → IsNewRow home me line (sending (record (share_of line.line me) { copy = Absent }) sends) (with_copy Absent (cond (b && is_exclusive (line.line.copy me)) (record (ages_of line me) { memory = line.copy_age me }) (ages_of line me)))
          go false e = quiet line.memory_age refl
          go true e = absurd (grind arith)

      given : age_given (me == home) (share_of line.line me) (ages_of line me) ≡ line.top
      given = given-copy (me == home) (share_of line.line me) (ages_of line me) off ∙ copy-newest home line settled me (fits-full kind (line.line.copy me) fit)

      by : (kind : EvictKind) → LeftRow (leave_remote home kind (share_of line.line me))
      by way.Wb = away ((home, Wb (words_of (line.line.copy me))) ∷ []) (given, tt)
      by way.Hint = away ((home, Rpl) ∷ []) (refl, tt)
      by way.Silent = away no_message tt

  pub left-row : (kind : EvictKind) (o : Outcome) → evict me home kind (share_of line.line me) ≡ Ok o → LeftRow o
  unfolding evict
  left-row kind o =
      if-either Gives (fits (me == home) kind (line.line.copy me)) _ _
      (λ fit e. let is : cond (me == home) (leave_home (line.line.copy me) (share_of line.line me)) (leave_remote home kind (share_of line.line me)) ≡ o = cc in subst LeftRow is (if-either LeftRow (me == home) _ _ (λ on. left-home on) (λ off. left-remote off kind (ap (λ b. fits b kind (line.line.copy me)) (sym off) ∙ fit)))) (λ _ e. absurd (err-ok _ o e))
    where
      Gives : Result Outcome Cause → Type 0
      Gives r = r ≡ Ok o → LeftRow o

  pub good-settled-eviction : (kind : EvictKind) (o : Outcome) → evict me home kind (share_of line.line me) ≡ Ok o →
      IsEagerGood home (aged_row home me o (with_copy o.share.copy (ages_left (me == home) (share_of line.line me) (ages_of line me))) line)
  good-settled-eviction kind o ok = settled-row home me line o (with_copy o.share.copy (ages_left (me == home) (share_of line.line me) (ages_of line me))) (good-evict home line.line settled.good me kind o ok) (left-row kind o ok)
