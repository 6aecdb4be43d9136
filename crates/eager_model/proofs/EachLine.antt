-- What holds of each event on any line: by the two cases, a line that doesn't drain and one that does.
use Rattle.std.proofs.Common.{◌≡◌, ◌⊎◌, ℕ, Bool, true, false, not, List, ◌∷◌, map, ap, ◌∙◌, inl, inr, None, Ok}
use Rattle.eager_model.specs.Types.{Class, Op}
use Rattle.line_invariant.specs.Types.{EvictKind}
use Rattle.op_model.specs.Operations.{Words, is_load}
use Rattle.op_model.specs.Messages.{Content, Put}
use Rattle.op_model.specs.Lines.{Absent, Room, Service, NoService, Outcome, is_empty}
use Rattle.op_model.specs.Tables.Processor.{serves, evict}
use Rattle.line_invariant.specs.Line.{share_of}
use Rattle.line_invariant.specs.Rows.{wanting, IsServedFor, IsOwnServed, IsOwnWant, EndsRight}
use Rattle.line_invariant.proofs.Public as delayed
use Rattle.eager_model.specs.Rows.{begin_op, meets}
use Rattle.eager_model.specs.Line.{AgedLine, after_take, row_taken}
use Rattle.eager_model.specs.Processor.{hit_row, ages_after_hit, after_hit, ages_after_begin, after_begin, after_leave}
use Rattle.eager_model.specs.Newest.{newest_age}
use Rattle.eager_model.specs.Good.{IsEagerGood, IsSettled, IsDraining}
use Rattle.eager_model.specs.Served.{age_served, age_taken, IsServedAt}
use Rattle.eager_model.proofs.SettledTakes.{meets-settled, good-settled-take, served-settled-take, whose-settled-take, done-settled-take}
use Rattle.eager_model.proofs.SettledLocals.{good-settled-hit, served-settled-hit, good-settled-eviction}
use Rattle.eager_model.proofs.SettledBegins.{good-settled-beginning}
use Rattle.eager_model.proofs.DrainingTakes.{good-take, front-meets}
use Rattle.eager_model.proofs.DrainingServed.{take-serves}
use Rattle.eager_model.proofs.DrainingEnds as draining
use Rattle.eager_model.proofs.DrainingHits.{good-hit}
use Rattle.eager_model.proofs.DrainingBegins.{good-begin}
use Rattle.eager_model.proofs.DrainingLeaves.{good-evict}

-- whether a message meets a row doesn't depend on the room
pub any_room : Room
any_room = record { full = false; link_free = false; link_pending = false; linked = false }

module _ (home : ℕ) (line : AgedLine) (good : IsEagerGood home line) (from to : ℕ) (class : Class) (content : Content) (rest : List Content) (front : line.line.lane from to class ≡ content ∷ rest) where
  pub any-front : meets to home from (is_empty (line.line.copy to)) content (share_of line.line to) ≡ true
  any-front = by good.stands
    where
      by : IsSettled home line ⊎ IsDraining home line → meets to home from (is_empty (line.line.copy to)) content (share_of line.line to) ≡ true
      by (inl it) = meets-settled home line it from to class rest any_room content front
      by (inr it) = front-meets home line good.newest it from rest to class content front

  module _ (room : Room) where
    pub any-served : IsServedFor line.line.want line.line.answered to line.line.words (row_taken home from to content room line.line).served
    any-served = by good.stands
      where
        by : IsSettled home line ⊎ IsDraining home line → IsServedFor line.line.want line.line.answered to line.line.words (row_taken home from to content room line.line).served
        by (inl it) = whose-settled-take home line it from to class rest room _ _ (it.ages.lanes from to class ∙ ap (map (newest_age line.top (line.last to))) front) content front
        by (inr it) = (take-serves home line good.newest it from rest _ _ room to class content front (it.ages.lanes from to class ∙ ap (map _) front)).0

    pub any-done : EndsRight (line.line.answered to ≡ true) (row_taken home from to content room line.line)
    any-done = by good.stands
      where
        by : IsSettled home line ⊎ IsDraining home line → EndsRight (line.line.answered to ≡ true) (row_taken home from to content room line.line)
        by (inl it) = done-settled-take home line it from to class rest room _ _ (it.ages.lanes from to class ∙ ap (map (newest_age line.top (line.last to))) front) content front
        by (inr it) = (draining.take-ends home line good.newest it from rest room to class content front).0

    module _ (age : ℕ) (ages : List ℕ) (first : line.lane_age from to class ≡ age ∷ ages) where
      pub any-take : IsEagerGood home (after_take home from to class content rest age ages room line)
      any-take = by good.stands
        where
          by : IsSettled home line ⊎ IsDraining home line → IsEagerGood home (after_take home from to class content rest age ages room line)
          by (inl it) = good-settled-take home line it from to class rest room age ages first content front good.newest
          by (inr it) = good-take home line good.newest it from rest age ages room to class content front first

      pub any-aged : IsServedAt line (after_take home from to class content rest age ages room line).top to (age_taken home from to content age room line) (row_taken home from to content room line.line).served
      any-aged = by good.stands
        where
          by : IsSettled home line ⊎ IsDraining home line → IsServedAt line (after_take home from to class content rest age ages room line).top to (age_taken home from to content age room line) (row_taken home from to content room line.line).served
          by (inl it) = served-settled-take home line it from to class rest room age ages first content front good.newest
          by (inr it) = (take-serves home line good.newest it from rest age ages room to class content front first).1

module _ (home : ℕ) (line : AgedLine) (good : IsEagerGood home line) where
  pub any-answered : (from to : ℕ) (class : Class) (words : Words) (rest : List Content) → line.line.lane from to class ≡ Put words ∷ rest → line.line.answered to ≡ true
  any-answered from to class words rest front = by good.stands
    where
      by : IsSettled home line ⊎ IsDraining home line → line.line.answered to ≡ true
      by (inl it) = delayed.put-answered home line.line it.good from rest to class words front
      by (inr it) = draining.put-answered home line good.newest it from rest to class words front

  pub any-local : line.line.header.local ≡ not (is_empty (line.line.copy home))
  any-local = by good.stands
    where
      by : IsSettled home line ⊎ IsDraining home line → line.line.header.local ≡ not (is_empty (line.line.copy home))
      by (inl it) = it.good.local
      by (inr it) = it.local

  module _ (node : ℕ) where
    pub any-idle : line.line.want node ≡ None → line.line.answered node ≡ false
    any-idle none = by good.stands
      where
        by : IsSettled home line ⊎ IsDraining home line → line.line.answered node ≡ false
        by (inl it) = delayed.idle-answered home line.line it.good node none
        by (inr it) = draining.idle-answered home line it node none

    module _ (op : Op) (marked : Bool) (wants : line.line.want node ≡ wanting op marked) where
      pub any-writes : is_load op.kind ≡ false → line.line.answered node ≡ false
      any-writes write = by good.stands
        where
          by : IsSettled home line ⊎ IsDraining home line → line.line.answered node ≡ false
          by (inl it) = delayed.writes-answered home line.line it.good node op marked wants write
          by (inr it) = draining.writes-answered home line it node op marked wants write

      pub any-bare : line.line.copy node ≡ Absent
      any-bare = by good.stands
        where
          by : IsSettled home line ⊎ IsDraining home line → line.line.copy node ≡ Absent
          by (inl it) = delayed.wants-empty home line.line it.good node op marked wants
          by (inr it) = draining.wants-empty home line it node op marked wants

    pub any-hit : (op : Op) → serves op (line.line.copy node) ≡ true →
        IsEagerGood home (after_hit home node op line) × IsServedAt line (after_hit home node op line).top node (age_served home node (hit_row node op line) (ages_after_hit node op line) line) (hit_row node op line).served
    any-hit op serve = by good.stands
      where
        by : IsSettled home line ⊎ IsDraining home line →
            IsEagerGood home (after_hit home node op line) × IsServedAt line (after_hit home node op line).top node (age_served home node (hit_row node op line) (ages_after_hit node op line) line) (hit_row node op line).served
        by (inl it) = (good-settled-hit home line it node op serve, served-settled-hit home line it node op serve good.newest)
        by (inr it) = good-hit home line good.newest it op node serve

    -- what is said of a beginning
    abbrev pub BeginsWell : Op → Outcome → Type 0
    BeginsWell op outcome =
        IsEagerGood home (after_begin home node outcome line)
        × IsServedAt line (after_begin home node outcome line).top node (age_served home node outcome (ages_after_begin node outcome line) line) outcome.served
        × IsOwnServed op line.line.words outcome.served × IsOwnWant op outcome.share.want × EndsRight ⊥ outcome

    pub any-begin : (op : Op) (room : Room) (outcome : Outcome) → line.line.want node ≡ None → begin_op node home room op (share_of line.line node) ≡ Ok outcome → BeginsWell op outcome
    any-begin op room outcome free ok = by good.stands
      where
        none_served : (serving : Service) (top age : ℕ) → serving ≡ NoService → IsServedAt line top node age serving × IsOwnServed op line.line.words serving
        none_served serving top age none = rw none (tt, tt)

        by : IsSettled home line ⊎ IsDraining home line → BeginsWell op outcome
        by (inl it) = good-settled-beginning home line it node op free room good.newest outcome ok
        by (inr it) =
            let fine = good-begin home line good.newest it node op free room outcome ok in
            let none = none_served outcome.served (after_begin home node outcome line).top (age_served home node outcome (ages_after_begin node outcome line) line) fine.1 in
            (fine.0, none.0, none.1, fine.2, fine.3)

    pub any-leave : (kind : EvictKind) (outcome : Outcome) → evict node home kind (share_of line.line node) ≡ Ok outcome → IsEagerGood home (after_leave home node outcome line)
    any-leave kind outcome ok = by good.stands
      where
        by : IsSettled home line ⊎ IsDraining home line → IsEagerGood home (after_leave home node outcome line)
        by (inl it) = good-settled-eviction home line it node kind outcome ok
        by (inr it) = good-evict home line good.newest it node kind outcome ok
