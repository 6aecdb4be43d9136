-- What a node of the eager machine does by its own share and ages is the row of the whole machine.
use Rattle.std.proofs.Common.{◌≡◌, ◌≢◌, ℕ, ◌<◌, Bool, true, false, cond, ◌==◌, ◌⊎◌, [], ◌++◌, drop, length, refl, arith, ap, sym, ◌∙◌, subst, None}
use Rattle.std.proofs.lemmas.Bool.Decides.{nat_tests}
use Rattle.line_map.specs.Sizes.{Sizes, home_of}
use Rattle.op_model.specs.Events.Node.{Input, NodeOutcome, by_row, messages}
use Rattle.op_model.specs.Events.Step.{Off, put_at, to_lane}
use Rattle.op_model.specs.Lines.{Outcome, is_empty}
use Rattle.op_model.specs.Operations.{Words}
use Rattle.op_model.specs.Run.Runs.{entries_of}
use Rattle.op_model.specs.Shares.{Lanes, Trace, copy_of, header_of, line_share, want_on}
use Rattle.line_invariant.specs.Line.{share_of}
use Rattle.line_invariant.specs.Rows.{IsDoneRight}
use Rattle.eager_model.specs.Types.{Class}
use Rattle.eager_model.specs.Ages.{LineAges, age_given, served_age, with_copy}
use Rattle.eager_model.specs.Good.{IsEagerGood}
use Rattle.eager_model.specs.Line.{AgedLine, ages_of, aged_row}
use Rattle.eager_model.specs.Node.{Aged, ages_by, aged, line_ages, put_ages}
use Rattle.eager_model.specs.Runs.{Past, past_after}
use Rattle.eager_model.specs.Served.{age_served, IsServedAt}
use Rattle.one_history.specs.Project.{project}
use Rattle.one_history.specs.Sound.{answered_of}
use Rattle.one_history.proofs.Public.{IsNextWant, IsOn, IsOwn, IsRoomFor, IsServedIn, copy-same, next-on}
use Rattle.one_history.proofs.Public.{own-past}
use Rattle.eager_history.specs.Project.{plain_past, aged_line}
use Rattle.eager_history.specs.Sound.{IsEagerSound}
use Rattle.eager_history.proofs.AgedProject.{row_past, with_lanes, entries_at}
use Rattle.eager_history.proofs.LaneAges.{Ages, ages_sent}
use Rattle.eager_history.proofs.SoundRow.{sound-row}

module _ (trace : Trace) (past : Past) (node line : ℕ) (own outcome : Outcome) (off : Off) (lane : Lanes) (is : IsOwn trace.sizes node line own outcome) where
  abbrev sizes : Sizes
  sizes = trace.sizes

  abbrev left : Ages
  left a b class = drop (off a b class) (past.ages.lane a b class)

  -- the machine after what a node does is the machine after the row
  pub aged-past : ((a b : ℕ) (class : Class) → drop (off a b class) (past.state.lane a b class) ≡ lane a b class) → (did : Aged) → did.out ≡ by_row sizes node (past.state.share node) line own → did.served ≡ served_age did.given did.ages.copy outcome.served →
      past_after sizes past (record { node = node; off = off; did = did }) ≡ row_past sizes (with_lanes past lane left) node line outcome did.ages did.given
  aged-past dropped did out served =
      (λ i. past_after sizes past (record { node = node; off = off; did = record did { out = out i; served = served i } }))
      ∙ (λ i. record {
        state = (own-past trace (plain_past past) node line own outcome off lane is dropped i).state;
        ages = record {
          node = put_at past.ages.node node (put_ages line did.ages (past.ages.node node));
          lane = λ a b class. drop (off a b class) (past.ages.lane a b class) ++ cond (a == node) (ages_sent did.given (to_lane b class (messages line (ap (λ o. o.sends) is.1 i)))) [];
        };
        served = past.served ++ entries_at (served_age did.given did.ages.copy outcome.served) (entries_of sizes past.state node line (ap (λ o. o.served) is.1 i));
      })

-- the age of the words that a node gives, by its own share and ages
pub own-gives : (sizes : Sizes) (past : Past) (top node line : ℕ) →
    age_given (node == home_of sizes line) (share_of (aged_line sizes past top line).line node) (ages_of (aged_line sizes past top line) node) ≡ age_given (node == home_of sizes line) (line_share sizes (past.state.share node) line) (line_ages (past.ages.node node) line)
unfolding aged_line project
own-gives sizes past top node line = go (node == home_of sizes line) refl
  where
    go : (c : Bool) → (node == home_of sizes line) ≡ c → age_given c (share_of (aged_line sizes past top line).line node) (ages_of (aged_line sizes past top line) node) ≡ age_given c (line_share sizes (past.state.share node) line) (line_ages (past.ages.node node) line)
    go false e = refl
    go true e =
        let same : home_of sizes line ≡ node = grind (arith, nat_tests) in
        (λ i. age_given true (record (line_share sizes (past.state.share node) line) { header = header_of sizes (past.state.share (same i)) line }) (record { copy = (past.ages.node node).copy line; memory = (past.ages.node (same i)).memory line }))

module _ (trace : Trace) (positive : 0 < trace.sizes.words) (past : Past) (sound : IsEagerSound trace past) (node line : ℕ) (own outcome : Outcome) (off : Off) (lane : Lanes) (is : IsOwn trace.sizes node line own outcome) (input : Input) (at : ℕ) where
  abbrev home : ℕ
  home = home_of trace.sizes line

  abbrev top : ℕ
  top = (sound.lines line).top

  abbrev lane_age : Ages
  lane_age a b class = drop (off a b class) (past.ages.lane a b class)

  abbrev before : AgedLine
  before = aged_line trace.sizes (with_lanes past lane lane_age) top line

  abbrev out : NodeOutcome
  out = by_row trace.sizes node (past.state.share node) line own

  abbrev did : Aged
  did = aged trace.sizes node (past.state.share node) (past.ages.node node) input at out

  -- the ages by the node's own
  abbrev mine : LineAges
  mine = ages_by trace.sizes node (past.state.share node) input at out (line_ages (past.ages.node node) line)

  -- as its line has them
  module _ (by : LineAges) where
    abbrev told : LineAges
    told = with_copy outcome.share.copy by

    pub own-sound : (words : Words) →
        by.copy ≡ mine.copy → ((node == home) ≡ true → by.memory ≡ mine.memory) →
        ((a b : ℕ) (class : Class) → drop (off a b class) (past.state.lane a b class) ≡ lane a b class) →
        IsServedIn trace (plain_past past) node line words outcome.served →
        IsDoneRight (answered_of trace.sizes (plain_past past) line node ≡ true) outcome.served outcome.done outcome.share.want →
        IsNextWant trace node (past.state.share node).place line outcome.share.want →
        IsRoomFor trace.sizes (past.state.share node) line outcome.share →
        ((past.state.share node).want ≡ None) ⊎ (want_on trace.sizes (past.state.share node).want line ≡ None → outcome.share.want ≡ None) →
        ((a b : ℕ) (class : Class) → length (lane_age a b class) ≡ length (lane a b class)) →
        ((at q : ℕ) → q ≢ line → aged_line trace.sizes (with_lanes past lane lane_age) at q ≡ aged_line trace.sizes past at q) →
        IsServedAt (aged_line trace.sizes past top line) (aged_row home node outcome told before).top node (age_served home node outcome told (aged_line trace.sizes past top line)) outcome.served →
        IsEagerGood home (aged_row home node outcome told before) →
        IsEagerSound trace (past_after trace.sizes past (record { node = node; off = off; did = did }))
    unfolding aged aged_line project
    own-sound words copies memory dropped well right begins room fits paired others served good =
        let gives = own-gives trace.sizes past top node line in
        subst (IsEagerSound trace) (sym (aged-past trace past node line own outcome off lane is dropped did refl (ap (λ o. served_age did.given did.ages.copy o.served) is.1)))
        (sound-row trace positive past sound node line outcome did.ages did.given told lane lane_age words well right begins room fits paired others
        same-copy memory gives
        (subst (λ age. IsServedAt (aged_line trace.sizes past top line) (aged_row home node outcome told before).top node age outcome.served) (λ i. served_age (gives i) (same-copy i) outcome.served) served)
        good)
      where
        on : IsOn trace.sizes line outcome.share.want
        on = next-on trace node (past.state.share node).place line outcome.share.want begins

        left-copy : copy_of out.share line ≡ outcome.share.copy
        left-copy = copy-same trace.sizes (node == home) line own.done own.share (past.state.share node) ∙ ap (λ o. o.share.copy) is.1

        same-copy : told.copy ≡ did.ages.copy
        same-copy = λ i. cond (is_empty (sym left-copy i)) 0 (copies i)
