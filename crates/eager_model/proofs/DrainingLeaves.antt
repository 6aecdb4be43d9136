-- A copy leaves a cache while its line drains, P8 to P11.
use Rattle.std.proofs.Common.{◌≡◌, ◌≢◌, ℕ, Bool, true, false, cond, ◌==◌, ◌&&◌, List, [], refl, arith, sym, ◌∙◌, subst, inl, Result, Ok}
use Rattle.std.proofs.lemmas.Bool.Decides.{nat_tests}
use Rattle.eager_model.specs.Types.{Cause}
use Rattle.line_invariant.specs.Types.{EvictKind}
use Rattle.op_model.specs.declared.events.EvictKind.TheVariants as way
use Rattle.op_model.specs.Nodes.{listed}
use Rattle.op_model.specs.Messages.{Content, Wb, Rpl}
use Rattle.op_model.specs.Lines.{Copy, Absent, Shared, Exclusive, LineShare, Outcome, NoService, sending, no_message, one_to, is_empty, is_exclusive, words_of}
use Rattle.op_model.specs.Tables.Processor.{fits, evict, leave_remote, leave_home}
use Rattle.op_model.proofs.Public.{eqb-self, err-ok, fits-copy}
use Rattle.line_invariant.specs.Line.{share_of, addressed}
use Rattle.line_invariant.specs.Good.{Resting, Leaving, NotLeaving, WritesBack, Hints, IsGoodNode, leaving_part}
use Rattle.eager_model.specs.Types.{Request, Reply}
use Rattle.line_invariant.proofs.Public.{if-either, keep, lanes-leave, lanes-quiet, leaving_by, node-leave}
use Rattle.eager_model.specs.Ages.{LineAges, with_copy, ages_left}
use Rattle.eager_model.specs.Line.{AgedLine, ages_of, aged_row}
use Rattle.eager_model.specs.Good.{IsEagerGood, IsDraining, draining_role}
use Rattle.eager_model.proofs.Quiet.{words-same}
use Rattle.eager_model.proofs.SentAges.{AreSentAges, given_age, none-sent, one-sent}
use Rattle.eager_model.proofs.DrainingRows.{IsRowAway, away-good}
use Rattle.eager_model.proofs.DrainingHome.{IsRowHome, home-good}
use Rattle.eager_model.proofs.DrainingHits.{copy-has, home-holds, resting-any}

module _ (home : ℕ) (line : AgedLine) (newest : line.words_at line.top ≡ line.line.words) (good : IsDraining home line) where
  abbrev Keeps : ℕ → Outcome → Type 0
  Keeps p o = IsEagerGood home (aged_row home p o (with_copy o.share.copy (ages_left (p == home) (share_of line.line p) (ages_of line p))) line)

  module _ (p : ℕ) (apart : p ≢ home) (kind : EvictKind) (fit : fits false kind (line.line.copy p) ≡ true) where
    some : is_empty (line.line.copy p) ≡ false
    some = fits-copy false kind (line.line.copy p) fit

    left : IsGoodNode (draining_role good.grantee good.holds p) (line.words_at (good.has p)) (listed line.line.header.list p) Absent (line.line.want p) (record (good.status p) { leaving = leaving_by kind (line.line.copy p) }) × ((good.status p).carrier ≡ Resting) × ((good.status p).leaving ≡ NotLeaving)
    left = node-leave _ (line.words_at (good.has p)) _ (line.line.copy p) (line.line.want p) (good.status p) kind (good.nodes p apart) fit

    left-row : (leaves : Leaving) → leaving_by kind (line.line.copy p) ≡ leaves → (sends : List (ℕ × Content)) → AreSentAges (line.copy_age p) line.top good.has p sends →
        addressed home Request sends ≡ leaving_part leaves → ((b : ℕ) → addressed b Reply sends ≡ []) → ((b : ℕ) → b ≢ home → addressed b Request sends ≡ []) → (ages : LineAges) → ages.copy ≡ 0 →
        IsRowAway home line newest good p apart (sending (record (share_of line.line p) { copy = Absent }) sends) ages line.line.lane line.lane_age (record (good.status p) { leaving = leaves })
    left-row leaves is sends sent here reply others ages none =
        record {
          lanes = lanes-leave home p line.line.lane good.status apart good.lanes leaves left.1 left.2 sends here reply others;
          lane_ages = good.ages.lanes;
          copy = none;
          sends = sent;
          writes = inl refl;
          node = rw (words-same line.words_at line.line.words line.top line.top (good.has p) refl newest (good.ages.within p)) (rw is at left.0);
          had = λ e. copy-has (line.line.copy p) (line.line.want p) (good.status p) some;
          answered = λ node. keep line.line.answered good.status good.answered p _ refl node;
          last = (λ held. absurd (grind arith), good.ages.of_put p);
        }

  leave-away : (p : ℕ) → p ≢ home → (kind : EvictKind) → fits false kind (line.line.copy p) ≡ true → Keeps p (leave_remote home kind (share_of line.line p))
  leave-away p apart way.Wb fit =
      let held : line.copy_age p ≡ good.has p = good.ages.copies p ∙ rw (some p apart way.Wb fit) in
      away-good home line newest good p apart _ _ _ _ _
      (left-row p apart way.Wb fit (WritesBack (words_of (line.line.copy p))) refl (one_to home (Wb (words_of (line.line.copy p)))) (one-sent (line.copy_age p) line.top good.has p home (Wb (words_of (line.line.copy p))) held (let le = good.ages.within p in grind arith))
      (rw (eqb-self home)) (λ b. grind (arith, nat_tests)) (λ b far. grind (arith, nat_tests)) _ refl)
  leave-away p apart way.Hint fit =
      away-good home line newest good p apart _ _ _ _ _
      (left-row p apart way.Hint fit Hints refl (one_to home Rpl) (one-sent (line.copy_age p) line.top good.has p home Rpl refl (grind arith))
      (rw (eqb-self home)) (λ b. grind (arith, nat_tests)) (λ b far. grind (arith, nat_tests)) _ refl)
  leave-away p apart way.Silent fit =
      away-good home line newest good p apart _ _ _ _ _
      (left-row p apart way.Silent fit NotLeaving refl no_message (none-sent (line.copy_age p) line.top good.has p) refl (λ b. refl) (λ b far. refl) _ refl)

  -- memory takes the words of the home's copy
  module _ (kind : EvictKind) (fit : fits true kind (line.line.copy home) ≡ true) where
    home-some : is_empty (line.line.copy home) ≡ false
    home-some = fits-copy true kind (line.line.copy home) fit

    own : ((home == good.grantee) ≡ true) × (good.holds ≡ true) × (line.line.copy home ≡ Exclusive line.line.words)
    own = home-holds home good.grantee good.holds line.line.words (line.line.copy home) good.header.own home-some

    home-held : line.copy_age home ≡ line.top
    home-held = good.ages.copies home ∙ rw home-some good.ages.at_home

    abbrev taken_back : Outcome
    taken_back = sending (record (share_of line.line home) { copy = Absent; header = record line.line.header { local = false; dirty = false; memory = line.line.words } }) no_message

    abbrev back : LineAges
    back = record { copy = 0; memory = line.copy_age home }

    same-role : (node : ℕ) → node ≢ home → draining_role good.grantee false node ≡ draining_role good.grantee good.holds node
    same-role node far = let isnt : (node == good.grantee) ≡ false = let e = own.0 in grind (arith, nat_tests) in rw isnt

    back-row : IsRowHome home line newest good taken_back back line.line.lane line.lane_age good.status false
    back-row =
        record {
          lanes = lanes-quiet home line.line.lane good.status good.lanes home;
          lane_ages = good.ages.lanes;
          copy = refl;
          sends = none-sent (given_age home line home) line.top good.has home;
          writes = inl refl;
          header = record { waits = good.header.waits; dirty = refl; memory = refl; some = good.header.some; due = good.header.due; granted = good.header.granted; own = refl };
          list = refl;
          local = refl;
          at_home = record { carried = resting-any (line.line.want home) (line.line.copy home) Absent (good.status home).carrier good.at_home.carrier good.at_home.carried; stays = good.at_home.stays; off_duty = good.at_home.off_duty; carrier = good.at_home.carrier };
          nodes = λ node far. rw (same-role node far) (good.nodes node far);
          had = λ node far e. rw (same-role node far) (good.ages.aged node far e);
          puts = λ node e. e;
          answered = good.answered;
          memory = λ clean. home-held;
          last = (λ held. absurd (grind arith), good.ages.of_put home);
        }

    leave-at-home : Keeps home (leave_home (line.line.copy home) (share_of line.line home))
    leave-at-home =
        subst (λ c. Of (leave_home c (share_of line.line home)) (is_exclusive c)) (sym own.2) (subst (λ b. Left taken_back (b && true)) (sym (eqb-self home)) (home-good home line newest good taken_back back line.line.lane line.lane_age good.status false back-row))
      where
        Left : Outcome → Bool → Type 0
        Left o b = IsEagerGood home (aged_row home home o (with_copy o.share.copy (cond b (record (ages_of line home) { memory = line.copy_age home }) (ages_of line home))) line)

        Of : Outcome → Bool → Type 0
        Of o b = Left o ((home == home) && b)

  pub good-evict : (p : ℕ) (kind : EvictKind) (o : Outcome) → evict p home kind (share_of line.line p) ≡ Ok o → Keeps p o
  unfolding evict
  good-evict p kind o =
      if-either Gives (fits (p == home) kind (line.line.copy p)) _ _
      (λ fit e. let is : cond (p == home) (leave_home (line.line.copy p) (share_of line.line p)) (leave_remote home kind (share_of line.line p)) ≡ o = cc in subst (Keeps p) is (go (p == home) refl fit))
      (λ _ e. absurd (err-ok _ o e))
    where
      Gives : Result Outcome Cause → Type 0
      Gives r = r ≡ Ok o → Keeps p o

      go : (c : Bool) → (p == home) ≡ c → fits c kind (line.line.copy p) ≡ true → Keeps p (cond c (leave_home (line.line.copy p) (share_of line.line p)) (leave_remote home kind (share_of line.line p)))
      go true e fit = let same : home ≡ p = grind (arith, nat_tests) in subst (λ k. fits true kind (line.line.copy k) ≡ true → Keeps k (leave_home (line.line.copy k) (share_of line.line k))) same (leave-at-home kind) fit
      go false e fit = leave-away p (grind (arith, nat_tests)) kind fit

leave-quiet : (home : ℕ) (kind : EvictKind) (share : LineShare) → (leave_remote home kind share).served ≡ NoService
leave-quiet home way.Wb share = refl
leave-quiet home way.Hint share = refl
leave-quiet home way.Silent share = refl

home-quiet : (copy : Copy) (share : LineShare) → (leave_home copy share).served ≡ NoService
home-quiet Absent share = refl
home-quiet (Shared words) share = refl
home-quiet (Exclusive words) share = refl

pub evict-quiet : (p home : ℕ) (kind : EvictKind) (share : LineShare) (o : Outcome) → evict p home kind share ≡ Ok o → o.served ≡ NoService
unfolding evict
evict-quiet p home kind share o =
    if-either Gives (fits (p == home) kind share.copy) _ _
    (λ fit e. let is : cond (p == home) (leave_home share.copy share) (leave_remote home kind share) ≡ o = cc in subst Quiet is (if-either Quiet (p == home) _ _ (λ _. home-quiet share.copy share) (λ _. leave-quiet home kind share)))
    (λ _ e. absurd (err-ok _ o e))
  where
    Quiet : Outcome → Type 0
    Quiet row = row.served ≡ NoService

    Gives : Result Outcome Cause → Type 0
    Gives r = r ≡ Ok o → Quiet o
