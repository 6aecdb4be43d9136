-- Beginning an operation on a line that doesn't drain keeps it good: it stays settled, but where the home writes to a line that others share, E1.
use Rattle.std.proofs.Common.{◌≡◌, ℕ, suc, Bool, true, false, cond, ◌==◌, ◌&&◌, not, [], ◌∷◌, refl, arith, ap, sym, ◌∙◌, subst, inl, Result, Ok, Err, None}
use Rattle.std.proofs.lemmas.Bool.Decides.{nat_tests}
use Rattle.eager_model.specs.Types.{Cause, Op}
use Rattle.op_model.specs.declared.state.Wait.TheVariants.{ForwardGet, ForwardGetX}
use Rattle.op_model.specs.Nodes.{Nodes, listed, count, none, in_order, none_of_count, listed-none}
use Rattle.op_model.specs.Operations.{is_load}
use Rattle.op_model.specs.Messages.{Content, Get, GetX, FwdGet, FwdGetX}
use Rattle.op_model.specs.Lines.{Copy, Header, Room, Outcome, Own, sending, no_message, begun, is_empty, is_pending, nobody_listed, owner, without_shared}
use Rattle.op_model.specs.Tables.Processor.{serves, ask, load_at_home, write_at_home, invalidate_for_home, forward_get_home, forward_getx_home, begin_at_home}
use Rattle.op_model.specs.Tables.Processor as delayed
use Rattle.op_model.specs.Tables.Remote.{is_invalidate}
use Rattle.op_model.specs.Events.Node.{map_ok}
use Rattle.op_model.proofs.Public.{err-ok}
use Rattle.line_invariant.specs.Line.{share_of}
use Rattle.line_invariant.specs.Good.{IsGoodHeader, Clean}
use Rattle.line_invariant.specs.Rows.{IsOwnServed, IsOwnWant, EndsRight}
use Rattle.line_invariant.proofs.Public.{clean-phase, good-begin, idle-answered, if-either}
use Rattle.eager_model.specs.Rows.{begin_op, write_and_drain, writes_shared}
use Rattle.eager_model.specs.Ages.{sent_age, ages_begun, with_copy}
use Rattle.eager_model.specs.Line.{AgedLine, ages_of, aged_row}
use Rattle.eager_model.specs.Newest.{newest_age}
use Rattle.eager_model.specs.Served.{IsServedAt, age_served}
use Rattle.eager_model.specs.Good.{IsSettled, IsEagerGood}
use Rattle.eager_model.proofs.Kept.{raised-called}
use Rattle.eager_model.proofs.HomeWrites.{good-home-write}
use Rattle.eager_model.proofs.SettledFacts.{copy-same}
use Rattle.eager_model.proofs.Taken.{free-lane}
use Rattle.eager_model.proofs.ServedAt.{above, own-well, served-at}
use Rattle.eager_model.proofs.NewestRows.{IsNewRow, newest-quiet, newest-own, home-waits, home-memory}
use Rattle.eager_model.proofs.Begins.{IsAlone, newest-written}
use Rattle.eager_model.proofs.Alone.{alone-memory}
use Rattle.eager_model.proofs.TakenRows.{kept-full}
use Rattle.eager_model.proofs.SettledLocals.{settled-row}

nobody : (list : Nodes) (n : ℕ) → nobody_listed list ≡ true → listed list n ≡ false
nobody list n e = let zero : count list ≡ 0 = grind (arith, nat_tests) in let gone : list ≡ none = none_of_count list zero in ap (λ s. listed s n) gone ∙ listed-none n

-- the tests of E1
drains-not : (home dirty load nobody : Bool) → home ≡ true → dirty ≡ false → load ≡ false → nobody ≡ false → (home && (not dirty && not load && not nobody)) ≡ true
drains-not home dirty load nobody a b c d = grind arith

module _ (home : ℕ) (line : AgedLine) (settled : IsSettled home line) (me : ℕ) (op : Op) (free : line.line.want me ≡ None) where
  not_yet : line.line.answered me ≡ false
  not_yet = idle-answered home line.line settled.good me free

  abbrev BegunRow : Outcome → Type 0
  BegunRow o = IsNewRow home me line o (with_copy o.share.copy (ages_begun o (ages_of line me)))

  -- a row that only asks
  asking : (copy : Copy) (header : Header) (x : ℕ) (content : Content) → (is_empty copy ≡ false → is_empty (line.line.copy me) ≡ false) → is_invalidate header.wait ≡ false → header.dirty ≡ line.line.header.dirty →
      ((given last : ℕ) → sent_age given content ≡ newest_age line.top last content) →
      IsNewRow home me line (sending (record { copy = copy; want = begun op; header = header }) ((x, content) ∷ [])) (with_copy copy (ages_of line me))
  asking copy header x content full waits same plain =
      newest-quiet home me line (record { copy = copy; want = begun op; header = header }) ((x, content) ∷ []) false (with_copy copy (ages_of line me)) settled.ages
      (home-waits line header line.memory_age (me == home) settled.settled waits) (copy-same home line settled me copy full) (plain _ (line.last x), tt)
      (home-memory line header line.memory_age home settled.ages (me == home) (λ clean. settled.ages.memory (sym same ∙ clean))) (λ d e counted. absurd (let no : true ≡ false = sym e ∙ not_yet in grind arith))

  -- P3
  loads : line.line.header.dirty ≡ false → BegunRow (load_at_home op (share_of line.line me))
  loads clean =
      newest-own home me line (load_at_home op (share_of line.line me)).share no_message true (record { copy = line.memory_age; memory = line.memory_age }) settled.ages
      op line.line.header.memory refl refl (home-waits line (load_at_home op (share_of line.line me)).share.header line.memory_age (me == home) settled.settled settled.settled)
      refl (settled.ages.memory clean) (home-memory line (load_at_home op (share_of line.line me)).share.header line.memory_age home settled.ages (me == home) settled.ages.memory)
      (λ a k l. free-lane home line settled.good me not_yet line.top (line.last me) l a k)

  -- P4
  writes : me ≡ home → (me == home) ≡ true → is_pending line.line.header ≡ false → line.line.header.dirty ≡ false → nobody_listed line.line.header.list ≡ true → is_load op.kind ≡ false → BegunRow (write_at_home op (share_of line.line me))
  writes same on idle clean unshared write =
      newest-written home me line (write_at_home op (share_of line.line me)).share (record { copy = suc line.memory_age; memory = line.memory_age }) settled.ages (subst (λ n. IsAlone home n line) (sym same) alone)
      op line.line.header.memory write (home-waits line (write_at_home op (share_of line.line me)).share.header line.memory_age (me == home) settled.settled settled.settled)
      refl (ap suc (settled.ages.memory clean)) (still (me == home) on)
      (λ a k l. free-lane home line settled.good me not_yet line.top (line.last me) l a k)
    where
      alone : IsAlone home home line
      alone = alone-memory home line settled.good (clean-phase home settled.good.phase line.line.words line.line.header (line.line.copy home) settled.good.header idle clean) (λ n far. inl (nobody line.line.header.list n unshared))

      still : (b : Bool) → b ≡ true → (cond b (write_at_home op (share_of line.line me)).share.header line.line.header).dirty ≡ false → ⊥
      still true e f = grind arith
      still false e f = grind arith

  -- P1, P2
  asks : BegunRow (ask home op (share_of line.line me))
  unfolding ask
  asks =
      if-either BegunRow (is_load op.kind) _ _
      (λ _. asking (line.line.copy me) line.line.header home Get (λ e. e) settled.settled refl (λ given last. refl))
      (λ _. asking (without_shared (line.line.copy me)) line.line.header home GetX (kept-full (line.line.copy me)) settled.settled refl (λ given last. refl))

  module _ (room : Room) where
    at-home : (o : Outcome) → (me == home) ≡ true → ((me == home) && writes_shared op line.line.header) ≡ false → begin_at_home home room op (share_of line.line me) ≡ Ok o → BegunRow o
    unfolding begin_at_home
    at-home o on other =
        if-either Gives (is_pending line.line.header) _ _ (λ _ e. absurd (err-ok _ o e)) (λ idle.
        (if-either Gives (not line.line.header.dirty && is_load op.kind) _ _ (λ c e. ok _ e (loads (grind arith))) (λ not_load.
        (if-either Gives (not line.line.header.dirty && nobody_listed line.line.header.list) _ _ (λ c e. ok _ e (writes (grind (arith, nat_tests)) on idle (grind arith) (grind arith) (grind arith))) (λ not_alone.
        (if-either Gives room.full _ _ (λ _ e. absurd (err-ok _ o e)) (λ _.
        (if-either Gives (not line.line.header.dirty) _ _
        (λ clean e. absurd (let drains = drains-not (me == home) line.line.header.dirty (is_load op.kind) (nobody_listed line.line.header.list) on (grind arith) (grind arith) (grind arith) in let no : true ≡ false = sym drains ∙ other in grind arith)) (λ dirty.
        (if-either Gives (is_load op.kind) _ _
        (λ load e. ok _ e (asking (line.line.copy me) (record line.line.header { wait = ForwardGet home }) (owner line.line.header) (FwdGet home) (λ e. e) refl refl (λ given last. refl)))
        (λ write e. ok _ e (asking (line.line.copy me) (record line.line.header { wait = ForwardGetX home }) (owner line.line.header) (FwdGetX home) (λ e. e) refl refl (λ given last. refl)))))))))))))
      where
        Gives : Result Outcome Cause → Type 0
        Gives r = r ≡ Ok o → BegunRow o

        ok : (x : Outcome) → ◌≡◌ {A = Result Outcome Cause} (Ok x) (Ok o) → BegunRow x → BegunRow o
        ok x e f = let is : x ≡ o = cc in subst BegunRow is f

    begun-row : (o : Outcome) → ((me == home) && writes_shared op line.line.header) ≡ false → delayed.begin_op me home room op (share_of line.line me) ≡ Ok o → BegunRow o
    unfolding delayed.begin_op
    begun-row o other =
        if-either Gives (serves op (line.line.copy me)) _ _ (λ _ e. absurd (err-ok _ o e)) (λ miss.
        (if-either Gives (me == home) _ _ (λ on. at-home o on other) (λ off e. let is : ask home op (share_of line.line me) ≡ o = cc in subst BegunRow is asks)))
      where
        Gives : Result Outcome Cause → Type 0
        Gives r = r ≡ Ok o → BegunRow o

    -- where the home begins an operation the line is idle
    idle-there : (o : Outcome) → (me == home) ≡ true → delayed.begin_op me home room op (share_of line.line me) ≡ Ok o → is_pending line.line.header ≡ false
    unfolding delayed.begin_op begin_at_home
    idle-there o on =
        if-either Gives (serves op (line.line.copy me)) _ _ (λ _ e. absurd (err-ok _ o e)) (λ miss.
        (if-either Gives (me == home) _ _ (λ _. if-either Gives (is_pending line.line.header) _ _ (λ _ e. absurd (err-ok _ o e)) (λ idle e. idle)) (λ off e. absurd (grind arith))))
      where
        Gives : Result Outcome Cause → Type 0
        Gives r = r ≡ Ok o → is_pending line.line.header ≡ false

    -- what is said of a beginning
    abbrev Fine : Outcome → Type 0
    Fine o =
        IsEagerGood home (aged_row home me o (with_copy o.share.copy (ages_begun o (ages_of line me))) line)
        × IsServedAt line (aged_row home me o (with_copy o.share.copy (ages_begun o (ages_of line me))) line).top me (age_served home me o (with_copy o.share.copy (ages_begun o (ages_of line me))) line) o.served
        × IsOwnServed op line.line.words o.served × IsOwnWant op o.share.want × EndsRight ⊥ o

    module _ (newest : line.words_at line.top ≡ line.line.words) where
      settles : (o : Outcome) → ((me == home) && writes_shared op line.line.header) ≡ false → delayed.begin_op me home room op (share_of line.line me) ≡ Ok o → Fine o
      settles o other ok =
          let good = good-begin home line.line settled.good me op free room o ok in
          let row = begun-row o other ok in (
            settled-row home me line o (with_copy o.share.copy (ages_begun o (ages_of line me))) good.0 row,
            served-at line me newest settled.ages.past _ (above line.top _) o.served _ (own-well op line.line.words o.served good.1) row.at_top,
            good.1,
            good.2,
            good.3,
          )

      -- E1
      drains : me ≡ home → is_pending line.line.header ≡ false → line.line.header.dirty ≡ false → is_load op.kind ≡ false → nobody_listed line.line.header.list ≡ false → Fine (write_and_drain home op (share_of line.line me))
      drains same idle clean write some = (
        subst (λ n. IsEagerGood home (aged_row home n (write_and_drain home op (share_of line.line n)) (with_copy (write_and_drain home op (share_of line.line n)).share.copy (ages_begun (write_and_drain home op (share_of line.line n)) (ages_of line n))) line)) (sym same)
            (good-home-write home line op idle clean some (record { newest = newest; stands = inl settled })),
        served-at line me newest settled.ages.past _ (above line.top _) (Own op line.line.header.memory) _ memory (ap suc (settled.ages.memory clean) ∙ sym top, λ load. absurd (grind arith)),
        (memory, refl),
        rw free tt,
        (free, refl),
      )
        where
          memory : line.line.header.memory ≡ line.line.words
          memory =
              let phase = clean-phase home settled.good.phase line.line.words line.line.header (line.line.copy home) settled.good.header idle clean in
              let is : IsGoodHeader home Clean line.line.words line.line.header (line.line.copy home) = rw phase at settled.good.header in is.2

          top : (aged_row home me (write_and_drain home op (share_of line.line me)) (with_copy (write_and_drain home op (share_of line.line me)).share.copy (ages_begun (write_and_drain home op (share_of line.line me)) (ages_of line me))) line).top ≡ suc line.top
          top = raised-called line.top line.memory_age _ (in_order line.line.header.list) (settled.ages.memory clean)

      pub good-settled-beginning : (o : Outcome) → begin_op me home room op (share_of line.line me) ≡ Ok o → Fine o
      unfolding begin_op
      good-settled-beginning o = go (delayed.begin_op me home room op (share_of line.line me)) refl
        where
          by : (row : Outcome) → delayed.begin_op me home room op (share_of line.line me) ≡ Ok row → (t : Bool) → ((me == home) && writes_shared op line.line.header) ≡ t → Fine (cond t (write_and_drain home op (share_of line.line me)) row)
          by row e false f = settles row f e
          by row e true f = drains (grind (arith, nat_tests)) (idle-there row (grind arith) e) (grind arith) (grind arith) (grind arith)

          go : (r : Result Outcome Cause) → delayed.begin_op me home room op (share_of line.line me) ≡ r → map_ok (λ row. cond ((me == home) && writes_shared op line.line.header) (write_and_drain home op (share_of line.line me)) row) r ≡ Ok o → Fine o
          go (Ok row) e is = let same : cond ((me == home) && writes_shared op line.line.header) (write_and_drain home op (share_of line.line me)) row ≡ o = cc in subst Fine same (by row e ((me == home) && writes_shared op line.line.header) refl)
          go (Err cause) e is = absurd (err-ok cause o is)
