-- What a processor begins or evicts on a line that drains: a node asks for the line, P1 and P2, or a copy leaves, P8 to P11. The home begins nothing.
use Rattle.std.proofs.Common.{◌≡◌, ◌≢◌, ℕ, Bool, true, false, cond, ◌==◌, ◌&&◌, refl, arith, ap, sym, ◌∙◌, subst, inl, Result, Ok, Err, Option, None}
use Rattle.std.proofs.lemmas.Bool.Decides.{nat_tests}
use Rattle.eager_model.specs.Types.{Cause, Op, Want}
use Rattle.line_invariant.specs.Types.{HeldPending}
use Rattle.op_model.specs.Operations.{is_load}
use Rattle.op_model.specs.Messages.{Content, Get, GetX}
use Rattle.op_model.specs.Lines.{Copy, Room, Outcome, NoService, sending, one_to, begun, is_empty, is_pending, without_shared}
use Rattle.op_model.specs.Tables.Processor.{serves, ask, begin_at_home}
use Rattle.op_model.specs.Tables.Processor as delayed
use Rattle.op_model.specs.Events.Node.{map_ok}
use Rattle.op_model.proofs.Public.{err-ok}
use Rattle.line_invariant.specs.Line.{share_of}
use Rattle.line_invariant.specs.Good.{Status, Resting, Asking, AskingX, is_put}
use Rattle.line_invariant.specs.Rows.{IsOwnWant, EndsRight}
use Rattle.line_invariant.proofs.Public.{asks-no-put, if-either, keep, lanes-ask, node-ask}
use Rattle.eager_model.specs.Rows.{begin_op, write_and_drain, writes_shared}
use Rattle.eager_model.specs.Ages.{with_copy, ages_begun}
use Rattle.eager_model.specs.Line.{AgedLine, ages_of, aged_row}
use Rattle.eager_model.specs.Good.{IsEagerGood, IsDraining, has_words}
use Rattle.eager_model.proofs.Quiet.{words-same}
use Rattle.eager_model.proofs.SentAges.{kept-copy, AreSentAges, one-sent}
use Rattle.eager_model.proofs.DrainingRows.{IsRowAway, away-good}
use Rattle.eager_model.proofs.DrainingAway.{dropped-copy, stays-held}

ask-had : (copy : Copy) (want : Option Want) (status : Status) (op : Op) (load : Bool) → want ≡ None → status.carrier ≡ Resting →
    has_words (cond load copy (without_shared copy)) (begun op) (record status { carrier = cond load Asking AskingX }) ≡ true → has_words copy want status ≡ true
ask-had copy want status op true free rests e = grind arith
ask-had copy want status op false free rests e = grind arith

-- a copy that is asked for again keeps its age where it stays
ask-copy : (load : Bool) (copy : Copy) (age has : ℕ) → age ≡ cond (is_empty copy) 0 has → cond (is_empty (cond load copy (without_shared copy))) 0 age ≡ cond (is_empty (cond load copy (without_shared copy))) 0 has
ask-copy true copy age has e = kept-copy (is_empty copy) age has e
ask-copy false copy age has e = dropped-copy copy age has e

ask-some : (load : Bool) (copy : Copy) → is_empty (cond load copy (without_shared copy)) ≡ false → is_empty copy ≡ false
ask-some true copy e = e
ask-some false copy e = stays-held copy e

module _ (home : ℕ) (line : AgedLine) (newest : line.words_at line.top ≡ line.line.words) (good : IsDraining home line) where
  -- an operation is begun
  module _ (p : ℕ) (op : Op) (free : line.line.want p ≡ None) where
    abbrev Keeps : Outcome → Type 0
    Keeps o = IsEagerGood home (aged_row home p o (with_copy o.share.copy (ages_begun o (ages_of line p))) line)

    abbrev Fine : Outcome → Type 0
    Fine o = Keeps o × (o.served ≡ NoService) × IsOwnWant op o.share.want × EndsRight ⊥ o

    module _ (apart : p ≢ home) (miss : serves op (line.line.copy p) ≡ false) where
      rests : (good.status p).carrier ≡ Resting
      rests = rw free at (good.nodes p apart).carried

      abbrev asked : Bool → Content → Outcome
      asked load content = sending (record (share_of line.line p) { want = begun op; copy = cond load (line.line.copy p) (without_shared (line.line.copy p)) }) (one_to home content)

      ask-row : (load : Bool) → is_load op.kind ≡ load →
          IsRowAway home line newest good p apart (asked load (cond load Get GetX)) (with_copy (cond load (line.line.copy p) (without_shared (line.line.copy p))) (ages_of line p)) line.line.lane line.lane_age (record (good.status p) { carrier = cond load Asking AskingX })
      ask-row load is =
          record {
            lanes = lanes-ask home p line.line.lane good.status apart good.lanes load rests;
            lane_ages = good.ages.lanes;
            copy = ask-copy load (line.line.copy p) (line.copy_age p) (good.has p) (good.ages.copies p);
            sends = sent load;
            writes = inl refl;
            node = rw (words-same line.words_at line.line.words line.top line.top (good.has p) refl newest (good.ages.within p)) (node-ask _ (line.words_at (good.has p)) _ (line.line.copy p) (line.line.want p) (good.status p) op load (good.nodes p apart) free is miss);
            had = ask-had (line.line.copy p) (line.line.want p) (good.status p) op load free rests;
            answered = λ node. keep line.line.answered good.status good.answered p _ (asks-no-put load ∙ sym (ap is_put rests)) node;
            last = (λ some. good.ages.under_copy p (ask-some load (line.line.copy p) some), λ put. absurd (let e = asks-no-put load in grind arith));
          }
        where
          sent : (load : Bool) → AreSentAges (line.copy_age p) line.top good.has p (one_to home (cond load Get GetX))
          sent true = one-sent (line.copy_age p) line.top good.has p home Get refl (grind arith)
          sent false = one-sent (line.copy_age p) line.top good.has p home GetX refl (grind arith)

      ask-fine : Fine (ask home op (share_of line.line p))
      unfolding ask
      ask-fine =
          if-either Fine (is_load op.kind) _ _
          (λ load. (away-good home line newest good p apart _ _ _ _ _ (ask-row true load), refl, refl, tt))
          (λ write. (away-good home line newest good p apart _ _ _ _ _ (ask-row false write), refl, refl, tt))

    pending : is_pending line.line.header ≡ true
    pending = rw good.header.waits

    -- the home is refused
    held : (room : Room) → begin_at_home home room op (share_of line.line home) ≡ Err HeldPending
    unfolding begin_at_home
    held room = rw pending

    pub good-begin : (room : Room) (o : Outcome) → begin_op p home room op (share_of line.line p) ≡ Ok o → Fine o
    unfolding begin_op delayed.begin_op
    good-begin room o =
        if-either Gives (serves op (line.line.copy p)) _ _ (λ _ e. absurd (err-ok _ o e)) (λ miss.
        (if-either Gives (p == home) _ _
        (λ e. let same : home ≡ p = grind (arith, nat_tests) in subst (λ k. Gives (begin_at_home home room op (share_of line.line k))) same (subst Gives (sym (held room)) (λ e. absurd (err-ok _ o e))))
        (λ off e. asked-fine (p == home) off (ask home op (share_of line.line p)) e (ask-fine (grind (arith, nat_tests)) miss))))
      where
        Gives : Result Outcome Cause → Type 0
        Gives r = map_ok (λ row. cond ((p == home) && writes_shared op line.line.header) (write_and_drain home op (share_of line.line p)) row) r ≡ Ok o → Fine o

        asked-fine : (b : Bool) → b ≡ false → (row : Outcome) → ◌≡◌ {A = Result Outcome Cause} (Ok (cond (b && writes_shared op line.line.header) (write_and_drain home op (share_of line.line p)) row)) (Ok o) → Fine row → Fine o
        asked-fine true off row e fine = absurd (grind arith)
        asked-fine false off row e fine = let is : row ≡ o = cc in subst Fine is fine
