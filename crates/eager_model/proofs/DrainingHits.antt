-- A hit on a line that drains: a load on any copy, or the grantee's write on its exclusive one.
use Rattle.std.proofs.Common.{◌≡◌, ◌≢◌, ℕ, ◌≤◌, Bool, true, false, cond, nat_lt, ◌==◌, ◌&&◌, refl, arith, ap, sym, ◌∙◌, subst, inl, inr, Option}
use Rattle.std.proofs.lemmas.Bool.Decides.{nat_tests}
use Rattle.eager_model.specs.Types.{Op, Want}
use Rattle.op_model.specs.Nodes.{listed}
use Rattle.op_model.specs.Operations.{Words, is_load, after_op}
use Rattle.op_model.specs.Lines.{Copy, Absent, Shared, Exclusive, Outcome, Own, no_message, is_empty, words_of}
use Rattle.op_model.specs.Tables.Processor.{serves, hit, done_on}
use Rattle.line_invariant.specs.Line.{share_of}
use Rattle.line_invariant.specs.Good.{Status, Carrier, Resting, IsGoodNode, IsCarried, holds_in, is_put}
use Rattle.line_invariant.proofs.Public.{after-load, done, done-load, lanes-quiet, lanes-same, node-fresh, node-writes}
use Rattle.line_invariant.proofs.Public.{rests, serving-rests}
use Rattle.eager_model.specs.Ages.{LineAges, with_copy}
use Rattle.eager_model.specs.Line.{AgedLine, ages_of, aged_row}
use Rattle.eager_model.specs.Good.{IsEagerGood, IsDraining, IsHomeCopy, has_words, draining_role}
use Rattle.eager_model.specs.Served.{age_served, IsServedAt, IsServedOn}
use Rattle.eager_model.proofs.Quiet.{words-same}
use Rattle.eager_model.proofs.SentAges.{kept-copy, given_age, none-sent}
use Rattle.eager_model.proofs.DrainingRows.{IsRowAway, away-good, away-top}
use Rattle.eager_model.proofs.DrainingHome.{IsRowHome, home-good, home-top}
use Rattle.eager_model.proofs.DrainingAtHome.{holder-is}

serving-has : (op : Op) (copy : Copy) → serves op copy ≡ true → is_empty copy ≡ false
serving-has op copy serve = grind arith

pub copy-has : (copy : Copy) (want : Option Want) (status : Status) → is_empty copy ≡ false → has_words copy want status ≡ true
copy-has copy want status some = grind arith

pub exclusive-serves : (op : Op) (copy : Copy) → serves op copy ≡ true → is_load op.kind ≡ false → (has : Words) × (copy ≡ Exclusive has)
exclusive-serves op Absent serve write = cc
exclusive-serves op (Shared has) serve write = cc
exclusive-serves op (Exclusive has) serve write = (has, refl)

-- a node that has begun nothing may have any copy
pub resting-any : (want : Option Want) (copy next : Copy) (carries : Carrier) → carries ≡ Resting → IsCarried want copy carries → IsCarried want next carries
resting-any want copy next carries rests carried = grind arith

-- the home's own copy, while the line drains, is the grantee's
pub home-holds : (home grantee : ℕ) (holds : Bool) (words : Words) (copy : Copy) → IsHomeCopy (holds && (grantee == home)) words copy → is_empty copy ≡ false → ((home == grantee) ≡ true) × (holds ≡ true) × (copy ≡ Exclusive words)
home-holds home grantee holds words copy own some = go holds (grantee == home) refl own
  where
    go : (h b : Bool) → (grantee == home) ≡ b → IsHomeCopy (h && b) words copy → ((home == grantee) ≡ true) × (h ≡ true) × (copy ≡ Exclusive words)
    go true true e own = (grind (arith, nat_tests), refl, own)
    go true false e own = absurd (grind arith)
    go false b e own = absurd (grind arith)

module _ (home : ℕ) (line : AgedLine) (newest : line.words_at line.top ≡ line.line.words) (good : IsDraining home line) (op : Op) where
  abbrev Fine : ℕ → Outcome → Type 0
  Fine p o =
      IsEagerGood home (aged_row home p o (with_copy o.share.copy (ages_of line p)) line)
      × IsServedAt line (aged_row home p o (with_copy o.share.copy (ages_of line p)) line).top p (age_served home p o (with_copy o.share.copy (ages_of line p)) line) o.served

  abbrev on_copy : ℕ → Copy → Words → Outcome
  on_copy p copy on = record { share = record (share_of line.line p) { copy = copy }; sends = no_message; served = Own op on; done = true }

  module _ (p : ℕ) (apart : p ≢ home) (serve : serves op (line.line.copy p) ≡ true) where
    some : is_empty (line.line.copy p) ≡ false
    some = serving-has op (line.line.copy p) serve

    held : line.copy_age p ≡ good.has p
    held = good.ages.copies p ∙ rw some

    fresh : words_of (line.line.copy p) ≡ line.words_at (good.has p)
    fresh = node-fresh _ (line.words_at (good.has p)) _ (line.line.copy p) (line.line.want p) (good.status p) op (good.nodes p apart) serve

    resting : (good.status p).carrier ≡ Resting
    resting = serving-rests op (line.line.want p) (line.line.copy p) (good.status p).carrier (good.nodes p apart).carried serve

    load-row : is_load op.kind ≡ true → IsRowAway home line newest good p apart (on_copy p (line.line.copy p) (words_of (line.line.copy p))) (with_copy (line.line.copy p) (ages_of line p)) line.line.lane line.lane_age (good.status p)
    load-row load =
        let same : after_op op line.line.words ≡ line.line.words = after-load op line.line.words load in
        record {
          lanes = lanes-same home line.line.lane good.status good.lanes p;
          lane_ages = good.ages.lanes;
          copy = kept-copy (is_empty (line.line.copy p)) (line.copy_age p) (good.has p) (good.ages.copies p);
          sends = none-sent (line.copy_age p) line.top good.has p;
          writes = inl same;
          node = rw same (rw (words-same line.words_at line.line.words line.top line.top (good.has p) refl newest (good.ages.within p)) (good.nodes p apart));
          had = λ e. e;
          answered = λ node. done line.line.answered good.status good.answered p (good.status p) (ap is_put resting) node;
          last = ap is_put resting;
        }

    load-away : is_load op.kind ≡ true → Fine p (hit op (share_of line.line p))
    unfolding hit
    load-away load =
        subst (λ c. Fine p (on_copy p c (words_of (line.line.copy p)))) (sym (done-load op (line.line.copy p) load))
        (away-good home line newest good p apart _ _ _ _ _ (load-row load), served)
      where
        served : IsServedAt line (aged_row home p (on_copy p (line.line.copy p) (words_of (line.line.copy p))) (with_copy (line.line.copy p) (ages_of line p)) line).top p (cond (is_empty (line.line.copy p)) 0 (line.copy_age p)) (Own op (words_of (line.line.copy p)))
        served =
            let age : cond (is_empty (line.line.copy p)) 0 (line.copy_age p) ≡ good.has p = rw some held in
            (let le = good.ages.under_copy p some in grind arith, rw load (let le = good.ages.within p in grind arith, fresh ∙ ap line.words_at (sym age)))

    module _ (has : Words) (is : line.line.copy p ≡ Exclusive has) where
      write_on : (holds_in (draining_role good.grantee good.holds p) ≡ true) × (has ≡ line.words_at (good.has p)) × IsGoodNode (draining_role good.grantee good.holds p) (after_op op (line.words_at (good.has p))) (listed line.line.header.list p) (Exclusive (after_op op has)) (line.line.want p) (good.status p)
      write_on = node-writes _ (line.words_at (good.has p)) _ (line.line.copy p) has (line.line.want p) (good.status p) op (good.nodes p apart) is

      holder : ((p == good.grantee) ≡ true) × (good.holds ≡ true)
      holder = holder-is good.grantee p good.holds write_on.0

      top-held : good.has p ≡ line.top
      top-held = rw (holder.0, holder.1) at (good.ages.aged p apart (copy-has (line.line.copy p) (line.line.want p) (good.status p) some))

      newest-held : line.words_at (good.has p) ≡ line.line.words
      newest-held = ap line.words_at top-held ∙ newest

      abbrev after : LineAges
      after = with_copy (Exclusive (after_op op has)) (ages_of line p)

      write-row : IsRowAway home line newest good p apart (on_copy p (Exclusive (after_op op has)) has) after line.line.lane line.lane_age (good.status p)
      write-row =
          record {
            lanes = lanes-same home line.line.lane good.status good.lanes p;
            lane_ages = good.ages.lanes;
            copy = held;
            sends = none-sent (line.copy_age p) line.top good.has p;
            writes = inr holder;
            node = (let over : nat_lt (good.has p) line.top ≡ false = let e = top-held in grind (arith, nat_tests) in rw over (rw newest-held at write_on.2));
            had = λ e. copy-has (line.line.copy p) (line.line.want p) (good.status p) some;
            answered = λ node. done line.line.answered good.status good.answered p (good.status p) (ap is_put resting) node;
            last = ap is_put resting;
          }

      write-away : is_load op.kind ≡ false → Fine p (hit op (share_of line.line p))
      unfolding hit
      write-away write = subst (λ c. Fine p (on_copy p (done_on op c) (words_of c))) (sym is) (away-good home line newest good p apart _ _ _ _ _ write-row, served)
        where
          served : IsServedAt line (aged_row home p (on_copy p (Exclusive (after_op op has)) has) after line).top p (line.copy_age p) (Own op has)
          served =
              let top = away-top home line newest good p apart _ _ _ _ _ write-row in
              (let le = good.ages.under_copy p some in let e = held in grind arith, rw write (held ∙ top-held ∙ sym top, write_on.1 ∙ newest-held))

  -- the home's own copy
  module _ (serve : serves op (line.line.copy home) ≡ true) where
    home-some : is_empty (line.line.copy home) ≡ false
    home-some = serving-has op (line.line.copy home) serve

    own : ((home == good.grantee) ≡ true) × (good.holds ≡ true) × (line.line.copy home ≡ Exclusive line.line.words)
    own = home-holds home good.grantee good.holds line.line.words (line.line.copy home) good.header.own home-some

    home-held : line.copy_age home ≡ line.top
    home-held = good.ages.copies home ∙ rw home-some good.ages.at_home

    abbrev written : LineAges
    written = with_copy (Exclusive (after_op op line.line.words)) (ages_of line home)

    home-row : IsRowHome home line newest good (on_copy home (Exclusive (after_op op line.line.words)) line.line.words) written line.line.lane line.lane_age good.status good.holds
    home-row =
        let none_put : is_put (good.status home).carrier ≡ false = ap is_put good.at_home.carrier in
        record {
          lanes = lanes-quiet home line.line.lane good.status good.lanes home;
          lane_ages = good.ages.lanes;
          copy = home-held ∙ sym good.ages.at_home;
          sends = none-sent (given_age home line home) line.top good.has home;
          writes = inr (own.0, own.1);
          header = record { waits = good.header.waits; dirty = good.header.dirty; memory = rw own.1 tt; some = good.header.some; due = good.header.due; granted = good.header.granted; own = owned };
          list = refl;
          local = good.local ∙ rw home-some;
          at_home = record { carried = rested; stays = good.at_home.stays; off_duty = good.at_home.off_duty; carrier = good.at_home.carrier };
          nodes = good.nodes;
          had = good.ages.aged;
          puts = λ node e. e;
          answered = λ node. rests line.line.answered good.status good.answered home none_put node;
          memory = λ clean. absurd (let d = good.header.dirty in let h = own.1 in grind arith);
          last = none_put;
        }
      where
        owned : IsHomeCopy (good.holds && (good.grantee == home)) (after_op op line.line.words) (Exclusive (after_op op line.line.words))
        owned = let at : (good.grantee == home) ≡ true = let e = own.0 in grind (arith, nat_tests) in rw (own.1, at) refl

        rested : IsCarried (line.line.want home) (Exclusive (after_op op line.line.words)) (good.status home).carrier
        rested = resting-any (line.line.want home) (line.line.copy home) _ (good.status home).carrier good.at_home.carrier good.at_home.carried

    hit-home : Fine home (hit op (share_of line.line home))
    unfolding hit
    hit-home = subst (λ c. Fine home (on_copy home (done_on op c) (words_of c))) (sym own.2) (home-good home line newest good _ _ _ _ _ _ home-row, served (is_load op.kind))
      where
        top : ℕ
        top = (aged_row home home (on_copy home (Exclusive (after_op op line.line.words)) line.line.words) written line).top

        served : (load : Bool) → (line.last home ≤ line.copy_age home) × IsServedOn load line top (line.copy_age home) line.line.words
        served true = (let le = good.ages.past home in let e = home-held in grind arith, ((let e = home-held in grind arith), sym (ap line.words_at home-held ∙ newest)))
        served false = (let le = good.ages.past home in let e = home-held in grind arith, (home-held ∙ sym (home-top home line newest good _ _ _ _ _ _ home-row), refl))

  pub good-hit : (p : ℕ) → serves op (line.line.copy p) ≡ true → Fine p (hit op (share_of line.line p))
  good-hit p serve = go (p == home) (is_load op.kind) refl refl
    where
      go : (b load : Bool) → (p == home) ≡ b → is_load op.kind ≡ load → Fine p (hit op (share_of line.line p))
      go true load e f = let same : home ≡ p = grind (arith, nat_tests) in subst (λ k. Fine k (hit op (share_of line.line k))) same (hit-home (ap (λ k. serves op (line.line.copy k)) same ∙ serve))
      go false true e load = load-away p (grind (arith, nat_tests)) serve load
      go false false e write = let words = exclusive-serves op (line.line.copy p) serve write in write-away p (grind (arith, nat_tests)) serve words.0 words.1 write
