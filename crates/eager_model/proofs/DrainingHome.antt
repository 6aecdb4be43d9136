-- What has to be shown of a row at the home of a line that drains, so that it still drains. The words may come back to memory there.
use Rattle.std.proofs.Common.{◌≡◌, ◌≢◌, ℕ, Bool, true, false, cond, ◌==◌, not, List, map, refl, arith, ap, sym, subst, ◌∙◌, inr}
use Rattle.eager_model.specs.Types.{Class}
use Rattle.op_model.specs.Nodes.{listed}
use Rattle.op_model.specs.Lines.{Outcome, Header, is_empty}
use Rattle.line_invariant.specs.Line.{Lanes, words_after, answered_after, sent}
use Rattle.line_invariant.specs.Good.{Status, Clean, IsGoodNode, IsGoodHome, is_put, expected}
use Rattle.op_model.proofs.Public.{eqb-self}
use Rattle.std.proofs.lemmas.Bool.{ne_eqb}
use Rattle.eager_model.specs.Ages.{LineAges}
use Rattle.eager_model.specs.Line.{AgedLine}
use Rattle.eager_model.specs.Good.{IsEagerGood, IsDraining, IsDrainingHeader, IsAgeIn, has_words, draining_role, message_age}
use Rattle.eager_model.proofs.Quiet.{at-top}
use Rattle.eager_model.proofs.Kept.{any-words}
use Rattle.eager_model.proofs.SentAges.{AreSentAges, row_done, given_age, done-ages}
use Rattle.eager_model.proofs.DrainingRows.{IsWriteOf, IsLastWithin, drain-top, same-at, last-past, last-under, last-put}

module _ (home : ℕ) (line : AgedLine) (newest : line.words_at line.top ≡ line.line.words) (good : IsDraining home line)
    (row : Outcome) (ages : LineAges) (lane : Lanes) (lane_age : ℕ → ℕ → Class → List ℕ) (status : ℕ → Status) (holds : Bool) where
  abbrev home_done : AgedLine
  home_done = row_done home line home row ages lane lane_age

  pub record IsRowHome : Type 0 where
    pub lanes : (a b : ℕ) (class : Class) → sent home row.sends lane a b class ≡ expected home status a b class
    pub lane_ages : (a b : ℕ) (class : Class) → lane_age a b class ≡ map (message_age line.top good.has a b) (lane a b class)
    pub copy : ages.copy ≡ cond (is_empty row.share.copy) 0 (good.has home)
    pub sends : AreSentAges (given_age home line home) line.top good.has home row.sends
    pub writes : IsWriteOf good.grantee good.holds home line.line.words (words_after row.served line.line.words)
    pub header : IsDrainingHeader home good.grantee holds (words_after row.served line.line.words) row.share.header row.share.copy
    pub list : row.share.header.list ≡ line.line.header.list
    pub local : row.share.header.local ≡ not (is_empty row.share.copy)
    pub at_home : IsGoodHome home Clean line.line.words row.share.copy row.share.want (status home)
    pub nodes : (node : ℕ) → node ≢ home → IsGoodNode (draining_role good.grantee holds node) (line.words_at (good.has node)) (listed line.line.header.list node) (line.line.copy node) (line.line.want node) (status node)
    pub had : (node : ℕ) → node ≢ home → has_words (line.line.copy node) (line.line.want node) (status node) ≡ true → IsAgeIn (draining_role good.grantee holds node) (good.has node) line.top
    pub puts : (node : ℕ) → is_put (status node).carrier ≡ true → is_put (good.status node).carrier ≡ true
    pub answered : (node : ℕ) → answered_after home row.served row.done line.line.answered node ≡ is_put (status node).carrier
    pub memory : row.share.header.dirty ≡ false → ages.memory ≡ line.top
    pub last : IsLastWithin (line.last home) (good.has home) row.share.copy (status home) row.served

  module _ (is : IsRowHome) where
    pub home-top : home_done.top ≡ line.top
    home-top = drain-top home line newest good home row ages lane lane_age is.copy is.sends

    node-now : (node : ℕ) → node ≢ home →
        IsGoodNode (draining_role good.grantee holds node) (home_done.words_at (good.has node)) (listed row.share.header.list node) (line.line.copy node) (line.line.want node) (status node)
    node-now node far =
        subst (λ l. IsGoodNode (draining_role good.grantee holds node) (home_done.words_at (good.has node)) (listed l node) (line.line.copy node) (line.line.want node) (status node)) (sym is.list)
        (any-words _ _ _ _ (line.line.copy node) (line.line.want node) (status node) (is.nodes node far)
        (λ e. same-at home line newest good home row ages lane lane_age is.copy is.sends holds node far is.writes (is.had node far e)))

    seen : (P : Header → Type 0) (on : Bool) → on ≡ true → P row.share.header → P (cond on row.share.header line.line.header)
    seen P true e it = it
    seen P false e it = absurd (grind arith)

    home-drains-on : IsDraining home home_done
    home-drains-on =
        let on : (home == home) ≡ true = eqb-self home in
        record {
          grantee = good.grantee;
          holds = holds;
          status = status;
          has = good.has;
          lanes = is.lanes;
          header = seen (λ h. IsDrainingHeader home good.grantee holds home_done.line.words h (home_done.line.copy home)) (home == home) on (subst (λ c. IsDrainingHeader home good.grantee holds home_done.line.words row.share.header c) (sym copy-home) is.header);
          local = seen (λ h. h.local ≡ not (is_empty (home_done.line.copy home))) (home == home) on (subst (λ c. row.share.header.local ≡ not (is_empty c)) (sym copy-home) is.local);
          unlisted = seen (λ h. listed h.list home ≡ false) (home == home) on (ap (λ l. listed l home) is.list ∙ good.unlisted);
          at_home = rw on (record { carried = is.at_home.carried; stays = is.at_home.stays; off_duty = is.at_home.off_duty; carrier = is.at_home.carrier });
          nodes = λ node far. at_node node far (node == home) (ne_eqb node home far);
          answered = is.answered;
          ages = done-ages home line good.status (draining_role good.grantee good.holds) good.has good.ages home row ages lane lane_age is.copy is.sends status (draining_role good.grantee holds)
              is.lane_ages
              (seen_memory (home == home) on)
              (λ node far e. is.had node far (simp (ne_eqb node home far) at e))
              (last-past line good.has home _ ages.copy row.share.copy is.copy good.ages.within good.ages.past row.served (status home) is.last)
              (last-under line good.has home _ ages.copy row.share.copy is.copy good.ages.within good.ages.past row.served (status home) is.last good.ages.under_copy)
              (last-put line good.has home _ ages.copy row.share.copy is.copy good.ages.within good.ages.past status row.served (status home) is.last (λ node far put. good.ages.of_put node (is.puts node put)) refl);
        }
      where
        copy-home : home_done.line.copy home ≡ row.share.copy
        copy-home = rw (eqb-self home)

        seen_memory : (on : Bool) → on ≡ true → (cond on row.share.header line.line.header).dirty ≡ false → cond on ages.memory line.memory_age ≡ line.top
        seen_memory true e clean = is.memory clean
        seen_memory false e clean = absurd (grind arith)

        at_node : (node : ℕ) → node ≢ home → (off : Bool) → off ≡ false →
            IsGoodNode (draining_role good.grantee holds node) (home_done.words_at (good.has node)) (listed home_done.line.header.list node) (cond off row.share.copy (line.line.copy node)) (cond off row.share.want (line.line.want node)) (status node)
        at_node node far true e = absurd (grind arith)
        at_node node far false e = seen (λ h. IsGoodNode (draining_role good.grantee holds node) (home_done.words_at (good.has node)) (listed h.list node) (line.line.copy node) (line.line.want node) (status node)) (home == home) (eqb-self home) (node-now node far)

    pub home-good : IsEagerGood home home_done
    home-good = record { newest = at-top line.words_at home_done.line.words home_done.top; stands = inr home-drains-on }
