-- A row of the eager machine is that row of its line, with its ages, and leaves every other line as it was. So is a message that is taken.
use Rattle.std.proofs.Common.{◌≡◌, ◌≢◌, ℕ, Bool, true, false, cond, ◌==◌, ◌⊎◌, List, [], ◌∷◌, ◌++◌, map, drop, length, append-nil, refl, arith, ap, sym, ◌∙◌, None}
use Rattle.std.proofs.lemmas.Bool.Decides.{nat_tests}
use Rattle.line_map.specs.Sizes.{Sizes, home_of}
use Rattle.op_model.specs.Events.Node.{messages}
use Rattle.op_model.specs.Events.Step.{put_at, to_lane}
use Rattle.op_model.specs.Lines.{Outcome}
use Rattle.op_model.specs.Messages.{msg_line}
use Rattle.op_model.specs.Run.Runs.{entries_of}
use Rattle.op_model.specs.Shares.{Lanes, Trace, want_on}
use Rattle.line_invariant.specs.Line.{addressed, taken, answered_after}
use Rattle.eager_model.specs.Types.{Class, Entry, Msg}
use Rattle.eager_model.specs.Ages.{LineAges, sent_age, age_given, served_age}
use Rattle.eager_model.specs.Line.{AgedLine, ages_of, aged_row, taken_age, last_after}
use Rattle.line_invariant.specs.Line.{share_of}
use Rattle.eager_model.specs.Node.{put_ages}
use Rattle.eager_model.specs.Runs.{AgedEntry, Past}
use Rattle.one_history.specs.Project.{of_line, project}
use Rattle.one_history.specs.Sound.{answered_of}
use Rattle.one_history.proofs.Public.{IsOn, after_row_of, project-marks, project-other, project-row}
use Rattle.one_history.proofs.Public.{project-taken, project-taken-other, taken_of}
use Rattle.eager_model.specs.History.{in_age_order}
use Rattle.eager_history.specs.Project.{plain_past, served_on, history_on, up_to, last_age, ages_on, aged_line}
use Rattle.eager_history.proofs.Added.{words_of, IsAdded}
use Rattle.eager_history.proofs.LaneAges.{Ages, ages_sent, left_ages, ages-append, ages-taken, ages-taken-other, sent-here, sent-there}

pub same_aged : (l m : AgedLine) → l.line ≡ m.line → ((node : ℕ) → l.copy_age node ≡ m.copy_age node) → l.memory_age ≡ m.memory_age → ((a b : ℕ) (class : Class) → l.lane_age a b class ≡ m.lane_age a b class) → l.top ≡ m.top →
    ((age : ℕ) → l.words_at age ≡ m.words_at age) → ((node : ℕ) → l.last node ≡ m.last node) → l ≡ m
same_aged l m line copy memory lane top words last = λ i. record { line = line i; copy_age = λ n. copy n i; memory_age = memory i; lane_age = λ a b c. lane a b c i; top = top i; words_at = λ a. words a i; last = λ n. last n i }

-- the machine where its lanes are these
abbrev pub with_lanes : Past → Lanes → Ages → Past
with_lanes past lane lane_age = record past { state = record past.state { lane = lane }; ages = record past.ages { lane = lane_age } }

-- the entries that a row adds, at this age
abbrev pub entries_at : ℕ → List Entry → List AgedEntry
entries_at age entries = map (λ entry. record { age = age; entry = entry }) entries

-- the machine after a row of a line at a node, which leaves it with these ages and gives words of this one
abbrev pub row_past : Sizes → Past → ℕ → ℕ → Outcome → LineAges → ℕ → Past
row_past sizes past node line outcome ages given =
    record {
      state = after_row_of sizes node line outcome past.state;
      ages = record {
        node = put_at past.ages.node node (put_ages line ages (past.ages.node node));
        lane = λ a b class. past.ages.lane a b class ++ cond (a == node) (ages_sent given (to_lane b class (messages line outcome.sends))) [];
      };
      served = past.served ++ entries_at (served_age given ages.copy outcome.served) (entries_of sizes past.state node line outcome.served);
    }

put-here : (f : ℕ → ℕ) (k value : ℕ) → put_at f k value k ≡ value
put-here f k value = let e : (k == k) ≡ true = grind (arith, nat_tests) in ap (λ c. cond c value (f k)) e

put-there : (f : ℕ → ℕ) (k value q : ℕ) → q ≢ k → put_at f k value q ≡ f q
put-there f k value q other = let e : (q == k) ≡ false = grind (arith, nat_tests) in ap (λ c. cond c value (f q)) e

module _ (trace : Trace) (past : Past) (node line : ℕ) (outcome : Outcome) (ages : LineAges) (given : ℕ)
    (fits : ((past.state.share node).want ≡ None) ⊎ (want_on trace.sizes (past.state.share node).want line ≡ None → outcome.share.want ≡ None)) (on : IsOn trace.sizes line outcome.share.want)
    (paired : (a b : ℕ) (class : Class) → length (past.ages.lane a b class) ≡ length (past.state.lane a b class)) where
  abbrev sizes : Sizes
  sizes = trace.sizes

  abbrev home : ℕ
  home = home_of sizes line

  abbrev next : Past
  next = row_past sizes past node line outcome ages given

  abbrev age : ℕ
  age = served_age given ages.copy outcome.served

  -- at its line
  module _ (top : ℕ) (told : LineAges) where
    abbrev before : AgedLine
    before = aged_line sizes past top line

    abbrev after : AgedLine
    after = aged_row home node outcome told before

    pub project-aged : told.copy ≡ ages.copy → ((node == home) ≡ true → told.memory ≡ ages.memory) → age_given (node == home) (share_of before.line node) (ages_of before node) ≡ given →
        IsAdded trace past.served line after.top node age outcome.served next.served →
        ((n : ℕ) → answered_of sizes (plain_past next) line n ≡ answered_after node outcome.served outcome.done (answered_of sizes (plain_past past) line) n) →
        aged_line sizes next after.top line ≡ after
    unfolding aged_line project
    project-aged copies memory gives added marked =
        same_aged _ _
        (project-row sizes past.state _ (answered_of sizes (plain_past past) line) node line outcome fits on _ (answered_of sizes (plain_past next) line) added.words marked)
        (λ n. copy n (n == node) refl)
        (stored (home == node) (node == home) refl refl)
        (λ a b class. ages-append line (past.state.lane a b class) _ (past.ages.lane a b class) _ (paired a b class) ∙ ap (λ xs. ages_on line (past.state.lane a b class) (past.ages.lane a b class) ++ xs) (mine a b class (a == node)))
        refl
        added.words_at
        (λ n. added.last n ∙ (λ i. last_after node outcome.served (served_age (sym gives i) (sym copies i) outcome.served) (λ k. last_age k 0 (served_on sizes line past.served)) n))
      where
        copy : (n : ℕ) (c : Bool) → (n == node) ≡ c → (cond c (put_ages line ages (past.ages.node node)) (past.ages.node n)).copy line ≡ cond c told.copy ((past.ages.node n).copy line)
        copy n true e = put-here (past.ages.node node).copy line ages.copy ∙ sym copies
        copy n false e = refl

        stored : (c d : Bool) → (home == node) ≡ c → (node == home) ≡ d → (cond c (put_ages line ages (past.ages.node node)) (past.ages.node home)).memory line ≡ cond d told.memory ((past.ages.node home).memory line)
        stored true true e f = put-here (past.ages.node node).memory line ages.memory ∙ sym (memory f)
        stored false false e f = refl
        stored true false e f = absurd (grind (arith, nat_tests))
        stored false true e f = absurd (grind (arith, nat_tests))

        mine : (a b : ℕ) (class : Class) (c : Bool) → ages_on line (cond c (to_lane b class (messages line outcome.sends)) []) (cond c (ages_sent given (to_lane b class (messages line outcome.sends))) [])
            ≡ cond c (map (sent_age (age_given (node == home) (share_of before.line node) (ages_of before node))) (addressed b class outcome.sends)) []
        mine a b class true = sent-here line given b class outcome.sends ∙ ap (λ g. map (sent_age g) (addressed b class outcome.sends)) (sym gives)
        mine a b class false = refl

  -- at the other lines
  pub project-aged-other : (top q : ℕ) → q ≢ line → served_on sizes q next.served ≡ served_on sizes q past.served → ((n : ℕ) → answered_of sizes (plain_past next) q n ≡ answered_of sizes (plain_past past) q n) →
      aged_line sizes next top q ≡ aged_line sizes past top q
  unfolding aged_line project
  project-aged-other top q other same marked =
      same_aged _ _
      (project-other sizes past.state (words_of sizes q (history_on sizes q next.served)) (answered_of sizes (plain_past next) q) node line outcome fits on q other
      ∙ ap (λ s. project sizes past.state (words_of sizes q (in_age_order s)) (answered_of sizes (plain_past next) q) q) same
      ∙ project-marks sizes past.state (words_of sizes q (history_on sizes q past.served)) (answered_of sizes (plain_past next) q) (answered_of sizes (plain_past past) q) q marked)
      (λ n. copy n (n == node) refl)
      (stored (home_of sizes q == node) refl)
      (λ a b class. ages-append q (past.state.lane a b class) _ (past.ages.lane a b class) _ (paired a b class) ∙ ap (λ xs. ages_on q (past.state.lane a b class) (past.ages.lane a b class) ++ xs) (none_of a b class (a == node)) ∙ append-nil _)
      refl
      (λ at. ap (λ s. words_of sizes q (up_to at (in_age_order s))) same)
      (λ n. ap (last_age n 0) same)
    where
      copy : (n : ℕ) (c : Bool) → (n == node) ≡ c → (cond c (put_ages line ages (past.ages.node node)) (past.ages.node n)).copy q ≡ (past.ages.node n).copy q
      copy n true e = let is : node ≡ n = grind (arith, nat_tests) in put-there (past.ages.node node).copy line ages.copy q other ∙ ap (λ k. (past.ages.node k).copy q) is
      copy n false e = refl

      stored : (c : Bool) → (home_of sizes q == node) ≡ c → (cond c (put_ages line ages (past.ages.node node)) (past.ages.node (home_of sizes q))).memory q ≡ (past.ages.node (home_of sizes q)).memory q
      stored true e = let is : node ≡ home_of sizes q = grind (arith, nat_tests) in put-there (past.ages.node node).memory line ages.memory q other ∙ ap (λ k. (past.ages.node k).memory q) is
      stored false e = refl

      none_of : (a b : ℕ) (class : Class) (c : Bool) → ages_on q (cond c (to_lane b class (messages line outcome.sends)) []) (cond c (ages_sent given (to_lane b class (messages line outcome.sends))) []) ≡ []
      none_of a b class true = sent-there line q given b class outcome.sends other
      none_of a b class false = refl

-- a message is taken
module _ (sizes : Sizes) (past : Past) (src dst : ℕ) (class : Class) (rest : List Msg) (top : ℕ) where
  abbrev taken_past : Past
  taken_past = with_lanes past (taken_of src dst class rest past.state.lane) (left_ages src dst class past.ages.lane)

  pub project-aged-taken : (line : ℕ) → aged_line sizes taken_past top line
      ≡ record (aged_line sizes past top line) {
        line = record (aged_line sizes past top line).line { lane = taken src dst class (of_line line rest) (aged_line sizes past top line).line.lane };
        lane_age = taken_age src dst class (ages_on line rest (drop 1 (past.ages.lane src dst class))) (aged_line sizes past top line).lane_age;
      }
  unfolding aged_line
  project-aged-taken line =
      same_aged _ _ (project-taken sizes past.state _ (answered_of sizes (plain_past past) line) src dst class rest line) (λ n. refl) refl (λ a b k. ages-taken past.state.lane past.ages.lane src dst class rest line a b k) refl (λ at. refl) (λ n. refl)

  pub project-aged-taken-other : (m : Msg) → past.state.lane src dst class ≡ m ∷ rest → (q : ℕ) → q ≢ msg_line m → aged_line sizes taken_past top q ≡ aged_line sizes past top q
  unfolding aged_line
  project-aged-taken-other m front q other =
      same_aged _ _ (project-taken-other sizes past.state _ (answered_of sizes (plain_past past) q) src dst class rest m front q other) (λ n. refl) refl (λ a b k. ages-taken-other past.state.lane past.ages.lane src dst class rest m front q other a b k) refl (λ at. refl) (λ n. refl)
