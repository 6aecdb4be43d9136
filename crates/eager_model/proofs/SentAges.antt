-- The ages after a row that begins no age: the node of the row has words of the age that it had, or none.
use Rattle.std.proofs.Common.{◌≡◌, ◌≢◌, ℕ, ◌≤◌, Bool, true, false, cond, ◌==◌, ◌&&◌, ◌++◌, List, [], ◌∷◌, map, refl, arith, ap, sym, subst, ◌∙◌}
use Rattle.std.proofs.lemmas.Bool.Decides.{nat_tests}
use Rattle.eager_model.specs.Types.{Class}
use Rattle.op_model.specs.Messages.{Content, same_class}
use Rattle.op_model.specs.Lines.{Outcome, no_message, one_to, is_empty}
use Rattle.line_invariant.specs.Line.{Lanes, share_of, addressed, taken}
use Rattle.line_invariant.specs.Good.{Status, Role, is_put}
use Rattle.eager_model.specs.Ages.{LineAges, sent_age, age_given}
use Rattle.eager_model.specs.Line.{AgedLine, ages_of, aged_row, greater, begun_age, taken_age}
use Rattle.eager_model.specs.Good.{AreAges, IsAgeIn, has_words, message_age}
use Rattle.eager_model.proofs.Kept.{map-append}

-- what a node sends begins no age, and has the ages that its words and those of its taker have
pub record AreSentAges (given top : ℕ) (has : ℕ → ℕ) (me : ℕ) (sends : List (ℕ × Content)) : Type 0 where
  pub within : begun_age given sends ≤ top
  pub same : (b : ℕ) (class : Class) → map (sent_age given) (addressed b class sends) ≡ map (message_age top has me b) (addressed b class sends)

pub none-sent : (given top : ℕ) (has : ℕ → ℕ) (me : ℕ) → AreSentAges given top has me no_message
none-sent given top has me = record { within = grind arith; same = λ b class. refl }

pub one-sent : (given top : ℕ) (has : ℕ → ℕ) (me node : ℕ) (content : Content) → sent_age given content ≡ message_age top has me node content → sent_age given content ≤ top → AreSentAges given top has me (one_to node content)
one-sent given top has me node content same le = record { within = grind (arith, nat_tests); same = λ b class. grind (arith, nat_tests) }

-- a copy that stays keeps its age
pub kept-copy : (b : Bool) (age has : ℕ) → age ≡ cond b 0 has → cond b 0 age ≡ cond b 0 has
kept-copy true age has e = refl
kept-copy false age has e = e

-- the ages of a lane after its first message is taken
pub taken-ages : (line : AgedLine) (f : ℕ → ℕ → Content → ℕ) → ((a b : ℕ) (class : Class) → line.lane_age a b class ≡ map (f a b) (line.line.lane a b class)) →
    (from to : ℕ) (class : Class) (content : Content) (rest : List Content) (age : ℕ) (ages : List ℕ) → line.line.lane from to class ≡ content ∷ rest → line.lane_age from to class ≡ age ∷ ages →
    (age ≡ f from to content) × ((a b : ℕ) (k : Class) → taken_age from to class ages line.lane_age a b k ≡ map (f a b) (taken from to class rest line.line.lane a b k))
taken-ages line f good from to class content rest age ages front first = (heads both, λ a b k. of_lane a b k ((a == from) && (b == to) && same_class k class) refl)
  where
    both : age ∷ ages ≡ f from to content ∷ map (f from to) rest
    both = sym first ∙ good from to class ∙ ap (λ ms. map (f from to) ms) front

    heads : {x y : ℕ} {xs ys : List ℕ} → x ∷ xs ≡ y ∷ ys → x ≡ y
    heads e = grind arith

    tails : {x y : ℕ} {xs ys : List ℕ} → x ∷ xs ≡ y ∷ ys → xs ≡ ys
    tails e = grind arith

    of_lane : (a b : ℕ) (k : Class) (c : Bool) → ((a == from) && (b == to) && same_class k class) ≡ c → cond c ages (line.lane_age a b k) ≡ map (f a b) (cond c rest (line.line.lane a b k))
    of_lane a b k false e = good a b k
    of_lane a b k true e =
        let at : from ≡ a = grind (arith, nat_tests) in
        let by : to ≡ b = grind (arith, nat_tests) in
        subst (λ x. ages ≡ map (f x b) rest) at (subst (λ y. ages ≡ map (f from y) rest) by (tails both))

-- the line after a row that is done where the lanes are these
abbrev pub row_done : ℕ → AgedLine → ℕ → Outcome → LineAges → Lanes → (ℕ → ℕ → Class → List ℕ) → AgedLine
row_done home line me row ages lane lane_age = aged_row home me row ages (record line { line = record line.line { lane = lane }; lane_age = lane_age })

abbrev pub given_age : ℕ → AgedLine → ℕ → ℕ
given_age home line me = age_given (me == home) (share_of line.line me) (ages_of line me)

module _ (home : ℕ) (line : AgedLine) (status : ℕ → Status) (role : ℕ → Role) (has : ℕ → ℕ) (good : AreAges home line status role has)
    (me : ℕ) (row : Outcome) (ages : LineAges) (lane : Lanes) (lane_age : ℕ → ℕ → Class → List ℕ)
    (copy : ages.copy ≡ cond (is_empty row.share.copy) 0 (has me)) (sends : AreSentAges (given_age home line me) line.top has me row.sends) where
  abbrev done : AgedLine
  done = row_done home line me row ages lane lane_age

  pub done-top : done.top ≡ line.top
  done-top = top ages.copy (begun_age (given_age home line me) row.sends) (held (is_empty row.share.copy) copy) sends.within
    where
      top : (a b : ℕ) → a ≤ line.top → b ≤ line.top → greater line.top (greater a b) ≡ line.top
      top a b le le' = grind (arith, nat_tests)

      held : (b : Bool) → ages.copy ≡ cond b 0 (has me) → ages.copy ≤ line.top
      held true e = grind arith
      held false e = let le = good.within me in grind arith

  pub done-ages : (status' : ℕ → Status) (role' : ℕ → Role) →
      ((a b : ℕ) (class : Class) → lane_age a b class ≡ map (message_age line.top has a b) (lane a b class)) →
      (done.line.header.dirty ≡ false → done.memory_age ≡ line.top) →
      ((node : ℕ) → node ≢ home → has_words (done.line.copy node) (done.line.want node) (status' node) ≡ true → IsAgeIn (role' node) (has node) line.top) →
      ((node : ℕ) → done.last node ≤ line.top) →
      ((node : ℕ) → is_empty (done.line.copy node) ≡ false → done.last node ≤ has node) →
      ((node : ℕ) → is_put (status' node).carrier ≡ true → done.last node ≡ has node) →
      AreAges home done status' role' has
  done-ages status' role' lanes memory aged past under put =
      record {
        copies = λ node. copies node (node == me) refl;
        lanes = λ a b class. rw done-top (sent-lane a b class);
        memory = λ e. memory e ∙ sym done-top;
        at_home = good.at_home ∙ sym done-top;
        within = λ node. rw done-top (good.within node);
        aged = λ node far e. rw done-top (aged node far e);
        past = λ node. rw done-top (past node);
        under_copy = under;
        of_put = put;
      }
    where
      copies : (node : ℕ) (b : Bool) → (node == me) ≡ b → cond b ages.copy (line.copy_age node) ≡ cond (is_empty (cond b row.share.copy (line.line.copy node))) 0 (has node)
      copies node false e = good.copies node
      copies node true e = let is : me ≡ node = grind (arith, nat_tests) in rw (← is) copy

      sent-lane : (a b : ℕ) (class : Class) →
          lane_age a b class ++ cond (a == me) (map (sent_age (given_age home line me)) (addressed b class row.sends)) [] ≡ map (message_age line.top has a b) (lane a b class ++ cond (a == me) (addressed b class row.sends) [])
      sent-lane a b class = both (lanes a b class) (own (a == me) refl) ∙ sym (map-append (message_age line.top has a b) (lane a b class) (cond (a == me) (addressed b class row.sends) []))
        where
          own : (c : Bool) → (a == me) ≡ c → cond c (map (sent_age (given_age home line me)) (addressed b class row.sends)) [] ≡ map (message_age line.top has a b) (cond c (addressed b class row.sends) [])
          own true e = let is : me ≡ a = grind (arith, nat_tests) in rw (← is) (sends.same b class)
          own false e = refl

          both : {xs ys zs ws : List ℕ} → xs ≡ ys → zs ≡ ws → xs ++ zs ≡ ys ++ ws
          both e f = rw (e, f)
