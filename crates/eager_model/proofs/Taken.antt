-- The ages in the lanes of a line that doesn't drain, when the first message of one is taken, and where a node's words aren't under way.
use Rattle.std.proofs.Common.{◌≡◌, ℕ, Bool, true, false, cond, ◌==◌, ◌&&◌, List, ◌∷◌, map, refl, arith, ap, sym, ◌∙◌, subst}
use Rattle.std.proofs.lemmas.Bool.Decides.{nat_tests}
use Rattle.eager_model.specs.Types.{Class}
use Rattle.op_model.specs.Messages.{Content, same_class}
use Rattle.line_invariant.specs.Line.{taken}
use Rattle.line_invariant.specs.Good.{IsGood, is_write_answer, is_write_back}
use Rattle.eager_model.specs.Line.{AgedLine, taken_age}
use Rattle.eager_model.specs.Newest.{AreNewest, newest_age}
use Rattle.eager_model.proofs.LaneAges.{has_age, is_returned, same-lane}
use Rattle.eager_model.proofs.Newest.{carried}
use Rattle.eager_model.proofs.Quiet.{tail-same}

-- the line without the first message of a lane
abbrev pub left_line : ℕ → ℕ → Class → List Content → List ℕ → AgedLine → AgedLine
left_line from to class rest ages line = record line { line = record line.line { lane = taken from to class rest line.line.lane }; lane_age = taken_age from to class ages line.lane_age }

head-same : (x y : ℕ) (xs ys : List ℕ) → x ∷ xs ≡ y ∷ ys → x ≡ y
head-same x y xs ys e = grind arith

module _ (home : ℕ) (line : AgedLine) (from to : ℕ) (class : Class) (content : Content) (rest : List Content) (front : line.line.lane from to class ≡ content ∷ rest) where
  module _ (age : ℕ) (ages : List ℕ) (first : line.lane_age from to class ≡ age ∷ ages) (good : AreNewest home line) where
    told : age ∷ ages ≡ newest_age line.top (line.last to) content ∷ map (newest_age line.top (line.last to)) rest
    told = sym first ∙ good.lanes from to class ∙ ap (λ ms. map (newest_age line.top (line.last to)) ms) front

    pub first-age : age ≡ newest_age line.top (line.last to) content
    first-age = head-same age (newest_age line.top (line.last to) content) ages (map (newest_age line.top (line.last to)) rest) told

    pub newest-taken : AreNewest home (left_line from to class rest ages line)
    newest-taken = record { copies = good.copies; lanes = λ a b k. lanes a b k ((a == from) && (b == to) && same_class k class) refl; memory = good.memory; past = good.past; served = good.served }
      where
        lanes : (a b : ℕ) (k : Class) (c : Bool) → ((a == from) && (b == to) && same_class k class) ≡ c → cond c ages (line.lane_age a b k) ≡ map (newest_age line.top (line.last b)) (cond c rest (line.line.lane a b k))
        lanes a b k false e = good.lanes a b k
        lanes a b k true e =
            let is : to ≡ b = grind (arith, nat_tests) in
            subst (λ n. ages ≡ map (newest_age line.top (line.last n)) rest) is (tail-same age (newest_age line.top (line.last to) content) ages (map (newest_age line.top (line.last to)) rest) told)

  -- what is so of the ages of all that is under way to a node is so of the rest
  pub rest-same : (f g : Content → ℕ) (b : ℕ) → ((a : ℕ) (k : Class) → map f (line.line.lane a b k) ≡ map g (line.line.lane a b k)) → (a : ℕ) (k : Class) → map f (taken from to class rest line.line.lane a b k) ≡ map g (taken from to class rest line.line.lane a b k)
  rest-same f g b same a k = go ((a == from) && (b == to) && same_class k class) refl
    where
      go : (c : Bool) → ((a == from) && (b == to) && same_class k class) ≡ c → map f (cond c rest (line.line.lane a b k)) ≡ map g (cond c rest (line.line.lane a b k))
      go false e = same a k
      go true e =
          let is : b ≡ to = grind (arith, nat_tests) in
          let here : line.line.lane from b class ≡ content ∷ rest = ap (λ n. line.line.lane from n class) is ∙ front in
          tail-same (f content) (g content) (map f rest) (map g rest) (sym (ap (λ ms. map f ms) here) ∙ same from class ∙ ap (λ ms. map g ms) here)

plain-same : (top last top' last' : ℕ) (c : Content) → has_age c ≡ false → newest_age top last c ≡ newest_age top' last' c
plain-same top last top' last' c e = grind arith

module _ (home : ℕ) (line : AgedLine) (good : IsGood home line.line) where
  -- where a node's load isn't served, no message to it has the age of its last operation
  pub free-lane : (x : ℕ) → line.line.answered x ≡ false → (top l l' a : ℕ) (class : Class) → map (newest_age top l) (line.line.lane a x class) ≡ map (newest_age top l') (line.line.lane a x class)
  free-lane x free top l l' a class =
      ap (λ ms. map (newest_age top l) ms) (good.lanes a x class)
      ∙ same-lane (newest_age top l) (newest_age top l') (plain-same top l top l') home good.status a x (line.line.want x) (line.line.copy x) (carried home line good x)
      (λ e w. refl) (λ e w. refl) (λ e w. absurd (let no : true ≡ false = sym e ∙ sym (good.answered x) ∙ free in grind arith)) (λ e w. refl) class
      ∙ ap (λ ms. map (newest_age top l') ms) (sym (good.lanes a x class))

  -- where no node has the line, no message has the newest age
  pub bare-lane : ((n : ℕ) → is_write_back (good.status n).leaving ≡ false) → ((n : ℕ) → is_write_answer (good.status n).carrier ≡ false) → ((n : ℕ) → is_returned (good.status n).duty ≡ false) →
      (top top' l a b : ℕ) (class : Class) → map (newest_age top l) (line.line.lane a b class) ≡ map (newest_age top' l) (line.line.lane a b class)
  bare-lane backs gives returns top top' l a b class =
      ap (λ ms. map (newest_age top l) ms) (good.lanes a b class)
      ∙ same-lane (newest_age top l) (newest_age top' l) (plain-same top l top' l) home good.status a b (line.line.want b) (line.line.copy b) (carried home line good b)
      (λ e w. absurd (let no : true ≡ false = sym e ∙ backs a in grind arith)) (λ e w. absurd (let no : true ≡ false = sym e ∙ returns a in grind arith)) (λ e w. refl) (λ e w. absurd (let no : true ≡ false = sym e ∙ gives b in grind arith)) class
      ∙ ap (λ ms. map (newest_age top' l) ms) (sym (good.lanes a b class))
