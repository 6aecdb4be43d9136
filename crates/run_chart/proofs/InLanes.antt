-- The letters of a lane, as letters come and go.
use Rattle.std.proofs.Common.{◌≡◌, ℕ, Bool, true, false, cond, ◌==◌, Some, None, List, [], get_or, drop, refl, sym, ap, subst, ◌∙◌, arith}
use Rattle.std.specs.Prelude.{slice_get, ◌&&◌}
use Rattle.std.specs.List.{position, remove}
use Rattle.std.proofs.lemmas.List.Quantifiers.{position-Some}
use Rattle.std.proofs.lemmas.Bool.Decides.{nat_tests}
use Rattle.op_model.specs.declared.events.Class.{Class}
use Rattle.op_model.specs.Messages.{same_class, msg_class}
use Rattle.op_model.specs.Events.Step.{one_off}
use Rattle.op_model.proofs.Public.{same_class-is, same_class-self}
use Rattle.chart_strokes.specs.declared.strokes.Letter.{Letter}
use Rattle.run_chart.specs.Charts.{is_in_lane, in_lane}
use Rattle.run_chart.proofs.Filtered.{filter-remove_other, filter-remove_first, filter-none}

-- ---- one lane and another

-- a letter of a lane names it
pub lane-named : (a b : ℕ) (k : Class) (l : Letter) → is_in_lane a b k l ≡ true → (l.src ≡ a) × (l.dst ≡ b) × (k ≡ msg_class l.msg)
lane-named a b k l is = go (l.src == a) (l.dst == b) (same_class k (msg_class l.msg)) refl refl refl is
  where
    go : (x y z : Bool) → (l.src == a) ≡ x → (l.dst == b) ≡ y → same_class k (msg_class l.msg) ≡ z → (x && (y && z)) ≡ true → (l.src ≡ a) × (l.dst ≡ b) × (k ≡ msg_class l.msg)
    go true true true from to of is = (grind (arith, nat_tests), grind (arith, nat_tests), same_class-is k (msg_class l.msg) of)
    go true true false from to of is = cc
    go true false z from to of is = cc
    go false y z from to of is = cc

-- a letter is in the lane that it names
pub named-lane : (a b : ℕ) (k : Class) (l : Letter) → l.src ≡ a → l.dst ≡ b → k ≡ msg_class l.msg → is_in_lane a b k l ≡ true
named-lane a b k l from to of =
    let x : (l.src == a) ≡ true = grind (arith, nat_tests) in
    let y : (l.dst == b) ≡ true = grind (arith, nat_tests) in
    let z : same_class k (msg_class l.msg) ≡ true = subst (λ c. same_class k c ≡ true) of (same_class-self k) in
    ap (λ t. t && ((l.dst == b) && same_class k (msg_class l.msg))) x ∙ ap (λ t. t && same_class k (msg_class l.msg)) y ∙ z

-- whether two lanes are one
abbrev pub is_lane : ℕ → ℕ → Class → ℕ → ℕ → Class → Bool
is_lane src dst class a b k = (b == dst) && ((a == src) && same_class k class)

pub same-lane : (src dst : ℕ) (class : Class) (a b : ℕ) (k : Class) → is_lane src dst class a b k ≡ true → (a ≡ src) × (b ≡ dst) × (k ≡ class)
same-lane src dst class a b k is = go (b == dst) (a == src) (same_class k class) refl refl refl is
  where
    go : (x y z : Bool) → (b == dst) ≡ x → (a == src) ≡ y → same_class k class ≡ z → (x && (y && z)) ≡ true → (a ≡ src) × (b ≡ dst) × (k ≡ class)
    go true true true to from of is = (grind (arith, nat_tests), grind (arith, nat_tests), same_class-is k class of)
    go true true false to from of is = cc
    go true false z to from of is = cc
    go false y z to from of is = cc

pub lane-same : (src dst : ℕ) (class : Class) (a b : ℕ) (k : Class) → a ≡ src → b ≡ dst → k ≡ class → is_lane src dst class a b k ≡ true
lane-same src dst class a b k from to of =
    let x : (a == src) ≡ true = grind (arith, nat_tests) in
    let y : (b == dst) ≡ true = grind (arith, nat_tests) in
    let z : same_class k class ≡ true = subst (λ c. same_class k c ≡ true) of (same_class-self k) in
    ap (λ t. t && ((a == src) && same_class k class)) y ∙ ap (λ t. t && same_class k class) x ∙ z

-- a letter of one lane is in no other
other-lane : (src dst : ℕ) (class : Class) (a b : ℕ) (k : Class) (l : Letter) → is_in_lane src dst class l ≡ true → is_lane src dst class a b k ≡ false → is_in_lane a b k l ≡ false
other-lane src dst class a b k l is other = go (is_in_lane a b k l) refl
  where
    go : (t : Bool) → is_in_lane a b k l ≡ t → t ≡ false
    go true e =
        let one = lane-named src dst class l is in
        let two = lane-named a b k l e in
        let same = lane-same src dst class a b k (sym two.0 ∙ one.0) (sym two.1 ∙ one.1) (two.2 ∙ sym one.2) in
        sym same ∙ other
    go false e = refl

-- ---- a letter is taken

module _ (letters : List Letter) (src dst : ℕ) (class : Class) where
  -- the first letter of the lane, where it has one
  pub first-taken : (i : ℕ) (l : Letter) → position (is_in_lane src dst class) letters ≡ Some i → l ≡ get_or letters i l → Some l ≡ slice_get (in_lane letters src dst class) 0
  first-taken i l at is =
      let first = position-Some (is_in_lane src dst class) letters i l at in
      ap Some is ∙ ap (λ ls. slice_get ls 0) (sym (filter-remove_first (is_in_lane src dst class) letters i l first.0 first.1 first.2))

  pub none-taken : position (is_in_lane src dst class) letters ≡ None → None ≡ slice_get (in_lane letters src dst class) 0
  none-taken none = ap (λ ls. slice_get ls 0) (sym (filter-none (is_in_lane src dst class) letters none))

  -- each lane without its front, where the letter is taken from it
  pub first-left : (i : ℕ) (l : Letter) → position (is_in_lane src dst class) letters ≡ Some i → (a b : ℕ) (k : Class) → in_lane (remove letters i) a b k ≡ drop (one_off src dst class a b k) (in_lane letters a b k)
  first-left i l at a b k = go (is_lane src dst class a b k) refl
    where
      go : (t : Bool) → is_lane src dst class a b k ≡ t → in_lane (remove letters i) a b k ≡ drop (cond t 1 0) (in_lane letters a b k)
      go true e =
          let first = position-Some (is_in_lane src dst class) letters i l at in
          let same = same-lane src dst class a b k e in
          let here : in_lane (remove letters i) src dst class ≡ drop 1 (in_lane letters src dst class) = ap (λ ls. drop 1 ls) (sym (filter-remove_first (is_in_lane src dst class) letters i l first.0 first.1 first.2)) in
          rw (same.0, same.1, same.2) here
      go false e =
          let first = position-Some (is_in_lane src dst class) letters i l at in
          filter-remove_other (is_in_lane a b k) letters i l first.0 (other-lane src dst class a b k (get_or letters i l) first.1 e)

  pub none-left : position (is_in_lane src dst class) letters ≡ None → (a b : ℕ) (k : Class) → in_lane letters a b k ≡ drop (one_off src dst class a b k) (in_lane letters a b k)
  none-left none a b k = go (is_lane src dst class a b k) refl
    where
      go : (t : Bool) → is_lane src dst class a b k ≡ t → in_lane letters a b k ≡ drop (cond t 1 0) (in_lane letters a b k)
      go true e =
          let same = same-lane src dst class a b k e in
          let empty : in_lane letters src dst class ≡ [] = filter-none (is_in_lane src dst class) letters none in
          let here : in_lane letters src dst class ≡ drop 1 (in_lane letters src dst class) = empty ∙ ap (λ ls. drop 1 ls) (sym empty) in
          rw (same.0, same.1, same.2) here
      go false e = refl
