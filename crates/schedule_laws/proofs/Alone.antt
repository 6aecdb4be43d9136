-- Whether another line stands in the cache set of a line: no conflict is found exactly where the search for one finds nothing, and that is
-- where each other line of the set is absent.
use Rattle.std.proofs.Common.{◌≡◌, ◌≢◌, ℕ, Bool, true, false, cond, not, ◌==◌, ◌&&◌, ◌||◌, List, [], ◌∷◌, refl, arith, ap, sym, ◌∙◌, subst, Option, Some, None, option_map}
use Rattle.std.proofs.lemmas.Bool.Decides.{nat_tests}
use Rattle.std.specs.List.{find, list_any}
use Rattle.std.specs.FinMap as fin
use Rattle.line_map.specs.Sizes.{Sizes, set_of}
use Rattle.op_model.specs.Lines.{Absent, Copy, is_empty}
use Rattle.op_model.specs.Run.Schedules.{other_in_set}
use Rattle.op_model.specs.Shares.{Share, conflicts, copy_of}
use Rattle.op_model.proofs.Public.{empty-copy, find-passes}
use Rattle.one_history.proofs.Public.{any-none, none-conflicts}
use Rattle.one_history.specs.Sound.{IsCached}

find-nothing : {X : Type 0} (p : X → Bool) (xs : List X) → ((x : X) → p x ≡ false) → find p xs ≡ None
find-nothing p [] fails = refl
find-nothing p (x ∷ xs) fails = ap (λ b. cond b (Some x) (find p xs)) (fails x) ∙ find-nothing p xs fails

nothing-any : {X : Type 0} (p : X → Bool) (xs : List X) → find p xs ≡ None → list_any p xs ≡ false
nothing-any p [] e = refl
nothing-any {X = X} p (x ∷ xs) e = go (p x) refl e (nothing-any p xs)
  where
    go : (c : Bool) → p x ≡ c → ◌≡◌ {A = Option X} (cond c (Some x) (find p xs)) None → (find p xs ≡ None → list_any p xs ≡ false) → (p x || list_any p xs) ≡ false
    go true is e later = absurd (let n : ◌≡◌ {A = Option X} (Some x) None = e in cc)
    go false is e later = ap (λ b. b || list_any p xs) is ∙ later e

module _ (sizes : Sizes) (share : Share) (line : ℕ) where
  -- another line of the set has a copy
  abbrev stands : ℕ × Copy → Bool
  stands e = (set_of sizes e.0 == set_of sizes line) && not (e.0 == line) && not (is_empty (copy_of share e.0))

  -- each other line of the set is absent
  abbrev pub IsAlone : Type 0
  IsAlone = (g : ℕ) → g ≢ line → set_of sizes g ≡ set_of sizes line → copy_of share g ≡ Absent

  pub alone-absent : conflicts sizes share line ≡ false → IsAlone
  alone-absent free g apart same = empty-copy (copy_of share g) (none-conflicts sizes share line g free apart same)

  fails : IsAlone → (e : ℕ × Copy) → stands e ≡ false
  fails alone e = go (set_of sizes e.0 == set_of sizes line) (e.0 == line) refl refl
    where
      go : (c d : Bool) → (set_of sizes e.0 == set_of sizes line) ≡ c → (e.0 == line) ≡ d → (c && not d && not (is_empty (copy_of share e.0))) ≡ false
      go true false x y =
          let same : set_of sizes e.0 ≡ set_of sizes line = grind (arith, nat_tests) in
          let apart : e.0 ≢ line = grind (arith, nat_tests) in
          ap (λ k. true && not false && not (is_empty k)) (alone e.0 apart same)
      go true true x y = refl
      go false d x y = refl

  pub absent-alone : IsAlone → conflicts sizes share line ≡ false
  unfolding copy_of
  absent-alone alone = any-none stands (fin.entries share.copies) (fails alone)

  pub absent-other : IsAlone → other_in_set sizes share line ≡ None
  absent-other alone = ap (option_map (λ e. e.0)) (find-nothing stands (fin.entries share.copies) (fails alone))

  -- the search finds nothing, or a line of the set with a copy
  pub other-none : other_in_set sizes share line ≡ None → conflicts sizes share line ≡ false
  unfolding copy_of
  other-none e = nothing-any stands (fin.entries share.copies) (go (find stands (fin.entries share.copies)) e)
    where
      go : (o : Option (ℕ × Copy)) → option_map (λ x. x.0) o ≡ None → o ≡ None
      go None e = refl
      go (Some x) e = absurd (let n : ◌≡◌ {A = Option ℕ} (Some x.0) None = e in cc)

  three : (a b c : Bool) → (a && not b && not c) ≡ true → (a ≡ true) × (b ≡ false) × (c ≡ false)
  three a b c e = (grind arith, grind arith, grind arith)

  pub other-some : (g : ℕ) → other_in_set sizes share line ≡ Some g → (set_of sizes g ≡ set_of sizes line) × (g ≢ line) × (is_empty (copy_of share g) ≡ false)
  other-some g e = go (find stands (fin.entries share.copies)) refl e
    where
      go : (o : Option (ℕ × Copy)) → find stands (fin.entries share.copies) ≡ o → option_map (λ x. x.0) o ≡ Some g → (set_of sizes g ≡ set_of sizes line) × (g ≢ line) × (is_empty (copy_of share g) ≡ false)
      go None f e = absurd (let n : ◌≡◌ {A = Option ℕ} None (Some g) = e in cc)
      go (Some x) f e =
          let same : x.0 ≡ g = cc in
          let passes = three (set_of sizes x.0 == set_of sizes line) (x.0 == line) (is_empty (copy_of share x.0)) (find-passes stands (fin.entries share.copies) x f) in
          subst (λ k. (set_of sizes k ≡ set_of sizes line) × (k ≢ line) × (is_empty (copy_of share k) ≡ false)) same (on passes.0, off passes.1, passes.2)
        where
          on : (set_of sizes x.0 == set_of sizes line) ≡ true → set_of sizes x.0 ≡ set_of sizes line
          on t = grind (arith, nat_tests)

          off : (x.0 == line) ≡ false → x.0 ≢ line
          off t = grind (arith, nat_tests)

-- when the other line of the set has left, a line stands alone in it
pub left-alone : (sizes : Sizes) (before after : Share) (line g : ℕ) → IsCached sizes before → set_of sizes g ≡ set_of sizes line → is_empty (copy_of before g) ≡ false →
    ((x : ℕ) → x ≢ g → copy_of after x ≡ copy_of before x) → copy_of after g ≡ Absent → IsAlone sizes after line
left-alone sizes before after line g cached in_set has copies gone x other same = go (x == g) refl
  where
    some : (copy : Copy) (b : Bool) → is_empty copy ≡ false → (not (is_empty copy) || b) ≡ true
    some copy b e = ap (λ c. not c || b) e

    go : (c : Bool) → (x == g) ≡ c → copy_of after x ≡ Absent
    go true e = let is_g : x ≡ g = grind (arith, nat_tests) in ap (copy_of after) is_g ∙ gone
    go false e = let far : x ≢ g = grind (arith, nat_tests) in copies x far ∙ empty far (is_empty (copy_of before x)) refl
      where
        empty : x ≢ g → (c : Bool) → is_empty (copy_of before x) ≡ c → copy_of before x ≡ Absent
        empty far true f = empty-copy _ f
        empty far false f = absurd (far (cached x g (some _ _ f) (some _ _ has) (same ∙ sym in_set)))
