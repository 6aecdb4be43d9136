-- Entries that are sorted by line and then by age. Such a list is determined by the entries that tie with each one, in their order: its first one comes before all that tie with it, and the rest is such a list again.
use Rattle.std.proofs.Common.{◌≡◌, ℕ, suc, ◌<◌, ◌≤◌, Bool, true, false, cond, not, ◌&&◌, List, [], ◌∷◌, filter, length, get_or, refl, sym, ap, ◌∙◌, arith}
use Rattle.std.specs.List.Sorted.{IsSortedBy, ties}
use Rattle.std.specs.Ordering.{is_lt, nat_cmp, ordering_then}
use Rattle.std.specs.Cmp.{IsStrictWeakOrder}
use Rattle.std.proofs.lemmas.Bool.{and_parts, not-true}
use Rattle.std.proofs.lemmas.Bool.Decides.{nat_tests}
use Rattle.std.proofs.lemmas.Cmp.{nat_cmp_total, on_total, then_total}
use Rattle.std.proofs.lemmas.List.Sorted.{ranks_by, sorted_far}
use Rattle.eager_model.specs.Runs.{AgedEntry}
use Rattle.eager_history.specs.Sound.{Each}

-- ---- a line and an age

abbrev pub precedes : ℕ → ℕ → ℕ → ℕ → Bool
precedes line age other_line other_age = is_lt (ordering_then (nat_cmp line other_line) (nat_cmp age other_age))

no-older : (line age other_age : ℕ) → age ≤ other_age → precedes line other_age line age ≡ false
no-older line age other_age le = grind (arith, nat_tests)

later-line : (line age other_line other_age : ℕ) → line < other_line → precedes other_line other_age line age ≡ false
later-line line age other_line other_age lt = grind (arith, nat_tests)

same-line : (line age other_line other_age : ℕ) → precedes line age other_line other_age ≡ false → precedes other_line other_age line age ≡ false → other_line ≡ line
same-line line age other_line other_age a b = grind (arith, nat_tests)

same-age : (line age other_line other_age : ℕ) → precedes line age other_line other_age ≡ false → precedes other_line other_age line age ≡ false → other_age ≡ age
same-age line age other_line other_age a b = grind (arith, nat_tests)

-- ---- entries, each on a line

module _ (line : AgedEntry → ℕ) where
  abbrev pub is_before : AgedEntry → AgedEntry → Bool
  is_before x y = precedes (line x) x.age (line y) y.age

  abbrev pub tie : AgedEntry → AgedEntry → Bool
  tie x y = ties is_before x y

  ranks : IsStrictWeakOrder is_before
  ranks = ranks_by (then_total (on_total (λ (k : ℕ × ℕ). k.0) nat_cmp_total) (on_total (λ (k : ℕ × ℕ). k.1) nat_cmp_total)) (λ (x : AgedEntry). (line x, x.age))

  -- one of the same line that is no older, and one of a later line
  pub on-one : (x y : AgedEntry) → line y ≡ line x → x.age ≤ y.age → is_before y x ≡ false
  on-one x y same le = ap (λ n. precedes n y.age (line x) x.age) same ∙ no-older (line x) x.age y.age le

  pub on-later : (x y : AgedEntry) → line x < line y → is_before y x ≡ false
  on-later x y lt = later-line (line x) x.age (line y) y.age lt

  neither : (x y : AgedEntry) → tie x y ≡ true → (is_before x y ≡ false) × (is_before y x ≡ false)
  neither x y both = let parts = and_parts (not (is_before x y)) (not (is_before y x)) both in (not-true (is_before x y) parts.0, not-true (is_before y x) parts.1)

  pub tied-lines : (x y : AgedEntry) → tie x y ≡ true → line y ≡ line x
  tied-lines x y both = let parts = neither x y both in same-line (line x) x.age (line y) y.age parts.0 parts.1

  pub tied-ages : (x y : AgedEntry) → tie x y ≡ true → y.age ≡ x.age
  tied-ages x y both = let parts = neither x y both in same-age (line x) x.age (line y) y.age parts.0 parts.1

  not-itself : (x : AgedEntry) → is_before x x ≡ false
  not-itself x = no-older (line x) x.age x.age (omega arith)

  itself : (x : AgedEntry) → tie x x ≡ true
  itself x = ap (λ b. not b && not b) (not-itself x)

  -- ---- sorted lists

  -- no entry is before one in front of it
  abbrev pub Rises : List AgedEntry → Type 0
  Rises [] = Unit {0}
  Rises (x ∷ xs) = Each (λ y. is_before y x ≡ false) xs × Rises xs

  pub rises-sorted : (xs : List AgedEntry) → IsSortedBy is_before xs → Rises xs
  rises-sorted xs up = rises xs (sorted_far is_before ranks xs up)
    where
      each : (x : AgedEntry) (ys : List AgedEntry) → ((j : ℕ) → j < length ys → is_before (get_or ys j x) x ≡ false) → Each (λ y. is_before y x ≡ false) ys
      each x [] far = tt
      each x (y ∷ ys) far = (far 0 (omega arith), each x ys (λ j lt. far (suc j) (omega arith)))

      rises : (ys : List AgedEntry) → ((i j : ℕ) (d : AgedEntry) → i ≤ j → j < length ys → is_before (get_or ys j d) (get_or ys i d) ≡ false) → Rises ys
      rises [] far = tt
      rises (y ∷ ys) far = (each y ys (λ j lt. far 0 (suc j) y (omega arith) (omega arith)), rises ys (λ i j d le lt. far (suc i) (suc j) d (omega arith) (omega arith)))

  -- ---- two sorted lists

  -- one that ties with some entry isn't before what no entry is before
  tied-above : (x low first : AgedEntry) (ys rest : List AgedEntry) → Each (λ y. is_before y low ≡ false) ys → filter (tie x) ys ≡ first ∷ rest → is_before x low ≡ false
  tied-above x low first [] rest each is = cc
  tied-above x low first (y ∷ ys) rest each is = go (tie x y) refl is (tied-above x low first ys rest each.1)
    where
      go : (b : Bool) → tie x y ≡ b → cond b (y ∷ filter (tie x) ys) (filter (tie x) ys) ≡ first ∷ rest → (filter (tie x) ys ≡ first ∷ rest → is_before x low ≡ false) → is_before x low ≡ false
      go true both is later = ranks.chain x y low (neither x y both).0 each.0
      go false both is later = later is

  in-front : (x : AgedEntry) (xs : List AgedEntry) → filter (tie x) (x ∷ xs) ≡ x ∷ filter (tie x) xs
  in-front x xs = ap (λ b. cond b (x ∷ filter (tie x) xs) (filter (tie x) xs)) (itself x)

  without-first : (x y z : AgedEntry) (ys zs : List AgedEntry) → y ≡ z → filter (tie x) (y ∷ ys) ≡ filter (tie x) (z ∷ zs) → filter (tie x) ys ≡ filter (tie x) zs
  without-first x y z ys zs same is = go (tie x y) (tie x z) (ap (tie x) same) is
    where
      go : (b c : Bool) → b ≡ c → cond b (y ∷ filter (tie x) ys) (filter (tie x) ys) ≡ cond c (z ∷ filter (tie x) zs) (filter (tie x) zs) → filter (tie x) ys ≡ filter (tie x) zs
      go true true e is = cc
      go false false e is = is
      go true false e is = cc
      go false true e is = cc

  pub same-sorted : (ys zs : List AgedEntry) → Rises ys → Rises zs → ((x : AgedEntry) → filter (tie x) ys ≡ filter (tie x) zs) → ys ≡ zs
  same-sorted [] [] up up' alike = refl
  same-sorted [] (z ∷ zs) up up' alike = let e : ◌≡◌ {A = List AgedEntry} [] (z ∷ filter (tie z) zs) = alike z ∙ in-front z zs in cc
  same-sorted (y ∷ ys) [] up up' alike = let e : ◌≡◌ {A = List AgedEntry} [] (y ∷ filter (tie y) ys) = sym (alike y) ∙ in-front y ys in cc
  same-sorted (y ∷ ys) (z ∷ zs) up up' alike =
      let low : is_before z y ≡ false = tied-above z y z (y ∷ ys) (filter (tie z) zs) (not-itself y, up.0) (alike z ∙ in-front z zs) in
      let high : is_before y z ≡ false = tied-above y z y (z ∷ zs) (filter (tie y) ys) (not-itself z, up'.0) (sym (alike y) ∙ in-front y ys) in
      let both : tie z y ≡ true = λ i. not (low i) && not (high i) in
      let whole : y ∷ filter (tie z) ys ≡ z ∷ filter (tie z) zs = ap (λ b. cond b (y ∷ filter (tie z) ys) (filter (tie z) ys)) (sym both) ∙ alike z ∙ in-front z zs in
      let same : y ≡ z = cc in
      let rest = same-sorted ys zs up.1 up'.1 (λ x. without-first x y z ys zs same (alike x)) in
      λ i. same i ∷ rest i
