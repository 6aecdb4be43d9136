-- The entries of each line in the order of their ages, line by line, are sorted by line and then by age, and those that tie keep their order. So a stable sort gives them.
use Rattle.std.proofs.Common.{◌≡◌, ℕ, zero, suc, ◌<◌, ◌≤◌, Bool, true, false, cond, ◌==◌, nat_lt, List, [], ◌∷◌, ◌++◌, filter, append-nil, append_assoc, add-one, refl, sym, ap, subst, ◌∙◌, arith}
use Rattle.std.specs.List.{flat_map, range_with_len}
use Rattle.std.specs.List.Sorted.{IsSortedBy, IsStableBy}
use Rattle.std.proofs.lemmas.Bool.{eqb-true}
use Rattle.std.proofs.lemmas.Bool.Decides.{nat_tests}
use Rattle.std.proofs.lemmas.List.Elements.{filter-append}
use Rattle.op_model.proofs.Public.{never_passes}
use Rattle.dir_report.proofs.Public.{flat_map-range_more}
use Rattle.eager_model.specs.History.{put_all, in_age_order}
use Rattle.eager_model.specs.Runs.{AgedEntry}
use Rattle.eager_history.specs.Sound.{Each, AreInOrder}
use Rattle.eager_history.proofs.Public.{each-map, each-put-all, filter-order, in-order, put-last}
use Rattle.eager_report.proofs.Sorted.{Rises, is_before, on-later, on-one, rises-sorted, same-sorted, tie, tied-ages, tied-lines}

-- ---- what holds of each entry

each-append : (P : AgedEntry → Type 0) (xs ys : List AgedEntry) → Each P xs → Each P ys → Each P (xs ++ ys)
each-append P [] ys each also = also
each-append P (x ∷ xs) ys each also = (each.0, each-append P xs ys each.1 also)

each-passes : (P : AgedEntry → Type 0) (p : AgedEntry → Bool) → ((x : AgedEntry) → p x ≡ true → P x) → (xs : List AgedEntry) → Each P (filter p xs)
each-passes P p holds [] = tt
each-passes P p holds (x ∷ xs) = go (p x) refl (each-passes P p holds xs)
  where
    go : (b : Bool) → p x ≡ b → Each P (filter p xs) → Each P (cond b (x ∷ filter p xs) (filter p xs))
    go true is rest = (holds x is, rest)
    go false is rest = rest

none-passes : (p : AgedEntry → Bool) (xs : List AgedEntry) → Each (λ x. p x ≡ false) xs → filter p xs ≡ []
none-passes p [] each = refl
none-passes p (x ∷ xs) each = ap (λ b. cond b (x ∷ filter p xs) (filter p xs)) each.0 ∙ none-passes p xs each.1

-- entries of one age stay in their order
of-one-age : (age : ℕ) (history xs : List AgedEntry) → Each (λ x. x.age ≡ age) history → Each (λ x. x.age ≡ age) xs → put_all history xs ≡ history ++ xs
of-one-age age history [] old each = sym (append-nil history)
of-one-age age history (x ∷ xs) old each =
    let last = put-last x history (each-map (λ o. o.age ≡ age) (λ o. o.age ≤ x.age) history (λ o is. omega (arith, is, each.0)) old) in
    ap (λ h. put_all h xs) last ∙ of-one-age age (history ++ x ∷ []) xs (each-append (λ o. o.age ≡ age) history (x ∷ []) old (each.0, tt)) each.1 ∙ append_assoc history (x ∷ []) xs

-- ---- the entries of one line

module _ (line : AgedEntry → ℕ) where
  abbrev is_on : ℕ → AgedEntry → Bool
  is_on n x = line x == n

  abbrev pub in_line : List AgedEntry → ℕ → List AgedEntry
  in_line xs n = in_age_order (filter (λ x. line x == n) xs)

  apart : (x y : AgedEntry) → (line y ≡ line x → ⊥) → tie line x y ≡ false
  apart x y differ = never_passes (tie line x y) (λ both. differ (tied-lines line x y both))

  all-on : (xs : List AgedEntry) (n : ℕ) → Each (λ x. line x ≡ n) (in_line xs n)
  all-on xs n = each-put-all (λ x. line x ≡ n) [] (filter (is_on n) xs) tt (each-passes (λ x. line x ≡ n) (is_on n) (λ x is. eqb-true (line x) n is) xs)

  rises-on : (n : ℕ) (xs : List AgedEntry) → Each (λ x. line x ≡ n) xs → AreInOrder xs → Rises line xs
  rises-on n [] on order = tt
  rises-on n (x ∷ xs) on order = (behind xs on.1 order.0, rises-on n xs on.1 order.1)
    where
      behind : (ys : List AgedEntry) → Each (λ y. line y ≡ n) ys → Each (λ y. x.age ≤ y.age) ys → Each (λ y. is_before line y x ≡ false) ys
      behind [] same le = tt
      behind (y ∷ ys) same le = (on-one line x y (same.0 ∙ sym on.0) le.0, behind ys same.1 le.1)

  -- those that tie with an entry are of its age
  tied-on : (xs : List AgedEntry) (n : ℕ) (x : AgedEntry) → filter (tie line x) (in_line xs n) ≡ filter (tie line x) (filter (is_on n) xs)
  tied-on xs n x =
      let those = filter (is_on n) xs in
      sym (filter-order (tie line x) [] those tt) ∙ of-one-age x.age [] (filter (tie line x) those) tt (each-passes (λ y. y.age ≡ x.age) (tie line x) (tied-ages line x) those)

  tied-there : (x : AgedEntry) (xs : List AgedEntry) → filter (tie line x) (filter (is_on (line x)) xs) ≡ filter (tie line x) xs
  tied-there x [] = refl
  tied-there x (y ∷ ys) = go (is_on (line x) y) refl (tied-there x ys)
    where
      go : (b : Bool) → is_on (line x) y ≡ b → filter (tie line x) (filter (is_on (line x)) ys) ≡ filter (tie line x) ys →
          filter (tie line x) (cond b (y ∷ filter (is_on (line x)) ys) (filter (is_on (line x)) ys)) ≡ filter (tie line x) (y ∷ ys)
      go true is rest = ap (λ l. cond (tie line x y) (y ∷ l) l) rest
      go false is rest = rest ∙ sym (ap (λ b. cond b (y ∷ filter (tie line x) ys) (filter (tie line x) ys)) (apart x y (λ same. grind (arith, nat_tests))))

  tied-elsewhere : (x : AgedEntry) (n : ℕ) → (line x ≡ n → ⊥) → (xs : List AgedEntry) → filter (tie line x) (filter (is_on n) xs) ≡ []
  tied-elsewhere x n differ xs =
      none-passes (tie line x) (filter (is_on n) xs)
      (each-passes (λ y. tie line x y ≡ false) (is_on n) (λ y is. apart x y (λ same. differ (sym same ∙ eqb-true (line y) n is))) xs)

  -- ---- the entries of all lines

  rises-append : (xs ys : List AgedEntry) → Rises line xs → Rises line ys → Each (λ x. Each (λ y. is_before line y x ≡ false) ys) xs → Rises line (xs ++ ys)
  rises-append [] ys up also below = also
  rises-append (x ∷ xs) ys up also below = (each-append (λ y. is_before line y x ≡ false) xs ys up.0 below.0, rises-append xs ys up.1 also below.1)

  module _ (xs : List AgedEntry) where
    abbrev pub first_lines : ℕ → List AgedEntry
    first_lines n = flat_map (in_line xs) (range_with_len 0 n)

    one-more : (n : ℕ) → first_lines (suc n) ≡ first_lines n ++ in_line xs n
    one-more n = ap first_lines (sym (add-one n)) ∙ flat_map-range_more (in_line xs) n

    all-below : (n : ℕ) → Each (λ x. line x < n) (first_lines n)
    all-below zero = tt
    all-below (suc n) =
        subst (Each (λ x. line x < suc n)) (sym (one-more n))
        (each-append (λ x. line x < suc n) (first_lines n) (in_line xs n) (each-map (λ x. line x < n) (λ x. line x < suc n) (first_lines n) (λ x lt. omega (arith, lt)) (all-below n))
        (each-map (λ x. line x ≡ n) (λ x. line x < suc n) (in_line xs n) (λ x is. omega (arith, is)) (all-on xs n)))

    all-rise : (n : ℕ) → Rises line (first_lines n)
    all-rise zero = tt
    all-rise (suc n) =
        subst (Rises line) (sym (one-more n))
        (rises-append (first_lines n) (in_line xs n) (all-rise n) (rises-on n (in_line xs n) (all-on xs n) (in-order (filter (is_on n) xs)))
        (each-map (λ x. line x < n) (λ x. Each (λ y. is_before line y x ≡ false) (in_line xs n)) (first_lines n)
        (λ x lt. each-map (λ y. line y ≡ n) (λ y. is_before line y x ≡ false) (in_line xs n) (λ y is. on-later line x y (omega (arith, lt, is))) (all-on xs n)) (all-below n)))

    -- those that tie with an entry stand on its line
    not-yet : (n : ℕ) (x : AgedEntry) → n ≤ line x → filter (tie line x) (first_lines n) ≡ []
    not-yet n x above = none-passes (tie line x) (first_lines n) (each-map (λ y. line y < n) (λ y. tie line x y ≡ false) (first_lines n) (λ y lt. apart x y (λ same. omega (arith, lt, same, above))) (all-below n))

    so-far : (n : ℕ) (x : AgedEntry) → line x < n → filter (tie line x) (first_lines n) ≡ filter (tie line x) xs
    so-far zero x lt = absurd (omega (arith, lt))
    so-far (suc n) x lt =
        ap (filter (tie line x)) (one-more n) ∙ filter-append (tie line x) (first_lines n) (in_line xs n) ∙ ap (λ l. filter (tie line x) (first_lines n) ++ l) (tied-on xs n x)
        ∙ go (line x == n) refl (so-far n x)
      where
        go : (b : Bool) → (line x == n) ≡ b → (line x < n → filter (tie line x) (first_lines n) ≡ filter (tie line x) xs) → filter (tie line x) (first_lines n) ++ filter (tie line x) (filter (is_on n) xs) ≡ filter (tie line x) xs
        go true is rest =
            let same : line x ≡ n = eqb-true (line x) n is in
            ap (λ l. l ++ filter (tie line x) (filter (is_on n) xs)) (not-yet n x (omega (arith, same)))
            ∙ ap (λ m. filter (tie line x) (filter (is_on m) xs)) (sym same) ∙ tied-there x xs
        go false is rest =
            let differ : line x ≡ n → ⊥ = λ same. grind (arith, nat_tests) in
            let before : line x < n = omega (arith, lt, differ) in
            ap (λ l. filter (tie line x) (first_lines n) ++ l) (tied-elsewhere x n differ xs) ∙ append-nil _ ∙ rest before

    pub sorted-lines : (n : ℕ) (ys : List AgedEntry) → Each (λ x. line x < n) xs → IsSortedBy (is_before line) ys → IsStableBy (is_before line) xs ys → ys ≡ first_lines n
    sorted-lines n ys within up stable = same-sorted line ys (first_lines n) (rises-sorted line ys up) (all-rise n) (λ x. stable x ∙ sym (whole x (nat_lt (line x) n) refl))
      where
        whole : (x : AgedEntry) (b : Bool) → nat_lt (line x) n ≡ b → filter (tie line x) (first_lines n) ≡ filter (tie line x) xs
        whole x true is = so-far n x (grind (arith, nat_tests))
        whole x false is =
            let above : n ≤ line x = grind (arith, nat_tests) in
            not-yet n x above ∙ sym (none-passes (tie line x) xs (each-map (λ y. line y < n) (λ y. tie line x y ≡ false) xs (λ y lt. apart x y (λ same. omega (arith, lt, same, above))) within))
