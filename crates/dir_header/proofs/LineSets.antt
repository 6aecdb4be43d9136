-- A set of lines as bits of words: a line stands in the word of its number's quotient by 64, at the bit of the remainder. So a word
-- whose set gains or loses a number makes the set of lines gain or lose a line, and the least line is the least bit of the least word
-- that isn't 0.
use Rattle.std.proofs.Common.{◌≡◌, ◌≢◌, ℕ, zero, suc, ◌+◌, ◌*◌, ◌/◌, ◌%◌, ◌<◌, ◌≤◌, ◌^◌, Bool, true, false, not, ◌&&◌, ◌||◌, ◌==◌, List, [], ◌∷◌, length, replicate, refl, sym, ap, ◌∙◌, arith, get_or, set, w64}
use Rattle.std.specs.Prelude.{nat_lt}
use Rattle.std.proofs.lemmas.Bool.Decides.{nat_tests}
use Rattle.std.specs.Int.{trailing_zeros}
use Rattle.std.proofs.lemmas.List.{get_or-set_same, get_or-set_other, length-set}
use Rattle.op_model.specs.Nodes.{none, listed, enlist, unlist, in_order, listed-none, listed-enlist, listed-unlist, same_nodes}
use Rattle.dir_header.specs.WordSets.{members, lines_of, AreMarked}
use Rattle.dir_header.proofs.Numbers.{listed-among, none_listed, in_order-none, in_order-least}
use Rattle.dir_header.proofs.Bits.{members-zero, some-bit, least-listed}

pub listed-lines : (words : List ℕ) (q : ℕ) → listed (lines_of words) q ≡ (nat_lt q 4096 && listed (members (get_or words (q / 64) 0)) (q % 64))
unfolding lines_of
listed-lines words q = listed-among (λ q. listed (members (get_or words (q / 64) 0)) (q % 64)) 4096 q

-- two lines of one word are told apart by their bits
same_bit : (q m : ℕ) → q / 64 ≡ m / 64 → (q == m) ≡ (q % 64 == m % 64)
same_bit q m e = by_bit (q % 64 == m % 64) refl
  where
    by_bit : (b : Bool) → (q % 64 == m % 64) ≡ b → (q == m) ≡ b
    by_bit true t = let same : q % 64 ≡ m % 64 = grind (arith, nat_tests) in let all : q ≡ m = omega arith in grind (arith, nat_tests)
    by_bit false t = let other : q ≢ m = λ s. let r = ap (λ n. n % 64) s in absurd (grind (arith, nat_tests)) in grind (arith, nat_tests)

other_word : (q m : ℕ) → (q / 64 == m / 64) ≡ false → (q == m) ≡ false
other_word q m t = let other : q ≢ m = λ s. let r = ap (λ n. n / 64) s in absurd (grind (arith, nat_tests)) in grind (arith, nat_tests)

module _ (words : List ℕ) (m word : ℕ) (below : m < 4096) (count : length words ≡ 64) where
  abbrev old : ℕ
  old = get_or words (m / 64) 0

  abbrev words' : List ℕ
  words' = set words (m / 64) word

  here : (q : ℕ) → (q / 64 == m / 64) ≡ true → get_or words' (q / 64) 0 ≡ word
  here q t = let same : q / 64 ≡ m / 64 = grind (arith, nat_tests) in ap (λ p. get_or words' p 0) same ∙ get_or-set_same words (m / 64) word 0 (omega arith)

  there : (place : ℕ) → (place == m / 64) ≡ false → get_or words' place 0 ≡ get_or words place 0
  there place t = let other : place ≢ m / 64 = grind (arith, nat_tests) in get_or-set_other words (m / 64) place word 0 other

  was : (q : ℕ) → (q / 64 == m / 64) ≡ true → get_or words (q / 64) 0 ≡ old
  was q t = let same : q / 64 ≡ m / 64 = grind (arith, nat_tests) in ap (λ p. get_or words p 0) same

  low : (q : ℕ) → (q == m) ≡ true → nat_lt q 4096 ≡ true
  low q t = let same : q ≡ m = grind (arith, nat_tests) in grind (arith, nat_tests)

  pub lines-put : members word ≡ enlist (members old) (m % 64) → lines_of words' ≡ enlist (lines_of words) m
  lines-put e = same_nodes _ _ (λ q. alike q (q / 64 == m / 64) refl)
    where
      alike : (q : ℕ) (b : Bool) → (q / 64 == m / 64) ≡ b → listed (lines_of words') q ≡ listed (enlist (lines_of words) m) q
      alike q true t =
          let same : q / 64 ≡ m / 64 = grind (arith, nat_tests) in
          let new = listed-lines words' q ∙ ap (λ w. nat_lt q 4096 && listed (members w) (q % 64)) (here q t) ∙ ap (λ s. nat_lt q 4096 && listed s (q % 64)) e ∙ ap (λ b. nat_lt q 4096 && b) (listed-enlist (members old) (m % 64) (q % 64)) in
          let before = listed-lines words q ∙ ap (λ w. nat_lt q 4096 && listed (members w) (q % 64)) (was q t) in
          let bit = same_bit q m same in
          new ∙ joined (nat_lt q 4096) (q == m) (q % 64 == m % 64) (listed (members old) (q % 64)) (listed (lines_of words) q) bit (low q) before ∙ sym (listed-enlist (lines_of words) m q)
        where
          joined : (n a b c d : Bool) → a ≡ b → (a ≡ true → n ≡ true) → d ≡ (n && c) → (n && (b || c)) ≡ (a || d)
          joined n true b c d e l f = grind (arith, nat_tests)
          joined n false b c d e l f = grind (arith, nat_tests)
      alike q false t =
          listed-lines words' q ∙ ap (λ w. nat_lt q 4096 && listed (members w) (q % 64)) (there (q / 64) t) ∙ sym (listed-lines words q)
          ∙ sym (listed-enlist (lines_of words) m q ∙ ap (λ b. b || listed (lines_of words) q) (other_word q m t))

  pub lines-taken : members word ≡ unlist (members old) (m % 64) → lines_of words' ≡ unlist (lines_of words) m
  lines-taken e = same_nodes _ _ (λ q. alike q (q / 64 == m / 64) refl)
    where
      alike : (q : ℕ) (b : Bool) → (q / 64 == m / 64) ≡ b → listed (lines_of words') q ≡ listed (unlist (lines_of words) m) q
      alike q true t =
          let same : q / 64 ≡ m / 64 = grind (arith, nat_tests) in
          let new = listed-lines words' q ∙ ap (λ w. nat_lt q 4096 && listed (members w) (q % 64)) (here q t) ∙ ap (λ s. nat_lt q 4096 && listed s (q % 64)) e ∙ ap (λ b. nat_lt q 4096 && b) (listed-unlist (members old) (m % 64) (q % 64)) in
          let before = listed-lines words q ∙ ap (λ w. nat_lt q 4096 && listed (members w) (q % 64)) (was q t) in
          let bit = same_bit q m same in
          new ∙ joined (nat_lt q 4096) (q == m) (q % 64 == m % 64) (listed (members old) (q % 64)) (listed (lines_of words) q) bit before ∙ sym (listed-unlist (lines_of words) m q)
        where
          joined : (n a b c d : Bool) → a ≡ b → d ≡ (n && c) → (n && (not b && c)) ≡ (not a && d)
          joined n true b c d e f = grind (arith, nat_tests)
          joined n false b c d e f = grind (arith, nat_tests)
      alike q false t =
          listed-lines words' q ∙ ap (λ w. nat_lt q 4096 && listed (members w) (q % 64)) (there (q / 64) t) ∙ sym (listed-lines words q)
          ∙ sym (listed-unlist (lines_of words) m q ∙ ap (λ b. not b && listed (lines_of words) q) (other_word q m t))

  module _ (some : ℕ) (are : AreMarked words some) where
    pub place_below : m / 64 < 64
    place_below = omega arith

    -- the marks after a change of one word
    marked-by : (some' : ℕ) → listed (members some') (m / 64) ≡ not (word == 0) → ((place : ℕ) → (place == m / 64) ≡ false → listed (members some') place ≡ listed (members some) place) → AreMarked words' some'
    marked-by some' own others = record {
      count = length-set words (m / 64) word ∙ count;
      marked = λ place within. at place within (place == m / 64) refl;
    }
      where
        at : (place : ℕ) → place < 64 → (b : Bool) → (place == m / 64) ≡ b → listed (members some') place ≡ not (get_or words' place 0 == 0)
        at place within true t =
            let same : place ≡ m / 64 = grind (arith, nat_tests) in
            ap (listed (members some')) same ∙ own ∙ ap (λ w. not (w == 0)) (sym (ap (λ p. get_or words' p 0) same ∙ get_or-set_same words (m / 64) word 0 (omega arith)))
        at place within false t = others place t ∙ are.marked place within ∙ ap (λ w. not (w == 0)) (sym (there place t))

    pub marked-put : (some' : ℕ) → members word ≡ enlist (members old) (m % 64) → members some' ≡ enlist (members some) (m / 64) → AreMarked words' some'
    marked-put some' put e = marked-by some'
        (ap (λ s. listed s (m / 64)) e ∙ listed-enlist (members some) (m / 64) (m / 64) ∙ (let w = positive in let l : (m / 64 == m / 64) ≡ true = grind (arith, nat_tests) in grind (arith, nat_tests)))
        (λ place t. ap (λ s. listed s place) e ∙ listed-enlist (members some) (m / 64) place ∙ ap (λ b. b || listed (members some) place) t)
      where
        positive : 0 < word
        positive = some-bit word (m % 64) (ap (λ s. listed s (m % 64)) put ∙ listed-enlist (members old) (m % 64) (m % 64) ∙ (let l : (m % 64 == m % 64) ≡ true = grind (arith, nat_tests) in grind (arith, nat_tests)))

    pub marked-taken : (some' : ℕ) → word ≡ 0 → members some' ≡ unlist (members some) (m / 64) → AreMarked words' some'
    marked-taken some' empty e = marked-by some'
        (ap (λ s. listed s (m / 64)) e ∙ listed-unlist (members some) (m / 64) (m / 64) ∙ (let l : (m / 64 == m / 64) ≡ true = grind (arith, nat_tests) in grind (arith, nat_tests)))
        (λ place t. ap (λ s. listed s place) e ∙ listed-unlist (members some) (m / 64) place ∙ ap (λ b. not b && listed (members some) place) t)

    -- what is left in a word was in it before
    pub marked-left : word < 2 ^ 64 → word ≢ 0 → members word ≡ unlist (members old) (m % 64) → AreMarked words' some
    marked-left fits left e = marked-by some
        (are.marked (m / 64) place_below ∙ (let a = had in let b = positive in grind (arith, nat_tests)))
        (λ place t. refl)
      where
        positive : 0 < word
        positive = omega (arith, left)

        kept_bit : (k : ℕ) → listed (members word) k ≡ true → listed (members old) k ≡ true
        kept_bit k t = let l = ap (λ s. listed s k) e ∙ listed-unlist (members old) (m % 64) k in grind (arith, nat_tests)

        had : 0 < old
        had = some-bit old (trailing_zeros w64 word) (kept_bit (trailing_zeros w64 word) (least-listed word positive fits))

-- the least line
module _ (words : List ℕ) (some : ℕ) (are : AreMarked words some) where
  pub none_marked : some ≡ 0 → in_order (lines_of words) ≡ []
  none_marked e = ap in_order (none_listed (lines_of words) (λ q. off q (nat_lt q 4096) refl)) ∙ in_order-none
    where
      off : (q : ℕ) (b : Bool) → nat_lt q 4096 ≡ b → listed (lines_of words) q ≡ false
      off q true t =
          let below : q / 64 < 64 = grind (arith, nat_tests) in
          let unmarked = sym (are.marked (q / 64) below) ∙ ap (λ s. listed (members s) (q / 64)) e ∙ ap (λ s. listed s (q / 64)) members-zero ∙ listed-none (q / 64) in
          let empty : get_or words (q / 64) 0 ≡ 0 = grind (arith, nat_tests) in
          listed-lines words q ∙ ap (λ w. nat_lt q 4096 && listed (members w) (q % 64)) empty ∙ ap (λ s. nat_lt q 4096 && listed s (q % 64)) members-zero
          ∙ (let l = listed-none (q % 64) in grind (arith, nat_tests))
      off q false t = let l = listed-lines words q in grind (arith, nat_tests)

  module _ (place bit : ℕ) (low_place : place < 64) (marked : listed (members some) place ≡ true) (first_place : (p : ℕ) → listed (members some) p ≡ true → place ≤ p)
      (low_bit : bit < 64) (in_word : listed (members (get_or words place 0)) bit ≡ true) (first_bit : (b : ℕ) → listed (members (get_or words place 0)) b ≡ true → bit ≤ b) where
    abbrev line : ℕ
    line = 64 * place + bit

    in_set : listed (lines_of words) line ≡ true
    in_set =
        let quotient : line / 64 ≡ place = omega arith in
        let remainder : line % 64 ≡ bit = omega arith in
        let below : nat_lt line 4096 ≡ true = grind (arith, nat_tests) in
        listed-lines words line ∙ ap (λ b. b && listed (members (get_or words (line / 64) 0)) (line % 64)) below
        ∙ ap (λ p. listed (members (get_or words p 0)) (line % 64)) quotient ∙ ap (listed (members (get_or words place 0))) remainder ∙ in_word

    least_line : (q : ℕ) → listed (lines_of words) q ≡ true → line ≤ q
    least_line q there = by_place (q / 64 == place) refl
      where
        within : nat_lt q 4096 ≡ true
        within = let l = listed-lines words q in grind (arith, nat_tests)

        has_bit : listed (members (get_or words (q / 64) 0)) (q % 64) ≡ true
        has_bit = let l = listed-lines words q in grind (arith, nat_tests)

        after : place ≤ q / 64
        after =
            let some = some-bit (get_or words (q / 64) 0) (q % 64) has_bit in
            let w = within in
            let low : q / 64 < 64 = grind (arith, nat_tests) in
            first_place (q / 64) (are.marked (q / 64) low ∙ (let s = some in grind (arith, nat_tests)))

        by_place : (b : Bool) → (q / 64 == place) ≡ b → line ≤ q
        by_place true t =
            let same : q / 64 ≡ place = grind (arith, nat_tests) in
            let le = first_bit (q % 64) (ap (λ p. listed (members (get_or words p 0)) (q % 64)) (sym same) ∙ has_bit) in omega arith
        by_place false t = let a = after in let other : q / 64 ≢ place = grind (arith, nat_tests) in omega arith

    pub first_line : in_order (lines_of words) ≡ line ∷ in_order (unlist (lines_of words) line)
    first_line = in_order-least (lines_of words) line in_set least_line

zero-at : (n k : ℕ) → get_or {A = ℕ} (replicate n 0) k 0 ≡ zero
zero-at zero k = refl
zero-at (suc n) zero = refl
zero-at (suc n) (suc k) = zero-at n k

pub empty_marked : (words : List ℕ) → words ≡ replicate 64 0 → AreMarked words 0
empty_marked words e = record {
  count = ap length e;
  marked = λ place below. ap (λ s. listed s place) members-zero ∙ listed-none place ∙ (let z = ap (λ ws. get_or ws place 0) e ∙ zero-at 64 place in grind (arith, nat_tests));
}

pub empty_lines : (words : List ℕ) → words ≡ replicate 64 0 → lines_of words ≡ none
empty_lines words e = none_listed (lines_of words) (λ q.
    listed-lines words q ∙ ap (λ w. nat_lt q 4096 && listed (members w) (q % 64)) (ap (λ ws. get_or ws (q / 64) 0) e ∙ zero-at 64 (q / 64))
    ∙ ap (λ s. nat_lt q 4096 && listed s (q % 64)) members-zero ∙ (let l = listed-none (q % 64) in grind (arith, nat_tests)))
