-- A word's set: which bits it has are the numbers that are listed, so that a bit set, cleared or found is a number put in, taken out or found.
use Rattle.std.proofs.Common.{◌≡◌, ◌≢◌, ℕ, zero, suc, ◌+◌, ◌/◌, ◌%◌, cond, [], add-one, ◌<◌, ◌≤◌, ◌^◌, ◌∷◌, Bool, true, false, ◌&&◌, ◌==◌, refl, sym, ap, ◌∙◌, arith, w64, drop, length, length-drop, get_or}
use Rattle.std.specs.Prelude.{nat_lt}
use Rattle.std.specs.Int.{bit_at, trailing_zeros}
use Rattle.std.specs.Int.Count.{ones}
use Rattle.std.proofs.Math.Nat.{mod-eq_of_lt, mod-lt, mod-one}
use Rattle.std.proofs.lemmas.Nat.{mod-pow-add, ones_cat, ones_le_self, pow_pos, zero_from_ones}
use Rattle.std.proofs.lemmas.Nat.Bits.{bit_at-zero, bit_at-trailing_zeros}
use Rattle.std.proofs.lemmas.Bool.Decides.{nat_tests}
use Rattle.op_model.specs.Nodes.{count-none, none, listed, enlist, unlist, listed-enlist, listed-unlist, same_nodes, count, in_order, count-in_order}
use Rattle.dir_header.specs.WordSets.{among, has_bit, members}
use Rattle.dir_header.proofs.Numbers.{count-among_more, listed-among, none_listed, in_order-none, in_order-least, rest-at}

pub listed-members : (word q : ℕ) → listed (members word) q ≡ (nat_lt q 64 && has_bit word q)
unfolding members
listed-members word q = listed-among (has_bit word) 64 q

pub members-put : (word word' i : ℕ) → i < 64 → bit_at word' i ≡ 1 → ((q : ℕ) → q < 64 → q ≢ i → bit_at word' q ≡ bit_at word q) → members word' ≡ enlist (members word) i
members-put word word' i below on kept = same_nodes _ _ (λ q. alike q (q == i) refl (nat_lt q 64) refl)
  where
    alike : (q : ℕ) (b : Bool) → (q == i) ≡ b → (c : Bool) → nat_lt q 64 ≡ c → listed (members word') q ≡ listed (enlist (members word) i) q
    alike q true e c is =
        let same : q ≡ i = grind (arith, nat_tests) in let bit : bit_at word' q ≡ 1 = ap (bit_at word') same ∙ on in
        let l = listed-members word' q in let r = listed-enlist (members word) i q in grind (arith, nat_tests)
    alike q false e true is =
        let other : q ≢ i = grind (arith, nat_tests) in let low : q < 64 = grind (arith, nat_tests) in let bit = kept q low other in
        let l = listed-members word' q in let m = listed-members word q in let r = listed-enlist (members word) i q in grind (arith, nat_tests)
    alike q false e false is =
        let l = listed-members word' q in let m = listed-members word q in let r = listed-enlist (members word) i q in grind (arith, nat_tests)

pub members-taken : (word word' i : ℕ) → i < 64 → bit_at word' i ≡ 0 → ((q : ℕ) → q < 64 → q ≢ i → bit_at word' q ≡ bit_at word q) → members word' ≡ unlist (members word) i
members-taken word word' i below off kept = same_nodes _ _ (λ q. alike q (q == i) refl (nat_lt q 64) refl)
  where
    alike : (q : ℕ) (b : Bool) → (q == i) ≡ b → (c : Bool) → nat_lt q 64 ≡ c → listed (members word') q ≡ listed (unlist (members word) i) q
    alike q true e c is =
        let same : q ≡ i = grind (arith, nat_tests) in let bit : bit_at word' q ≡ 0 = ap (bit_at word') same ∙ off in
        let l = listed-members word' q in let r = listed-unlist (members word) i q in grind (arith, nat_tests)
    alike q false e true is =
        let other : q ≢ i = grind (arith, nat_tests) in let low : q < 64 = grind (arith, nat_tests) in let bit = kept q low other in
        let l = listed-members word' q in let m = listed-members word q in let r = listed-unlist (members word) i q in grind (arith, nat_tests)
    alike q false e false is =
        let l = listed-members word' q in let m = listed-members word q in let r = listed-unlist (members word) i q in grind (arith, nat_tests)

-- the lowest bit of a word is the least number of its set
pub least-listed : (word : ℕ) → 0 < word → word < 2 ^ 64 → listed (members word) (trailing_zeros w64 word) ≡ true
least-listed word some fits =
    let low = bit_at-trailing_zeros w64 word some fits in
    let l = listed-members word (trailing_zeros w64 word) in
    found (trailing_zeros w64 word) low.0 low.1 l
  where
    found : (k : ℕ) → k < 64 → bit_at word k ≡ 1 → listed (members word) k ≡ (nat_lt k 64 && has_bit word k) → listed (members word) k ≡ true
    found k below bit l = grind (arith, nat_tests)

pub least-least : (word q : ℕ) → 0 < word → word < 2 ^ 64 → listed (members word) q ≡ true → trailing_zeros w64 word ≤ q
least-least word q some fits there =
    let low = bit_at-trailing_zeros w64 word some fits in
    before (trailing_zeros w64 word) (λ h. low.2 q h) (listed-members word q)
  where
    before : (k : ℕ) → (q < k → bit_at word q ≡ 0) → listed (members word) q ≡ (nat_lt q 64 && has_bit word q) → k ≤ q
    before k off l = grind (arith, nat_tests)

-- a word whose set isn't empty isn't 0
pub some-bit : (word k : ℕ) → listed (members word) k ≡ true → 0 < word
some-bit word k there = by_word (word == 0) refl
  where
    by_word : (b : Bool) → (word == 0) ≡ b → 0 < word
    by_word true e =
        let none : word ≡ 0 = grind (arith, nat_tests) in
        let off : bit_at word k ≡ 0 = ap (λ w. bit_at w k) none ∙ bit_at-zero k in
        let l = listed-members word k in absurd (grind (arith, nat_tests))
    by_word false e = grind (arith, nat_tests)

-- the numbers of a word's set, one after another: what is left after the first c of them, and then after one more
module _ (word rest c : ℕ) (within : c < count (members word)) (left : drop c (in_order (members word)) ≡ in_order (members rest)) where
  some_left : 0 < length (in_order (members rest))
  some_left = let n = count-in_order (members word) in let d = length-drop {A = ℕ} c (in_order (members word)) in let e = ap length left in omega arith

  pub rest_some : 0 < rest
  rest_some = by_word (rest == 0) refl
    where
      none_in : rest ≡ 0 → (q : ℕ) → listed (members rest) q ≡ false
      none_in e q = let off : bit_at rest q ≡ 0 = ap (λ w. bit_at w q) e ∙ bit_at-zero q in let l = listed-members rest q in grind (arith, nat_tests)

      by_word : (b : Bool) → (rest == 0) ≡ b → 0 < rest
      by_word true e =
          let zero : rest ≡ 0 = grind (arith, nat_tests) in
          let empty = ap in_order (none_listed (members rest) (none_in zero)) ∙ in_order-none in
          let s = some_left in let l = ap length empty in absurd (omega arith)
      by_word false e = grind (arith, nat_tests)

  module _ (k : ℕ) (in_set : listed (members rest) k ≡ true) (least : (q : ℕ) → listed (members rest) q ≡ true → k ≤ q) where
    rest_is : drop c (in_order (members word)) ≡ k ∷ in_order (unlist (members rest) k)
    rest_is = left ∙ in_order-least (members rest) k in_set least

    pub here_is : get_or (in_order (members word)) c 0 ≡ k
    here_is = let n = count-in_order (members word) in (rest-at (in_order (members word)) c k (in_order (unlist (members rest) k)) (omega arith) rest_is).0

    pub next_left : (rest' : ℕ) → members rest' ≡ unlist (members rest) k → drop (c + 1) (in_order (members word)) ≡ in_order (members rest')
    next_left rest' e =
        let n = count-in_order (members word) in
        (rest-at (in_order (members word)) c k (in_order (unlist (members rest) k)) (omega arith) rest_is).1 ∙ ap in_order (sym e)

pub members-zero : members 0 ≡ none
members-zero = none_listed (members 0) (λ q. let off = bit_at-zero q in let l = listed-members 0 q in grind (arith, nat_tests))

-- the nodes that are left: none in an empty word, else its least one and those of the rest
pub none-left : (word : ℕ) → word ≡ 0 → in_order (members word) ≡ []
none-left word e = ap (λ n. in_order (members n)) e ∙ ap in_order members-zero ∙ in_order-none

pub least-left : (word k rest : ℕ) → listed (members word) k ≡ true → ((q : ℕ) → listed (members word) q ≡ true → k ≤ q) → members rest ≡ unlist (members word) k → in_order (members word) ≡ k ∷ in_order (members rest)
least-left word k rest there least gone = in_order-least (members word) k there least ∙ ap (λ s. k ∷ in_order s) (sym gone)

-- as many bits are set as there are members
ones-zero : ones 0 ≡ 0
ones-zero = let l = ones_le_self 0 in omega (arith, l)

ones-one : ones 1 ≡ 1
ones-one = by (ones 1) (ones_le_self 1) (zero_from_ones 1)
  where
    by : (k : ℕ) → k ≤ 1 → (k ≡ 0 → suc zero ≡ 0) → k ≡ 1
    by zero most never = absurd (let e = never refl in omega (arith, e))
    by (suc zero) most never = refl
    by (suc (suc k)) most never = absurd (omega arith)

one-bit : (word n : ℕ) → ones (word / 2 ^ n % 2 ^ 1) ≡ cond (has_bit word n) 1 0
one-bit word n = by (bit_at word n) (mod-lt (word / 2 ^ n) (omega arith))
  where
    by : (b : ℕ) → b < 2 → ones b ≡ cond (b == 1) 1 0
    by zero below = ones-zero
    by (suc zero) below = ones-one
    by (suc (suc b)) below = absurd (omega arith)

ones-below : (word n : ℕ) → ones (word % 2 ^ n) ≡ count (among (has_bit word) n)
unfolding among
ones-below word zero = ap ones (mod-one word) ∙ ones-zero ∙ sym count-none
ones-below word (suc n) =
    ap (λ k. ones (word % 2 ^ k)) (let e : suc n ≡ 1 + n = omega arith in e)
    ∙ ap ones (mod-pow-add word 1 n)
    ∙ ones_cat n (word / 2 ^ n % 2 ^ 1) (word % 2 ^ n) (mod-lt word (pow_pos n))
    ∙ (λ i. one-bit word n i + ones-below word n i)
    ∙ plus (has_bit word n) (count (among (has_bit word) n))
    ∙ sym (count-among_more (has_bit word) n) ∙ ap (λ k. count (among (has_bit word) k)) (add-one n)
  where
    plus : (b : Bool) (k : ℕ) → cond b 1 0 + k ≡ cond b (k + 1) k
    plus true k = omega arith
    plus false k = omega arith

pub ones-count : (word : ℕ) → word < 2 ^ 64 → ones word ≡ count (members word)
unfolding members
ones-count word fits = ap ones (sym (mod-eq_of_lt fits)) ∙ ones-below word 64
