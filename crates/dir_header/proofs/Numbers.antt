-- Finite sets of numbers: the numbers below a bound that pass a test, and the order in which a set's numbers stand. Two sets are equal
-- where the same numbers are listed in them. The least number of a set stands first, before those of the set without it.
use Rattle.std.proofs.Common.{◌≡◌, ℕ, zero, suc, ◌+◌, ◌<◌, ◌≤◌, Bool, true, false, cond, not, ◌&&◌, ◌==◌, List, [], ◌∷◌, length, Option, Some, None, refl, sym, ap, ◌∙◌, arith, drop, drop-cons, length-drop, get_or, add-one, true≢false}
use Rattle.std.specs.Prelude.{nat_lt, filter, slice_get, MatchOption}
use Rattle.std.proofs.lemmas.Option.{slice_get-get_or, slice_get_past}
use Rattle.std.specs.List.{range_with_len}
use Rattle.std.proofs.lemmas.Bool.Decides.{nat_tests}
use Rattle.std.proofs.lemmas.List.{nil_from_length}
use Rattle.op_model.specs.Nodes.{Nodes, listed, enlist, unlist, none, count, in_order, listed-none, listed-enlist, listed-unlist, count-none, count-enlist, same_nodes, count-in_order, in_order-front}
use Rattle.dir_header.specs.WordSets.{among}

among_more : (test : ℕ → Bool) (s : Nodes) (n q : ℕ) → listed s q ≡ (nat_lt q n && test q) → (b : Bool) → test n ≡ b → (c : Bool) → (q == n) ≡ c → listed (cond b (enlist s n) s) q ≡ (nat_lt q (suc n) && test q)
among_more test s n q ih true e true is = let same : q ≡ n = grind (arith, nat_tests) in let t : test q ≡ true = ap test same ∙ e in let l = listed-enlist s n q in grind (arith, nat_tests)
among_more test s n q ih true e false is = let l = listed-enlist s n q in grind (arith, nat_tests)
among_more test s n q ih false e true is = let same : q ≡ n = grind (arith, nat_tests) in let t : test q ≡ false = ap test same ∙ e in grind (arith, nat_tests)
among_more test s n q ih false e false is = grind (arith, nat_tests)

pub listed-among : (test : ℕ → Bool) (n q : ℕ) → listed (among test n) q ≡ (nat_lt q n && test q)
unfolding among
listed-among test zero q = let e = listed-none q in grind (arith, nat_tests)
listed-among test (suc n) q = among_more test (among test n) n q (listed-among test n q) (test n) refl (q == n) refl

pub count-among : (test : ℕ → Bool) (n : ℕ) → count (among test n) ≤ n
unfolding among
count-among test zero = let e = count-none in omega arith
count-among test (suc n) = more (test n) (count-among test n) (count-enlist (among test n) n)
  where
    more : (b : Bool) → count (among test n) ≤ n → count (enlist (among test n) n) ≡ cond (listed (among test n) n) (count (among test n)) (count (among test n) + 1) → count (cond b (enlist (among test n) n) (among test n)) ≤ suc n
    more true ih c = grind (arith, nat_tests)
    more false ih c = omega arith

-- one more number is counted where it passes the test
pub count-among_more : (test : ℕ → Bool) (n : ℕ) → count (among test (n + 1)) ≡ cond (test n) (count (among test n) + 1) (count (among test n))
unfolding among
count-among_more test n = rw (add-one n) (more (test n))
  where
    absent : listed (among test n) n ≡ false
    absent = let l = listed-among test n n in grind (arith, nat_tests)

    more : (b : Bool) → count (cond b (enlist (among test n) n) (among test n)) ≡ cond b (count (among test n) + 1) (count (among test n))
    more true = count-enlist (among test n) n ∙ ap (λ b. cond b (count (among test n)) (count (among test n) + 1)) absent
    more false = refl

pub none_listed : (s : Nodes) → ((q : ℕ) → listed s q ≡ false) → s ≡ none
none_listed s off = same_nodes s none (λ q. off q ∙ sym (listed-none q))

pub in_order-none : in_order none ≡ []
in_order-none = nil_from_length (in_order none) (sym (count-in_order none) ∙ count-none)

-- the least number of a set stands first, before the others
pub in_order-least : (s : Nodes) (k : ℕ) → listed s k ≡ true → ((q : ℕ) → listed s q ≡ true → k ≤ q) → in_order s ≡ k ∷ in_order (unlist s k)
in_order-least s k in_set least =
    ap in_order (same_nodes s (enlist (unlist s k) k) (λ q. back q (q == k) refl)) ∙ in_order-front (unlist s k) k (λ q h. above q h (listed-unlist s k q))
  where
    back : (q : ℕ) (b : Bool) → (q == k) ≡ b → listed s q ≡ listed (enlist (unlist s k) k) q
    back q true e = let same : q ≡ k = grind (arith, nat_tests) in let t = ap (listed s) same in let l = listed-enlist (unlist s k) k q in grind (arith, nat_tests)
    back q false e = let l = listed-enlist (unlist s k) k q in let u = listed-unlist s k q in grind (arith, nat_tests)

    above : (q : ℕ) → listed (unlist s k) q ≡ true → listed (unlist s k) q ≡ (not (q == k) && listed s q) → k < q
    above q h u = let there : listed s q ≡ true = grind (arith, nat_tests) in let le = least q there in grind (arith, nat_tests)

pub filter-alike : (p r : ℕ → Bool) (a n : ℕ) → ((q : ℕ) → a ≤ q → q < a + n → p q ≡ r q) → filter p (range_with_len a n) ≡ filter r (range_with_len a n)
filter-alike p r a zero same = refl
filter-alike p r a (suc n) same =
    let e : p a ≡ r a = same a (omega arith) (omega arith) in
    let ih = filter-alike p r (a + 1) n (λ q above below. same q (omega arith) (omega arith)) in
    (λ i. cond (e i) (a ∷ ih i) (ih i))

-- a set of numbers from a on stands in order as those of the range that are listed
pub in_order-range : (s : Nodes) (a n : ℕ) → ((q : ℕ) → listed s q ≡ true → a ≤ q) → ((q : ℕ) → listed s q ≡ true → q < a + n) → in_order s ≡ filter (listed s) (range_with_len a n)
in_order-range s a zero above below = ap in_order (none_listed s (λ q. off q (listed s q) refl)) ∙ in_order-none
  where
    off : (q : ℕ) (b : Bool) → listed s q ≡ b → listed s q ≡ false
    off q true e = let up = above q e in let down = below q e in absurd (omega arith)
    off q false e = e
in_order-range s a (suc n) above below = by_first (listed s a) refl (in_order-range (unlist s a) (a + 1) n (λ q h. later q h (listed-unlist s a q)) (λ q h. lower q h (listed-unlist s a q)))
    (λ off. in_order-range s (a + 1) n (λ q h. past q h off (q == a) refl) (λ q h. let b = below q h in omega arith))
  where
    later : (q : ℕ) → listed (unlist s a) q ≡ true → listed (unlist s a) q ≡ (not (q == a) && listed s q) → a + 1 ≤ q
    later q h u = let there : listed s q ≡ true = grind (arith, nat_tests) in let le = above q there in grind (arith, nat_tests)

    lower : (q : ℕ) → listed (unlist s a) q ≡ true → listed (unlist s a) q ≡ (not (q == a) && listed s q) → q < (a + 1) + n
    lower q h u = let there : listed s q ≡ true = grind (arith, nat_tests) in let lt = below q there in omega arith

    past : (q : ℕ) → listed s q ≡ true → listed s a ≡ false → (b : Bool) → (q == a) ≡ b → a + 1 ≤ q
    past q h off true e = let same : q ≡ a = grind (arith, nat_tests) in absurd (true≢false (sym h ∙ ap (listed s) same ∙ off))
    past q h off false e = let le = above q h in grind (arith, nat_tests)

    same_rest : (q : ℕ) → a + 1 ≤ q → q < (a + 1) + n → listed (unlist s a) q ≡ listed s q
    same_rest q up down = let u = listed-unlist s a q in grind (arith, nat_tests)

    by_first : (b : Bool) → listed s a ≡ b → in_order (unlist s a) ≡ filter (listed (unlist s a)) (range_with_len (a + 1) n) →
        (listed s a ≡ false → in_order s ≡ filter (listed s) (range_with_len (a + 1) n)) → in_order s ≡ cond (listed s a) (a ∷ filter (listed s) (range_with_len (a + 1) n)) (filter (listed s) (range_with_len (a + 1) n))
    by_first true e rest whole =
        in_order-least s a e above ∙ ap (λ xs. a ∷ xs) (rest ∙ filter-alike (listed (unlist s a)) (listed s) (a + 1) n same_rest)
        ∙ ap (λ b. cond b (a ∷ filter (listed s) (range_with_len (a + 1) n)) (filter (listed s) (range_with_len (a + 1) n))) (sym e)
    by_first false e rest whole = whole e ∙ ap (λ b. cond b (a ∷ filter (listed s) (range_with_len (a + 1) n)) (filter (listed s) (range_with_len (a + 1) n))) (sym e)

-- where a list goes on, at a place within it
pub rest-at : (xs : List ℕ) (c k : ℕ) (ys : List ℕ) → c < length xs → drop c xs ≡ k ∷ ys → (get_or xs c 0 ≡ k) × (drop (c + 1) xs ≡ ys)
rest-at xs c k ys within e =
    let here : get_or xs c 0 ∷ drop (suc c) xs ≡ k ∷ ys = sym (drop-cons xs c 0 within) ∙ e in
    (cc, ap (λ n. drop n xs) (add-one c) ∙ cc)

-- the element at a place, from what a list is from there on
pub element-at : (xs : List ℕ) (c : ℕ) (rest ys : List ℕ) (k : ℕ) → drop c xs ≡ rest → rest ≡ k ∷ ys → (slice_get xs c ≡ Some k) × (drop (c + 1) xs ≡ ys)
element-at xs c rest ys k left is =
    let e : drop c xs ≡ k ∷ ys = left ∙ is in
    let within : c < length xs = let d = length-drop {A = ℕ} c xs in let l = ap length e in omega arith in
    let both = rest-at xs c k ys within e in
    (slice_get-get_or xs c 0 within ∙ ap (λ n. Some n) both.0, both.1)

pub past-end : (xs : List ℕ) (c i : ℕ) (rest : List ℕ) → drop c xs ≡ rest → rest ≡ [] → c ≤ i → None ≡ slice_get xs i
past-end xs c i rest left is le = sym (slice_get_past xs i (let d = length-drop {A = ℕ} c xs in let l = ap length (left ∙ is) in omega arith))

pub first-at : (xs : List ℕ) (c : ℕ) (rest : List ℕ) (others : ℕ → List ℕ) (r : Option ℕ) → drop c xs ≡ rest → MatchOption r (rest ≡ []) (λ k. rest ≡ k ∷ others k) → r ≡ slice_get xs c
first-at xs c rest others None left is = past-end xs c c rest left is (omega arith)
first-at xs c rest others (Some k) left is = sym (element-at xs c rest (others k) k left is).0
