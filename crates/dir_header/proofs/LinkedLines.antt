-- The lines that may be called in: the set kept beside a home lists, by their numbers at the home, the lines that hold a link and aren't
-- pending, so its numbers in order are those lines in order. And a pending line holds a link where the count of such lines isn't 0.
use Rattle.std.proofs.Common.{◌≡◌, ℕ, zero, suc, ◌+◌, ◌-◌, ◌*◌, ◌<◌, ◌≤◌, Bool, true, false, cond, not, ◌&&◌, ◌||◌, ◌==◌, List, [], ◌∷◌, Option, Some, refl, sym, ap, ◌∙◌, arith, map}
use Rattle.std.specs.Prelude.{nat_lt, filter, slice_get, option_map}
use Rattle.std.specs.List.{range_with_len, find, count_by, list_any}
use Rattle.std.proofs.Math.Nat.{mul-le-mul}
use Rattle.std.proofs.lemmas.Bool.Decides.{nat_tests}
use Rattle.std.proofs.lemmas.Option.{slice_get-map}
use Rattle.std.proofs.lemmas.List.Sums.{sum_by-cons}
use Rattle.std.specs.FinMap as fin
use Rattle.line_map.specs.Sizes.{Sizes, home_of}
use Rattle.op_model.specs.Nodes.{listed, count, in_order}
use Rattle.op_model.specs.Operations.{Words}
use Rattle.op_model.specs.Lines.{Header, is_pending, is_idle}
use Rattle.op_model.specs.Run.Seeded.{lines_of}
use Rattle.dir_header.specs.Sharers.{Directory, Charge, Linked, Unlinked, is_linked, held_by}
use Rattle.dir_header.specs.Budgets.{BudgetView}
use Rattle.dir_header.specs.HomeSides.{HomeView, Fields, header_at, is_victim, room_in}
use Rattle.dir_header.specs.Standings.{HoldersView, standing_in, stands_victim, stands_pending}
use Rattle.dir_header.specs.declared.header.Standing.TheVariants.{Linkless, Victim, Pending}
use Rattle.dir_header.specs.HomeParts.{home_view, IsHomeSide}
use Rattle.dir_header.specs.WordSets.{numbered_from}
use Rattle.dir_header.proofs.Directories.{held-linked}
use Rattle.dir_header.proofs.Numbers.{in_order-range}
use Rattle.dir_header.proofs.Tables.{own_of, place_of_line}

find-first : (test : ℕ → Bool) (xs : List ℕ) → find test xs ≡ slice_get (filter test xs) 0
find-first test [] = refl
find-first test (x ∷ xs) = by_test (test x) (find-first test xs)
  where
    by_test : (b : Bool) → find test xs ≡ slice_get (filter test xs) 0 → cond b (Some x) (find test xs) ≡ slice_get (cond b (x ∷ filter test xs) (filter test xs)) 0
    by_test true ih = refl
    by_test false ih = ih

shifted : (test test' : ℕ → Bool) (first a n : ℕ) → ((m : ℕ) → a ≤ m → m < a + n → test (first + m) ≡ test' m) → filter test (range_with_len (first + a) n) ≡ map (λ m. first + m) (filter test' (range_with_len a n))
shifted test test' first a zero same = refl
shifted test test' first a (suc n) same =
    by_test (test (first + a)) (test' a) (same a (omega arith) (omega arith))
    (ap (λ k. filter test (range_with_len k n)) (let e : (first + a) + 1 ≡ first + (a + 1) = omega arith in e) ∙ shifted test test' first (a + 1) n (λ m from to. same m (omega arith) (omega arith)))
  where
    by_test : (b c : Bool) → b ≡ c → filter test (range_with_len ((first + a) + 1) n) ≡ map (λ m. first + m) (filter test' (range_with_len (a + 1) n)) →
        cond b ((first + a) ∷ filter test (range_with_len ((first + a) + 1) n)) (filter test (range_with_len ((first + a) + 1) n))
        ≡ map (λ m. first + m) (cond c (a ∷ filter test' (range_with_len (a + 1) n)) (filter test' (range_with_len (a + 1) n)))
    by_test true true e ih = ap (λ ys. (first + a) ∷ ys) ih
    by_test false false e ih = ih
    by_test true false e ih = cc
    by_test false true e ih = cc

idle_holder : (none idle : Bool) → (not none && not (not idle)) ≡ stands_victim (cond none Linkless (cond idle Victim Pending))
idle_holder true idle = refl
idle_holder false true = refl
idle_holder false false = refl

pending_holder : (some idle : Bool) → stands_pending (cond (not some) Linkless (cond idle Victim Pending)) ≡ (not idle && some)
pending_holder true true = refl
pending_holder true false = refl
pending_holder false true = refl
pending_holder false false = refl

-- whether a line holds a link and isn't pending
victim-test : (charge : Charge) (header : Header) → ((is_linked charge && not (count header.list == 0) && not (count header.list == 1)) && not (is_pending header)) ≡ stands_victim (standing_in charge header)
victim-test Linked header = by_count (count header.list) (held_by Linked header.list) (is_idle header.wait) (held-linked header.list)
  where
    by_count : (n h : ℕ) (b : Bool) → h ≡ n - 1 → ((true && not (n == 0) && not (n == 1)) && not (not b)) ≡ stands_victim (cond (h == 0) Linkless (cond b Victim Pending))
    by_count zero h true e = let t : (h == 0) ≡ true = grind (arith, nat_tests) in sym (ap (λ c. stands_victim (cond c Linkless Victim)) t)
    by_count zero h false e = let t : (h == 0) ≡ true = grind (arith, nat_tests) in sym (ap (λ c. stands_victim (cond c Linkless Pending)) t)
    by_count (suc n) h b e =
        let z : (suc n == 0) ≡ false = grind (arith, nat_tests) in
        let o : (suc n == 1) ≡ (h == 0) = grind (arith, nat_tests) in
        ap (λ t. (not t && not (suc n == 1)) && not (not b)) z ∙ ap (λ t. not t && not (not b)) o ∙ idle_holder (h == 0) b
victim-test Unlinked header = refl

holder-test : (charge : Charge) (header : Header) → stands_pending (standing_in charge header) ≡ (is_linked charge && (is_pending header && nat_lt 1 (count header.list)))
holder-test Linked header =
    let u : (held_by Linked header.list == 0) ≡ not (nat_lt 1 (count header.list)) = let e = held-linked header.list in one_or_none (held_by Linked header.list) (count header.list) e in
    ap (λ t. stands_pending (cond t Linkless (cond (is_idle header.wait) Victim Pending))) u ∙ pending_holder (nat_lt 1 (count header.list)) (is_idle header.wait)
  where
    one_or_none : (h n : ℕ) → h ≡ n - 1 → (h == 0) ≡ not (nat_lt 1 n)
    one_or_none h n e = grind (arith, nat_tests)
holder-test Unlinked header = refl

any-count : {X : Type 0} (test : X → Bool) (xs : List X) → nat_lt 0 (count_by test xs) ≡ list_any test xs
any-count test [] = refl
any-count test (x ∷ xs) = by_test (test x) refl (any-count test xs)
  where
    by_test : (b : Bool) → test x ≡ b → nat_lt 0 (count_by test xs) ≡ list_any test xs → nat_lt 0 (count_by test (x ∷ xs)) ≡ list_any test (x ∷ xs)
    by_test true e ih =
        let c = sum_by-cons (λ y. cond (test y) 1 0) x xs ∙ ap (λ b. cond b 1 0 + count_by test xs) e in
        let some : nat_lt 0 (count_by test (x ∷ xs)) ≡ true = grind (arith, nat_tests) in
        some ∙ sym (ap (λ b. b || list_any test xs) e)
    by_test false e ih =
        let c = sum_by-cons (λ y. cond (test y) 1 0) x xs ∙ ap (λ b. cond b 1 0 + count_by test xs) e in
        let same : count_by test (x ∷ xs) ≡ count_by test xs = omega arith in
        ap (nat_lt 0) same ∙ ih ∙ sym (ap (λ b. b || list_any test xs) e)

any-alike : {X : Type 0} (test test' : X → Bool) (b : Bool) (xs : List X) → ((x : X) → test x ≡ (b && test' x)) → list_any test xs ≡ (b && list_any test' xs)
any-alike test test' true [] same = refl
any-alike test test' false [] same = refl
any-alike test test' true (x ∷ xs) same = (λ i. same x i || any-alike test test' true xs same i)
any-alike test test' false (x ∷ xs) same = (λ i. same x i || any-alike test test' false xs same i)

module _ {D : Type 0} (dir : Directory) (sizes : Sizes) (node : ℕ) (headers : List Fields) (memory : List Words) (d : D) (budget : BudgetView) (holders : HoldersView)
    (is : IsHomeSide dir sizes node headers memory d budget holders) where
  abbrev view : HomeView D
  view = home_view dir sizes node headers memory d

  abbrev first : ℕ
  first = node * sizes.lines

  test-at : (m : ℕ) → m < sizes.lines → is_victim view (first + m) ≡ listed holders.victims m
  test-at m below =
      let own = own_of sizes node is.some_lines m below in
      ap (λ b. b && (is_linked dir.charge && not (count (header_at view (first + m)).list == 0) && not (count (header_at view (first + m)).list == 1)) && not (is_pending (header_at view (first + m)))) (own_test own)
      ∙ victim-test dir.charge (header_at view (first + m)) ∙ sym (is.counted.victims (first + m) own) ∙ ap (listed holders.victims) (place_of_line sizes node is.some_lines m below)
    where
      own_test : home_of sizes (first + m) ≡ node → (home_of sizes (first + m) == node) ≡ true
      own_test own = grind (arith, nat_tests)

  pub victims-are : numbered_from first holders.victims ≡ filter (is_victim view) (lines_of view.sizes view.node)
  victims-are = sym
      (ap (λ k. filter (is_victim view) (range_with_len k sizes.lines)) (let e : first ≡ first + 0 = omega arith in e)
      ∙ shifted (is_victim view) (listed holders.victims) first 0 sizes.lines (λ m from to. test-at m (omega arith))
      ∙ ap (map (λ m. first + m)) (sym (in_order-range holders.victims 0 sizes.lines (λ q there. omega arith) (λ q there. let b = is.counted.few q there in omega arith))))

  pub least-returns : (r : Option ℕ) → r ≡ slice_get (in_order holders.victims) 0 → option_map (λ m. first + m) r ≡ find (is_victim view) (lines_of view.sizes view.node)
  least-returns r e =
      ap (option_map (λ m. first + m)) e ∙ sym (slice_get-map (λ m. first + m) (in_order holders.victims) 0) ∙ ap (λ xs. slice_get xs 0) victims-are
      ∙ sym (find-first (is_victim view) (lines_of view.sizes view.node))

  pub first_fits : first ≤ 64 * 4096
  first_fits =
      let n = is.home.numbered in let most = is.most_nodes in
      let below : node ≤ 64 = omega arith in
      mul-le-mul below is.most_lines

  pub holds-returns : (r : ℕ) → r ≡ holders.pending → nat_lt 0 r ≡ (is_linked dir.charge && (room_in view).link_pending)
  holds-returns r e =
      ap (nat_lt 0) (e ∙ is.counted.pending) ∙ any-count (λ e. stands_pending (standing_in dir.charge e.1)) (fin.entries view.headers)
      ∙ any-alike (λ e. stands_pending (standing_in dir.charge e.1)) (λ e. is_pending e.1 && nat_lt 1 (count (e.1).list)) (is_linked dir.charge) (fin.entries view.headers) (λ e. holder-test dir.charge e.1)
