-- How many operations are left: no more where no place is below an earlier one, and one less where one node has gone on by one.
use Rattle.std.proofs.Common.{◌≡◌, ◌≢◌, ℕ, zero, suc, ◌+◌, ◌-◌, ◌<◌, ◌≤◌, Bool, true, false, ◌==◌, List, [], ◌∷◌, length, slice_get, refl, arith, ap, Some}
use Rattle.std.specs.List.{range_with_len, sum_by}
use Rattle.std.proofs.lemmas.Bool.Decides.{nat_tests}
use Rattle.std.proofs.lemmas.List.Sums.{sum_by-cons}
use Rattle.std.proofs.lemmas.Option.{slice_get_within}
use Rattle.line_map.specs.Sizes.{Sizes}
use Rattle.op_model.specs.declared.operations.Op.{Op}
use Rattle.op_model.specs.Events.Step.{Programs}
use Rattle.op_model.specs.Run.Schedules.{all_nodes}
use Rattle.op_model.specs.Shares.{State}
use Rattle.schedule_laws.specs.Courses.{left_at, left_count}

sum-less : (f g : ℕ → ℕ) (xs : List ℕ) → ((n : ℕ) → g n ≤ f n) → sum_by g xs ≤ sum_by f xs
sum-less f g [] less = omega arith
sum-less f g (x ∷ xs) less =
    let later = sum-less f g xs less in
    let here = less x in
    let a = sum_by-cons f x xs in
    let b = sum_by-cons g x xs in
    omega arith

sum-same : (f g : ℕ → ℕ) (a k n : ℕ) → ((i : ℕ) → i ≢ n → g i ≡ f i) → n < a → sum_by g (range_with_len a k) ≡ sum_by f (range_with_len a k)
sum-same f g a zero n same before = refl
sum-same f g a (suc k) n same before =
    let other : a ≢ n = omega arith in
    let here = same a other in
    let later = sum-same f g (a + 1) k n same (omega arith) in
    let x = sum_by-cons f a (range_with_len (a + 1) k) in
    let y = sum_by-cons g a (range_with_len (a + 1) k) in
    omega arith

sum-one : (f g : ℕ → ℕ) (a k n : ℕ) → ((i : ℕ) → i ≢ n → g i ≡ f i) → suc (g n) ≡ f n → a ≤ n → n < a + k → suc (sum_by g (range_with_len a k)) ≡ sum_by f (range_with_len a k)
sum-one f g a zero n same one from below = absurd (omega arith)
sum-one f g a (suc k) n same one from below = go (n == a) refl (sum-one f g (a + 1) k n same one)
  where
    go : (c : Bool) → (n == a) ≡ c → (a + 1 ≤ n → n < a + 1 + k → suc (sum_by g (range_with_len (a + 1) k)) ≡ sum_by f (range_with_len (a + 1) k)) →
        suc (sum_by g (range_with_len a (suc k))) ≡ sum_by f (range_with_len a (suc k))
    go true is later =
        let at : n ≡ a = grind (arith, nat_tests) in
        let g_at : g n ≡ g a = ap g at in
        let f_at : f n ≡ f a = ap f at in
        let rest = sum-same f g (a + 1) k n same (omega arith) in
        let x = sum_by-cons f a (range_with_len (a + 1) k) in
        let y = sum_by-cons g a (range_with_len (a + 1) k) in
        omega arith
    go false is later =
        let past : a + 1 ≤ n = grind (arith, nat_tests) in
        let other : a ≢ n = omega arith in
        let here = same a other in
        let rest = later past (omega arith) in
        let x = sum_by-cons f a (range_with_len (a + 1) k) in
        let y = sum_by-cons g a (range_with_len (a + 1) k) in
        omega arith

-- no more operations are left where no place is lower
pub left-less : (sizes : Sizes) (programs : Programs) (state later : State) → ((n : ℕ) → (state.share n).place ≤ (later.share n).place) → left_count sizes programs later ≤ left_count sizes programs state
left-less sizes programs state later rise =
    sum-less (left_at programs state) (left_at programs later) (all_nodes sizes) (λ n. less (length (programs n)) (state.share n).place (later.share n).place (rise n))
  where
    less : (l a b : ℕ) → a ≤ b → l - b ≤ l - a
    less l a b rise = omega arith

-- one operation less is left where its node has gone on by one, and no other has
pub left-one : (sizes : Sizes) (programs : Programs) (state later : State) (node : ℕ) (op : Op) → node < sizes.nodes → slice_get (programs node) (state.share node).place ≡ Some op →
    (later.share node).place ≡ suc (state.share node).place → ((n : ℕ) → n ≢ node → (later.share n).place ≡ (state.share n).place) → suc (left_count sizes programs later) ≡ left_count sizes programs state
left-one sizes programs state later node op inside left done others =
    sum-one (left_at programs state) (left_at programs later) 0 sizes.nodes node (λ n other. ap (λ place. length (programs n) - place) (others n other))
    (one (length (programs node)) (state.share node).place (later.share node).place (slice_get_within (programs node) (state.share node).place op left) done) (omega arith) (omega arith)
  where
    one : (l a b : ℕ) → a < l → b ≡ suc a → suc (l - b) ≡ l - a
    one l a b within next = omega arith
