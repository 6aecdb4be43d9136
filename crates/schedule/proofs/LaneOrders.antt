-- The lanes stand in their order, so what comes behind one in the list comes behind it in lane order.
use Rattle.std.proofs.Common.{◌≡◌, ℕ, zero, suc, ◌+◌, ◌<◌, ◌≤◌, Bool, true, false, cond, ◌&&◌, ◌==◌, List, [], ◌∷◌, ◌++◌, length, refl, arith, ap, sym, ◌∙◌, Some}
use Rattle.std.specs.Prelude.{find, count_by}
use Rattle.std.specs.List.{flat_map, range_with_len}
use Rattle.std.proofs.lemmas.Bool.{lt-ltb, le-ltb, eq-eqb}
use Rattle.std.proofs.lemmas.Bool.Decides.{nat_tests}
use Rattle.std.proofs.lemmas.List.Sums.{sum_by-cons}
use Rattle.line_map.specs.Sizes.{Sizes}
use Rattle.op_model.specs.declared.events.Class.{Class}
use Rattle.op_model.specs.declared.events.Class.TheVariants.{Request, Reply}
use Rattle.op_model.specs.Run.Schedules.{Lane, both_lanes, lanes_in_order, lane_before, class_before}

-- one lane stands before the other, and not the other way round
abbrev pub IsBefore : Lane → Lane → Type 0
IsBefore a b = (lane_before a b ≡ true) × (lane_before b a ≡ false)

abbrev pub AllOf : (Lane → Type 0) → List Lane → Type 0
AllOf P [] = Unit {0}
AllOf P (x ∷ xs) = P x × AllOf P xs

abbrev pub IsSorted : List Lane → Type 0
IsSorted [] = Unit {0}
IsSorted (x ∷ xs) = AllOf (IsBefore x) xs × IsSorted xs

all-weaker : (P Q : Lane → Type 0) (xs : List Lane) → ((x : Lane) → P x → Q x) → AllOf P xs → AllOf Q xs
all-weaker P Q [] each all = tt
all-weaker P Q (x ∷ xs) each all = (each x all.0, all-weaker P Q xs each all.1)

all-append : (P : Lane → Type 0) (xs ys : List Lane) → AllOf P xs → AllOf P ys → AllOf P (xs ++ ys)
all-append P [] ys one two = two
all-append P (x ∷ xs) ys one two = (one.0, all-append P xs ys one.1 two)

pub all-at : (P : Lane → Type 0) (front : List Lane) (here : Lane) (more : List Lane) → AllOf P (front ++ here ∷ more) → P here
all-at P [] here more all = all.0
all-at P (x ∷ front) here more all = all-at P front here more all.1

sorted-append : (P Q : Lane → Type 0) (xs ys : List Lane) → AllOf P xs → AllOf Q ys → ((x y : Lane) → P x → Q y → IsBefore x y) → IsSorted xs → IsSorted ys → IsSorted (xs ++ ys)
sorted-append P Q [] ys one two apart first second = second
sorted-append P Q (x ∷ xs) ys one two apart first second =
    (all-append (IsBefore x) xs ys first.0 (all-weaker Q (IsBefore x) ys (λ y. apart x y one.0) two), sorted-append P Q xs ys one.1 two apart first.1 second)

other-test : (a b : ℕ) → a < b → (b == a) ≡ false
other-test a b less = grind (arith, nat_tests)

src-before : (a b : Lane) → a.src < b.src → IsBefore a b
src-before a b less = (rw (lt-ltb a.src b.src less) refl, rw (le-ltb b.src a.src (omega arith), other-test a.src b.src less) refl)

dst-before : (a b : Lane) → a.src ≡ b.src → a.dst < b.dst → IsBefore a b
dst-before a b same less = (
  rw (le-ltb a.src b.src (omega arith), eq-eqb a.src b.src same, lt-ltb a.dst b.dst less) refl,
  rw (le-ltb b.src a.src (omega arith), eq-eqb b.src a.src (sym same), le-ltb b.dst a.dst (omega arith), other-test a.dst b.dst less) refl,
)

class-before : (src dst : ℕ) → IsBefore (record { src = src; dst = dst; class = Request }) (record { src = src; dst = dst; class = Reply })
class-before src dst = (rw (le-ltb src src (omega arith), eq-eqb src src refl, le-ltb dst dst (omega arith), eq-eqb dst dst refl) refl, rw (le-ltb src src (omega arith), eq-eqb src src refl, le-ltb dst dst (omega arith), eq-eqb dst dst refl) refl)

same-class : (k : Class) → class_before k k ≡ false
same-class Request = refl
same-class Reply = refl

self-before : (a : Lane) → lane_before a a ≡ false
self-before a = rw (le-ltb a.src a.src (omega arith), eq-eqb a.src a.src refl, le-ltb a.dst a.dst (omega arith), eq-eqb a.dst a.dst refl) (same-class a.class)

-- the lanes of one sender to some takers
abbrev from_one : ℕ → ℕ → ℕ → List Lane
from_one src a n = flat_map (both_lanes src) (range_with_len a n)

abbrev IsFrom : ℕ → ℕ → ℕ → Lane → Type 0
IsFrom src low high lane = (lane.src ≡ src) × (low ≤ lane.dst) × (lane.dst < high)

one-from : (src a n : ℕ) → AllOf (IsFrom src a (a + n)) (from_one src a n)
one-from src a zero = tt
one-from src a (suc n) = (
  (refl, omega arith, omega arith),
  ((refl, omega arith, omega arith), all-weaker (IsFrom src (a + 1) (a + 1 + n)) (IsFrom src a (a + suc n)) (from_one src (a + 1) n) (λ lane is. (is.0, omega (arith, is.1), omega (arith, is.2))) (one-from src (a + 1) n)),
)

one-later : (src a n : ℕ) (lane : Lane) → lane.src ≡ src → lane.dst ≡ a → AllOf (IsBefore lane) (from_one src (a + 1) n)
one-later src a n lane from to = all-weaker (IsFrom src (a + 1) (a + 1 + n)) (IsBefore lane) (from_one src (a + 1) n) (λ other is. dst-before lane other (from ∙ sym is.0) (omega (arith, to, is.1))) (one-from src (a + 1) n)

one-sorted : (src a n : ℕ) → IsSorted (from_one src a n)
one-sorted src a zero = tt
one-sorted src a (suc n) = (
  (class-before src a, one-later src a n (record { src = src; dst = a; class = Request }) refl refl),
  (one-later src a n (record { src = src; dst = a; class = Reply }) refl refl, one-sorted src (a + 1) n),
)

-- the lanes of some senders to all takers
abbrev from_all : ℕ → ℕ → ℕ → List Lane
from_all nodes a n = flat_map (λ src. from_one src 0 nodes) (range_with_len a n)

abbrev IsAmong : ℕ → ℕ → ℕ → Lane → Type 0
IsAmong nodes low high lane = (low ≤ lane.src) × (lane.src < high) × (lane.dst < nodes)

all-among : (nodes a n : ℕ) → AllOf (IsAmong nodes a (a + n)) (from_all nodes a n)
all-among nodes a zero = tt
all-among nodes a (suc n) =
    all-append (IsAmong nodes a (a + suc n)) (from_one a 0 nodes) (from_all nodes (a + 1) n)
    (all-weaker (IsFrom a 0 (0 + nodes)) (IsAmong nodes a (a + suc n)) (from_one a 0 nodes) (λ lane is. (omega (arith, is.0), omega (arith, is.0), omega (arith, is.2))) (one-from a 0 nodes))
    (all-weaker (IsAmong nodes (a + 1) (a + 1 + n)) (IsAmong nodes a (a + suc n)) (from_all nodes (a + 1) n) (λ lane is. (omega (arith, is.0), omega (arith, is.1), is.2)) (all-among nodes (a + 1) n))

all-sorted : (nodes a n : ℕ) → IsSorted (from_all nodes a n)
all-sorted nodes a zero = tt
all-sorted nodes a (suc n) =
    sorted-append (IsFrom a 0 (0 + nodes)) (IsAmong nodes (a + 1) (a + 1 + n)) (from_one a 0 nodes) (from_all nodes (a + 1) n) (one-from a 0 nodes) (all-among nodes (a + 1) n)
    (λ x y from among. src-before x y (omega (arith, from.0, among.0))) (one-sorted a 0 nodes) (all-sorted nodes (a + 1) n)

pub lanes-sorted : (sizes : Sizes) → IsSorted (lanes_in_order sizes)
unfolding lanes_in_order
lanes-sorted sizes = all-sorted sizes.nodes 0 sizes.nodes

-- each lane is one between nodes of the machine
abbrev pub IsLaneIn : Sizes → Lane → Type 0
IsLaneIn sizes lane = (lane.src < sizes.nodes) × (lane.dst < sizes.nodes)

pub lanes-in : (sizes : Sizes) → AllOf (IsLaneIn sizes) (lanes_in_order sizes)
unfolding lanes_in_order
lanes-in sizes = all-weaker (IsAmong sizes.nodes 0 (0 + sizes.nodes)) (IsLaneIn sizes) (from_all sizes.nodes 0 sizes.nodes) (λ lane is. (omega (arith, is.1), is.2)) (all-among sizes.nodes 0 sizes.nodes)

-- a search behind a lane is one in what stands behind it in the list
search-later : (busy : Lane → Bool) (here : Lane) (more : List Lane) → AllOf (IsBefore here) more → find (λ lane. lane_before here lane && busy lane) more ≡ find busy more
search-later busy here [] later = refl
search-later busy here (x ∷ more) later =
    ap (λ b. cond (b && busy x) (Some x) (find (λ lane. lane_before here lane && busy lane) more)) later.0.0
    ∙ ap (λ o. cond (busy x) (Some x) o) (search-later busy here more later.1)

pub search-behind : (busy : Lane → Bool) (front : List Lane) (here : Lane) (more : List Lane) → IsSorted (front ++ here ∷ more) → find (λ lane. lane_before here lane && busy lane) (front ++ here ∷ more) ≡ find busy more
search-behind busy [] here more sorted =
    ap (λ b. cond (b && busy here) (Some here) (find (λ lane. lane_before here lane && busy lane) more)) (self-before here) ∙ search-later busy here more sorted.0
search-behind busy (x ∷ front) here more sorted =
    let first = all-at (IsBefore x) front here more sorted.0 in
    ap (λ b. cond (b && busy x) (Some x) (find (λ lane. lane_before here lane && busy lane) (front ++ here ∷ more))) first.1 ∙ search-behind busy front here more sorted.1

count_by-cons : (p : Lane → Bool) (x : Lane) (xs : List Lane) → count_by p (x ∷ xs) ≡ cond (p x) 1 0 + count_by p xs
count_by-cons p x xs = sum_by-cons (λ y. cond (p y) 1 0) x xs

as-one : (b : Bool) → b ≡ true → ◌≡◌ {A = ℕ} (cond b 1 0) 1
as-one b e = ap (λ c. cond c 1 0) e

as-none : (b : Bool) → b ≡ false → ◌≡◌ {A = ℕ} (cond b 1 0) 0
as-none b e = ap (λ c. cond c 1 0) e

-- how many lanes stand behind one
count-later : (here : Lane) (more : List Lane) → AllOf (IsBefore here) more → count_by (lane_before here) more ≡ length more
count-later here [] later = refl
count-later here (x ∷ more) later =
    let one = as-one (lane_before here x) later.0.0 in
    let rest = count-later here more later.1 in
    omega (arith, one, rest, count_by-cons (lane_before here) x more)

pub count-behind : (front : List Lane) (here : Lane) (more : List Lane) → IsSorted (front ++ here ∷ more) → count_by (lane_before here) (front ++ here ∷ more) ≡ length more
count-behind [] here more sorted =
    let none = as-none (lane_before here here) (self-before here) in
    let rest = count-later here more sorted.0 in
    count_by-cons (lane_before here) here more ∙ omega (arith, none, rest)
count-behind (x ∷ front) here more sorted =
    let first = all-at (IsBefore x) front here more sorted.0 in
    let none = as-none (lane_before here x) first.1 in
    let rest = count-behind front here more sorted.1 in
    count_by-cons (lane_before here) x (front ++ here ∷ more) ∙ omega (arith, none, rest)
