-- How often a link stands in the lists of a pool. Since it stands there at most once, a link that stands in one list stands in no
-- other.
use Rattle.std.specs.Prelude.{◌≡◌, ℕ, zero, suc, ◌+◌, ◌<◌, ◌≤◌, ◌≢◌, ◌==◌, true, false, cond, Bool, List, [], ◌∷◌, ◌++◌, length, sum_by, slice_index_or, Contains, ◌⊎◌}
use Rattle.std.proofs.Common.{refl, ap, subst, ◌∙◌, arith, set, length-set, get_or, inl, inr}
use Rattle.std.proofs.lemmas.Bool.Decides.{nat_tests}
use Rattle.std.proofs.lemmas.Bool.{cases_lt}
use Rattle.std.proofs.lemmas.List.{get_or-set_other}
use Rattle.std.proofs.lemmas.List.Sums.{sum_by-set, get_or-le-sum_by}
use Rattle.op_model.proofs.Public.{eqb-self}
use Rattle.link_store.specs.Pools.{Chain, links_of, times_in, times, Pool, chain_of, IsPartition}

pub times_in-append : (x : ℕ) (links more : List ℕ) → times_in x (links ++ more) ≡ times_in x links + times_in x more
times_in-append x [] more = omega arith
times_in-append x (link ∷ links) more = let h = times_in-append x links more in omega (arith, h)

pub links_of-append : (chain more : Chain) → links_of (chain ++ more) ≡ links_of chain ++ links_of more
links_of-append [] more = refl
links_of-append (e ∷ chain) more = ap (λ links. e.0 ∷ links) (links_of-append chain more)

pub times_in-chains : (x : ℕ) (chain more : Chain) → times_in x (links_of (chain ++ more)) ≡ times_in x (links_of chain) + times_in x (links_of more)
times_in-chains x chain more = ap (times_in x) (links_of-append chain more) ∙ times_in-append x (links_of chain) (links_of more)

pub times_in-same : (x : ℕ) (links : List ℕ) → times_in x (x ∷ links) ≡ 1 + times_in x links
times_in-same x links = rw (eqb-self x)

-- a link stands in a list where it is an element of it
pub contains_times : (x : ℕ) (links : List ℕ) → Contains links x → 0 < times_in x links
contains_times x [] has = absurd (omega arith)
contains_times x (link ∷ links) (zero, l, e) = let same = times_in-same x links in rw e (omega (arith, same))
contains_times x (link ∷ links) (suc k, l, e) = let h = contains_times x links (k, omega arith, e) in omega (arith, h)

pub times_contains : (x : ℕ) (links : List ℕ) → 0 < times_in x links → Contains links x
times_contains x [] l = absurd (omega arith)
times_contains x (link ∷ links) l = by (link == x) refl l (λ more. times_contains x links more)
  where
    later : Contains links x → Contains (link ∷ links) x
    later (k, below, e) = (suc k, omega arith, e)

    by : (b : Bool) → (link == x) ≡ b → 0 < cond b 1 0 + times_in x links → (0 < times_in x links → Contains links x) → Contains (link ∷ links) x
    by true e l more = (0, omega arith, grind (arith, nat_tests, e))
    by false e l more = later (more (omega arith))

-- how often a link stands in chains
abbrev pub times_in_all : ℕ → List Chain → ℕ
times_in_all x chains = sum_by (λ chain. times_in x (links_of chain)) chains

pub one_chain : (x : ℕ) (chains : List Chain) (m : ℕ) → m < length chains → times_in x (links_of (slice_index_or chains m [])) ≤ times_in_all x chains
one_chain x chains m l = get_or-le-sum_by (λ chain. times_in x (links_of chain)) chains m [] l

pub two_chains : (x : ℕ) (chains : List Chain) (m k : ℕ) → m < length chains → k < length chains → k ≢ m → times_in x (links_of (slice_index_or chains k [])) + times_in x (links_of (slice_index_or chains m [])) ≤ times_in_all x chains
two_chains x chains m k l below apart =
    let f : Chain → ℕ = λ chain. times_in x (links_of chain) in
    let without : List Chain = set chains m [] in
    let other : f (get_or without k []) ≤ sum_by f without = get_or-le-sum_by f without k [] (rw length-set below) in
    let same : get_or without k [] ≡ get_or chains k [] = get_or-set_other chains m k [] [] apart in
    let split : sum_by f without + f (get_or chains m []) ≡ sum_by f chains + f [] = sum_by-set f chains m [] [] l in
    let at : f (get_or chains k []) ≤ sum_by f without = subst (λ (chain : Chain). f chain ≤ sum_by f without) same other in
    omega (arith, at, split)

pub at_most_once : (pool : Pool) → IsPartition pool → (x : ℕ) → times pool x ≤ 1
at_most_once pool partition x = by (cases_lt x pool.count)
  where
    by : (x < pool.count) ⊎ (pool.count ≤ x) → times pool x ≤ 1
    by (inl l) = let e = partition.once x l in omega (arith, e)
    by (inr l) = let e = partition.never x l in omega (arith, e)

-- the chain of one line and the free list
pub beside_free : (pool : Pool) → IsPartition pool → (x m : ℕ) → m < length pool.chains → times_in x (links_of (chain_of pool m)) + times_in x pool.free ≤ 1
beside_free pool partition x m l =
    let one = one_chain x pool.chains m l in
    let most = at_most_once pool partition x in
    omega (arith, one, most)

-- the chains of two lines
pub beside_chain : (pool : Pool) → IsPartition pool → (x m k : ℕ) → m < length pool.chains → k < length pool.chains → k ≢ m → times_in x (links_of (chain_of pool k)) + times_in x (links_of (chain_of pool m)) ≤ 1
beside_chain pool partition x m k l below apart =
    let two = two_chains x pool.chains m k l below apart in
    let most = at_most_once pool partition x in
    omega (arith, two, most)
