-- The walk from a link to where its list stops. Each link stands in the free list or in one line's chain, so that the walk from it is
-- the rest of that list and stops where that list stops: at the end, or at the header of that one line.
use Rattle.std.specs.Prelude.{◌≡◌, ℕ, suc, ◌+◌, ◌<◌, ◌≤◌, ◌≢◌, ◌==◌, ◌↔◌, ◌⊎◌, Bool, false, true, cond, List, [], ◌∷◌, length, map, sum_by, slice_index_or, Contains, Some, None, IsNone}
use Rattle.std.proofs.Common.{refl, sym, ap, subst, ◌∙◌, arith, inl, inr, get_or}
use Rattle.std.proofs.lemmas.Bool.Decides.{nat_tests}
use Rattle.std.proofs.lemmas.Bool.{cases_lt}
use Rattle.std.proofs.lemmas.List.{length-map}
use Rattle.std.proofs.lemmas.List.Sums.{get_or-le-sum_by, sum_by-cons}
use Rattle.link_store.specs.declared.entries.Next.{Next}
use Rattle.link_store.specs.declared.entries.Next.TheVariants.{Link, End, Header}
use Rattle.link_store.specs.declared.entries.Entry.{Entry}
use Rattle.link_store.specs.declared.entries.Start.{Start}
use Rattle.link_store.specs.Pools.{Chain, links_of, times_in, Pool, chain_of, IsPartition, IsLinkOf}
use Rattle.link_store.specs.Entries.{entry_at, Spells, IsStop, chain_from, start_at, pool_in, IsPool, walked}
use Rattle.link_store.proofs.Walks.{walked_on}
use Rattle.link_store.proofs.Times.{times_in_all, times_contains, contains_times, beside_free, beside_chain}
use Rattle.link_store.proofs.Relinked.{chain_at}
use Rattle.link_store.proofs.Loops.{at_link, below_link, nothing_left}

-- from a link of a list that is spelled, the rest of it is spelled
rest_from : (entries : List Entry) (from stop : Next) (link : ℕ) (chain : Chain) → 1 ≤ times_in link (links_of chain) → Spells entries from stop chain → (rest : Chain) × Spells entries (Link link) stop rest × (length rest ≤ length chain)
rest_from entries from stop link [] there s = absurd (omega arith)
rest_from entries from stop link (e ∷ chain) there s = by (e.0 == link) refl there (λ later. rest_from entries (entry_at entries e.0).next stop link chain later s.3)
  where
    by : (b : Bool) → (e.0 == link) ≡ b → 1 ≤ cond b 1 0 + times_in link (links_of chain) → (1 ≤ times_in link (links_of chain) → (rest : Chain) × Spells entries (Link link) stop rest × (length rest ≤ length chain)) → (rest : Chain) × Spells entries (Link link) stop rest × (length rest ≤ length (e ∷ chain))
    by true same there later =
        let same' : e.0 ≡ link = grind (arith, nat_tests, same) in
        (e ∷ chain, (ap Link (sym same'), s.1, s.2, s.3), omega arith)
    by false same there later = let on = later (omega (arith, there)) in let many = on.2 in (on.0, on.1, omega (arith, many))

-- one of the chains has the link
one_of : (link : ℕ) (chains : List Chain) → 1 ≤ times_in_all link chains → (m : ℕ) × (m < length chains) × (1 ≤ times_in link (links_of (slice_index_or chains m [])))
one_of link [] there = absurd (omega arith)
one_of link (chain ∷ chains) there =
    let f : Chain → ℕ = λ c. times_in link (links_of c) in
    let split : sum_by f (chain ∷ chains) ≡ f chain + sum_by f chains = sum_by-cons f chain chains in
    by (cases_lt 0 (times_in link (links_of chain))) split (λ later. one_of link chains later)
  where
    by : (0 < times_in link (links_of chain)) ⊎ (times_in link (links_of chain) ≤ 0) → times_in_all link (chain ∷ chains) ≡ times_in link (links_of chain) + times_in_all link chains → (1 ≤ times_in_all link chains → (m : ℕ) × (m < length chains) × (1 ≤ times_in link (links_of (slice_index_or chains m [])))) → (m : ℕ) × (m < length (chain ∷ chains)) × (1 ≤ times_in link (links_of (slice_index_or (chain ∷ chains) m [])))
    by (inl first) split later = (0, omega arith, omega (arith, first))
    by (inr none) split later = let on = later (omega (arith, none, split, there)) in let below = on.1 in (suc on.0, omega (arith, below), on.2)

-- Where the walk from a link stops, and in which list the link stands
pub record Leads (entries : List Entry) (starts : List Start) (free : Start) (link : ℕ) : Type 0 where
  pub stop : Next
  pub outside : IsStop stop
  pub rest : Chain
  pub spells : Spells entries (Link link) stop rest
  pub many : length rest ≤ length entries
  pub home : ((m : ℕ) × (m < length starts) × (stop ≡ Header m) × (1 ≤ times_in link (links_of (chain_from entries (start_at starts m))))) ⊎ ((stop ≡ End) × (1 ≤ times_in link (links_of (chain_from entries free))))

pub leads : (entries : List Entry) (starts : List Start) (free : Start) (link : ℕ) → IsPool entries starts free → link < length entries → Leads entries starts free link
leads entries starts free link is below = by (cases_lt 0 (times_in link (links_of (chain_from entries free))))
  where
    chains : List Chain
    chains = map (chain_from entries) starts

    total : length (links_of (chain_from entries free)) + sum_by length (map (chain_from entries) starts) ≡ length entries
    total = is.partition.total

    by : (0 < times_in link (links_of (chain_from entries free))) ⊎ (times_in link (links_of (chain_from entries free)) ≤ 0) → Leads entries starts free link
    by (inl there) =
        let on = rest_from entries free.first End link (chain_from entries free) there is.free_list.spells in
        let many = on.2 in
        let links : length (links_of (chain_from entries free)) ≡ length (chain_from entries free) = length-map (chain_from entries free) (λ e. e.0) in
        let t = total in
        record { stop = End; outside = tt; rest = on.0; spells = on.1; many = omega (arith, many, links, t); home = inr (refl, there) }
    by (inr none) =
        let once = is.partition.once link below in
        let one = one_of link (map (chain_from entries) starts) (omega (arith, once, none)) in
        let m = one.0 in
        let l : m < length starts = rw length-map at one.1 in
        let there : 1 ≤ times_in link (links_of (chain_from entries (start_at starts m))) = rw (chain_at entries starts free m) at one.2 in
        let on = rest_from entries (start_at starts m).first (Header m) link (chain_from entries (start_at starts m)) there (is.lines m l).spells in
        let many = on.2 in
        let most : length (get_or (map (chain_from entries) starts) m []) ≤ sum_by length (map (chain_from entries) starts) = get_or-le-sum_by length (map (chain_from entries) starts) m [] one.1 in
        let most' : length (chain_from entries (start_at starts m)) ≤ sum_by length (map (chain_from entries) starts) = rw (chain_at entries starts free m) at most in
        let t = total in
        record { stop = Header m; outside = tt; rest = on.0; spells = on.1; many = omega (arith, many, most', t); home = inl (m, l, refl, there) }

-- The walk from a link stands here: each list that is spelled from the link has its rest spelled from here
pub record IsHoming (entries : List Entry) (link : ℕ) (at : Next) : Type 0 where
  pub on : (stop : Next) (chain : Chain) → IsStop stop → Spells entries (Link link) stop chain → length chain ≤ length entries → (rest : Chain) × Spells entries at stop rest × (length rest ≤ length entries)

pub homing_below : (entries : List Entry) (starts : List Start) (free : Start) (link x : ℕ) (at : Next) → IsPool entries starts free → link < length entries → IsHoming entries link at → at ≡ Link x → x < length entries
homing_below entries starts free link x at is below so at_is =
    let to = leads entries starts free link is below in
    let here = so.on to.stop to.rest to.outside to.spells to.many in
    below_link entries at to.stop x here.0 to.outside here.1 at_is

pub homing_next : (entries : List Entry) (link x : ℕ) (at : Next) (entry : Entry) → IsHoming entries link at → at ≡ Link x → entry ≡ entry_at entries x → IsHoming entries link entry.next
homing_next entries link x at entry so at_is entry_is = record {
  on = λ stop chain outside s many.
      let here = so.on stop chain outside s many in
      let next = at_link entries at stop x entry here.0 outside here.1 at_is entry_is in
      let left = here.2 in
      let e = ap length next.1 in
      (next.0, next.2, omega (arith, left, e));
}

pub homing_smaller : (entries : List Entry) (starts : List Start) (free : Start) (link x : ℕ) (at : Next) (entry : Entry) → IsPool entries starts free → link < length entries → IsHoming entries link at → at ≡ Link x → entry ≡ entry_at entries x → length (walked entries (length entries) entry.next) < length (walked entries (length entries) at)
homing_smaller entries starts free link x at entry is below so at_is entry_is =
    let to = leads entries starts free link is below in
    let here = so.on to.stop to.rest to.outside to.spells to.many in
    let next = at_link entries at to.stop x entry here.0 to.outside here.1 at_is entry_is in
    let left = here.2 in
    let e = ap length next.1 in
    let now : walked entries (length entries) at ≡ here.0 = walked_on entries at to.stop here.0 (length entries) to.outside here.1 left in
    let then : walked entries (length entries) entry.next ≡ next.0 = walked_on entries entry.next to.stop next.0 (length entries) to.outside next.2 (omega (arith, left, e)) in
    rw (now, then) (omega (arith, e))

-- where the walk ends, it has come to the stop
arrived : (entries : List Entry) (starts : List Start) (free : Start) (link : ℕ) (at : Next) → (to : Leads entries starts free link) → IsHoming entries link at → IsStop at → at ≡ to.stop
arrived entries starts free link at to so ended =
    let here = so.on to.stop to.rest to.outside to.spells to.many in
    let none = nothing_left entries at to.stop here.0 ended here.1 in
    rw none at here.1

in_line : (pool : Pool) → IsPartition pool → (link m k : ℕ) → m < length pool.chains → 1 ≤ times_in link (links_of (chain_of pool m)) → IsLinkOf pool link k → m ≡ k
in_line pool partition link m k l there of = by (k == m) refl
  where
    by : (b : Bool) → (k == m) ≡ b → m ≡ k
    by true e = grind (arith, nat_tests, e)
    by false e =
        let apart : k ≢ m = grind (arith, nat_tests, e) in
        let also = contains_times link (links_of (chain_of pool k)) of.1 in
        let one = beside_chain pool partition link m k l of.0 apart in
        absurd (omega (arith, also, one, there))

-- the walk has come to a header
pub home_at : (entries : List Entry) (starts : List Start) (free : Start) (pool : Pool) (link m : ℕ) (at : Next) → IsPool entries starts free → pool_in entries starts free ≡ pool → link < length entries → IsHoming entries link at → at ≡ Header m → ((k : ℕ) → (Some m ≡ Some k) ↔ IsLinkOf pool link k) × (IsNone (Some m) ↔ Contains pool.free link)
home_at entries starts free pool link m at is view below so at_is =
    subst (λ (p : Pool). ((k : ℕ) → (Some m ≡ Some k) ↔ IsLinkOf p link k) × (IsNone (Some m) ↔ Contains p.free link)) view (by to.home)
  where
    to : Leads entries starts free link
    to = leads entries starts free link is below

    stopped : Header m ≡ to.stop
    stopped = sym at_is ∙ arrived entries starts free link at to so (rw at_is tt)

    old : Pool
    old = pool_in entries starts free

    by : ((n : ℕ) × (n < length starts) × (to.stop ≡ Header n) × (1 ≤ times_in link (links_of (chain_from entries (start_at starts n))))) ⊎ ((to.stop ≡ End) × (1 ≤ times_in link (links_of (chain_from entries free)))) → ((k : ℕ) → (Some m ≡ Some k) ↔ IsLinkOf (pool_in entries starts free) link k) × (IsNone (Some m) ↔ Contains (pool_in entries starts free).free link)
    by (inr ended) = let e = stopped in let f = ended.0 in cc
    by (inl (n, l, n_is, there)) =
        let same : n ≡ m = let e = stopped in cc in
        let l' : m < length (map (chain_from entries) starts) = rw (length-map, ← same) l in
        let there' : 1 ≤ times_in link (links_of (chain_of (pool_in entries starts free) m)) = rw (chain_at entries starts free m, ← same) there in (
          λ k. (
            λ e. let m_is : m ≡ k = cc in rw (← m_is) (l', times_contains link (links_of (chain_of (pool_in entries starts free) m)) there'),
            λ of. ap Some (in_line (pool_in entries starts free) is.partition link m k l' there' of),
          ),
          (λ none. cc, λ has. absurd (let also = contains_times link (links_of (chain_from entries free)) has in let one = beside_free (pool_in entries starts free) is.partition link m l' in omega (arith, also, one, there'))),
        )

-- the walk has come to the end of the free list
pub free_at_end : (entries : List Entry) (starts : List Start) (free : Start) (pool : Pool) (link : ℕ) (at : Next) → IsPool entries starts free → pool_in entries starts free ≡ pool → link < length entries → IsHoming entries link at → at ≡ End → ((k : ℕ) → (None ≡ Some k) ↔ IsLinkOf pool link k) × (IsNone {T = ℕ} None ↔ Contains pool.free link)
free_at_end entries starts free pool link at is view below so at_is =
    subst (λ (p : Pool). ((k : ℕ) → (None ≡ Some k) ↔ IsLinkOf p link k) × (IsNone {T = ℕ} None ↔ Contains p.free link)) view (by to.home)
  where
    to : Leads entries starts free link
    to = leads entries starts free link is below

    stopped : End ≡ to.stop
    stopped = sym at_is ∙ arrived entries starts free link at to so (rw at_is tt)

    by : ((n : ℕ) × (n < length starts) × (to.stop ≡ Header n) × (1 ≤ times_in link (links_of (chain_from entries (start_at starts n))))) ⊎ ((to.stop ≡ End) × (1 ≤ times_in link (links_of (chain_from entries free)))) → ((k : ℕ) → (None ≡ Some k) ↔ IsLinkOf (pool_in entries starts free) link k) × (IsNone {T = ℕ} None ↔ Contains (pool_in entries starts free).free link)
    by (inl (n, l, n_is, there)) = let e = stopped in cc
    by (inr (ended, there)) = (
      λ k. (λ e. cc, λ of. absurd (let also = contains_times link (links_of (chain_of (pool_in entries starts free) k)) of.1 in let one = beside_free (pool_in entries starts free) is.partition link k of.0 in omega (arith, also, one, there))),
      (λ none. times_contains link (links_of (chain_from entries free)) there, λ has. refl),
    )

-- a link of the pool has an entry
pub link_below : (entries : List Entry) (starts : List Start) (free : Start) (pool : Pool) (link : ℕ) → pool_in entries starts free ≡ pool → link < pool.count → link < length entries
link_below entries starts free pool link view below = subst (λ (p : Pool). link < p.count) (sym view) below
