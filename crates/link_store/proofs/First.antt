-- The pool at first: from each link the next number follows, up to the end, so that the free list is spelled as all numbers in their
-- order, and each of them stands there once.
use Rattle.std.specs.Prelude.{◌≡◌, ℕ, zero, suc, ◌+◌, ◌<◌, ◌≤◌, ◌^◌, nat_lt, ◌==◌, Bool, false, true, cond, List, [], ◌∷◌, length, map, replicate}
use Rattle.std.specs.List.{range_with_len}
use Rattle.std.proofs.Common.{refl, sym, ap, subst, ◌∙◌, arith}
use Rattle.std.proofs.lemmas.Bool.Decides.{nat_tests}
use Rattle.std.proofs.lemmas.List.FromFn.{get_or-map-range_with_len, length-map-range_with_len, length-range_with_len}
use Rattle.std.proofs.lemmas.List.Folds.{sum_by-replicate}
use Rattle.link_store.specs.declared.entries.Next.{Next}
use Rattle.link_store.specs.declared.entries.Next.TheVariants.{Link, End, Header}
use Rattle.link_store.specs.declared.entries.Entry.{Entry}
use Rattle.link_store.specs.declared.entries.Start.{Start}
use Rattle.link_store.specs.Pools.{Chain, links_of, times_in, first_pool, IsPartition}
use Rattle.link_store.specs.Entries.{entry_at, blank, idle, first_entry, first_start, Spells, IsListed, chain_from, start_at, pool_in, IsPool}
use Rattle.link_store.proofs.Walks.{chain_from_listed}

abbrev entries_of : ℕ → List Entry
entries_of count = map (first_entry count) (range_with_len 0 count)

abbrev starts_of : ℕ → List Start
starts_of lines = map first_start (range_with_len 0 lines)

-- free links from this number on, with no node that matters
abbrev numbered : ℕ → ℕ → Chain
numbered link n = map (λ i. (i, 0)) (range_with_len link n)

spelled : (count link n : ℕ) → link + n ≡ count → Spells (entries_of count) (cond (nat_lt link count) (Link link) End) End (numbered link n)
spelled count link zero e = let past : nat_lt link count ≡ false = grind (arith, nat_tests, e) in rw past
spelled count link (suc n) e =
    let before : nat_lt link count ≡ true = grind (arith, nat_tests, e) in
    let at : entry_at (entries_of count) link ≡ first_entry count link = get_or-map-range_with_len (first_entry count) 0 count link link blank (omega (arith, e)) (omega arith) in
    let size : length (entries_of count) ≡ count = length-map-range_with_len (first_entry count) 0 count in
    let on : Spells (entries_of count) (cond (nat_lt (link + 1) count) (Link (link + 1)) End) End (numbered (link + 1) n) = spelled count (link + 1) n (omega (arith, e)) in
    (rw before, omega (arith, size, e), rw at, subst (λ (entry : Entry). Spells (entries_of count) entry.next End (numbered (link + 1) n)) (sym at) on)

links_of-numbered : (link n : ℕ) → links_of (numbered link n) ≡ range_with_len link n
links_of-numbered link zero = refl
links_of-numbered link (suc n) = ap (λ links. link ∷ links) (links_of-numbered (link + 1) n)

outside_range : (x link n : ℕ) → x < link → times_in x (range_with_len link n) ≡ 0
outside_range x link zero l = refl
outside_range x link (suc n) l =
    let apart : (link == x) ≡ false = grind (arith, nat_tests) in
    let rest = outside_range x (link + 1) n (omega arith) in
    rw apart (omega (arith, rest))

past_range : (x link n : ℕ) → link + n ≤ x → times_in x (range_with_len link n) ≡ 0
past_range x link zero l = refl
past_range x link (suc n) l =
    let apart : (link == x) ≡ false = grind (arith, nat_tests) in
    let rest = past_range x (link + 1) n (omega arith) in
    rw apart (omega (arith, rest))

in_range : (x link n : ℕ) → link ≤ x → x < link + n → times_in x (range_with_len link n) ≡ 1
in_range x link zero l below = absurd (omega arith)
in_range x link (suc n) l below = by (link == x) refl (λ later. in_range x (link + 1) n later (omega arith))
  where
    by : (b : Bool) → (link == x) ≡ b → (link + 1 ≤ x → times_in x (range_with_len (link + 1) n) ≡ 1) → cond b 1 0 + times_in x (range_with_len (link + 1) n) ≡ 1
    by true e later = let same : link ≡ x = grind (arith, nat_tests, e) in let none = outside_range x (link + 1) n (omega arith) in omega (arith, none)
    by false e later = let one = later (grind (arith, nat_tests, e)) in omega (arith, one)

no_chains : (entries : List Entry) (m n : ℕ) → map (chain_from entries) (map first_start (range_with_len m n)) ≡ replicate n []
no_chains entries m zero = refl
no_chains entries m (suc n) = ap (λ (chains : List Chain). [] ∷ chains) (no_chains entries (m + 1) n)

pub first_partition : (lines count : ℕ) → IsPartition (first_pool lines count)
first_partition lines count = record {
  once = λ x below. let one = in_range x 0 count (omega arith) (omega (arith, below)) in let none = sum_by-replicate (λ (chain : Chain). times_in x (links_of chain)) lines [] in omega (arith, one, none);
  never = λ x above. let past = past_range x 0 count (omega (arith, above)) in let none = sum_by-replicate (λ (chain : Chain). times_in x (links_of chain)) lines [] in omega (arith, past, none);
  total = let all = length-range_with_len 0 count in let empty : Chain = [] in let none = sum_by-replicate length lines empty in omega (arith, all, none);
}

pub first_done : (entries : List Entry) (starts : List Start) (first : Next) (lines count : ℕ) → entries ≡ map (first_entry count) (range_with_len 0 count) → starts ≡ map first_start (range_with_len 0 lines) → first ≡ cond (nat_lt 0 count) (Link 0) End → count < 2 ^ 32 → IsPool entries starts (record { first = first; len = count }) × (pool_in entries starts (record { first = first; len = count }) ≡ first_pool lines count)
first_done entries starts first lines count entries_are starts_are first_is fits = rw (entries_are, starts_are, first_is) (kept, seen)
  where
    size : length (entries_of count) ≡ count
    size = length-map-range_with_len (first_entry count) 0 count

    listed : IsListed (entries_of count) End (record { first = cond (nat_lt 0 count) (Link 0) End; len = count }) (numbered 0 count)
    listed = record { spells = spelled count 0 count (omega arith); many = length-map-range_with_len (λ i. (i, 0)) 0 count }

    free : chain_from (entries_of count) (record { first = cond (nat_lt 0 count) (Link 0) End; len = count }) ≡ numbered 0 count
    free = chain_from_listed (entries_of count) End (record { first = cond (nat_lt 0 count) (Link 0) End; len = count }) (numbered 0 count) listed

    seen : pool_in (entries_of count) (starts_of lines) (record { first = cond (nat_lt 0 count) (Link 0) End; len = count }) ≡ first_pool lines count
    seen = λ i. record { chains = no_chains (entries_of count) 0 lines i; free = (ap links_of free ∙ links_of-numbered 0 count) i; count = size i }

    start_is : (m : ℕ) → m < length (starts_of lines) → start_at (starts_of lines) m ≡ first_start m
    start_is m l = get_or-map-range_with_len first_start 0 lines m m idle (rw length-map-range_with_len at l) (omega arith)

    line : (m : ℕ) (start : Start) → start ≡ first_start m → IsListed (entries_of count) (Header m) start (chain_from (entries_of count) start)
    line m start e = rw e (record { spells = refl; many = refl })

    kept : IsPool (entries_of count) (starts_of lines) (record { first = cond (nat_lt 0 count) (Link 0) End; len = count })
    kept = record {
      lines = λ m l. line m (start_at (starts_of lines) m) (start_is m l);
      free_list = rw free listed;
      partition = subst IsPartition (sym seen) (first_partition lines count);
      fits = rw size fits;
    }
