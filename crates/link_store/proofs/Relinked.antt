-- What a pool is after the chain of one line and the free list were relinked. All other chains are spelled as before, and each link
-- stands in the two lists as often as it did: so the pool is the old one with these two lists, and each link still stands once.
use Rattle.std.specs.Prelude.{◌≡◌, ℕ, ◌+◌, ◌<◌, ◌≢◌, ◌==◌, true, false, Bool, List, [], length, map, sum_by, slice_index_or}
use Rattle.std.proofs.Common.{refl, sym, subst, ◌∙◌, arith, set, length-set}
use Rattle.std.proofs.lemmas.Bool.Decides.{nat_tests}
use Rattle.std.proofs.lemmas.List.{get_or-set_same, get_or-set_other, ext_get_or, length-map}
use Rattle.std.proofs.Math.ListN.{get_or-map}
use Rattle.std.proofs.lemmas.List.Sums.{sum_by-set}
use Rattle.link_store.specs.declared.entries.Next.TheVariants.{End, Header}
use Rattle.link_store.specs.declared.entries.Entry.{Entry}
use Rattle.link_store.specs.declared.entries.Start.{Start}
use Rattle.link_store.specs.Pools.{Chain, links_of, times_in, times, chain_of, with_chain, IsPartition}
use Rattle.link_store.specs.Entries.{IsListed, chain_from, start_at, pool_in, IsPool, idle}
use Rattle.link_store.proofs.Walks.{chain_from_listed}

pub chain_at : (entries : List Entry) (starts : List Start) (free : Start) (m : ℕ) → chain_of (pool_in entries starts free) m ≡ chain_from entries (start_at starts m)
chain_at entries starts free m = get_or-map (chain_from entries) starts m idle

-- what is known of the two lists after a call, and of the array
pub record IsRelinked (entries new : List Entry) (starts : List Start) (free : Start) (m : ℕ) (start now : Start) (chain links : Chain) : Type 0 where
  pub size : length new ≡ length entries
  pub others : (k : ℕ) → k < length starts → k ≢ m → IsListed new (Header k) (start_at starts k) (chain_from entries (start_at starts k))
  pub line : IsListed new (Header m) start chain
  pub free_list : IsListed new End now links
  pub same : (x : ℕ) → times_in x (links_of links) + times_in x (links_of chain) ≡ times_in x (links_of (chain_from entries free)) + times_in x (links_of (chain_from entries (start_at starts m)))
  pub many : length links + length chain ≡ length (chain_from entries free) + length (chain_from entries (start_at starts m))

start_at-same : (starts : List Start) (m : ℕ) (start : Start) → m < length starts → start_at (set starts m start) m ≡ start
start_at-same starts m start l = get_or-set_same starts m start idle l

start_at-other : (starts : List Start) (m k : ℕ) (start : Start) → k ≢ m → start_at (set starts m start) k ≡ start_at starts k
start_at-other starts m k start apart = get_or-set_other starts m k start idle apart

chains_after : (entries new : List Entry) (starts : List Start) (free : Start) (m : ℕ) (start now : Start) (chain links : Chain) → m < length starts → IsRelinked entries new starts free m start now chain links → (k : ℕ) → k < length starts → (chain_from new (start_at (set starts m start) k) ≡ slice_index_or (set (map (chain_from entries) starts) m chain) k []) × IsListed new (Header k) (start_at (set starts m start) k) (chain_from new (start_at (set starts m start) k))
chains_after entries new starts free m start now chain links l re k below = by (k == m) refl
  where
    old : List Chain
    old = map (chain_from entries) starts

    within : m < length old
    within = rw length-map l

    by : (b : Bool) → (k == m) ≡ b → (chain_from new (start_at (set starts m start) k) ≡ slice_index_or (set old m chain) k []) × IsListed new (Header k) (start_at (set starts m start) k) (chain_from new (start_at (set starts m start) k))
    by true e =
        let same : k ≡ m = grind (arith, nat_tests, e) in
        let spelled : chain_from new start ≡ chain = chain_from_listed new (Header m) start chain re.line in
        rw (same, start_at-same starts m start l, spelled, get_or-set_same old m chain [] within) (refl, re.line)
    by false e =
        let apart : k ≢ m = grind (arith, nat_tests, e) in
        let spelled : chain_from new (start_at starts k) ≡ chain_from entries (start_at starts k) = chain_from_listed new (Header k) (start_at starts k) (chain_from entries (start_at starts k)) (re.others k below apart) in
        rw (start_at-other starts m k start apart, spelled, get_or-set_other old m k chain [] apart) (sym (get_or-map (chain_from entries) starts k idle), re.others k below apart)

pub relinked : (entries new : List Entry) (starts : List Start) (free : Start) (m : ℕ) (start now : Start) (chain links : Chain) → IsPool entries starts free → m < length starts → IsRelinked entries new starts free m start now chain links → IsPool new (set starts m start) now × (pool_in new (set starts m start) now ≡ with_chain (pool_in entries starts free) m chain (links_of links))
relinked entries new starts free m start now chain links is l re = (kept, same)
  where
    old : List Chain
    old = map (chain_from entries) starts

    within : m < length old
    within = rw length-map l

    at_old : slice_index_or old m [] ≡ chain_from entries (start_at starts m)
    at_old = get_or-map (chain_from entries) starts m idle

    after : (k : ℕ) → k < length starts → (chain_from new (start_at (set starts m start) k) ≡ slice_index_or (set old m chain) k []) × IsListed new (Header k) (start_at (set starts m start) k) (chain_from new (start_at (set starts m start) k))
    after = chains_after entries new starts free m start now chain links l re

    lists : map (chain_from new) (set starts m start) ≡ set old m chain
    lists =
        ext_get_or [] _ _ (length-map (set starts m start) (chain_from new) ∙ length-set starts m start ∙ sym (length-set old m chain ∙ length-map starts (chain_from entries)))
        (λ k below. get_or-map (chain_from new) (set starts m start) k idle ∙ (after k (subst (λ n. k < n) (length-map (set starts m start) (chain_from new) ∙ length-set starts m start) below)).0)

    freed : chain_from new now ≡ links
    freed = chain_from_listed new End now links re.free_list

    same : pool_in new (set starts m start) now ≡ with_chain (pool_in entries starts free) m chain (links_of links)
    same = λ i. record { chains = lists i; free = links_of (freed i); count = re.size i }

    stands : (x : ℕ) → times (with_chain (pool_in entries starts free) m chain (links_of links)) x ≡ times (pool_in entries starts free) x
    stands x =
        let f : Chain → ℕ = λ c. times_in x (links_of c) in
        let split : sum_by f (set old m chain) + f (slice_index_or old m []) ≡ sum_by f old + f chain = sum_by-set f old m chain [] within in
        let split' : sum_by f (set old m chain) + f (chain_from entries (start_at starts m)) ≡ sum_by f old + f chain = rw at_old at split in
        let e = re.same x in
        omega (arith, split', e)

    total : length (links_of links) + sum_by length (set old m chain) ≡ length entries
    total =
        let split : sum_by length (set old m chain) + length (slice_index_or old m []) ≡ sum_by length old + length chain = sum_by-set length old m chain [] within in
        let split' : sum_by length (set old m chain) + length (chain_from entries (start_at starts m)) ≡ sum_by length old + length chain = rw at_old at split in
        let now_many : length (links_of links) ≡ length links = length-map links (λ e. e.0) in
        let was_many : length (links_of (chain_from entries free)) ≡ length (chain_from entries free) = length-map (chain_from entries free) (λ e. e.0) in
        let was : length (links_of (chain_from entries free)) + sum_by length old ≡ length entries = is.partition.total in
        let e = re.many in
        omega (arith, split', now_many, was_many, was, e)

    partition : IsPartition (with_chain (pool_in entries starts free) m chain (links_of links))
    partition = record {
      once = λ x below. stands x ∙ is.partition.once x below;
      never = λ x above. stands x ∙ is.partition.never x above;
      total = total;
    }

    kept : IsPool new (set starts m start) now
    kept = record {
      lines = λ k below. (after k (subst (λ n. k < n) (length-set starts m start) below)).1;
      free_list = rw freed re.free_list;
      partition = subst IsPartition (sym same) partition;
      fits = rw re.size is.fits;
    }
