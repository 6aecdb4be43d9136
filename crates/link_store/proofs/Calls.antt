-- What the calls that move a link leave. In each, the link leaves one list and enters another, so that each link stands as often in
-- the two together as before.
use Rattle.std.specs.Prelude.{◌≡◌, ℕ, ◌+◌, ◌-◌, ◌<◌, ◌≤◌, ◌≢◌, List, [], ◌∷◌, length}
use Rattle.std.proofs.Common.{refl, arith, set, length-set}
use Rattle.link_store.specs.declared.entries.Next.{Next}
use Rattle.link_store.specs.declared.entries.Next.TheVariants.{Link, End, Header}
use Rattle.link_store.specs.declared.entries.Entry.{Entry}
use Rattle.link_store.specs.declared.entries.Start.{Start}
use Rattle.link_store.specs.Pools.{Chain, links_of, times_in, after_put, after_pop}
use Rattle.link_store.specs.Entries.{entry_at, IsListed, chain_from, start_at, pool_in, IsPool}
use Rattle.link_store.proofs.Walks.{IsListed-set}
use Rattle.link_store.proofs.Times.{times_in-same, beside_free, beside_chain}
use Rattle.link_store.proofs.Relinked.{IsRelinked, relinked, chain_at}
use Rattle.link_store.proofs.Steps.{pushed, popped}
use Rattle.std.proofs.lemmas.List.{length-map}

-- a link of a line's chain stands in no other chain and isn't free
pub apart_chain : (entries : List Entry) (starts : List Start) (free : Start) → IsPool entries starts free → (x m k : ℕ) → m < length starts → k < length starts → k ≢ m → 1 ≤ times_in x (links_of (chain_from entries (start_at starts m))) → times_in x (links_of (chain_from entries (start_at starts k))) ≡ 0
apart_chain entries starts free is x m k l below apart there =
    let pool = pool_in entries starts free in
    let two = beside_chain pool is.partition x m k (rw length-map l) (rw length-map below) apart in
    let two' = rw (chain_at entries starts free m, chain_at entries starts free k) at two in
    omega (arith, two', there)

pub free_apart : (entries : List Entry) (starts : List Start) (free : Start) → IsPool entries starts free → (x m : ℕ) → m < length starts → times_in x (links_of (chain_from entries (start_at starts m))) + times_in x (links_of (chain_from entries free)) ≤ 1
free_apart entries starts free is x m l =
    rw chain_at at (beside_free (pool_in entries starts free) is.partition x m (rw length-map l))

abbrev pub entry_of : ℕ → Next → Entry
entry_of node next = record { node = node; next = next }

abbrev pub start_of : Next → ℕ → Start
start_of first len = record { first = first; len = len }

-- the first free link goes in front of the line's chain
pub put_by : (entries : List Entry) (starts : List Start) (free : Start) (m node x : ℕ) (links : Chain) → IsPool entries starts free → m < length starts → free.first ≡ Link x → chain_from entries free ≡ links → IsListed entries End free links →
    let new : List Entry = set entries x (entry_of node (start_at starts m).first) in
    let starts' : List Start = set starts m (start_of (Link x) ((start_at starts m).len + 1)) in
    let free' : Start = start_of (entry_at entries x).next (free.len - 1) in
    IsPool new starts' free' × (pool_in new starts' free' ≡ after_put (pool_in entries starts free) m node (links_of links))
put_by entries starts free m node x [] is l first at listed = let e = listed.spells in cc
put_by entries starts free m node x (e ∷ links) is l first at listed =
    rw (same, chain_at entries starts free m) (relinked entries new starts free m (start_of (Link e.0) ((start_at starts m).len + 1)) (start_of (entry_at entries e.0).next (free.len - 1)) ((e.0, node) ∷ chain) links is l relink)
  where
    same : x ≡ e.0
    same = let f = listed.spells.0 in cc

    chain : Chain
    chain = chain_from entries (start_at starts m)

    new : List Entry
    new = set entries e.0 (entry_of node (start_at starts m).first)

    again : times_in e.0 (links_of (chain_from entries free)) ≡ 1 + times_in e.0 (links_of links)
    again = rw at (times_in-same e.0 (links_of links))

    apart : times_in e.0 (links_of chain) + times_in e.0 (links_of (chain_from entries free)) ≤ 1
    apart = free_apart entries starts free is e.0 m l

    relink : IsRelinked entries new starts free m (start_of (Link e.0) ((start_at starts m).len + 1)) (start_of (entry_at entries e.0).next (free.len - 1)) ((e.0, node) ∷ chain) links
    relink = record {
      size = length-set entries e.0 (entry_of node (start_at starts m).first);
      others = λ k below other. IsListed-set entries e.0 (entry_of node (start_at starts m).first) (Header k) (start_at starts k) (chain_from entries (start_at starts k)) (let most = free_apart entries starts free is e.0 k below in omega (arith, most, again)) (is.lines k below);
      line = pushed entries (Header m) (start_at starts m) chain e.0 node listed.spells.1 (omega (arith, apart, again)) (is.lines m l);
      free_list = IsListed-set entries e.0 (entry_of node (start_at starts m).first) End (start_of (entry_at entries e.0).next (free.len - 1)) links (omega (arith, apart, again)) (popped entries End free e links listed);
      same = λ y. rw at (omega arith);
      many = rw at (omega arith);
    }

pub put_after : (entries : List Entry) (starts : List Start) (free : Start) (m node x : ℕ) → IsPool entries starts free → m < length starts → free.first ≡ Link x →
    let new : List Entry = set entries x (entry_of node (start_at starts m).first) in
    let starts' : List Start = set starts m (start_of (Link x) ((start_at starts m).len + 1)) in
    let free' : Start = start_of (entry_at entries x).next (free.len - 1) in
    IsPool new starts' free' × (pool_in new starts' free' ≡ after_put (pool_in entries starts free) m node (links_of (chain_from entries free)))
put_after entries starts free m node x is l first = put_by entries starts free m node x (chain_from entries free) is l first refl is.free_list

-- the first link of the line's chain becomes free. What stands in its entry as its node is of no matter
pub pop_by : (entries : List Entry) (starts : List Start) (free : Start) (m node x : ℕ) (chain : Chain) → IsPool entries starts free → m < length starts → (start_at starts m).first ≡ Link x → chain_from entries (start_at starts m) ≡ chain → IsListed entries (Header m) (start_at starts m) chain →
    let new : List Entry = set entries x (entry_of node free.first) in
    let starts' : List Start = set starts m (start_of (entry_at entries x).next ((start_at starts m).len - 1)) in
    let free' : Start = start_of (Link x) (free.len + 1) in
    IsPool new starts' free' × (pool_in new starts' free' ≡ after_pop (pool_in entries starts free) m chain)
pop_by entries starts free m node x [] is l first at listed = let e = listed.spells in cc
pop_by entries starts free m node x (e ∷ chain) is l first at listed =
    rw same (relinked entries new starts free m (start_of (entry_at entries e.0).next ((start_at starts m).len - 1)) (start_of (Link e.0) (free.len + 1)) chain ((e.0, node) ∷ links) is l relink)
  where
    same : x ≡ e.0
    same = let f = listed.spells.0 in cc

    links : Chain
    links = chain_from entries free

    new : List Entry
    new = set entries e.0 (entry_of node free.first)

    again : times_in e.0 (links_of (chain_from entries (start_at starts m))) ≡ 1 + times_in e.0 (links_of chain)
    again = rw at (times_in-same e.0 (links_of chain))

    apart : times_in e.0 (links_of (chain_from entries (start_at starts m))) + times_in e.0 (links_of links) ≤ 1
    apart = free_apart entries starts free is e.0 m l

    relink : IsRelinked entries new starts free m (start_of (entry_at entries e.0).next ((start_at starts m).len - 1)) (start_of (Link e.0) (free.len + 1)) chain ((e.0, node) ∷ links)
    relink = record {
      size = length-set entries e.0 (entry_of node free.first);
      others = λ k below other. IsListed-set entries e.0 (entry_of node free.first) (Header k) (start_at starts k) (chain_from entries (start_at starts k)) (apart_chain entries starts free is e.0 m k l below other (omega (arith, again))) (is.lines k below);
      line = IsListed-set entries e.0 (entry_of node free.first) (Header m) (start_of (entry_at entries e.0).next ((start_at starts m).len - 1)) chain (omega (arith, apart, again)) (popped entries (Header m) (start_at starts m) e chain listed);
      free_list = pushed entries End free links e.0 node listed.spells.1 (omega (arith, apart, again)) is.free_list;
      same = λ y. rw at (omega arith);
      many = rw at (omega arith);
    }

pub pop_after : (entries : List Entry) (starts : List Start) (free : Start) (m node x : ℕ) → IsPool entries starts free → m < length starts → (start_at starts m).first ≡ Link x →
    let new : List Entry = set entries x (entry_of node free.first) in
    let starts' : List Start = set starts m (start_of (entry_at entries x).next ((start_at starts m).len - 1)) in
    let free' : Start = start_of (Link x) (free.len + 1) in
    IsPool new starts' free' × (pool_in new starts' free' ≡ after_pop (pool_in entries starts free) m (chain_from entries (start_at starts m)))
pop_after entries starts free m node x is l first = pop_by entries starts free m node x (chain_from entries (start_at starts m)) is l first refl (is.lines m l)
