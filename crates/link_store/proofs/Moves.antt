-- The same in the words of the code, which reads an element, writes a new one in its place, and counts up and down: there is room
-- for one more in each count, since all lists together have no more links than there are.
use Rattle.std.specs.Prelude.{◌≡◌, ℕ, ◌+◌, ◌-◌, ◌<◌, ◌≤◌, ◌^◌, List, [], ◌∷◌, length, map, sum_by, Some}
use Rattle.std.proofs.Common.{sym, ap, subst, ◌∙◌, arith, set, get_or}
use Rattle.std.proofs.lemmas.List.{get_or_read, length-map}
use Rattle.std.proofs.lemmas.List.Sums.{get_or-le-sum_by}
use Rattle.link_store.specs.declared.entries.Next.{Next}
use Rattle.link_store.specs.declared.entries.Next.TheVariants.{Link, End, Header}
use Rattle.link_store.specs.declared.entries.Entry.{Entry}
use Rattle.link_store.specs.declared.entries.Start.{Start}
use Rattle.link_store.specs.Pools.{Chain, links_of, Pool, chain_of, after_put, after_pop, first_node}
use Rattle.link_store.specs.Entries.{entry_at, blank, idle, IsListed, chain_from, start_at, pool_in, IsPool}
use Rattle.link_store.proofs.Relinked.{chain_at}
use Rattle.link_store.proofs.Calls.{entry_of, start_of, put_after, pop_after}

-- the first link of a list that is spelled is a link of the array, and the list isn't empty
pub first_below : (entries : List Entry) (stop : Next) (start : Start) (x : ℕ) (chain : Chain) → (Link x ≡ stop → ⊥) → start.first ≡ Link x → IsListed entries stop start chain → (x < length entries) × (1 ≤ start.len)
first_below entries stop start x [] inside first listed = let e = listed.spells in absurd (inside (sym first ∙ e))
first_below entries stop start x (e ∷ chain) inside first listed =
    let same : x ≡ e.0 = let f = listed.spells.0 in cc in
    let many = listed.many in
    (rw same listed.spells.1, omega (arith, many))

-- the lists of a line and of the free links have together no more links than there are
pub both_fit : (entries : List Entry) (starts : List Start) (free : Start) → IsPool entries starts free → (m : ℕ) → m < length starts → free.len + (start_at starts m).len < 2 ^ 32
both_fit entries starts free is m l =
    let chains : List Chain = map (chain_from entries) starts in
    let one : length (get_or chains m []) ≤ sum_by length chains = get_or-le-sum_by length chains m [] (rw length-map l) in
    let at : length (chain_from entries (start_at starts m)) ≤ sum_by length chains = rw (chain_at entries starts free m) at one in
    let line = (is.lines m l).many in
    let freed = is.free_list.many in
    let links : length (links_of (chain_from entries free)) ≡ length (chain_from entries free) = length-map (chain_from entries free) (λ e. e.0) in
    let total = is.partition.total in
    let fits = is.fits in
    omega (arith, at, line, freed, links, total, fits)

-- a line of the pool has a start
pub line_below : (entries : List Entry) (starts : List Start) (free : Start) (pool : Pool) (m : ℕ) → pool_in entries starts free ≡ pool → m < length pool.chains → m < length starts
line_below entries starts free pool m view l =
    let l' : m < length (map (chain_from entries) starts) = subst (λ (p : Pool). m < length p.chains) (sym view) l in
    rw length-map at l'

pub put_done : (entries : List Entry) (starts : List Start) (free : Start) (pool : Pool) (m node x : ℕ) (at entry : Entry) (line start : Start) → IsPool entries starts free → pool_in entries starts free ≡ pool → m < length starts → free.first ≡ Link x → at ≡ get_or entries x at → line ≡ get_or starts m line → entry ≡ entry_of node line.first → start ≡ start_of (Link x) (line.len + 1) →
    let new : List Entry = set entries x entry in
    let starts' : List Start = set starts m start in
    let free' : Start = start_of at.next (free.len - 1) in
    IsPool new starts' free' × (pool_in new starts' free' ≡ after_put pool m node pool.free)
put_done entries starts free pool m node x at entry line start is view l first at_is line_is entry_is start_is =
    let below = (first_below entries End free x (chain_from entries free) (λ e. cc) first is.free_list).0 in
    let found : at ≡ entry_at entries x = get_or_read entries x at below at_is blank in
    let line_found : line ≡ start_at starts m = get_or_read starts m line l line_is idle in
    let done = put_after entries starts free m node x is l first in
    rw (entry_is, start_is, found, line_found) (done.0, done.1 ∙ ap (λ (p : Pool). after_put p m node p.free) view)

pub pop_done : (entries : List Entry) (starts : List Start) (free : Start) (pool : Pool) (m node x : ℕ) (at entry : Entry) (line start : Start) → IsPool entries starts free → pool_in entries starts free ≡ pool → m < length starts → line.first ≡ Link x → at ≡ get_or entries x at → line ≡ get_or starts m line → entry ≡ entry_of node free.first → start ≡ start_of (Link x) (free.len + 1) →
    let new : List Entry = set entries x entry in
    let starts' : List Start = set starts m (start_of at.next (line.len - 1)) in
    IsPool new starts' start × (pool_in new starts' start ≡ after_pop pool m (chain_of pool m))
pop_done entries starts free pool m node x at entry line start is view l first at_is line_is entry_is start_is =
    let line_found : line ≡ start_at starts m = get_or_read starts m line l line_is idle in
    let first' : (start_at starts m).first ≡ Link x = rw line_found at first in
    let below = (first_below entries (Header m) (start_at starts m) x (chain_from entries (start_at starts m)) (λ e. cc) first' (is.lines m l)).0 in
    let found : at ≡ entry_at entries x = get_or_read entries x at below at_is blank in
    let done = pop_after entries starts free m node x is l first' in
    let seen : chain_from entries (start_at starts m) ≡ chain_of (pool_in entries starts free) m = sym (chain_at entries starts free m) in
    rw (entry_is, start_is, found, line_found) (done.0, done.1 ∙ ap (after_pop (pool_in entries starts free) m) seen ∙ ap (λ (p : Pool). after_pop p m (chain_of p m)) view)

-- the first link of a line's chain
pub line_first : (entries : List Entry) (starts : List Start) (free : Start) (m x : ℕ) (line : Start) → IsPool entries starts free → m < length starts → line.first ≡ Link x → line ≡ get_or starts m line → (x < length entries) × (1 ≤ line.len) × (free.len + 1 < 2 ^ 32)
line_first entries starts free m x line is l first line_is =
    let line_found : line ≡ start_at starts m = get_or_read starts m line l line_is idle in
    let first' : (start_at starts m).first ≡ Link x = rw line_found at first in
    let below = first_below entries (Header m) (start_at starts m) x (chain_from entries (start_at starts m)) (λ e. cc) first' (is.lines m l) in
    let both = both_fit entries starts free is m l in
    (below.0, rw line_found below.1, omega (arith, both, below.1))

-- there is room in a line's count for a free link
pub room_for : (entries : List Entry) (starts : List Start) (free : Start) (m x : ℕ) (line : Start) → IsPool entries starts free → m < length starts → free.first ≡ Link x → line ≡ get_or starts m line → line.len + 1 < 2 ^ 32
room_for entries starts free m x line is l first line_is =
    let line_found : line ≡ start_at starts m = get_or_read starts m line l line_is idle in
    let both = both_fit entries starts free is m l in
    let one = (first_below entries End free x (chain_from entries free) (λ e. cc) first is.free_list).1 in
    rw line_found (omega (arith, both, one))

-- the node of the first link of a chain
pub popped_node : (entries : List Entry) (stop : Next) (x : ℕ) (start : Start) (chain : Chain) → (Link x ≡ stop → ⊥) → start.first ≡ Link x → IsListed entries stop start chain → first_node chain ≡ Some (entry_at entries x).node
popped_node entries stop x start [] inside first listed = let e = listed.spells in absurd (inside (sym first ∙ e))
popped_node entries stop x start (e ∷ chain) inside first listed =
    let same : x ≡ e.0 = let f = listed.spells.0 in cc in
    ap Some (sym (listed.spells.2) ∙ ap (λ i. (entry_at entries i).node) (sym same))

pub node_popped : (entries : List Entry) (starts : List Start) (free : Start) (pool : Pool) (m x : ℕ) (at : Entry) (line : Start) → IsPool entries starts free → pool_in entries starts free ≡ pool → m < length starts → line.first ≡ Link x → at ≡ get_or entries x at → line ≡ get_or starts m line → Some at.node ≡ first_node (chain_of pool m)
node_popped entries starts free pool m x at line is view l first at_is line_is =
    let line_found : line ≡ start_at starts m = get_or_read starts m line l line_is idle in
    let first' : (start_at starts m).first ≡ Link x = rw line_found at first in
    let below = (line_first entries starts free m x line is l first line_is).0 in
    let found : at ≡ entry_at entries x = get_or_read entries x at below at_is blank in
    let node = popped_node entries (Header m) x (start_at starts m) (chain_from entries (start_at starts m)) (λ e. cc) first' (is.lines m l) in
    ap (λ (e : Entry). Some e.node) found ∙ sym node ∙ ap first_node (sym (chain_at entries starts free m)) ∙ ap (λ (p : Pool). first_node (chain_of p m)) view
