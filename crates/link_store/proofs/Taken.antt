-- `unlink` in the words of its code, which has two ways to take the link out and then one end.
use Rattle.std.specs.Prelude.{◌≡◌, ℕ, ◌+◌, ◌-◌, ◌<◌, ◌≤◌, ◌||◌, ◌==◌, Bool, false, true, cond, List, [], ◌∷◌, ◌++◌, length, Some, None}
use Rattle.std.proofs.Common.{refl, sym, ap, subst, ◌∙◌, arith, set, get_or}
use Rattle.std.proofs.lemmas.List.{get_or_read, length-append}
use Rattle.link_store.specs.declared.entries.Next.{Next}
use Rattle.link_store.specs.declared.entries.Next.TheVariants.{Link, Header}
use Rattle.link_store.specs.declared.entries.Entry.{Entry}
use Rattle.link_store.specs.declared.entries.Start.{Start}
use Rattle.link_store.specs.declared.entries.Found.{Found}
use Rattle.link_store.specs.Pools.{Chain, has_node, Pool, chain_of, after_unlink, link_with}
use Rattle.link_store.specs.Entries.{entry_at, idle, Spells, chain_from, start_at, pool_in, IsPool, last_link, IsFound}
use Rattle.link_store.proofs.Relinked.{chain_at}
use Rattle.link_store.proofs.Calls.{entry_of, start_of}
use Rattle.link_store.proofs.Unlinking.{IsUnlinking, unlinked_pool, there}

-- what was found in the slice that the search was given
pub found_in : (entries slice : List Entry) (starts : List Start) (m node : ℕ) (line : Start) (found : Found) → m < length starts → slice ≡ entries → line ≡ get_or starts m line → IsFound (chain_from slice line) node found → IsFound (chain_from entries (start_at starts m)) node found
found_in entries slice starts m node line found l same line_is so =
    let line_found : line ≡ start_at starts m = get_or_read starts m line l line_is idle in
    rw (same, line_found) at so

-- the links that were found are links of the array, and the line has a link
pub found_below : (entries : List Entry) (starts : List Start) (free : Start) (m node : ℕ) (found : Found) → IsPool entries starts free → m < length starts → IsFound (chain_from entries (start_at starts m)) node found → (found.link < length entries) × (1 ≤ (start_at starts m).len)
found_below entries starts free m node found is l so =
    let s : Spells entries (start_at starts m).first (Header m) (so.done ++ (found.link, node) ∷ so.rest) = subst (Spells entries (start_at starts m).first (Header m)) so.split (is.lines m l).spells in
    let many = (is.lines m l).many in
    let e = ap length so.split ∙ length-append so.done ((found.link, node) ∷ so.rest) in
    (there entries (start_at starts m).first (Header m) found.link node so.done so.rest s, omega (arith, many, e))

last_below : (entries : List Entry) (from stop : Next) (b : ℕ) (done more : Chain) → last_link done ≡ Some b → Spells entries from stop (done ++ more) → b < length entries
last_below entries from stop b [] more last s = cc
last_below entries from stop b (e ∷ []) more last s = let same : e.0 ≡ b = cc in rw (← same) s.1
last_below entries from stop b (e ∷ f ∷ done) more last s = last_below entries (entry_at entries e.0).next stop b (f ∷ done) more last s.3

pub before_below : (entries : List Entry) (starts : List Start) (free : Start) (m node b : ℕ) (found : Found) → IsPool entries starts free → m < length starts → IsFound (chain_from entries (start_at starts m)) node found → found.before ≡ Some b → b < length entries
before_below entries starts free m node b found is l so some =
    let s : Spells entries (start_at starts m).first (Header m) (so.done ++ (found.link, node) ∷ so.rest) = subst (Spells entries (start_at starts m).first (Header m)) so.split (is.lines m l).spells in
    last_below entries (start_at starts m).first (Header m) b so.done ((found.link, node) ∷ so.rest) (sym so.last ∙ some) s

pub taken_done : (entries between : List Entry) (starts : List Start) (free : Start) (pool : Pool) (m node : ℕ) (found : Found) (first : Next) (entry : Entry) (line start : Start) → IsPool entries starts free → pool_in entries starts free ≡ pool → m < length starts → IsUnlinking entries between starts free m node found first → line ≡ get_or starts m line → entry ≡ entry_of node free.first → start ≡ start_of (Link found.link) (free.len + 1) →
    let new : List Entry = set between found.link entry in
    let starts' : List Start = set starts m (start_of first (line.len - 1)) in
    IsPool new starts' start × (pool_in new starts' start ≡ after_unlink pool m node (link_with (chain_of pool m) node))
taken_done entries between starts free pool m node found first entry line start is view l u line_is entry_is start_is =
    let line_found : line ≡ start_at starts m = get_or_read starts m line l line_is idle in
    let done = unlinked_pool entries between starts free m node node found first is l u in
    rw (entry_is, start_is, line_found) (done.0, done.1 ∙ ap (λ (p : Pool). after_unlink p m node (link_with (chain_of p m) node)) view)

-- where no link has the node, there is nothing to take out
none_with : (chain : Chain) (node : ℕ) → has_node chain node ≡ false → link_with chain node ≡ None
none_with [] node none = refl
none_with (e ∷ chain) node none = by (e.1 == node) none (λ later. none_with chain node later)
  where
    by : (b : Bool) → (b || has_node chain node) ≡ false → (has_node chain node ≡ false → link_with chain node ≡ None) → cond b (Some e.0) (link_with chain node) ≡ None
    by true none later = cc
    by false none later = later none

pub nothing_taken : (entries slice : List Entry) (starts : List Start) (free : Start) (pool : Pool) (m node : ℕ) (line : Start) → pool_in entries starts free ≡ pool → m < length starts → slice ≡ entries → line ≡ get_or starts m line → has_node (chain_from slice line) node ≡ false → pool ≡ after_unlink pool m node (link_with (chain_of pool m) node)
nothing_taken entries slice starts free pool m node line view l same line_is none =
    let line_found : line ≡ start_at starts m = get_or_read starts m line l line_is idle in
    let none' : has_node (chain_from entries (start_at starts m)) node ≡ false = rw (same, line_found) at none in
    let with' : link_with (chain_of pool m) node ≡ None = ap (λ (p : Pool). link_with (chain_of p m) node) (sym view) ∙ ap (λ (chain : Chain). link_with chain node) (chain_at entries starts free m) ∙ none_with (chain_from entries (start_at starts m)) node none' in
    ap (after_unlink pool m node) (sym with')
