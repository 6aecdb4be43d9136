-- The loops that walk along a list: to a place, to the first link with a node, and to its end. Where a walk stands, what is left of
-- its list is spelled from there, and gets shorter.
use Rattle.std.specs.Prelude.{◌≡◌, ℕ, zero, suc, ◌+◌, ◌<◌, ◌≤◌, ◌≢◌, ◌==◌, false, true, List, [], ◌∷◌, ◌++◌, length, drop, slice_index, Option, Some}
use Rattle.std.proofs.Common.{refl, sym, ap, ◌∙◌, arith, get_or, append_assoc}
use Rattle.std.proofs.lemmas.Bool.Decides.{nat_tests}
use Rattle.std.proofs.lemmas.List.{get_or_read, append-nil, drop_more}
use Rattle.std.proofs.Math.ListN.{get_or-map}
use Rattle.std.proofs.lemmas.List.Folds.{list_any-append}
use Rattle.link_store.specs.declared.entries.Next.{Next}
use Rattle.link_store.specs.declared.entries.Next.TheVariants.{Link, End, Header}
use Rattle.link_store.specs.declared.entries.Entry.{Entry}
use Rattle.link_store.specs.declared.entries.Start.{Start}
use Rattle.link_store.specs.Pools.{Chain, links_of, nodes_of, has_node, Pool, chain_of}
use Rattle.link_store.specs.Entries.{entry_at, blank, Spells, IsStop, IsLink, chain_from, last_link, IsFound, walked, idle, start_at, pool_in, IsPool}
use Rattle.link_store.proofs.Walks.{walked_on}
use Rattle.link_store.proofs.Relinked.{chain_at}

-- an element of the array, whatever is read past its end
pub any_default : (entries : List Entry) (x : ℕ) (d e : Entry) → x < length entries → get_or entries x d ≡ get_or entries x e
any_default [] x d e l = absurd (omega arith)
any_default (entry ∷ entries) zero d e l = refl
any_default (entry ∷ entries) (suc x) d e l = any_default entries x d e (omega arith)

-- what is left of a list that is spelled from a link: that link, and the rest from its next on
pub at_link : (entries : List Entry) (at stop : Next) (x : ℕ) (entry : Entry) (rest : Chain) → IsStop stop → Spells entries at stop rest → at ≡ Link x → entry ≡ entry_at entries x →
    (left : Chain) × (rest ≡ (x, entry.node) ∷ left) × Spells entries entry.next stop left × (x < length entries)
at_link entries at End x entry [] outside s is at_is = cc
at_link entries at (Header m) x entry [] outside s is at_is = cc
at_link entries at (Link y) x entry [] outside s is at_is = absurd outside
at_link entries at stop x entry (e ∷ rest) outside s is at_is =
    let same : x ≡ e.0 = let f = s.0 in cc in
    let below : x < length entries = rw same s.1 in
    let node : entry.node ≡ e.1 = ap (λ (y : Entry). y.node) at_is ∙ ap (λ i. (entry_at entries i).node) same ∙ s.2 in
    (rest, (λ i. (sym same i, sym node i) ∷ rest), rw (at_is, same) s.3, below)

pub below_link : (entries : List Entry) (at stop : Next) (x : ℕ) (rest : Chain) → IsStop stop → Spells entries at stop rest → at ≡ Link x → x < length entries
below_link entries at End x [] outside s is = cc
below_link entries at (Header m) x [] outside s is = cc
below_link entries at (Link y) x [] outside s is = absurd outside
below_link entries at stop x (e ∷ rest) outside s is = let same : x ≡ e.0 = let f = s.0 in cc in rw same s.1

-- The search for a node has passed some links, none of which has it
pub record IsSearching (entries : List Entry) (start : Start) (node : ℕ) (before : Option ℕ) (at : Next) : Type 0 where
  pub stop : Next
  pub outside : IsStop stop
  pub done : Chain
  pub rest : Chain
  pub split : chain_from entries start ≡ done ++ rest
  pub first : has_node done node ≡ false
  pub last : before ≡ last_link done
  pub spells : Spells entries at stop rest
  pub many : length rest ≤ start.len

last_link-push : (done : Chain) (x node : ℕ) → Some x ≡ last_link (done ++ (x, node) ∷ [])
last_link-push [] x node = refl
last_link-push (e ∷ []) x node = refl
last_link-push (e ∷ f ∷ done) x node = last_link-push (f ∷ done) x node

pub searching_next : (entries : List Entry) (start : Start) (node x : ℕ) (before : Option ℕ) (at : Next) (entry : Entry) → IsSearching entries start node before at → at ≡ Link x → entry ≡ entry_at entries x → entry.node ≢ node → IsSearching entries start node (Some x) entry.next
searching_next entries start node x before at entry so is at_is apart =
    let on = at_link entries at so.stop x entry so.rest so.outside so.spells is at_is in
    let test : (entry.node == node) ≡ false = grind (arith, nat_tests) in
    record {
      stop = so.stop;
      outside = so.outside;
      done = so.done ++ (x, entry.node) ∷ [];
      rest = on.0;
      split = so.split ∙ ap (λ (rest : Chain). so.done ++ rest) on.1 ∙ sym (append_assoc so.done ((x, entry.node) ∷ []) on.0);
      first = list_any-append (λ (e : ℕ × ℕ). e.1 == node) so.done ((x, entry.node) ∷ []) ∙ rw (so.first, test) refl;
      last = last_link-push so.done x entry.node;
      spells = on.2;
      many = let many = so.many in let e = ap length on.1 in omega (arith, many, e);
    }

pub searching_smaller : (entries : List Entry) (start : Start) (node x : ℕ) (before : Option ℕ) (at : Next) (entry : Entry) → IsSearching entries start node before at → at ≡ Link x → entry ≡ entry_at entries x → length (walked entries start.len entry.next) < length (walked entries start.len at)
searching_smaller entries start node x before at entry so is at_is =
    let on = at_link entries at so.stop x entry so.rest so.outside so.spells is at_is in
    let many = so.many in
    let e = ap length on.1 in
    let now : walked entries start.len at ≡ so.rest = walked_on entries at so.stop so.rest start.len so.outside so.spells many in
    let next : walked entries start.len entry.next ≡ on.0 = walked_on entries entry.next so.stop on.0 start.len so.outside on.2 (omega (arith, many, e)) in
    rw (now, next) (omega (arith, e))

pub searching_below : (entries : List Entry) (start : Start) (node x : ℕ) (before : Option ℕ) (at : Next) → IsSearching entries start node before at → at ≡ Link x → x < length entries
searching_below entries start node x before at so is = below_link entries at so.stop x so.rest so.outside so.spells is

pub searching_found : (entries : List Entry) (start : Start) (node x : ℕ) (before : Option ℕ) (at : Next) (entry : Entry) → IsSearching entries start node before at → at ≡ Link x → entry ≡ entry_at entries x → entry.node ≡ node → IsFound (chain_from entries start) node (record { before = before; link = x }) × (has_node (chain_from entries start) node ≡ true)
searching_found entries start node x before at entry so is at_is same =
    let on = at_link entries at so.stop x entry so.rest so.outside so.spells is at_is in
    let rest : so.rest ≡ (x, node) ∷ on.0 = on.1 ∙ (λ i. (x, same i) ∷ on.0) in
    let split : chain_from entries start ≡ so.done ++ (x, node) ∷ on.0 = so.split ∙ ap (λ (rest : Chain). so.done ++ rest) rest in
    let test : (node == node) ≡ true = grind (arith, nat_tests) in (
      record { done = so.done; rest = on.0; split = split; first = so.first; last = so.last },
      ap (λ (chain : Chain). has_node chain node) split ∙ list_any-append (λ (e : ℕ × ℕ). e.1 == node) so.done ((x, node) ∷ on.0) ∙ rw (so.first, test) refl,
    )

pub nothing_left : (entries : List Entry) (at stop : Next) (rest : Chain) → IsStop at → Spells entries at stop rest → rest ≡ []
nothing_left entries at stop [] outside s = refl
nothing_left entries End stop (e ∷ rest) outside s = let f = s.0 in cc
nothing_left entries (Header m) stop (e ∷ rest) outside s = let f = s.0 in cc
nothing_left entries (Link x) stop (e ∷ rest) outside s = absurd outside

pub searching_none : (entries : List Entry) (start : Start) (node : ℕ) (before : Option ℕ) (at : Next) → IsSearching entries start node before at → IsStop at → has_node (chain_from entries start) node ≡ false
searching_none entries start node before at so ended =
    let none = nothing_left entries at so.stop so.rest ended so.spells in
    ap (λ (chain : Chain). has_node chain node) (so.split ∙ ap (λ (rest : Chain). so.done ++ rest) none ∙ append-nil so.done) ∙ so.first

pub stop_if : (at : Next) → ((x : ℕ) → at ≡ Link x → ⊥) → IsStop at
stop_if (Link x) none = none x refl
stop_if End none = tt
stop_if (Header m) none = tt

-- The walk to a place of a list has made so many steps
pub record IsAt (entries : List Entry) (start : Start) (i : ℕ) (at : Next) : Type 0 where
  pub stop : Next
  pub outside : IsStop stop
  pub spells : Spells entries at stop (drop i (chain_from entries start))
  pub many : length (chain_from entries start) ≡ start.len

here : (entries : List Entry) (start : Start) (i : ℕ) (at : Next) → IsAt entries start i at → i < start.len → drop i (chain_from entries start) ≡ get_or (chain_from entries start) i (0, 0) ∷ drop (i + 1) (chain_from entries start)
here entries start i at so l = let many = so.many in drop_more (chain_from entries start) i (0, 0) (omega arith)

pub is_link : (entries : List Entry) (start : Start) (i : ℕ) (at : Next) → IsAt entries start i at → i < start.len → IsLink at
is_link entries start i at so l = rw (rw (here entries start i at so l) at so.spells).0 tt

pub at_below : (entries : List Entry) (start : Start) (i x : ℕ) (at : Next) → IsAt entries start i at → at ≡ Link x → x < length entries
at_below entries start i x at so is = below_link entries at so.stop x (drop i (chain_from entries start)) so.outside so.spells is

pub at_next : (entries : List Entry) (start : Start) (i x : ℕ) (at : Next) (entry : Entry) → IsAt entries start i at → i < start.len → at ≡ Link x → entry ≡ entry_at entries x → IsAt entries start (i + 1) entry.next
at_next entries start i x at entry so l is at_is =
    let s = rw (here entries start i at so l) at so.spells in
    let same : x ≡ (get_or (chain_from entries start) i (0, 0)).0 = let f = s.0 in cc in
    record { stop = so.stop; outside = so.outside; spells = rw (at_is, same) s.3; many = so.many }

pub at_value : (entries : List Entry) (start : Start) (i x : ℕ) (at : Next) → IsAt entries start i at → i < start.len → at ≡ Link x → x ≡ slice_index (links_of (chain_from entries start)) i
at_value entries start i x at so l is =
    let s = rw (here entries start i at so l) at so.spells in
    let same : x ≡ (get_or (chain_from entries start) i (0, 0)).0 = let f = s.0 in cc in
    same ∙ sym (get_or-map (λ (e : ℕ × ℕ). e.0) (chain_from entries start) i (0, 0))

-- the node at a place of a list that is spelled
spelled_node : (entries : List Entry) (from stop : Next) (chain : Chain) (i : ℕ) → Spells entries from stop chain → i < length chain → (entry_at entries (slice_index (links_of chain) i)).node ≡ slice_index (nodes_of chain) i
spelled_node entries from stop [] i s l = absurd (omega arith)
spelled_node entries from stop (e ∷ chain) zero s l = s.2
spelled_node entries from stop (e ∷ chain) (suc i) s l = spelled_node entries (entry_at entries e.0).next stop chain i s.3 (omega arith)

pub node_in : (entries slice : List Entry) (starts : List Start) (free : Start) (pool : Pool) (m i link : ℕ) (line : Start) (entry : Entry) → IsPool entries starts free → pool_in entries starts free ≡ pool → m < length starts → i < length (chain_of pool m) → slice ≡ entries → line ≡ get_or starts m line → link < length slice → link ≡ slice_index (links_of (chain_from slice line)) i → entry ≡ get_or entries link entry → entry.node ≡ slice_index (nodes_of (chain_of pool m)) i
node_in entries slice starts free pool m i link line entry is view l place same line_is below link_is entry_is =
    let line_found : line ≡ start_at starts m = get_or_read starts m line l line_is idle in
    let seen : chain_of pool m ≡ chain_from entries (start_at starts m) = ap (λ (p : Pool). chain_of p m) (sym view) ∙ chain_at entries starts free m in
    let at : link ≡ slice_index (links_of (chain_from entries (start_at starts m))) i = link_is ∙ (λ j. slice_index (links_of (chain_from (same j) (line_found j))) i) in
    let found : entry ≡ entry_at entries link = get_or_read entries link entry (rw same at below) entry_is blank in
    let place' : i < length (chain_from entries (start_at starts m)) = rw seen at place in
    ap (λ (e : Entry). e.node) found ∙ ap (λ x. (entry_at entries x).node) at
    ∙ spelled_node entries (start_at starts m).first (Header m) (chain_from entries (start_at starts m)) i (is.lines m l).spells place'
    ∙ ap (λ (chain : Chain). slice_index (nodes_of chain) i) (sym seen)
