-- What `unlink` leaves: the link before takes the next of the link that goes, or the header does where it was the first one, and the
-- link goes in front of the free list.
use Rattle.std.specs.Prelude.{◌≡◌, ℕ, ◌+◌, ◌-◌, ◌<◌, ◌≤◌, ◌≢◌, false, List, [], ◌∷◌, ◌++◌, length, Some, None}
use Rattle.std.proofs.Common.{refl, sym, ap, subst, ◌∙◌, arith, set, length-set}
use Rattle.std.proofs.lemmas.List.{length-append}
use Rattle.link_store.specs.declared.entries.Next.{Next}
use Rattle.link_store.specs.declared.entries.Next.TheVariants.{Link, End, Header}
use Rattle.link_store.specs.declared.entries.Entry.{Entry}
use Rattle.link_store.specs.declared.entries.Start.{Start}
use Rattle.link_store.specs.declared.entries.Found.{Found}
use Rattle.link_store.specs.Pools.{Chain, links_of, times_in, chain_of, with_chain, after_unlink, link_with, has_node}
use Rattle.link_store.specs.Entries.{entry_at, Spells, IsListed, chain_from, start_at, pool_in, IsPool, last_link, IsFound}
use Rattle.link_store.proofs.Walks.{IsListed-set}
use Rattle.link_store.proofs.Times.{times_in-same, times_in-chains}
use Rattle.link_store.proofs.Relinked.{IsRelinked, relinked, chain_at}
use Rattle.link_store.proofs.Steps.{pushed, unlinked, without_found, has_last}
use Rattle.link_store.proofs.Calls.{entry_of, start_of, apart_chain, free_apart}

-- the array after the link was taken out of its chain, before it becomes free
pub record IsTakenOut (entries between : List Entry) (starts : List Start) (free : Start) (m x node : ℕ) (first : Next) (done rest : Chain) : Type 0 where
  pub size : length between ≡ length entries
  pub others : (k : ℕ) → k < length starts → k ≢ m → IsListed between (Header k) (start_at starts k) (chain_from entries (start_at starts k))
  pub line : Spells between first (Header m) (done ++ rest)
  pub free_list : IsListed between End free (chain_from entries free)
  pub split : chain_from entries (start_at starts m) ≡ done ++ (x, node) ∷ rest
  pub below : x < length between

pub freed : (entries between : List Entry) (starts : List Start) (free : Start) (m x node other : ℕ) (first : Next) (done rest : Chain) → IsPool entries starts free → m < length starts → IsTakenOut entries between starts free m x node first done rest →
    let new : List Entry = set between x (entry_of other free.first) in
    let starts' : List Start = set starts m (start_of first ((start_at starts m).len - 1)) in
    let free' : Start = start_of (Link x) (free.len + 1) in
    IsPool new starts' free' × (pool_in new starts' free' ≡ with_chain (pool_in entries starts free) m (done ++ rest) (x ∷ links_of (chain_from entries free)))
freed entries between starts free m x node other first done rest is l out =
    relinked entries new starts free m (start_of first ((start_at starts m).len - 1)) (start_of (Link x) (free.len + 1)) (done ++ rest) ((x, other) ∷ links) is l relink
  where
    links : Chain
    links = chain_from entries free

    whole : Chain
    whole = chain_from entries (start_at starts m)

    new : List Entry
    new = set between x (entry_of other free.first)

    stands : (y : ℕ) → times_in y (links_of whole) ≡ times_in y (links_of (done ++ rest)) + times_in y (x ∷ [])
    stands y =
        let a = times_in-chains y done ((x, node) ∷ rest) in
        let b = times_in-chains y done rest in
        ap (λ (c : Chain). times_in y (links_of c)) out.split ∙ omega (arith, a, b)

    again : times_in x (links_of whole) ≡ times_in x (links_of (done ++ rest)) + 1
    again = let e = stands x in let f = times_in-same x [] in omega (arith, e, f)

    apart : times_in x (links_of whole) + times_in x (links_of links) ≤ 1
    apart = free_apart entries starts free is x m l

    many : length whole ≡ length (done ++ rest) + 1
    many = ap length out.split ∙ (let a = length-append done ((x, node) ∷ rest) in let b = length-append done rest in omega (arith, a, b))

    line_many : length whole ≡ (start_at starts m).len
    line_many = (is.lines m l).many

    relink : IsRelinked entries new starts free m (start_of first ((start_at starts m).len - 1)) (start_of (Link x) (free.len + 1)) (done ++ rest) ((x, other) ∷ links)
    relink = record {
      size = length-set between x (entry_of other free.first) ∙ out.size;
      others = λ k below other_line. IsListed-set between x (entry_of other free.first) (Header k) (start_at starts k) (chain_from entries (start_at starts k)) (apart_chain entries starts free is x m k l below other_line (omega (arith, again))) (out.others k below other_line);
      line = IsListed-set between x (entry_of other free.first) (Header m) (start_of first ((start_at starts m).len - 1)) (done ++ rest) (omega (arith, apart, again)) (record { spells = out.line; many = omega (arith, many, line_many) });
      free_list = pushed between End free links x other out.below (omega (arith, apart, again)) out.free_list;
      same = λ y. let e = stands y in omega (arith, e);
      many = omega (arith, many);
    }

-- the entry of a link that stands in a chain that is spelled
pub there : (entries : List Entry) (from stop : Next) (x node : ℕ) (done rest : Chain) → Spells entries from stop (done ++ (x, node) ∷ rest) → x < length entries
there entries from stop x node [] rest s = s.1
there entries from stop x node (e ∷ done) rest s = there entries (entry_at entries e.0).next stop x node done rest s.3

-- the link was the first one of its chain
pub first_out : (entries : List Entry) (starts : List Start) (free : Start) (m x node : ℕ) (rest : Chain) → IsPool entries starts free → m < length starts → chain_from entries (start_at starts m) ≡ (x, node) ∷ rest → IsTakenOut entries entries starts free m x node (entry_at entries x).next [] rest
first_out entries starts free m x node rest is l split =
    let s : Spells entries (start_at starts m).first (Header m) ((x, node) ∷ rest) = subst (Spells entries (start_at starts m).first (Header m)) split (is.lines m l).spells in
    record {
      size = refl;
      others = λ k below other. is.lines k below;
      line = s.3;
      free_list = is.free_list;
      split = split;
      below = s.1;
    }

-- or another one, with this link before it
pub later_out : (entries : List Entry) (starts : List Start) (free : Start) (m b x node : ℕ) (done rest : Chain) → IsPool entries starts free → m < length starts → last_link done ≡ Some b → chain_from entries (start_at starts m) ≡ done ++ (x, node) ∷ rest → IsTakenOut entries (set entries b (entry_of (entry_at entries b).node (entry_at entries x).next)) starts free m x node (start_at starts m).first done rest
later_out entries starts free m b x node done rest is l last split =
    record {
      size = length-set entries b entry;
      others = λ k below other. IsListed-set entries b entry (Header k) (start_at starts k) (chain_from entries (start_at starts k)) (apart_chain entries starts free is b m k l below other stands) (is.lines k below);
      line = unlinked entries (Header m) (start_at starts m).first b x node done rest last once s;
      free_list = IsListed-set entries b entry End free (chain_from entries free) (omega (arith, apart, stands)) is.free_list;
      split = split;
      below = rw length-set (there entries (start_at starts m).first (Header m) x node done rest s);
    }
  where
    entry : Entry
    entry = entry_of (entry_at entries b).node (entry_at entries x).next

    s : Spells entries (start_at starts m).first (Header m) (done ++ (x, node) ∷ rest)
    s = subst (Spells entries (start_at starts m).first (Header m)) split (is.lines m l).spells

    apart : times_in b (links_of (chain_from entries (start_at starts m))) + times_in b (links_of (chain_from entries free)) ≤ 1
    apart = free_apart entries starts free is b m l

    stands : 1 ≤ times_in b (links_of (chain_from entries (start_at starts m)))
    stands = rw split (has_last b done ((x, node) ∷ rest) last)

    once : times_in b (links_of (done ++ (x, node) ∷ rest)) ≤ 1
    once = rw (← split) (omega (arith, apart))

-- which pool that is
pub unlink_pool : (entries : List Entry) (starts : List Start) (free : Start) (m x node : ℕ) (done rest : Chain) → chain_from entries (start_at starts m) ≡ done ++ (x, node) ∷ rest → has_node done node ≡ false →
    with_chain (pool_in entries starts free) m (done ++ rest) (x ∷ links_of (chain_from entries free)) ≡ after_unlink (pool_in entries starts free) m node (link_with (chain_of (pool_in entries starts free) m) node)
unlink_pool entries starts free m x node done rest split none =
    let found = without_found node x done rest none in
    rw (chain_at entries starts free m, split, found.1, chain_at entries starts free m, split, found.0) refl

-- the array after `unlink` has taken the link out, and where the chain begins then
pub record IsUnlinking (entries between : List Entry) (starts : List Start) (free : Start) (m node : ℕ) (found : Found) (first : Next) : Type 0 where
  pub done : Chain
  pub rest : Chain
  pub out : IsTakenOut entries between starts free m found.link node first done rest
  pub absent : has_node done node ≡ false

no_last : (done : Chain) → last_link done ≡ None → done ≡ []
no_last [] none = refl
no_last (e ∷ []) none = cc
no_last (e ∷ f ∷ done) none = absurd (some_last e f done none)
  where
    some_last : (e f : ℕ × ℕ) (done : Chain) → last_link (e ∷ f ∷ done) ≡ None → ⊥
    some_last e f [] none = cc
    some_last e f (g ∷ done) none = some_last f g done none

pub first_unlinking : (entries : List Entry) (starts : List Start) (free : Start) (m node : ℕ) (found : Found) (at : Entry) → IsPool entries starts free → m < length starts → IsFound (chain_from entries (start_at starts m)) node found → found.before ≡ None → at ≡ entry_at entries found.link → IsUnlinking entries entries starts free m node found at.next
first_unlinking entries starts free m node found at is l so none at_is =
    let empty : so.done ≡ [] = no_last so.done (sym so.last ∙ none) in
    let split : chain_from entries (start_at starts m) ≡ (found.link, node) ∷ so.rest = so.split ∙ ap (λ (done : Chain). done ++ (found.link, node) ∷ so.rest) empty in
    record { done = []; rest = so.rest; out = rw at_is (first_out entries starts free m found.link node so.rest is l split); absent = refl }

pub later_unlinking : (entries : List Entry) (starts : List Start) (free : Start) (m node b : ℕ) (found : Found) (at before : Entry) → IsPool entries starts free → m < length starts → IsFound (chain_from entries (start_at starts m)) node found → found.before ≡ Some b → at ≡ entry_at entries found.link → before ≡ entry_at entries b → IsUnlinking entries (set entries b (entry_of before.node at.next)) starts free m node found (start_at starts m).first
later_unlinking entries starts free m node b found at before is l so some at_is before_is =
    record { done = so.done; rest = so.rest; out = rw (at_is, before_is) (later_out entries starts free m b found.link node so.done so.rest is l (sym so.last ∙ some) so.split); absent = so.first }

pub unlinked_pool : (entries between : List Entry) (starts : List Start) (free : Start) (m node other : ℕ) (found : Found) (first : Next) → IsPool entries starts free → m < length starts → IsUnlinking entries between starts free m node found first →
    let new : List Entry = set between found.link (entry_of other free.first) in
    let starts' : List Start = set starts m (start_of first ((start_at starts m).len - 1)) in
    let free' : Start = start_of (Link found.link) (free.len + 1) in
    IsPool new starts' free' × (pool_in new starts' free' ≡ after_unlink (pool_in entries starts free) m node (link_with (chain_of (pool_in entries starts free) m) node))
unlinked_pool entries between starts free m node other found first is l u =
    let done = freed entries between starts free m found.link node other first u.done u.rest is l u.out in
    (done.0, done.1 ∙ unlink_pool entries starts free m found.link node u.done u.rest u.out.split u.absent)
