-- Walks along the array of links. A walk is told by the list that it spells: the walk of as many links gives that list again, and a
-- write at a link that doesn't stand in the list leaves it spelled.
use Rattle.std.specs.Prelude.{◌≡◌, ℕ, zero, suc, ◌+◌, ◌≤◌, ◌≢◌, ◌==◌, true, false, cond, Bool, List, [], ◌∷◌, length}
use Rattle.std.proofs.Common.{refl, sym, ap, subst, ◌∙◌, arith, set, length-set}
use Rattle.std.proofs.lemmas.Bool.Decides.{nat_tests}
use Rattle.std.proofs.lemmas.List.{get_or-set_other}
use Rattle.link_store.specs.declared.entries.Next.{Next}
use Rattle.link_store.specs.declared.entries.Next.TheVariants.{Link, End, Header}
use Rattle.link_store.specs.declared.entries.Entry.{Entry}
use Rattle.link_store.specs.declared.entries.Start.{Start}
use Rattle.link_store.specs.Pools.{Chain, links_of, times_in}
use Rattle.link_store.specs.Entries.{entry_at, blank, Spells, walked, IsStop, IsListed, chain_from}

pub walked_spelled : (entries : List Entry) (from stop : Next) (chain : Chain) → Spells entries from stop chain → walked entries (length chain) from ≡ chain
walked_spelled entries from stop [] s = refl
walked_spelled entries from stop (e ∷ chain) s =
    rw s.0 (λ i. (e.0, s.2 i) ∷ walked_spelled entries (entry_at entries e.0).next stop chain s.3 i)

-- a walk may be given more links than there are
pub walked_on : (entries : List Entry) (from stop : Next) (chain : Chain) (n : ℕ) → IsStop stop → Spells entries from stop chain → length chain ≤ n → walked entries n from ≡ chain
walked_on entries from (Link link) chain n outside s l = absurd outside
walked_on entries from End [] zero outside s l = refl
walked_on entries from End [] (suc n) outside s l = rw s
walked_on entries from (Header m) [] zero outside s l = refl
walked_on entries from (Header m) [] (suc n) outside s l = rw s
walked_on entries from stop (e ∷ chain) zero outside s l = absurd (omega arith)
walked_on entries from stop (e ∷ chain) (suc n) outside s l =
    rw s.0 (λ i. (e.0, s.2 i) ∷ walked_on entries (entry_at entries e.0).next stop chain n outside s.3 (omega arith) i)

pub chain_from_listed : (entries : List Entry) (stop : Next) (start : Start) (chain : Chain) → IsListed entries stop start chain → chain_from entries start ≡ chain
chain_from_listed entries stop start chain listed = ap (λ n. walked entries n start.first) (sym listed.many) ∙ walked_spelled entries start.first stop chain listed.spells

-- a link that doesn't stand in a chain isn't its first one, and doesn't stand in the rest
pub times_apart : (x link : ℕ) (links : List ℕ) → times_in x (link ∷ links) ≡ 0 → (link ≢ x) × (times_in x links ≡ 0)
times_apart x link links none = by (link == x) refl none
  where
    by : (b : Bool) → (link == x) ≡ b → cond b 1 0 + times_in x links ≡ 0 → (link ≢ x) × (times_in x links ≡ 0)
    by true e none = absurd (omega arith)
    by false e none = (grind (arith, nat_tests, e), omega arith)

pub Spells-set : (entries : List Entry) (x : ℕ) (entry : Entry) (from stop : Next) (chain : Chain) → times_in x (links_of chain) ≡ 0 → Spells entries from stop chain → Spells (set entries x entry) from stop chain
Spells-set entries x entry from stop [] none s = s
Spells-set entries x entry from stop (e ∷ chain) none s =
    let apart = times_apart x e.0 (links_of chain) none in
    let same : entry_at (set entries x entry) e.0 ≡ entry_at entries e.0 = get_or-set_other entries x e.0 entry blank apart.0 in (
      s.0,
      rw length-set s.1,
      ap (λ (y : Entry). y.node) same ∙ s.2,
      subst (λ (y : Entry). Spells (set entries x entry) y.next stop chain) (sym same) (Spells-set entries x entry (entry_at entries e.0).next stop chain apart.1 s.3),
    )

pub IsListed-set : (entries : List Entry) (x : ℕ) (entry : Entry) (stop : Next) (start : Start) (chain : Chain) → times_in x (links_of chain) ≡ 0 → IsListed entries stop start chain → IsListed (set entries x entry) stop start chain
IsListed-set entries x entry stop start chain none listed = record { spells = Spells-set entries x entry start.first stop chain none listed.spells; many = listed.many }
