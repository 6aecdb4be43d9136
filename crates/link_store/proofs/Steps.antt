-- What is spelled after a link was put in front of a list, taken from its front, or taken out of its middle.
use Rattle.std.specs.Prelude.{◌≡◌, ℕ, ◌+◌, ◌-◌, ◌<◌, ◌≤◌, ◌≢◌, ◌==◌, true, false, cond, Bool, ◌||◌, List, [], ◌∷◌, ◌++◌, length, Some}
use Rattle.std.proofs.Common.{refl, sym, ap, subst, ◌∙◌, arith, set, length-set}
use Rattle.std.proofs.lemmas.Bool.Decides.{nat_tests}
use Rattle.std.proofs.lemmas.List.{get_or-set_same, get_or-set_other}
use Rattle.link_store.specs.declared.entries.Next.{Next}
use Rattle.link_store.specs.declared.entries.Next.TheVariants.{Link}
use Rattle.link_store.specs.declared.entries.Entry.{Entry}
use Rattle.link_store.specs.declared.entries.Start.{Start}
use Rattle.link_store.specs.Pools.{Chain, links_of, times_in, has_node, link_with, without}
use Rattle.link_store.specs.Entries.{entry_at, blank, Spells, IsListed, last_link}
use Rattle.link_store.proofs.Walks.{Spells-set}
use Rattle.link_store.proofs.Times.{times_in-same}

pub pushed : (entries : List Entry) (stop : Next) (start : Start) (chain : Chain) (x node : ℕ) → x < length entries → times_in x (links_of chain) ≡ 0 → IsListed entries stop start chain → IsListed (set entries x (record { node = node; next = start.first })) stop (record { first = Link x; len = start.len + 1 }) ((x, node) ∷ chain)
pushed entries stop start chain x node l none listed =
    let entry : Entry = record { node = node; next = start.first } in
    let new : List Entry = set entries x entry in
    let at : entry_at new x ≡ entry = get_or-set_same entries x entry blank l in
    let on : Spells new start.first stop chain = Spells-set entries x entry start.first stop chain none listed.spells in
    let many = listed.many in
    record {
      spells = (refl, rw length-set l, ap (λ (e : Entry). e.node) at, subst (λ (e : Entry). Spells new e.next stop chain) (sym at) on);
      many = omega arith;
    }

pub popped : (entries : List Entry) (stop : Next) (start : Start) (e : ℕ × ℕ) (chain : Chain) → IsListed entries stop start (e ∷ chain) → IsListed entries stop (record { first = (entry_at entries e.0).next; len = start.len - 1 }) chain
popped entries stop start e chain listed = let many = listed.many in record { spells = listed.spells.3; many = omega arith }

-- the last link stands in the chain
pub has_last : (b : ℕ) (done more : Chain) → last_link done ≡ Some b → 1 ≤ times_in b (links_of (done ++ more))
has_last b [] more last = cc
has_last b (e ∷ []) more last = let same : e.0 ≡ b = cc in let once = times_in-same b (links_of more) in rw same (omega (arith, once))
has_last b (e ∷ f ∷ done) more last = let h = has_last b (f ∷ done) more last in omega (arith, h)

-- the link before takes the next of the link that goes
pub unlinked : (entries : List Entry) (stop from : Next) (b x node : ℕ) (done rest : Chain) → last_link done ≡ Some b → times_in b (links_of (done ++ (x, node) ∷ rest)) ≤ 1 → Spells entries from stop (done ++ (x, node) ∷ rest) → Spells (set entries b (record { node = (entry_at entries b).node; next = (entry_at entries x).next })) from stop (done ++ rest)
unlinked entries stop from b x node [] rest last once s = cc
unlinked entries stop from b x node (e ∷ []) rest last once s =
    let same : e.0 ≡ b = cc in
    let entry : Entry = record { node = (entry_at entries b).node; next = (entry_at entries x).next } in
    let new : List Entry = set entries b entry in
    let below : b < length entries = rw (← same) s.1 in
    let at : entry_at new b ≡ entry = get_or-set_same entries b entry blank below in
    let twice = times_in-same b (x ∷ links_of rest) in
    let once' : times_in b (b ∷ x ∷ links_of rest) ≤ 1 = rw same at once in
    let none : times_in b (links_of rest) ≡ 0 = omega (arith, twice, once') in
    let on : Spells new (entry_at entries x).next stop rest = Spells-set entries b entry (entry_at entries x).next stop rest none s.3.3 in
    (s.0, rw length-set s.1, rw (same, at) (rw same at s.2), rw (same, at) on)
unlinked entries stop from b x node (e ∷ f ∷ done) rest last once s =
    let entry : Entry = record { node = (entry_at entries b).node; next = (entry_at entries x).next } in
    let new : List Entry = set entries b entry in
    let later : 1 ≤ times_in b (links_of (f ∷ done ++ (x, node) ∷ rest)) = has_last b (f ∷ done) ((x, node) ∷ rest) last in
    let apart : e.0 ≢ b = first_apart b e.0 (links_of (f ∷ done ++ (x, node) ∷ rest)) later once in
    let same : entry_at new e.0 ≡ entry_at entries e.0 = get_or-set_other entries b e.0 entry blank apart in (
      s.0,
      rw length-set s.1,
      ap (λ (y : Entry). y.node) same ∙ s.2,
      subst (λ (y : Entry). Spells new y.next stop (f ∷ done ++ rest)) (sym same) (unlinked entries stop (entry_at entries e.0).next b x node (f ∷ done) rest last (omega (arith, once)) s.3),
    )
  where
    first_apart : (b e : ℕ) (links : List ℕ) → 1 ≤ times_in b links → times_in b (e ∷ links) ≤ 1 → e ≢ b
    first_apart b e links later once same = let twice = times_in-same b links in let once' : times_in b (b ∷ links) ≤ 1 = rw same at once in absurd (omega (arith, twice, once', later))

-- without the first link that has the node
pub without_found : (node x : ℕ) (done rest : Chain) → has_node done node ≡ false → (without (done ++ (x, node) ∷ rest) node ≡ done ++ rest) × (link_with (done ++ (x, node) ∷ rest) node ≡ Some x) × (has_node (done ++ (x, node) ∷ rest) node ≡ true)
without_found node x [] rest none = let same : (node == node) ≡ true = grind (arith, nat_tests) in rw same (refl, refl, refl)
without_found node x (e ∷ done) rest none = by (e.1 == node) none (λ later. without_found node x done rest later)
  where
    by : (b : Bool) → (b || has_node done node) ≡ false → (has_node done node ≡ false → (without (done ++ (x, node) ∷ rest) node ≡ done ++ rest) × (link_with (done ++ (x, node) ∷ rest) node ≡ Some x) × (has_node (done ++ (x, node) ∷ rest) node ≡ true)) → (cond b (done ++ (x, node) ∷ rest) (e ∷ without (done ++ (x, node) ∷ rest) node) ≡ e ∷ done ++ rest) × (cond b (Some e.0) (link_with (done ++ (x, node) ∷ rest) node) ≡ Some x) × ((b || has_node (done ++ (x, node) ∷ rest) node) ≡ true)
    by true none later = cc
    by false none later = let h = later none in (ap (λ (chain : Chain). e ∷ chain) h.0, h.1, h.2)
