-- What a schedule reads is what it says of the state: the other line in a cache set, and a home's lines and links.
use Rattle.std.proofs.Common.{◌≡◌, ℕ, ◌-◌, ◌≤◌, Bool, true, false, cond, not, ◌&&◌, ◌||◌, ◌==◌, List, [], ◌∷◌, refl, sym, ap, ◌∙◌, arith, Some, None}
use Rattle.std.specs.Prelude.{find, option_map, sum_by}
use Rattle.std.specs.List.{list_any}
use Rattle.std.specs.FinMap as fin
use Rattle.std.proofs.lemmas.Bool.{not-true}
use Rattle.std.proofs.lemmas.Bool.Decides.{nat_tests}
use Rattle.line_map.specs.Sizes.{Sizes, set_of}
use Rattle.op_model.specs.Lines.{is_empty}
use Rattle.op_model.specs.Shares.{Charge, Linked, Unlinked, Share, copy_of, copy_in, links_among, pending_lines, held_links}
use Rattle.op_model.specs.Run.Schedules.{other_in_set}
use Rattle.op_model.specs.Run.Seeded.{free_links}
use Rattle.cpu_cache.specs.Caches.{CacheView, is_set_taken}
use Rattle.dir_header.specs.Sharers.{Directory, held_by, held_in, free_in}
use Rattle.dir_header.specs.HomeSides.{HomeView, IsHome}
use Rattle.op_model.specs.Run.Machines.{MachineRun}
use Rattle.dir_header.proofs.Public.{held-nothing}
use Rattle.dir_report.specs.Machines.{IsHome as IsHomeCounts}

-- where one key alone passes, the first entry that passes is its
found-one : {X : Type 0} (p : ℕ → Bool) (r : ℕ) (es : List (ℕ × X)) → ((q : ℕ) → p q ≡ true → q ≡ r) → list_any (λ e. p e.0) es ≡ true → option_map (λ e. e.0) (find (λ e. p e.0) es) ≡ Some r
found-one p r [] only any = cc
found-one p r (e ∷ es) only any = go (p e.0) refl any (found-one p r es only)
  where
    go : (c : Bool) → p e.0 ≡ c → (c || list_any (λ d. p d.0) es) ≡ true → (list_any (λ d. p d.0) es ≡ true → option_map (λ d. d.0) (find (λ d. p d.0) es) ≡ Some r) →
        option_map (λ d. d.0) (cond c (Some e) (find (λ d. p d.0) es)) ≡ Some r
    go true is any rest = ap (λ q. Some q) (only e.0 is)
    go false is any rest = rest any

found-none : {X : Type 0} (p : X → Bool) (es : List X) → list_any p es ≡ false → find p es ≡ None
found-none p [] none = refl
found-none p (e ∷ es) none = go (p e) none (found-none p es)
  where
    go : (c : Bool) → (c || list_any p es) ≡ false → (list_any p es ≡ false → find p es ≡ None) → cond c (Some e) (find p es) ≡ None
    go true none rest = cc
    go false none rest = rest none

and-true : (a b c : Bool) → (a && b && c) ≡ true → (a ≡ true) × (c ≡ true)
and-true true true true e = (refl, refl)
and-true true true false e = cc
and-true true false c e = cc
and-true false b c e = cc

module _ (sizes : Sizes) (share : Share) (line : ℕ) where
  abbrev cache : CacheView
  cache = record { sizes = sizes; copies = share.copies }

  pub copy-is : copy_of share line ≡ copy_in share.copies line
  unfolding copy_of
  copy-is = refl

  pub other-none : is_set_taken cache line ≡ false → other_in_set sizes share line ≡ None
  unfolding copy_of
  other-none free = ap (option_map (λ e. e.0)) (found-none _ (fin.entries share.copies) free)

  pub other-some : (r : ℕ) → is_set_taken cache line ≡ true → ((q : ℕ) → set_of sizes q ≡ set_of sizes line → is_empty (copy_in share.copies q) ≡ false → q ≡ r) → other_in_set sizes share line ≡ Some r
  unfolding copy_of
  other-some r taken only =
      found-one (λ q. (set_of sizes q == set_of sizes line) && not (q == line) && not (is_empty (copy_in share.copies q))) r (fin.entries share.copies)
      (λ q passes. let both = and-true (set_of sizes q == set_of sizes line) (not (q == line)) (not (is_empty (copy_in share.copies q))) passes in
      only q (let a = both.0 in grind (arith, nat_tests)) (not-true (is_empty (copy_in share.copies q)) both.1)) taken

-- the links that are free by the directory are those that the headers leave
pub free-is : {D : Type 0} (dir : Directory) (home : HomeView D) (share : Share) → IsHome dir home → home.headers ≡ share.headers → free_in dir ≡ free_links home.charge home.sizes share
free-is dir home share is same = go home.charge refl
  where
    go : (charge : Charge) → home.charge ≡ charge → free_in dir ≡ free_links charge home.sizes share
    go Linked at = let held = is.held at in λ i. (is.links i) - ((sym held ∙ ap links_among same) i)
    go Unlinked at =
        let none : held_in dir ≡ 0 = ap (λ ch. sum_by (held_by ch) dir.lists) (is.charge ∙ at) ∙ held-nothing dir.lists in
        let links : dir.links ≡ home.sizes.links = is.links in
        omega (arith, none, links)

-- the links that a home holds and those that are free, from the free ones
pub home-held : {D : Type 0} (dir : Directory) (m : MachineRun) (node : ℕ) (home : HomeView D) (pending links free : ℕ) → IsHome dir home →
    home ≡ record { sizes = m.sizes; node = node; charge = m.charge; dir = home.dir; headers = (m.past.state.share node).headers } → links ≡ m.sizes.links → pending ≡ pending_lines (m.past.state.share node) → free ≡ free_in dir →
    IsHomeCounts m node (record { pending = pending; held = links - free; free = free })
home-held {D = D} dir m node home pending links free is value links_are pending_is free_is = record {
  pending = pending_is;
  held = (let a = under in omega (arith, a, whole, held, links_are, free_is));
  free = (let a = under in omega (arith, a, whole, held, links_are, free_is));
}
  where
    under : held_in dir ≤ dir.links
    under = is.dir_kept.fits

    whole : dir.links ≡ m.sizes.links
    whole = is.links ∙ ap (λ (h : HomeView D). h.sizes.links) value

    by_charge : (charge : Charge) → home.charge ≡ charge → held_in dir ≡ held_links charge (m.past.state.share node)
    by_charge Linked at = sym (is.held at) ∙ ap (λ (h : HomeView D). links_among h.headers) value
    by_charge Unlinked at = ap (λ ch. sum_by (held_by ch) dir.lists) (is.charge ∙ at) ∙ held-nothing dir.lists

    held : held_in dir ≡ held_links m.charge (m.past.state.share node)
    held = by_charge m.charge (ap (λ (h : HomeView D). h.charge) value)
