-- The sets of a cache by its copies: whether a set is free or taken is known from the line that stands in it.
use Rattle.std.specs.Prelude.{◌≡◌, ℕ, ◌<◌, ◌≢◌, ◌==◌, Bool, true, false, cond, not, ◌&&◌, ◌||◌, List, [], ◌∷◌, is_some, unwrap_or, Option, Some, None, IsTrue, ◌↔◌}
use Rattle.std.proofs.Common.{refl, sym, ap, ◌∙◌, subst, arith, ◌⊎◌, inl, inr}
use Rattle.std.proofs.lemmas.Bool.{and_parts, not-true, and_from, eq-eqb, or_left, or_right}
use Rattle.std.proofs.lemmas.Bool.Decides.{nat_tests}
use Rattle.std.specs.List.{list_any}
use Rattle.std.specs.Ordering.{nat_cmp, eq_by_cmp}
use Rattle.std.specs.Cmp.{unsigned_tied}
use Rattle.std.specs.FinMap as fin
use Rattle.std.specs.FinMap.{find}
use Rattle.line_map.specs.Sizes.{all_lines, set_of}
use Rattle.op_model.specs.Lines.{Copy, Absent, is_empty}
use Rattle.op_model.specs.Lines.{Shared as SharedCopy, Exclusive as ExclusiveCopy}
use Rattle.op_model.specs.Shares.{copy_in}
use Rattle.cpu_cache.specs.Caches.{CacheView, IsResident, stands, is_set_free, is_set_taken}
use Rattle.cpu_cache.specs.declared.cache.Slot.{Slot}
use Rattle.cpu_cache.specs.declared.cache.Slot.TheVariants.{Empty, Shared, Exclusive}
use Rattle.cpu_cache.specs.Slots.{held, FitsSet, IsSlotOf}
use Rattle.cpu_cache.proofs.Slots.{picked}

-- a test of keys: where some entry passes it, some key does
any_key : {X : Type 0} (f : ℕ → Bool) (es : List (ℕ × X)) → list_any (λ e. f e.0) es ≡ true → (k : ℕ) × (f k ≡ true)
any_key f [] h = cc
any_key f (e ∷ es) h = by (any_key f es) (f e.0) refl h
  where
    by : (list_any (λ e. f e.0) es ≡ true → (k : ℕ) × (f k ≡ true)) → (b : Bool) → f e.0 ≡ b → (b || list_any (λ e. f e.0) es) ≡ true → (k : ℕ) × (f k ≡ true)
    by rest true is h = (e.0, is)
    by rest false is h = rest h

-- and where a key that has an entry passes it, some entry does
key_any : {X : Type 0} (f : ℕ → Bool) (es : List (ℕ × X)) (k : ℕ) → is_some (find nat_cmp k es) ≡ true → f k ≡ true → list_any (λ e. f e.0) es ≡ true
key_any f [] k some passes = cc
key_any f (e ∷ es) k some passes = by (λ some. key_any f es k some passes) (k == e.0) (unsigned_tied k e.0) refl some
  where
    by : (is_some (find nat_cmp k es) ≡ true → list_any (λ e. f e.0) es ≡ true) → (b : Bool) → eq_by_cmp nat_cmp k e.0 ≡ b → (k == e.0) ≡ b → is_some (find nat_cmp k (e ∷ es)) ≡ true → (f e.0 || list_any (λ e. f e.0) es) ≡ true
    by rest true tied is some = let same : k ≡ e.0 = grind (arith, nat_tests, is) in or_left (f e.0) _ (rw same at passes)
    by rest false tied is some = or_right (f e.0) _ (rest (rw tied at some))

set_holds : (cache : CacheView) (line other : ℕ) → stands cache line other ≡ true → (set_of cache.sizes other ≡ set_of cache.sizes line) × (is_empty (copy_in cache.copies other) ≡ false)
set_holds cache line other h = let b = and_parts (set_of cache.sizes other == set_of cache.sizes line) _ h in (grind (arith, nat_tests, b.0), not-true (is_empty (copy_in cache.copies other)) b.1)

-- a set is free where none of its lines has a copy
pub free_by_none : (cache : CacheView) (line : ℕ) → ((other : ℕ) → set_of cache.sizes other ≡ set_of cache.sizes line → is_empty (copy_in cache.copies other) ≡ true) → is_set_free cache line ≡ true
free_by_none cache line none = by (list_any (λ e. stands cache line e.0) (fin.entries cache.copies)) refl
  where
    by : (b : Bool) → list_any (λ e. stands cache line e.0) (fin.entries cache.copies) ≡ b → not b ≡ true
    by true e = let k = any_key (stands cache line) (fin.entries cache.copies) e in let s = set_holds cache line k.0 k.1 in let n = none k.0 s.0 in cc
    by false e = refl

pub filled : (o : Option Copy) → is_empty (unwrap_or o Absent) ≡ false → is_some o ≡ true
filled None e = cc
filled (Some copy) e = refl

entry_of_copy : (cache : CacheView) (line : ℕ) → is_empty (copy_in cache.copies line) ≡ false → is_some (find nat_cmp line (fin.entries cache.copies)) ≡ true
entry_of_copy cache line e = sym (ap is_some (fin.get-entries cache.copies line)) ∙ filled (fin.get cache.copies line) e

-- a copy in the set of a line is found
pub found_in_set : (cache : CacheView) (line other : ℕ) → set_of cache.sizes other ≡ set_of cache.sizes line → is_empty (copy_in cache.copies other) ≡ false → list_any (λ e. stands cache line e.0) (fin.entries cache.copies) ≡ true
found_in_set cache line other same copied =
    key_any (stands cache line) (fin.entries cache.copies) other (entry_of_copy cache other copied)
    (and_from (set_of cache.sizes other == set_of cache.sizes line) _ (eq-eqb _ _ same) (ap not copied))

-- no line of a free set has a copy
pub none_in_free : (cache : CacheView) (line other : ℕ) → is_set_free cache line ≡ true → set_of cache.sizes other ≡ set_of cache.sizes line → is_empty (copy_in cache.copies other) ≡ true
none_in_free cache line other free same = by (is_empty (copy_in cache.copies other)) refl
  where
    by : (b : Bool) → is_empty (copy_in cache.copies other) ≡ b → b ≡ true
    by true e = refl
    by false e = let f = found_in_set cache line other same e in cc

-- the set of a line that stands there isn't free
pub not_free : (cache : CacheView) (line resident : ℕ) → IsResident cache line resident → is_set_free cache line ≡ false
not_free cache line resident r = ap not (found_in_set cache line resident r.in_set r.held)

-- whether another line than this one stands in its set
abbrev clashes : CacheView → ℕ → ℕ → Bool
clashes cache line other = (set_of cache.sizes other == set_of cache.sizes line) && not (other == line) && not (is_empty (copy_in cache.copies other))

apart_test : (m n : ℕ) → m ≢ n → not (m == n) ≡ true
apart_test m n apart = grind (arith, nat_tests)

clash : (cache : CacheView) (line other : ℕ) → clashes cache line other ≡ true → (set_of cache.sizes other ≡ set_of cache.sizes line) × (other ≢ line) × (is_empty (copy_in cache.copies other) ≡ false)
clash cache line other h =
    let outer = and_parts ((set_of cache.sizes other == set_of cache.sizes line) && not (other == line)) _ h in
    let inner = and_parts (set_of cache.sizes other == set_of cache.sizes line) _ outer.0 in
    (grind (arith, nat_tests, inner.0), apart_numbers other line inner.1, not-true (is_empty (copy_in cache.copies other)) outer.1)
  where
    apart_numbers : (m n : ℕ) → not (m == n) ≡ true → m ≢ n
    apart_numbers m n h = grind (arith, nat_tests)

-- it is taken where another line stands there
pub taken_by : (cache : CacheView) (line resident : ℕ) → IsResident cache line resident → IsTrue (is_set_taken cache line) ↔ (resident ≢ line)
taken_by cache line resident r = (
  other_line,
  λ apart. key_any (clashes cache line) (fin.entries cache.copies) resident (entry_of_copy cache resident r.held)
      (and_from _ _ (and_from _ _ (eq-eqb _ _ r.in_set) (apart_test resident line apart)) (ap not r.held)),
)
  where
    other_line : IsTrue (is_set_taken cache line) → resident ≢ line
    other_line taken same =
        let k = any_key (clashes cache line) (fin.entries cache.copies) taken in
        let c = clash cache line k.0 k.1 in
        let e = r.only k.0 c.0 c.2 in
        c.1 (e ∙ same)

-- no set without copies is taken
pub not_taken : (cache : CacheView) (line : ℕ) → is_set_free cache line ≡ true → is_set_taken cache line ≡ false
not_taken cache line free = by (is_set_taken cache line) refl
  where
    by : (b : Bool) → is_set_taken cache line ≡ b → b ≡ false
    by true taken =
        let k = any_key (clashes cache line) (fin.entries cache.copies) taken in
        let c = clash cache line k.0 k.1 in
        let none = none_in_free cache line k.0 free c.0 in
        let copied = c.2 in
        cc
    by false e = refl

-- the line of the only copy in a set stands there
pub resident_by : (cache : CacheView) (line own : ℕ) (copy : Copy) → is_empty copy ≡ false → set_of cache.sizes own ≡ set_of cache.sizes line → own < all_lines cache.sizes → ((other : ℕ) → set_of cache.sizes other ≡ set_of cache.sizes line → fin.get cache.copies other ≡ cond (other == own) (Some copy) None) → IsResident cache line own
resident_by cache line own copy full same below only = record {
  held = ap (λ o. is_empty (unwrap_or o Absent)) (only own same) ∙ ap (λ b. is_empty (unwrap_or (cond b (Some copy) None) Absent)) (eq-eqb own own refl) ∙ full;
  in_set = same;
  below = below;
  only = λ other same' copied. (picked other own copy (sym (ap is_some (only other same')) ∙ filled (fin.get cache.copies other) copied)).0;
}

pub free_by_empty : (cache : CacheView) (line : ℕ) (slot : Slot) → IsSlotOf cache line slot → slot ≡ Empty → is_set_free cache line ≡ true
free_by_empty cache line slot of empty = free_by_none cache line (λ other same. ap (λ o. is_empty (unwrap_or o Absent)) (of.copies other same ∙ ap (held other) empty))

pub resident_in : (cache : CacheView) (line own : ℕ) (slot : Slot) → IsSlotOf cache line slot → ((words : List ℕ) × (slot ≡ Shared own words)) ⊎ ((words : List ℕ) × (slot ≡ Exclusive own words)) → IsResident cache line own
resident_in cache line own slot of (inl (words, e)) =
    let fits = subst (FitsSet cache.sizes (set_of cache.sizes line)) e of.fits in
    resident_by cache line own (SharedCopy words) refl fits.in_set fits.below (λ other same. of.copies other same ∙ ap (held other) e)
resident_in cache line own slot of (inr (words, e)) =
    let fits = subst (FitsSet cache.sizes (set_of cache.sizes line)) e of.fits in
    resident_by cache line own (ExclusiveCopy words) refl fits.in_set fits.below (λ other same. of.copies other same ∙ ap (held other) e)
