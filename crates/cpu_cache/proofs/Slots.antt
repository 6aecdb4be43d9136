-- What the slots of a cache say of its sets, and what a cache is after a slot is written. The slot of a line's set answers for the
-- whole set.
use Rattle.std.specs.Prelude.{◌≡◌, ℕ, ◌<◌, ◌≢◌, ◌==◌, Bool, true, false, cond, List, [], ◌∷◌, length, slice_index_or, slice_set, is_some, unwrap_or, Some, None}
use Rattle.std.proofs.Common.{refl, sym, ap, ◌∙◌, arith, length-set}
use Rattle.std.proofs.lemmas.Bool.Decides.{nat_tests}
use Rattle.std.proofs.lemmas.List.{get_or-set_same, get_or-set_other}
use Rattle.std.specs.Ordering.{nat_cmp}
use Rattle.std.specs.FinMap as fin
use Rattle.line_map.specs.Sizes.{Sizes, all_lines, set_of}
use Rattle.op_model.specs.Lines.{Copy, Absent, is_empty, words_of}
use Rattle.op_model.specs.Lines.{Shared as SharedCopy, Exclusive as ExclusiveCopy}
use Rattle.cpu_cache.specs.declared.cache.Slot.{Slot}
use Rattle.cpu_cache.specs.declared.cache.Slot.TheVariants.{Empty, Shared, Exclusive}
use Rattle.cpu_cache.specs.Caches.{CacheView, IsDirectMapped}
use Rattle.cpu_cache.specs.Slots.{held, copies_in, FitsSet, AreSlots, IsSlotOf, PutsSlot}
use Rattle.cpu_cache.proofs.Found.{get-slots}

abbrev pub cache_of : Sizes → List Slot → CacheView
cache_of sizes slots = record { sizes = sizes; copies = copies_in slots }

-- each line has its set
set_below : (sizes : Sizes) (slots : List Slot) → AreSlots sizes slots → (line other : ℕ) → set_of sizes line < length slots → set_of sizes other < length slots
set_below sizes slots are line other l = let e = are.count in omega arith

pub slot_of : (sizes : Sizes) (slots : List Slot) → AreSlots sizes slots → (line : ℕ) → set_of sizes line < length slots → IsSlotOf (cache_of sizes slots) line (slice_index_or slots (set_of sizes line) Empty)
slot_of sizes slots are line l = record {
  copies = λ other same. rw (← same) (get-slots sizes slots are other (set_below sizes slots are line other l));
  fits = are.fit (set_of sizes line) l;
}

pub AreSlots-set : (sizes : Sizes) (slots : List Slot) → AreSlots sizes slots → (set : ℕ) (slot : Slot) → set < length slots → FitsSet sizes set slot → AreSlots sizes (slice_set slots set slot)
AreSlots-set sizes slots are set slot l fits = record {
  count = length-set slots set slot ∙ are.count;
  fit = λ i below. at i (set == i) refl (rw length-set at below);
}
  where
    at : (i : ℕ) (b : Bool) → (set == i) ≡ b → i < length slots → FitsSet sizes i (slice_index_or (slice_set slots set slot) i Empty)
    at i true e below = let same : set ≡ i = grind (arith, nat_tests, e) in rw (← same) (rw (get_or-set_same slots set slot Empty l) fits)
    at i false e below = let apart : i ≢ set = grind (arith, nat_tests, e) in rw (get_or-set_other slots set i slot Empty apart) (are.fit i below)

pub puts_slot : (sizes : Sizes) (slots : List Slot) → AreSlots sizes slots → (line : ℕ) (slot : Slot) → set_of sizes line < length slots → FitsSet sizes (set_of sizes line) slot → PutsSlot (cache_of sizes slots) (cache_of sizes (slice_set slots (set_of sizes line) slot)) line slot
puts_slot sizes slots are line slot l fits = record { sizes = refl; copies = λ other. after other (set_of sizes other == set_of sizes line) refl }
  where
    after : (other : ℕ) (b : Bool) → (set_of sizes other == set_of sizes line) ≡ b → fin.get (copies_in (slice_set slots (set_of sizes line) slot)) other ≡ cond (set_of sizes other == set_of sizes line) (held other slot) (fin.get (copies_in slots) other)
    after other b e =
        let new = slice_set slots (set_of sizes line) slot in
        let within = set_below sizes slots are line other l in
        let found = get-slots sizes new (AreSlots-set sizes slots are (set_of sizes line) slot l fits) other (rw length-set within) in
        chosen other b e found within
      where
        chosen : (other : ℕ) (b : Bool) → (set_of sizes other == set_of sizes line) ≡ b → fin.get (copies_in (slice_set slots (set_of sizes line) slot)) other ≡ held other (slice_index_or (slice_set slots (set_of sizes line) slot) (set_of sizes other) Empty) → set_of sizes other < length slots → fin.get (copies_in (slice_set slots (set_of sizes line) slot)) other ≡ cond (set_of sizes other == set_of sizes line) (held other slot) (fin.get (copies_in slots) other)
        chosen other true e found within =
            let same : set_of sizes other ≡ set_of sizes line = grind (arith, nat_tests, e) in
            found ∙ ap (λ i. held other (slice_index_or (slice_set slots (set_of sizes line) slot) i Empty)) same
            ∙ ap (held other) (get_or-set_same slots (set_of sizes line) slot Empty l) ∙ ap (λ b. cond b (held other slot) (fin.get (copies_in slots) other)) (sym e)
        chosen other false e found within =
            let apart : set_of sizes other ≢ set_of sizes line = grind (arith, nat_tests, e) in
            found ∙ ap (held other) (get_or-set_other slots (set_of sizes line) (set_of sizes other) slot Empty apart)
            ∙ sym (get-slots sizes slots are other within) ∙ ap (λ b. cond b (held other slot) (fin.get (copies_in slots) other)) (sym e)

-- a slot has a copy of its own line alone
pub picked : (line other : ℕ) (copy : Copy) → is_some (cond (line == other) (Some copy) None) ≡ true → (line ≡ other) × (unwrap_or (cond (line == other) (Some copy) None) Absent ≡ copy)
picked line other copy some = by (line == other) refl some
  where
    by : (b : Bool) → (line == other) ≡ b → is_some (cond b (Some copy) None) ≡ true → (line ≡ other) × (unwrap_or (cond b (Some copy) None) Absent ≡ copy)
    by true e some = (grind (arith, nat_tests, e), refl)
    by false e some = cc

one_held : (slot : Slot) (line other : ℕ) → is_some (held line slot) ≡ true → is_some (held other slot) ≡ true → line ≡ other
one_held Empty line other some also = cc
one_held (Shared own words) line other some also = (picked line own _ some).0 ∙ sym (picked other own _ also).0
one_held (Exclusive own words) line other some also = (picked line own _ some).0 ∙ sym (picked other own _ also).0

below_held : (sizes : Sizes) (set : ℕ) (slot : Slot) (line : ℕ) → FitsSet sizes set slot → is_some (held line slot) ≡ true → line < all_lines sizes
below_held sizes set Empty line fits some = cc
below_held sizes set (Shared own words) line fits some = rw (picked line own (SharedCopy words) some).0 fits.below
below_held sizes set (Exclusive own words) line fits some = rw (picked line own (ExclusiveCopy words) some).0 fits.below

width_held : (sizes : Sizes) (set : ℕ) (slot : Slot) (line : ℕ) → FitsSet sizes set slot → is_some (held line slot) ≡ true → length (words_of (unwrap_or (held line slot) Absent)) ≡ sizes.words
width_held sizes set Empty line fits some = cc
width_held sizes set (Shared own words) line fits some = ap (λ copy. length (words_of copy)) (picked line own (SharedCopy words) some).1 ∙ fits.width
width_held sizes set (Exclusive own words) line fits some = ap (λ copy. length (words_of copy)) (picked line own (ExclusiveCopy words) some).1 ∙ fits.width

full_held : (slot : Slot) (line : ℕ) → is_some (held line slot) ≡ true → is_empty (unwrap_or (held line slot) Absent) ≡ false
full_held Empty line some = cc
full_held (Shared own words) line some = ap is_empty (picked line own (SharedCopy words) some).1
full_held (Exclusive own words) line some = ap is_empty (picked line own (ExclusiveCopy words) some).1

nothing_held : (line : ℕ) {A : Type 0} → is_some (fin.get (copies_in []) line) ≡ true → A
nothing_held line some = let e = fin.get-empty {X = Copy} nat_cmp line in absurd (cc (rw e at some))

pub direct_mapped : (sizes : Sizes) (slots : List Slot) → AreSlots sizes slots → IsDirectMapped (cache_of sizes slots)
direct_mapped sizes [] are = record {
  one = λ line other same some also. nothing_held line some;
  below = λ line some. nothing_held line some;
  width = λ line some. nothing_held line some;
  held = λ line some. nothing_held line some;
}
direct_mapped sizes (first ∷ slots) are = kept
  where
    there : (line : ℕ) → IsSlotOf (cache_of sizes (first ∷ slots)) line (slice_index_or (first ∷ slots) (set_of sizes line) Empty)
    there line = slot_of sizes (first ∷ slots) are line (let e = are.count in omega arith)

    of_line : (line other : ℕ) → set_of sizes other ≡ set_of sizes line → fin.get (copies_in (first ∷ slots)) other ≡ held other (slice_index_or (first ∷ slots) (set_of sizes line) Empty)
    of_line line = (there line).copies

    some_at : (line other : ℕ) → set_of sizes other ≡ set_of sizes line → is_some (fin.get (copies_in (first ∷ slots)) other) ≡ true → is_some (held other (slice_index_or (first ∷ slots) (set_of sizes line) Empty)) ≡ true
    some_at line other same some = sym (ap is_some (of_line line other same)) ∙ some

    kept : IsDirectMapped (cache_of sizes (first ∷ slots))
    kept = record {
      one = λ line other same some also. one_held (slice_index_or (first ∷ slots) (set_of sizes line) Empty) line other (some_at line line refl some) (some_at line other (sym same) also);
      below = λ line some. below_held sizes (set_of sizes line) (slice_index_or (first ∷ slots) (set_of sizes line) Empty) line (there line).fits (some_at line line refl some);
      width = λ line some. ap (λ copy. length (words_of (unwrap_or copy Absent))) (of_line line line refl) ∙ width_held sizes (set_of sizes line) (slice_index_or (first ∷ slots) (set_of sizes line) Empty) line (there line).fits (some_at line line refl some);
      held = λ line some. ap (λ copy. is_empty (unwrap_or copy Absent)) (of_line line line refl) ∙ full_held (slice_index_or (first ∷ slots) (set_of sizes line) Empty) line (some_at line line refl some);
    }
