-- How the sets of a cache are kept: one slot a set, in the order of the sets.
use Rattle.std.specs.Prelude.{◌≡◌, ℕ, ◌<◌, ◌==◌, if◌then◌else◌, List, [], ◌∷◌, length, slice_index_or, Option, Some, None}
use Rattle.std.specs.FinMap as fin
use Rattle.line_map.specs.Sizes.{Sizes, all_lines, set_of}
use Rattle.op_model.specs.Lines.{Copy}
use Rattle.op_model.specs.Lines.{Shared as SharedCopy, Exclusive as ExclusiveCopy}
use Rattle.op_model.specs.Shares.{Copies}
use Rattle.cpu_cache.specs.declared.cache.Slot.{Slot}
use Rattle.cpu_cache.specs.declared.cache.Slot.TheVariants.{Empty, Shared, Exclusive}
use Rattle.cpu_cache.specs.Caches.{CacheView}

-- the copy of a line that a slot has
abbrev pub held : ℕ → Slot → Option Copy
held line Empty = None
held line (Shared other words) = if line == other then Some (SharedCopy words) else None
held line (Exclusive other words) = if line == other then Some (ExclusiveCopy words) else None

abbrev pub with_slot : Slot → Copies → Copies
with_slot Empty copies = copies
with_slot (Shared line words) copies = fin.insert copies line (SharedCopy words)
with_slot (Exclusive line words) copies = fin.insert copies line (ExclusiveCopy words)

-- the copies in slots
abbrev pub copies_in : List Slot → Copies
copies_in [] = fin.empty
copies_in (slot ∷ slots) = with_slot slot (copies_in slots)

-- a line of the machine that goes into this set, and as many words as a line has
pub record IsLineOf (sizes : Sizes) (set : ℕ) (line : ℕ) (words : List ℕ) : Type 0 where
  pub in_set : set_of sizes line ≡ set
  pub below : line < all_lines sizes
  pub width : length words ≡ sizes.words

abbrev pub FitsSet : Sizes → ℕ → Slot → Type 0
FitsSet sizes set Empty = Unit {0}
FitsSet sizes set (Shared line words) = IsLineOf sizes set line words
FitsSet sizes set (Exclusive line words) = IsLineOf sizes set line words

-- one slot a set, and each slot has a line of its set
pub record AreSlots (sizes : Sizes) (slots : List Slot) : Type 0 where
  pub count : length slots ≡ sizes.sets
  pub fit : (set : ℕ) → set < length slots → FitsSet sizes set (slice_index_or slots set Empty)

-- the slot of the set of a line
pub record IsSlotOf (cache : CacheView) (line : ℕ) (slot : Slot) : Type 0 where
  pub copies : (other : ℕ) → set_of cache.sizes other ≡ set_of cache.sizes line → fin.get cache.copies other ≡ held other slot
  pub fits : FitsSet cache.sizes (set_of cache.sizes line) slot

-- a cache where the set of a line has this slot in place of its own
pub record PutsSlot (old new : CacheView) (line : ℕ) (slot : Slot) : Type 0 where
  pub sizes : new.sizes ≡ old.sizes
  pub copies : (other : ℕ) → fin.get new.copies other ≡ (if set_of old.sizes other == set_of old.sizes line then held other slot else fin.get old.copies other)
