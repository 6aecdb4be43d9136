-- What slots have of a line. Only the slot of the line's set can have it, since each slot has a line of its own set; so the copies
-- in the slots are, line by line, what that one slot has.
use Rattle.std.specs.Prelude.{◌≡◌, ℕ, zero, suc, ◌<◌, ◌≢◌, ◌==◌, Bool, true, false, cond, List, [], ◌∷◌, length, slice_index_or, Option, Some, None, replicate}
use Rattle.std.proofs.Common.{refl, ap, ◌∙◌, arith, set}
use Rattle.std.proofs.lemmas.Bool.Decides.{nat_tests}
use Rattle.std.specs.Ordering.{nat_cmp, eq_by_cmp}
use Rattle.std.specs.Cmp.{nat_cmp_total, unsigned_tied}
use Rattle.std.specs.Option.{option_or}
use Rattle.std.specs.FinMap as fin
use Rattle.line_map.specs.Sizes.{Sizes, set_of}
use Rattle.op_model.specs.Lines.{Copy}
use Rattle.op_model.specs.Lines.{Shared as SharedCopy, Exclusive as ExclusiveCopy}
use Rattle.op_model.specs.Shares.{Copies}
use Rattle.cpu_cache.specs.declared.cache.Slot.{Slot}
use Rattle.cpu_cache.specs.declared.cache.Slot.TheVariants.{Empty, Shared, Exclusive}
use Rattle.cpu_cache.specs.Slots.{held, with_slot, copies_in, FitsSet, AreSlots}

-- what the first slot has that has anything of the line
abbrev pub first_held : ℕ → List Slot → Option Copy
first_held line [] = None
first_held line (slot ∷ slots) = option_or (held line slot) (first_held line slots)

inserted : (copies : Copies) (other line : ℕ) (copy : Copy) → fin.get (fin.insert copies other copy) line ≡ option_or (cond (line == other) (Some copy) None) (fin.get copies line)
inserted copies other line copy = fin.get-insert nat_cmp_total copies other copy line ∙ chosen (eq_by_cmp nat_cmp line other) (line == other) (unsigned_tied line other)
  where
    chosen : (a b : Bool) → a ≡ b → cond a (Some copy) (fin.get copies line) ≡ option_or (cond b (Some copy) None) (fin.get copies line)
    chosen true true e = refl
    chosen false false e = refl
    chosen true false e = cc
    chosen false true e = cc

get-with_slot : (slot : Slot) (copies : Copies) (line : ℕ) → fin.get (with_slot slot copies) line ≡ option_or (held line slot) (fin.get copies line)
get-with_slot Empty copies line = refl
get-with_slot (Shared other words) copies line = inserted copies other line (SharedCopy words)
get-with_slot (Exclusive other words) copies line = inserted copies other line (ExclusiveCopy words)

get-copies_in : (line : ℕ) (slots : List Slot) → fin.get (copies_in slots) line ≡ first_held line slots
get-copies_in line [] = fin.get-empty nat_cmp line
get-copies_in line (slot ∷ slots) = get-with_slot slot (copies_in slots) line ∙ ap (option_or (held line slot)) (get-copies_in line slots)

-- where no slot has the line
none_held : (line : ℕ) (slots : List Slot) → ((i : ℕ) → i < length slots → held line (slice_index_or slots i Empty) ≡ None) → first_held line slots ≡ None
none_held line [] none = refl
none_held line (slot ∷ slots) none = ap (λ x. option_or x (first_held line slots)) (none 0 (omega arith)) ∙ none_held line slots (λ i l. none (suc i) (omega arith))

or_none : (x : Option Copy) → option_or x None ≡ x
or_none None = refl
or_none (Some copy) = refl

-- where no slot but that of one set has the line
first_held-set : (line set : ℕ) (slots : List Slot) → set < length slots → ((i : ℕ) → i < length slots → i ≢ set → held line (slice_index_or slots i Empty) ≡ None) → first_held line slots ≡ held line (slice_index_or slots set Empty)
first_held-set line set [] l none = absurd (omega arith)
first_held-set line zero (slot ∷ slots) l none =
    ap (option_or (held line slot)) (none_held line slots (λ i l'. none (suc i) (omega arith) (omega arith))) ∙ or_none (held line slot)
first_held-set line (suc set) (slot ∷ slots) l none =
    ap (λ x. option_or x (first_held line slots)) (none 0 (omega arith) (omega arith)) ∙ first_held-set line set slots (omega arith) (λ i l' apart. none (suc i) (omega arith) (omega arith))

-- a slot of another set has nothing of the line
apart_held : (sizes : Sizes) (line set : ℕ) (slot : Slot) → FitsSet sizes set slot → set ≢ set_of sizes line → held line slot ≡ None
apart_held sizes line set Empty fits apart = refl
apart_held sizes line set (Shared other words) fits apart = let e = fits.in_set in grind (arith, nat_tests)
apart_held sizes line set (Exclusive other words) fits apart = let e = fits.in_set in grind (arith, nat_tests)

pub get-slots : (sizes : Sizes) (slots : List Slot) → AreSlots sizes slots → (line : ℕ) → set_of sizes line < length slots → fin.get (copies_in slots) line ≡ held line (slice_index_or slots (set_of sizes line) Empty)
get-slots sizes slots are line l =
    get-copies_in line slots ∙ first_held-set line (set_of sizes line) slots l (λ i l' apart. apart_held sizes line i _ (are.fit i l') apart)

pub copies_in-empty : (n : ℕ) → copies_in (replicate n Empty) ≡ fin.empty
copies_in-empty zero = refl
copies_in-empty (suc n) = copies_in-empty n
