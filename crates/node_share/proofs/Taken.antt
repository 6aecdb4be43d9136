-- A copy that is taken from given words, and an operation that is done on a copy.
use Rattle.std.proofs.Common.{◌≡◌, ◌≢◌, ℕ, Bool, true, false, cond, ◌==◌, refl, sym, ap, ◌∙◌, arith}
use Rattle.std.specs.FinMap as fin
use Rattle.std.proofs.lemmas.Bool.{cond-true, cond-false}
use Rattle.std.proofs.lemmas.Bool.Decides.{nat_tests}
use denote.Enum.Bare.{sameb}
use Rattle.line_map.specs.Sizes.{set_of, line_of}
use Rattle.op_model.specs.declared.operations.Kind.{Kind}
use Rattle.op_model.specs.declared.operations.Kind.TheVariants.{Load, Store, Swap, Add}
use Rattle.op_model.specs.declared.operations.Op.{Op}
use Rattle.op_model.specs.contracts.operations.Kind.{the_type as kind_type}
use Rattle.op_model.specs.Operations.{Words, is_load, after_op}
use Rattle.op_model.specs.Lines.{Copy, Absent, Shared, Exclusive, is_empty, words_of}
use Rattle.op_model.specs.Shares.{put_copy, Copies, copy_in}
use Rattle.op_model.specs.Tables.Processor.{serves, done_on}
use Rattle.cpu_cache.specs.Caches.{CacheView, with_copy, is_set_free, is_set_taken, IsDirectMapped}
use Rattle.cpu_cache.specs.Caches.{IsResident}
use Rattle.cpu_cache.proofs.Public.{filled, free_by_none, taken_by}
use Rattle.node_share.specs.Parts.{AreCopies, copy_done}
use Rattle.node_share.proofs.Copies.{copy-put, copy-put_other, copy-put_again, copy-kept}

pub load_test : (kind : Kind) → sameb kind_type kind Load ≡ is_load kind
load_test Load = refl
load_test Store = refl
load_test Swap = refl
load_test Add = refl

-- where no other line stands in the set of a line, no other line of it has a copy
pub alone : (cache : CacheView) (line other : ℕ) → IsDirectMapped cache → is_set_taken cache line ≡ false → set_of cache.sizes other ≡ set_of cache.sizes line → other ≢ line → is_empty (copy_in cache.copies other) ≡ true
alone cache line other is free same apart = by (is_empty (copy_in cache.copies other)) refl
  where
    by : (b : Bool) → is_empty (copy_in cache.copies other) ≡ b → b ≡ true
    by true e = refl
    by false e =
        let some = filled (fin.get cache.copies other) e in
        let resident : IsResident cache line other = record {
          held = e;
          in_set = same;
          below = is.below other some;
          only = λ q in_set copied. is.one q other (in_set ∙ sym same) (filled (fin.get cache.copies q) copied) some;
        } in
        let d : true ≡ false = sym ((taken_by cache line other resident).1 apart) ∙ free in cc

-- a set is free where its line has no copy, and no other line stands there
pub free-alone : (cache : CacheView) (line : ℕ) → IsDirectMapped cache → is_set_taken cache line ≡ false → is_empty (copy_in cache.copies line) ≡ true → is_set_free cache line ≡ true
free-alone cache line is free empty = free_by_none cache line (λ other same. at other same (other == line) refl)
  where
    at : (other : ℕ) → set_of cache.sizes other ≡ set_of cache.sizes line → (b : Bool) → (other == line) ≡ b → is_empty (copy_in cache.copies other) ≡ true
    at other same true e = let one : other ≡ line = grind (arith, nat_tests) in ap (λ q. is_empty (copy_in cache.copies q)) one ∙ empty
    at other same false e = let apart : other ≢ line = grind (arith, nat_tests) in alone cache line other is free same apart

-- and once its line has left
pub free-after : (cache : CacheView) (line : ℕ) → IsDirectMapped cache → is_set_taken cache line ≡ false → is_set_free (with_copy cache line Absent) line ≡ true
free-after cache line is free = free_by_none (with_copy cache line Absent) line (λ other same. at other same (other == line) refl)
  where
    at : (other : ℕ) → set_of cache.sizes other ≡ set_of cache.sizes line → (b : Bool) → (other == line) ≡ b → is_empty (copy_in (put_copy cache.copies line Absent) other) ≡ true
    at other same true e = let one : other ≡ line = grind (arith, nat_tests) in ap (λ q. is_empty (copy_in (put_copy cache.copies line Absent) q)) one ∙ ap is_empty (copy-put cache.copies line Absent)
    at other same false e = let apart : other ≢ line = grind (arith, nat_tests) in ap is_empty (copy-put_other cache.copies line other Absent apart) ∙ alone cache line other is free same apart

-- what a load doesn't find in any copy, no copy has
pub unserved-load : (op : Op) (copy : Copy) → is_load op.kind ≡ true → serves op copy ≡ false → is_empty copy ≡ true
unserved-load op Absent load unserved = refl
unserved-load op (Shared words) load unserved = let d : true ≡ false = sym load ∙ unserved in cc
unserved-load op (Exclusive words) load unserved = cc

-- a load leaves the copy as it is
pub load-keeps : (op : Op) (copies : Copies) (line : ℕ) → AreCopies copies → is_load op.kind ≡ true → put_copy copies line (done_on op (copy_in copies line)) ≡ copies
unfolding after_op
load-keeps op copies line are load = ap (put_copy copies line) (same (copy_in copies line)) ∙ copy-kept copies line are
  where
    same : (copy : Copy) → done_on op copy ≡ copy
    same Absent = refl
    same (Shared words) = refl
    same (Exclusive words) = ap Exclusive (cond-true (is_load op.kind) _ _ load)

-- the copy that an operation takes, before it is done on it
abbrev pub lent : Op → Words → Copy
lent op words = cond (is_load op.kind) (Shared words) (Exclusive words)

pub lent-done : (op : Op) (words : Words) → done_on op (lent op words) ≡ copy_done op words
lent-done op words = by_kind (is_load op.kind)
  where
    by_kind : (load : Bool) → done_on op (cond load (Shared words) (Exclusive words)) ≡ cond load (Shared words) (Exclusive (after_op op words))
    by_kind true = refl
    by_kind false = refl

pub lent-serves : (op : Op) (words : Words) → serves op (lent op words) ≡ true
lent-serves op words = by_kind (is_load op.kind) refl
  where
    by_kind : (load : Bool) → is_load op.kind ≡ load → serves op (cond load (Shared words) (Exclusive words)) ≡ true
    by_kind true e = e
    by_kind false e = refl

pub lent-words : (op : Op) (words : Words) → words_of (lent op words) ≡ words
lent-words op words = by_kind (is_load op.kind)
  where
    by_kind : (load : Bool) → words_of (cond load (Shared words) (Exclusive words)) ≡ words
    by_kind true = refl
    by_kind false = refl

pub lent-write : (op : Op) (words : Words) → is_load op.kind ≡ false → lent op words ≡ Exclusive words
lent-write op words e = cond-false (is_load op.kind) _ _ e

-- a copy is taken, and the operation is done on it
module _ (cache cache1 : CacheView) (op : Op) (line : ℕ) (words : Words) (line-is : line ≡ line_of cache.sizes op.word) (first : cache1 ≡ with_copy cache line (lent op words)) where
  taken : cache1 ≡ with_copy cache (line_of cache.sizes op.word) (lent op words)
  taken = first ∙ ap (λ g. with_copy cache g (lent op words)) line-is

  pub taken_copy : copy_in cache1.copies (line_of cache1.sizes op.word) ≡ lent op words
  taken_copy = ap (λ c. copy_in c.copies (line_of c.sizes op.word)) taken ∙ copy-put cache.copies (line_of cache.sizes op.word) (lent op words)

  pub taken_then_done : (cache2 : CacheView) → cache2 ≡ with_copy cache1 (line_of cache1.sizes op.word) (done_on op (copy_in cache1.copies (line_of cache1.sizes op.word))) →
      cache2 ≡ with_copy cache (line_of cache.sizes op.word) (copy_done op words)
  taken_then_done cache2 second =
      second
      ∙ ap (with_copy cache1 (line_of cache1.sizes op.word)) (ap (done_on op) taken_copy ∙ lent-done op words)
      ∙ ap (λ c. with_copy c (line_of c.sizes op.word) (copy_done op words)) taken
      ∙ ap (λ cs. record { sizes = cache.sizes; copies = cs }) (copy-put_again cache.copies (line_of cache.sizes op.word) (lent op words) (copy_done op words))
