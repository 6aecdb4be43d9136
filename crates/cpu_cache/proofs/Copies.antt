-- A slot written as an equation of caches. Where no other line of the set has a copy, the new slot makes the cache that has the new
-- copy put at its line: both answer alike at each line.
use Rattle.std.specs.Prelude.{◌≡◌, ℕ, ◌≢◌, ◌==◌, Bool, true, false, cond, is_some, unwrap_or, Option, Some, None}
use Rattle.std.proofs.Common.{refl, sym, ap, ◌∙◌, arith, ◌⊎◌, inl, inr}
use Rattle.std.proofs.lemmas.Bool.Decides.{nat_tests}
use Rattle.std.specs.Ordering.{nat_cmp, eq_by_cmp}
use Rattle.std.specs.Cmp.{nat_cmp_total, unsigned_tied}
use Rattle.std.specs.FinMap as fin
use Rattle.line_map.specs.Sizes.{set_of}
use Rattle.op_model.specs.declared.CopyState.{CopyState}
use Rattle.op_model.specs.declared.CopyState.TheVariants as state
use Rattle.op_model.specs.Lines.{Copy, Absent, Shared, Exclusive, state_of, is_empty}
use Rattle.op_model.specs.Shares.{put_copy, Copies, copy_in}
use Rattle.cpu_cache.specs.declared.cache.Slot.{Slot}
use Rattle.cpu_cache.specs.Caches.{CacheView, IsDirectMapped, is_set_free, with_copy}
use Rattle.cpu_cache.specs.Slots.{held, PutsSlot}
use Rattle.cpu_cache.proofs.Sets.{none_in_free}

-- what the copies have at a line where this copy was put
abbrev pub stored : Copy → Option Copy
stored Absent = None
stored (Shared words) = Some (Shared words)
stored (Exclusive words) = Some (Exclusive words)

by_test : (copies : Copies) (line other : ℕ) (now : Option Copy) → cond (eq_by_cmp nat_cmp other line) now (fin.get copies other) ≡ cond (other == line) now (fin.get copies other)
by_test copies line other now = ap (λ b. cond b now (fin.get copies other)) (unsigned_tied other line)

pub get-put_copy : (copies : Copies) (line : ℕ) (copy : Copy) (other : ℕ) → fin.get (put_copy copies line copy) other ≡ cond (other == line) (stored copy) (fin.get copies other)
get-put_copy copies line Absent other = fin.get-remove nat_cmp_total copies line other ∙ by_test copies line other None
get-put_copy copies line (Shared words) other = fin.get-insert nat_cmp_total copies line (Shared words) other ∙ by_test copies line other (Some (Shared words))
get-put_copy copies line (Exclusive words) other = fin.get-insert nat_cmp_total copies line (Exclusive words) other ∙ by_test copies line other (Some (Exclusive words))

pub same_copies : (copies more : Copies) → ((line : ℕ) → fin.get copies line ≡ fin.get more line) → copies ≡ more
same_copies copies more same = fin.same_map nat_cmp_total fin.nat_cmp-IsAntisymmetric copies more same

-- the sets of two lines that are one line are one set
chosen : (in_set same : Bool) (now before : Option Copy) → (same ≡ true → in_set ≡ true) → (in_set ≡ true → same ≡ false → before ≡ None) → cond in_set (cond same now None) before ≡ cond same now before
chosen true true now before one others = refl
chosen true false now before one others = sym (others refl refl)
chosen false true now before one others = let e = one refl in cc
chosen false false now before one others = refl

pub replaced : (old new : CacheView) (line : ℕ) (slot : Slot) (copy : Copy) → PutsSlot old new line slot → ((other : ℕ) → held other slot ≡ cond (other == line) (stored copy) None) → ((other : ℕ) → set_of old.sizes other ≡ set_of old.sizes line → other ≢ line → fin.get old.copies other ≡ None) → new ≡ with_copy old line copy
replaced old new line slot copy puts of others = λ i. record { sizes = puts.sizes i; copies = same i }
  where
    at : (other : ℕ) → fin.get new.copies other ≡ fin.get (put_copy old.copies line copy) other
    at other =
        puts.copies other ∙ ap (λ x. cond (set_of old.sizes other == set_of old.sizes line) x (fin.get old.copies other)) (of other)
        ∙ chosen (set_of old.sizes other == set_of old.sizes line) (other == line) (stored copy) (fin.get old.copies other) (λ e. grind (arith, nat_tests, e)) (λ in_set apart. others other (grind (arith, nat_tests, in_set)) (grind (arith, nat_tests, apart)))
        ∙ sym (get-put_copy old.copies line copy other)

    same : new.copies ≡ put_copy old.copies line copy
    same = same_copies new.copies (put_copy old.copies line copy) at

none_by : (o : Option Copy) → (is_some o ≡ true → is_some o ≡ false) → o ≡ None
none_by None never = refl
none_by (Some copy) never = let e = never refl in cc

-- a set that is free has no copy of another line
pub others_in_free : (cache : CacheView) (line : ℕ) → IsDirectMapped cache → is_set_free cache line ≡ true → (other : ℕ) → set_of cache.sizes other ≡ set_of cache.sizes line → other ≢ line → fin.get cache.copies other ≡ None
others_in_free cache line kept free other same apart =
    none_by (fin.get cache.copies other) (λ some. let full = kept.held other some in let empty = none_in_free cache line other free same in cc)

there : (o : Option Copy) → state_of (unwrap_or o Absent) ≢ state.Absent → is_some o ≡ true
there None copied = absurd (copied refl)
there (Some copy) copied = refl

-- and neither has the set of a line that has a copy
pub others_beside : (cache : CacheView) (line : ℕ) → IsDirectMapped cache → state_of (copy_in cache.copies line) ≢ state.Absent → (other : ℕ) → set_of cache.sizes other ≡ set_of cache.sizes line → other ≢ line → fin.get cache.copies other ≡ None
others_beside cache line kept copied other same apart =
    none_by (fin.get cache.copies other) (λ some. absurd (apart (kept.one other line same some (there (fin.get cache.copies line) copied))))

-- a copy in place of another of the same line
pub put_over : (old new : CacheView) (line : ℕ) (slot : Slot) (copy : Copy) → IsDirectMapped old → state_of (copy_in old.copies line) ≢ state.Absent → PutsSlot old new line slot → ((other : ℕ) → held other slot ≡ cond (other == line) (stored copy) None) → new ≡ with_copy old line copy
put_over old new line slot copy kept copied puts of = replaced old new line slot copy puts of (others_beside old line kept copied)

pub is_copied : (copy : CopyState) → copy ≡ state.Exclusive → copy ≢ state.Absent
is_copied copy exclusive absent = cc

pub is_there : (copy : CopyState) → (copy ≡ state.Shared) ⊎ (copy ≡ state.Exclusive) → copy ≢ state.Absent
is_there copy (inl shared) absent = cc
is_there copy (inr exclusive) absent = cc

pub nothing_held : (b : Bool) → None ≡ cond b (stored Absent) None
nothing_held true = refl
nothing_held false = refl

absent_is_none : (o : Option Copy) → (is_some o ≡ true → is_empty (unwrap_or o Absent) ≡ false) → state_of (unwrap_or o Absent) ≡ state.Absent → o ≡ None
absent_is_none None held absent = refl
absent_is_none (Some Absent) held absent = let e = held refl in cc
absent_is_none (Some (Shared words)) held absent = cc
absent_is_none (Some (Exclusive words)) held absent = cc

-- where a line has no copy, nothing changes when it is dropped
pub dropped_none : (cache : CacheView) (line : ℕ) → IsDirectMapped cache → state_of (copy_in cache.copies line) ≡ state.Absent → cache ≡ with_copy cache line Absent
dropped_none cache line kept absent = λ i. record { sizes = cache.sizes; copies = same i }
  where
    gone : (same : Bool) (other : ℕ) → (other == line) ≡ same → fin.get cache.copies other ≡ cond same None (fin.get cache.copies other)
    gone true other e = let same : other ≡ line = grind (arith, nat_tests, e) in ap (fin.get cache.copies) same ∙ absent_is_none (fin.get cache.copies line) (kept.held line) absent
    gone false other e = refl

    same : cache.copies ≡ fin.remove cache.copies line
    same = same_copies cache.copies (fin.remove cache.copies line) (λ other. gone (other == line) other refl ∙ sym (get-put_copy cache.copies line Absent other))
