-- What a cache holds: at most one line in each of its sets, with a copy of it.
use Rattle.std.specs.Prelude.{◌≡◌, ◌<◌, ℕ, Bool, true, false, ◌==◌, not, ◌&&◌, length, is_some, ◌⊎◌, unwrap_or, refl}
use Rattle.std.specs.FinMap as fin
use Rattle.std.specs.Coded.{Coded, code_by, coded×, coded_ℕ}
use Rattle.line_map.specs.Sizes.{Sizes, all_lines, set_of}
use Rattle.line_map.specs.Codes.{sizes_code}
pub use Rattle.op_model.specs.Lines.{Copy, Absent, Shared, Exclusive, state_of, words_of, is_empty}
pub use Rattle.op_model.specs.Shares.{put_copy}
use Rattle.op_model.specs.Shares.{Copies, copy_in, is_set_free as free_among, is_set_taken as taken_among}
use Rattle.op_model.specs.Codes.{copy_code}

-- A cache: its machine, and the copies that it holds
pub record CacheView : Type 0 where
  pub sizes : Sizes
  pub copies : Copies

-- whether the other line has a copy, which stands in the set of this line
abbrev pub stands : CacheView → ℕ → ℕ → Bool
stands cache line other = (set_of cache.sizes other == set_of cache.sizes line) && not (is_empty (copy_in cache.copies other))

-- whether the set of a line is empty
abbrev pub is_set_free : CacheView → ℕ → Bool
is_set_free cache line = free_among cache.sizes cache.copies line

-- whether the set of a line holds another line than this one
abbrev pub is_set_taken : CacheView → ℕ → Bool
is_set_taken cache line = taken_among cache.sizes cache.copies line

-- the line that stands in the set of a line. No other line of that set has a copy
pub record IsResident (cache : CacheView) (line : ℕ) (resident : ℕ) : Type 0 where
  pub held : is_empty (copy_in cache.copies resident) ≡ false
  pub in_set : set_of cache.sizes resident ≡ set_of cache.sizes line
  pub below : resident < all_lines cache.sizes
  pub only : (other : ℕ) → set_of cache.sizes other ≡ set_of cache.sizes line → is_empty (copy_in cache.copies other) ≡ false → other ≡ resident

-- What holds of each cache: no two lines of one set have copies, each copy is of a line of the machine and has as many words as a line
pub record IsDirectMapped (cache : CacheView) : Type 0 where
  pub one : (line other : ℕ) → set_of cache.sizes line ≡ set_of cache.sizes other → is_some (fin.get cache.copies line) ≡ true → is_some (fin.get cache.copies other) ≡ true → line ≡ other
  pub below : (line : ℕ) → is_some (fin.get cache.copies line) ≡ true → line < all_lines cache.sizes
  pub width : (line : ℕ) → is_some (fin.get cache.copies line) ≡ true → length (words_of (copy_in cache.copies line)) ≡ cache.sizes.words
  pub held : (line : ℕ) → is_some (fin.get cache.copies line) ≡ true → is_empty (copy_in cache.copies line) ≡ false

-- a cache with this copy of a line
abbrev pub with_copy : CacheView → ℕ → Copy → CacheView
with_copy cache line copy = record cache { copies = put_copy cache.copies line copy }

-- how a cache is stored, so that it is a value
abbrev pub cache_code : Coded CacheView
cache_code = code_by (Sizes × Copies) (coded× sizes_code (fin.code coded_ℕ copy_code)) (λ c. (c.sizes, c.copies)) (λ p. record { sizes = p.0; copies = p.1 }) (λ _. refl)
