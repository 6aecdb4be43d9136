-- A cache and its node's share: where the cache has the copies of the share, it answers what the definitions ask of the share.
use Rattle.std.specs.Prelude.{◌≡◌, ℕ, Bool, refl}
use Rattle.line_map.specs.Sizes.{Sizes}
use Rattle.op_model.specs.Lines.{LineShare}
use Rattle.op_model.specs.Shares.{Share, copy_of, put_share, is_set_empty, conflicts, copy_in}
use Rattle.cpu_cache.specs.Caches.{CacheView, is_set_free, is_set_taken, with_copy}

-- the cache that has the copies of a share
abbrev pub cache_in : Sizes → Share → CacheView
cache_in sizes share = record { sizes = sizes; copies = share.copies }

pub copy_of-cache : (sizes : Sizes) (share : Share) (line : ℕ) → copy_of share line ≡ copy_in (cache_in sizes share).copies line
unfolding copy_of
copy_of-cache sizes share line = refl

pub is_set_empty-cache : (sizes : Sizes) (share : Share) (line : ℕ) → is_set_empty sizes share line ≡ is_set_free (cache_in sizes share) line
unfolding copy_of
is_set_empty-cache sizes share line = refl

pub conflicts-cache : (sizes : Sizes) (share : Share) (line : ℕ) → conflicts sizes share line ≡ is_set_taken (cache_in sizes share) line
unfolding copy_of
conflicts-cache sizes share line = refl

-- a row of a line changes the cache by its copy of that line
pub put_share-cache : (sizes : Sizes) (at_home : Bool) (line : ℕ) (done : Bool) (row : LineShare) (share : Share) → cache_in sizes (put_share sizes at_home line done row share) ≡ with_copy (cache_in sizes share) line row.copy
unfolding put_share
put_share-cache sizes at_home line done row share = refl
