-- How a linked directory is kept: the sets of its lists stand in a plain directory, as the bits of words.
use Rattle.std.specs.Prelude.{◌≡◌, ℕ, List, Option}
use Rattle.link_store.specs.Pools.{Pool}
use Rattle.dir_header.specs.Plain.{PlainView}
use Rattle.sharer_dir.specs.Linked.{LinkedView, IsLinkedDir}

abbrev pub linked_view : List (Option ℕ) → Pool → PlainView → LinkedView
linked_view heads pool plain = record { heads = heads; pool = pool; sets = plain.lists }

pub record IsKept (heads : List (Option ℕ)) (pool : Pool) (plain : PlainView) : Type 0 where
  pub linked : IsLinkedDir (linked_view heads pool plain)
  pub bound : plain.nodes ≡ 64
