-- The links of a line become free one by one. However many are gone, what is left of the chain and of the pool empties to the same.
use Rattle.std.specs.Prelude.{◌≡◌, ℕ, ◌<◌, ◌≢◌, List, [], ◌∷◌, length, Option, None}
use Rattle.std.proofs.Common.{refl, ap, ◌∙◌, arith, set, length-set}
use Rattle.std.proofs.lemmas.List.{get_or-set_same, get_or-set_other}
use Rattle.op_model.specs.Nodes.{none}
use Rattle.link_store.specs.Pools.{Chain, Pool, chain_of, with_chain, IsPartition}
use Rattle.dir_header.specs.Sharers.{only_this, with_list}
use Rattle.dir_header.specs.Plain.{PlainView, plain_directory}
use Rattle.sharer_dir.specs.Linked.{LinkedView, IsLinkedDir, emptied, linked_directory}
use Rattle.sharer_dir.proofs.Standing.{stands_only}
use Rattle.sharer_dir.proofs.Directories.{line_kept}
use Rattle.sharer_dir.proofs.Changed.{chain_of-with, chain_of-other, sets_after}

-- A pool on the way: the rest of the line's chain is to be freed still
pub record IsClearing (old pool : Pool) (m : ℕ) : Type 0 where
  pub rest : emptied (chain_of pool m) pool m ≡ emptied (chain_of old m) old m
  pub lines : length pool.chains ≡ length old.chains

-- the pool after that: the line has no link, and the other lines have those that they had
pub emptied_chain : (chain : Chain) (pool : Pool) (m : ℕ) → m < length pool.chains → chain_of pool m ≡ chain → (chain_of (emptied chain pool m) m ≡ []) × (length (emptied chain pool m).chains ≡ length pool.chains) × ((k : ℕ) → k ≢ m → chain_of (emptied chain pool m) k ≡ chain_of pool k)
emptied_chain [] pool m l seen = (seen, refl, λ k apart. refl)
emptied_chain (e ∷ chain) pool m l seen =
    let next : Pool = with_chain pool m chain (e.0 ∷ pool.free) in
    let lines : length next.chains ≡ length pool.chains = length-set pool.chains m chain in
    let on = emptied_chain chain (with_chain pool m chain (e.0 ∷ pool.free)) m (omega (arith, lines)) (chain_of-with pool m chain (e.0 ∷ pool.free) l) in
    (on.0, on.1 ∙ lines, λ k apart. on.2 k apart ∙ chain_of-other pool m k chain (e.0 ∷ pool.free) apart)

-- the list is that of one node, or empty
pub list_cleared : (dir : LinkedView) (pool : Pool) (m : ℕ) (only : Option ℕ) → IsLinkedDir dir → m < length dir.sets → pool ≡ emptied (chain_of dir.pool m) dir.pool m → IsPartition pool → IsLinkedDir (record { heads = set dir.heads m only; pool = pool; sets = set dir.sets m (only_this only) })
list_cleared dir pool m only is l pool_is partition =
    let on = emptied_chain (chain_of dir.pool m) dir.pool m (let e = is.chains in omega (arith, e)) refl in
    let empty : chain_of pool m ≡ [] = ap (λ (p : Pool). chain_of p m) pool_is ∙ on.0 in
    line_kept dir (record { heads = set dir.heads m only; pool = pool; sets = set dir.sets m (only_this only) }) m is
    (length-set dir.heads m only) (ap (λ (p : Pool). length p.chains) pool_is ∙ on.1) (length-set dir.sets m (only_this only))
    (λ k apart. (get_or-set_other dir.heads m k only None apart, ap (λ (p : Pool). chain_of p k) pool_is ∙ on.2 k apart, get_or-set_other dir.sets m k (only_this only) none apart))
    (rw (get_or-set_same dir.heads m only None (let e = is.heads in omega (arith, e)), empty, get_or-set_same dir.sets m (only_this only) none l) (stands_only only))
    partition

emptied_count : (chain : Chain) (pool : Pool) (m : ℕ) → (emptied chain pool m).count ≡ pool.count
emptied_count [] pool m = refl
emptied_count (e ∷ chain) pool m = emptied_count chain (with_chain pool m chain (e.0 ∷ pool.free)) m

-- which directory that is
pub cleared_directory : (heads : List (Option ℕ)) (dir : LinkedView) (pool : Pool) (plain plain' : PlainView) (m : ℕ) (only : Option ℕ) → plain.lists ≡ dir.sets → pool ≡ emptied (chain_of dir.pool m) dir.pool m → plain_directory plain' ≡ with_list (plain_directory plain) m (only_this only) → linked_directory (record { heads = heads; pool = pool; sets = plain'.lists }) ≡ with_list (linked_directory dir) m (only_this only)
cleared_directory heads dir pool plain plain' m only lists pool_is after =
    let sets : plain'.lists ≡ set dir.sets m (only_this only) = (sets_after plain plain' m (only_this only) after).0 ∙ ap (λ s. set s m (only_this only)) lists in
    let count : pool.count ≡ dir.pool.count = ap (λ (p : Pool). p.count) pool_is ∙ emptied_count (chain_of dir.pool m) dir.pool m in
    λ i. record (linked_directory dir) { lists = sets i; links = count i }
