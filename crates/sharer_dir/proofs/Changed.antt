-- What each call that changes one list leaves: the list stands for its new set, and all other lists are as they were.
use Rattle.std.specs.Prelude.{◌≡◌, ℕ, ◌<◌, ◌≢◌, ◌==◌, ◌||◌, Bool, true, false, cond, List, [], ◌∷◌, length, Option, Some, None, is_some}
use Rattle.std.proofs.Common.{refl, ap, ◌∙◌, arith, get_or, set, length-set}
use Rattle.std.proofs.lemmas.List.{get_or-set_same, get_or-set_other}
use Rattle.op_model.specs.Nodes.{Nodes, none, listed, enlist, unlist}
use Rattle.link_store.specs.Pools.{Chain, Pool, chain_of, with_chain, after_put, after_pop, after_unlink, first_node, link_with, without, has_node, IsPartition}
use Rattle.dir_header.specs.Sharers.{Directory, with_list}
use Rattle.dir_header.specs.Plain.{PlainView, plain_directory}
use Rattle.dir_header.proofs.Public.{unlist-none}
use Rattle.sharer_dir.specs.Linked.{LinkedView, head_at, set_at, Stands, IsLinkedDir, is_head}
use Rattle.sharer_dir.proofs.Standing.{stands_head, stands_link, stands_next, stands_without, none_listed, listed_by_link}
use Rattle.sharer_dir.proofs.Directories.{line_kept}

-- the sets that a plain directory has after one of them changed
pub sets_after : (plain new : PlainView) (m : ℕ) (list : Nodes) → plain_directory new ≡ with_list (plain_directory plain) m list → (new.lists ≡ set plain.lists m list) × (new.nodes ≡ plain.nodes)
sets_after plain new m list e = (ap (λ (d : Directory). d.lists) e, ap (λ (d : Directory). d.nodes) e)

pub chain_of-with : (pool : Pool) (m : ℕ) (chain : Chain) (free : List ℕ) → m < length pool.chains → chain_of (with_chain pool m chain free) m ≡ chain
chain_of-with pool m chain free l = get_or-set_same pool.chains m chain [] l

pub chain_of-other : (pool : Pool) (m k : ℕ) (chain : Chain) (free : List ℕ) → k ≢ m → chain_of (with_chain pool m chain free) k ≡ chain_of pool k
chain_of-other pool m k chain free apart = get_or-set_other pool.chains m k chain [] apart

set_same : (sets : List Nodes) (m : ℕ) (list : Nodes) → m < length sets → get_or (set sets m list) m none ≡ list
set_same sets m list l = get_or-set_same sets m list none l

set_other : (sets : List Nodes) (m k : ℕ) (list : Nodes) → k ≢ m → get_or (set sets m list) k none ≡ get_or sets k none
set_other sets m k list apart = get_or-set_other sets m k list none apart

-- a node became the head of an empty list
pub head_added : (dir : LinkedView) (m node : ℕ) → IsLinkedDir dir → m < length dir.sets → head_at dir m ≡ None → listed (set_at dir m) node ≡ false → IsLinkedDir (record { heads = set dir.heads m (Some node); pool = dir.pool; sets = set dir.sets m (enlist (set_at dir m) node) })
head_added dir m node is l empty absent =
    line_kept dir (record { heads = set dir.heads m (Some node); pool = dir.pool; sets = set dir.sets m (enlist (set_at dir m) node) }) m is
    (length-set dir.heads m (Some node)) refl (length-set dir.sets m (enlist (set_at dir m) node))
    (λ k apart. (get_or-set_other dir.heads m k (Some node) None apart, refl, set_other dir.sets m k (enlist (set_at dir m) node) apart))
    (rw (get_or-set_same dir.heads m (Some node) None (let e = is.heads in omega (arith, e)), set_same dir.sets m (enlist (set_at dir m) node) l)
    (stands_head (chain_of dir.pool m) (set_at dir m) node (rw (← empty) (is.stands m l)) absent))
    is.partition

-- a node took the first free link
pub link_added : (dir : LinkedView) (m node head link : ℕ) (free : List ℕ) → IsLinkedDir dir → m < length dir.sets → head_at dir m ≡ Some head → listed (set_at dir m) node ≡ false → IsPartition (after_put dir.pool m node (link ∷ free)) → IsLinkedDir (record { heads = dir.heads; pool = after_put dir.pool m node (link ∷ free); sets = set dir.sets m (enlist (set_at dir m) node) })
link_added dir m node head link free is l some absent partition =
    line_kept dir (record { heads = dir.heads; pool = after_put dir.pool m node (link ∷ free); sets = set dir.sets m (enlist (set_at dir m) node) }) m is
    refl (length-set dir.pool.chains m ((link, node) ∷ chain_of dir.pool m)) (length-set dir.sets m (enlist (set_at dir m) node))
    (λ k apart. (refl, chain_of-other dir.pool m k ((link, node) ∷ chain_of dir.pool m) free apart, set_other dir.sets m k (enlist (set_at dir m) node) apart))
    (rw (some, chain_of-with dir.pool m ((link, node) ∷ chain_of dir.pool m) free (let e = is.chains in omega (arith, e)), set_same dir.sets m (enlist (set_at dir m) node) l)
    (stands_link head link node (chain_of dir.pool m) (set_at dir m) (rw (← some) (is.stands m l)) absent))
    partition

-- the head was removed
pub head_removed : (dir : LinkedView) (m node : ℕ) (chain : Chain) → IsLinkedDir dir → m < length dir.sets → head_at dir m ≡ Some node → chain_of dir.pool m ≡ chain → IsPartition (after_pop dir.pool m chain) → IsLinkedDir (record { heads = set dir.heads m (first_node chain); pool = after_pop dir.pool m chain; sets = set dir.sets m (unlist (set_at dir m) node) })
head_removed dir m node [] is l some seen partition =
    line_kept dir (record { heads = set dir.heads m None; pool = dir.pool; sets = set dir.sets m (unlist (set_at dir m) node) }) m is
    (length-set dir.heads m None) refl (length-set dir.sets m (unlist (set_at dir m) node))
    (λ k apart. (get_or-set_other dir.heads m k None None apart, refl, set_other dir.sets m k (unlist (set_at dir m) node) apart))
    (rw (get_or-set_same dir.heads m None None (let e = is.heads in omega (arith, e)), seen, set_same dir.sets m (unlist (set_at dir m) node) l)
    (stands_next node [] (set_at dir m) (rw (← some, ← seen) (is.stands m l))))
    partition
head_removed dir m node (e ∷ chain) is l some seen partition =
    line_kept dir (record { heads = set dir.heads m (Some e.1); pool = with_chain dir.pool m chain (e.0 ∷ dir.pool.free); sets = set dir.sets m (unlist (set_at dir m) node) }) m is
    (length-set dir.heads m (Some e.1)) (length-set dir.pool.chains m chain) (length-set dir.sets m (unlist (set_at dir m) node))
    (λ k apart. (get_or-set_other dir.heads m k (Some e.1) None apart, chain_of-other dir.pool m k chain (e.0 ∷ dir.pool.free) apart, set_other dir.sets m k (unlist (set_at dir m) node) apart))
    (rw (get_or-set_same dir.heads m (Some e.1) None (let e' = is.heads in omega (arith, e')), chain_of-with dir.pool m chain (e.0 ∷ dir.pool.free) (let e' = is.chains in omega (arith, e')), set_same dir.sets m (unlist (set_at dir m) node) l)
    (stands_next node (e ∷ chain) (set_at dir m) (rw (← some, ← seen) (is.stands m l))))
    partition

-- whether a link has the node
has_link : (chain : Chain) (node : ℕ) → has_node chain node ≡ is_some (link_with chain node)
has_link [] node = refl
has_link (e ∷ chain) node = by (e.1 == node) (has_link chain node)
  where
    by : (b : Bool) → has_node chain node ≡ is_some (link_with chain node) → (b || has_node chain node) ≡ is_some (cond b (Some e.0) (link_with chain node))
    by true later = refl
    by false later = later

-- a node was removed that isn't the head
pub link_removed : (dir : LinkedView) (m node : ℕ) (head link : Option ℕ) → IsLinkedDir dir → m < length dir.sets → head_at dir m ≡ head → is_head head node ≡ false → link_with (chain_of dir.pool m) node ≡ link → IsPartition (after_unlink dir.pool m node link) → IsLinkedDir (record { heads = dir.heads; pool = after_unlink dir.pool m node link; sets = set dir.sets m (unlist (set_at dir m) node) })
link_removed dir m node head None is l at other none partition =
    line_kept dir (record { heads = dir.heads; pool = dir.pool; sets = set dir.sets m (unlist (set_at dir m) node) }) m is
    refl refl (length-set dir.sets m (unlist (set_at dir m) node))
    (λ k apart. (refl, refl, set_other dir.sets m k (unlist (set_at dir m) node) apart))
    (rw (set_same dir.sets m (unlist (set_at dir m) node) l, unlist-none (set_at dir m) node (absent head at other)) (is.stands m l))
    partition
  where
    no_link : has_node (chain_of dir.pool m) node ≡ false
    no_link = has_link (chain_of dir.pool m) node ∙ ap is_some none

    absent : (head : Option ℕ) → head_at dir m ≡ head → is_head head node ≡ false → listed (set_at dir m) node ≡ false
    absent None at other = none_listed (chain_of dir.pool m) (set_at dir m) node (rw (← at) (is.stands m l))
    absent (Some head) at other = listed_by_link head node (chain_of dir.pool m) (set_at dir m) (rw (← at) (is.stands m l)) other ∙ no_link
link_removed dir m node None (Some link) is l at other some partition =
    let s : Stands None (chain_of dir.pool m) (set_at dir m) = rw (← at) (is.stands m l) in
    let empty : chain_of dir.pool m ≡ [] = s.empty refl in
    let none : link_with (chain_of dir.pool m) node ≡ None = ap (λ (c : Chain). link_with c node) empty in
    cc
link_removed dir m node (Some head) (Some link) is l at other some partition =
    let chain : Chain = without (chain_of dir.pool m) node in
    let free : List ℕ = link ∷ dir.pool.free in
    line_kept dir (record { heads = dir.heads; pool = with_chain dir.pool m (without (chain_of dir.pool m) node) (link ∷ dir.pool.free); sets = set dir.sets m (unlist (set_at dir m) node) }) m is
    refl (length-set dir.pool.chains m chain) (length-set dir.sets m (unlist (set_at dir m) node))
    (λ k apart. (refl, chain_of-other dir.pool m k chain free apart, set_other dir.sets m k (unlist (set_at dir m) node) apart))
    (rw (at, chain_of-with dir.pool m chain free (let e = is.chains in omega (arith, e)), set_same dir.sets m (unlist (set_at dir m) node) l)
    (stands_without head node (chain_of dir.pool m) (set_at dir m) (rw (← at) (is.stands m l)) other (has_link (chain_of dir.pool m) node ∙ ap is_some some)))
    partition
