-- The links that all lists hold are those of the chains, so that the free links are those of the free list; and where one line has
-- another list, the directory is kept if that list stands for its set.
use Rattle.std.specs.Prelude.{◌≡◌, ℕ, suc, ◌-◌, ◌<◌, ◌≢◌, ◌==◌, Bool, true, false, List, [], ◌∷◌, length, sum_by, Option, Some, None}
use Rattle.std.proofs.Common.{refl, sym, ap, subst, ◌∙◌, arith, get_or}
use Rattle.std.proofs.lemmas.Bool.Decides.{nat_tests}
use Rattle.std.proofs.lemmas.List.Sums.{sum_by-cons}
use Rattle.std.proofs.lemmas.List.{length-map}
use Rattle.op_model.specs.Nodes.{Nodes, none, listed, count}
use Rattle.link_store.specs.Pools.{Chain, chain_of, nodes_of, IsPartition}
use Rattle.dir_header.specs.Sharers.{Linked, IsDirectory, list_at, held_by, held_in, free_in}
use Rattle.dir_header.proofs.Public.{held-linked}
use Rattle.sharer_dir.specs.Linked.{LinkedView, head_at, set_at, Stands, IsLinkedDir, linked_directory}

-- a list holds as many links as its chain has
pub held_chain : (head : Option ℕ) (chain : Chain) (set : Nodes) → Stands head chain set → held_by Linked set ≡ length chain
held_chain None chain set is =
    let many : length (nodes_of chain) ≡ count set = is.many in
    let none : length (nodes_of chain) ≡ 0 = ap (λ (c : Chain). length (nodes_of c)) (is.empty refl) in
    let empty : length chain ≡ 0 = ap length (is.empty refl) in
    let h = held-linked set in
    omega (arith, many, none, empty, h)
held_chain (Some head) chain set is =
    let many : suc (length (nodes_of chain)) ≡ count set = is.many in
    let same : length (nodes_of chain) ≡ length chain = length-map chain (λ e. e.1) in
    let h = held-linked set in
    omega (arith, many, same, h)

sums_same : (sets : List Nodes) (chains : List Chain) → length chains ≡ length sets → ((m : ℕ) → m < length sets → held_by Linked (get_or sets m none) ≡ length (get_or chains m [])) → sum_by (held_by Linked) sets ≡ sum_by length chains
sums_same [] [] same each = refl
sums_same [] (chain ∷ chains) same each = absurd (omega arith)
sums_same (set ∷ sets) [] same each = absurd (omega arith)
sums_same (set ∷ sets) (chain ∷ chains) same each =
    let a = sum_by-cons (held_by Linked) set sets in
    let b = sum_by-cons length chain chains in
    let first : held_by Linked set ≡ length chain = each 0 (omega arith) in
    let rest = sums_same sets chains (omega arith) (λ m l. each (suc m) (omega arith)) in
    omega (arith, a, b, first, rest)

pub held_all : (dir : LinkedView) → IsLinkedDir dir → held_in (linked_directory dir) ≡ sum_by length dir.pool.chains
held_all dir is = sums_same dir.sets dir.pool.chains is.chains (λ m l. held_chain (head_at dir m) (chain_of dir.pool m) (set_at dir m) (is.stands m l))

pub free_all : (dir : LinkedView) → IsLinkedDir dir → length dir.pool.free ≡ free_in (linked_directory dir)
free_all dir is = let held = held_all dir is in let total = is.partition.total in omega (arith, held, total)

pub is_directory : (dir : LinkedView) → IsLinkedDir dir → ((m node : ℕ) → listed (list_at (linked_directory dir) m) node ≡ true → node < 64) → IsDirectory (linked_directory dir)
is_directory dir is below = record { fits = let held = held_all dir is in let total = is.partition.total in omega (arith, held, total); below = below }

-- one line has another list
pub line_kept : (dir new : LinkedView) (m : ℕ) → IsLinkedDir dir → length new.heads ≡ length dir.heads → length new.pool.chains ≡ length dir.pool.chains → length new.sets ≡ length dir.sets →
    ((k : ℕ) → k ≢ m → (head_at new k ≡ head_at dir k) × (chain_of new.pool k ≡ chain_of dir.pool k) × (set_at new k ≡ set_at dir k)) →
    Stands (head_at new m) (chain_of new.pool m) (set_at new m) → IsPartition new.pool → IsLinkedDir new
line_kept dir new m is heads chains sets others stands partition = record {
  heads = heads ∙ is.heads ∙ sym sets;
  chains = chains ∙ is.chains ∙ sym sets;
  stands = λ k l. by k l (k == m) refl;
  partition = partition;
}
  where
    by : (k : ℕ) → k < length new.sets → (b : Bool) → (k == m) ≡ b → Stands (head_at new k) (chain_of new.pool k) (set_at new k)
    by k l true e = let same : k ≡ m = grind (arith, nat_tests, e) in subst (λ i. Stands (head_at new i) (chain_of new.pool i) (set_at new i)) (sym same) stands
    by k l false e =
        let apart : k ≢ m = grind (arith, nat_tests, e) in
        let o = others k apart in
        rw (o.0, o.1, o.2) (is.stands k (rw sets at l))
