-- At first each list is empty and stands for the empty set.
use Rattle.std.specs.Prelude.{◌≡◌, ℕ, zero, suc, [], replicate, Option, None}
use Rattle.std.proofs.Common.{refl, sym, ◌∙◌, get_or}
use Rattle.std.proofs.lemmas.List.{length-replicate}
use Rattle.op_model.specs.Nodes.{none}
use Rattle.link_store.specs.Pools.{Chain, first_pool, IsPartition}
use Rattle.sharer_dir.specs.Linked.{IsLinkedDir, first_linked}
use Rattle.sharer_dir.proofs.Standing.{stands_first}

-- an element of a list of one value, and what is read past it
one_value : {A : Type 0} (n i : ℕ) (x : A) → get_or (replicate n x) i x ≡ x
one_value zero i x = refl
one_value (suc n) zero x = refl
one_value (suc n) (suc i) x = one_value n i x

pub linked_first : (lines links : ℕ) → IsPartition (first_pool lines links) → IsLinkedDir (first_linked lines links)
linked_first lines links partition = record {
  heads = length-replicate {A = Option ℕ} lines None ∙ sym (length-replicate lines none);
  chains = length-replicate {A = Chain} lines [] ∙ sym (length-replicate lines none);
  stands = λ m l. rw (one_value {A = Option ℕ} lines m None, one_value {A = Chain} lines m [], one_value lines m none) stands_first;
  partition = partition;
}
