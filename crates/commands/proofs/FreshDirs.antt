-- The same empty directory for each node of a machine: one a node, all fresh and of one charge.
use Rattle.std.proofs.Common.{◌≡◌, ℕ, zero, suc, ◌<◌, List, map, replicate, refl, arith, sym, ap, subst, ◌∙◌, Some}
use Rattle.std.specs.Prelude.{slice_get}
use Rattle.std.proofs.lemmas.Bool.Decides.{nat_tests}
use Rattle.std.proofs.lemmas.List.{length-replicate}
use Rattle.std.proofs.lemmas.Option.{same_Some}
use Rattle.line_map.specs.Sizes.{Sizes, AreSizes}
use Rattle.op_model.proofs.Public.{map-replicate}
use Rattle.dir_header.specs.Sharers.{Directory}
use Rattle.dir_header.specs.HomeSides.{IsFresh}
use Rattle.machine.specs.Starts.{AreFresh, IsFreshOf, charge_of}

each-same : {A : Type 0} (n i : ℕ) (a x : A) → slice_get (replicate n a) i ≡ Some x → a ≡ x
each-same zero i a x at = cc
each-same (suc n) zero a x at = same_Some a x at
each-same (suc n) (suc i) a x at = each-same n i a x at

charge-first : (n : ℕ) (dir : Directory) → 0 < n → charge_of (replicate n dir) ≡ dir.charge
charge-first zero dir some = absurd (omega arith)
charge-first (suc n) dir some = refl

module _ {A : Type 0} (directory : A → Directory) (sizes : Sizes) (are : AreSizes sizes) (dirs : List A) (first : A) (same : dirs ≡ replicate sizes.nodes first) where
  some : 0 < sizes.nodes
  some = let n = are.nodes in grind (arith, nat_tests)

  mapped : map directory dirs ≡ replicate sizes.nodes (directory first)
  mapped = ap (map directory) same ∙ map-replicate directory sizes.nodes first

  pub dirs-charge : charge_of (map directory dirs) ≡ (directory first).charge
  dirs-charge = ap charge_of mapped ∙ charge-first sizes.nodes (directory first) some

  pub dirs-fresh : IsFresh sizes (directory first) → AreFresh sizes (map directory dirs)
  dirs-fresh is = subst (AreFresh sizes) (sym mapped) (record {
    count = length-replicate sizes.nodes (directory first);
    each = λ node other at. subst (IsFreshOf sizes (charge_of (replicate sizes.nodes (directory first)))) (each-same sizes.nodes node (directory first) other at) (record { fresh = is; same_charge = sym (charge-first sizes.nodes (directory first) some) });
  })
