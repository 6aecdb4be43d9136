-- What holds of a node that isn't the home, after it has taken an Inv, a Put or a Nak.
-- The facts of its role before the row give those after it.
use Rattle.std.proofs.Common.{◌≡◌, ℕ, Bool, cond, arith, Option, None}
use Rattle.std.proofs.lemmas.Bool.Decides.{nat_tests}
use Rattle.line_invariant.specs.Types.{Op, Want, NakCause}
use Rattle.op_model.specs.Operations.{Words}
use Rattle.op_model.specs.Messages.{Put, Nak}
use Rattle.op_model.specs.Lines.{Copy, Shared, without_shared, marked_load}
use Rattle.line_invariant.specs.Good.{Status, Resting, Answered, Duty, Told, Acked, Role, Recalled, IsGoodNode, IsOnDuty, role_in, Phase}
use Rattle.line_invariant.specs.Rows.{wanting}

-- only a line that is called has nodes that were told
pub told-role : (home : ℕ) (words : Words) (phase : Phase) (node : ℕ) (listed : Bool) (duty : Duty) → IsOnDuty (role_in home words phase node) listed duty → duty ≡ Told → role_in home words phase node ≡ Recalled
told-role home words phase node listed duty on told = grind (arith, nat_tests)

module _ (role : Role) (words : Words) (listed : Bool) (copy : Copy) (want : Option Want) (status : Status) (good : IsGoodNode role words listed copy want status) where
  -- an invalidation is acknowledged
  pub node-inv : role ≡ Recalled → status.duty ≡ Told → IsGoodNode role words listed (without_shared copy) (marked_load want) (record status { duty = Acked })
  node-inv recalled told = grind arith

  -- a load is done
  pub node-put : (op : Op) (marked : Bool) (from : ℕ) (has : Words) → want ≡ wanting op marked → status.carrier ≡ Answered from (Put has) →
      IsGoodNode role words listed (cond marked copy (Shared has)) None (record status { carrier = Resting })
  node-put op marked from has wants answered = grind arith

  -- the operation may be begun again
  pub node-nak : (from : ℕ) (cause : NakCause) → status.carrier ≡ Answered from (Nak cause) → IsGoodNode role words listed copy None (record status { carrier = Resting })
  node-nak from cause answered = grind arith
