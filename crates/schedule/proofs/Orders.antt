-- An operation of an order stands in its node's program behind those of the node that come before it.
use Rattle.std.proofs.Common.{◌≡◌, ℕ, ◌==◌, List, ap, sym, ◌∙◌, Some}
use Rattle.std.specs.Prelude.{slice_get, count_by, take}
use Rattle.op_model.specs.declared.operations.Op.{Op}
use Rattle.op_model.specs.Events.Step.{Programs}
use Rattle.op_model.specs.Programs.{IsOrderOf}
use Rattle.op_model.proofs.Public.{eqb-self}
use Rattle.schedule_laws.proofs.Public.{slice_get-filter}

pub op-at : (programs : Programs) (order : List Op) → IsOrderOf programs order → (i : ℕ) (op : Op) → slice_get order i ≡ Some op →
    slice_get (programs op.node) (count_by (λ (o : Op). o.node == op.node) (take i order)) ≡ Some op
op-at programs order ordered i op is =
    ap (λ os. slice_get os (count_by (λ (o : Op). o.node == op.node) (take i order))) (sym (ordered op.node)) ∙ slice_get-filter (λ o. o.node == op.node) order i op is (eqb-self op.node)
