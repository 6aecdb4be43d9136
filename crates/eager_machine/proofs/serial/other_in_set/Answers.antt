-- The line that stands in the set is the other one, where it isn't the line itself.
use Rattle.std.proofs.Common.{◌≡◌, true, sym, subst}
use Rattle.op_model.proofs.Public.{never_passes}
use Rattle.cpu_cache.specs.Caches.{CacheView, IsResident, is_set_taken}
use Rattle.machine.proofs.Public.{other-none, other-some}
use Rattle.eager_machine.proofs.serial.other_in_set.Goals as goal

pub returns-in-Some-clause-value : goal.returns-in-Some-clause-value
returns-in-Some-clause-value c =
    let node = c.args.node.now in
    let taken = subst (λ (v : CacheView). is_set_taken v c.args.line ≡ true) c.cache.ensures (c.in-Some.ensures.taken.1 c.if-other-line.true) in
    let resident = subst (λ (v : CacheView). IsResident v c.args.line c.in-Some.other) c.cache.ensures c.in-Some.ensures.line in
    sym (other-some node.sizes node.share c.args.line c.in-Some.other taken resident.only)

pub returns-in_default-clause-value : goal.returns-in_default-clause-value
returns-in_default-clause-value c =
    let node = c.args.node.now in
    sym (other-none node.sizes node.share c.args.line (never_passes _ (λ taken. c.in-Some.ensures.taken.0 (subst (λ (v : CacheView). is_set_taken v c.args.line ≡ true) (sym c.cache.ensures) taken) c.if-other-line.false)))

pub returns-in_default-2-clause-value : goal.returns-in_default-2-clause-value
returns-in_default-2-clause-value c =
    let node = c.args.node.now in
    sym (other-none node.sizes node.share c.args.line (never_passes _ (λ taken. c.in_default.ensures.taken.0 (subst (λ (v : CacheView). is_set_taken v c.args.line ≡ true) (sym c.cache.ensures) taken))))
