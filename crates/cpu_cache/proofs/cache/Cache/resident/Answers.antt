-- The slot of a line's set answers for the whole set.
use Rattle.std.proofs.Common.{refl}
use Rattle.cpu_cache.proofs.Sets.{free_by_empty, not_taken, resident_in, not_free, taken_by}
use Rattle.cpu_cache.proofs.cache.Cache.resident.Goals as goal

pub returns-in-Empty-clause-free : goal.returns-in-Empty-clause-free
returns-in-Empty-clause-free c = (λ e. free_by_empty c.args.self.now c.args.g c.slot.result.now c.slot.ensures.of_set c.in-Empty.is, λ _. refl)

pub returns-in-Empty-clause-taken : goal.returns-in-Empty-clause-taken
returns-in-Empty-clause-taken c =
    let not = not_taken c.args.self.now c.args.g (free_by_empty c.args.self.now c.args.g c.slot.result.now c.slot.ensures.of_set c.in-Empty.is) in
    (λ taken. cc, λ e. absurd e)

pub returns-in-Shared-clause-free : goal.returns-in-Shared-clause-free
returns-in-Shared-clause-free c =
    let not = not_free c.args.self.now c.args.g c.in-Shared.line (resident_in c.args.self.now c.args.g c.in-Shared.line c.slot.result.now c.slot.ensures.of_set c.in-Shared.is) in
    (λ e. cc, λ free. cc)

pub returns-in-Shared-clause-taken : goal.returns-in-Shared-clause-taken
returns-in-Shared-clause-taken c = taken_by c.args.self.now c.args.g c.in-Shared.line (resident_in c.args.self.now c.args.g c.in-Shared.line c.slot.result.now c.slot.ensures.of_set c.in-Shared.is)
