-- What is kept says it.
use Rattle.std.proofs.Common.{◌≡◌, subst}
use Rattle.op_model.specs.Programs.{programs_of}
use Rattle.eager_model.specs.Runs.{start}
use Rattle.event_tally.specs.Tallies.{tally_of}
use Rattle.eager_report.specs.Moments.{moments}
use Rattle.eager_machine.specs.Machines.{EagerMachineView}
use Rattle.eager_machine.proofs.eager.EagerMachine.counts.Goals as goal

pub returns : goal.returns
returns c =
    let journal = c.self.inside.run.journal in
    subst (λ (v : EagerMachineView). journal.counts ≡ tally_of v.sizes (moments v.sizes (programs_of v.programs) (start v.sizes) v.events)) c.self.view_is c.self.invariant.tally
