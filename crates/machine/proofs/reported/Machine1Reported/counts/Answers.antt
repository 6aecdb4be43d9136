-- The counts are kept in their order.
use Rattle.std.proofs.Common.{◌≡◌, map, subst}
use Rattle.op_model.specs.Programs.{programs_of}
use Rattle.op_model.specs.Run.Counts.{all_counts, counted, moments}
use Rattle.op_model.specs.Run.Runs.{start}
use Rattle.machine.specs.Machines.{MachineView}
use Rattle.machine.proofs.reported.Machine1Reported.counts.Goals as goal

pub returns : goal.returns
returns g c =
    let counts = c.self.inside.run.journal.counts in
    subst (λ (v : MachineView g.row.D.Denot). counts ≡ map (counted (moments v.charge v.sizes (programs_of v.programs) (start v.sizes).state v.events)) (all_counts v.sizes)) c.self.view_is c.self.invariant.0.tally_is
