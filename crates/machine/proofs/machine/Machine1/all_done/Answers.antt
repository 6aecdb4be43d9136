-- Every program is done exactly where no operation is left.
use Rattle.std.proofs.Common.{map}
use Rattle.machine.specs.Faces.{face_of, dir_of}
use Rattle.machine.proofs.Views.{zero_of, of_zero, view-done, view-undone}
use Rattle.machine.proofs.machine.Machine1.all_done.Goals as goal

pub returns : goal.returns
returns g c =
    let run = c.self.inside.run in
    let faces = map (face_of {D = g.row.D.Denot}) run.nodes.items in
    let lanes = g.Q.Lanes.meaning run.lanes in
    let dirs = map (dir_of {D = g.row.D.Denot}) run.nodes.items in
    let journal = run.journal in
    λ past ran. (λ test. view-done run.cfg faces lanes journal.events.items journal.served.items journal.counts journal.left run.out dirs c.args.self.now c.self.invariant.0 c.self.view_is (zero_of journal.left test) past ran, λ all. of_zero journal.left (view-undone run.cfg faces lanes journal.events.items journal.served.items journal.counts journal.left run.out dirs c.args.self.now c.self.invariant.0 c.self.view_is past ran all))
