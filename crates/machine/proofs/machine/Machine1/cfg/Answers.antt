-- What is kept says it.
use Rattle.std.proofs.Common.{map}
use Rattle.machine.specs.Faces.{face_of, dir_of}
use Rattle.machine.proofs.Views.{view-machine}
use Rattle.machine.proofs.machine.Machine1.cfg.Goals as goal

pub returns-clause-kept : goal.returns-clause-kept
returns-clause-kept g c =
    let run = c.self.inside.run in
    view-machine run.cfg (map (face_of {D = g.row.D.Denot}) run.nodes.items) (g.Q.Lanes.meaning run.lanes) run.journal.events.items run.journal.served.items run.journal.counts run.journal.left run.out (map (dir_of {D = g.row.D.Denot}) run.nodes.items) c.args.self.now c.self.invariant.0 c.self.view_is
