-- What holds in the state of the run holds of the nodes and the lanes.
use Rattle.std.proofs.Common.{map}
use Rattle.machine.proofs.Laws.{fronts-met}
use Rattle.machine.specs.Faces.{face_of, dir_of}
use Rattle.machine.proofs.Views.{view-moves}
use Rattle.machine.proofs.machine.Machine1.enabled.Goals as goal

pub can_make-requires-clause-fronts : goal.can_make-requires-clause-fronts
can_make-requires-clause-fronts g c =
    let run = c.self.inside.run in
    fronts-met run.cfg (map (face_of {D = g.row.D.Denot}) run.nodes.items) (g.Q.Lanes.meaning run.lanes) run.journal.events.items run.journal.served.items run.journal.counts run.journal.left run.out c.self.invariant.0

pub returns-clause-moves : goal.returns-clause-moves
returns-clause-moves g c =
    let run = c.self.inside.run in
    view-moves run.cfg (map (face_of {D = g.row.D.Denot}) run.nodes.items) (g.Q.Lanes.meaning run.lanes) run.journal.events.items run.journal.served.items run.journal.counts run.journal.left run.out (map (dir_of {D = g.row.D.Denot}) run.nodes.items) c.args.self.now c.self.invariant.0 c.self.view_is
