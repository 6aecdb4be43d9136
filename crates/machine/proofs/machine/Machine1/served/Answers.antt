-- The entries that the journal has are those of the run.
use Rattle.std.proofs.Common.{map, ap, sym, ◌∙◌}
use Rattle.op_model.specs.Run.Runs.{Past}
use Rattle.machine.specs.Faces.{face_of, dir_of}
use Rattle.machine.proofs.Views.{view-past}
use Rattle.machine.proofs.machine.Machine1.served.Goals as goal

pub returns : goal.returns
returns g c past ran =
    let run = c.self.inside.run in
    let faces = map (face_of {D = g.row.D.Denot}) run.nodes.items in
    let lanes = g.Q.Lanes.meaning run.lanes in
    let dirs = map (dir_of {D = g.row.D.Denot}) run.nodes.items in
    let journal = run.journal in
    c.as_slice.ensures.value ∙ ap (λ (p : Past). p.served) (sym (view-past run.cfg faces lanes journal.events.items journal.served.items journal.counts journal.left run.out dirs c.args.self.now c.self.invariant.0 c.self.view_is past ran))
