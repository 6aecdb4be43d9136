-- The machine is at rest exactly where every lane is empty.
use Rattle.std.proofs.Common.{map, not, ap, sym, ◌∙◌}
use Rattle.machine.specs.Faces.{face_of, dir_of}
use Rattle.machine.proofs.Views.{true_of, view-rests, view-empty}
use Rattle.machine.proofs.machine.Machine1.is_quiet.Goals as goal

pub returns : goal.returns
returns g c =
    let run = c.self.inside.run in
    let faces = map (face_of {D = g.row.D.Denot}) run.nodes.items in
    let lanes = g.Q.Lanes.meaning run.lanes in
    let dirs = map (dir_of {D = g.row.D.Denot}) run.nodes.items in
    let journal = run.journal in
    λ past ran. (λ test. view-rests run.cfg faces lanes journal.events.items journal.served.items journal.counts journal.left run.out dirs c.args.self.now c.self.invariant.0 c.self.view_is (c.first_busy.ensures.none.0 (c.is_none.ensures ∙ ap not test)) past ran, λ rest. true_of c.is_none.result (sym c.is_none.ensures ∙ c.first_busy.ensures.none.1 (view-empty run.cfg faces lanes journal.events.items journal.served.items journal.counts journal.left run.out dirs c.args.self.now c.self.invariant.0 c.self.view_is past ran rest)))
