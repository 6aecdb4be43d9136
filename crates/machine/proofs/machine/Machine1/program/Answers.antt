-- The program is that of the node at its place.
use Rattle.std.proofs.Common.{◌<◌, map, ap, sym, subst, ◌∙◌}
use Rattle.cpu_cache.specs.Processors.{ProcView}
use Rattle.machine.specs.Machines.{MachineView}
use Rattle.machine.specs.Kept.{charge_in}
use Rattle.machine.proofs.Doing.{node-there}
use Rattle.op_model.specs.Programs.{programs_of}
use Rattle.machine.specs.Faces.{face_of}
use Rattle.machine.proofs.Faces.{programs_of-at}
use Rattle.machine.proofs.machine.Machine1.program.Goals as goal

pub returns : goal.returns
returns g c =
    let run = c.self.inside.run in
    let face = face_of {D = g.row.D.Denot} in
    let faces = map face run.nodes.items in
    let below : c.args.n < run.cfg.nodes = subst (λ (v : MachineView g.row.D.Denot). c.args.n < v.sizes.nodes) (sym c.self.view_is) c.requires in
    let there = node-there run.cfg (charge_in faces) face run.nodes.items c.args.n c.index.result.now c.index.result.now c.self.invariant.0.nodes below c.index.ensures in
    c.program.ensures ∙ ap (λ (p : ProcView). p.program) c.proc.ensures ∙ sym (programs_of-at faces c.args.n (face c.index.result.now) there) ∙ ap (λ (v : MachineView g.row.D.Denot). programs_of v.programs c.args.n) c.self.view_is
