-- The node stands at the place of its number.
use Rattle.std.proofs.Common.{◌<◌, map, ap, sym, subst, ◌∙◌}
use Rattle.std.specs.Prelude.{slice_get}
use Rattle.machine.specs.Machines.{MachineView}
use Rattle.machine.specs.Kept.{charge_in}
use Rattle.machine.proofs.Doing.{node-at, node-there}
use Rattle.machine.proofs.Faces.{slice_get-mapped}
use Rattle.machine.specs.Faces.{face_of, dir_of}
use Rattle.machine.proofs.Views.{view-node}
use Rattle.machine.proofs.machine.Machine1.node.Goals as goal

pub returns-clause-node : goal.returns-clause-node
returns-clause-node g c =
    let run = c.self.inside.run in
    let face = face_of {D = g.row.D.Denot} in
    let faces = map face run.nodes.items in
    let below : c.args.n < run.cfg.nodes = subst (λ (v : MachineView g.row.D.Denot). c.args.n < v.sizes.nodes) (sym c.self.view_is) c.requires in
    let there = node-there run.cfg (charge_in faces) face run.nodes.items c.args.n c.index-node.result.now c.index-node.result.now c.self.invariant.0.nodes below c.index-node.ensures in
    λ past ran. view-node run.cfg faces (g.Q.Lanes.meaning run.lanes) run.journal.events.items run.journal.served.items run.journal.counts run.journal.left run.out (map (dir_of {D = g.row.D.Denot}) run.nodes.items) c.args.self.now c.self.invariant.0 c.self.view_is
    c.args.n (face c.index-node.result.now) there past ran

pub returns-clause-dir : goal.returns-clause-dir
returns-clause-dir g c =
    let run = c.self.inside.run in
    let face = face_of {D = g.row.D.Denot} in
    let faces = map face run.nodes.items in
    let below : c.args.n < run.cfg.nodes = subst (λ (v : MachineView g.row.D.Denot). c.args.n < v.sizes.nodes) (sym c.self.view_is) c.requires in
    let at = node-at run.cfg (charge_in faces) face run.nodes.items c.args.n c.index-node.result.now c.index-node.result.now c.self.invariant.0.nodes below c.index-node.ensures in
    ap (λ (v : MachineView g.row.D.Denot). slice_get v.dirs c.args.n) (sym c.self.view_is) ∙ slice_get-mapped (dir_of {D = g.row.D.Denot}) run.nodes.items c.args.n c.index-node.result.now at

pub returns-clause-sizes : goal.returns-clause-sizes
returns-clause-sizes g c =
    let run = c.self.inside.run in
    let face = face_of {D = g.row.D.Denot} in
    let faces = map face run.nodes.items in
    let below : c.args.n < run.cfg.nodes = subst (λ (v : MachineView g.row.D.Denot). c.args.n < v.sizes.nodes) (sym c.self.view_is) c.requires in
    let there = node-there run.cfg (charge_in faces) face run.nodes.items c.args.n c.index-node.result.now c.index-node.result.now c.self.invariant.0.nodes below c.index-node.ensures in
    (c.self.invariant.0.nodes.each c.args.n (face c.index-node.result.now) there).same_sizes ∙ ap (λ (v : MachineView g.row.D.Denot). v.sizes) c.self.view_is
