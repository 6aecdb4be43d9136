-- The directory counts what the headers leave.
use Rattle.std.proofs.Common.{refl, ap, ◌∙◌}
use Rattle.op_model.specs.Run.Seeded.{free_links}
use Rattle.dir_header.specs.Sharers.{free_in}
use Rattle.dir_header.specs.HomeSides.{HomeView}
use Rattle.machine.specs.Faces.{Face, home_side, face_of, dir_of}
use Rattle.machine.proofs.Others.{free-is}
use Rattle.machine.proofs.machine.Machine1.free_links.Goals as goal

pub returns : goal.returns
returns g c = λ past ran.
    let m = c.args.self.now in
    let dir = (dir_of {D = g.row.D.Denot}) c.node.result.now in
    c.free.ensures ∙ ap (λ d. free_in (g.D.Sharers.directory d)) (c.dir.ensures ∙ ap (λ (h : HomeView g.row.D.Denot). h.dir) c.home.ensures) ∙ free-is (g.D.Sharers.directory dir) (home_side ((face_of {D = g.row.D.Denot}) c.node.result.now) dir) c.node.result.now.share c.node.ensures.home refl
    ∙ ap (λ (f : Face). free_links f.charge f.sizes f.share) (c.node.ensures.node past ran)
