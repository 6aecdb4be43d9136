-- A home reads its headers alone.
use Rattle.std.proofs.Common.{ap, ◌∙◌}
use Rattle.std.specs.Prelude.{filter}
use Rattle.op_model.specs.Run.Seeded.{lines_of}
use Rattle.dir_header.specs.HomeSides.{HomeView, is_victim}
use Rattle.machine.specs.Faces.{Face, home_side}
use Rattle.machine.proofs.machine.Machine1.victims.Goals as goal

pub returns : goal.returns
returns g c = λ past ran.
    let dir = c.node.result.now.dir in
    c.victims.ensures ∙ ap (λ (h : HomeView g.row.D.Denot). filter (is_victim h) (lines_of h.sizes h.node)) c.home.ensures
    ∙ ap (λ (f : Face). filter (is_victim (home_side f dir)) (lines_of f.sizes f.number)) (c.node.ensures.node past ran)
