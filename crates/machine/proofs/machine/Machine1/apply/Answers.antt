-- What the nodes did is the run's next event.
use Rattle.std.proofs.Common.{◌≡◌, ◌∷◌, ◌++◌, [], map, sym, subst}
use Rattle.std.proofs.lemmas.Result.{IfOk-weaker}
use Rattle.machine.specs.Machines.{MachineView, IsNext}
use Rattle.machine.specs.Views.{view_by}
use Rattle.op_model.specs.Run.Machines.{IsEventOf}
use Rattle.machine.specs.Faces.{face_of, dir_of}
use Rattle.machine.proofs.Views.{view-next}
use Rattle.machine.proofs.machine.Machine1.apply.Goals as goal

pub returns-clause-next : goal.returns-clause-next
returns-clause-next g c =
    let run = c.self.inside.run in
    let face = face_of {D = g.row.D.Denot} in
    let faces = map face run.nodes.items in
    let lanes = g.Q.Lanes.meaning run.lanes in
    let dirs = map (dir_of {D = g.row.D.Denot}) run.nodes.items in
    let after = c.apply.new.self in
    let made = c.apply.ensures in
    let new : MachineView g.row.D.Denot = view_by after.cfg (map face after.nodes.items) after.journal.events.items (map (dir_of {D = g.row.D.Denot}) after.nodes.items) in
    let of = subst (λ (v : MachineView g.row.D.Denot). IsEventOf v.sizes c.args.event) (sym c.self.view_is) c.requires in
    λ past ran. IfOk-weaker c.apply.result (λ _. after.journal.events.items ≡ run.journal.events.items ++ c.args.event ∷ []) (λ _. IsNext c.args.self.now new past c.args.event)
    (λ _ more. view-next run.cfg faces lanes run.journal.events.items run.journal.served.items run.journal.counts run.journal.left run.out dirs c.args.self.now c.self.invariant.0 c.self.view_is
    new c.args.event _ made.cfg made.programs made.charge more made.kept.ran of past ran) made.ok
