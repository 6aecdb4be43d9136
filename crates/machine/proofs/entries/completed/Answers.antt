-- Each turn keeps one entry more, if its operation is completed.
use Rattle.std.proofs.Common.{length, map, ap, ◌∙◌, arith}
use Rattle.std.specs.Vec.{vec_capacity}
use Rattle.std.proofs.lemmas.List.{length_push, take_all}
use Rattle.op_model.specs.Run.History.{kept_of}
use Rattle.machine.specs.Kept.{state_of}
use Rattle.machine.proofs.Views.{kept-one, kept-none}
use Rattle.machine.proofs.entries.completed.Goals as goal
use Rattle.machine.specs.Faces.{face_of}
use Rattle.machine.proofs.entries.completed.Goals.{then-is_done, else-is_done}

pub loop-entry-preserved : goal.loop-entry-preserved
loop-entry-preserved g c =
    let faces = map (face_of {D = g.row.D.Denot}) c.args.nodes.now.items in
    let inv = c.loop-entry.invariant in
    elim c.if-is_done.branch [
      | then-is_done w ↦ record {
        kept = λ sizes lane. kept-one (state_of sizes faces lane) c.args.served.now c.loop-entry.entry-index _ c.loop-entry.entries.items c.if-is_done.entries.items c.loop-entry-test.true (inv.kept sizes lane) (ap (λ v. v.items) w.entries-is ∙ w.push_reserved.ensures.items) (w.if-is_done.ensures sizes lane);
        fits = let long = ap (λ v. length v.items) w.entries-is ∙ ap length w.push_reserved.ensures.items ∙ length_push c.loop-entry.entries.items _ in omega (arith, long, inv.fits);
        room = let same = ap vec_capacity w.entries-is ∙ w.push_reserved.ensures.capacity in omega (arith, same, inv.room);
      }
      | else-is_done w ↦ record {
        kept = λ sizes lane. kept-none (state_of sizes faces lane) c.args.served.now c.loop-entry.entry-index _ c.loop-entry.entries.items c.if-is_done.entries.items c.loop-entry-test.true (inv.kept sizes lane) (ap (λ v. v.items) w.entries-is) (w.if-is_done.ensures sizes lane);
        fits = let long = ap (λ v. length v.items) w.entries-is in omega (arith, long, inv.fits);
        room = let same = ap vec_capacity w.entries-is in omega (arith, same, inv.room);
      }
    ]

pub returns : goal.returns
returns g c = λ sizes lane.
    let faces = map (face_of {D = g.row.D.Denot}) c.args.nodes.now.items in
    c.loop-entry.invariant.kept sizes lane ∙ ap (kept_of (state_of sizes faces lane)) (take_all c.loop-entry.entry-index c.args.served.now c.loop-entry-test.false)
