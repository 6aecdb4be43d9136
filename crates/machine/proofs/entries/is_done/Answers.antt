-- The node is the one at its place, and past the last one there is none.
use Rattle.std.proofs.Common.{◌≡◌, ◌≤◌, ◌∙◌, arith, subst, ap, map, length, Some}
use Rattle.std.specs.Prelude.{nat_lt, slice_get}
use Rattle.std.proofs.lemmas.List.{length-map}
use Rattle.cpu_cache.specs.Processors.{ProcView}
use Rattle.machine.specs.Faces.{face_of}
use Rattle.machine.proofs.Faces.{slice_get-mapped, slice_get-read}
use Rattle.machine.proofs.Reading.{undone-past, done-at}
use Rattle.machine.proofs.entries.is_done.Goals as goal

pub returns-in-Some : goal.returns-in-Some
returns-in-Some g c = λ sizes lane.
    let face = face_of {D = g.row.D.Denot} in
    let told = c.in-Some.ensures.lookup in
    let at : slice_get c.args.nodes.now.items c.args.entry.now.node ≡ Some c.in-Some.node.now = subst (λ its. slice_get its c.args.entry.now.node ≡ Some c.in-Some.node.now) c.deref.ensures.value (slice_get-read c.deref.result.now c.args.entry.now.node c.in-Some.node.now c.in-Some.node.now told.3.0 told.1) in
    ap (nat_lt c.args.entry.now.index) (c.done_count.ensures.value ∙ ap (λ (p : ProcView). p.place) c.proc.ensures) ∙
    done-at sizes (map face c.args.nodes.now.items) lane c.args.entry.now (face c.in-Some.node.now) (slice_get-mapped face c.args.nodes.now.items c.args.entry.now.node c.in-Some.node.now at)

pub returns-in-None : goal.returns-in-None
returns-in-None g c = λ sizes lane.
    let face = face_of {D = g.row.D.Denot} in
    let past : length (map face c.args.nodes.now.items) ≤ c.args.entry.now.node = let long = length-map c.args.nodes.now.items face in let same = ap length c.deref.ensures.value in let above = c.in-None.ensures.lookup.3 in omega (arith, long, same, above) in
    undone-past sizes (map face c.args.nodes.now.items) lane c.args.entry.now past
