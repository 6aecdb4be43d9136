-- New nodes have made no event.
use Rattle.std.proofs.Common.{◌+◌, rules, [], map, replicate, length, sym, subst, ap, ◌∙◌}
use Rattle.std.specs.Prelude.{sum_by}
use Rattle.line_map.specs.Sizes.{AreSizes}
use Rattle.machine.specs.Kept.{IsKept}
use Rattle.machine.specs.Faces.{face_of}
use Rattle.machine.proofs.Starts.{start-kept, start-charge}
use Rattle.machine.proofs.machine.Machine1.start.Goals as goal

pub invariant_of-result : goal.invariant_of-result
invariant_of-result g c =
    let cfg = c.args.cfg in
    let sizes_are : AreSizes cfg = search rules in
    let faces = map (face_of {D = g.row.D.Denot}) c.in_ok-nodes.nodes.items in
    let lanes = g.Q.Lanes.meaning c.args.lanes in
    let left = c.count_ops-left.ensures ∙ ap (sum_by length) c.deref.ensures.value in
    let out = c.in_ok-out.ensures ∙ ap (λ n. record { list = []; room = n + 1 }) c.nodes.ensures.value in
    let kept = start-kept cfg c.args.programs.items (map g.D.Sharers.directory c.args.dirs.items) faces lanes c.count_ops-left.result c.in_ok-out.out sizes_are c.requires.programs c.in_ok-nodes.ensures.faces c.requires.lanes left out in
    let events = subst (λ es. IsKept cfg faces lanes es c.new-3.result.items (replicate 27 0) c.count_ops-left.result c.in_ok-out.out) (sym c.new-2.ensures.items)
    (subst (λ es. IsKept cfg faces lanes [] es (replicate 27 0) c.count_ops-left.result c.in_ok-out.out) (sym c.new-3.ensures.items) kept) in
    (events, c.in_ok-nodes.ensures.sound)

pub returns : goal.returns
returns g c =
    let cfg = c.args.cfg in
    let sizes_are : AreSizes cfg = search rules in
    let new = c.in_ok-nodes.ensures.faces in
    let charge = start-charge cfg c.args.programs.items (map g.D.Sharers.directory c.args.dirs.items) (map (face_of {D = g.row.D.Denot}) c.in_ok-nodes.nodes.items) sizes_are c.requires.programs new in
    λ i. record { sizes = cfg; programs = new.programs_are i; charge = charge i; events = c.new-2.ensures.items i; dirs = c.in_ok-nodes.ensures.dirs i }
