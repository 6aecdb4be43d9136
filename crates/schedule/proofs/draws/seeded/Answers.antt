-- The random part is under way from the first moment on. What is drawn is enabled, and where nothing can be drawn there is no candidate.
use Rattle.std.proofs.Common.{length, arith, refl, ap, ◌∙◌}
use Rattle.std.proofs.lemmas.Result.{err_from_is_err_and}
use Rattle.schedule.proofs.Few.{candidates-few}
use Rattle.schedule.proofs.Drawing.{drawing-first, drawn-enabled, drawn-in, drawing-on, made-more, has-drawn, same-drawing}
use Rattle.schedule.proofs.draws.seeded.Goals as goal

pub loop-init : goal.loop-init
loop-init g c = record { way = drawing-first (g.F.Choice.answers c.args.picker.now) c.args.seed (g.M.MachineFace.meaning c.args.m.now) c.seed_from_u64-generator.result c.cfg-cfg.ensures.kept c.seed_from_u64-generator.ensures; counted = refl }

pub draw-requires : goal.draw-requires
draw-requires g c =
    let now = g.M.MachineFace.meaning c.loop.m in
    let same = ap length (c.as_slice.ensures.value ∙ c.in_ok-list_candidates.ensures) in
    let few = candidates-few now c.loop.invariant.way.running in
    omega (arith, same, few)

pub make-requires-clause-within : goal.make-requires-clause-within
make-requires-clause-within g c =
    let answers = g.F.Choice.answers c.args.picker.now in
    drawn-in answers c.args.seed (g.M.MachineFace.meaning c.args.m.now) (g.M.MachineFace.meaning c.loop.m) c.loop.invariant.way.running _ c.as_slice.result.now c.in-Some.event (c.as_slice.ensures.value ∙ c.in_ok-list_candidates.ensures) c.in-Some.ensures.drawn

pub make-requires-clause-enabled : goal.make-requires-clause-enabled
make-requires-clause-enabled g c =
    let answers = g.F.Choice.answers c.args.picker.now in
    drawn-enabled answers c.args.seed (g.M.MachineFace.meaning c.args.m.now) (g.M.MachineFace.meaning c.loop.m) _ c.as_slice.result.now c.in-Some.event (c.as_slice.ensures.value ∙ c.in_ok-list_candidates.ensures) c.in-Some.ensures.drawn

pub returns-in_err-list_candidates-clause-err : goal.returns-in_err-list_candidates-clause-err
returns-in_err-list_candidates-clause-err g c =
    let answers = g.F.Choice.answers c.args.picker.now in
    let first = g.M.MachineFace.meaning c.args.m.now in
    let p = err_from_is_err_and c.from_residual.result c.from_residual.ensures.1 in
    rw p.1 (has-drawn answers c.args.seed first (g.M.MachineFace.meaning c.loop.m) c.loop.counter c.loop.generator c.args.random c.loop.invariant.way (omega (arith, c.loop-test.true)))

pub returns-in_err-make-clause-err : goal.returns-in_err-make-clause-err
returns-in_err-make-clause-err g c =
    let answers = g.F.Choice.answers c.args.picker.now in
    let first = g.M.MachineFace.meaning c.args.m.now in
    let later = g.M.MachineFace.meaning c.make.new.m in
    let p = err_from_is_err_and c.from_residual-in_err-make.result c.from_residual-in_err-make.ensures.1 in
    rw p.1 (has-drawn answers c.args.seed first later c.loop.counter c.loop.generator c.args.random
    (same-drawing answers c.args.seed first (g.M.MachineFace.meaning c.loop.m) later c.loop.counter c.loop.generator c.in_err-make.ensures.err c.loop.invariant.way) (omega (arith, c.loop-test.true)))

pub loop-preserved : goal.loop-preserved
loop-preserved g c =
    let answers = g.F.Choice.answers c.args.picker.now in
    let now = g.M.MachineFace.meaning c.loop.m in
    let later = g.M.MachineFace.meaning c.make.new.m in
    let more = made-more now later c.in-Some.event c.in_ok-make.ensures.ok in
    record {
      way = drawing-on answers c.args.seed (g.M.MachineFace.meaning c.args.m.now) now c.loop.counter c.loop.generator c.draw.new.generator c.loop.invariant.way c.as_slice.result.now c.in-Some.event
          (c.as_slice.ensures.value ∙ c.in_ok-list_candidates.ensures) c.in-Some.ensures.drawn c.in-Some.ensures.next later c.in_ok-make.ensures.ok c.in_ok-make.ensures.kept;
      counted = omega (arith, more, c.loop.invariant.counted, c.tick.ensures);
    }
