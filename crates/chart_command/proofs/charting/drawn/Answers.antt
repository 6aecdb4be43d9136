-- The picture is that of the machine that has made all steps.
use Rattle.std.proofs.Common.{ℕ, subst, ap, ◌∙◌, List, length, arith}
use Rattle.line_map.specs.Sizes.{Sizes}
use Rattle.op_model.specs.declared.events.Event.{Event}
use Rattle.op_model.specs.Run.Machines.{MachineRun}
use Rattle.commands.specs.Steps.{HasMade}
use Rattle.chart_strokes.specs.declared.strokes.Stroke.{Stroke}
use Rattle.chart_svg.specs.Pictures.{picture_text}
use Rattle.chart_command.proofs.Drawn.{drawn-by}
use Rattle.chart_command.proofs.charting.drawn.Goals as goal

pub replay_charted-requires-clause-told : goal.replay_charted-requires-clause-told
replay_charted-requires-clause-told g c = c.start-chart.ensures.told (g.M.MachineFace.meaning c.args.m.now) (ap (λ (m : MachineRun). m.events) c.requires.fresh)

pub picture-requires : goal.picture-requires
picture-requires g c =
    omega (arith, ap (λ (ss : List Stroke). length ss) c.strokes.ensures.value, c.in-Ok.ensures.more, ap (λ (ss : List Stroke). length ss) c.start-chart.ensures.none, ap (λ (es : List Event). length es) c.steps.ensures.value, c.requires.fits.small.steps)

pub returns-in-Ok-picture-clause-text : goal.returns-in-Ok-picture-clause-text
returns-in-Ok-picture-clause-text g c =
    let old = g.M.MachineFace.meaning c.args.m.now in
    let new = g.M.MachineFace.meaning c.replay_charted.new.m in
    drawn-by c.args.chosen c.args.trace.now old new c.in-Ok-picture.text.items c.requires.fits c.requires.fresh
    (subst (λ (steps : List Event). HasMade old steps new) c.steps.ensures.value c.in-Ok.ensures.ok)
    (c.in-Ok-picture.ensures
    ∙ ap (λ (n : ℕ). picture_text n c.args.chosen c.strokes.result.now) (c.nodes.ensures.value ∙ ap (λ (s : Sizes). s.nodes) c.cfg.ensures.value)
    ∙ ap (λ (ss : List Stroke). picture_text c.args.trace.now.sizes.nodes c.args.chosen ss) (c.strokes.ensures.told new c.in-Ok.ensures.told))
