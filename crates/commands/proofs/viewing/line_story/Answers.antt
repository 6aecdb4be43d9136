-- The story is told of the machine that has made all steps.
use Rattle.std.proofs.Common.{subst, List}
use Rattle.op_model.specs.declared.events.Event.{Event}
use Rattle.command_words.specs.declared.command.View.TheVariants.{Story}
use Rattle.commands.specs.Steps.{HasMade}
use Rattle.commands.proofs.Shown.{shown-by, told-text}
use Rattle.commands.proofs.viewing.line_story.Goals as goal

pub returns-in-Ok-text-clause-text : goal.returns-in-Ok-text-clause-text
returns-in-Ok-text-clause-text g c =
    let old = g.M.MachineFace.meaning c.args.m.now in
    let new = g.M.MachineFace.meaning c.replay_noted.new.m in
    shown-by (Story c.args.line) c.args.trace.now old new c.in-Ok-text.text.items c.requires.there c.requires.fresh
    (subst (λ (steps : List Event). HasMade old steps new) c.steps.ensures.value c.in-Ok-replay_noted.ensures.ok)
    (told-text new c.in-Ok.story c.replay_noted.new.story c.args.line c.in-Ok-text.text.items c.in-Ok.ensures.first c.in-Ok-replay_noted.ensures.told c.in-Ok-text.ensures.told)
