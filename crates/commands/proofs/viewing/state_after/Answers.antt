-- The machine has made the first steps of its trace, and what is read of it is that run.
use Rattle.std.proofs.Common.{ap, subst, take, List, ◌∙◌}
use Rattle.op_model.specs.declared.events.Event.{Event}
use Rattle.op_model.specs.Run.Machines.{MachineRun}
use Rattle.time_view.specs.States.{state_text}
use Rattle.command_words.specs.declared.command.View.TheVariants.{At}
use Rattle.commands.specs.Steps.{HasMade}
use Rattle.commands.proofs.Shown.{shown-by}
use Rattle.commands.proofs.viewing.state_after.Goals as goal

pub returns-in-Ok-state_text-clause-text : goal.returns-in-Ok-state_text-clause-text
returns-in-Ok-state_text-clause-text g c =
    let old = g.M.MachineFace.meaning c.args.m.now in
    let new = g.M.MachineFace.meaning c.replay.new.m in
    shown-by (At c.args.steps) c.args.trace.now old new c.in-Ok-state_text.text.items c.requires.there c.requires.fresh
    (subst (λ (steps : List Event). HasMade old (take c.args.steps steps) new) c.steps.ensures.value c.in-Ok.ensures.ok)
    (c.in-Ok-state_text.ensures ∙ ap (λ (m : MachineRun). state_text m) (g.met.M.Playable.same c.replay.new.m))
