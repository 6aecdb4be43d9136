-- The run is a run, so what the eager core promises holds of it.
use Rattle.commands.proofs.Public.{of-machine}
use Rattle.eager_command.proofs.Traces.{in-order}
use Rattle.eager_command.proofs.Played.{text-is}
use Rattle.eager_command.proofs.texts.output.Goals as goal

pub returns-in-Ok-clause-text : goal.returns-in-Ok-clause-text
returns-in-Ok-clause-text c =
    let trace = c.args.trace.now in
    let is = c.cfg-cfg.ensures.kept in
    let machine = c.make_run.new.machine in
    let played = c.in_ok-make_run.ensures.ok in
    text-is trace is c.args.play machine c.in-Ok.text.items played
    (c.every_run.ensures.keeps trace machine.events played.has.past is.sizes (of-machine trace is) (in-order trace is) played.has.ran)
    c.in-Ok.ensures.text
