-- The machine has the programs of the trace.
use Rattle.commands.proofs.Public.{own-programs}
use Rattle.eager_command.proofs.machines.machine_at_start.Goals as goal

pub start-requires : goal.start-requires
start-requires c = rw (c.cfg-cfg.ensures.value, c.in_ok-programs.ensures) (own-programs c.args.trace.now c.cfg-cfg.ensures.kept)

pub returns : goal.returns
returns c = rw (c.cfg-cfg.ensures.value, c.in_ok-programs.ensures) at c.start.ensures
