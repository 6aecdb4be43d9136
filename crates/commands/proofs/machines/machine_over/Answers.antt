-- The machine has the programs of the trace.
use Rattle.std.proofs.Common.{map, subst, sym}
use Rattle.line_map.specs.Sizes.{Sizes}
use Rattle.machine.specs.Starts.{AreFresh, charge_of}
use Rattle.commands.specs.Runs.{machine_at_start}
use Rattle.commands.proofs.Started.{new_view, started, if-made}
use Rattle.commands.proofs.Programs.{own-programs}
use Rattle.commands.proofs.machines.machine_over.Goals as goal

pub start-requires-clause-programs : goal.start-requires-clause-programs
start-requires-clause-programs g c = rw (c.cfg-cfg.ensures.value, c.in_ok-programs.ensures) (own-programs c.args.trace.now c.cfg-cfg.ensures.kept)

pub start-requires-clause-dirs : goal.start-requires-clause-dirs
start-requires-clause-dirs g c = subst (λ (sizes : Sizes). AreFresh sizes (map g.D.Sharers.directory c.args.dirs.items)) (sym c.cfg-cfg.ensures.value) c.requires.dirs

pub returns : goal.returns
returns g c =
    let directory = g.D.Sharers.directory in
    if-made c.start.result (new_view directory c.cfg-cfg.result c.in_ok-programs.programs.items c.args.dirs.items) (machine_at_start (charge_of (map directory c.args.dirs.items)) c.args.trace.now)
    (started directory c.args.trace.now c.cfg-cfg.ensures.kept c.cfg-cfg.result c.in_ok-programs.programs.items c.args.dirs.items c.cfg-cfg.ensures.value c.in_ok-programs.ensures)
    c.start.ensures
