-- The journal runs, so no step of it is refused, and its steps are of the machine.
use Rattle.std.proofs.Common.{subst}
use Rattle.commands.specs.Steps.{IsStopped}
use Rattle.commands.proofs.Followed.{journal-goes, journal-steps}
use Rattle.commands.proofs.Played.{of-machine}
use Rattle.commands.proofs.journaled.follow.Goals as goal

pub replay-requires-clause-within : goal.replay-requires-clause-within
replay-requires-clause-within g c =
    let old = g.M.MachineFace.meaning c.args.m.now in
    let trace = c.args.trace.now in
    journal-steps old trace c.args.journal.now c.requires.fresh (c.every_step.ensures old.charge trace c.args.journal.now c.requires.runs.0 (of-machine trace c.cfg-cfg.ensures.kept) c.cfg-cfg.ensures.kept.sizes c.requires.runs.1)

pub unreachable-requires : goal.unreachable-requires
unreachable-requires g c =
    let old = g.M.MachineFace.meaning c.args.m.now in
    let stop = c.in-Err-NotEnabled in
    journal-goes old c.args.trace.now c.args.journal.now stop.field-0-0 stop.field-0-1 c.requires.fresh c.requires.runs (subst (IsStopped old c.args.journal.now) stop.field-0-is stop.ensures.stopped)
