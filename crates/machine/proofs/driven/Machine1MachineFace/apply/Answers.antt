-- The run after an event is the old one with the event.
use Rattle.machine.specs.Driven.{run_made}
use Rattle.machine.proofs.Drives.{applied-if, kept-running}
use Rattle.machine.proofs.driven.Machine1MachineFace.apply.Goals as goal

pub returns-clause-ok : goal.returns-clause-ok
returns-clause-ok g c =
    let made = c.apply.ensures in
    let past = (run_made c.args.self.now).past in
    applied-if c.args.self.now c.apply.new.self c.args.event made.sizes made.programs made.charge past c.told-cfg.ensures.ran c.apply.result made.ok (made.next past c.told-cfg.ensures.ran)

pub returns-clause-kept : goal.returns-clause-kept
returns-clause-kept g c =
    let made = c.apply.ensures in
    kept-running c.args.self.now c.apply.new.self made.sizes made.programs c.told-cfg.ensures.kept made.ran.0 made.ran.1
