-- What is read is of the state that the run has come to.
use Rattle.machine.specs.Driven.{run_made}
use Rattle.machine.proofs.driven.Machine1MachineFace.victims.Goals as goal

pub returns : goal.returns
returns g c = c.victims.ensures (run_made c.args.self.now).past c.told-cfg.ensures.ran
