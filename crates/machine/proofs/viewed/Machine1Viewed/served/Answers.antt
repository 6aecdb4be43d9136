-- What is read is of the run that the machine has made.
use Rattle.machine.specs.Driven.{run_made}
use Rattle.machine.proofs.viewed.Machine1Viewed.served.Goals as goal

pub returns : goal.returns
returns g c = c.served.ensures (run_made c.args.self.now).past c.told-cfg.ensures.ran
