-- Messages that go into their lanes change nothing else.
use Rattle.std.proofs.Common.{refl}
use Rattle.eager_machine.proofs.Applied.{kept-moved}
use Rattle.eager_machine.proofs.run.EagerRun.settle.Goals as goal

pub returns-clause-kept : goal.returns-clause-kept
returns-clause-kept c =
    let run = c.args.self.now in
    let moved = c.send_all.ensures in
    kept-moved run.cfg run.nodes.items run.lanes run.out run.journal c.requires c.send_all.new.lanes c.send_all.new.out run.journal (record { events = refl; served = refl; counts = refl }) moved.sizes moved.way moved.out moved.same
