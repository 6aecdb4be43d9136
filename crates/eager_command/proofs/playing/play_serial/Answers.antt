-- The machine is at the trace's start, so what it makes is the trace's serial schedule.
use Rattle.std.proofs.Common.{[], ap, subst, sym, List}
use Rattle.op_model.specs.declared.operations.Op.{Op}
use Rattle.op_model.specs.Programs.{IsOrderOf, programs_of}
use Rattle.eager_machine.specs.Machines.{EagerMachineView}
use Rattle.eager_command.proofs.Traces.{ordered}
use Rattle.eager_command.proofs.Played.{serial-played}
use Rattle.eager_command.proofs.playing.play_serial.Goals as goal

pub serial-requires-clause-unused : goal.serial-requires-clause-unused
serial-requires-clause-unused c = ap (λ (m : EagerMachineView). m.events) c.requires.fresh

pub serial-requires-clause-ordered : goal.serial-requires-clause-ordered
serial-requires-clause-ordered c =
    let machine = c.args.machine.now in
    subst (λ (order : List Op). IsOrderOf (programs_of machine.programs) order) (sym c.ops.ensures.value) (ordered c.args.trace.now c.ops.ensures.kept machine [] c.requires.fresh)

pub returns-in-Ok-clause-ok : goal.returns-in-Ok-clause-ok
returns-in-Ok-clause-ok c =
    let trace = c.args.trace.now in
    let old = c.args.machine.now in
    let new = c.serial.new.self in
    let made = c.serial.ensures in
    serial-played trace c.ops.ensures.kept old new made.ran.0 c.requires.fresh made.sizes made.programs made.ran.1
    (c.in-Ok.ensures.ok trace made.ran.0 (sym (ap (λ (m : EagerMachineView). m.sizes) c.requires.fresh)) (sym c.ops.ensures.value) made.ran.1)
