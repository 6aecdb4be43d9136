-- The machine is at the trace's start, so what it makes is the trace's seeded schedule, and the law says what that comes to.
use Rattle.std.proofs.Common.{refl, sym, ap, subst, List, length}
use Rattle.op_model.specs.declared.operations.Op.{Op}
use Rattle.op_model.specs.Run.Machines.{MachineRun}
use Rattle.node_range.specs.Traces.{IsTraceOf}
use Rattle.commands.proofs.Played.{of-machine, seeded-played, on-ok}
use Rattle.commands.proofs.playing.play_seeded.Goals as goal

pub returns : goal.returns
returns g c =
    let trace = c.args.trace.now in
    let old = g.M.MachineFace.meaning c.args.m.now in
    let new = g.M.MachineFace.meaning c.seeded_run.new.m in
    let its : IsTraceOf old.sizes old.programs trace = subst (λ (m : MachineRun). IsTraceOf m.sizes m.programs trace) (sym c.requires.fresh) (record { sized = refl; ordered = λ node. refl }) in
    on-ok c.seeded_run.result (c.seeded_run.ensures.ok trace its (ap (λ (ops : List Op). length ops) (sym c.ops.ensures.value)))
    (λ seeded. seeded-played old.charge trace c.args.seed old new c.requires.fresh c.seeded_run.ensures.only seeded
    (c.every_seeded_run.ensures.each old.charge trace c.args.seed new.events new.past c.ops.ensures.kept.sizes (of-machine trace c.ops.ensures.kept) seeded))
