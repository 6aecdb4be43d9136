-- The programs are those of the trace, so the journal of their run is one of the trace.
use Rattle.std.proofs.Common.{◌≡◌, refl}
use Rattle.op_model.specs.Programs.{ArePrograms}
use Rattle.commands.proofs.Public.{own-programs}
use Rattle.run_text.proofs.Traced.{runs-traced}
use Rattle.run_text.proofs.text.run_text.Goals as goal

pub run_threads-requires-after_bounds : goal.run_threads-requires-after_bounds
run_threads-requires-after_bounds g c = rw (c.cfg-cfg.ensures.value, c.in_ok-programs.ensures) (λ lives bounds. own-programs c.args.trace.now c.cfg-cfg.ensures.kept)

pub journal_output-requires-clause-runs : goal.journal_output-requires-clause-runs
journal_output-requires-clause-runs g c =
    rw c.deref.ensures.value (runs-traced c.args.trace.now c.cfg-cfg.ensures.kept (record { sizes = c.cfg-cfg.result; programs = c.in_ok-programs.programs.items }) c.in_ok-ran.ran.journal.items c.in_ok-ran.ensures.past c.cfg-cfg.ensures.value c.in_ok-programs.ensures c.in_ok-ran.ensures.ran)
