-- From the start on, for a trace of these programs, with 8 events drawn for each operation.
use Rattle.std.proofs.Common.{◌*◌, ap, ◌∙◌, sym}
use Rattle.std.proofs.lemmas.Result.{on_err_weaker, on_ok_weaker}
use Rattle.schedule.proofs.SeededRuns.{begun-trace, seeded-trace}
use Rattle.schedule.proofs.by_seed.seeded_run.Goals as goal

pub returns-clause-ok : goal.returns-clause-ok
returns-clause-ok g c = λ trace is count.
    let old = g.M.MachineFace.meaning c.args.m.now in
    let new = g.M.MachineFace.meaning c.run_by_choice.new.m in
    on_ok_weaker c.run_by_choice.result (seeded-trace old c.cfg-cfg.ensures.kept c.requires.unused new c.args.seed _ trace is (ap (λ n. 8 * n) (count ∙ sym c.from-random.ensures))) c.run_by_choice.ensures.ok

pub returns-clause-err : goal.returns-clause-err
returns-clause-err g c = λ trace is count.
    let old = g.M.MachineFace.meaning c.args.m.now in
    let new = g.M.MachineFace.meaning c.run_by_choice.new.m in
    on_err_weaker c.run_by_choice.result (begun-trace old c.cfg-cfg.ensures.kept c.requires.unused new c.args.seed _ trace is (ap (λ n. 8 * n) (count ∙ sym c.from-random.ensures))) c.run_by_choice.ensures.err
