-- What the choice answers is a word modulo the number, so all that is drawn is drawn by that.
use Rattle.std.proofs.Common.{ℕ, sym, subst}
use Rattle.std.proofs.lemmas.Result.{err_from_is_err_and, on_err_weaker, on_ok_weaker}
use Rattle.seeded_laws.specs.Answers.{chosen_by}
use Rattle.seeded_laws.specs.Command.{modulo, word_of}
use Rattle.schedule.proofs.SeededRuns.{always-modulo, begun-drawing, begun-finishing, has-drawn-all-into, has-drawn-into, seeded-to}
use Rattle.schedule.proofs.by_seed.run_by_choice.Goals as goal

pub returns-in_err-seeded-clause-err : goal.returns-in_err-seeded-clause-err
returns-in_err-seeded-clause-err g c =
    let answers = g.F.Choice.answers c.new-picker.result in
    let into : (word n place : ℕ) → answers word n place → chosen_by modulo word n place = subst (λ f. (word n place : ℕ) → g.F.Choice.answers f word n place → chosen_by modulo word n place) (sym c.new-picker.ensures) c.requires.modulo in
    let old = g.M.MachineFace.meaning c.args.m.now in
    let new = g.M.MachineFace.meaning c.seeded.new.m in
    let p = err_from_is_err_and c.from_residual.result c.from_residual.ensures.1 in
    rw p.1 (begun-drawing (chosen_by modulo) (word_of c.args.seed) c.args.random always-modulo old new c.cfg-cfg.ensures.kept (has-drawn-into answers (chosen_by modulo) (word_of c.args.seed) into c.args.random old new c.in_err-seeded.ensures.err))

pub returns-clause-ok : goal.returns-clause-ok
returns-clause-ok g c =
    let answers = g.F.Choice.answers c.new-picker.result in
    let into : (word n place : ℕ) → answers word n place → chosen_by modulo word n place = subst (λ f. (word n place : ℕ) → g.F.Choice.answers f word n place → chosen_by modulo word n place) (sym c.new-picker.ensures) c.requires.modulo in
    let old = g.M.MachineFace.meaning c.args.m.now in
    let middle = g.M.MachineFace.meaning c.seeded.new.m in
    let new = g.M.MachineFace.meaning c.finish.new.m in
    on_ok_weaker c.finish.result (seeded-to (chosen_by modulo) (word_of c.args.seed) c.args.random old middle new (has-drawn-all-into answers (chosen_by modulo) (word_of c.args.seed) into c.args.random old middle c.in_ok-seeded.ensures.ok)) c.finish.ensures.ok

pub returns-clause-err : goal.returns-clause-err
returns-clause-err g c =
    let answers = g.F.Choice.answers c.new-picker.result in
    let into : (word n place : ℕ) → answers word n place → chosen_by modulo word n place = subst (λ f. (word n place : ℕ) → g.F.Choice.answers f word n place → chosen_by modulo word n place) (sym c.new-picker.ensures) c.requires.modulo in
    let old = g.M.MachineFace.meaning c.args.m.now in
    let middle = g.M.MachineFace.meaning c.seeded.new.m in
    let new = g.M.MachineFace.meaning c.finish.new.m in
    on_err_weaker c.finish.result (begun-finishing (chosen_by modulo) (word_of c.args.seed) c.args.random old middle new (has-drawn-all-into answers (chosen_by modulo) (word_of c.args.seed) into c.args.random old middle c.in_ok-seeded.ensures.ok)) c.finish.ensures.err
