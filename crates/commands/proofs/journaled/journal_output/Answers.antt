-- The machine starts as the trace's, follows the journal, completes what is left, and is printed.
use Rattle.std.proofs.Common.{◌≡◌, ◌++◌, sym, subst}
use Rattle.std.proofs.lemmas.Result.{IfOk-weaker}
use Rattle.line_map.proofs.Public.{some-words}
use Rattle.op_model.specs.Run.Machines.{MachineRun}
use Rattle.op_model.specs.Shares.{Linked}
use Rattle.dir_report.specs.Machines.{report_of}
use Rattle.machine.specs.Driven.{run_made}
use Rattle.step_journal.specs.Printing.{journal_text}
use Rattle.commands.specs.Journaled.{Runs, IsCompleted, IsJournalOutput}
use Rattle.commands.proofs.Followed.{printed-by}
use Rattle.commands.proofs.journaled.journal_output.Goals as goal

pub complete_all-requires-clause-runs : goal.complete_all-requires-clause-runs
complete_all-requires-clause-runs c = subst (λ (m : MachineRun). Runs m.charge c.args.trace.now c.args.journal.now) (sym c.in_ok-machine.ensures) c.requires.runs

pub returns : goal.returns
returns c =
    let trace = c.args.trace.now in
    let journal = c.args.journal.now in
    let new = run_made c.complete_all.new.m in
    let done : IsCompleted Linked trace journal new = subst (λ (m : MachineRun). IsCompleted m.charge trace journal new) c.in_ok-machine.ensures c.in_ok-complete_all.ensures in
    IfOk-weaker c.steps_and_report.result (λ text. text.items ≡ journal_text new.events ++ report_of trace.version new) (λ text. IsJournalOutput trace journal text.items)
    (λ text is. printed-by trace journal new text.items done (λ events past ran. c.every_run.ensures.one Linked trace events past (some-words trace.sizes c.cfg-cfg.ensures.kept.sizes) ran) is) c.steps_and_report.ensures
