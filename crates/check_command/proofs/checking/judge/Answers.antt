-- The list of a trace's programs is the program of each node.
use Rattle.std.proofs.Common.{◌≡◌, IfOk, IfErr, ap, sym, subst, ◌∙◌}
use Rattle.line_map.specs.Sizes.{Sizes}
use Rattle.op_model.specs.Events.Step.{Programs}
use Rattle.op_model.specs.Shares.{program}
use Rattle.hist_check.specs.Good.{IsGood, all_missing}
use Rattle.hist_check.specs.Bad.{NamesEntry, RefusesBad}
use Rattle.check_command.proofs.Judged.{listed, one-each}
use Rattle.check_command.proofs.checking.judge.Goals as goal

pub check_history-requires : goal.check_history-requires
check_history-requires c = one-each c.args.trace.now c.deref.result.now (c.deref.ensures.value ∙ c.in_ok-programs.ensures) ∙ ap (λ (s : Sizes). s.nodes) (sym c.cfg-machine.ensures.value)

pub returns-clause-good : goal.returns-clause-good
returns-clause-good c =
    subst (λ (ps : Programs). IfOk c.check_history.result (λ missing. IsGood ps c.args.entries.now))
    (listed c.args.trace.now c.deref.result.now c.cfg-machine.ensures.kept (c.deref.ensures.value ∙ c.in_ok-programs.ensures)) c.check_history.ensures.good

pub returns-clause-missing : goal.returns-clause-missing
returns-clause-missing c =
    subst (λ (s : Sizes). IfOk c.check_history.result (λ missing. missing ≡ all_missing (program c.args.trace.now) s.nodes c.args.entries.now)) c.cfg-machine.ensures.value
    (subst (λ (ps : Programs). IfOk c.check_history.result (λ missing. missing ≡ all_missing ps c.cfg-machine.result.nodes c.args.entries.now))
    (listed c.args.trace.now c.deref.result.now c.cfg-machine.ensures.kept (c.deref.ensures.value ∙ c.in_ok-programs.ensures)) c.check_history.ensures.missing)

pub returns-clause-bad : goal.returns-clause-bad
returns-clause-bad c =
    subst (λ (ps : Programs). IfErr c.check_history.result (NamesEntry ps c.args.entries.now))
    (listed c.args.trace.now c.deref.result.now c.cfg-machine.ensures.kept (c.deref.ensures.value ∙ c.in_ok-programs.ensures)) c.check_history.ensures.bad

pub returns-clause-refused : goal.returns-clause-refused
returns-clause-refused c =
    subst (λ (ps : Programs). IfErr c.check_history.result (RefusesBad ps c.args.entries.now))
    (listed c.args.trace.now c.deref.result.now c.cfg-machine.ensures.kept (c.deref.ensures.value ∙ c.in_ok-programs.ensures)) c.check_history.ensures.refused
