use Rattle.std.proofs.Common.{◌≡◌, ◌≢◌, ◌++◌, ap, sym, subst, ◌∙◌}
use Rattle.op_model.specs.declared.state.CopyState.{CopyState}
use Rattle.op_model.specs.declared.state.CopyState.TheVariants as state
use Rattle.op_model.specs.Lines.{state_of, words_of}
use Rattle.op_model.specs.Operations.{Words}
use Rattle.op_model.specs.Shares.{copy_of}
use Rattle.text_lines.specs.Printing.{line_text}
use Rattle.time_view.specs.Puts.{ArePut}
use Rattle.time_view.specs.States.{copy_words}
use Rattle.time_view.proofs.Listed.{absent_test, one_copy}
use Rattle.time_view.proofs.Putting.{Lines, one_put}
use Rattle.time_view.proofs.copies.put_if_copied.Goals as goal

pub returns-clause-put : goal.returns-clause-put
returns-clause-put g c =
    let m = g.M.Reported.meaning c.args.m.now in
    let copy = copy_of (m.past.state.share c.args.node) c.args.line in
    let is : c.cached-state.result ≡ state_of copy = c.cached-state.ensures in
    let isnt : state_of copy ≢ state.Absent = subst (λ (s : CopyState). s ≢ state.Absent) is (absent_test c.cached-state.result (sym c.eq.ensures ∙ c.if-eq.false)) in
    let line : c.put_copy.new.out.items ≡ c.args.out.now.items ++ line_text (copy_words c.args.node c.args.line (state_of copy) (words_of copy)) =
    c.in_ok-put_copy.ensures
    ∙ ap (λ (s : CopyState). c.args.out.now.items ++ line_text (copy_words c.args.node c.args.line s c.cached_words.result)) is
    ∙ ap (λ (words : Words). c.args.out.now.items ++ line_text (copy_words c.args.node c.args.line (state_of copy) words)) c.cached_words.ensures.value in
    subst (λ (lines : Lines). ArePut c.args.out.now.items c.put_copy.new.out.items 1 lines) (sym (one_copy c.args.node c.args.line copy isnt))
    (one_put c.args.out.now.items c.put_copy.new.out.items (copy_words c.args.node c.args.line (state_of copy) (words_of copy)) line)
