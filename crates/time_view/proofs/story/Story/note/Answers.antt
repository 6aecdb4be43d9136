use Rattle.std.proofs.Common.{rules, ◌++◌, ap, ◌∙◌}
use Rattle.dir_report.specs.Machines.{Heads}
use Rattle.dir_report.specs.Reports.{header_at, header_words}
use Rattle.time_view.proofs.Noting.{still_told}
use Rattle.time_view.proofs.story.Story.note.Goals as goal

pub returns-clause-noted : goal.returns-clause-noted
returns-clause-noted g c =
    let words = c.in_ok-put_header.ensures ∙ ap (λ (h : Heads). c.new-words.result.items ++ header_words h.mode (header_at h.sizes h.state c.self.inside.line)) (g.met.M.Reported.same c.args.m.now) in
    search rules

pub returns-clause-told : goal.returns-clause-told
returns-clause-told g c before event applied is =
    let words = c.in_ok-put_header.ensures ∙ ap (λ (h : Heads). c.new-words.result.items ++ header_words h.mode (header_at h.sizes h.state c.self.inside.line)) (g.met.M.Reported.same c.args.m.now) in
    still_told _ c.args.self.now before (g.M.Reported.meaning c.args.m.now) event (search rules) is applied c.cfg-cfg.ensures.kept
