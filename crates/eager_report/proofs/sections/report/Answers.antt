use Rattle.std.proofs.Common.{rules, ◌++◌, codes, ap, ◌∙◌}
use Rattle.dir_report.specs.Machines.{Heads}
use Rattle.dir_report.specs.Reports.{lines_text}
use Rattle.eager_report.specs.Machines.{moments_of}
use Rattle.eager_report.specs.Reports.{report_text}
use Rattle.eager_report.proofs.sections.report.Goals as goal

pub returns : goal.returns
unfolding report_text
returns g c =
    let m = g.M.EagerReported.meaning c.args.m.now in
    let lines = c.in_ok-put_lines.ensures ∙ ap (λ (h : Heads). c.put_histories.new.out.items ++ lines_text h.mode (codes "lines ") h.sizes h.state) (g.met.M.EagerReported.same c.args.m.now) in
    let counts = c.in_ok-put_counts.ensures m.sizes (moments_of m) c.counts.ensures in
    search rules
