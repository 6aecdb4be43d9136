use Rattle.std.proofs.Common.{rules}
use Rattle.dir_report.specs.Machines.{moments_of}
use Rattle.dir_report.specs.Summaries.{summary_text}
use Rattle.dir_report.proofs.sections.summary.Goals as goal

pub returns : goal.returns
unfolding summary_text
returns g c =
    let m = g.M.Reported.meaning c.args.m.now in
    let counts = c.in_ok-put_counts.ensures m.sizes (moments_of m) c.counts.ensures in
    search rules
