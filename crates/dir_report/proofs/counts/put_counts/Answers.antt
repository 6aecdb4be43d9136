use Rattle.std.proofs.Common.{◌≡◌, ◌++◌, codes, refl, lit<, append_assoc, arith}
use Rattle.dir_report.specs.Reports.{counts_text}
use Rattle.dir_report.proofs.Counted.{count_at, name_at, number_at, counts_start, counts_next, counts_below_all}
use Rattle.dir_report.proofs.counts.put_counts.Goals as goal

pub loop-i-init : goal.loop-i-init
loop-i-init c = λ sizes moments are.
    let at = count_at sizes 0 (lit< tt) in
    counts_start sizes moments (c.args.out.now.items ++ codes "counts\n") c.put_bytes.new.out.items c.put_count.new.out.items c.name.result.now _ at.0 at.1 (name_at sizes _ 0 c.name.result.now at.0 (c.name.ensures sizes) c.at.ensures at.1) (number_at sizes moments c.args.counts.now 0 at.0 are at.1) c.in_ok-put_bytes.ensures.ok c.in_ok-put_count.ensures

pub loop-i-preserved : goal.loop-i-preserved
loop-i-preserved c = λ sizes moments are.
    let at = count_at sizes c.loop-i.i (omega arith) in
    counts_next sizes moments (c.args.out.now.items ++ codes "counts\n") c.loop-i.out.items c.put_above.new.out.items c.name-in-loop-i.result.now _ c.loop-i.i at.0 (omega arith) at.1 (name_at sizes _ c.loop-i.i c.name-in-loop-i.result.now at.0 (c.name-in-loop-i.ensures sizes) c.at-in-loop-i.ensures at.1) (number_at sizes moments c.args.counts.now c.loop-i.i at.0 are at.1) (c.loop-i.invariant sizes moments are) c.in_ok-put_above.ensures

pub returns : goal.returns
unfolding counts_text
returns c = λ sizes moments are.
    let all : c.loop-i.i ≡ 27 = omega arith in
    rw (c.loop-i.invariant sizes moments are, all, counts_below_all, append_assoc) refl
