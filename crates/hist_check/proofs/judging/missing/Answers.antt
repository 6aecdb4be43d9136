use Rattle.std.proofs.Common.{◌<◌, ◌-◌, get_or, length, ap, sym, ◌∙◌, arith}
use Rattle.op_model.specs.Programs.{programs_of}
use Rattle.hist_check.proofs.Counting.{missing-none, missing-step}
use Rattle.hist_check.proofs.judging.missing.Goals as goal

pub loop-node-init : goal.loop-node-init
loop-node-init c = record { is = sym (missing-none (programs_of c.args.programs.now) (λ node. get_or c.args.counts.now node 0)); small = omega arith }

pub loop-node-preserved : goal.loop-node-preserved
loop-node-preserved c =
    let inside : c.loop-node.node < length c.args.programs.now = omega (arith, c.requires.all, c.loop-node-test.true) in
    record {
      is = missing-step c.args.programs.now (λ node. get_or c.args.counts.now node 0) c.loop-node.node c.loop-node.missing c.from-missing.result c.index-programs-node.result inside c.index-programs-node.is c.loop-node.invariant.is
          (c.from-missing.ensures ∙ ap (λ n. n - get_or c.args.counts.now c.loop-node.node 0) c.len.ensures);
      small = omega (arith, c.from-missing.ensures, c.len.type_inv, c.loop-node.invariant.small);
    }
