-- The listed nodes are nodes of the machine, and the home is one that isn't among them.
use Rattle.std.proofs.Common.{arith}
use Rattle.op_model.specs.Shares.{header_of, line_share}
use Rattle.message_range.proofs.Public.{below-others}
use Rattle.eager_part.proofs.Lines.{home-unlisted}
use Rattle.eager_part.proofs.every_own_list.Goals as goal

pub returns : goal.returns
returns c = record {
  fewer = λ sizes node line program share at home part of.
      let less = below-others sizes.nodes node (header_of sizes share line).list at (home-unlisted node _ (line_share sizes share line) (part.lines line home)) (of.headers line).nodes.lists in
      omega arith;
}
