use Rattle.std.proofs.Common.{◌≡◌, ◌++◌, codes}
use Rattle.std.specs.List.{flat_map, range_with_len}
use Rattle.decimal_text.specs.Text.{named}
use Rattle.text_lines.specs.Printing.{line_text}
use Rattle.time_view.specs.States.{node_words}
use Rattle.time_view.proofs.nodes.put_nodes.Given as goal

abbrev pub invariant-loop-node : goal.invariant-loop-node
invariant-loop-node g l =
    let m = g.M.Reported.meaning l.m in
    l.out.items ≡ l.fn.out.items ++ named (codes "nodes ") m.sizes.nodes ++ flat_map (λ node. line_text (node_words node (m.past.state.share node))) (range_with_len 0 l.node)
