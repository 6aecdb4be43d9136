use Rattle.std.proofs.Common.{◌≡◌, ◌++◌, ◌∷◌, ℕ, codes, decimal, Option, ap, ◌∙◌}
use Rattle.decimal_text.specs.Text.{named}
use Rattle.text_lines.specs.Printing.{line_text}
use Rattle.op_model.specs.declared.state.Want.{Want}
use Rattle.dir_report.proofs.Public.{printed_more}
use Rattle.time_view.specs.States.{node_words, want_words}
use Rattle.time_view.proofs.nodes.put_nodes.Goals as goal

pub loop-node-preserved : goal.loop-node-preserved
loop-node-preserved g c =
    let m = g.M.Reported.meaning c.args.m.now in
    let node = c.loop-node.node in
    let line : c.put_node.new.out.items ≡ c.loop-node.out.items ++ line_text (node_words node (m.past.state.share node)) =
    c.in_ok-put_node.ensures
    ∙ ap (λ (place : ℕ). c.loop-node.out.items ++ line_text (decimal node ∷ decimal place ∷ want_words c.want.result)) c.place.ensures
    ∙ ap (λ (want : Option Want). c.loop-node.out.items ++ line_text (decimal node ∷ decimal (m.past.state.share node).place ∷ want_words want)) c.want.ensures in
    printed_more (λ node. line_text (node_words node (m.past.state.share node))) (c.args.out.now.items ++ named (codes "nodes ") m.sizes.nodes) c.loop-node.out.items c.put_node.new.out.items node c.loop-node.invariant line
