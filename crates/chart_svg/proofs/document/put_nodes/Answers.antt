use Rattle.dir_report.proofs.Public.{printed_more}
use Rattle.chart_svg.specs.Pictures.{node_text}
use Rattle.chart_svg.proofs.document.put_nodes.Goals as goal

pub loop-node-preserved : goal.loop-node-preserved
loop-node-preserved c =
    printed_more (node_text c.args.rows) c.args.out.now.items c.loop-node.out.items c.put_node.new.out.items c.loop-node.node c.loop-node.invariant c.in_ok-put_node.ensures
