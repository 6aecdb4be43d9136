-- One node of the list after the other, from the first one on.
use Rattle.std.proofs.Common.{◌%◌, length, refl, ap, ◌∙◌, arith}
use Rattle.op_model.specs.Lines.{to_each}
use Rattle.op_model.specs.Nodes.{in_order}
use Rattle.op_model.specs.Events.Node.{messages}
use Rattle.dir_header.specs.Sharers.{list_at}
use Rattle.dir_header.specs.HomeSides.{header_at}
use Rattle.node_share.specs.Parts.{sent}
use Rattle.node_share.proofs.Invs.{listed-at, few-listed, one-more, room-left, all-sent}
use Rattle.node_share.proofs.lists.send_invs.Goals as goal

pub loop-node-init : goal.loop-node-init
loop-node-init g c =
    let home = c.args.home.now in
    let at = ap (λ d. list_at (g.D.Sharers.directory d) (c.args.line % c.lines.result)) c.dir.ensures
    ∙ listed-at (g.D.Sharers.directory home.dir) home c.cfg.ensures.kept c.args.line c.requires.line (c.args.line % c.lines.result) c.lines.result c.cfg.result c.cfg.ensures.value c.lines.ensures.value refl in
    ap (λ ns. sent c.args.out.now (messages c.args.line (to_each ns))) (c.listed-left.ensures ∙ ap in_order at)

pub push-requires : goal.push-requires
push-requires g c =
    let home = c.args.home.now in
    room-left c.loop-node.out c.args.out.now c.args.line c.loop-node.left (header_at home c.args.line).list c.loop-node.invariant c.in-Some.node home.sizes.nodes c.next.new.self c.in-Some.ensures (few-listed (g.D.Sharers.directory home.dir) home c.cfg.ensures.kept c.args.line c.requires.line) c.requires.room

pub loop-node-preserved : goal.loop-node-preserved
loop-node-preserved g c =
    let home = c.args.home.now in
    one-more c.loop-node.out c.args.out.now c.args.line c.loop-node.left (header_at home c.args.line).list c.loop-node.invariant c.push.new.self c.in-Some.node c.next.new.self c.in-Some.ensures c.push.ensures

pub loop-node-smaller : goal.loop-node-smaller
loop-node-smaller g c = let some = ap length c.in-Some.ensures in omega (arith, some)

pub returns : goal.returns
returns g c =
    let home = c.args.home.now in
    all-sent c.loop-node.out c.args.out.now c.args.line c.loop-node.left (header_at home c.args.line).list c.loop-node.invariant c.in_default.ensures
