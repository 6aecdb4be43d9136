-- Only a Get asks for a victim.
use Rattle.std.proofs.Common.{◌≡◌, true, sym, ◌∙◌, subst, []}
use Rattle.op_model.specs.Operations.{Words}
use Rattle.op_model.specs.Shares.{header_of, header_in}
use Rattle.op_model.specs.Events.Node.{meets_row}
use Rattle.magic_node.specs.Nodes.{node_share}
use Rattle.magic_node.proofs.Needs.{get-met}
use Rattle.magic_node.proofs.Taken.{asks-get}
use Rattle.magic_node.proofs.taking.asks.Goals as goal

pub wants_victim-requires-clause-line : goal.wants_victim-requires-clause-line
wants_victim-requires-clause-line g c =
    let home = c.args.home.now in
    let share = node_share c.args.proc.now c.args.cache.now home in
    let met = subst (λ m. meets_row home.sizes c.args.number share c.args.src m ≡ true) c.in-Get.is c.requires.met in
    get-met c.args.number c.args.proc.now c.args.cache.now home c.requires.node c.args.src c.in-Get.line met ∙ sym c.requires.node.node

pub returns-in-Get : goal.returns-in-Get
unfolding header_in
returns-in-Get g c =
    let home = c.args.home.now in
    let share = node_share c.args.proc.now c.args.cache.now home in
    c.wants_victim.ensures ∙ asks-get home.charge home.sizes c.args.number c.args.proc.now.program 0 [] share c.args.src c.args.msg.now c.in-Get.line c.in-Get.is c.requires.met
