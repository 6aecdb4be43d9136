-- Nothing is served by an eviction.
use Rattle.std.proofs.Common.{◌≡◌, [], Err, sym, subst}
use Rattle.op_model.specs.Shares.{Unlinked}
use Rattle.op_model.specs.Events.Node.{EvictLine}
use Rattle.eager_model.specs.Node.{local}
use Rattle.cpu_cache.specs.Effects.{nothing}
use Rattle.node_share.specs.Effects.{Acts}
use Rattle.magic_node.specs.Nodes.{node_share}
use Rattle.magic_node.proofs.Public.{leaves, stays}
use Rattle.eager_home.proofs.Alone.{as-evicted}
use Rattle.eager_home.proofs.acting.leave.Goals as goal

pub returns-in-Ok-clause-done : goal.returns-in-Ok-clause-done
returns-in-Ok-clause-done g c = λ proc.
    let home = c.args.home.now in
    let share = node_share proc c.args.cache.now home in
    let new = node_share proc c.evict.new.cache c.evict.new.home in
    subst (λ e. Acts c.args.number proc.program proc.place [] (local home.sizes c.args.number proc.program share (EvictLine c.args.line c.args.kind c.args.room)) new c.args.out.now c.evict.new.out e) (sym c.no_effect.ensures)
    (subst (λ act. Acts c.args.number proc.program proc.place [] act new c.args.out.now c.evict.new.out nothing) (as-evicted home.sizes c.args.number proc.program share c.args.line c.args.kind c.args.room)
    (leaves Unlinked home.sizes c.args.number proc.program proc.place share c.args.line c.args.kind c.args.room new c.args.out.now c.evict.new.out (c.in-Ok.ensures.done proc)))

pub returns-in-Err-clause-refused : goal.returns-in-Err-clause-refused
returns-in-Err-clause-refused g c = λ proc.
    let home = c.args.home.now in
    let share = node_share proc c.args.cache.now home in
    subst (λ act. act ≡ Err c.in-Err.cause) (as-evicted home.sizes c.args.number proc.program share c.args.line c.args.kind c.args.room)
    (stays Unlinked home.sizes c.args.number proc.program proc.place share c.args.line c.args.kind c.args.room c.in-Err.cause (c.in-Err.ensures.refused proc))
