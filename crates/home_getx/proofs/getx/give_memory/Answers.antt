-- The home's copy is gone, and the sender alone is listed, as the owner.
use Rattle.std.proofs.Common.{ap, ◌∙◌}
use Rattle.op_model.specs.Tables.Remote.{is_invalidate}
use Rattle.op_model.proofs.Public.{idle-calm}
use Rattle.dir_header.specs.HomeSides.{header_at}
use Rattle.node_share.proofs.Public.{puts-read}
use Rattle.home_getx.proofs.Gives.{away-dirty, gives-memory}
use Rattle.home_getx.proofs.getx.give_memory.Goals as goal

pub list_only-requires-clause-calm : goal.list_only-requires-clause-calm
list_only-requires-clause-calm g c =
    ap (λ h. is_invalidate h.wait) (puts-read (away-dirty c.args.home.now c.args.cache.now c.args.src c.args.line c.args.out.now c.set_local.new.self c.set_dirty.new.self c.set_local.ensures c.set_dirty.ensures))
    ∙ idle-calm (header_at c.args.home.now c.args.line).wait c.requires.idle

pub returns-clause-row : goal.returns-clause-row
returns-clause-row g c =
    gives-memory c.args.home.now c.args.cache.now c.args.src c.args.line c.args.out.now c.requires.line c.set_local.new.self c.set_dirty.new.self c.list_only.new.self c.drop_line.new.self c.push.new.self c.memory-body.result
    c.set_local.ensures c.set_dirty.ensures c.list_only.ensures.home c.memory-body.ensures.value c.drop_line.ensures.dropped c.push.ensures
