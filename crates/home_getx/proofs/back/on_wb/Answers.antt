-- Memory takes the words, the line is clean, and where it is idle nobody is listed.
use Rattle.std.proofs.Common.{◌≡◌, true, sym, ap, ◌∙◌}
use Rattle.op_model.specs.Lines.{is_idle}
use Rattle.op_model.specs.Tables.Remote.{is_invalidate}
use Rattle.op_model.proofs.Public.{idle-wait}
use Rattle.dir_header.specs.HomeSides.{header_at}
use Rattle.node_share.proofs.Public.{puts-read}
use Rattle.home_getx.proofs.Backs.{clean-words, wb-idle, wb-pending}
use Rattle.home_getx.proofs.back.on_wb.Goals as goal

pub list_only-requires-clause-calm : goal.list_only-requires-clause-calm
list_only-requires-clause-calm g c =
    let idle : is_idle (header_at c.args.home.now c.args.line).wait ≡ true = ap (λ k. is_idle k.wait) (sym c.header.ensures) ∙ sym c.is_idle-idle.ensures ∙ c.if-idle.true in
    ap (λ h. is_invalidate h.wait) (puts-read (clean-words c.args.home.now c.args.line c.put_memory.new.self c.set_dirty.new.self c.args.body.now c.put_memory.ensures c.set_dirty.ensures)) ∙ ap is_invalidate (idle-wait (header_at c.args.home.now c.args.line).wait idle)

pub returns-then-idle-clause-share : goal.returns-then-idle-clause-share
returns-then-idle-clause-share g c =
    wb-idle c.args.home.now c.args.line c.requires.line c.set_dirty.new.self c.list_only.new.self c.args.body.now
    (clean-words c.args.home.now c.args.line c.put_memory.new.self c.set_dirty.new.self c.args.body.now c.put_memory.ensures c.set_dirty.ensures)
    c.list_only.ensures.home
    (ap (λ k. is_idle k.wait) (sym c.header.ensures) ∙ sym c.is_idle-idle.ensures ∙ c.if-idle.true)

pub returns-else-idle-clause-share : goal.returns-else-idle-clause-share
returns-else-idle-clause-share g c =
    wb-pending c.args.home.now c.args.line c.requires.line c.set_dirty.new.self c.args.body.now
    (clean-words c.args.home.now c.args.line c.put_memory.new.self c.set_dirty.new.self c.args.body.now c.put_memory.ensures c.set_dirty.ensures)
    (ap (λ k. is_idle k.wait) (sym c.header.ensures) ∙ sym c.is_idle-idle.ensures ∙ c.if-idle.false)
