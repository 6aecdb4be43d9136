-- The line is idle, and its requester isn't listed any longer, or nobody is.
use Rattle.std.proofs.Common.{sym, ap, ◌∙◌}
use Rattle.op_model.specs.Tables.Home.{requester_of}
use Rattle.op_model.specs.Tables.Remote.{is_invalidate}
use Rattle.node_share.proofs.Public.{puts-read}
use Rattle.home_getx.proofs.Backs.{ended, nakc-dirty, nakc-clean}
use Rattle.home_getx.proofs.back.on_nakc.Goals as goal

pub list_only-requires-clause-calm : goal.list_only-requires-clause-calm
list_only-requires-clause-calm g c = ap (λ h. is_invalidate h.wait) (puts-read (ended c.args.home.now c.args.line c.requires.line c.end_pending.new.self c.end_pending.ensures))

pub returns-then-header-clause-share : goal.returns-then-header-clause-share
returns-then-header-clause-share g c =
    nakc-dirty c.args.home.now c.args.line c.requires.line c.end_pending.new.self c.end_pending.ensures c.unlist.new.self c.requester-owner.result c.unlist.ensures.home
    (c.requester-owner.ensures ∙ ap (λ k. requester_of k.wait) c.header-header.ensures)
    (ap (λ k. k.dirty) (sym c.header-header.ensures) ∙ c.if-header.true)

pub returns-else-header-clause-share : goal.returns-else-header-clause-share
returns-else-header-clause-share g c =
    nakc-clean c.args.home.now c.args.line c.requires.line c.end_pending.new.self c.end_pending.ensures c.list_only.new.self c.list_only.ensures.home
    (ap (λ k. k.dirty) (sym c.header-header.ensures) ∙ c.if-header.false)
