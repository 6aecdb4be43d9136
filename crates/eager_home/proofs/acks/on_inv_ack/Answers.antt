-- The sender is listed no more; the last acknowledgement ends the wait.
use Rattle.std.proofs.Common.{◌≡◌, ◌<◌, ◌≤◌, sym, ap, ◌∙◌, subst}
use Rattle.op_model.specs.Nodes.{unlist, only}
use Rattle.eager_model.specs.Rows.{drained_list}
use Rattle.op_model.specs.Lines.{is_pending}
use Rattle.op_model.specs.Tables.Remote.{is_invalidate}
use Rattle.op_model.proofs.Public.{called-pends}
use Rattle.dir_header.specs.HomeSides.{header_at}
use Rattle.node_share.proofs.Public.{puts-read}
use Rattle.home_getx.proofs.Public.{last-one}
use Rattle.eager_home.proofs.Acked.{acked, more, rested, nobody-owns, owned}
use Rattle.eager_home.proofs.acks.on_inv_ack.Goals as goal

pub returns-then-header-gt1-clause-share : goal.returns-then-header-gt1-clause-share
returns-then-header-gt1-clause-share g c =
    more c.args.home.now c.args.src c.args.line c.requires.line c.requires.waits c.requires.listed c.unlist.new.self c.unlist.ensures.home (subst (λ h. 1 < h.acks) c.header-header.ensures c.if-header-gt1.true)

pub end_pending-requires-clause-pending : goal.end_pending-requires-clause-pending
end_pending-requires-clause-pending g c =
    ap is_pending (puts-read (acked c.args.home.now c.args.src c.args.line c.requires.line c.requires.waits c.requires.listed c.unlist.new.self c.unlist.ensures.home)) ∙ called-pends (header_at c.args.home.now c.args.line).wait c.requires.waits

pub end_pending-requires-clause-acks : goal.end_pending-requires-clause-acks
end_pending-requires-clause-acks g c =
    ap (λ h. h.acks) (puts-read (acked c.args.home.now c.args.src c.args.line c.requires.line c.requires.waits c.requires.listed c.unlist.new.self c.unlist.ensures.home)) ∙ last-one (header_at c.args.home.now c.args.line).acks (subst (λ h. h.acks ≤ 1) c.header-header.ensures c.if-header-gt1.false)

pub list_only-requires-clause-calm : goal.list_only-requires-clause-calm
list_only-requires-clause-calm g c =
    ap (λ h. is_invalidate h.wait) (puts-read (rested c.args.home.now c.args.src c.args.line c.requires.line c.requires.waits c.requires.listed c.unlist.new.self c.unlist.ensures.home (subst (λ h. h.acks ≤ 1) c.header-header.ensures c.if-header-gt1.false) c.end_pending.new.self c.end_pending.ensures))

pub returns-in-Some-clause-share : goal.returns-in-Some-clause-share
returns-in-Some-clause-share g c =
    let home = c.args.home.now in
    let h = header_at home c.args.line in
    let few : h.acks ≤ 1 = subst (λ k. k.acks ≤ 1) c.header-header.ensures c.if-header-gt1.false in
    let here : c.node.result ≡ home.node = c.node.ensures ∙ (rested home c.args.src c.args.line c.requires.line c.requires.waits c.requires.listed c.unlist.new.self c.unlist.ensures.home few c.end_pending.new.self c.end_pending.ensures).node in
    owned home c.args.src c.args.line c.requires.line c.requires.waits c.requires.listed c.unlist.new.self c.unlist.ensures.home few c.end_pending.new.self c.end_pending.ensures c.list_only.new.self c.in-Some.owner c.list_only.ensures.home
    (subst (λ n. drained_list n h (unlist h.list c.args.src) ≡ only c.in-Some.owner) here (c.in-Some.ensures.list h (unlist h.list c.args.src) (sym c.header-header.ensures)))

pub returns-in_default-clause-share : goal.returns-in_default-clause-share
returns-in_default-clause-share g c =
    let home = c.args.home.now in
    let h = header_at home c.args.line in
    let few : h.acks ≤ 1 = subst (λ k. k.acks ≤ 1) c.header-header.ensures c.if-header-gt1.false in
    let here : c.node.result ≡ home.node = c.node.ensures ∙ (rested home c.args.src c.args.line c.requires.line c.requires.waits c.requires.listed c.unlist.new.self c.unlist.ensures.home few c.end_pending.new.self c.end_pending.ensures).node in
    nobody-owns home c.args.src c.args.line c.requires.line c.requires.waits c.requires.listed c.unlist.new.self c.unlist.ensures.home few c.end_pending.new.self c.end_pending.ensures
    (subst (λ n. drained_list n h (unlist h.list c.args.src) ≡ unlist h.list c.args.src) here (c.owner_left.ensures.none h (unlist h.list c.args.src) (sym c.header-header.ensures) c.in_default.is))
