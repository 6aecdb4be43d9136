-- The sender is listed no more; the last acknowledgement ends the wait and grants the line.
use Rattle.std.proofs.Common.{◌≡◌, ◌<◌, ◌≤◌, Some, sym, ap, ◌∙◌, subst}
use Rattle.std.specs.Prelude.{is_some}
use Rattle.op_model.specs.declared.state.Grantee.TheVariants.{Nobody, Me, Node}
use Rattle.op_model.specs.Lines.{is_pending}
use Rattle.op_model.specs.Tables.Home.{grantee_of}
use Rattle.op_model.specs.Tables.Remote.{is_invalidate}
use Rattle.op_model.proofs.Public.{called-pends}
use Rattle.dir_header.specs.HomeSides.{header_at}
use Rattle.node_share.proofs.Public.{puts-read}
use Rattle.home_getx.proofs.Granted.{last-one, acked, more-does, more-tells, granted, handed, taken, nobody-does, nobody-tells, node-does, node-tells, me-does, me-tells, some-write, write-on, write-kind, write-next, write-word, write-alone, write-unserved}
use Rattle.home_getx.proofs.acks.on_inv_ack.Goals as goal

pub returns-then-header-gt1-clause-row : goal.returns-then-header-gt1-clause-row
returns-then-header-gt1-clause-row g c =
    let more : 1 < (header_at c.args.home.now c.args.line).acks = subst (λ h. 1 < h.acks) c.header-header.ensures c.if-header-gt1.true in
    more-does c.args.home.now c.args.cache.now c.args.proc.now c.args.src c.args.line c.args.out.now c.requires.line c.cfg-kept.ensures.kept.held c.requires.waits c.requires.listed c.unlist.new.self c.unlist.ensures.home more

pub returns-then-header-gt1-clause-effect : goal.returns-then-header-gt1-clause-effect
returns-then-header-gt1-clause-effect g c =
    let more : 1 < (header_at c.args.home.now c.args.line).acks = subst (λ h. 1 < h.acks) c.header-header.ensures c.if-header-gt1.true in
    c.no_effect.ensures ∙ more-tells c.args.home.now c.args.cache.now c.args.proc.now c.args.src c.args.line c.args.out.now c.requires.line c.cfg-kept.ensures.kept.held c.requires.waits c.requires.listed c.unlist.new.self c.unlist.ensures.home more

pub end_pending-requires-clause-pending : goal.end_pending-requires-clause-pending
end_pending-requires-clause-pending g c =
    ap is_pending (puts-read (acked c.args.home.now c.args.cache.now c.args.proc.now c.args.src c.args.line c.args.out.now c.requires.line c.cfg-kept.ensures.kept.held c.requires.waits c.requires.listed c.unlist.new.self c.unlist.ensures.home)) ∙ called-pends (header_at c.args.home.now c.args.line).wait c.requires.waits

pub end_pending-requires-clause-acks : goal.end_pending-requires-clause-acks
end_pending-requires-clause-acks g c =
    let few : (header_at c.args.home.now c.args.line).acks ≤ 1 = subst (λ h. h.acks ≤ 1) c.header-header.ensures c.if-header-gt1.false in
    ap (λ h. h.acks) (puts-read (acked c.args.home.now c.args.cache.now c.args.proc.now c.args.src c.args.line c.args.out.now c.requires.line c.cfg-kept.ensures.kept.held c.requires.waits c.requires.listed c.unlist.new.self c.unlist.ensures.home)) ∙ last-one (header_at c.args.home.now c.args.line).acks few

pub returns-in-Nobody-clause-row : goal.returns-in-Nobody-clause-row
returns-in-Nobody-clause-row g c =
    let few : (header_at c.args.home.now c.args.line).acks ≤ 1 = subst (λ h. h.acks ≤ 1) c.header-header.ensures c.if-header-gt1.false in
    let is : grantee_of (header_at c.args.home.now c.args.line).wait ≡ Nobody = ap (λ h. grantee_of h.wait) (sym c.header-header.ensures) ∙ sym c.grantee.ensures ∙ c.in-Nobody.is in
    nobody-does c.args.home.now c.args.cache.now c.args.proc.now c.args.src c.args.line c.args.out.now c.requires.line c.cfg-kept.ensures.kept.held c.requires.waits c.requires.listed c.unlist.new.self c.unlist.ensures.home few c.end_pending.new.self c.end_pending.ensures is

pub returns-in-Nobody-clause-effect : goal.returns-in-Nobody-clause-effect
returns-in-Nobody-clause-effect g c =
    let few : (header_at c.args.home.now c.args.line).acks ≤ 1 = subst (λ h. h.acks ≤ 1) c.header-header.ensures c.if-header-gt1.false in
    let is : grantee_of (header_at c.args.home.now c.args.line).wait ≡ Nobody = ap (λ h. grantee_of h.wait) (sym c.header-header.ensures) ∙ sym c.grantee.ensures ∙ c.in-Nobody.is in
    c.no_effect-in-Nobody.ensures ∙ nobody-tells c.args.home.now c.args.cache.now c.args.proc.now c.args.src c.args.line c.args.out.now c.requires.line c.cfg-kept.ensures.kept.held c.requires.waits c.requires.listed c.unlist.new.self c.unlist.ensures.home few c.end_pending.new.self c.end_pending.ensures is

pub list_only-requires-clause-calm : goal.list_only-requires-clause-calm
list_only-requires-clause-calm g c =
    let few : (header_at c.args.home.now c.args.line).acks ≤ 1 = subst (λ h. h.acks ≤ 1) c.header-header.ensures c.if-header-gt1.false in
    ap (λ h. is_invalidate h.wait) (puts-read (granted c.args.home.now c.args.cache.now c.args.proc.now c.args.src c.args.line c.args.out.now c.requires.line c.cfg-kept.ensures.kept.held c.requires.waits c.requires.listed c.unlist.new.self c.unlist.ensures.home few c.end_pending.new.self c.end_pending.ensures c.set_dirty.new.self c.set_dirty.ensures))

pub returns-in-Node-clause-row : goal.returns-in-Node-clause-row
returns-in-Node-clause-row g c =
    let few : (header_at c.args.home.now c.args.line).acks ≤ 1 = subst (λ h. h.acks ≤ 1) c.header-header.ensures c.if-header-gt1.false in
    let is : grantee_of (header_at c.args.home.now c.args.line).wait ≡ (Node c.in-Node.node) = ap (λ h. grantee_of h.wait) (sym c.header-header.ensures) ∙ sym c.grantee.ensures ∙ c.in-Node.is in
    let home = handed c.args.home.now c.args.cache.now c.args.proc.now c.args.src c.args.line c.args.out.now c.requires.line c.cfg-kept.ensures.kept.held c.requires.waits c.requires.listed c.unlist.new.self c.unlist.ensures.home few c.end_pending.new.self c.end_pending.ensures c.set_dirty.new.self c.set_dirty.ensures c.list_only.new.self c.in-Node.node is c.list_only.ensures.home in
    node-does c.args.home.now c.args.cache.now c.args.proc.now c.args.src c.args.line c.args.out.now c.requires.line c.cfg-kept.ensures.kept.held c.requires.waits c.requires.listed c.unlist.new.self c.unlist.ensures.home few c.end_pending.new.self c.end_pending.ensures c.set_dirty.new.self c.set_dirty.ensures c.list_only.new.self c.in-Node.node is c.list_only.ensures.home
    c.memory.result c.push.new.self (c.memory.ensures.value ∙ ap (λ h. h.memory) (puts-read home)) c.push.ensures

pub returns-in-Node-clause-effect : goal.returns-in-Node-clause-effect
returns-in-Node-clause-effect g c =
    let few : (header_at c.args.home.now c.args.line).acks ≤ 1 = subst (λ h. h.acks ≤ 1) c.header-header.ensures c.if-header-gt1.false in
    let is : grantee_of (header_at c.args.home.now c.args.line).wait ≡ (Node c.in-Node.node) = ap (λ h. grantee_of h.wait) (sym c.header-header.ensures) ∙ sym c.grantee.ensures ∙ c.in-Node.is in
    c.no_effect-in-Node.ensures ∙ node-tells c.args.home.now c.args.cache.now c.args.proc.now c.args.src c.args.line c.args.out.now c.requires.line c.cfg-kept.ensures.kept.held c.requires.waits c.requires.listed c.unlist.new.self c.unlist.ensures.home few c.end_pending.new.self c.end_pending.ensures c.set_dirty.new.self c.set_dirty.ensures c.list_only.new.self c.in-Node.node is c.list_only.ensures.home

pub unwrap-requires : goal.unwrap-requires
unwrap-requires g c =
    let is : grantee_of (header_at c.args.home.now c.args.line).wait ≡ Me = ap (λ h. grantee_of h.wait) (sym c.header-header.ensures) ∙ sym c.grantee.ensures ∙ c.in-Me.is in
    ap is_some c.want.ensures.value ∙ some-write c.args.home.now c.args.cache.now c.args.proc.now c.args.src c.args.line c.args.out.now c.requires.line c.cfg-kept.ensures.kept.held c.args.home.now.charge c.requires.own c.requires.waits is

pub finish_on-requires-clause-word : goal.finish_on-requires-clause-word
finish_on-requires-clause-word g c =
    let is : grantee_of (header_at c.args.home.now c.args.line).wait ≡ Me = ap (λ h. grantee_of h.wait) (sym c.header-header.ensures) ∙ sym c.grantee.ensures ∙ c.in-Me.is in
    let w = c.unwrap.result in
    let wanted : c.args.proc.now.want ≡ Some w = sym c.want.ensures.value ∙ c.unwrap.ensures in
    write-word c.args.home.now c.args.cache.now c.args.proc.now c.args.src c.args.line c.args.out.now c.requires.line c.cfg-kept.ensures.kept.held c.args.home.now.charge c.requires.own c.requires.waits is w wanted c.requires.same c.requires.program

pub finish_on-requires-clause-alone : goal.finish_on-requires-clause-alone
finish_on-requires-clause-alone g c =
    let is : grantee_of (header_at c.args.home.now c.args.line).wait ≡ Me = ap (λ h. grantee_of h.wait) (sym c.header-header.ensures) ∙ sym c.grantee.ensures ∙ c.in-Me.is in
    let w = c.unwrap.result in
    let wanted : c.args.proc.now.want ≡ Some w = sym c.want.ensures.value ∙ c.unwrap.ensures in
    write-alone c.args.home.now c.args.cache.now c.args.proc.now c.args.src c.args.line c.args.out.now c.requires.line c.cfg-kept.ensures.kept.held c.args.home.now.charge c.requires.own c.requires.waits is w wanted c.requires.same c.requires.program

pub finish_on-requires-clause-unserved : goal.finish_on-requires-clause-unserved
finish_on-requires-clause-unserved g c =
    let is : grantee_of (header_at c.args.home.now c.args.line).wait ≡ Me = ap (λ h. grantee_of h.wait) (sym c.header-header.ensures) ∙ sym c.grantee.ensures ∙ c.in-Me.is in
    let w = c.unwrap.result in
    let wanted : c.args.proc.now.want ≡ Some w = sym c.want.ensures.value ∙ c.unwrap.ensures in
    write-unserved c.args.home.now c.args.cache.now c.args.proc.now c.args.src c.args.line c.args.out.now c.requires.line c.cfg-kept.ensures.kept.held c.args.home.now.charge c.requires.own c.requires.waits is w wanted c.requires.same c.requires.program

pub returns-in-Me-clause-row : goal.returns-in-Me-clause-row
returns-in-Me-clause-row g c =
    let few : (header_at c.args.home.now c.args.line).acks ≤ 1 = subst (λ h. h.acks ≤ 1) c.header-header.ensures c.if-header-gt1.false in
    let is : grantee_of (header_at c.args.home.now c.args.line).wait ≡ Me = ap (λ h. grantee_of h.wait) (sym c.header-header.ensures) ∙ sym c.grantee.ensures ∙ c.in-Me.is in
    let w = c.unwrap.result in
    let wanted : c.args.proc.now.want ≡ Some w = sym c.want.ensures.value ∙ c.unwrap.ensures in
    let home = taken c.args.home.now c.args.cache.now c.args.proc.now c.args.src c.args.line c.args.out.now c.requires.line c.cfg-kept.ensures.kept.held c.requires.waits c.requires.listed c.unlist.new.self c.unlist.ensures.home few c.end_pending.new.self c.end_pending.ensures c.set_dirty-in-Me.new.self c.set_dirty-in-Me.ensures c.set_local.new.self is c.set_local.ensures in
    me-does c.args.home.now c.args.cache.now c.args.proc.now c.args.src c.args.line c.args.out.now c.requires.line c.cfg-kept.ensures.kept.held c.requires.waits c.requires.listed c.unlist.new.self c.unlist.ensures.home few c.end_pending.new.self c.end_pending.ensures c.set_dirty-in-Me.new.self c.set_dirty-in-Me.ensures c.set_local.new.self is c.set_local.ensures
    w wanted (write-on c.args.home.now c.args.cache.now c.args.proc.now c.args.src c.args.line c.args.out.now c.requires.line c.cfg-kept.ensures.kept.held c.args.home.now.charge c.requires.own c.requires.waits is w wanted) (write-kind c.args.home.now c.args.cache.now c.args.proc.now c.args.src c.args.line c.args.out.now c.requires.line c.cfg-kept.ensures.kept.held c.args.home.now.charge c.requires.own c.requires.waits is w wanted) c.memory-in-Me.result (c.memory-in-Me.ensures.value ∙ ap (λ h. h.memory) (puts-read home)) c.finish_on.new.proc c.finish_on.new.cache c.finish_on.ensures.proc c.finish_on.ensures.cache c.requires.same

pub returns-in-Me-clause-effect : goal.returns-in-Me-clause-effect
returns-in-Me-clause-effect g c =
    let few : (header_at c.args.home.now c.args.line).acks ≤ 1 = subst (λ h. h.acks ≤ 1) c.header-header.ensures c.if-header-gt1.false in
    let is : grantee_of (header_at c.args.home.now c.args.line).wait ≡ Me = ap (λ h. grantee_of h.wait) (sym c.header-header.ensures) ∙ sym c.grantee.ensures ∙ c.in-Me.is in
    let w = c.unwrap.result in
    let wanted : c.args.proc.now.want ≡ Some w = sym c.want.ensures.value ∙ c.unwrap.ensures in
    let home = taken c.args.home.now c.args.cache.now c.args.proc.now c.args.src c.args.line c.args.out.now c.requires.line c.cfg-kept.ensures.kept.held c.requires.waits c.requires.listed c.unlist.new.self c.unlist.ensures.home few c.end_pending.new.self c.end_pending.ensures c.set_dirty-in-Me.new.self c.set_dirty-in-Me.ensures c.set_local.new.self is c.set_local.ensures in
    c.finish_on.ensures.effect ∙ me-tells c.args.home.now c.args.cache.now c.args.proc.now c.args.src c.args.line c.args.out.now c.requires.line c.cfg-kept.ensures.kept.held c.requires.waits c.requires.listed c.unlist.new.self c.unlist.ensures.home few c.end_pending.new.self c.end_pending.ensures c.set_dirty-in-Me.new.self c.set_dirty-in-Me.ensures c.set_local.new.self is c.set_local.ensures
    w wanted (write-on c.args.home.now c.args.cache.now c.args.proc.now c.args.src c.args.line c.args.out.now c.requires.line c.cfg-kept.ensures.kept.held c.args.home.now.charge c.requires.own c.requires.waits is w wanted) (write-kind c.args.home.now c.args.cache.now c.args.proc.now c.args.src c.args.line c.args.out.now c.requires.line c.cfg-kept.ensures.kept.held c.args.home.now.charge c.requires.own c.requires.waits is w wanted) c.memory-in-Me.result (c.memory-in-Me.ensures.value ∙ ap (λ h. h.memory) (puts-read home)) c.requires.program (write-next c.args.home.now c.args.cache.now c.args.proc.now c.args.src c.args.line c.args.out.now c.requires.line c.cfg-kept.ensures.kept.held c.args.home.now.charge c.requires.own c.requires.waits is w wanted)
