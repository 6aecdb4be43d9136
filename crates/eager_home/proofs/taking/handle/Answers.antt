-- Each message that changes whom a home lists does its row, since what its handler needs follows from the row that it meets and from what a node keeps.
use Rattle.std.proofs.Common.{◌≡◌, true, not, [], refl, sym, ap, ◌∙◌, subst}
use Rattle.line_map.specs.Sizes.{home_of}
use Rattle.op_model.specs.declared.messages.Msg.TheVariants as msg
use Rattle.op_model.specs.Messages.{msg_line, msg_content}
use Rattle.op_model.specs.MessageWords.{IsMsgOf, words_behind}
use Rattle.op_model.specs.OwnPart.{IsOwnLine}
use Rattle.op_model.specs.Shares.{copy_of, header_in, line_share, want_on}
use Rattle.op_model.specs.Events.Node.{messages}
use Rattle.op_model.specs.Tables.Home.{on_get as get_row, on_wb as wb_row, on_rpl as rpl_row}
use Rattle.op_model.specs.Tables.Remote.{row_of as delayed_row_of}
use Rattle.eager_model.specs.Node.{meets_row}
use Rattle.eager_model.specs.Rows.{row_of, on_getx as getx_row, on_inv_ack as inv_ack_row}
use Rattle.cpu_cache.specs.Effects.{effect_of}
use Rattle.dir_header.specs.HomeSides.{room_in}
use Rattle.node_range.specs.Range.{IsWaitIn}
use Rattle.node_share.specs.Parts.{row_at, sent, DoesRow}
use Rattle.node_share.proofs.Public.{effect-none, sent-none}
use Rattle.magic_node.specs.Nodes.{node_share}
use Rattle.magic_node.proofs.Public.{rpl-quiet, rpl-sends}
use Rattle.eager_part.proofs.Public.{get-met, getx-met, idle-line, inv_ack-met, rpl-met, wb-met}
use Rattle.eager_home.specs.Nodes.{row_met, told_of, DoesMessage}
use Rattle.eager_home.proofs.Handled.{getx-quiet, inv_ack-quiet, inv_ack-sends, none-for-list}
use Rattle.eager_home.proofs.taking.handle.Goals as goal

pub on_get-requires-clause-line : goal.on_get-requires-clause-line
on_get-requires-clause-line g c =
    let home = c.args.home.now in
    let share = node_share c.args.proc.now c.args.cache.now home in
    let met = subst (λ m. meets_row home.sizes c.args.number share c.args.src m ≡ true) c.in-Get.is c.requires.met in
    (get-met home.sizes c.args.number c.args.proc.now.program share c.requires.node.own c.requires.node.fits c.in-Get.line c.args.src met).0 ∙ sym c.requires.node.node

pub on_get-requires-clause-own : goal.on_get-requires-clause-own
unfolding copy_of header_in
on_get-requires-clause-own g c =
    let home = c.args.home.now in
    let share = node_share c.args.proc.now c.args.cache.now home in
    let met = subst (λ m. meets_row home.sizes c.args.number share c.args.src m ≡ true) c.in-Get.is c.requires.met in
    λ idle. (want_on home.sizes c.args.proc.now.want c.in-Get.line, subst (λ k. IsOwnLine k (line_share home.sizes share c.in-Get.line)) (sym c.requires.node.node) (idle-line home.sizes c.args.number c.args.proc.now.program share c.requires.node.own c.requires.node.fits c.in-Get.line (get-met home.sizes c.args.number c.args.proc.now.program share c.requires.node.own c.requires.node.fits c.in-Get.line c.args.src met).0 (ap not idle)))

pub on_getx-requires-clause-line : goal.on_getx-requires-clause-line
on_getx-requires-clause-line g c =
    let home = c.args.home.now in
    let share = node_share c.args.proc.now c.args.cache.now home in
    let met = subst (λ m. meets_row home.sizes c.args.number share c.args.src m ≡ true) c.in-GetX.is c.requires.met in
    (getx-met home.sizes c.args.number c.args.proc.now.program share c.requires.node.own c.requires.node.fits c.in-GetX.line c.args.src met).0 ∙ sym c.requires.node.node

pub on_getx-requires-clause-own : goal.on_getx-requires-clause-own
unfolding copy_of header_in
on_getx-requires-clause-own g c =
    let home = c.args.home.now in
    let share = node_share c.args.proc.now c.args.cache.now home in
    let met = subst (λ m. meets_row home.sizes c.args.number share c.args.src m ≡ true) c.in-GetX.is c.requires.met in
    λ idle. (want_on home.sizes c.args.proc.now.want c.in-GetX.line, subst (λ k. IsOwnLine k (line_share home.sizes share c.in-GetX.line)) (sym c.requires.node.node) (idle-line home.sizes c.args.number c.args.proc.now.program share c.requires.node.own c.requires.node.fits c.in-GetX.line (getx-met home.sizes c.args.number c.args.proc.now.program share c.requires.node.own c.requires.node.fits c.in-GetX.line c.args.src met).0 (ap not idle)))

pub returns-in-Get-clause-row : goal.returns-in-Get-clause-row
unfolding row_of delayed_row_of
returns-in-Get-clause-row g c =
    let home = c.args.home.now in
    let share = node_share c.args.proc.now c.args.cache.now home in
    subst (λ m. DoesMessage home.sizes c.args.number c.args.src (room_in home) m share (node_share c.args.proc.now c.on_get.new.cache c.on_get.new.home) c.args.out.now c.on_get.new.out) (sym c.in-Get.is)
    (subst (λ k. DoesRow home.sizes k share (node_share c.args.proc.now c.on_get.new.cache c.on_get.new.home) c.args.out.now c.on_get.new.out c.in-Get.line (get_row (room_in home) c.args.src)) c.requires.node.node (c.on_get.ensures.row c.args.proc.now))

pub returns-in-Get-clause-effect : goal.returns-in-Get-clause-effect
unfolding row_of delayed_row_of
returns-in-Get-clause-effect g c =
    let home = c.args.home.now in
    let share = node_share c.args.proc.now c.args.cache.now home in
    subst (λ m. c.on_get.result.1 ≡ told_of home.sizes c.args.number c.args.src (room_in home) m c.args.proc.now.program share) (sym c.in-Get.is)
    (subst (λ k. c.on_get.result.1 ≡ effect_of k c.args.proc.now.program c.args.proc.now.place [] (row_at home.sizes k share c.in-Get.line (get_row (room_in home) c.args.src))) c.requires.node.node (c.on_get.ensures.effect c.args.proc.now))

pub returns-in-GetX-clause-row : goal.returns-in-GetX-clause-row
unfolding row_of
returns-in-GetX-clause-row g c =
    let home = c.args.home.now in
    let share = node_share c.args.proc.now c.args.cache.now home in
    subst (λ m. DoesMessage home.sizes c.args.number c.args.src (room_in home) m share (node_share c.args.proc.now c.on_getx.new.cache c.on_getx.new.home) c.args.out.now c.on_getx.new.out) (sym c.in-GetX.is)
    (subst (λ k. DoesRow home.sizes k share (node_share c.args.proc.now c.on_getx.new.cache c.on_getx.new.home) c.args.out.now c.on_getx.new.out c.in-GetX.line (getx_row (room_in home) c.args.src)) c.requires.node.node (c.on_getx.ensures.row c.args.proc.now))

pub returns-in-GetX-clause-effect : goal.returns-in-GetX-clause-effect
unfolding row_of
returns-in-GetX-clause-effect g c =
    let home = c.args.home.now in
    let share = node_share c.args.proc.now c.args.cache.now home in
    subst (λ m. c.no_effect-effect.result ≡ told_of home.sizes c.args.number c.args.src (room_in home) m c.args.proc.now.program share) (sym c.in-GetX.is)
    (c.no_effect-effect.ensures ∙ effect-none c.args.number c.args.proc.now.program c.args.proc.now.place (words_behind (msg_content (msg.GetX c.in-GetX.line))) (row_at home.sizes c.args.number share (msg_line (msg.GetX c.in-GetX.line)) (row_met home.sizes c.args.number c.args.src (room_in home) (msg.GetX c.in-GetX.line))) (getx-quiet (room_in home) c.args.src (line_share home.sizes share c.in-GetX.line)).0 (getx-quiet (room_in home) c.args.src (line_share home.sizes share c.in-GetX.line)).1)

pub on_inv_ack-requires-clause-line : goal.on_inv_ack-requires-clause-line
on_inv_ack-requires-clause-line g c =
    let home = c.args.home.now in
    let share = node_share c.args.proc.now c.args.cache.now home in
    let met = subst (λ m. meets_row home.sizes c.args.number share c.args.src m ≡ true) c.in-InvAck.is c.requires.met in
    (inv_ack-met home.sizes c.args.number c.args.proc.now.program share c.requires.node.own c.requires.node.fits c.in-InvAck.line c.args.src met).0 ∙ sym c.requires.node.node

pub on_inv_ack-requires-clause-waits : goal.on_inv_ack-requires-clause-waits
on_inv_ack-requires-clause-waits g c =
    let home = c.args.home.now in
    let share = node_share c.args.proc.now c.args.cache.now home in
    let met = subst (λ m. meets_row home.sizes c.args.number share c.args.src m ≡ true) c.in-InvAck.is c.requires.met in
    (inv_ack-met home.sizes c.args.number c.args.proc.now.program share c.requires.node.own c.requires.node.fits c.in-InvAck.line c.args.src met).1

pub on_inv_ack-requires-clause-listed : goal.on_inv_ack-requires-clause-listed
on_inv_ack-requires-clause-listed g c =
    let home = c.args.home.now in
    let share = node_share c.args.proc.now c.args.cache.now home in
    let met = subst (λ m. meets_row home.sizes c.args.number share c.args.src m ≡ true) c.in-InvAck.is c.requires.met in
    (inv_ack-met home.sizes c.args.number c.args.proc.now.program share c.requires.node.own c.requires.node.fits c.in-InvAck.line c.args.src met).2

pub on_inv_ack-requires-clause-grantee : goal.on_inv_ack-requires-clause-grantee
unfolding header_in
on_inv_ack-requires-clause-grantee g c =
    let home = c.args.home.now in
    let share = node_share c.args.proc.now c.args.cache.now home in
    λ node is. subst (IsWaitIn home.sizes.nodes) is (c.requires.node.fits.headers c.in-InvAck.line).nodes.waits

pub returns-in-InvAck-clause-row : goal.returns-in-InvAck-clause-row
unfolding row_of
returns-in-InvAck-clause-row g c =
    let home = c.args.home.now in
    let share = node_share c.args.proc.now c.args.cache.now home in
    let met = subst (λ m. meets_row home.sizes c.args.number share c.args.src m ≡ true) c.in-InvAck.is c.requires.met in
    subst (λ m. DoesMessage home.sizes c.args.number c.args.src (room_in home) m share (node_share c.args.proc.now c.args.cache.now c.on_inv_ack.new.home) c.args.out.now c.args.out.now) (sym c.in-InvAck.is)
    (record {
      share = subst (λ k. node_share c.args.proc.now c.args.cache.now c.on_inv_ack.new.home ≡ (row_at home.sizes c.args.number share c.in-InvAck.line (inv_ack_row k c.args.src)).share) (sym (inv_ack-met home.sizes c.args.number c.args.proc.now.program share c.requires.node.own c.requires.node.fits c.in-InvAck.line c.args.src met).0) (subst (λ k. node_share c.args.proc.now c.args.cache.now c.on_inv_ack.new.home ≡ (row_at home.sizes k share c.in-InvAck.line (inv_ack_row k c.args.src)).share) c.requires.node.node (c.on_inv_ack.ensures.share c.args.proc.now c.args.cache.now.copies c.cfg-cached.ensures.kept.held));
      sends = sent-none c.args.out.now ∙ ap (λ s. sent c.args.out.now (messages c.in-InvAck.line s)) (sym (inv_ack-sends (home_of home.sizes c.in-InvAck.line) c.args.src (line_share home.sizes share c.in-InvAck.line)));
    })

pub returns-in-InvAck-clause-effect : goal.returns-in-InvAck-clause-effect
unfolding row_of
returns-in-InvAck-clause-effect g c =
    let home = c.args.home.now in
    let share = node_share c.args.proc.now c.args.cache.now home in
    subst (λ m. c.no_effect-effect.result ≡ told_of home.sizes c.args.number c.args.src (room_in home) m c.args.proc.now.program share) (sym c.in-InvAck.is)
    (c.no_effect-effect.ensures ∙ effect-none c.args.number c.args.proc.now.program c.args.proc.now.place (words_behind (msg_content (msg.InvAck c.in-InvAck.line))) (row_at home.sizes c.args.number share (msg_line (msg.InvAck c.in-InvAck.line)) (row_met home.sizes c.args.number c.args.src (room_in home) (msg.InvAck c.in-InvAck.line))) (inv_ack-quiet (home_of home.sizes c.in-InvAck.line) c.args.src (line_share home.sizes share c.in-InvAck.line)).0 (inv_ack-quiet (home_of home.sizes c.in-InvAck.line) c.args.src (line_share home.sizes share c.in-InvAck.line)).1)

pub on_wb-requires-clause-line : goal.on_wb-requires-clause-line
on_wb-requires-clause-line g c =
    let home = c.args.home.now in
    let share = node_share c.args.proc.now c.args.cache.now home in
    let met = subst (λ m. meets_row home.sizes c.args.number share c.args.src m ≡ true) c.in-Wb.is c.requires.met in
    (wb-met home.sizes c.args.number c.args.proc.now.program share c.requires.node.own c.requires.node.fits c.in-Wb.line c.args.src c.in-Wb.body met).0 ∙ sym c.requires.node.node

pub on_wb-requires-clause-width : goal.on_wb-requires-clause-width
on_wb-requires-clause-width g c =
    let home = c.args.home.now in
    let share = node_share c.args.proc.now c.args.cache.now home in
    let of = subst (IsMsgOf home.sizes) c.in-Wb.is c.requires.msg in
    of.1

pub returns-in-Wb-clause-row : goal.returns-in-Wb-clause-row
unfolding row_of delayed_row_of wb_row
returns-in-Wb-clause-row g c =
    let home = c.args.home.now in
    let share = node_share c.args.proc.now c.args.cache.now home in
    subst (λ m. DoesMessage home.sizes c.args.number c.args.src (room_in home) m share (node_share c.args.proc.now c.args.cache.now c.on_wb.new.home) c.args.out.now c.args.out.now) (sym c.in-Wb.is)
    (record { share = subst (λ k. node_share c.args.proc.now c.args.cache.now c.on_wb.new.home ≡ (row_at home.sizes k share c.in-Wb.line (wb_row c.in-Wb.body)).share) c.requires.node.node (c.on_wb.ensures.share c.args.proc.now c.args.cache.now.copies c.cfg-cached.ensures.kept.held); sends = sent-none c.args.out.now })

pub returns-in-Wb-clause-effect : goal.returns-in-Wb-clause-effect
unfolding row_of delayed_row_of wb_row
returns-in-Wb-clause-effect g c =
    let home = c.args.home.now in
    let share = node_share c.args.proc.now c.args.cache.now home in
    subst (λ m. c.no_effect-effect.result ≡ told_of home.sizes c.args.number c.args.src (room_in home) m c.args.proc.now.program share) (sym c.in-Wb.is)
    (c.no_effect-effect.ensures ∙ effect-none c.args.number c.args.proc.now.program c.args.proc.now.place (words_behind (msg_content (msg.Wb c.in-Wb.line c.in-Wb.body))) (row_at home.sizes c.args.number share (msg_line (msg.Wb c.in-Wb.line c.in-Wb.body)) (row_met home.sizes c.args.number c.args.src (room_in home) (msg.Wb c.in-Wb.line c.in-Wb.body))) refl refl)

pub on_rpl-requires-clause-line : goal.on_rpl-requires-clause-line
on_rpl-requires-clause-line g c =
    let home = c.args.home.now in
    let share = node_share c.args.proc.now c.args.cache.now home in
    let met = subst (λ m. meets_row home.sizes c.args.number share c.args.src m ≡ true) c.in-Rpl.is c.requires.met in
    rpl-met home.sizes c.args.number c.args.proc.now.program share c.requires.node.own c.requires.node.fits c.in-Rpl.line c.args.src met ∙ sym c.requires.node.node

pub returns-in-Rpl-clause-row : goal.returns-in-Rpl-clause-row
unfolding row_of delayed_row_of
returns-in-Rpl-clause-row g c =
    let home = c.args.home.now in
    let share = node_share c.args.proc.now c.args.cache.now home in
    subst (λ m. DoesMessage home.sizes c.args.number c.args.src (room_in home) m share (node_share c.args.proc.now c.args.cache.now c.on_rpl.new.home) c.args.out.now c.args.out.now) (sym c.in-Rpl.is)
    (record { share = subst (λ k. node_share c.args.proc.now c.args.cache.now c.on_rpl.new.home ≡ (row_at home.sizes k share c.in-Rpl.line (rpl_row c.args.src)).share) c.requires.node.node (c.on_rpl.ensures.share c.args.proc.now c.args.cache.now.copies c.cfg-cached.ensures.kept.held); sends = sent-none c.args.out.now ∙ ap (λ s. sent c.args.out.now (messages c.in-Rpl.line s)) (sym (rpl-sends c.args.src (line_share home.sizes share c.in-Rpl.line))) })

pub returns-in-Rpl-clause-effect : goal.returns-in-Rpl-clause-effect
unfolding row_of delayed_row_of
returns-in-Rpl-clause-effect g c =
    let home = c.args.home.now in
    let share = node_share c.args.proc.now c.args.cache.now home in
    subst (λ m. c.no_effect-effect.result ≡ told_of home.sizes c.args.number c.args.src (room_in home) m c.args.proc.now.program share) (sym c.in-Rpl.is)
    (c.no_effect-effect.ensures ∙ effect-none c.args.number c.args.proc.now.program c.args.proc.now.place (words_behind (msg_content (msg.Rpl c.in-Rpl.line))) (row_at home.sizes c.args.number share (msg_line (msg.Rpl c.in-Rpl.line)) (row_met home.sizes c.args.number c.args.src (room_in home) (msg.Rpl c.in-Rpl.line))) (rpl-quiet c.args.src (line_share home.sizes share c.in-Rpl.line)).0 (rpl-quiet c.args.src (line_share home.sizes share c.in-Rpl.line)).1)

pub handle_report-requires-clause-apart : goal.handle_report-requires-clause-apart
handle_report-requires-clause-apart g c = none-for-list c.args.msg.now c.in_default.not-Get c.in_default.not-GetX c.in_default.not-InvAck c.in_default.not-Wb c.in_default.not-Rpl
