-- Each message does its row, since what its handler needs follows from the row that it meets and from what a node keeps.
use Rattle.std.proofs.Common.{◌≡◌, ◌<◌, ◌==◌, true, [], refl, sym, ap, ◌∙◌, subst}
use Rattle.line_map.specs.Sizes.{all_lines, all_words, home_of}
use Rattle.op_model.specs.declared.messages.Msg.TheVariants as msg
use Rattle.op_model.specs.Messages.{msg_line, msg_content}
use Rattle.op_model.specs.MessageWords.{IsMsgOf, words_behind}
use Rattle.op_model.specs.OwnPart.{IsOwnLine, IsOwnPart, IsOutstanding}
use Rattle.op_model.specs.Shares.{copy_of, header_of, line_share, want_on, header_in}
use Rattle.op_model.specs.Events.Node.{meets_row, messages}
use Rattle.op_model.specs.Tables.Home.{on_get as get_row, on_getx as getx_row, on_wb as wb_row, on_rpl as rpl_row, on_inv_ack as inv_ack_row, on_shwb as shwb_row, on_fack as fack_row, on_nakc as nakc_row}
use Rattle.op_model.specs.Tables.Remote.{row_of, on_fwd_get as fwd_get_row, on_fwd_getx as fwd_getx_row, on_inv as inv_row, on_put as put_row, on_putx as putx_row, on_nak as nak_row}
use Rattle.op_model.specs.Programs.{IsProgramOf}
use Rattle.cpu_cache.specs.Effects.{effect_of}
use Rattle.dir_header.specs.HomeSides.{room_in}
use Rattle.node_range.specs.Range.{IsWaitIn}
use Rattle.node_share.specs.Parts.{row_at, sent, DoesRow, AreHeaders}
use Rattle.node_share.proofs.Public.{effect-none, home-headers, sent-none}
use Rattle.magic_node.specs.Nodes.{node_share}
use Rattle.magic_node.proofs.Needs.{forward-facts, get-met, getx-met, rpl-met, wb-met, inv_ack-met, shwb-met, fack-met, nakc-met, fwd_get-met, fwd_getx-met, inv-met, put-met, putx-met, nak-met}
use Rattle.magic_node.proofs.Handled.{none-for-home, getx-quiet, rpl-quiet, rpl-sends, put-sends, putx-sends, nak-does, some-wanted}
use Rattle.magic_node.proofs.taking.handle.Goals as goal

pub on_get-requires-clause-below : goal.on_get-requires-clause-below
on_get-requires-clause-below g c =
    let home = c.args.home.now in
    let share = node_share c.args.proc.now c.args.cache.now home in
    let of = subst (IsMsgOf home.sizes) c.in-Get.is c.requires.msg in
    of.0

pub on_get-requires-clause-line : goal.on_get-requires-clause-line
on_get-requires-clause-line g c =
    let home = c.args.home.now in
    let share = node_share c.args.proc.now c.args.cache.now home in
    let met = subst (λ m. meets_row home.sizes c.args.number share c.args.src m ≡ true) c.in-Get.is c.requires.met in
    get-met c.args.number c.args.proc.now c.args.cache.now home c.requires.node c.args.src c.in-Get.line met ∙ sym c.requires.node.node

pub on_get-requires-clause-own : goal.on_get-requires-clause-own
unfolding copy_of header_in
on_get-requires-clause-own g c =
    let home = c.args.home.now in
    let share = node_share c.args.proc.now c.args.cache.now home in
    let met = subst (λ m. meets_row home.sizes c.args.number share c.args.src m ≡ true) c.in-Get.is c.requires.met in
    λ idle. (want_on home.sizes c.args.proc.now.want c.in-Get.line, subst (λ k. IsOwnLine k (line_share home.sizes share c.in-Get.line)) (sym c.requires.node.node) (c.requires.node.own.lines c.in-Get.line (get-met c.args.number c.args.proc.now c.args.cache.now home c.requires.node c.args.src c.in-Get.line met)))

pub returns-in-Get-clause-row : goal.returns-in-Get-clause-row
unfolding row_of
returns-in-Get-clause-row g c =
    let home = c.args.home.now in
    let share = node_share c.args.proc.now c.args.cache.now home in
    subst (λ m. DoesRow home.sizes c.args.number share (node_share c.args.proc.now c.on_get.new.cache c.on_get.new.home) c.args.out.now c.on_get.new.out (msg_line m) (row_of c.args.number (home_of home.sizes (msg_line m)) c.args.src (room_in home) (msg_content m))) (sym c.in-Get.is)
    (subst (λ k. DoesRow home.sizes k share (node_share c.args.proc.now c.on_get.new.cache c.on_get.new.home) c.args.out.now c.on_get.new.out c.in-Get.line (get_row (room_in home) c.args.src)) c.requires.node.node (c.on_get.ensures.row c.args.proc.now))

pub returns-in-Get-clause-effect : goal.returns-in-Get-clause-effect
unfolding row_of
returns-in-Get-clause-effect g c =
    let home = c.args.home.now in
    let share = node_share c.args.proc.now c.args.cache.now home in
    subst (λ m. c.on_get.result.1 ≡ effect_of c.args.number c.args.proc.now.program c.args.proc.now.place (words_behind (msg_content m)) (row_at home.sizes c.args.number share (msg_line m) (row_of c.args.number (home_of home.sizes (msg_line m)) c.args.src (room_in home) (msg_content m)))) (sym c.in-Get.is)
    (subst (λ k. c.on_get.result.1 ≡ effect_of k c.args.proc.now.program c.args.proc.now.place [] (row_at home.sizes k share c.in-Get.line (get_row (room_in home) c.args.src))) c.requires.node.node (c.on_get.ensures.effect c.args.proc.now))

pub on_getx-requires-clause-below : goal.on_getx-requires-clause-below
on_getx-requires-clause-below g c =
    let home = c.args.home.now in
    let share = node_share c.args.proc.now c.args.cache.now home in
    let of = subst (IsMsgOf home.sizes) c.in-GetX.is c.requires.msg in
    of.0

pub on_getx-requires-clause-line : goal.on_getx-requires-clause-line
on_getx-requires-clause-line g c =
    let home = c.args.home.now in
    let share = node_share c.args.proc.now c.args.cache.now home in
    let met = subst (λ m. meets_row home.sizes c.args.number share c.args.src m ≡ true) c.in-GetX.is c.requires.met in
    getx-met c.args.number c.args.proc.now c.args.cache.now home c.requires.node c.args.src c.in-GetX.line met ∙ sym c.requires.node.node

pub on_getx-requires-clause-own : goal.on_getx-requires-clause-own
unfolding copy_of header_in
on_getx-requires-clause-own g c =
    let home = c.args.home.now in
    let share = node_share c.args.proc.now c.args.cache.now home in
    let met = subst (λ m. meets_row home.sizes c.args.number share c.args.src m ≡ true) c.in-GetX.is c.requires.met in
    λ idle. (want_on home.sizes c.args.proc.now.want c.in-GetX.line, subst (λ k. IsOwnLine k (line_share home.sizes share c.in-GetX.line)) (sym c.requires.node.node) (c.requires.node.own.lines c.in-GetX.line (getx-met c.args.number c.args.proc.now c.args.cache.now home c.requires.node c.args.src c.in-GetX.line met)))

pub returns-in-GetX-clause-row : goal.returns-in-GetX-clause-row
unfolding row_of
returns-in-GetX-clause-row g c =
    let home = c.args.home.now in
    let share = node_share c.args.proc.now c.args.cache.now home in
    subst (λ m. DoesRow home.sizes c.args.number share (node_share c.args.proc.now c.on_getx.new.cache c.on_getx.new.home) c.args.out.now c.on_getx.new.out (msg_line m) (row_of c.args.number (home_of home.sizes (msg_line m)) c.args.src (room_in home) (msg_content m))) (sym c.in-GetX.is)
    (subst (λ k. DoesRow home.sizes k share (node_share c.args.proc.now c.on_getx.new.cache c.on_getx.new.home) c.args.out.now c.on_getx.new.out c.in-GetX.line (getx_row (room_in home) c.args.src)) c.requires.node.node (c.on_getx.ensures.row c.args.proc.now))

pub returns-in-GetX-clause-effect : goal.returns-in-GetX-clause-effect
unfolding row_of
returns-in-GetX-clause-effect g c =
    let home = c.args.home.now in
    let share = node_share c.args.proc.now c.args.cache.now home in
    subst (λ m. c.no_effect-effect.result ≡ effect_of c.args.number c.args.proc.now.program c.args.proc.now.place (words_behind (msg_content m)) (row_at home.sizes c.args.number share (msg_line m) (row_of c.args.number (home_of home.sizes (msg_line m)) c.args.src (room_in home) (msg_content m)))) (sym c.in-GetX.is)
    (c.no_effect-effect.ensures ∙ effect-none c.args.number c.args.proc.now.program c.args.proc.now.place (words_behind (msg_content (msg.GetX c.in-GetX.line))) (row_at home.sizes c.args.number share (msg_line (msg.GetX c.in-GetX.line)) (row_of c.args.number (home_of home.sizes (msg_line (msg.GetX c.in-GetX.line))) c.args.src (room_in home) (msg_content (msg.GetX c.in-GetX.line)))) (getx-quiet (room_in home) c.args.src (line_share home.sizes share c.in-GetX.line)).0 (getx-quiet (room_in home) c.args.src (line_share home.sizes share c.in-GetX.line)).1)

pub on_wb-requires-clause-line : goal.on_wb-requires-clause-line
on_wb-requires-clause-line g c =
    let home = c.args.home.now in
    let share = node_share c.args.proc.now c.args.cache.now home in
    let met = subst (λ m. meets_row home.sizes c.args.number share c.args.src m ≡ true) c.in-Wb.is c.requires.met in
    wb-met c.args.number c.args.proc.now c.args.cache.now home c.requires.node c.args.src c.in-Wb.line c.in-Wb.body met ∙ sym c.requires.node.node

pub on_wb-requires-clause-width : goal.on_wb-requires-clause-width
on_wb-requires-clause-width g c =
    let home = c.args.home.now in
    let share = node_share c.args.proc.now c.args.cache.now home in
    let of = subst (IsMsgOf home.sizes) c.in-Wb.is c.requires.msg in
    of.1

pub returns-in-Wb-clause-row : goal.returns-in-Wb-clause-row
unfolding row_of wb_row
returns-in-Wb-clause-row g c =
    let home = c.args.home.now in
    let share = node_share c.args.proc.now c.args.cache.now home in
    subst (λ m. DoesRow home.sizes c.args.number share (node_share c.args.proc.now c.args.cache.now c.on_wb.new.home) c.args.out.now c.args.out.now (msg_line m) (row_of c.args.number (home_of home.sizes (msg_line m)) c.args.src (room_in home) (msg_content m))) (sym c.in-Wb.is)
    (record { share = subst (λ k. (node_share c.args.proc.now c.args.cache.now c.on_wb.new.home) ≡ (row_at home.sizes k share c.in-Wb.line (wb_row c.in-Wb.body)).share) c.requires.node.node (c.on_wb.ensures.share c.args.proc.now c.args.cache.now.copies c.cfg-cached.ensures.kept.held); sends = sent-none c.args.out.now })

pub returns-in-Wb-clause-effect : goal.returns-in-Wb-clause-effect
unfolding row_of wb_row
returns-in-Wb-clause-effect g c =
    let home = c.args.home.now in
    let share = node_share c.args.proc.now c.args.cache.now home in
    subst (λ m. c.no_effect-effect.result ≡ effect_of c.args.number c.args.proc.now.program c.args.proc.now.place (words_behind (msg_content m)) (row_at home.sizes c.args.number share (msg_line m) (row_of c.args.number (home_of home.sizes (msg_line m)) c.args.src (room_in home) (msg_content m)))) (sym c.in-Wb.is)
    (c.no_effect-effect.ensures ∙ effect-none c.args.number c.args.proc.now.program c.args.proc.now.place (words_behind (msg_content (msg.Wb c.in-Wb.line c.in-Wb.body))) (row_at home.sizes c.args.number share (msg_line (msg.Wb c.in-Wb.line c.in-Wb.body)) (row_of c.args.number (home_of home.sizes (msg_line (msg.Wb c.in-Wb.line c.in-Wb.body))) c.args.src (room_in home) (msg_content (msg.Wb c.in-Wb.line c.in-Wb.body)))) refl refl)

pub on_rpl-requires-clause-line : goal.on_rpl-requires-clause-line
on_rpl-requires-clause-line g c =
    let home = c.args.home.now in
    let share = node_share c.args.proc.now c.args.cache.now home in
    let met = subst (λ m. meets_row home.sizes c.args.number share c.args.src m ≡ true) c.in-Rpl.is c.requires.met in
    rpl-met c.args.number c.args.proc.now c.args.cache.now home c.requires.node c.args.src c.in-Rpl.line met ∙ sym c.requires.node.node

pub returns-in-Rpl-clause-row : goal.returns-in-Rpl-clause-row
unfolding row_of
returns-in-Rpl-clause-row g c =
    let home = c.args.home.now in
    let share = node_share c.args.proc.now c.args.cache.now home in
    subst (λ m. DoesRow home.sizes c.args.number share (node_share c.args.proc.now c.args.cache.now c.on_rpl.new.home) c.args.out.now c.args.out.now (msg_line m) (row_of c.args.number (home_of home.sizes (msg_line m)) c.args.src (room_in home) (msg_content m))) (sym c.in-Rpl.is)
    (record { share = subst (λ k. (node_share c.args.proc.now c.args.cache.now c.on_rpl.new.home) ≡ (row_at home.sizes k share c.in-Rpl.line (rpl_row c.args.src)).share) c.requires.node.node (c.on_rpl.ensures.share c.args.proc.now c.args.cache.now.copies c.cfg-cached.ensures.kept.held); sends = sent-none c.args.out.now ∙ ap (λ s. sent c.args.out.now (messages c.in-Rpl.line s)) (sym (rpl-sends c.args.src (line_share home.sizes share c.in-Rpl.line))) })

pub returns-in-Rpl-clause-effect : goal.returns-in-Rpl-clause-effect
unfolding row_of
returns-in-Rpl-clause-effect g c =
    let home = c.args.home.now in
    let share = node_share c.args.proc.now c.args.cache.now home in
    subst (λ m. c.no_effect-effect.result ≡ effect_of c.args.number c.args.proc.now.program c.args.proc.now.place (words_behind (msg_content m)) (row_at home.sizes c.args.number share (msg_line m) (row_of c.args.number (home_of home.sizes (msg_line m)) c.args.src (room_in home) (msg_content m)))) (sym c.in-Rpl.is)
    (c.no_effect-effect.ensures ∙ effect-none c.args.number c.args.proc.now.program c.args.proc.now.place (words_behind (msg_content (msg.Rpl c.in-Rpl.line))) (row_at home.sizes c.args.number share (msg_line (msg.Rpl c.in-Rpl.line)) (row_of c.args.number (home_of home.sizes (msg_line (msg.Rpl c.in-Rpl.line))) c.args.src (room_in home) (msg_content (msg.Rpl c.in-Rpl.line)))) (rpl-quiet c.args.src (line_share home.sizes share c.in-Rpl.line)).0 (rpl-quiet c.args.src (line_share home.sizes share c.in-Rpl.line)).1)

pub on_inv_ack-requires-clause-line : goal.on_inv_ack-requires-clause-line
on_inv_ack-requires-clause-line g c =
    let home = c.args.home.now in
    let share = node_share c.args.proc.now c.args.cache.now home in
    let met = subst (λ m. meets_row home.sizes c.args.number share c.args.src m ≡ true) c.in-InvAck.is c.requires.met in
    (inv_ack-met c.args.number c.args.proc.now c.args.cache.now home c.requires.node c.args.src c.in-InvAck.line met).0 ∙ sym c.requires.node.node

pub on_inv_ack-requires-clause-waits : goal.on_inv_ack-requires-clause-waits
on_inv_ack-requires-clause-waits g c =
    let home = c.args.home.now in
    let share = node_share c.args.proc.now c.args.cache.now home in
    let met = subst (λ m. meets_row home.sizes c.args.number share c.args.src m ≡ true) c.in-InvAck.is c.requires.met in
    (inv_ack-met c.args.number c.args.proc.now c.args.cache.now home c.requires.node c.args.src c.in-InvAck.line met).1

pub on_inv_ack-requires-clause-listed : goal.on_inv_ack-requires-clause-listed
on_inv_ack-requires-clause-listed g c =
    let home = c.args.home.now in
    let share = node_share c.args.proc.now c.args.cache.now home in
    let met = subst (λ m. meets_row home.sizes c.args.number share c.args.src m ≡ true) c.in-InvAck.is c.requires.met in
    (inv_ack-met c.args.number c.args.proc.now c.args.cache.now home c.requires.node c.args.src c.in-InvAck.line met).2

pub on_inv_ack-requires-clause-grantee : goal.on_inv_ack-requires-clause-grantee
unfolding header_in
on_inv_ack-requires-clause-grantee g c =
    let home = c.args.home.now in
    let share = node_share c.args.proc.now c.args.cache.now home in
    let met = subst (λ m. meets_row home.sizes c.args.number share c.args.src m ≡ true) c.in-InvAck.is c.requires.met in
    λ node is. subst (IsWaitIn home.sizes.nodes) is (c.requires.node.fits.headers c.in-InvAck.line).nodes.waits

pub on_inv_ack-requires-clause-own : goal.on_inv_ack-requires-clause-own
on_inv_ack-requires-clause-own g c =
    let home = c.args.home.now in
    let share = node_share c.args.proc.now c.args.cache.now home in
    subst (λ k. IsOwnPart home.charge home.sizes k c.args.proc.now.program share) (sym c.requires.node.node) c.requires.node.own

pub on_inv_ack-requires-clause-program : goal.on_inv_ack-requires-clause-program
on_inv_ack-requires-clause-program g c =
    let home = c.args.home.now in
    let share = node_share c.args.proc.now c.args.cache.now home in
    subst (λ k. IsProgramOf home.sizes k c.args.proc.now.program) (sym c.requires.node.node) c.requires.node.program

pub returns-in-InvAck-clause-row : goal.returns-in-InvAck-clause-row
unfolding row_of
returns-in-InvAck-clause-row g c =
    let home = c.args.home.now in
    let share = node_share c.args.proc.now c.args.cache.now home in
    subst (λ m. DoesRow home.sizes c.args.number share (node_share c.on_inv_ack.new.proc c.on_inv_ack.new.cache c.on_inv_ack.new.home) c.args.out.now c.on_inv_ack.new.out (msg_line m) (row_of c.args.number (home_of home.sizes (msg_line m)) c.args.src (room_in home) (msg_content m))) (sym c.in-InvAck.is)
    (subst (λ k. DoesRow home.sizes k share (node_share c.on_inv_ack.new.proc c.on_inv_ack.new.cache c.on_inv_ack.new.home) c.args.out.now c.on_inv_ack.new.out c.in-InvAck.line (inv_ack_row c.args.src)) c.requires.node.node c.on_inv_ack.ensures.row)

pub returns-in-InvAck-clause-effect : goal.returns-in-InvAck-clause-effect
unfolding row_of
returns-in-InvAck-clause-effect g c =
    let home = c.args.home.now in
    let share = node_share c.args.proc.now c.args.cache.now home in
    subst (λ m. c.on_inv_ack.result ≡ effect_of c.args.number c.args.proc.now.program c.args.proc.now.place (words_behind (msg_content m)) (row_at home.sizes c.args.number share (msg_line m) (row_of c.args.number (home_of home.sizes (msg_line m)) c.args.src (room_in home) (msg_content m)))) (sym c.in-InvAck.is)
    (subst (λ k. c.on_inv_ack.result ≡ effect_of k c.args.proc.now.program c.args.proc.now.place [] (row_at home.sizes k share c.in-InvAck.line (inv_ack_row c.args.src))) c.requires.node.node c.on_inv_ack.ensures.effect)

pub on_shwb-requires-clause-line : goal.on_shwb-requires-clause-line
on_shwb-requires-clause-line g c =
    let home = c.args.home.now in
    let share = node_share c.args.proc.now c.args.cache.now home in
    let met = subst (λ m. meets_row home.sizes c.args.number share c.args.src m ≡ true) c.in-ShWb.is c.requires.met in
    (shwb-met c.args.number c.args.proc.now c.args.cache.now home c.requires.node c.args.src c.in-ShWb.line c.in-ShWb.body met).0 ∙ sym c.requires.node.node

pub on_shwb-requires-clause-pending : goal.on_shwb-requires-clause-pending
on_shwb-requires-clause-pending g c =
    let home = c.args.home.now in
    let share = node_share c.args.proc.now c.args.cache.now home in
    let met = subst (λ m. meets_row home.sizes c.args.number share c.args.src m ≡ true) c.in-ShWb.is c.requires.met in
    (forward-facts c.args.number c.args.proc.now c.args.cache.now home c.requires.node c.args.src c.in-ShWb.line (shwb-met c.args.number c.args.proc.now c.args.cache.now home c.requires.node c.args.src c.in-ShWb.line c.in-ShWb.body met).0 (shwb-met c.args.number c.args.proc.now c.args.cache.now home c.requires.node c.args.src c.in-ShWb.line c.in-ShWb.body met).1).0

pub on_shwb-requires-clause-acks : goal.on_shwb-requires-clause-acks
on_shwb-requires-clause-acks g c =
    let home = c.args.home.now in
    let share = node_share c.args.proc.now c.args.cache.now home in
    let met = subst (λ m. meets_row home.sizes c.args.number share c.args.src m ≡ true) c.in-ShWb.is c.requires.met in
    (forward-facts c.args.number c.args.proc.now c.args.cache.now home c.requires.node c.args.src c.in-ShWb.line (shwb-met c.args.number c.args.proc.now c.args.cache.now home c.requires.node c.args.src c.in-ShWb.line c.in-ShWb.body met).0 (shwb-met c.args.number c.args.proc.now c.args.cache.now home c.requires.node c.args.src c.in-ShWb.line c.in-ShWb.body met).1).1

pub on_shwb-requires-clause-width : goal.on_shwb-requires-clause-width
on_shwb-requires-clause-width g c =
    let home = c.args.home.now in
    let share = node_share c.args.proc.now c.args.cache.now home in
    let of = subst (IsMsgOf home.sizes) c.in-ShWb.is c.requires.msg in
    of.1

pub returns-in-ShWb-clause-row : goal.returns-in-ShWb-clause-row
unfolding row_of shwb_row
returns-in-ShWb-clause-row g c =
    let home = c.args.home.now in
    let share = node_share c.args.proc.now c.args.cache.now home in
    subst (λ m. DoesRow home.sizes c.args.number share (node_share c.args.proc.now c.args.cache.now c.on_shwb.new.home) c.args.out.now c.args.out.now (msg_line m) (row_of c.args.number (home_of home.sizes (msg_line m)) c.args.src (room_in home) (msg_content m))) (sym c.in-ShWb.is)
    (record { share = subst (λ k. (node_share c.args.proc.now c.args.cache.now c.on_shwb.new.home) ≡ (row_at home.sizes k share c.in-ShWb.line (shwb_row c.in-ShWb.body)).share) c.requires.node.node (c.on_shwb.ensures.share c.args.proc.now c.args.cache.now.copies c.cfg-cached.ensures.kept.held); sends = sent-none c.args.out.now })

pub returns-in-ShWb-clause-effect : goal.returns-in-ShWb-clause-effect
unfolding row_of shwb_row
returns-in-ShWb-clause-effect g c =
    let home = c.args.home.now in
    let share = node_share c.args.proc.now c.args.cache.now home in
    subst (λ m. c.no_effect-effect.result ≡ effect_of c.args.number c.args.proc.now.program c.args.proc.now.place (words_behind (msg_content m)) (row_at home.sizes c.args.number share (msg_line m) (row_of c.args.number (home_of home.sizes (msg_line m)) c.args.src (room_in home) (msg_content m)))) (sym c.in-ShWb.is)
    (c.no_effect-effect.ensures ∙ effect-none c.args.number c.args.proc.now.program c.args.proc.now.place (words_behind (msg_content (msg.ShWb c.in-ShWb.line c.in-ShWb.body))) (row_at home.sizes c.args.number share (msg_line (msg.ShWb c.in-ShWb.line c.in-ShWb.body)) (row_of c.args.number (home_of home.sizes (msg_line (msg.ShWb c.in-ShWb.line c.in-ShWb.body))) c.args.src (room_in home) (msg_content (msg.ShWb c.in-ShWb.line c.in-ShWb.body)))) refl refl)

pub on_fack-requires-clause-line : goal.on_fack-requires-clause-line
on_fack-requires-clause-line g c =
    let home = c.args.home.now in
    let share = node_share c.args.proc.now c.args.cache.now home in
    let met = subst (λ m. meets_row home.sizes c.args.number share c.args.src m ≡ true) c.in-FAck.is c.requires.met in
    (fack-met c.args.number c.args.proc.now c.args.cache.now home c.requires.node c.args.src c.in-FAck.line met).0 ∙ sym c.requires.node.node

pub on_fack-requires-clause-pending : goal.on_fack-requires-clause-pending
on_fack-requires-clause-pending g c =
    let home = c.args.home.now in
    let share = node_share c.args.proc.now c.args.cache.now home in
    let met = subst (λ m. meets_row home.sizes c.args.number share c.args.src m ≡ true) c.in-FAck.is c.requires.met in
    (forward-facts c.args.number c.args.proc.now c.args.cache.now home c.requires.node c.args.src c.in-FAck.line (fack-met c.args.number c.args.proc.now c.args.cache.now home c.requires.node c.args.src c.in-FAck.line met).0 (fack-met c.args.number c.args.proc.now c.args.cache.now home c.requires.node c.args.src c.in-FAck.line met).1).0

pub on_fack-requires-clause-acks : goal.on_fack-requires-clause-acks
on_fack-requires-clause-acks g c =
    let home = c.args.home.now in
    let share = node_share c.args.proc.now c.args.cache.now home in
    let met = subst (λ m. meets_row home.sizes c.args.number share c.args.src m ≡ true) c.in-FAck.is c.requires.met in
    (forward-facts c.args.number c.args.proc.now c.args.cache.now home c.requires.node c.args.src c.in-FAck.line (fack-met c.args.number c.args.proc.now c.args.cache.now home c.requires.node c.args.src c.in-FAck.line met).0 (fack-met c.args.number c.args.proc.now c.args.cache.now home c.requires.node c.args.src c.in-FAck.line met).1).1

pub on_fack-requires-clause-requester : goal.on_fack-requires-clause-requester
on_fack-requires-clause-requester g c =
    let home = c.args.home.now in
    let share = node_share c.args.proc.now c.args.cache.now home in
    let met = subst (λ m. meets_row home.sizes c.args.number share c.args.src m ≡ true) c.in-FAck.is c.requires.met in
    (forward-facts c.args.number c.args.proc.now c.args.cache.now home c.requires.node c.args.src c.in-FAck.line (fack-met c.args.number c.args.proc.now c.args.cache.now home c.requires.node c.args.src c.in-FAck.line met).0 (fack-met c.args.number c.args.proc.now c.args.cache.now home c.requires.node c.args.src c.in-FAck.line met).1).2

pub returns-in-FAck-clause-row : goal.returns-in-FAck-clause-row
unfolding row_of fack_row
returns-in-FAck-clause-row g c =
    let home = c.args.home.now in
    let share = node_share c.args.proc.now c.args.cache.now home in
    subst (λ m. DoesRow home.sizes c.args.number share (node_share c.args.proc.now c.args.cache.now c.on_fack.new.home) c.args.out.now c.args.out.now (msg_line m) (row_of c.args.number (home_of home.sizes (msg_line m)) c.args.src (room_in home) (msg_content m))) (sym c.in-FAck.is)
    (record { share = subst (λ k. (node_share c.args.proc.now c.args.cache.now c.on_fack.new.home) ≡ (row_at home.sizes k share c.in-FAck.line fack_row).share) c.requires.node.node (c.on_fack.ensures.share c.args.proc.now c.args.cache.now.copies c.cfg-cached.ensures.kept.held); sends = sent-none c.args.out.now })

pub returns-in-FAck-clause-effect : goal.returns-in-FAck-clause-effect
unfolding row_of fack_row
returns-in-FAck-clause-effect g c =
    let home = c.args.home.now in
    let share = node_share c.args.proc.now c.args.cache.now home in
    subst (λ m. c.no_effect-effect.result ≡ effect_of c.args.number c.args.proc.now.program c.args.proc.now.place (words_behind (msg_content m)) (row_at home.sizes c.args.number share (msg_line m) (row_of c.args.number (home_of home.sizes (msg_line m)) c.args.src (room_in home) (msg_content m)))) (sym c.in-FAck.is)
    (c.no_effect-effect.ensures ∙ effect-none c.args.number c.args.proc.now.program c.args.proc.now.place (words_behind (msg_content (msg.FAck c.in-FAck.line))) (row_at home.sizes c.args.number share (msg_line (msg.FAck c.in-FAck.line)) (row_of c.args.number (home_of home.sizes (msg_line (msg.FAck c.in-FAck.line))) c.args.src (room_in home) (msg_content (msg.FAck c.in-FAck.line)))) refl refl)

pub on_nakc-requires-clause-line : goal.on_nakc-requires-clause-line
on_nakc-requires-clause-line g c =
    let home = c.args.home.now in
    let share = node_share c.args.proc.now c.args.cache.now home in
    let met = subst (λ m. meets_row home.sizes c.args.number share c.args.src m ≡ true) c.in-Nakc.is c.requires.met in
    (nakc-met c.args.number c.args.proc.now c.args.cache.now home c.requires.node c.args.src c.in-Nakc.line met).0 ∙ sym c.requires.node.node

pub on_nakc-requires-clause-pending : goal.on_nakc-requires-clause-pending
on_nakc-requires-clause-pending g c =
    let home = c.args.home.now in
    let share = node_share c.args.proc.now c.args.cache.now home in
    let met = subst (λ m. meets_row home.sizes c.args.number share c.args.src m ≡ true) c.in-Nakc.is c.requires.met in
    (forward-facts c.args.number c.args.proc.now c.args.cache.now home c.requires.node c.args.src c.in-Nakc.line (nakc-met c.args.number c.args.proc.now c.args.cache.now home c.requires.node c.args.src c.in-Nakc.line met).0 (nakc-met c.args.number c.args.proc.now c.args.cache.now home c.requires.node c.args.src c.in-Nakc.line met).1).0

pub on_nakc-requires-clause-acks : goal.on_nakc-requires-clause-acks
on_nakc-requires-clause-acks g c =
    let home = c.args.home.now in
    let share = node_share c.args.proc.now c.args.cache.now home in
    let met = subst (λ m. meets_row home.sizes c.args.number share c.args.src m ≡ true) c.in-Nakc.is c.requires.met in
    (forward-facts c.args.number c.args.proc.now c.args.cache.now home c.requires.node c.args.src c.in-Nakc.line (nakc-met c.args.number c.args.proc.now c.args.cache.now home c.requires.node c.args.src c.in-Nakc.line met).0 (nakc-met c.args.number c.args.proc.now c.args.cache.now home c.requires.node c.args.src c.in-Nakc.line met).1).1

pub on_nakc-requires-clause-requester : goal.on_nakc-requires-clause-requester
on_nakc-requires-clause-requester g c =
    let home = c.args.home.now in
    let share = node_share c.args.proc.now c.args.cache.now home in
    let met = subst (λ m. meets_row home.sizes c.args.number share c.args.src m ≡ true) c.in-Nakc.is c.requires.met in
    (forward-facts c.args.number c.args.proc.now c.args.cache.now home c.requires.node c.args.src c.in-Nakc.line (nakc-met c.args.number c.args.proc.now c.args.cache.now home c.requires.node c.args.src c.in-Nakc.line met).0 (nakc-met c.args.number c.args.proc.now c.args.cache.now home c.requires.node c.args.src c.in-Nakc.line met).1).2

pub returns-in-Nakc-clause-row : goal.returns-in-Nakc-clause-row
unfolding row_of nakc_row
returns-in-Nakc-clause-row g c =
    let home = c.args.home.now in
    let share = node_share c.args.proc.now c.args.cache.now home in
    subst (λ m. DoesRow home.sizes c.args.number share (node_share c.args.proc.now c.args.cache.now c.on_nakc.new.home) c.args.out.now c.args.out.now (msg_line m) (row_of c.args.number (home_of home.sizes (msg_line m)) c.args.src (room_in home) (msg_content m))) (sym c.in-Nakc.is)
    (record { share = subst (λ k. (node_share c.args.proc.now c.args.cache.now c.on_nakc.new.home) ≡ (row_at home.sizes k share c.in-Nakc.line nakc_row).share) c.requires.node.node (c.on_nakc.ensures.share c.args.proc.now c.args.cache.now.copies c.cfg-cached.ensures.kept.held); sends = sent-none c.args.out.now })

pub returns-in-Nakc-clause-effect : goal.returns-in-Nakc-clause-effect
unfolding row_of nakc_row
returns-in-Nakc-clause-effect g c =
    let home = c.args.home.now in
    let share = node_share c.args.proc.now c.args.cache.now home in
    subst (λ m. c.no_effect-effect.result ≡ effect_of c.args.number c.args.proc.now.program c.args.proc.now.place (words_behind (msg_content m)) (row_at home.sizes c.args.number share (msg_line m) (row_of c.args.number (home_of home.sizes (msg_line m)) c.args.src (room_in home) (msg_content m)))) (sym c.in-Nakc.is)
    (c.no_effect-effect.ensures ∙ effect-none c.args.number c.args.proc.now.program c.args.proc.now.place (words_behind (msg_content (msg.Nakc c.in-Nakc.line))) (row_at home.sizes c.args.number share (msg_line (msg.Nakc c.in-Nakc.line)) (row_of c.args.number (home_of home.sizes (msg_line (msg.Nakc c.in-Nakc.line))) c.args.src (room_in home) (msg_content (msg.Nakc c.in-Nakc.line)))) refl refl)

pub handle_away-requires-clause-apart : goal.handle_away-requires-clause-apart
handle_away-requires-clause-apart g c = none-for-home c.args.msg.now c.in_default.not-Get c.in_default.not-GetX c.in_default.not-Wb c.in_default.not-Rpl c.in_default.not-InvAck c.in_default.not-ShWb c.in_default.not-FAck c.in_default.not-Nakc
