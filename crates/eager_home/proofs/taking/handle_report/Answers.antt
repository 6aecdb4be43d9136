-- Each report of an owner does its row: the line waits for it, and no acknowledgement is due.
use Rattle.std.proofs.Common.{◌≡◌, true, refl, sym, ◌∙◌, subst}
use Rattle.op_model.specs.declared.messages.Msg.TheVariants as msg
use Rattle.op_model.specs.Messages.{msg_line, msg_content}
use Rattle.op_model.specs.MessageWords.{IsMsgOf, words_behind}
use Rattle.op_model.specs.Tables.Home.{on_shwb as shwb_row, on_fack as fack_row, on_nakc as nakc_row}
use Rattle.op_model.specs.Tables.Remote.{row_of as delayed_row_of}
use Rattle.eager_model.specs.Node.{meets_row}
use Rattle.eager_model.specs.Rows.{row_of}
use Rattle.dir_header.specs.HomeSides.{room_in}
use Rattle.node_share.specs.Parts.{row_at}
use Rattle.node_share.proofs.Public.{effect-none, sent-none}
use Rattle.magic_node.specs.Nodes.{node_share}
use Rattle.eager_part.proofs.Public.{fack-met, forward-facts, nakc-met, shwb-met}
use Rattle.eager_home.specs.Nodes.{row_met, told_of, DoesMessage}
use Rattle.eager_home.proofs.Handled.{none-reports}
use Rattle.eager_home.proofs.taking.handle_report.Goals as goal

pub on_shwb-requires-clause-line : goal.on_shwb-requires-clause-line
on_shwb-requires-clause-line g c =
    let home = c.args.home.now in
    let share = node_share c.args.proc.now c.args.cache.now home in
    let met = subst (λ m. meets_row home.sizes c.args.number share c.args.src m ≡ true) c.in-ShWb.is c.requires.met in
    (shwb-met home.sizes c.args.number c.args.proc.now.program share c.requires.node.own c.requires.node.fits c.in-ShWb.line c.args.src c.in-ShWb.body met).0 ∙ sym c.requires.node.node

pub on_shwb-requires-clause-pending : goal.on_shwb-requires-clause-pending
on_shwb-requires-clause-pending g c =
    let home = c.args.home.now in
    let share = node_share c.args.proc.now c.args.cache.now home in
    let met = subst (λ m. meets_row home.sizes c.args.number share c.args.src m ≡ true) c.in-ShWb.is c.requires.met in
    (forward-facts home.sizes c.args.number c.args.proc.now.program share c.requires.node.own c.requires.node.fits c.in-ShWb.line (shwb-met home.sizes c.args.number c.args.proc.now.program share c.requires.node.own c.requires.node.fits c.in-ShWb.line c.args.src c.in-ShWb.body met).0 (shwb-met home.sizes c.args.number c.args.proc.now.program share c.requires.node.own c.requires.node.fits c.in-ShWb.line c.args.src c.in-ShWb.body met).1).pending

pub on_shwb-requires-clause-acks : goal.on_shwb-requires-clause-acks
on_shwb-requires-clause-acks g c =
    let home = c.args.home.now in
    let share = node_share c.args.proc.now c.args.cache.now home in
    let met = subst (λ m. meets_row home.sizes c.args.number share c.args.src m ≡ true) c.in-ShWb.is c.requires.met in
    (forward-facts home.sizes c.args.number c.args.proc.now.program share c.requires.node.own c.requires.node.fits c.in-ShWb.line (shwb-met home.sizes c.args.number c.args.proc.now.program share c.requires.node.own c.requires.node.fits c.in-ShWb.line c.args.src c.in-ShWb.body met).0 (shwb-met home.sizes c.args.number c.args.proc.now.program share c.requires.node.own c.requires.node.fits c.in-ShWb.line c.args.src c.in-ShWb.body met).1).acks

pub on_shwb-requires-clause-width : goal.on_shwb-requires-clause-width
on_shwb-requires-clause-width g c =
    let home = c.args.home.now in
    let share = node_share c.args.proc.now c.args.cache.now home in
    let of = subst (IsMsgOf home.sizes) c.in-ShWb.is c.requires.msg in
    of.1

pub returns-in-ShWb-clause-row : goal.returns-in-ShWb-clause-row
unfolding row_of delayed_row_of shwb_row
returns-in-ShWb-clause-row g c =
    let home = c.args.home.now in
    let share = node_share c.args.proc.now c.args.cache.now home in
    subst (λ m. DoesMessage home.sizes c.args.number c.args.src (room_in home) m share (node_share c.args.proc.now c.args.cache.now c.on_shwb.new.home) c.args.out.now c.args.out.now) (sym c.in-ShWb.is)
    (record { share = subst (λ k. node_share c.args.proc.now c.args.cache.now c.on_shwb.new.home ≡ (row_at home.sizes k share c.in-ShWb.line (shwb_row c.in-ShWb.body)).share) c.requires.node.node (c.on_shwb.ensures.share c.args.proc.now c.args.cache.now.copies c.cfg-cached.ensures.kept.held); sends = sent-none c.args.out.now })

pub returns-in-ShWb-clause-effect : goal.returns-in-ShWb-clause-effect
unfolding row_of delayed_row_of shwb_row
returns-in-ShWb-clause-effect g c =
    let home = c.args.home.now in
    let share = node_share c.args.proc.now c.args.cache.now home in
    subst (λ m. c.no_effect-effect.result ≡ told_of home.sizes c.args.number c.args.src (room_in home) m c.args.proc.now.program share) (sym c.in-ShWb.is)
    (c.no_effect-effect.ensures ∙ effect-none c.args.number c.args.proc.now.program c.args.proc.now.place (words_behind (msg_content (msg.ShWb c.in-ShWb.line c.in-ShWb.body))) (row_at home.sizes c.args.number share (msg_line (msg.ShWb c.in-ShWb.line c.in-ShWb.body)) (row_met home.sizes c.args.number c.args.src (room_in home) (msg.ShWb c.in-ShWb.line c.in-ShWb.body))) refl refl)

pub on_fack-requires-clause-line : goal.on_fack-requires-clause-line
on_fack-requires-clause-line g c =
    let home = c.args.home.now in
    let share = node_share c.args.proc.now c.args.cache.now home in
    let met = subst (λ m. meets_row home.sizes c.args.number share c.args.src m ≡ true) c.in-FAck.is c.requires.met in
    (fack-met home.sizes c.args.number c.args.proc.now.program share c.requires.node.own c.requires.node.fits c.in-FAck.line c.args.src met).0 ∙ sym c.requires.node.node

pub on_fack-requires-clause-pending : goal.on_fack-requires-clause-pending
on_fack-requires-clause-pending g c =
    let home = c.args.home.now in
    let share = node_share c.args.proc.now c.args.cache.now home in
    let met = subst (λ m. meets_row home.sizes c.args.number share c.args.src m ≡ true) c.in-FAck.is c.requires.met in
    (forward-facts home.sizes c.args.number c.args.proc.now.program share c.requires.node.own c.requires.node.fits c.in-FAck.line (fack-met home.sizes c.args.number c.args.proc.now.program share c.requires.node.own c.requires.node.fits c.in-FAck.line c.args.src met).0 (fack-met home.sizes c.args.number c.args.proc.now.program share c.requires.node.own c.requires.node.fits c.in-FAck.line c.args.src met).1).pending

pub on_fack-requires-clause-acks : goal.on_fack-requires-clause-acks
on_fack-requires-clause-acks g c =
    let home = c.args.home.now in
    let share = node_share c.args.proc.now c.args.cache.now home in
    let met = subst (λ m. meets_row home.sizes c.args.number share c.args.src m ≡ true) c.in-FAck.is c.requires.met in
    (forward-facts home.sizes c.args.number c.args.proc.now.program share c.requires.node.own c.requires.node.fits c.in-FAck.line (fack-met home.sizes c.args.number c.args.proc.now.program share c.requires.node.own c.requires.node.fits c.in-FAck.line c.args.src met).0 (fack-met home.sizes c.args.number c.args.proc.now.program share c.requires.node.own c.requires.node.fits c.in-FAck.line c.args.src met).1).acks

pub on_fack-requires-clause-requester : goal.on_fack-requires-clause-requester
on_fack-requires-clause-requester g c =
    let home = c.args.home.now in
    let share = node_share c.args.proc.now c.args.cache.now home in
    let met = subst (λ m. meets_row home.sizes c.args.number share c.args.src m ≡ true) c.in-FAck.is c.requires.met in
    (forward-facts home.sizes c.args.number c.args.proc.now.program share c.requires.node.own c.requires.node.fits c.in-FAck.line (fack-met home.sizes c.args.number c.args.proc.now.program share c.requires.node.own c.requires.node.fits c.in-FAck.line c.args.src met).0 (fack-met home.sizes c.args.number c.args.proc.now.program share c.requires.node.own c.requires.node.fits c.in-FAck.line c.args.src met).1).requester

pub returns-in-FAck-clause-row : goal.returns-in-FAck-clause-row
unfolding row_of delayed_row_of fack_row
returns-in-FAck-clause-row g c =
    let home = c.args.home.now in
    let share = node_share c.args.proc.now c.args.cache.now home in
    subst (λ m. DoesMessage home.sizes c.args.number c.args.src (room_in home) m share (node_share c.args.proc.now c.args.cache.now c.on_fack.new.home) c.args.out.now c.args.out.now) (sym c.in-FAck.is)
    (record { share = subst (λ k. node_share c.args.proc.now c.args.cache.now c.on_fack.new.home ≡ (row_at home.sizes k share c.in-FAck.line (fack_row)).share) c.requires.node.node (c.on_fack.ensures.share c.args.proc.now c.args.cache.now.copies c.cfg-cached.ensures.kept.held); sends = sent-none c.args.out.now })

pub returns-in-FAck-clause-effect : goal.returns-in-FAck-clause-effect
unfolding row_of delayed_row_of fack_row
returns-in-FAck-clause-effect g c =
    let home = c.args.home.now in
    let share = node_share c.args.proc.now c.args.cache.now home in
    subst (λ m. c.no_effect-effect.result ≡ told_of home.sizes c.args.number c.args.src (room_in home) m c.args.proc.now.program share) (sym c.in-FAck.is)
    (c.no_effect-effect.ensures ∙ effect-none c.args.number c.args.proc.now.program c.args.proc.now.place (words_behind (msg_content (msg.FAck c.in-FAck.line))) (row_at home.sizes c.args.number share (msg_line (msg.FAck c.in-FAck.line)) (row_met home.sizes c.args.number c.args.src (room_in home) (msg.FAck c.in-FAck.line))) refl refl)

pub on_nakc-requires-clause-line : goal.on_nakc-requires-clause-line
on_nakc-requires-clause-line g c =
    let home = c.args.home.now in
    let share = node_share c.args.proc.now c.args.cache.now home in
    let met = subst (λ m. meets_row home.sizes c.args.number share c.args.src m ≡ true) c.in-Nakc.is c.requires.met in
    (nakc-met home.sizes c.args.number c.args.proc.now.program share c.requires.node.own c.requires.node.fits c.in-Nakc.line c.args.src met).0 ∙ sym c.requires.node.node

pub on_nakc-requires-clause-pending : goal.on_nakc-requires-clause-pending
on_nakc-requires-clause-pending g c =
    let home = c.args.home.now in
    let share = node_share c.args.proc.now c.args.cache.now home in
    let met = subst (λ m. meets_row home.sizes c.args.number share c.args.src m ≡ true) c.in-Nakc.is c.requires.met in
    (forward-facts home.sizes c.args.number c.args.proc.now.program share c.requires.node.own c.requires.node.fits c.in-Nakc.line (nakc-met home.sizes c.args.number c.args.proc.now.program share c.requires.node.own c.requires.node.fits c.in-Nakc.line c.args.src met).0 (nakc-met home.sizes c.args.number c.args.proc.now.program share c.requires.node.own c.requires.node.fits c.in-Nakc.line c.args.src met).1).pending

pub on_nakc-requires-clause-acks : goal.on_nakc-requires-clause-acks
on_nakc-requires-clause-acks g c =
    let home = c.args.home.now in
    let share = node_share c.args.proc.now c.args.cache.now home in
    let met = subst (λ m. meets_row home.sizes c.args.number share c.args.src m ≡ true) c.in-Nakc.is c.requires.met in
    (forward-facts home.sizes c.args.number c.args.proc.now.program share c.requires.node.own c.requires.node.fits c.in-Nakc.line (nakc-met home.sizes c.args.number c.args.proc.now.program share c.requires.node.own c.requires.node.fits c.in-Nakc.line c.args.src met).0 (nakc-met home.sizes c.args.number c.args.proc.now.program share c.requires.node.own c.requires.node.fits c.in-Nakc.line c.args.src met).1).acks

pub on_nakc-requires-clause-requester : goal.on_nakc-requires-clause-requester
on_nakc-requires-clause-requester g c =
    let home = c.args.home.now in
    let share = node_share c.args.proc.now c.args.cache.now home in
    let met = subst (λ m. meets_row home.sizes c.args.number share c.args.src m ≡ true) c.in-Nakc.is c.requires.met in
    (forward-facts home.sizes c.args.number c.args.proc.now.program share c.requires.node.own c.requires.node.fits c.in-Nakc.line (nakc-met home.sizes c.args.number c.args.proc.now.program share c.requires.node.own c.requires.node.fits c.in-Nakc.line c.args.src met).0 (nakc-met home.sizes c.args.number c.args.proc.now.program share c.requires.node.own c.requires.node.fits c.in-Nakc.line c.args.src met).1).requester

pub returns-in-Nakc-clause-row : goal.returns-in-Nakc-clause-row
unfolding row_of delayed_row_of nakc_row
returns-in-Nakc-clause-row g c =
    let home = c.args.home.now in
    let share = node_share c.args.proc.now c.args.cache.now home in
    subst (λ m. DoesMessage home.sizes c.args.number c.args.src (room_in home) m share (node_share c.args.proc.now c.args.cache.now c.on_nakc.new.home) c.args.out.now c.args.out.now) (sym c.in-Nakc.is)
    (record { share = subst (λ k. node_share c.args.proc.now c.args.cache.now c.on_nakc.new.home ≡ (row_at home.sizes k share c.in-Nakc.line (nakc_row)).share) c.requires.node.node (c.on_nakc.ensures.share c.args.proc.now c.args.cache.now.copies c.cfg-cached.ensures.kept.held); sends = sent-none c.args.out.now })

pub returns-in-Nakc-clause-effect : goal.returns-in-Nakc-clause-effect
unfolding row_of delayed_row_of nakc_row
returns-in-Nakc-clause-effect g c =
    let home = c.args.home.now in
    let share = node_share c.args.proc.now c.args.cache.now home in
    subst (λ m. c.no_effect-effect.result ≡ told_of home.sizes c.args.number c.args.src (room_in home) m c.args.proc.now.program share) (sym c.in-Nakc.is)
    (c.no_effect-effect.ensures ∙ effect-none c.args.number c.args.proc.now.program c.args.proc.now.place (words_behind (msg_content (msg.Nakc c.in-Nakc.line))) (row_at home.sizes c.args.number share (msg_line (msg.Nakc c.in-Nakc.line)) (row_met home.sizes c.args.number c.args.src (room_in home) (msg.Nakc c.in-Nakc.line))) refl refl)

pub handle_away-requires-clause-apart : goal.handle_away-requires-clause-apart
handle_away-requires-clause-apart g c = none-reports c.args.msg.now c.requires.apart c.in_default.not-ShWb c.in_default.not-FAck c.in_default.not-Nakc
