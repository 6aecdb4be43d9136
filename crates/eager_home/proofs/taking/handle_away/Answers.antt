-- Each message that the home of its line needn't take does its row.
use Rattle.std.proofs.Common.{◌≡◌, ◌<◌, ◌==◌, true, [], refl, sym, ap, ◌∙◌, subst}
use Rattle.line_map.specs.Sizes.{all_lines, all_words, home_of}
use Rattle.op_model.specs.declared.messages.Msg.TheVariants as msg
use Rattle.op_model.specs.Messages.{msg_line, msg_content}
use Rattle.op_model.specs.MessageWords.{IsMsgOf, words_behind}
use Rattle.op_model.specs.OwnPart.{IsOutstanding}
use Rattle.op_model.specs.Shares.{line_share}
use Rattle.op_model.specs.Events.Node.{messages}
use Rattle.op_model.specs.Tables.Remote.{row_of as delayed_row_of, on_fwd_get as fwd_get_row, on_fwd_getx as fwd_getx_row, on_inv as inv_row, on_nak as nak_row}
use Rattle.eager_model.specs.Node.{meets_row}
use Rattle.eager_model.specs.Rows.{row_of}
use Rattle.cpu_cache.specs.Effects.{effect_of}
use Rattle.dir_header.specs.HomeSides.{room_in}
use Rattle.node_share.specs.Parts.{row_at, sent, AreHeaders, DoesRow}
use Rattle.node_share.proofs.Public.{effect-none, home-headers, sent-none}
use Rattle.magic_node.specs.Nodes.{node_share}
use Rattle.magic_node.proofs.Public.{nak-does, none-away, put-sends, putx-sends, some-wanted}
use Rattle.eager_part.proofs.Public.{forward-facts, fwd_get-met, fwd_getx-met, inv-met, nak-met, put-met}
use Rattle.eager_part.proofs.Public.{putx-met}
use Rattle.eager_home.specs.Nodes.{row_met, told_of, DoesMessage}
use Rattle.eager_home.proofs.taking.handle_away.Goals as goal

pub on_fwd_get-requires-clause-below : goal.on_fwd_get-requires-clause-below
on_fwd_get-requires-clause-below g c =
    let home = c.args.home.now in
    let share = node_share c.args.proc.now c.args.cache.now home in
    let of = subst (IsMsgOf home.sizes) c.in-FwdGet.is c.requires.msg in
    subst (λ z. c.in-FwdGet.line < all_lines z) (sym (c.cfg-cfg.ensures.value ∙ c.requires.node.same)) of.0

pub on_fwd_get-requires-clause-away : goal.on_fwd_get-requires-clause-away
on_fwd_get-requires-clause-away g c =
    let home = c.args.home.now in
    let share = node_share c.args.proc.now c.args.cache.now home in
    let met = subst (λ m. meets_row home.sizes c.args.number share c.args.src m ≡ true) c.in-FwdGet.is c.requires.met in
    λ e. fwd_get-met home.sizes c.args.number c.args.proc.now.program share c.requires.node.own c.requires.node.fits c.in-FwdGet.line c.args.src c.in-FwdGet.req met (ap (λ z. home_of z c.in-FwdGet.line) (sym (c.cfg-cfg.ensures.value ∙ c.requires.node.same)) ∙ e)

pub returns-in-FwdGet-clause-row : goal.returns-in-FwdGet-clause-row
unfolding row_of delayed_row_of
returns-in-FwdGet-clause-row g c =
    let home = c.args.home.now in
    let share = node_share c.args.proc.now c.args.cache.now home in
    subst (λ m. DoesMessage home.sizes c.args.number c.args.src (room_in home) m share (node_share c.args.proc.now c.on_fwd_get.new.cache home) c.args.out.now c.on_fwd_get.new.out) (sym c.in-FwdGet.is)
    (subst (λ z. DoesRow z c.args.number share (node_share c.args.proc.now c.on_fwd_get.new.cache home) c.args.out.now c.on_fwd_get.new.out c.in-FwdGet.line (fwd_get_row (home_of z c.in-FwdGet.line) c.in-FwdGet.req)) (c.cfg-cfg.ensures.value ∙ c.requires.node.same) (c.on_fwd_get.ensures.row c.args.proc.now home.headers))

pub returns-in-FwdGet-clause-effect : goal.returns-in-FwdGet-clause-effect
unfolding row_of delayed_row_of
returns-in-FwdGet-clause-effect g c =
    let home = c.args.home.now in
    let share = node_share c.args.proc.now c.args.cache.now home in
    subst (λ m. c.on_fwd_get.result ≡ told_of home.sizes c.args.number c.args.src (room_in home) m c.args.proc.now.program share) (sym c.in-FwdGet.is)
    (subst (λ z. c.on_fwd_get.result ≡ effect_of c.args.number c.args.proc.now.program c.args.proc.now.place [] (row_at z c.args.number share c.in-FwdGet.line (fwd_get_row (home_of z c.in-FwdGet.line) c.in-FwdGet.req))) (c.cfg-cfg.ensures.value ∙ c.requires.node.same) (c.on_fwd_get.ensures.effect c.args.proc.now home.headers))

pub on_fwd_getx-requires-clause-below : goal.on_fwd_getx-requires-clause-below
on_fwd_getx-requires-clause-below g c =
    let home = c.args.home.now in
    let share = node_share c.args.proc.now c.args.cache.now home in
    let of = subst (IsMsgOf home.sizes) c.in-FwdGetX.is c.requires.msg in
    subst (λ z. c.in-FwdGetX.line < all_lines z) (sym (c.cfg-cfg.ensures.value ∙ c.requires.node.same)) of.0

pub on_fwd_getx-requires-clause-away : goal.on_fwd_getx-requires-clause-away
on_fwd_getx-requires-clause-away g c =
    let home = c.args.home.now in
    let share = node_share c.args.proc.now c.args.cache.now home in
    let met = subst (λ m. meets_row home.sizes c.args.number share c.args.src m ≡ true) c.in-FwdGetX.is c.requires.met in
    λ e. fwd_getx-met home.sizes c.args.number c.args.proc.now.program share c.requires.node.own c.requires.node.fits c.in-FwdGetX.line c.args.src c.in-FwdGetX.req met (ap (λ z. home_of z c.in-FwdGetX.line) (sym (c.cfg-cfg.ensures.value ∙ c.requires.node.same)) ∙ e)

pub returns-in-FwdGetX-clause-row : goal.returns-in-FwdGetX-clause-row
unfolding row_of delayed_row_of
returns-in-FwdGetX-clause-row g c =
    let home = c.args.home.now in
    let share = node_share c.args.proc.now c.args.cache.now home in
    subst (λ m. DoesMessage home.sizes c.args.number c.args.src (room_in home) m share (node_share c.args.proc.now c.on_fwd_getx.new.cache home) c.args.out.now c.on_fwd_getx.new.out) (sym c.in-FwdGetX.is)
    (subst (λ z. DoesRow z c.args.number share (node_share c.args.proc.now c.on_fwd_getx.new.cache home) c.args.out.now c.on_fwd_getx.new.out c.in-FwdGetX.line (fwd_getx_row (home_of z c.in-FwdGetX.line) c.in-FwdGetX.req)) (c.cfg-cfg.ensures.value ∙ c.requires.node.same) (c.on_fwd_getx.ensures.row c.args.proc.now home.headers))

pub returns-in-FwdGetX-clause-effect : goal.returns-in-FwdGetX-clause-effect
unfolding row_of delayed_row_of
returns-in-FwdGetX-clause-effect g c =
    let home = c.args.home.now in
    let share = node_share c.args.proc.now c.args.cache.now home in
    subst (λ m. c.on_fwd_getx.result ≡ told_of home.sizes c.args.number c.args.src (room_in home) m c.args.proc.now.program share) (sym c.in-FwdGetX.is)
    (subst (λ z. c.on_fwd_getx.result ≡ effect_of c.args.number c.args.proc.now.program c.args.proc.now.place [] (row_at z c.args.number share c.in-FwdGetX.line (fwd_getx_row (home_of z c.in-FwdGetX.line) c.in-FwdGetX.req))) (c.cfg-cfg.ensures.value ∙ c.requires.node.same) (c.on_fwd_getx.ensures.effect c.args.proc.now home.headers))

pub on_inv-requires-clause-below : goal.on_inv-requires-clause-below
on_inv-requires-clause-below g c =
    let home = c.args.home.now in
    let share = node_share c.args.proc.now c.args.cache.now home in
    let of = subst (IsMsgOf home.sizes) c.in-Inv.is c.requires.msg in
    subst (λ z. c.in-Inv.line < all_lines z) (sym (c.cfg-cfg.ensures.value ∙ c.requires.node.same)) of.0

pub on_inv-requires-clause-words : goal.on_inv-requires-clause-words
on_inv-requires-clause-words g c =
    let home = c.args.home.now in
    let share = node_share c.args.proc.now c.args.cache.now home in
    λ want is. subst (λ z. want.op.word < all_words z) (sym (c.cfg-cfg.ensures.value ∙ c.requires.node.same)) (c.requires.node.program c.args.proc.now.place want.op (subst (IsOutstanding home.sizes c.args.number c.args.proc.now.program share) is c.requires.node.own.outstanding).0).word

pub returns-in-Inv-clause-row : goal.returns-in-Inv-clause-row
unfolding row_of delayed_row_of
returns-in-Inv-clause-row g c =
    let home = c.args.home.now in
    let share = node_share c.args.proc.now c.args.cache.now home in
    let met = subst (λ m. meets_row home.sizes c.args.number share c.args.src m ≡ true) c.in-Inv.is c.requires.met in
    subst (λ m. DoesMessage home.sizes c.args.number c.args.src (room_in home) m share (node_share c.on_inv.new.proc c.on_inv.new.cache home) c.args.out.now c.on_inv.new.out) (sym c.in-Inv.is)
    (subst (λ z. DoesRow z c.args.number share (node_share c.on_inv.new.proc c.on_inv.new.cache home) c.args.out.now c.on_inv.new.out c.in-Inv.line (inv_row (home_of z c.in-Inv.line))) (c.cfg-cfg.ensures.value ∙ c.requires.node.same) (c.on_inv.ensures.row c.args.number home.headers (λ e. inv-met home.sizes c.args.number c.args.proc.now.program share c.requires.node.own c.requires.node.fits c.in-Inv.line c.args.src met (ap (λ z. home_of z c.in-Inv.line) (sym (c.cfg-cfg.ensures.value ∙ c.requires.node.same)) ∙ e))))

pub returns-in-Inv-clause-effect : goal.returns-in-Inv-clause-effect
unfolding row_of delayed_row_of inv_row
returns-in-Inv-clause-effect g c =
    let home = c.args.home.now in
    let share = node_share c.args.proc.now c.args.cache.now home in
    subst (λ m. c.no_effect-effect.result ≡ told_of home.sizes c.args.number c.args.src (room_in home) m c.args.proc.now.program share) (sym c.in-Inv.is)
    (c.no_effect-effect.ensures ∙ effect-none c.args.number c.args.proc.now.program c.args.proc.now.place (words_behind (msg_content (msg.Inv c.in-Inv.line))) (row_at home.sizes c.args.number share (msg_line (msg.Inv c.in-Inv.line)) (row_met home.sizes c.args.number c.args.src (room_in home) (msg.Inv c.in-Inv.line))) refl refl)

pub on_put-requires-clause-below : goal.on_put-requires-clause-below
on_put-requires-clause-below g c =
    let home = c.args.home.now in
    let share = node_share c.args.proc.now c.args.cache.now home in
    let of = subst (IsMsgOf home.sizes) c.in-Put.is c.requires.msg in
    of.0

pub on_put-requires-clause-width : goal.on_put-requires-clause-width
on_put-requires-clause-width g c =
    let home = c.args.home.now in
    let share = node_share c.args.proc.now c.args.cache.now home in
    let of = subst (IsMsgOf home.sizes) c.in-Put.is c.requires.msg in
    of.1

pub on_put-requires-clause-waits : goal.on_put-requires-clause-waits
on_put-requires-clause-waits g c =
    let home = c.args.home.now in
    let share = node_share c.args.proc.now c.args.cache.now home in
    let met = subst (λ m. meets_row home.sizes c.args.number share c.args.src m ≡ true) c.in-Put.is c.requires.met in
    (put-met home.sizes c.args.number c.args.proc.now.program share c.requires.node.own c.requires.node.fits c.in-Put.line c.args.src c.in-Put.body met).0

pub on_put-requires-clause-alone : goal.on_put-requires-clause-alone
on_put-requires-clause-alone g c =
    let home = c.args.home.now in
    let share = node_share c.args.proc.now c.args.cache.now home in
    let met = subst (λ m. meets_row home.sizes c.args.number share c.args.src m ≡ true) c.in-Put.is c.requires.met in
    (put-met home.sizes c.args.number c.args.proc.now.program share c.requires.node.own c.requires.node.fits c.in-Put.line c.args.src c.in-Put.body met).1

pub on_put-requires-clause-pending : goal.on_put-requires-clause-pending
on_put-requires-clause-pending g c =
    let home = c.args.home.now in
    let share = node_share c.args.proc.now c.args.cache.now home in
    let met = subst (λ m. meets_row home.sizes c.args.number share c.args.src m ≡ true) c.in-Put.is c.requires.met in
    λ own. (forward-facts home.sizes c.args.number c.args.proc.now.program share c.requires.node.own c.requires.node.fits c.in-Put.line own ((put-met home.sizes c.args.number c.args.proc.now.program share c.requires.node.own c.requires.node.fits c.in-Put.line c.args.src c.in-Put.body met).2 own)).pending

pub on_put-requires-clause-acks : goal.on_put-requires-clause-acks
on_put-requires-clause-acks g c =
    let home = c.args.home.now in
    let share = node_share c.args.proc.now c.args.cache.now home in
    let met = subst (λ m. meets_row home.sizes c.args.number share c.args.src m ≡ true) c.in-Put.is c.requires.met in
    λ own. (forward-facts home.sizes c.args.number c.args.proc.now.program share c.requires.node.own c.requires.node.fits c.in-Put.line own ((put-met home.sizes c.args.number c.args.proc.now.program share c.requires.node.own c.requires.node.fits c.in-Put.line c.args.src c.in-Put.body met).2 own)).acks

pub returns-in-Put-clause-row : goal.returns-in-Put-clause-row
unfolding row_of delayed_row_of
returns-in-Put-clause-row g c =
    let home = c.args.home.now in
    let share = node_share c.args.proc.now c.args.cache.now home in
    subst (λ m. DoesMessage home.sizes c.args.number c.args.src (room_in home) m share (node_share c.on_put.new.proc c.on_put.new.cache c.on_put.new.home) c.args.out.now c.args.out.now) (sym c.in-Put.is)
    (record { share = c.on_put.ensures.share; sends = sent-none c.args.out.now ∙ ap (λ s. sent c.args.out.now (messages c.in-Put.line s)) (sym (put-sends (c.args.number == home_of home.sizes c.in-Put.line) c.in-Put.body (line_share home.sizes share c.in-Put.line))) })

pub returns-in-Put-clause-effect : goal.returns-in-Put-clause-effect
unfolding row_of delayed_row_of
returns-in-Put-clause-effect g c =
    let home = c.args.home.now in
    let share = node_share c.args.proc.now c.args.cache.now home in
    subst (λ m. c.on_put.result ≡ told_of home.sizes c.args.number c.args.src (room_in home) m c.args.proc.now.program share) (sym c.in-Put.is)
    (c.on_put.ensures.effect)

pub on_putx-requires-clause-below : goal.on_putx-requires-clause-below
on_putx-requires-clause-below g c =
    let home = c.args.home.now in
    let share = node_share c.args.proc.now c.args.cache.now home in
    let of = subst (IsMsgOf home.sizes) c.in-PutX.is c.requires.msg in
    of.0

pub on_putx-requires-clause-width : goal.on_putx-requires-clause-width
on_putx-requires-clause-width g c =
    let home = c.args.home.now in
    let share = node_share c.args.proc.now c.args.cache.now home in
    let of = subst (IsMsgOf home.sizes) c.in-PutX.is c.requires.msg in
    of.1

pub on_putx-requires-clause-waits : goal.on_putx-requires-clause-waits
on_putx-requires-clause-waits g c =
    let home = c.args.home.now in
    let share = node_share c.args.proc.now c.args.cache.now home in
    let met = subst (λ m. meets_row home.sizes c.args.number share c.args.src m ≡ true) c.in-PutX.is c.requires.met in
    (putx-met home.sizes c.args.number c.args.proc.now.program share c.requires.node.own c.requires.node.fits c.in-PutX.line c.args.src c.in-PutX.body met).0

pub on_putx-requires-clause-alone : goal.on_putx-requires-clause-alone
on_putx-requires-clause-alone g c =
    let home = c.args.home.now in
    let share = node_share c.args.proc.now c.args.cache.now home in
    let met = subst (λ m. meets_row home.sizes c.args.number share c.args.src m ≡ true) c.in-PutX.is c.requires.met in
    (putx-met home.sizes c.args.number c.args.proc.now.program share c.requires.node.own c.requires.node.fits c.in-PutX.line c.args.src c.in-PutX.body met).1

pub on_putx-requires-clause-pending : goal.on_putx-requires-clause-pending
on_putx-requires-clause-pending g c =
    let home = c.args.home.now in
    let share = node_share c.args.proc.now c.args.cache.now home in
    let met = subst (λ m. meets_row home.sizes c.args.number share c.args.src m ≡ true) c.in-PutX.is c.requires.met in
    λ own. (forward-facts home.sizes c.args.number c.args.proc.now.program share c.requires.node.own c.requires.node.fits c.in-PutX.line own ((putx-met home.sizes c.args.number c.args.proc.now.program share c.requires.node.own c.requires.node.fits c.in-PutX.line c.args.src c.in-PutX.body met).2 own)).pending

pub on_putx-requires-clause-acks : goal.on_putx-requires-clause-acks
on_putx-requires-clause-acks g c =
    let home = c.args.home.now in
    let share = node_share c.args.proc.now c.args.cache.now home in
    let met = subst (λ m. meets_row home.sizes c.args.number share c.args.src m ≡ true) c.in-PutX.is c.requires.met in
    λ own. (forward-facts home.sizes c.args.number c.args.proc.now.program share c.requires.node.own c.requires.node.fits c.in-PutX.line own ((putx-met home.sizes c.args.number c.args.proc.now.program share c.requires.node.own c.requires.node.fits c.in-PutX.line c.args.src c.in-PutX.body met).2 own)).acks

pub returns-in-PutX-clause-row : goal.returns-in-PutX-clause-row
unfolding row_of delayed_row_of
returns-in-PutX-clause-row g c =
    let home = c.args.home.now in
    let share = node_share c.args.proc.now c.args.cache.now home in
    subst (λ m. DoesMessage home.sizes c.args.number c.args.src (room_in home) m share (node_share c.on_putx.new.proc c.on_putx.new.cache c.on_putx.new.home) c.args.out.now c.args.out.now) (sym c.in-PutX.is)
    (record { share = c.on_putx.ensures.share; sends = sent-none c.args.out.now ∙ ap (λ s. sent c.args.out.now (messages c.in-PutX.line s)) (sym (putx-sends (c.args.number == home_of home.sizes c.in-PutX.line) c.in-PutX.body (line_share home.sizes share c.in-PutX.line))) })

pub returns-in-PutX-clause-effect : goal.returns-in-PutX-clause-effect
unfolding row_of delayed_row_of
returns-in-PutX-clause-effect g c =
    let home = c.args.home.now in
    let share = node_share c.args.proc.now c.args.cache.now home in
    subst (λ m. c.on_putx.result ≡ told_of home.sizes c.args.number c.args.src (room_in home) m c.args.proc.now.program share) (sym c.in-PutX.is)
    (c.on_putx.ensures.effect)

pub on_nak-requires : goal.on_nak-requires
on_nak-requires g c =
    let home = c.args.home.now in
    let share = node_share c.args.proc.now c.args.cache.now home in
    let met = subst (λ m. meets_row home.sizes c.args.number share c.args.src m ≡ true) c.in-Nak.is c.requires.met in
    some-wanted home.sizes c.args.proc.now.want c.in-Nak.line (nak-met home.sizes c.args.number c.args.proc.now.program share c.requires.node.own c.requires.node.fits c.in-Nak.line c.args.src c.in-Nak.cause met)

pub returns-in-Nak-clause-row : goal.returns-in-Nak-clause-row
unfolding row_of delayed_row_of
returns-in-Nak-clause-row g c =
    let home = c.args.home.now in
    let share = node_share c.args.proc.now c.args.cache.now home in
    let met = subst (λ m. meets_row home.sizes c.args.number share c.args.src m ≡ true) c.in-Nak.is c.requires.met in
    subst (λ m. DoesMessage home.sizes c.args.number c.args.src (room_in home) m share (node_share c.on_nak.new.proc c.args.cache.now home) c.args.out.now c.args.out.now) (sym c.in-Nak.is)
    (nak-does home.sizes c.args.number c.in-Nak.line c.args.proc.now c.on_nak.new.proc c.args.cache.now.copies home.headers c.args.out.now c.cfg-cfg.ensures.kept.held (subst (λ k. AreHeaders home.sizes k home.headers) c.requires.node.node (home-headers (g.D.Sharers.directory home.dir) home c.cfg-kept.ensures.kept)) (nak-met home.sizes c.args.number c.args.proc.now.program share c.requires.node.own c.requires.node.fits c.in-Nak.line c.args.src c.in-Nak.cause met) c.on_nak.ensures)

pub returns-in-Nak-clause-effect : goal.returns-in-Nak-clause-effect
unfolding row_of delayed_row_of nak_row
returns-in-Nak-clause-effect g c =
    let home = c.args.home.now in
    let share = node_share c.args.proc.now c.args.cache.now home in
    subst (λ m. c.no_effect-effect.result ≡ told_of home.sizes c.args.number c.args.src (room_in home) m c.args.proc.now.program share) (sym c.in-Nak.is)
    (c.no_effect-effect.ensures ∙ effect-none c.args.number c.args.proc.now.program c.args.proc.now.place (words_behind (msg_content (msg.Nak c.in-Nak.line c.in-Nak.cause))) (row_at home.sizes c.args.number share (msg_line (msg.Nak c.in-Nak.line c.in-Nak.cause)) (row_met home.sizes c.args.number c.args.src (room_in home) (msg.Nak c.in-Nak.line c.in-Nak.cause))) refl refl)

pub unreachable-unreachable : goal.unreachable-unreachable
unreachable-unreachable g c = none-away c.args.msg.now c.requires.apart c.in_default.not-FwdGet c.in_default.not-FwdGetX c.in_default.not-Inv c.in_default.not-Put c.in_default.not-PutX c.in_default.not-Nak
