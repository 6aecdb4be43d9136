-- The first cause why a message isn't taken.
use Rattle.std.proofs.Common.{◌≡◌, sym, ap, ◌∙◌}
use Rattle.op_model.specs.Messages.{msg_content}
use Rattle.op_model.specs.MessageWords.{words_behind}
use Rattle.op_model.specs.Events.Node.{TakeFrom, local, permit}
use Rattle.magic_node.specs.Nodes.{node_share}
use Rattle.magic_node.proofs.Taken.{missing, unasked, unfit, may-none, may-victim}
use Rattle.magic_node.proofs.taking.can_take_on.Goals as goal

pub returns-then-asked : goal.returns-then-asked
returns-then-asked g c =
    let home = c.args.home.now in
    let share = node_share c.args.proc.now c.args.cache.now home in
    sym (ap (λ v. permit (local home.charge home.sizes c.args.number c.args.proc.now.program share (TakeFrom c.args.src c.args.msg.now v))) c.in_default.is ∙ ap permit (missing home.charge home.sizes c.args.number c.args.proc.now.program c.args.proc.now.place (words_behind (msg_content c.args.msg.now)) share c.args.src c.args.msg.now (sym c.asks-asked.ensures ∙ c.if-asked.true)))

pub returns-in_default : goal.returns-in_default
returns-in_default g c =
    let home = c.args.home.now in
    let share = node_share c.args.proc.now c.args.cache.now home in
    may-none home.charge home.sizes c.args.number c.args.proc.now.program c.args.proc.now.place (words_behind (msg_content c.args.msg.now)) share c.args.src c.args.msg.now (sym c.asks-asked.ensures ∙ c.if-asked.false) ∙ sym (ap (λ v. permit (local home.charge home.sizes c.args.number c.args.proc.now.program share (TakeFrom c.args.src c.args.msg.now v))) c.in_default.is)

pub returns-then-not-asked : goal.returns-then-not-asked
returns-then-not-asked g c =
    let home = c.args.home.now in
    let share = node_share c.args.proc.now c.args.cache.now home in
    sym (ap (λ v. permit (local home.charge home.sizes c.args.number c.args.proc.now.program share (TakeFrom c.args.src c.args.msg.now v))) c.in-Some.is ∙ ap permit (unasked home.charge home.sizes c.args.number c.args.proc.now.program c.args.proc.now.place (words_behind (msg_content c.args.msg.now)) share c.args.src c.args.msg.now c.in-Some.line (sym c.asks-asked.ensures ∙ c.if-not-asked.true)))

pub returns-then-not-fits : goal.returns-then-not-fits
returns-then-not-fits g c =
    let home = c.args.home.now in
    let share = node_share c.args.proc.now c.args.cache.now home in
    sym (ap (λ v. permit (local home.charge home.sizes c.args.number c.args.proc.now.program share (TakeFrom c.args.src c.args.msg.now v))) c.in-Some.is ∙ ap permit (unfit home.charge home.sizes c.args.number c.args.proc.now.program c.args.proc.now.place (words_behind (msg_content c.args.msg.now)) share c.args.src c.args.msg.now c.in-Some.line (sym c.asks-asked.ensures ∙ c.if-not-asked.false) (sym (c.fits.ensures c.args.proc.now c.args.cache.now.copies) ∙ c.if-not-fits.true)))

pub returns : goal.returns
returns g c =
    let home = c.args.home.now in
    let share = node_share c.args.proc.now c.args.cache.now home in
    may-victim home.charge home.sizes c.args.number c.args.proc.now.program c.args.proc.now.place (words_behind (msg_content c.args.msg.now)) share c.args.src c.args.msg.now c.in-Some.line (sym c.asks-asked.ensures ∙ c.if-not-asked.false) (sym (c.fits.ensures c.args.proc.now c.args.cache.now.copies) ∙ c.if-not-fits.false) ∙ sym (ap (λ v. permit (local home.charge home.sizes c.args.number c.args.proc.now.program share (TakeFrom c.args.src c.args.msg.now v))) c.in-Some.is)
