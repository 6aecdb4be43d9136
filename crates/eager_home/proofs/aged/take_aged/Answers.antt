-- The row of a message with the ages of its line.
use Rattle.std.proofs.Common.{◌≡◌, ◌==◌, refl, sym, ap, ◌∙◌, subst, true}
use Rattle.line_map.specs.Sizes.{home_of}
use Rattle.op_model.specs.Messages.{msg_content, msg_line}
use Rattle.op_model.specs.MessageWords.{words_behind}
use Rattle.op_model.specs.Shares.{copy_of, header_in, line_share}
use Rattle.op_model.specs.Events.Node.{TakeFrom}
use Rattle.node_share.specs.Effects.{Acts}
use Rattle.eager_model.specs.Ages.{LineAges, age_given, ages_taken}
use Rattle.eager_model.specs.Node.{line_ages, local, meets_row}
use Rattle.eager_part.proofs.Public.{get-met}
use Rattle.magic_node.specs.Nodes.{node_share}
use Rattle.eager_home.specs.Ages.{ages_of, as_ages, with_line}
use Rattle.eager_home.proofs.Takes.{ages-taken, memory-away, takes}
use Rattle.eager_home.proofs.WithAges.{with-ages}
use Rattle.eager_home.proofs.aged.take_aged.Goals as goal

pub taken-after-requires-clause-here : goal.taken-after-requires-clause-here
taken-after-requires-clause-here g c = λ line is.
    let home = c.args.home.now in
    let share = node_share c.args.proc.now c.args.cache.now home in
    (get-met home.sizes c.args.number c.args.proc.now.program share c.requires.node.own c.requires.node.fits line c.args.src (subst (λ m. meets_row home.sizes c.args.number share c.args.src m ≡ true) is c.requires.met)).0 ∙ sym c.requires.node.node

pub returns-clause-done : goal.returns-clause-done
unfolding copy_of header_in
returns-clause-done g c =
    let home = c.args.home.now in
    let number = c.args.number in
    let program = c.args.proc.now.program in
    let share = node_share c.args.proc.now c.args.cache.now home in
    let new = node_share c.handle-effect.new.proc c.handle-effect.new.cache c.handle-effect.new.home in
    let m = c.args.msg.now in
    let line = c.line-line.result in
    let pair : LineAges = as_ages c.line_ages-before.result in
    let pair-is : pair ≡ line_ages (ages_of home.sizes number share.copies c.args.ages.now) line = c.line_ages-before.ensures ∙ ap (λ n. line_ages (ages_of home.sizes n share.copies c.args.ages.now) line) c.requires.node.node in
    let acts : Acts number program share.place (words_behind (msg_content m)) (local home.sizes number program share (TakeFrom c.args.src m c.args.victim)) new c.args.out.now c.handle-effect.new.out c.handle-effect.result =
    takes home.sizes number program share c.args.src m c.requires.met home.charge c.args.victim new c.args.out.now c.handle-effect.new.out c.handle-effect.result c.requires.node.unlinked (c.in_ok-can_take_on.ensures home.sizes number program share c.args.src m) c.handle-effect.ensures.row c.handle-effect.ensures.effect in
    let now : as_ages c.taken-after.result ≡ ages_taken (number == home_of home.sizes (msg_line m)) c.args.age (msg_content m) (line_share home.sizes share (msg_line m)) pair =
    c.taken-after.ensures (line_share home.sizes share (msg_line m)) refl ∙ ap (λ n. ages_taken (n == home_of home.sizes (msg_line m)) c.args.age (msg_content m) (line_share home.sizes share (msg_line m)) pair) c.requires.node.node in
    with-ages home.sizes number program (words_behind (msg_content m)) share c.args.ages.now c.requires.node.sizes c.requires.lists c.requires.node.own
    (TakeFrom c.args.src m c.args.victim) c.args.age new c.args.out.now c.handle-effect.new.out c.handle-effect.result acts line c.line-line.ensures
    pair (as_ages c.taken-after.result) c.keep-copy.new.ages c.age_given-given.result c.keep-copy.result c.served_age.result
    pair-is
    (now ∙ ages-taken home.sizes number program share c.args.src m c.requires.met c.args.victim c.args.age acts.outcome pair)
    (c.age_given-given.ensures (line_share home.sizes share line) refl ∙ ap (λ n. age_given (n == home_of home.sizes line) (line_share home.sizes share line) pair) c.requires.node.node)
    c.keep-copy.ensures.copy
    (c.keep-copy.ensures.lists ∙ ap (λ h. with_line h.sizes h.node c.handle-effect.new.cache.copies line (as_ages c.taken-after.result) c.args.ages.now) c.handle-effect.ensures.home ∙ ap (λ n. with_line home.sizes n c.handle-effect.new.cache.copies line (as_ages c.taken-after.result) c.args.ages.now) c.requires.node.node)
    c.served_age.ensures
    (λ off. ap (λ (p : LineAges). p.memory) now ∙ memory-away home.sizes number program share c.requires.node.own c.requires.node.fits c.args.src c.args.age pair m c.requires.met (ap (λ l. number == home_of home.sizes l) (sym c.line-line.ensures) ∙ off))
