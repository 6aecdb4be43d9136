-- The act with the ages of its line.
use Rattle.std.proofs.Common.{◌≡◌, ℕ, ◌<◌, ◌≤◌, ◌==◌, [], is_some, refl, sym, ap, ◌∙◌, subst, arith}
use Rattle.line_map.specs.Sizes.{home_of}
use Rattle.op_model.specs.Lines.{LineShare, Outcome}
use Rattle.op_model.specs.Shares.{copy_in, copy_of, header_in, line_share}
use Rattle.eager_model.specs.Ages.{LineAges, age_given}
use Rattle.eager_model.specs.Node.{line_ages, local, row_done}
use Rattle.magic_node.specs.Nodes.{node_share, input_of}
use Rattle.magic_node.specs.declared.acts.LocalEvent.TheVariants.{Issue}
use Rattle.cpu_cache.specs.Effects.{words_done}
use Rattle.eager_home.specs.Aged.{ages_after, ages_before, line_named}
use Rattle.eager_home.specs.Ages.{ages_of, as_ages, with_line}
use Rattle.eager_home.proofs.EventAges.{by-halves, done-told, memory-away, settled-within}
use Rattle.eager_home.proofs.WithAges.{copy-there, with-ages}
use Rattle.eager_home.proofs.aged.act_aged.Goals as goal

below-top : (n : ℕ) → n ≤ 18446744073709551614 → n < 18446744073709551615
below-top n few = omega arith

pub fill-after-requires-clause-young : goal.fill-after-requires-clause-young
unfolding copy_of
fill-after-requires-clause-young g c =
    let home = c.args.home.now in
    let share = node_share c.args.proc.now c.args.cache.now home in
    let line = c.line_named-line.result in
    let here : LineShare = line_share home.sizes share line in
    let pair : as_ages c.line_ages-before.result ≡ line_ages (ages_of home.sizes c.args.number c.args.cache.now.copies c.args.ages.now) line = c.line_ages-before.ensures ∙ ap (λ n. line_ages (ages_of home.sizes n c.args.cache.now.copies c.args.ages.now) line) c.requires.node.node in
    below-top c.settle-settled.result.memory
    (subst (λ (p : LineAges). p.memory ≤ 18446744073709551614) (sym (c.settle-settled.ensures here refl))
    (settled-within 18446744073709551614 c.args.event (home.node == home_of home.sizes line) here (as_ages c.line_ages-before.result)
    (subst (λ (p : LineAges). p.copy ≤ 18446744073709551614) (sym pair) (c.requires.young line).0) (subst (λ (p : LineAges). p.memory ≤ 18446744073709551614) (sym pair) (c.requires.young line).1)))

pub returns-clause-done : goal.returns-clause-done
unfolding copy_of header_in
returns-clause-done g c =
    let home = c.args.home.now in
    let number = c.args.number in
    let program = c.args.proc.now.program in
    let share = node_share c.args.proc.now c.args.cache.now home in
    let new = node_share c.act.new.proc c.act.new.cache c.act.new.home in
    let event = c.args.event in
    let line = c.line_named-line.result in
    let line-is : line ≡ line_named home.sizes program share.place (input_of event c.args.room) = c.line_named-line.ensures.value c.args.room in
    let acts = c.in_ok-effect.ensures.done in
    let row : Outcome = row_done home.sizes acts.outcome in
    let here : LineShare = line_share home.sizes share line in
    let pair : LineAges = as_ages c.line_ages-before.result in
    let pair-is : pair ≡ line_ages (ages_of home.sizes number share.copies c.args.ages.now) line = c.line_ages-before.ensures ∙ ap (λ n. line_ages (ages_of home.sizes n share.copies c.args.ages.now) line) c.requires.node.node in
    let done : event ≡ Issue → row.done ≡ c.is_some.result =
    λ issue. done-told home.sizes number share.place program share acts.outcome (words_done acts.outcome.served []) refl (ap (λ e. local home.sizes number program share (input_of e c.args.room)) (sym issue) ∙ acts.is)
    ∙ ap (λ e. is_some e.done) (sym acts.told) ∙ sym c.is_some.ensures in
    let copied : row.share.copy ≡ copy_in c.act.new.cache.copies line = copy-there home.sizes number program [] share c.args.ages.now c.requires.node.sizes c.requires.lists c.requires.node.own (input_of event c.args.room) 0 new c.args.out.now c.act.new.out c.in_ok-effect.effect acts line line-is in
    let halves : as_ages c.fill-after.result ≡ ages_after event row (ages_before event (number == home_of home.sizes line) here pair) =
    c.fill-after.ensures row copied done ∙ ap (ages_after event row) (c.settle-settled.ensures here refl ∙ ap (λ n. ages_before event (n == home_of home.sizes line) here pair) c.requires.node.node) in
    with-ages home.sizes number program [] share c.args.ages.now c.requires.node.sizes c.requires.lists c.requires.node.own
    (input_of event c.args.room) 0 new c.args.out.now c.act.new.out c.in_ok-effect.effect acts line line-is
    pair (as_ages c.fill-after.result) c.keep-copy.new.ages c.age_given-given.result c.keep-copy.result c.served_age.result
    pair-is
    (halves ∙ ap (λ l. ages_after event row (ages_before event (number == home_of home.sizes l) (line_share home.sizes share l) pair)) line-is ∙ by-halves home.sizes number program share event c.args.room 0 acts.outcome pair)
    (c.age_given-given.ensures here refl ∙ ap (λ n. age_given (n == home_of home.sizes line) here pair) c.requires.node.node)
    c.keep-copy.ensures.copy
    (c.keep-copy.ensures.lists ∙ ap (λ h. with_line h.sizes h.node c.act.new.cache.copies line (as_ages c.fill-after.result) c.args.ages.now) c.act.ensures.home ∙ ap (λ n. with_line home.sizes n c.act.new.cache.copies line (as_ages c.fill-after.result) c.args.ages.now) c.requires.node.node)
    c.served_age.ensures
    (λ off. ap (λ (p : LineAges). p.memory) halves ∙ memory-away event (number == home_of home.sizes line) here row pair off)
