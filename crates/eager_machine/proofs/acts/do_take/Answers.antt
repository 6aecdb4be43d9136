-- The node at the place of its number does the row that the message meets.
use Rattle.std.proofs.Common.{◌≡◌, ◌≤◌, ◌<◌, ◌∙◌, ℕ, Err, sym, subst}
use Rattle.std.proofs.lemmas.Result.{IfOk-weaker, IfErr-weaker}
use Rattle.line_map.specs.Sizes.{Sizes}
use Rattle.message_range.specs.Fitting.{IsSentOf}
use Rattle.magic_node.specs.Nodes.{HasSent}
use Rattle.op_model.specs.Events.Node.{TakeFrom}
use Rattle.op_model.specs.Messages.{msg_content}
use Rattle.op_model.specs.MessageWords.{IsMsgOf, words_behind}
use Rattle.eager_model.specs.Node.{local}
use Rattle.eager_home.specs.Aged.{AgedActs, AreWithin}
use Rattle.eager_home.specs.Views.{RiseWithin, ages_in}
use Rattle.machine.specs.Acts.{FillsLine}
use Rattle.eager_machine.specs.Acts.{AreSent, IsDoneAt, IsRefusedAt}
use Rattle.machine.proofs.Public.{sends-room}
use Rattle.eager_machine.proofs.Answered.{if-both, sent-now, done-at, rise-more, fills-line}
use Rattle.eager_machine.proofs.NodeLists.{node-there, meets-at}
use Rattle.eager_machine.proofs.acts.do_take.Goals as goal

pub take-requires-clause-src : goal.take-requires-clause-src
take-requires-clause-src c =
    let old = c.index_mut-node.result.now in
    let there = node-there c.args.cfg c.args.nodes.now.items c.args.dst old old c.requires.nodes c.requires.to c.index_mut-node.ensures.value in
    subst (λ (s : Sizes). c.args.src < s.nodes) (sym (c.requires.nodes.each c.args.dst old there).same_sizes) c.requires.from

pub take-requires-clause-msg : goal.take-requires-clause-msg
take-requires-clause-msg c =
    let old = c.index_mut-node.result.now in
    let there = node-there c.args.cfg c.args.nodes.now.items c.args.dst old old c.requires.nodes c.requires.to c.index_mut-node.ensures.value in
    subst (λ (s : Sizes). IsMsgOf s c.args.msg.now) (sym (c.requires.nodes.each c.args.dst old there).same_sizes) c.requires.message

pub take-requires-clause-met : goal.take-requires-clause-met
take-requires-clause-met c =
    let old = c.index_mut-node.result.now in
    let nodes = c.args.nodes.now.items in
    let there = node-there c.args.cfg nodes c.args.dst old old c.requires.nodes c.requires.to c.index_mut-node.ensures.value in
    meets-at c.args.cfg nodes c.args.dst old there (c.requires.nodes.each c.args.dst old there) c.args.src c.args.msg.now ∙ c.requires.row

pub take-requires-clause-space : goal.take-requires-clause-space
take-requires-clause-space c =
    let old = c.index_mut-node.result.now in
    let there = node-there c.args.cfg c.args.nodes.now.items c.args.dst old old c.requires.nodes c.requires.to c.index_mut-node.ensures.value in
    sends-room c.args.cfg old.sizes c.args.out.now (c.requires.nodes.each c.args.dst old there).same_sizes c.requires.nothing

pub returns-clause-ok : goal.returns-clause-ok
returns-clause-ok c =
    let old = c.index_mut-node.result.now in
    let new = c.take.new.self in
    let input = TakeFrom c.args.src c.args.msg.now c.args.victim in
    let nodes = c.args.nodes.now.items in
    let brought = words_behind (msg_content c.args.msg.now) in
    let there = node-there c.args.cfg nodes c.args.dst old old c.requires.nodes c.requires.to c.index_mut-node.ensures.value in
    if-both c.take.result (λ did. AgedActs old.sizes old.number old.program brought old.share (ages_in old) input c.args.age new.share (ages_in new) c.args.out.now c.take.new.out did)
    (λ did. (bound : ℕ) → AreWithin bound (ages_in old) → c.args.age ≤ bound → RiseWithin bound bound (ages_in new) did) (λ did. IsDoneAt nodes _ c.args.dst input c.args.age c.take.new.out.list did)
    (λ did acts within. done-at c.args.cfg nodes c.args.dst old new input c.args.age brought c.args.out.now c.take.new.out did there c.number-kept.ensures.kept c.requires.nothing c.take.ensures.kept acts (λ bound young of. rise-more bound new did (within bound young of))) c.take.ensures.done c.take.ensures.within

pub returns-clause-sent : goal.returns-clause-sent
returns-clause-sent c =
    let old = c.index_mut-node.result.now in
    let there = node-there c.args.cfg c.args.nodes.now.items c.args.dst old old c.requires.nodes c.requires.to c.index_mut-node.ensures.value in
    IfOk-weaker c.take.result (λ did. HasSent (IsSentOf old.sizes) c.args.out.now c.take.new.out) (λ did. AreSent c.args.cfg c.take.new.out.list)
    (λ did has. sent-now c.args.cfg c.args.dst old c.args.out.now c.take.new.out (c.requires.nodes.each c.args.dst old there) c.requires.nothing has) c.take.ensures.sent

pub returns-clause-words : goal.returns-clause-words
returns-clause-words c =
    let old = c.index_mut-node.result.now in
    let new = c.take.new.self in
    let brought = words_behind (msg_content c.args.msg.now) in
    let there = node-there c.args.cfg c.args.nodes.now.items c.args.dst old old c.requires.nodes c.requires.to c.index_mut-node.ensures.value in
    IfOk-weaker c.take.result (λ did. AgedActs old.sizes old.number old.program brought old.share (ages_in old) (TakeFrom c.args.src c.args.msg.now c.args.victim) c.args.age new.share (ages_in new) c.args.out.now c.take.new.out did) (λ did. FillsLine c.args.cfg did.effect.served)
    (λ did acts. fills-line c.args.cfg c.args.dst old c.args.src c.args.msg.now c.args.victim c.args.age brought new c.args.out.now c.take.new.out did (c.requires.nodes.each c.args.dst old there) c.told_sizes.ensures c.requires.to c.requires.from c.requires.message
    c.number-kept.ensures.kept c.number-kept.ensures.fits acts) c.take.ensures.done

pub returns-clause-err : goal.returns-clause-err
returns-clause-err c =
    let old = c.index_mut-node.result.now in
    let input = TakeFrom c.args.src c.args.msg.now c.args.victim in
    let there = node-there c.args.cfg c.args.nodes.now.items c.args.dst old old c.requires.nodes c.requires.to c.index_mut-node.ensures.value in
    IfErr-weaker c.take.result (λ cause. local old.sizes old.number old.program old.share input ≡ Err cause) (λ cause. IsRefusedAt c.args.nodes.now.items c.args.dst input cause)
    (λ cause refuses. record { old = old; there = there; refuses = refuses }) c.take.ensures.refused
