-- The node at the place of its number does its act.
use Rattle.std.proofs.Common.{◌≡◌, ◌+◌, ℕ, [], Err}
use Rattle.std.proofs.lemmas.Result.{IfOk-weaker, IfErr-weaker}
use Rattle.message_range.specs.Fitting.{IsSentOf}
use Rattle.magic_node.specs.Nodes.{input_of, HasSent}
use Rattle.eager_model.specs.Node.{local}
use Rattle.eager_home.specs.Aged.{AgedActs, AreWithin}
use Rattle.eager_home.specs.Views.{RiseWithin, ages_in}
use Rattle.eager_machine.specs.Acts.{AreSent, IsDoneAt, IsRefusedAt}
use Rattle.machine.proofs.Public.{fits-event, sends-room}
use Rattle.eager_machine.proofs.Answered.{if-both, sent-now, done-at}
use Rattle.eager_machine.proofs.NodeLists.{node-there}
use Rattle.eager_machine.proofs.acts.do_alone.Goals as goal

pub local-requires-clause-fits : goal.local-requires-clause-fits
local-requires-clause-fits c =
    let old = c.index_mut-node.result.now in
    let there = node-there c.args.cfg c.args.nodes.now.items c.args.node old old c.requires.nodes c.requires.below c.index_mut-node.ensures.value in
    let is = c.requires.nodes.each c.args.node old there in
    fits-event c.args.cfg old.sizes c.args.node old.number c.args.event is.same_sizes is.number_is c.requires.line

pub local-requires-clause-young : goal.local-requires-clause-young
local-requires-clause-young c =
    let old = c.index_mut-node.result.now in
    let there = node-there c.args.cfg c.args.nodes.now.items c.args.node old old c.requires.nodes c.requires.below c.index_mut-node.ensures.value in
    c.requires.young c.args.node old there

pub local-requires-clause-space : goal.local-requires-clause-space
local-requires-clause-space c =
    let old = c.index_mut-node.result.now in
    let there = node-there c.args.cfg c.args.nodes.now.items c.args.node old old c.requires.nodes c.requires.below c.index_mut-node.ensures.value in
    sends-room c.args.cfg old.sizes c.args.out.now (c.requires.nodes.each c.args.node old there).same_sizes c.requires.nothing

pub returns-clause-ok : goal.returns-clause-ok
returns-clause-ok c =
    let old = c.index_mut-node.result.now in
    let new = c.local.new.self in
    let input = input_of c.args.event c.args.room in
    let nodes = c.args.nodes.now.items in
    let there = node-there c.args.cfg nodes c.args.node old old c.requires.nodes c.requires.below c.index_mut-node.ensures.value in
    if-both c.local.result (λ did. AgedActs old.sizes old.number old.program [] old.share (ages_in old) input 0 new.share (ages_in new) c.args.out.now c.local.new.out did)
    (λ did. (bound : ℕ) → AreWithin bound (ages_in old) → RiseWithin bound (bound + 1) (ages_in new) did) (λ did. IsDoneAt nodes _ c.args.node input 0 c.local.new.out.list did)
    (λ did acts within. done-at c.args.cfg nodes c.args.node old new input 0 [] c.args.out.now c.local.new.out did there c.number-kept.ensures.kept c.requires.nothing c.local.ensures.kept acts (λ bound young _. within bound young)) c.local.ensures.done c.local.ensures.within

pub returns-clause-sent : goal.returns-clause-sent
returns-clause-sent c =
    let old = c.index_mut-node.result.now in
    let there = node-there c.args.cfg c.args.nodes.now.items c.args.node old old c.requires.nodes c.requires.below c.index_mut-node.ensures.value in
    IfOk-weaker c.local.result (λ did. HasSent (IsSentOf old.sizes) c.args.out.now c.local.new.out) (λ did. AreSent c.args.cfg c.local.new.out.list)
    (λ did has. sent-now c.args.cfg c.args.node old c.args.out.now c.local.new.out (c.requires.nodes.each c.args.node old there) c.requires.nothing has) c.local.ensures.sent

pub returns-clause-err : goal.returns-clause-err
returns-clause-err c =
    let old = c.index_mut-node.result.now in
    let input = input_of c.args.event c.args.room in
    let there = node-there c.args.cfg c.args.nodes.now.items c.args.node old old c.requires.nodes c.requires.below c.index_mut-node.ensures.value in
    IfErr-weaker c.local.result (λ cause. local old.sizes old.number old.program old.share input ≡ Err cause) (λ cause. IsRefusedAt c.args.nodes.now.items c.args.node input cause)
    (λ cause refuses. record { old = old; there = there; refuses = refuses }) c.local.ensures.refused
