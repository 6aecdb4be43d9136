-- After as many of the least numbers are taken out as the place says, the least of the rest is the one at that place.
use Rattle.std.proofs.Common.{◌≡◌, sym, ap, ◌∙◌, arith, get_or}
use Rattle.op_model.specs.Nodes.{in_order}
use Rattle.dir_header.specs.WordSets.{members}
use Rattle.dir_header.proofs.Bits.{rest_some, here_is, next_left}
use Rattle.dir_header.proofs.words.nth.Goals as goal

pub least-requires : goal.least-requires
least-requires c = rest_some c.args.word c.loop.rest c.loop.counter (let w = c.requires in let t = c.loop-test.true in omega arith) c.loop.invariant

pub loop-preserved : goal.loop-preserved
loop-preserved c =
    next_left c.args.word c.loop.rest c.loop.counter (let w = c.requires in let t = c.loop-test.true in omega arith) c.loop.invariant
    c.least.result c.least.ensures.in_set c.least.ensures.least c.without-rest.result c.without-rest.ensures

pub least-requires-2 : goal.least-requires-2
least-requires-2 c = rest_some c.args.word c.loop.rest c.loop.counter (let w = c.requires in let t = c.loop.auto.counter-end in omega arith) c.loop.invariant

pub returns : goal.returns
returns c =
    let at : c.args.i ≡ c.loop.counter = omega (arith, c.loop.auto.counter-end, c.loop-test.false) in
    sym (ap (λ i. get_or (in_order (members c.args.word)) i 0) at
    ∙ here_is c.args.word c.loop.rest c.loop.counter (let w = c.requires in let t = c.loop.auto.counter-end in omega arith) c.loop.invariant
    c.least-2.result c.least-2.ensures.in_set c.least-2.ensures.least)
