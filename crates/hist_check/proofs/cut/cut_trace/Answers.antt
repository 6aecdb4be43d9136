use Rattle.std.proofs.Common.{◌≡◌, ◌<◌, ◌-◌, true, false, length, take, rules}
use Rattle.hist_check.specs.Cut.{is_end}
use Rattle.hist_check.proofs.Cuts.{read-none, read-more, cut-here, taken, cut-nowhere, cut-whole, cut-fault, cut-ends}
use Rattle.hist_check.proofs.cut.cut_trace.Goals as goal

pub loop-rest-init : goal.loop-rest-init
loop-rest-init c = read-none c.args.bytes.now

pub loop-rest-preserved : goal.loop-rest-preserved
loop-rest-preserved c =
    let some : 0 < length c.loop-rest.rest.now = search rules in
    let other : is_end c.first_line.result.0.now ≡ false = search rules in
    read-more c.args.bytes.now c.loop-rest.rest.now c.loop-rest.next c.first_line.result.0.now c.first_line.result.1.now c.loop-rest.invariant some c.first_line.ensures other

pub returns-then-eq-clause-cut : goal.returns-then-eq-clause-cut
returns-then-eq-clause-cut c =
    let bytes = c.args.bytes.now in
    let behind = c.first_line.result.1.now in
    let some : 0 < length c.loop-rest.rest.now = search rules in
    let over : is_end c.first_line.result.0.now ≡ true = search rules in
    cut-here bytes c.loop-rest.rest.now c.loop-rest.next c.first_line.result.0.now behind c.loop-rest.invariant some c.first_line.ensures
    (take (length bytes - length behind) bytes) (taken bytes c.loop-rest.rest.now c.loop-rest.next c.first_line.result.0.now behind c.loop-rest.invariant some c.first_line.ensures) over

pub returns-then-eq-clause-whole : goal.returns-then-eq-clause-whole
returns-then-eq-clause-whole c = cut-whole c.args.bytes.now _ c.first_line.result.1.now _ (returns-then-eq-clause-cut c)

pub returns-then-eq-clause-fault : goal.returns-then-eq-clause-fault
returns-then-eq-clause-fault c = cut-fault c.args.bytes.now _ c.first_line.result.1.now _ (returns-then-eq-clause-cut c)

pub returns-then-eq-clause-ends : goal.returns-then-eq-clause-ends
returns-then-eq-clause-ends c = cut-ends c.args.bytes.now _ c.first_line.result.1.now _ (returns-then-eq-clause-cut c)

pub returns-clause-ends : goal.returns-clause-ends
returns-clause-ends c = cut-ends c.args.bytes.now c.args.bytes.now c.loop-rest.rest.now c.loop-rest.next (cut-nowhere c.args.bytes.now c.loop-rest.rest.now c.loop-rest.next c.loop-rest.invariant (search rules))
