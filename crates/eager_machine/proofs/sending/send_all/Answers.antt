-- When no message is left, the lanes hold all that is under way.
use Rattle.std.proofs.Common.{◌≤◌, [], length, refl, sym, ap, ◌∙◌, arith}
use Rattle.eager_machine.specs.Lanes.{lane_in}
use Rattle.eager_machine.proofs.Ways.{all-moved}
use Rattle.eager_machine.proofs.sending.send_all.Goals as goal

pub returns-clause-ok : goal.returns-clause-ok
returns-clause-ok c =
    let out = c.loop-out.out in
    let inv = c.loop-out.invariant in
    let over : length out.sends.list ≤ out.moved = omega (arith, c.len.ensures, c.loop-out-test.false) in
    (sym (all-moved out.node out.given out.sends.list out.moved (lane_in c.loop-out.lanes) over) ∙ inv.way, c.clear.ensures ∙ ap (λ r. record { list = []; room = r }) inv.out.room, refl)
