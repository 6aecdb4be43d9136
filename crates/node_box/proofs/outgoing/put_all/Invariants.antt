use Rattle.std.proofs.Common.{take}
use Rattle.node_box.specs.Outgoing.{IsPut}
use Rattle.node_box.proofs.outgoing.put_all.Given as goal

abbrev pub invariant-loop-i : goal.invariant-loop-i
invariant-loop-i l = IsPut l.fn.out l.out (take l.i l.fn.sends.list)
