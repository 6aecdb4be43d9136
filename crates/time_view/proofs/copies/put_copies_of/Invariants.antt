use Rattle.std.proofs.Common.{◌≤◌}
use Rattle.std.specs.List.{flat_map, range_with_len}
use Rattle.op_model.specs.Shares.{copy_of}
use Rattle.time_view.specs.States.{copy_lines}
use Rattle.time_view.specs.Puts.{ArePut}
use Rattle.time_view.proofs.copies.put_copies_of.Given as goal

abbrev pub invariant-loop-line : goal.invariant-loop-line
invariant-loop-line g l =
    let m = g.M.Reported.meaning l.m in
    record {
      put : ArePut l.fn.out.items l.out.items l.count (flat_map (λ line. copy_lines l.node line (copy_of (m.past.state.share l.node) line)) (range_with_len 0 l.line));
      few : l.count ≤ l.line;
    }
