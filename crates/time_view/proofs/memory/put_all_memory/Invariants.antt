use Rattle.std.proofs.Common.{◌≤◌}
use Rattle.std.specs.List.{flat_map, range_with_len}
use Rattle.dir_report.specs.Reports.{header_at}
use Rattle.time_view.specs.States.{memory_lines}
use Rattle.time_view.specs.Puts.{ArePut}
use Rattle.time_view.proofs.memory.put_all_memory.Given as goal

abbrev pub invariant-loop-line : goal.invariant-loop-line
invariant-loop-line g l =
    let m = g.M.Reported.meaning l.m in
    record {
      put : ArePut l.fn.out.items l.out.items l.count (flat_map (λ line. memory_lines line (header_at m.sizes m.past.state line).memory) (range_with_len 0 l.line));
      few : l.count ≤ l.line;
    }
