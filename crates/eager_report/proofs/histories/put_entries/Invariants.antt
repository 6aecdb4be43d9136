use Rattle.std.proofs.Common.{◌≡◌, ◌++◌, codes, length, take}
use Rattle.std.specs.List.{flat_map}
use Rattle.decimal_text.specs.Text.{named}
use Rattle.eager_report.specs.Orders.{as_aged}
use Rattle.eager_report.specs.Reports.{aged_line}
use Rattle.eager_report.proofs.histories.put_entries.Given as goal

abbrev pub invariant-loop-aged : goal.invariant-loop-aged
invariant-loop-aged l = l.out.items ≡ l.fn.out.items ++ named (codes "history ") (length l.entries) ++ flat_map (λ kept. aged_line l.cfg (as_aged kept)) (take l.aged-index l.entries)
