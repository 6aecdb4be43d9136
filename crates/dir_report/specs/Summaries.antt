-- The text of a summary: how many operations the programs have, what the loads have read, and the counts.
use Rattle.std.specs.Prelude.{ℕ, ◌++◌, List, length, codes, not, count_by, bit_xor, fold, if◌then◌else◌}
use Rattle.std.specs.List.{range_with_len, sum_by}
use Rattle.line_map.specs.Sizes.{Sizes}
use Rattle.decimal_text.specs.Text.{named}
use Rattle.op_model.specs.declared.operations.Op.{Op}
use Rattle.op_model.specs.declared.operations.Entry.{Entry}
use Rattle.op_model.specs.Operations.{is_load}
use Rattle.op_model.specs.Run.History.{history}
use Rattle.op_model.specs.Run.Machines.{MachineRun}
use Rattle.dir_report.specs.Reports.{counts_text}
use Rattle.dir_report.specs.Machines.{moments_of}

-- the operations, the loads and the writes of a program
abbrev pub loads_in : List Op → ℕ
loads_in ops = count_by (λ (op : Op). is_load op.kind) ops

abbrev pub writes_in : List Op → ℕ
writes_in ops = count_by (λ (op : Op). not (is_load op.kind)) ops

-- the sum over all nodes
abbrev pub over_nodes : (ℕ → ℕ) → Sizes → ℕ
over_nodes f sizes = sum_by f (range_with_len 0 sizes.nodes)

-- the exclusive or of the values that the loads of a history have read
abbrev pub xor_with : ℕ → Entry → ℕ
xor_with so_far entry = if is_load entry.kind then bit_xor so_far entry.value else so_far

abbrev pub loads_xor : List Entry → ℕ
loads_xor entries = fold xor_with 0 entries

unfoldable pub summary_text : MachineRun → List ℕ
summary_text m =
    codes "flash gen 1\n"
    ++ named (codes "operations ") (over_nodes (λ node. length (m.programs node)) m.sizes)
    ++ named (codes "loads ") (over_nodes (λ node. loads_in (m.programs node)) m.sizes)
    ++ named (codes "stores ") (over_nodes (λ node. writes_in (m.programs node)) m.sizes)
    ++ named (codes "xor ") (loads_xor (history m.past))
    ++ counts_text m.sizes (moments_of m)
    ++ codes "end\n"
