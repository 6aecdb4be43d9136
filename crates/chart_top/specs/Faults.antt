-- The text of each status, and its exit code.
use Rattle.std.specs.Prelude.{ℕ, ◌++◌, List, codes, decimal}
use Rattle.flash_top.specs.Faults.{fault_text, code_of}
use Rattle.chart_top.specs.declared.status.ChartStatus.{ChartStatus}
use Rattle.chart_top.specs.declared.status.ChartStatus.TheVariants.{Usage, TooManyNodes, TooManyShown, Plain}

-- what is written to the error sink
abbrev pub chart_fault_text : ChartStatus → List ℕ
chart_fault_text Usage = codes "flash_chart: usage: nothing, or the number of a line\n"
chart_fault_text (TooManyNodes count) = codes "flash_chart: more than 16 nodes: " ++ (decimal count ++ codes "\n")
chart_fault_text (TooManyShown count) = codes "flash_chart: more than 400 steps: " ++ (decimal count ++ codes "\n")
chart_fault_text (Plain status) = fault_text status

abbrev pub code_of_chart : ChartStatus → ℕ
code_of_chart Usage = 1
code_of_chart (TooManyNodes count) = 11
code_of_chart (TooManyShown count) = 12
code_of_chart (Plain status) = code_of status
