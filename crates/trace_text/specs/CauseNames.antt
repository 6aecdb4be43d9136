-- How the causes of bad lines are printed: each by its name.
use Rattle.std.specs.Prelude.{ℕ, List, codes}
use Rattle.trace_text.specs.declared.fault.TraceCause.{TraceCause}
use Rattle.trace_text.specs.declared.fault.TraceCause.TheVariants.{Shape, Number, Version, Range, Node, Line, Unaligned, PastEnd, NoEnd, After}

abbrev pub cause_name : TraceCause → List ℕ
cause_name Shape = codes "Shape"
cause_name Number = codes "Number"
cause_name Version = codes "Version"
cause_name Range = codes "Range"
cause_name Node = codes "Node"
cause_name Line = codes "Line"
cause_name Unaligned = codes "Unaligned"
cause_name PastEnd = codes "PastEnd"
cause_name NoEnd = codes "NoEnd"
cause_name After = codes "After"
