-- How the causes of refused events are printed: each by its name.
use Rattle.std.specs.Prelude.{ℕ, List, codes}
use Rattle.op_model.specs.declared.events.Cause.{Cause}
use Rattle.op_model.specs.declared.events.Cause.TheVariants.{NoOp, Outstanding, Miss, HitFirst, Conflict, HeldPending, HeldBudget, NoCopy, WrongKind, LaneGate, LaneEmpty, VictimMissing, VictimUnasked, VictimUnfit, NoLinks, LinePending, BudgetFull}

abbrev pub cause_name : Cause → List ℕ
cause_name NoOp = codes "NoOp"
cause_name Outstanding = codes "Outstanding"
cause_name Miss = codes "Miss"
cause_name HitFirst = codes "HitFirst"
cause_name Conflict = codes "Conflict"
cause_name HeldPending = codes "HeldPending"
cause_name HeldBudget = codes "HeldBudget"
cause_name NoCopy = codes "NoCopy"
cause_name WrongKind = codes "WrongKind"
cause_name LaneGate = codes "LaneGate"
cause_name LaneEmpty = codes "LaneEmpty"
cause_name VictimMissing = codes "VictimMissing"
cause_name VictimUnasked = codes "VictimUnasked"
cause_name VictimUnfit = codes "VictimUnfit"
cause_name NoLinks = codes "NoLinks"
cause_name LinePending = codes "LinePending"
cause_name BudgetFull = codes "BudgetFull"
