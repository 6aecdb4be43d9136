-- How the causes of bad entries are printed: each by its name.
use Rattle.std.specs.Prelude.{ℕ, List, codes}
use Rattle.hist_check.specs.declared.fault.EntryCause.{EntryCause}
use Rattle.hist_check.specs.declared.fault.EntryCause.TheVariants.{Foreign, Order, Differs, Value}

abbrev pub cause_name : EntryCause → List ℕ
cause_name Foreign = codes "Foreign"
cause_name Order = codes "Order"
cause_name Differs = codes "Differs"
cause_name Value = codes "Value"
