-- What holds of the eager machine after every run, with the operations served so far.
use Rattle.std.specs.Prelude.{◌≡◌, ℕ, ◌≤◌, length, List, [], ◌∷◌}
use Rattle.line_map.specs.Sizes.{home_of}
use Rattle.op_model.specs.Flat.{IsLegal}
use Rattle.op_model.specs.Shares.{Trace}
use Rattle.op_model.specs.Run.History.{entries_by}
use Rattle.eager_model.specs.Types.{Class}
use Rattle.eager_model.specs.Runs.{AgedEntry, Past}
use Rattle.eager_model.specs.Good.{IsEagerGood}
use Rattle.one_history.specs.Sound.{IsOrdered, IsCached}
use Rattle.eager_history.specs.Project.{plain, plain_past, served_on, history_on, last_age, aged_line}

-- it holds of each entry
abbrev pub Each : (AgedEntry → Type 0) → List AgedEntry → Type 0
Each P [] = Unit {0}
Each P (aged ∷ entries) = P aged × Each P entries

-- no entry is younger than one behind it
abbrev pub AreInOrder : List AgedEntry → Type 0
AreInOrder [] = Unit {0}
AreInOrder (aged ∷ entries) = Each (λ next. aged.age ≤ next.age) entries × AreInOrder entries

-- What holds of a line's history: it is legal, no entry is younger than the greatest age given to the line, nor a node's than its last one, and it has each node's operations on the line in the order in which they were served
pub record IsPastOf (trace : Trace) (served : List AgedEntry) (line top : ℕ) : Type 0 where
  pub legal : IsLegal (plain (history_on trace.sizes line served))
  pub within : Each (λ aged. aged.age ≤ top) (history_on trace.sizes line served)
  pub last : Each (λ aged. aged.age ≤ last_age aged.entry.node 0 (served_on trace.sizes line served)) (history_on trace.sizes line served)
  pub order : (node : ℕ) → entries_by node (plain (history_on trace.sizes line served)) ≡ entries_by node (plain (served_on trace.sizes line served))

-- a line with the greatest age given to it, and its history
pub record IsLineSound (trace : Trace) (past : Past) (line : ℕ) : Type 0 where
  pub top : ℕ
  pub good : IsEagerGood (home_of trace.sizes line) (aged_line trace.sizes past top line)
  pub history : IsPastOf trace past.served line top

-- The caches hold no two lines of one set; what was served is in the order of each program; each message has its age; and what holds of one line holds of each, with its history
pub record IsEagerSound (trace : Trace) (past : Past) : Type 0 where
  pub cached : (node : ℕ) → IsCached trace.sizes (past.state.share node)
  pub ordered : (node : ℕ) → IsOrdered trace node (past.state.share node) (entries_by node (plain_past past).served)
  pub paired : (a b : ℕ) (class : Class) → length (past.ages.lane a b class) ≡ length (past.state.lane a b class)
  pub lines : (line : ℕ) → IsLineSound trace past line
