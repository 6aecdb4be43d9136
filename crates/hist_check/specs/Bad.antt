-- The first bad entry of a history, with the first cause.
use Rattle.std.specs.Prelude.{◌≡◌, ◌≢◌, ℕ, ◌+◌, List, ◌∷◌, ◌++◌, length, slice_get}
use Rattle.std.specs.FinMap as fin
use Rattle.op_model.specs.declared.operations.Op.{Op}
use Rattle.op_model.specs.declared.operations.Entry.{Entry}
use Rattle.op_model.specs.Flat.{after_from, IsLegalAt}
use Rattle.op_model.specs.Events.Step.{Programs}
use Rattle.op_model.specs.Run.History.{entries_by, IsNext}
use Rattle.hist_check.specs.declared.fault.EntryCause.{EntryCause}
use Rattle.hist_check.specs.declared.fault.EntryCause.TheVariants.{Foreign, Order, Differs, Value}
use Rattle.hist_check.specs.declared.fault.CheckError.{CheckError}
use Rattle.hist_check.specs.declared.fault.CheckError.TheVariants.{Bad, Memory}
use Rattle.hist_check.specs.Good.{IsKnown, IsGood}

-- an entry has the kind, the word and, where it is a write, the value of the operation that it names
abbrev pub IsOwn : List Op → Entry → Type 0
IsOwn ops entry = IsNext entry.index (slice_get ops entry.index) entry

-- an entry names the next operation of its node, where the node has so many entries before it
pub record HasPlace (ops : List Op) (before : ℕ) (entry : Entry) : Type 0 where
  pub known : IsKnown ops entry
  pub next : entry.index ≡ before
  pub own : IsOwn ops entry

-- the first thing that is wrong with an entry's place
abbrev pub HasPlaceCause : List Op → ℕ → Entry → EntryCause → Type 0
HasPlaceCause ops before entry Foreign = ¬ IsKnown ops entry
HasPlaceCause ops before entry Order = IsKnown ops entry × (entry.index ≢ before)
HasPlaceCause ops before entry Differs = IsKnown ops entry × ((entry.index ≡ before) × ¬ IsOwn ops entry)
HasPlaceCause ops before entry Value = ⊥

-- the first thing that is wrong with an entry behind these entries
abbrev pub HasCause : Programs → List Entry → Entry → EntryCause → Type 0
HasCause programs before entry Value =
    HasPlace (programs entry.node) (length (entries_by entry.node before)) entry × ¬ IsLegalAt (after_from fin.empty before) entry
HasCause programs before entry cause = HasPlaceCause (programs entry.node) (length (entries_by entry.node before)) entry cause

-- the entries before it are a good history, and it has this cause. Entries are counted from 1
pub record IsFirstBad (programs : Programs) (entries : List Entry) (number : ℕ) (cause : EntryCause) : Type 0 where
  pub before : List Entry
  pub entry : Entry
  pub after : List Entry
  pub whole : entries ≡ before ++ entry ∷ after
  pub counted : number ≡ length before + 1
  pub good : IsGood programs before
  pub bad : HasCause programs before entry cause

abbrev pub NamesEntry : Programs → List Entry → CheckError → Type 0
NamesEntry programs entries (Bad number cause) = IsFirstBad programs entries number cause
NamesEntry programs entries Memory = Unit {0}

-- a history that is refused for an entry isn't good
abbrev pub RefusesBad : Programs → List Entry → CheckError → Type 0
RefusesBad programs entries (Bad number cause) = ¬ IsGood programs entries
RefusesBad programs entries Memory = Unit {0}
