-- The random part of the seeded schedule on a machine, and the seeded schedule.
use Rattle.std.specs.Prelude.{◌≡◌, ◌≤◌, ◌⊎◌, ℕ, List, [], ◌++◌, length}
use Rattle.op_model.specs.declared.events.Event.{Event}
use Rattle.op_model.specs.Run.Runs.{Past}
use Rattle.op_model.specs.Run.Seeded.{IsSeeded}
use Rattle.op_model.specs.Run.Machines.{MachineRun}
use Rattle.seeded_laws.specs.Drawing.{AreDrawn}
use Rattle.schedule.specs.Candidates.{candidates_on}
use Rattle.schedule.specs.Made.{gone_on}

-- each event is drawn among the candidates at its place, by the words from the first one on, and done
abbrev pub AreDrawnOn : (ℕ → ℕ → ℕ → Type 0) → (ℕ → ℕ) → MachineRun → List Event → Past → Type 0
AreDrawnOn answers words m made end = AreDrawn answers words m.charge m.sizes m.programs 0 m.past made end

-- Some events are drawn, no more than there may be
pub record HasDrawn (answers : ℕ → ℕ → ℕ → Type 0) (words : ℕ → ℕ) (most : ℕ) (old new : MachineRun) : Type 0 where
  pub made : List Event
  pub went : new ≡ gone_on old made new.past
  pub drawn : AreDrawnOn answers words old made new.past
  pub few : length made ≤ most

-- The random part is made: as many events as there may be, or so many that there is no candidate
pub record HasDrawnAll (answers : ℕ → ℕ → ℕ → Type 0) (words : ℕ → ℕ) (most : ℕ) (old new : MachineRun) : Type 0 where
  pub made : List Event
  pub went : new ≡ gone_on old made new.past
  pub drawn : AreDrawnOn answers words old made new.past
  pub few : length made ≤ most
  pub ends : (length made ≡ most) ⊎ (candidates_on new ≡ [])

-- The events are the seeded schedule, and run so
pub record IsSeededTo (answers : ℕ → ℕ → ℕ → Type 0) (words : ℕ → ℕ) (most : ℕ) (old new : MachineRun) : Type 0 where
  pub made : List Event
  pub went : new ≡ gone_on old made new.past
  pub seeded : IsSeeded answers words most old.charge old.sizes old.programs old.past made new.past

-- The first events of the seeded schedule are made, and these are left of it
pub record HasBegunSeeded (answers : ℕ → ℕ → ℕ → Type 0) (words : ℕ → ℕ) (most : ℕ) (old new : MachineRun) : Type 0 where
  pub made : List Event
  pub left : List Event
  pub end : Past
  pub went : new ≡ gone_on old made new.past
  pub seeded : IsSeeded answers words most old.charge old.sizes old.programs old.past (made ++ left) end
