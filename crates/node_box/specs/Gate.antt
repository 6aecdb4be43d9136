-- What a processor's turn knows of the gate on evictions.
use Rattle.std.specs.Prelude.{◌≡◌, ◌≢◌, ◌⊎◌, ℕ, ◌≤◌, ◌<◌, true, Err}
use Rattle.op_model.specs.declared.events.Class.TheVariants.{Request}
use Rattle.op_model.specs.Events.Step.{departures}
use Rattle.op_model.specs.declared.events.Cause.TheVariants.{NoOp, Outstanding, HeldPending, HeldBudget}
use Rattle.op_model.specs.Events.Node.{IssueNext}
use Rattle.magic_node.specs.declared.acts.LocalEvent.TheVariants as own
use Rattle.node_box.specs.declared.turns.Turn.{Turn}
use Rattle.node_box.specs.declared.turns.Turn.TheVariants.{Did, Ended, Waiting, Held}
use Rattle.node_box.specs.declared.turns.HeldCause.TheVariants.{Pending, Budget}
use Rattle.node_box.specs.Events.{Acts}
use Rattle.lane_table.specs.Steps.{looked_out}
use Rattle.lane_table.specs.Told.{unflushed}
use Rattle.node_box.specs.Boxes.{BoxView, outcome_at}

-- Nothing changed, and the outbox alone is full of what the gate counts; or it isn't, and the header word was loaded once more and nothing else changed
abbrev pub IsCounted : (old new : BoxView) → (dst : ℕ) → Type 0
IsCounted old new dst =
    ((new ≡ old) × (old.seat.part.sizes.evicts ≤ departures (unflushed old.seat.part dst Request)))
    ⊎ ((word : ℕ) × (departures (unflushed old.seat.part dst Request) < old.seat.part.sizes.evicts) × (new.seat.part ≡ looked_out old.seat.part dst Request word) × (new ≡ record old { seat = new.seat }))

-- The same where the lane is full: the header word that was loaded wasn't 0
abbrev pub IsLaneFull : (old new : BoxView) → (dst : ℕ) → Type 0
IsLaneFull old new dst =
    ((new ≡ old) × (old.seat.part.sizes.evicts ≤ departures (unflushed old.seat.part dst Request)))
    ⊎ ((word : ℕ) × (word ≢ 0) × (new.seat.part ≡ looked_out old.seat.part dst Request word) × (new ≡ record old { seat = new.seat }))

-- The next operation was begun, with this ticket; or it is held back, or there is none, and nothing changed
abbrev pub Begins : Turn → (old new : BoxView) → Type 0
Begins (Did ticket) old new = Acts old new own.Issue true ticket
Begins Ended old new = (outcome_at old.node IssueNext ≡ Err NoOp) × (new ≡ old)
Begins Waiting old new = (outcome_at old.node IssueNext ≡ Err Outstanding) × (new ≡ old)
Begins (Held Pending) old new = (outcome_at old.node IssueNext ≡ Err HeldPending) × (new ≡ old)
Begins (Held Budget) old new = (outcome_at old.node IssueNext ≡ Err HeldBudget) × (new ≡ old)
Begins _ old new = ⊥
