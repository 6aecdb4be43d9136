-- What a turn leaves in the log of its node.
use Rattle.std.specs.Prelude.{◌≡◌, ℕ, [], ◌∷◌, ◌++◌}
use Rattle.op_model.specs.declared.events.Event.{Event}
use Rattle.node_box.specs.declared.turns.Turn.{Turn}
use Rattle.node_box.specs.declared.turns.Turn.TheVariants.{Did}
use Rattle.node_box.specs.Boxes.{BoxView}

-- one event more stands at the end of the log, with this ticket
pub record IsOneMore (old new : BoxView) (ticket : ℕ) : Type 0 where
  pub event : Event
  pub log : new.log.entries ≡ old.log.entries ++ record { ticket = ticket; event = event } ∷ []

-- A turn that answers a ticket made exactly one event, which stands at the end of the log. Any other made none
abbrev pub IsLogged : Turn → (old new : BoxView) → Type 0
IsLogged (Did ticket) old new = IsOneMore old new ticket
IsLogged _ old new = new.log.entries ≡ old.log.entries
