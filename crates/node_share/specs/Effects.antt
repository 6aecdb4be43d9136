-- What an event does to operations, as a handler tells it, by what the definitions say of its node.
use Rattle.std.specs.Prelude.{◌≡◌, ℕ, List, [], Result, Ok}
use Rattle.line_map.specs.Sizes.{Sizes}
use Rattle.op_model.specs.declared.events.Cause.{Cause}
use Rattle.op_model.specs.declared.operations.Op.{Op}
use Rattle.op_model.specs.Operations.{Words}
use Rattle.op_model.specs.Lines.{Outcome}
use Rattle.op_model.specs.Events.Node.{NodeOutcome, by_row}
use Rattle.op_model.specs.Shares.{Share}
use Rattle.cpu_cache.specs.Effects.{effect_of}
use Rattle.msg_words.specs.SendList.{SendList}
use Rattle.node_share.specs.Parts.{sent, DoesRow}
use Rattle.cpu_cache.specs.declared.effects.Effect.{Effect}

-- what the definition of an act of this node says is done: the new share, the messages sent, and what is told of operations
pub record Acts (node : ℕ) (program : List Op) (place : ℕ) (brought : Words) (act : Result NodeOutcome Cause) (new : Share) (out out' : SendList) (effect : Effect) : Type 0 where
  pub outcome : NodeOutcome
  pub is : act ≡ Ok outcome
  pub share : new ≡ outcome.share
  pub sends : out' ≡ sent out outcome.sends
  pub told : effect ≡ effect_of node program place brought outcome

-- what a table says is begun, done as a row of a line: the new share, the messages sent, and what is told of operations
pub record Begins (sizes : Sizes) (node : ℕ) (program : List Op) (place line : ℕ) (begun : Result Outcome Cause) (old new : Share) (out out' : SendList) (effect : Effect) : Type 0 where
  pub outcome : Outcome
  pub is : begun ≡ Ok outcome
  pub row : DoesRow sizes node old new out out' line (λ share. outcome)
  pub told : effect ≡ effect_of node program place [] (by_row sizes node old line outcome)
