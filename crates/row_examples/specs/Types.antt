-- The types that the examples take from the model's code, each with its variants.
pub use Rattle.op_model.specs.declared.operations.Kind.{Kind}
pub use Rattle.op_model.specs.declared.operations.Kind.TheVariants.{Load, Store, Swap, Add}
pub use Rattle.op_model.specs.declared.operations.Op.{Op}
pub use Rattle.op_model.specs.declared.events.EvictKind.{EvictKind}
pub use Rattle.op_model.specs.declared.events.Class.TheVariants.{Request, Reply}
pub use Rattle.op_model.specs.declared.events.Cause.TheVariants.{NoOp, Outstanding, Miss, HitFirst, Conflict, HeldPending, HeldBudget, NoCopy, WrongKind, LaneGate, LaneEmpty, VictimMissing, VictimUnasked, VictimUnfit, NoLinks, LinePending, BudgetFull}
pub use Rattle.op_model.specs.declared.messages.NakCause.TheVariants.{Pending, NoLink, Budget, Gone}
pub use Rattle.op_model.specs.declared.messages.Msg.{Msg}
pub use Rattle.op_model.specs.declared.state.Want.{Want}
pub use Rattle.op_model.specs.declared.state.Grantee.{Grantee}
pub use Rattle.op_model.specs.declared.state.Grantee.TheVariants.{Nobody, Me, Node}
pub use Rattle.op_model.specs.declared.state.Wait.{Wait}
pub use Rattle.op_model.specs.declared.state.Wait.TheVariants.{Idle, Invalidate, ForwardGet, ForwardGetX}
pub use Rattle.op_model.specs.declared.events.Event.TheVariants.{Evict, Take}
