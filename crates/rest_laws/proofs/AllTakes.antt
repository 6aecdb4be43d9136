-- In a run of a trace of its machine, every Take that is done lowers the weight, since no other lane has a message.
use Rattle.std.proofs.Common.{◌≡◌, ℕ, ◌<◌, ◌≤◌, List, [], ◌⊎◌, inl, inr, ap, sym, ◌∙◌, Option, Some, Result, Ok, Err}
use Rattle.std.proofs.lemmas.Bool.{cases_lt}
use Rattle.op_model.specs.declared.events.Cause.{Cause}
use Rattle.op_model.specs.declared.events.Cause.TheVariants.{LaneEmpty}
use Rattle.op_model.specs.declared.events.Class.{Class}
use Rattle.op_model.specs.declared.events.Event.{Event}
use Rattle.op_model.specs.declared.events.Event.TheVariants.{Take}
use Rattle.op_model.specs.Events.Step.{Done, after, effect, take_front}
use Rattle.op_model.specs.Run.Runs.{Past, run}
use Rattle.op_model.specs.Run.Weight.{weight}
use Rattle.op_model.specs.Shares.{Charge, Trace, program}
use Rattle.node_range.specs.Range.{IsOfMachine}
use Rattle.node_range.proofs.Public.{ranged_lanes}
use Rattle.rest_laws.proofs.Falls.{falling_weight}

pub falling_take : (charge : Charge) (trace : Trace) (events : List Event) (past : Past) (src dst : ℕ) (class : Class) (victim : Option ℕ) (done : Done) → IsOfMachine trace → 0 < trace.sizes.words → run charge trace events ≡ Some past →
    effect charge trace.sizes (program trace) past.state (Take src dst class victim) ≡ Ok done → weight trace.sizes (after past.state done) < weight trace.sizes past.state
falling_take charge trace events past src dst class victim done all positive runs is = go (cases_lt src trace.sizes.nodes) (cases_lt dst trace.sizes.nodes)
  where
    filled : past.state.lane src dst class ≡ [] → ⊥
    filled none = let e : ◌≡◌ {A = Result Done Cause} (Err LaneEmpty) (Ok done) = sym (ap (take_front charge trace.sizes (program trace) past.state src dst class victim) none) ∙ is in cc

    go : (src < trace.sizes.nodes) ⊎ (trace.sizes.nodes ≤ src) → (dst < trace.sizes.nodes) ⊎ (trace.sizes.nodes ≤ dst) → weight trace.sizes (after past.state done) < weight trace.sizes past.state
    go (inl a) (inl b) = falling_weight charge trace events past src dst class victim done positive runs a b is
    go (inr a) b = absurd (filled (ranged_lanes charge trace events past all positive runs src dst class (inl a)))
    go a (inr b) = absurd (filled (ranged_lanes charge trace events past all positive runs src dst class (inr b)))
