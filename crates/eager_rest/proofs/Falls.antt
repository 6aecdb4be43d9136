-- A message that is taken lowers the weight, since what its row sends is lighter. In a run of a trace of its machine each message that is taken is between nodes of it, since no other lane has one.
use Rattle.std.proofs.Common.{◌≡◌, ℕ, ◌<◌, false, List, ◌∷◌, arith, sym, Option, Some, Ok}
use Rattle.line_map.specs.Sizes.{Sizes, home_of}
use Rattle.op_model.specs.declared.events.Class.{Class}
use Rattle.op_model.specs.declared.events.Event.{Event}
use Rattle.op_model.specs.declared.events.Event.TheVariants.{Take}
use Rattle.op_model.specs.declared.messages.Msg.{Msg}
use Rattle.op_model.specs.Events.Step.{after}
use Rattle.op_model.specs.Messages.{msg_content, msg_line}
use Rattle.op_model.specs.Nodes.{listed}
use Rattle.op_model.specs.Run.Weight.{weight, weight_of}
use Rattle.op_model.specs.Shares.{State, Trace, Unlinked, header_of, is_set_empty, line_share, program, room_of}
use Rattle.lane_bounds.proofs.Public.{taken_of}
use Rattle.node_range.specs.Range.{IsOfMachine}
use Rattle.message_range.proofs.Public.{filled}
use Rattle.rest_laws.proofs.Public.{weight-sent, weight-taken}
use Rattle.eager_model.specs.Node.{taking}
use Rattle.eager_model.specs.Runs.{Past, run}
use Rattle.eager_model.specs.Step.{AgedDone, effect, without_ages}
use Rattle.eager_part.proofs.Public.{AreOwn, each-taken, home-unlisted, next, own-run, ranged-run}
use Rattle.eager_rest.proofs.Below.{eager-message-below}

module _ (trace : Trace) (state : State) (own : AreOwn trace state) where
  abbrev sizes : Sizes
  sizes = trace.sizes

  pub falls : (src dst : ℕ) → src < sizes.nodes → dst < sizes.nodes → (class : Class) (m : Msg) (rest : List Msg) → state.lane src dst class ≡ m ∷ rest →
      weight sizes (next sizes (program trace) state dst (msg_line m) (taking sizes dst (state.share dst) src m) (taken_of src dst class rest state.lane)) < weight sizes state
  falls src dst src_in dst_in class m rest front =
      let line = msg_line m in
      let a = weight-sent (weight_of sizes.nodes) sizes.nodes (taken_of src dst class rest state.lane) dst line (taking sizes dst (state.share dst) src m).sends in
      let b = weight-taken (weight_of sizes.nodes) sizes.nodes state.lane src dst class m rest front src_in dst_in in
      let c = eager-message-below sizes.nodes (room_of Unlinked sizes (state.share dst)) (line_share sizes (state.share dst) line) dst (home_of sizes line) src dst_in src_in unlisted (is_set_empty sizes (state.share dst) line) (msg_content m) in
      omega arith
    where
      unlisted : dst ≡ home_of sizes (msg_line m) → listed (header_of sizes (state.share dst) (msg_line m)).list dst ≡ false
      unlisted same = home-unlisted dst _ (line_share sizes (state.share dst) (msg_line m)) ((own.parts dst).lines (msg_line m) (sym same))

pub falling_weight : (trace : Trace) (events : List Event) (past : Past) (src dst : ℕ) (class : Class) (victim : Option ℕ) (done : AgedDone) → 0 < trace.sizes.words → run trace events ≡ Some past → src < trace.sizes.nodes → dst < trace.sizes.nodes →
    effect trace.sizes (program trace) past.state past.ages (Take src dst class victim) ≡ Ok done → weight trace.sizes (after past.state (without_ages done)) < weight trace.sizes past.state
falling_weight trace events past src dst class victim done positive runs src_in dst_in is =
    each-taken trace.sizes (program trace) past.state (λ s. weight trace.sizes s < weight trace.sizes past.state) past.ages src dst class victim
    (falls trace past.state (own-run trace events past runs) src dst src_in dst_in class) done is

pub falling_take : (trace : Trace) (events : List Event) (past : Past) (src dst : ℕ) (class : Class) (victim : Option ℕ) (done : AgedDone) → IsOfMachine trace → run trace events ≡ Some past →
    effect trace.sizes (program trace) past.state past.ages (Take src dst class victim) ≡ Ok done → weight trace.sizes (after past.state (without_ages done)) < weight trace.sizes past.state
falling_take trace events past src dst class victim done all runs is =
    let kept = ranged-run trace all events past runs in
    each-taken trace.sizes (program trace) past.state (λ s. weight trace.sizes s < weight trace.sizes past.state) past.ages src dst class victim
    (λ m rest front. let ends = filled Unlinked trace all past.state kept.ranged dst src class m rest front in falls trace past.state kept.own src dst ends.0 ends.1 class m rest front) done is
