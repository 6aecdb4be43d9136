-- In every run each node's share keeps what holds of it, and its place is within its program.
use Rattle.std.proofs.Common.{◌≡◌, ℕ, ◌≤◌, List, length, arith, Some, Ok}
use Rattle.op_model.specs.declared.events.Event.{Event}
use Rattle.op_model.specs.Shares.{State, Trace, program}
use Rattle.eager_model.specs.Runs.{Past, past_after, run, start}
use Rattle.eager_model.specs.Step.{AgedDone, effect}
use Rattle.eager_part.specs.Part.{IsEagerPart}
use Rattle.eager_part.proofs.Acts.{eager_act}
use Rattle.eager_part.proofs.Places.{eager_placed}
use Rattle.eager_part.proofs.Starts.{eager_first}
use Rattle.eager_part.proofs.Steps.{done-by, keeps-run, share-after}

-- what each event keeps of each node's share
pub record AreOwn (trace : Trace) (state : State) : Type 0 where
  pub parts : (node : ℕ) → IsEagerPart trace.sizes node (program trace node) (state.share node)
  pub placed : (node : ℕ) → (state.share node).place ≤ length (program trace node)

module _ (trace : Trace) where
  pub own-event : (past : Past) → AreOwn trace past.state → (event : Event) (d : AgedDone) → effect trace.sizes (program trace) past.state past.ages event ≡ Ok d → AreOwn trace (past_after trace.sizes past d).state
  own-event past own event d is =
      let done = done-by trace.sizes (program trace) past.state past.ages event d is in
      record {
        parts = share-after (λ n share. IsEagerPart trace.sizes n (program trace n) share) past.state d own.parts (eager_act trace.sizes d.node (program trace d.node) (past.state.share d.node) done.input d.did.out (own.parts d.node) done.does);
        placed = share-after (λ n share. share.place ≤ length (program trace n)) past.state d own.placed (eager_placed trace.sizes d.node (program trace d.node) (past.state.share d.node) done.input d.did.out (own.parts d.node) (own.placed d.node) done.does);
      }

  pub own-start : AreOwn trace (start trace.sizes).state
  own-start = record { parts = λ node. eager_first trace.sizes node (program trace node); placed = λ node. omega arith }

  pub own-run : (events : List Event) (past : Past) → run trace events ≡ Some past → AreOwn trace past.state
  own-run events past runs = keeps-run trace (λ p. AreOwn trace p.state) own-event own-start events past runs

pub eager_own_run : (trace : Trace) (events : List Event) (past : Past) (node : ℕ) → run trace events ≡ Some past → IsEagerPart trace.sizes node (program trace node) (past.state.share node)
eager_own_run trace events past node runs = (own-run trace events past runs).parts node

pub eager_place_run : (trace : Trace) (events : List Event) (past : Past) (node : ℕ) → run trace events ≡ Some past → (past.state.share node).place ≤ length (program trace node)
eager_place_run trace events past node runs = (own-run trace events past runs).placed node
