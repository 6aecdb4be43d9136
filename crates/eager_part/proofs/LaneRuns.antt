-- In every run each node's share fits the machine, and so does each message in a lane: an event is what one node of the machine does, and what it takes was in a lane.
use Rattle.std.proofs.Common.{◌≡◌, ℕ, List, subst, Some, Ok}
use Rattle.std.proofs.lemmas.List.Elements.{All-head, All-nil}
use Rattle.std.specs.List.{All}
use Rattle.line_map.specs.Sizes.{AreSizes, Sizes}
use Rattle.op_model.specs.declared.events.Class.{Class}
use Rattle.op_model.specs.declared.events.Event.{Event}
use Rattle.op_model.specs.Events.Node.{EvictLine, HitNext, Input, IssueNext, ReclaimLine, TakeFrom}
use Rattle.op_model.specs.Events.Step.{Off}
use Rattle.op_model.specs.MessageWords.{IsMsgOf}
use Rattle.op_model.specs.Shares.{State, Trace, Unlinked, program}
use Rattle.node_range.specs.Range.{IsOfMachine}
use Rattle.message_range.specs.Fitting.{IsInputForOther, IsInputOf, IsShareOf}
use Rattle.message_range.proofs.Public.{IsActed, filled, program-of, share-first}
use Rattle.eager_model.specs.Runs.{Past, past_after, run, start}
use Rattle.eager_model.specs.Step.{AgedDone, effect}
use Rattle.eager_part.proofs.RangedRuns.{AreRanged, acts-in, ranged-event, ranged-start}
use Rattle.eager_part.proofs.Sends.{eager_sends}
use Rattle.eager_part.proofs.Steps.{IsDone, IsGiven, done-by, keeps-run, lane-after, sent-in, share-after}

-- what each event keeps
pub record AreFitting (trace : Trace) (state : State) : Type 0 where
  pub kept : AreRanged trace state
  pub shares : (node : ℕ) → IsShareOf trace.sizes (state.share node)
  pub lanes : (a b : ℕ) (class : Class) → All (IsMsgOf trace.sizes) (state.lane a b class)

module _ (trace : Trace) (all : IsOfMachine trace) (are : AreSizes trace.sizes) where
  abbrev sizes : Sizes
  sizes = trace.sizes

  module _ (past : Past) (fit : AreFitting trace past.state) (event : Event) (d : AgedDone) (is : effect sizes (program trace) past.state past.ages event ≡ Ok d) where
    done : IsDone sizes (program trace) past.state past.ages d
    done = done-by sizes (program trace) past.state past.ages event d is

    taken : (input : Input) (age : ℕ) (off : Off) → IsGiven sizes past.state past.ages d.node input age off → IsInputOf sizes input
    taken HitNext age off given = tt
    taken IssueNext age off given = tt
    taken (EvictLine line kind room) age off given = tt
    taken (TakeFrom src m victim) age off given = (
      (filled Unlinked trace all past.state fit.kept.ranged d.node src given.0 m given.1 given.2).0,
      All-head (IsMsgOf sizes) m given.1 (subst (All (IsMsgOf sizes)) given.2 (fit.lanes src d.node given.0)),
    )
    taken (ReclaimLine line) age off given = tt

    acted : IsActed sizes d.node (IsInputForOther d.node done.input) d.did.out
    acted =
        eager_sends sizes d.node (program trace d.node) (past.state.share d.node) done.input d.did.out are (acts-in trace all past.state fit.kept.own fit.kept.ranged past.ages d done) (program-of trace all d.node) (fit.kept.own.parts d.node) (fit.shares d.node)
        (taken done.input done.age d.off done.given) done.does

    pub fitting-event : AreFitting trace (past_after sizes past d).state
    fitting-event =
        record {
          kept = ranged-event trace all past fit.kept event d is;
          shares = share-after (λ _ share. IsShareOf sizes share) past.state d fit.shares acted.share;
          lanes = lane-after (λ _ _ _. IsMsgOf sizes) past.state d fit.lanes (λ b class k none within. (sent-in (λ _. IsMsgOf sizes) b class d.did.out.sends (λ i first less. (acted.sent i first less).message) k none within).0);
        }

  pub fitting-start : AreFitting trace (start sizes).state
  fitting-start =
      record {
        kept = ranged-start trace all;
        shares = λ node. share-first sizes node;
        lanes = λ a b class. All-nil (IsMsgOf sizes);
      }

  pub fitting-run : (events : List Event) (past : Past) → run trace events ≡ Some past → AreFitting trace past.state
  fitting-run events past runs = keeps-run trace (λ p. AreFitting trace p.state) fitting-event fitting-start events past runs

module _ (trace : Trace) (events : List Event) (past : Past) (all : IsOfMachine trace) (are : AreSizes trace.sizes) (runs : run trace events ≡ Some past) where
  pub messages_of_machine : (src dst : ℕ) (class : Class) → All (IsMsgOf trace.sizes) (past.state.lane src dst class)
  messages_of_machine src dst class = (fitting-run trace all are events past runs).lanes src dst class

  pub shares_of_machine : (node : ℕ) → IsShareOf trace.sizes (past.state.share node)
  shares_of_machine node = (fitting-run trace all are events past runs).shares node
