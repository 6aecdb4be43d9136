-- In every run each message in a lane is of the lane's class, on its way and to another node, and a forward asks its owner for another node.
use Rattle.std.proofs.Common.{◌≡◌, ◌≢◌, ℕ, List, [], ◌∷◌, refl, sym, subst, Some, Ok}
use Rattle.std.proofs.lemmas.List.Elements.{All-cons, All-head, All-nil}
use Rattle.std.specs.List.{All}
use Rattle.line_map.specs.Sizes.{Sizes, home_of, line_of}
use Rattle.op_model.specs.declared.events.Class.{Class}
use Rattle.op_model.specs.declared.events.Event.{Event}
use Rattle.op_model.specs.declared.events.EvictKind.{EvictKind}
use Rattle.op_model.specs.declared.messages.Msg.{Msg}
use Rattle.op_model.specs.declared.operations.Op.{Op}
use Rattle.op_model.specs.Events.Node.{Input, NodeOutcome, messages}
use Rattle.op_model.specs.Events.Step.{Off}
use Rattle.op_model.specs.Lines.{LineShare, Outcome, Room}
use Rattle.op_model.specs.Messages.{Content, message, msg_class, msg_content, msg_content-message, msg_line, msg_line-message}
use Rattle.op_model.specs.Shares.{Share, State, Trace, Unlinked, is_set_empty, line_share, program, room_of}
use Rattle.op_model.specs.Tables.Processor.{evict, hit}
use Rattle.lane_bounds.specs.Ways.{IsOnWay, IsWay}
use Rattle.message_range.specs.Fitting.{IsContentForOther, IsMsgForOther}
use Rattle.eager_model.specs.Node.{taking}
use Rattle.eager_model.specs.Rows.{begin_op}
use Rattle.eager_model.specs.Runs.{Past, past_after, run, start}
use Rattle.eager_model.specs.Step.{AgedDone, effect}
use Rattle.eager_part.proofs.Acts.{line-of}
use Rattle.eager_part.proofs.EachAct.{each-act}
use Rattle.eager_part.proofs.HomeWays.{AreGoing}
use Rattle.eager_part.proofs.OwnRuns.{AreOwn, own-event, own-start}
use Rattle.eager_part.proofs.Steps.{IsDone, IsGiven, done-by, keeps-run, lane-after, sent-in}
use Rattle.eager_part.proofs.Ways.{eager-begin-going, eager-message-going, evict-going}

-- a message from one node to another
abbrev pub Goes : Sizes → ℕ → ℕ → Msg → Type 0
Goes sizes a b m = IsOnWay sizes a b m × IsMsgForOther b m × (a ≢ b)

-- what each event keeps
pub record AreOnWays (trace : Trace) (state : State) : Type 0 where
  pub own : AreOwn trace state
  pub lanes : (a b : ℕ) (class : Class) → All (λ m. Goes trace.sizes a b m × (msg_class m ≡ class)) (state.lane a b class)

-- no node sends to itself
pub own-empty : (trace : Trace) (state : State) → AreOnWays trace state → (n : ℕ) (class : Class) → state.lane n n class ≡ []
own-empty trace state is n class = go (state.lane n n class) (is.lanes n n class)
  where
    go : (ms : List Msg) → All (λ m. Goes trace.sizes n n m × (msg_class m ≡ class)) ms → ms ≡ []
    go [] each = refl
    go (m ∷ ms) each = absurd ((All-head (λ k. Goes trace.sizes n n k × (msg_class k ≡ class)) m ms each).0.2 refl)

-- what a row sends, as messages
sent-all : (sizes : Sizes) (me line : ℕ) (sends : List (ℕ × Content)) → AreGoing (home_of sizes line) me sends → All (λ send. Goes sizes me send.0 send.1) (messages line sends)
sent-all sizes me line [] h = All-nil (λ (send : ℕ × Msg). Goes sizes me send.0 send.1)
sent-all sizes me line (send ∷ sends) h =
    All-cons (λ (send : ℕ × Msg). Goes sizes me send.0 send.1) (send.0, message line send.1) (messages line sends) (
      subst (λ l. IsWay (home_of sizes l) me send.0 (msg_content (message line send.1))) (sym (msg_line-message line send.1)) (subst (IsWay (home_of sizes line) me send.0) (sym (msg_content-message line send.1)) h.0.0),
      subst (IsContentForOther send.0) (sym (msg_content-message line send.1)) h.0.1,
      h.0.2,
    )
    (sent-all sizes me line sends h.1)

module _ (trace : Trace) (past : Past) (is : AreOnWays trace past.state) where
  abbrev sizes : Sizes
  sizes = trace.sizes

  module _ (node : ℕ) where
    abbrev share : Share
    share = past.state.share node

    abbrev room : Room
    room = room_of Unlinked sizes share

    abbrev at : ℕ → LineShare
    at line = line_share sizes share line

    abbrev Sends : Input → NodeOutcome → Type 0
    Sends input out = (age : ℕ) (off : Off) → IsGiven sizes past.state past.ages node input age off → All (λ send. Goes sizes node send.0 send.1) out.sends

    pub hit-goes : (op : Op) → AreGoing (home_of sizes (line_of sizes op.word)) node (hit op (at (line_of sizes op.word))).sends
    unfolding hit
    hit-goes op = tt

    pub begin-goes : (op : Op) (o : Outcome) → begin_op node (home_of sizes (line_of sizes op.word)) room op (at (line_of sizes op.word)) ≡ Ok o → AreGoing (home_of sizes (line_of sizes op.word)) node o.sends
    begin-goes op o e = let line = line_of sizes op.word in eager-begin-going node (home_of sizes line) room (at line) (line-of sizes node (program trace node) share (is.own.parts node) line) op o e

    pub evict-goes : (line : ℕ) (kind : EvictKind) (o : Outcome) → evict node (home_of sizes line) kind (at line) ≡ Ok o → AreGoing (home_of sizes line) node o.sends
    evict-goes line kind o e = evict-going node (home_of sizes line) (at line) kind o e

    pub take-goes : (src : ℕ) (class : Class) (m : Msg) (rest : List Msg) → past.state.lane src node class ≡ m ∷ rest → AreGoing (home_of sizes (msg_line m)) node (taking sizes node share src m).sends
    take-goes src class m rest front =
        let line = msg_line m in
        let first = All-head (λ k. Goes sizes src node k × (msg_class k ≡ class)) m rest (subst (All (λ k. Goes sizes src node k × (msg_class k ≡ class))) front (is.lanes src node class)) in
        eager-message-going node (home_of sizes line) room (at line) (line-of sizes node (program trace node) share (is.own.parts node) line) src (is_set_empty sizes share line) (msg_content m) first.0.1

  sends : (d : AgedDone) → IsDone sizes (program trace) past.state past.ages d → All (λ send. Goes sizes d.node send.0 send.1) d.did.out.sends
  sends d done =
      each-act sizes d.node (program trace d.node) (past.state.share d.node) (Sends d.node)
      (record {
        hits = λ op _ _ _ _ _ _. sent-all sizes d.node (line_of sizes op.word) _ (hit-goes d.node op);
        begins = λ op _ _ _ o row _ _ _. sent-all sizes d.node (line_of sizes op.word) o.sends (begin-goes d.node op o row);
        evicts = λ line kind _ o row _ _ _. sent-all sizes d.node line o.sends (evict-goes d.node line kind o row);
        takes = λ src m _ _ given. sent-all sizes d.node (msg_line m) (taking sizes d.node (past.state.share d.node) src m).sends (take-goes d.node src given.0 m given.1 given.2);
      }) done.input d.did.out done.does done.age d.off done.given

  pub way-event : (event : Event) (d : AgedDone) → effect sizes (program trace) past.state past.ages event ≡ Ok d → AreOnWays trace (past_after sizes past d).state
  way-event event d e =
      record {
        own = own-event trace past is.own event d e;
        lanes = lane-after (λ a b class m. Goes sizes a b m × (msg_class m ≡ class)) past.state d is.lanes (λ b class. sent-in (Goes sizes d.node) b class d.did.out.sends (sends d (done-by sizes (program trace) past.state past.ages event d e)));
      }

pub way-start : (trace : Trace) → AreOnWays trace (start trace.sizes).state
way-start trace = record { own = own-start trace; lanes = λ a b class. All-nil (λ m. Goes trace.sizes a b m × (msg_class m ≡ class)) }

module _ (trace : Trace) (events : List Event) (past : Past) (runs : run trace events ≡ Some past) where
  pub way-run : AreOnWays trace past.state
  way-run = keeps-run trace (λ p. AreOnWays trace p.state) (λ p is event d e. way-event trace p is event d e) (way-start trace) events past runs

  pub lane_class : (a b : ℕ) (class : Class) → All (λ m. msg_class m ≡ class) (past.state.lane a b class)
  lane_class a b class k d lt = (way-run.lanes a b class k d lt).1

  pub lane_way : (a b : ℕ) (class : Class) → All (IsOnWay trace.sizes a b) (past.state.lane a b class)
  lane_way a b class k d lt = (way-run.lanes a b class k d lt).0.0

  pub lane_asks : (a b : ℕ) (class : Class) → All (IsMsgForOther b) (past.state.lane a b class)
  lane_asks a b class k d lt = (way-run.lanes a b class k d lt).0.1

  pub own_lane : (n : ℕ) (class : Class) → past.state.lane n n class ≡ []
  own_lane n class = own-empty trace past.state way-run n class
