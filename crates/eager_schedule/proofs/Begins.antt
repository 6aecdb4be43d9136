-- What a processor's event does where it isn't refused: the row of the node's own share, for a Hit, an Issue and an eviction.
use Rattle.std.proofs.Common.{◌≡◌, ℕ, Bool, true, false, cond, not, ◌==◌, ◌&&◌, slice_get, refl, ap, sym, ◌∙◌, subst, Some, Result, Ok, Err, is_ok}
use Rattle.line_map.specs.Sizes.{Sizes, home_of, line_of}
use Rattle.op_model.specs.declared.events.Cause.{Cause}
use Rattle.op_model.specs.declared.events.Cause.TheVariants.{Conflict, HitFirst, LaneGate, Miss, Outstanding}
use Rattle.op_model.specs.declared.events.Class.TheVariants.{Request}
use Rattle.op_model.specs.declared.events.Event.{Event}
use Rattle.op_model.specs.declared.events.Event.TheVariants.{Evict, Hit, Issue}
use Rattle.op_model.specs.declared.events.EvictKind.{EvictKind}
use Rattle.op_model.specs.declared.operations.Op.{Op}
use Rattle.op_model.specs.Events.Node.{EvictLine, HitNext, Input, IssueNext, NodeOutcome, bind, by_row, departs, hit_next, is_outstanding, map_ok, with_next}
use Rattle.op_model.specs.Events.Node as delayed
use Rattle.op_model.specs.Events.Step.{Programs, act, after, has_room, none_off}
use Rattle.op_model.specs.Events.Step as delayed_step
use Rattle.op_model.specs.Lines.{Outcome}
use Rattle.op_model.specs.Run.Schedules.{make_room, other_in_set, processor_event}
use Rattle.op_model.specs.Shares.{Share, State, Trace, Unlinked, conflicts, copy_of, line_share, program, room_of}
use Rattle.op_model.specs.Tables.Processor.{evict, hit, serves}
use Rattle.lane_bounds.proofs.Public.{after_row_of}
use Rattle.eager_model.specs.Node.{aged, issue_next, local}
use Rattle.eager_model.specs.Rows.{begin_op}
use Rattle.eager_model.specs.Runs.{Past}
use Rattle.eager_model.specs.Step.{AgedDone, effect, without_ages}
use Rattle.eager_part.proofs.Public.{row-after}

-- an event does this row of a line at a node, and nothing else
abbrev pub IsMade : Trace → Past → Event → ℕ → ℕ → Outcome → Type 0
IsMade trace past event node line outcome =
    (done : AgedDone) × (effect trace.sizes (program trace) past.state past.ages event ≡ Ok done) × (after past.state (without_ages done) ≡ after_row_of trace.sizes node line outcome past.state)

module _ (trace : Trace) (past : Past) where
  abbrev sizes : Sizes
  sizes = trace.sizes

  abbrev programs : Programs
  programs = program trace

  abbrev state : State
  state = past.state

  abbrev share : ℕ → Share
  share node = state.share node

  -- what a node does by itself
  abbrev answered : ℕ → Input → Result NodeOutcome Cause → Result AgedDone Cause
  answered node input r = map_ok (λ out. record { node = node; off = none_off; did = aged sizes node (share node) (past.ages.node node) input 0 out }) r

  made : (event : Event) (node line : ℕ) (input : Input) (o : Outcome) → effect sizes programs state past.ages event ≡ answered node input (Ok (by_row sizes node (share node) line o)) → IsMade trace past event node line o
  unfolding aged
  made event node line input o is =
      (record { node = node; off = none_off; did = aged sizes node (share node) (past.ages.node node) input 0 (by_row sizes node (share node) line o) }, is, row-after sizes programs state node line o none_off state.lane (λ a b class. refl))

  module _ (p : ℕ) (op : Op) (next : slice_get (programs p) (share p).place ≡ Some op) (free : is_outstanding (share p).want ≡ false) where
    abbrev line : ℕ
    line = line_of sizes op.word

    with-op : (f : Op → Result NodeOutcome Cause) → with_next (share p) (slice_get (programs p) (share p).place) f ≡ f op
    with-op f = ap (λ o. with_next (share p) o f) next ∙ ap (λ b. cond b (Err Outstanding) (f op)) free

    -- where the copy serves or doesn't
    hits : (c : Bool) → serves op (copy_of (share p) line) ≡ c → with_next (share p) (slice_get (programs p) (share p).place) (hit_next sizes p (share p)) ≡ cond c (Ok (by_row sizes p (share p) line (hit op (line_share sizes (share p) line)))) (Err Miss)
    hits c serve = with-op (hit_next sizes p (share p)) ∙ ap (λ b. cond b (Ok (by_row sizes p (share p) line (hit op (line_share sizes (share p) line)))) (Err Miss)) serve

    pub hit-made : serves op (copy_of (share p) line) ≡ true → IsMade trace past (Hit p) p line (hit op (line_share sizes (share p) line))
    unfolding local delayed.local
    hit-made serve = made (Hit p) p line HitNext (hit op (line_share sizes (share p) line)) (ap (answered p HitNext) (hits true serve))

    -- the schedule hits where the copy serves, and else makes room
    pub event-hit : op.node ≡ p → serves op (copy_of (share p) line) ≡ true → processor_event Unlinked sizes programs state op ≡ Hit p
    unfolding delayed.local
    event-hit same serve =
        subst (λ n. cond (is_ok (delayed_step.effect Unlinked sizes programs state (Hit n))) (Hit n) (make_room sizes n (share n) (other_in_set sizes (share n) line)) ≡ Hit p) (sym same)
        (ap (λ r. cond (is_ok (act p none_off r)) (Hit p) (make_room sizes p (share p) (other_in_set sizes (share p) line))) (hits true serve))

    pub event-missed : op.node ≡ p → serves op (copy_of (share p) line) ≡ false → processor_event Unlinked sizes programs state op ≡ make_room sizes p (share p) (other_in_set sizes (share p) line)
    unfolding delayed.local
    event-missed same serve =
        subst (λ n. cond (is_ok (delayed_step.effect Unlinked sizes programs state (Hit n))) (Hit n) (make_room sizes n (share n) (other_in_set sizes (share n) line)) ≡ make_room sizes p (share p) (other_in_set sizes (share p) line)) (sym same)
        (ap (λ r. cond (is_ok (act p none_off r)) (Hit p) (make_room sizes p (share p) (other_in_set sizes (share p) line))) (hits false serve))

    pub issue-made : serves op (copy_of (share p) line) ≡ false → conflicts sizes (share p) line ≡ false → (o : Outcome) → begin_op p (home_of sizes line) (room_of Unlinked sizes (share p)) op (line_share sizes (share p) line) ≡ Ok o → IsMade trace past (Issue p) p line o
    unfolding local
    issue-made serve alone o is =
        made (Issue p) p line IssueNext o
        (ap (answered p IssueNext)
        (with-op (issue_next sizes p (share p))
        ∙ ap (λ b. cond b (Err HitFirst) (cond (conflicts sizes (share p) line) (Err Conflict) begin)) serve
        ∙ ap (λ b. cond b (Err Conflict) begin) alone
        ∙ ap (map_ok (by_row sizes p (share p) line)) is))
      where
        begin : Result NodeOutcome Cause
        begin = map_ok (by_row sizes p (share p) line) (begin_op p (home_of sizes line) (room_of Unlinked sizes (share p)) op (line_share sizes (share p) line))

  pub evict-made : (p g : ℕ) (kind : EvictKind) (o : Outcome) → evict p (home_of sizes g) kind (line_share sizes (share p) g) ≡ Ok o → (departs (p == home_of sizes g) kind && not (has_room sizes (state.lane p (home_of sizes g) Request))) ≡ false → IsMade trace past (Evict p g kind) p g o
  unfolding local delayed.local
  evict-made p g kind o is gate =
      made (Evict p g kind) p g (EvictLine g kind room) o
      (ap (answered p (EvictLine g kind room))
      (ap (λ r. bind r (λ outcome. cond (departs (p == home_of sizes g) kind && not room) (Err LaneGate) (Ok (by_row sizes p (share p) g outcome)))) is
      ∙ ap (λ b. cond b (Err LaneGate) (Ok (by_row sizes p (share p) g o))) gate))
    where
      room : Bool
      room = has_room sizes (state.lane p (home_of sizes g) Request)
