-- What each event makes of the whole state, by its row: at which node and line, from which lanes. A law of the state has one case for each kind of event.
use Rattle.std.proofs.Common.{◌≡◌, ℕ, Bool, true, false, cond, ◌==◌, drop, slice_get, List, [], ◌∷◌, ◌++◌, refl, ap, sym, subst, ◌∙◌, Option, Some, None, Result, Ok, Err}
use Rattle.line_map.specs.Sizes.{Sizes, home_of, line_of}
use Rattle.op_model.specs.declared.events.Cause.{Cause}
use Rattle.op_model.specs.declared.events.Cause.TheVariants.{LaneEmpty, LaneGate, VictimUnasked}
use Rattle.op_model.specs.declared.events.Class.{Class}
use Rattle.op_model.specs.declared.events.Class.TheVariants.{Request}
use Rattle.op_model.specs.declared.events.Event.{Event}
use Rattle.op_model.specs.declared.events.Event.TheVariants.{Take}
use Rattle.op_model.specs.declared.events.EvictKind.{EvictKind}
use Rattle.op_model.specs.declared.messages.Msg.{Msg}
use Rattle.op_model.specs.declared.operations.Op.{Op}
use Rattle.op_model.specs.Events.Node.{EvictLine, HitNext, Input, IssueNext, NodeOutcome, TakeFrom, bind, by_row, departs, map_ok}
use Rattle.op_model.specs.Events.Node as delayed
use Rattle.op_model.specs.Events.Step.{Off, Programs, after, has_room, none_off, one_off, put_at}
use Rattle.op_model.specs.Lines.{LineShare, Outcome}
use Rattle.op_model.specs.Messages.{msg_line}
use Rattle.op_model.specs.Shares.{Lanes, State, Unlinked, conflicts, copy_of, line_share, put_share, room_of}
use Rattle.op_model.specs.Tables.Processor.{evict, hit, serves}
use Rattle.op_model.proofs.Public.{err-ok}
use Rattle.lane_bounds.proofs.Public.{after_row_of, is_gated, lane-tagged, one-taken, taken_of}
use Rattle.eager_model.specs.Node.{aged, local, taking}
use Rattle.eager_model.specs.Rows.{begin_op}
use Rattle.eager_model.specs.Step.{AgedDone, Ages, and_answer, answer, effect, first_age, front, without_ages}
use Rattle.eager_part.proofs.EachAct.{each-act}
use Rattle.eager_part.proofs.Steps.{IsGiven, done-by}

module _ (sizes : Sizes) (programs : Programs) (state : State) where
  abbrev at : ℕ → ℕ → LineShare
  at node line = line_share sizes (state.share node) line

  -- the state after a row of a line at a node, from these lanes
  abbrev pub next : ℕ → ℕ → Outcome → Lanes → State
  next node line o lane = after_row_of sizes node line o (record state { lane = lane })

  -- What is shown of the state after each event
  pub record IsEachEvent (P : State → Type 0) : Type 0 where
    pub hits : (node : ℕ) (op : Op) → slice_get (programs node) (state.share node).place ≡ Some op → (state.share node).want ≡ None → serves op (copy_of (state.share node) (line_of sizes op.word)) ≡ true →
        P (next node (line_of sizes op.word) (hit op (at node (line_of sizes op.word))) state.lane)
    pub begins : (node : ℕ) (op : Op) → slice_get (programs node) (state.share node).place ≡ Some op → (state.share node).want ≡ None → conflicts sizes (state.share node) (line_of sizes op.word) ≡ false → (o : Outcome) →
        begin_op node (home_of sizes (line_of sizes op.word)) (room_of Unlinked sizes (state.share node)) op (at node (line_of sizes op.word)) ≡ Ok o → P (next node (line_of sizes op.word) o state.lane)
    pub evicts : (node line : ℕ) (kind : EvictKind) (o : Outcome) → evict node (home_of sizes line) kind (at node line) ≡ Ok o → is_gated sizes state node (home_of sizes line) kind ≡ false → P (next node line o state.lane)
    pub takes : (src dst : ℕ) (class : Class) (m : Msg) (rest : List Msg) → state.lane src dst class ≡ m ∷ rest → P (next dst (msg_line m) (taking sizes dst (state.share dst) src m) (taken_of src dst class rest state.lane))

  pub row-after : (node line : ℕ) (o : Outcome) (off : Off) (lane : Lanes) → ((a b : ℕ) (class : Class) → drop (off a b class) (state.lane a b class) ≡ lane a b class) → after state (record { node = node; out = by_row sizes node (state.share node) line o; off = off }) ≡ next node line o lane
  row-after node line o off lane dropped = λ i. record {
    share = put_at state.share node (put_share sizes (node == home_of sizes line) line o.done o.share (state.share node));
    lane = λ a b class. dropped a b class i ++ cond (a == node) (lane-tagged line b class o.sends i) [];
  }

  -- a message is taken
  taken-shown : (P : State → Type 0) (src dst : ℕ) (m : Msg) (class : Class) (rest : List Msg) → state.lane src dst class ≡ m ∷ rest → (off : Off) → off ≡ one_off src dst class →
      P (next dst (msg_line m) (taking sizes dst (state.share dst) src m) (taken_of src dst class rest state.lane)) → P (after state (record { node = dst; out = by_row sizes dst (state.share dst) (msg_line m) (taking sizes dst (state.share dst) src m); off = off }))
  taken-shown P src dst m class rest is off one shown =
      subst P (sym (row-after dst (msg_line m) (taking sizes dst (state.share dst) src m) off (taken_of src dst class rest state.lane) (λ a b k. ap (λ (f : Off). drop (f a b k) (state.lane a b k)) one ∙ one-taken state src dst class m rest is a b k))) shown

  pub each-taken : (P : State → Type 0) (ages : Ages) (src dst : ℕ) (class : Class) (victim : Option ℕ) →
      ((m : Msg) (rest : List Msg) → state.lane src dst class ≡ m ∷ rest → P (next dst (msg_line m) (taking sizes dst (state.share dst) src m) (taken_of src dst class rest state.lane))) →
      (d : AgedDone) → effect sizes programs state ages (Take src dst class victim) ≡ Ok d → P (after state (without_ages d))
  unfolding local aged
  each-taken P ages src dst class victim takes = fronts (state.lane src dst class) refl victim
    where
      Gives : Result AgedDone Cause → Type 0
      Gives r = (d : AgedDone) → r ≡ Ok d → P (after state (without_ages d))

      fronts : (messages : List Msg) → state.lane src dst class ≡ messages → (victim : Option ℕ) → Gives (and_answer (front src dst class victim (ages.lane src dst class) messages) (answer sizes programs state ages))
      fronts [] is victim d e = absurd (err-ok LaneEmpty d e)
      fronts (m ∷ rest) is (Some g) d e = absurd (err-ok VictimUnasked d e)
      fronts (m ∷ rest) is None d e =
          let out : NodeOutcome = by_row sizes dst (state.share dst) (msg_line m) (taking sizes dst (state.share dst) src m) in
          let same : ◌≡◌ {A = AgedDone} (record { node = dst; off = one_off src dst class; did = aged sizes dst (state.share dst) (ages.node dst) (TakeFrom src m None) (first_age (ages.lane src dst class)) out }) d = cc in
          subst (λ x. P (after state (without_ages x))) same (taken-shown P src dst m class rest is (one_off src dst class) refl (takes m rest is))

  -- an eviction that is done was let through the gate
  gate-open : (node line : ℕ) (kind : EvictKind) (o : Outcome) (out : NodeOutcome) → evict node (home_of sizes line) kind (at node line) ≡ Ok o →
      local sizes node (programs node) (state.share node) (EvictLine line kind (has_room sizes (state.lane node (home_of sizes line) Request))) ≡ Ok out → is_gated sizes state node (home_of sizes line) kind ≡ false
  unfolding local delayed.local
  gate-open node line kind o out is e =
      go (is_gated sizes state node (home_of sizes line) kind)
      (sym (ap (λ r. bind r (λ outcome. cond (is_gated sizes state node (home_of sizes line) kind) (Err LaneGate) (Ok (by_row sizes node (state.share node) line outcome)))) is) ∙ e)
    where
      go : (c : Bool) → cond c (Err LaneGate) (Ok (by_row sizes node (state.share node) line o)) ≡ Ok out → c ≡ false
      go true e = absurd (err-ok LaneGate out e)
      go false e = refl

  module _ (P : State → Type 0) (each : IsEachEvent P) (ages : Ages) where
    abbrev Shown : ℕ → Input → NodeOutcome → Type 0
    Shown node input out = local sizes node (programs node) (state.share node) input ≡ Ok out → (age : ℕ) (off : Off) → IsGiven sizes state ages node input age off → P (after state (record { node = node; out = out; off = off }))

    -- a row that takes no message
    quietly : (node line : ℕ) (o : Outcome) (off : Off) → off ≡ none_off → P (next node line o state.lane) → P (after state (record { node = node; out = by_row sizes node (state.share node) line o; off = off }))
    quietly node line o off none shown = subst P (sym (row-after node line o off state.lane (λ a b class. ap (λ (f : Off). drop (f a b class) (state.lane a b class)) none))) shown

    pub each-event : (event : Event) (d : AgedDone) → effect sizes programs state ages event ≡ Ok d → P (after state (without_ages d))
    each-event event d e =
        let done = done-by sizes programs state ages event d e in
        each-act sizes d.node (programs d.node) (state.share d.node) (Shown d.node)
        (record {
          hits = λ op is free serve _ _ off none. quietly d.node (line_of sizes op.word) (hit op (at d.node (line_of sizes op.word))) off none (each.hits d.node op is free serve);
          begins = λ op is free alone o row _ _ off none. quietly d.node (line_of sizes op.word) o off none (each.begins d.node op is free alone o row);
          evicts = λ line kind gate o row does age off given. quietly d.node line o off given.1 (each.evicts d.node line kind o row (gate-open d.node line kind o _ row (subst (λ k. local sizes d.node (programs d.node) (state.share d.node) (EvictLine line kind k) ≡ Ok (by_row sizes d.node (state.share d.node) line o)) given.0 does)));
          takes = λ src m _ age off given. taken-shown P src d.node m given.0 given.1 given.2 off given.4 (each.takes src d.node given.0 m given.1 given.2);
        }) done.input d.did.out done.does done.does done.age d.off done.given
