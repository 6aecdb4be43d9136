-- The only message under way is delivered: what its row does, with a line that is called in or without.
use Rattle.std.proofs.Common.{◌≡◌, ℕ, suc, ◌+◌, ◌<◌, ◌≤◌, Bool, true, false, List, [], ◌∷◌, refl, arith, sym, ◌∙◌, subst, Option, Some, Ok}
use Rattle.line_map.specs.Sizes.{Sizes}
use Rattle.op_model.specs.declared.events.Event.{Event}
use Rattle.op_model.specs.declared.messages.Msg.{Msg}
use Rattle.op_model.specs.Events.Step.{Done, effect}
use Rattle.op_model.specs.Messages.{msg_class, msg_content, msg_line}
use Rattle.op_model.specs.Run.Runs.{Past, past_after}
use Rattle.op_model.specs.Run.Schedules.{Lane, delivery, first_busy}
use Rattle.op_model.specs.Shares.{Charge, State, Trace, program}
use Rattle.lane_bounds.proofs.Public.{Act, IsActOf, after_act, after_row_of, asks_victim, each-taken, is_fit}
use Rattle.lane_bounds.proofs.Public.{row_at, taken_of, taking}
use Rattle.rest_laws.proofs.Public.{delivery-done}
use Rattle.schedule_laws.specs.Courses.{naks_sent}
use Rattle.schedule_laws.proofs.Known.{Delivers, IsKnown, IsNoNak, IsUsual, act-naks, act-silent, known-event, naks_of}
use Rattle.schedule_laws.proofs.Rounds.{IsRound, round-after, round-naks}
use Rattle.schedule_laws.proofs.Single.{OnlyOne, first-one, one-front}
use Rattle.schedule_laws.proofs.Under.{AllSent}

pub same-front : (m other : Msg) (rest : List Msg) → ◌≡◌ {A = List Msg} (other ∷ rest) (m ∷ []) → (m ≡ other) × ([] ≡ rest)
same-front m other rest e = (cc, cc)

no-naks : (n : ℕ) → n ≡ 0 → n ≤ 0
no-naks n e = omega arith

module _ (charge : Charge) (trace : Trace) (usual : IsUsual trace) (next : State → Option Event) (delivers : Delivers charge trace usual next)
    (past : Past) (known : IsKnown charge trace past) (node to : ℕ) (m : Msg) (only : OnlyOne node to m past.state.lane) (node_in : node < trace.sizes.nodes) (to_in : to < trace.sizes.nodes) where
  abbrev sizes : Sizes
  sizes = trace.sizes

  abbrev state : State
  state = past.state

  abbrev lane : Lane
  lane = record { src = node; dst = to; class = msg_class m }

  abbrev event : Event
  event = delivery charge sizes state lane

  busy : first_busy sizes state ≡ Some lane
  busy = first-one sizes state node to m only node_in to_in

  abbrev Taken : Act
  Taken = taking charge sizes state node to (msg_class m) m []

  abbrev asks : Bool
  asks = asks_victim charge sizes state node to (msg_line m) (msg_content m)

  -- what is so of the message at the front is so of the only one
  at-front : (P : Msg → List Msg → Type 0) → P m [] → (other : Msg) (rest : List Msg) → state.lane node to (msg_class m) ≡ other ∷ rest → P other rest
  at-front P it other rest front =
      let same = same-front m other rest (sym front ∙ one-front node to m state.lane only) in
      subst (λ r. P other r) same.1 (subst (λ x. P x []) same.0 it)

  done : (done : Done) × (effect charge sizes (program trace) state event ≡ Ok done)
  done = let does = delivery-done charge trace usual.words usual.lines usual.links past known.sound known.bounded lane busy in (does.0, does.1)

  alone : asks ≡ false → IsActOf sizes state done.0 Taken
  alone not =
      let met = each-taken charge trace usual.words past known.sound (λ a. a ≡ Taken) node to (msg_class m)
      (record {
        takes = λ other rest front unasked. at-front (λ x r. taking charge sizes state node to (msg_class m) x r ≡ Taken) refl other rest front;
        calls = λ other rest g front asked fit. absurd (at-front (λ x r. asks_victim charge sizes state node to (msg_line x) (msg_content x) ≡ true → ⊥) (λ e. let n : true ≡ false = sym e ∙ not in cc) other rest front asked);
      }) _ done.0 done.1 in
      subst (IsActOf sizes state done.0) met.1 met.2

  calling : asks ≡ true → (g : ℕ) × (is_fit charge sizes state to g ≡ true) × IsActOf sizes state done.0 (record Taken { called = Some g })
  calling asked =
      let met = each-taken charge trace usual.words past known.sound (λ a. (g : ℕ) × (is_fit charge sizes state to g ≡ true) × (a ≡ record Taken { called = Some g })) node to (msg_class m)
      (record {
        takes = λ other rest front unasked. absurd (at-front (λ x r. asks_victim charge sizes state node to (msg_line x) (msg_content x) ≡ false → ⊥) (λ e. let n : true ≡ false = sym asked ∙ e in cc) other rest front unasked);
        calls = λ other rest g front calls fit. (g, fit, at-front (λ x r. record (taking charge sizes state node to (msg_class m) x r) { called = Some g } ≡ record Taken { called = Some g }) refl other rest front);
      }) _ done.0 done.1 in
      ((met.1).0, (met.1).1, subst (IsActOf sizes state done.0) (met.1).2 met.2)

  module _ (p : ℕ) (places : ℕ → ℕ) (most naks : ℕ) where
    -- a message that calls no line in, and whose row sends no Nak
    pub round-taken : asks ≡ false → AllSent IsNoNak (row_at charge sizes state node to (msg_line m) (msg_content m)).sends →
        ((then : Past) → IsKnown charge trace then → then.state ≡ after_row_of sizes to (msg_line m) (row_at charge sizes state node to (msg_line m) (msg_content m)) (record state { lane = taken_of node to (msg_class m) [] state.lane }) →
        IsRound charge trace usual next delivers p places then most naks) → IsRound charge trace usual next delivers p places past (suc most) naks
    unfolding after_act
    round-taken not all later =
        let act = alone not in
        let silent = act-silent sizes state done.0 Taken act all in
        round-naks charge trace usual next delivers p places past (suc most) (0 + naks) naks (omega arith)
        (round-after charge trace usual next delivers p places past most naks 0 event done.0 (delivers state lane busy) done.1 (no-naks (naks_sent done.0) silent)
        (later (past_after sizes past done.0) (known-event charge trace usual past known event done.0 done.1) act.same))

    -- a message that calls a line in
    pub round-calling : asks ≡ true → naks_of (row_at charge sizes state node to (msg_line m) (msg_content m)).sends ≤ 1 →
        ((g : ℕ) (then : Past) → is_fit charge sizes state to g ≡ true → IsKnown charge trace then → then.state ≡ after_act sizes (record Taken { called = Some g }) state → IsRound charge trace usual next delivers p places then most naks) →
        IsRound charge trace usual next delivers p places past (suc most) (1 + naks)
    round-calling asked one later =
        let called = calling asked in
        round-after charge trace usual next delivers p places past most naks 1 event done.0 (delivers state lane busy) done.1 (subst (λ n. n ≤ 1) (sym (act-naks sizes state done.0 (record Taken { called = Some called.0 }) called.2)) one)
        (later called.0 (past_after sizes past done.0) called.1 (known-event charge trace usual past known event done.0 done.1) (called.2).same)
