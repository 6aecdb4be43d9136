-- What is known of every moment of a run, and what a run of delivery steps comes to while something holds and less and less is left.
use Rattle.std.proofs.Common.{◌≡◌, ℕ, zero, suc, ◌+◌, ◌<◌, ◌≤◌, Bool, true, false, cond, List, [], ◌∷◌, ◌++◌, length, refl, arith, ap, ◌∙◌, Option, Some, None, Ok}
use Rattle.line_map.specs.Sizes.{Sizes}
use Rattle.op_model.specs.declared.events.Event.{Event}
use Rattle.op_model.specs.declared.messages.Msg.{Msg}
use Rattle.op_model.specs.Events.Node.{messages}
use Rattle.op_model.specs.Events.Step.{Done, effect, after}
use Rattle.op_model.specs.Messages.{Content, msg_content, msg_content-message}
use Rattle.op_model.specs.Run.Runs.{Past, past_after, run}
use Rattle.op_model.specs.Run.Schedules.{Lane, first_busy, delivery}
use Rattle.op_model.specs.Run.Weight.{IsClear}
use Rattle.op_model.specs.Shares.{Charge, Trace, State, program}
use Rattle.one_history.specs.Sound.{IsSound}
use Rattle.one_history.proofs.Public.{keeps-event}
use Rattle.lane_bounds.proofs.Public.{Act, IsActOf, IsBounded, bounded-event, bounded-run, finds}
use Rattle.node_range.specs.Range.{IsOfMachine, IsRanged}
use Rattle.node_range.proofs.Public.{ranged-event, ranged-run}
use Rattle.rest_laws.proofs.Public.{delivery-done, first-none}
use Rattle.schedule_laws.specs.Courses.{IsCourse, naks_in, is_any_nak, nak_count, naks_sent}
use Rattle.schedule_laws.proofs.Courses.{naks-cons}
use Rattle.schedule_laws.proofs.Under.{AllSent}

-- a message that is no Nak
abbrev pub IsNoNak : Content → Type 0
IsNoNak content = is_any_nak content ≡ false

-- how many Naks a row sends
abbrev pub naks_of : List (ℕ × Content) → ℕ
naks_of [] = 0
naks_of (send ∷ sends) = cond {A = ℕ} (is_any_nak send.1) 1 0 + naks_of sends

-- what is sent beside a row holds no Nak, and so its Naks are the row's
row-naks : (line : ℕ) (sends : List (ℕ × Content)) (more : List (ℕ × Msg)) → finds is_any_nak more ≡ false → naks_in (messages line sends ++ more) ≡ naks_of sends
row-naks line [] [] none = refl
row-naks line [] (send ∷ more) none = go (is_any_nak (msg_content send.1)) none (row-naks line [] more)
  where
    go : (c : Bool) → cond c true (finds is_any_nak more) ≡ false → (finds is_any_nak more ≡ false → naks_in more ≡ 0) → cond {A = ℕ} c 1 0 + naks_in more ≡ 0
    go true e later = cc
    go false e later = let rest = later e in omega arith
row-naks line (send ∷ sends) more none =
    ap (λ c. cond {A = ℕ} (is_any_nak c) 1 0 + naks_in (messages line sends ++ more)) (msg_content-message line send.1)
    ∙ ap (λ n. cond {A = ℕ} (is_any_nak send.1) 1 0 + n) (row-naks line sends more none)

-- the Naks of an act are those of its row
pub act-naks : (sizes : Sizes) (state : State) (done : Done) (made : Act) → IsActOf sizes state done made → naks_sent done ≡ naks_of made.outcome.sends
act-naks sizes state done made is =
    let sends = is.sends in
    ap naks_in sends.1 ∙ row-naks made.line made.outcome.sends sends.0 (sends.2 is_any_nak refl)

none-of : (sends : List (ℕ × Content)) → AllSent IsNoNak sends → naks_of sends ≡ 0
none-of [] all = refl
none-of (send ∷ sends) all =
    let rest = none-of sends all.1 in
    let first : cond {A = ℕ} (is_any_nak send.1) 1 0 ≡ 0 = ap (λ c. cond {A = ℕ} c 1 0) all.0 in
    omega arith

-- an act whose row sends no Nak sends none
pub act-silent : (sizes : Sizes) (state : State) (done : Done) (made : Act) → IsActOf sizes state done made → AllSent IsNoNak made.outcome.sends → naks_sent done ≡ 0
act-silent sizes state done made is all = act-naks sizes state done made is ∙ none-of made.outcome.sends all

none-more : (k n : ℕ) → k ≡ 0 → n ≡ 0 → k + n ≡ 0
none-more k n e f = omega arith

-- A moment of a run: what holds of the machine, its bounds, and that nothing is at nodes that it doesn't have
pub record IsKnown (charge : Charge) (trace : Trace) (past : Past) : Type 0 where
  pub sound : IsSound trace past
  pub bounded : IsBounded charge trace.sizes past.state
  pub ranged : IsRanged trace.sizes past.state

-- what a machine and a trace have
pub record IsUsual (trace : Trace) : Type 0 where
  pub words : 0 < trace.sizes.words
  pub lines : 0 < trace.sizes.lines
  pub links : 0 < trace.sizes.links
  pub pending : 0 < trace.sizes.pending
  pub evicts : 0 < trace.sizes.evicts
  pub ops : IsOfMachine trace

module _ (charge : Charge) (trace : Trace) (usual : IsUsual trace) where
  abbrev sizes : Sizes
  sizes = trace.sizes

  pub known-event : (past : Past) → IsKnown charge trace past → (event : Event) (done : Done) → effect charge sizes (program trace) past.state event ≡ Ok done → IsKnown charge trace (past_after sizes past done)
  known-event past known event done is =
      record {
        sound = keeps-event charge trace usual.words past known.sound event done is;
        bounded = bounded-event charge trace usual.words past known.sound known.bounded event done is;
        ranged = ranged-event charge trace usual.ops usual.words past known.sound known.ranged event done is;
      }

  pub known-run : (events : List Event) (past : Past) → run charge trace events ≡ Some past → IsKnown charge trace past
  known-run events past runs =
      let both = bounded-run charge trace events past usual.words runs in
      record { sound = both.0; bounded = both.1; ranged = ranged-run charge trace usual.ops events past usual.words runs }

  -- a schedule that delivers what is under way
  abbrev pub Delivers : (State → Option Event) → Type 0
  Delivers next = (state : State) (lane : Lane) → first_busy sizes state ≡ Some lane → next state ≡ Some (delivery charge sizes state lane)

  -- what settling comes to
  pub record IsSettled (next : State → Option Event) (Holds : Past → Type 0) (past : Past) (most : ℕ) : Type 0 where
    pub events : List Event
    pub end : Past
    pub course : IsCourse next charge sizes (program trace) past events end
    pub within : length events ≤ most
    pub naks : nak_count charge sizes (program trace) past.state events ≡ 0
    pub clear : IsClear sizes end.state
    pub known : IsKnown charge trace end
    pub holds : Holds end

  module _ (next : State → Option Event) (delivers : Delivers next) (Holds : Past → Type 0) (left : State → ℕ)
      (step : (past : Past) → IsKnown charge trace past → Holds past → (lane : Lane) → first_busy sizes past.state ≡ Some lane → (done : Done) → effect charge sizes (program trace) past.state (delivery charge sizes past.state lane) ≡ Ok done →
      Holds (past_after sizes past done) × (left (after past.state done) < left past.state) × (naks_sent done ≡ 0)) where
    quiet : (past : Past) → IsKnown charge trace past → Holds past → first_busy sizes past.state ≡ None → (most : ℕ) → IsSettled next Holds past most
    quiet past known it none most =
        record { events = []; end = past; course = refl; within = omega arith; naks = refl; clear = first-none sizes past.state none; known = known; holds = it }

    pub settle : (fuel : ℕ) (past : Past) → IsKnown charge trace past → Holds past → left past.state ≤ fuel → IsSettled next Holds past fuel
    settle zero past known it light = go (first_busy sizes past.state) refl
      where
        go : (o : Option Lane) → first_busy sizes past.state ≡ o → IsSettled next Holds past zero
        go None e = quiet past known it e zero
        go (Some lane) e =
            let does = delivery-done charge trace usual.words usual.lines usual.links past known.sound known.bounded lane e in
            let less = step past known it lane e does.0 does.1 in
            absurd (omega (arith, less.1))
    settle (suc fuel) past known it light = go (first_busy sizes past.state) refl (settle fuel)
      where
        go : (o : Option Lane) → first_busy sizes past.state ≡ o → ((then : Past) → IsKnown charge trace then → Holds then → left then.state ≤ fuel → IsSettled next Holds then fuel) → IsSettled next Holds past (suc fuel)
        go None e later = quiet past known it e (suc fuel)
        go (Some lane) e later =
            let event : Event = delivery charge sizes past.state lane in
            let does = delivery-done charge trace usual.words usual.lines usual.links past known.sound known.bounded lane e in
            let less = step past known it lane e does.0 does.1 in
            let then : Past = past_after sizes past does.0 in
            let rest = later then (known-event past known event does.0 does.1) less.0 (omega (arith, less.1)) in
            let count = naks-cons next charge sizes (program trace) past event does.0 rest.events does.1 in
            let none = less.2 in
            let naks_rest = rest.naks in
            let within = rest.within in
            record {
              events = event ∷ rest.events;
              end = rest.end;
              course = (delivers past.state lane e, does.0, does.1, rest.course);
              within = omega arith;
              naks = count ∙ none-more (naks_sent does.0) _ none naks_rest;
              clear = rest.clear;
              known = rest.known;
              holds = rest.holds;
            }
