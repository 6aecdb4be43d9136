-- Where a lane isn't empty, a Take of it is done, with a line that may be called in where one is asked for; the delivery of the lane
-- is such a Take.
-- The only cause that a Take of a message has is its victim. The least line of a home that may be called in is found, since the lines
-- of a home are numbered one after another.
use Rattle.std.proofs.Common.{◌≡◌, ◌≢◌, ℕ, ◌+◌, ◌*◌, ◌/◌, ◌<◌, ◌≤◌, Bool, true, false, cond, ◌==◌, ◌&&◌, List, [], ◌∷◌, refl, arith, ap, ◌∙◌, subst, Option, Some, None, Ok, Err}
use Rattle.std.proofs.lemmas.Bool.Decides.{nat_tests}
use Rattle.std.proofs.Math.Nat.{div-mul-le_self, lt-div-mul-add}
use Rattle.std.specs.List.{range_with_len}
use Rattle.line_map.specs.Sizes.{Sizes, home_of}
use Rattle.op_model.specs.declared.events.Cause.TheVariants.{VictimUnfit}
use Rattle.op_model.specs.declared.events.Class.{Class}
use Rattle.op_model.specs.declared.events.Event.{Event}
use Rattle.op_model.specs.declared.events.Event.TheVariants.{Take}
use Rattle.op_model.specs.declared.messages.Msg.{Msg}
use Rattle.op_model.specs.Events.Node.{NodeOutcome, by_row, and_call, taking, asks_victim, fits_victim, with_victim, local}
use Rattle.op_model.specs.Events.Step.{Programs, Done, act, one_off, effect, take_front}
use Rattle.op_model.specs.Messages.{msg_line}
use Rattle.op_model.specs.Run.Runs.{Past, run}
use Rattle.op_model.specs.Run.Schedules.{least_victim, victim_for, delivery}
use Rattle.op_model.specs.Shares.{Charge, Share, State, Trace, program}
use Rattle.lane_bounds.proofs.Public.{bounded-run}
use Rattle.rest_laws.proofs.Links.{KeepsOwn, victim-there}
use Rattle.rest_laws.proofs.Lists.{search, range-each}

-- an event is done
abbrev pub IsDone : Charge → Sizes → Programs → State → Event → Type 0
IsDone charge sizes programs state event = (done : Done) × (effect charge sizes programs state event ≡ Ok done)

-- the lines of a home
lines-of : (lines line home : ℕ) → 0 < lines → line / lines ≡ home → (home * lines ≤ line) × (line < home * lines + lines)
lines-of lines line home some is =
    (subst (λ n. n * lines ≤ line) is (div-mul-le_self line lines), subst (λ n. line < n * lines + lines) is (lt-div-mul-add some))

-- the least line that may be called in is found where there is any
pub least-found : (charge : Charge) (sizes : Sizes) (state : State) (home g : ℕ) → 0 < sizes.lines → fits_victim charge sizes home (state.share home) g ≡ true →
    (v : ℕ) × (least_victim charge sizes state home ≡ Some v) × (fits_victim charge sizes home (state.share home) v ≡ true)
least-found charge sizes state home g some fit = search (λ line. fits_victim charge sizes home (state.share home) line) (range_with_len (home * sizes.lines) sizes.lines) fit
    (λ none. range-each (λ l. fits_victim charge sizes home (state.share home) l ≡ false) (home * sizes.lines) sizes.lines none g (lines-of sizes.lines g home some here).0 (lines-of sizes.lines g home some here).1)
  where
    here : home_of sizes g ≡ home
    here = first (home_of sizes g == home) _ _ fit (λ e. grind (arith, nat_tests))
      where
        first : (a b c : Bool) → (a && b && c) ≡ true → (a ≡ true → home_of sizes g ≡ home) → home_of sizes g ≡ home
        first a b c e h = h (grind arith)

module _ (charge : Charge) (sizes : Sizes) (programs : Programs) (state : State) (src dst : ℕ) (class : Class) where
  abbrev share : Share
  share = state.share dst

  -- a message is taken without a line that is called in, or with one
  pub taken-alone : (m : Msg) (rest : List Msg) → asks_victim charge sizes dst share src m ≡ false → (done : Done) × (take_front charge sizes programs state src dst class None (m ∷ rest) ≡ Ok done)
  unfolding local
  taken-alone m rest asks =
      let out : NodeOutcome = by_row sizes dst share (msg_line m) (taking charge sizes dst share src m) in
      (record { node = dst; out = out; off = one_off src dst class }, ap (λ b. act dst (one_off src dst class) (with_victim charge sizes dst share b None out)) asks)

  pub taken-calling : (m : Msg) (rest : List Msg) (g : ℕ) → asks_victim charge sizes dst share src m ≡ true → fits_victim charge sizes dst share g ≡ true → (done : Done) × (take_front charge sizes programs state src dst class (Some g) (m ∷ rest) ≡ Ok done)
  unfolding local
  taken-calling m rest g asks fit =
      let out : NodeOutcome = by_row sizes dst share (msg_line m) (taking charge sizes dst share src m) in (
        record { node = dst; out = and_call sizes dst g out; off = one_off src dst class },
        ap (λ b. act dst (one_off src dst class) (with_victim charge sizes dst share b (Some g) out)) asks ∙ ap (λ b. act dst (one_off src dst class) (cond b (Ok (and_call sizes dst g out)) (Err VictimUnfit))) fit,
      )

  module _ (own : KeepsOwn sizes share dst) (links : 0 < sizes.links) where
    pub enabled : state.lane src dst class ≢ [] → (victim : Option ℕ) × (done : Done) × (effect charge sizes programs state (Take src dst class victim) ≡ Ok done)
    enabled some = go (state.lane src dst class) refl
      where
        go : (ms : List Msg) → state.lane src dst class ≡ ms → (victim : Option ℕ) × (done : Done) × (take_front charge sizes programs state src dst class victim ms ≡ Ok done)
        go [] e = absurd (some e)
        go (m ∷ rest) e = with (asks_victim charge sizes dst share src m) refl
          where
            with : (b : Bool) → asks_victim charge sizes dst share src m ≡ b → (victim : Option ℕ) × (done : Done) × (take_front charge sizes programs state src dst class victim (m ∷ rest) ≡ Ok done)
            with false asks = let t = taken-alone m rest asks in (None, t.0, t.1)
            with true asks = let g = victim-there charge sizes share dst own links src m asks in let t = taken-calling m rest g.0 asks g.1 in (Some g.0, t.0, t.1)

    pub delivered : 0 < sizes.lines → state.lane src dst class ≢ [] → IsDone charge sizes programs state (delivery charge sizes state (record { src = src; dst = dst; class = class }))
    delivered lines some = go (state.lane src dst class) refl
      where
        go : (ms : List Msg) → state.lane src dst class ≡ ms → (done : Done) × (take_front charge sizes programs state src dst class (victim_for charge sizes state (record { src = src; dst = dst; class = class }) ms) ms ≡ Ok done)
        go [] e = absurd (some e)
        go (m ∷ rest) e = with (asks_victim charge sizes dst share src m) refl
          where
            with : (b : Bool) → asks_victim charge sizes dst share src m ≡ b → (done : Done) × (take_front charge sizes programs state src dst class (cond (asks_victim charge sizes dst share src m) (least_victim charge sizes state dst) None) (m ∷ rest) ≡ Ok done)
            with false asks =
                let t = taken-alone m rest asks in
                (t.0, ap (λ b. take_front charge sizes programs state src dst class (cond b (least_victim charge sizes state dst) None) (m ∷ rest)) asks ∙ t.1)
            with true asks =
                let g = victim-there charge sizes share dst own links src m asks in
                let v = least-found charge sizes state dst g.0 lines g.1 in
                let t = taken-calling m rest v.0 asks v.2 in
                (t.0, ap (λ b. take_front charge sizes programs state src dst class (cond b (least_victim charge sizes state dst) None) (m ∷ rest)) asks ∙ ap (λ o. take_front charge sizes programs state src dst class o (m ∷ rest)) v.1 ∙ t.1)

pub enabled_take : (charge : Charge) (trace : Trace) (events : List Event) (past : Past) (src dst : ℕ) (class : Class) → 0 < trace.sizes.words → 0 < trace.sizes.links → run charge trace events ≡ Some past → past.state.lane src dst class ≢ [] →
    (victim : Option ℕ) × (done : Done) × (effect charge trace.sizes (program trace) past.state (Take src dst class victim) ≡ Ok done)
enabled_take charge trace events past src dst class positive links runs some =
    let both = bounded-run charge trace events past positive runs in
    enabled charge trace.sizes (program trace) past.state src dst class (both.1.own dst) links some
