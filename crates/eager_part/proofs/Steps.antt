-- What each event of a run does: one node of the state answers an input, which for a Take is the front of a lane, and changes its own share alone. What each event keeps holds after every run.
use Rattle.std.proofs.Common.{◌≡◌, ℕ, Bool, true, false, cond, ◌==◌, ◌&&◌, drop, List, [], ◌∷◌, refl, arith, subst, Option, Some, None, Result, Ok, Err}
use Rattle.std.proofs.lemmas.Bool.{eqb-true}
use Rattle.std.proofs.lemmas.Bool.Decides.{nat_tests}
use Rattle.std.proofs.lemmas.List.Elements.{All-append, All-cons, All-drop, All-head, All-nil, All-tail}
use Rattle.std.specs.List.{All}
use Rattle.line_map.specs.Sizes.{Sizes, home_of}
use Rattle.op_model.specs.declared.events.Cause.{Cause}
use Rattle.op_model.specs.declared.events.Cause.TheVariants.{LaneEmpty}
use Rattle.op_model.specs.declared.events.Class.{Class}
use Rattle.op_model.specs.declared.events.Class.TheVariants.{Request}
use Rattle.op_model.specs.declared.events.Event.{Event}
use Rattle.op_model.specs.declared.events.Event.TheVariants.{Evict, Hit, Issue, Reclaim, Take}
use Rattle.op_model.specs.declared.messages.Msg.{Msg}
use Rattle.op_model.specs.Events.Node.{EvictLine, HitNext, Input, IssueNext, NodeOutcome, ReclaimLine, TakeFrom, map_ok}
use Rattle.op_model.specs.Events.Step.{Off, Programs, after, and_then, has_room, none_off, one_off, to_lane}
use Rattle.op_model.specs.Messages.{msg_class, same_class}
use Rattle.op_model.specs.Shares.{Share, State, Trace, program}
use Rattle.op_model.proofs.Public.{err-ok, same_class-is}
use Rattle.eager_model.specs.Node.{aged, local}
use Rattle.eager_model.specs.Runs.{Past, past_after, run, run_by, start}
use Rattle.eager_model.specs.Step.{AgedDone, Ages, Call, and_answer, answer, effect, first_age, front, without_ages}

-- what an event gives to its node, the age of it, and what leaves the lanes
abbrev pub IsGiven : Sizes → State → Ages → ℕ → Input → ℕ → Off → Type 0
IsGiven sizes state ages node HitNext age off = off ≡ none_off
IsGiven sizes state ages node IssueNext age off = off ≡ none_off
IsGiven sizes state ages node (EvictLine line kind room) age off = (room ≡ has_room sizes (state.lane node (home_of sizes line) Request)) × (off ≡ none_off)
IsGiven sizes state ages node (TakeFrom src m victim) age off = (class : Class) × (rest : List Msg) × (state.lane src node class ≡ m ∷ rest) × (age ≡ first_age (ages.lane src node class)) × (off ≡ one_off src node class)
IsGiven sizes state ages node (ReclaimLine line) age off = (node ≡ home_of sizes line) × (off ≡ none_off)

-- What an event did: its node's answer to what it was given, with the ages
pub record IsDone (sizes : Sizes) (programs : Programs) (state : State) (ages : Ages) (d : AgedDone) : Type 0 where
  pub input : Input
  pub age : ℕ
  pub given : IsGiven sizes state ages d.node input age d.off
  pub does : local sizes d.node (programs d.node) (state.share d.node) input ≡ Ok d.did.out
  pub did : d.did ≡ aged sizes d.node (state.share d.node) (ages.node d.node) input age d.did.out

module _ (sizes : Sizes) (programs : Programs) (state : State) (ages : Ages) where
  abbrev Gives : Result AgedDone Cause → Type 0
  Gives r = (d : AgedDone) → r ≡ Ok d → IsDone sizes programs state ages d

  answers : (call : Call) → IsGiven sizes state ages call.node call.input call.age call.off → Gives (answer sizes programs state ages call)
  unfolding aged
  answers call given = go (local sizes call.node (programs call.node) (state.share call.node) call.input) refl
    where
      done : NodeOutcome → AgedDone
      done out = record { node = call.node; off = call.off; did = aged sizes call.node (state.share call.node) (ages.node call.node) call.input call.age out }

      go : (r : Result NodeOutcome Cause) → local sizes call.node (programs call.node) (state.share call.node) call.input ≡ r → Gives (map_ok done r)
      go (Err c) is d e = absurd (err-ok c d e)
      go (Ok out) is d e = let same : done out ≡ d = cc in subst (IsDone sizes programs state ages) same (record { input = call.input; age = call.age; given = given; does = is; did = refl })

  fronts : (src dst : ℕ) (class : Class) (victim : Option ℕ) (messages : List Msg) → state.lane src dst class ≡ messages → Gives (and_answer (front src dst class victim (ages.lane src dst class) messages) (answer sizes programs state ages))
  fronts src dst class victim [] is = λ d e. absurd (err-ok LaneEmpty d e)
  fronts src dst class victim (m ∷ rest) is = answers _ (class, rest, is, refl, refl)

  pub done-by : (event : Event) → Gives (effect sizes programs state ages event)
  done-by (Hit node) = answers _ refl
  done-by (Issue node) = answers _ refl
  done-by (Evict node line kind) = answers _ (refl, refl)
  done-by (Take src dst class victim) = fronts src dst class victim (state.lane src dst class) refl
  done-by (Reclaim line) = answers _ (refl, refl)

-- each share is as it was, or is what its node has made of it
pub share-after : (P : ℕ → Share → Type 0) (state : State) (d : AgedDone) → ((n : ℕ) → P n (state.share n)) → P d.node d.did.out.share → (n : ℕ) → P n ((after state (without_ages d)).share n)
share-after P state d was is n = go (n == d.node) refl
  where
    go : (c : Bool) → (n == d.node) ≡ c → P n (cond c d.did.out.share (state.share n))
    go true e = let at : d.node ≡ n = grind (arith, nat_tests) in subst (λ k. P k d.did.out.share) at is
    go false e = was n

-- what holds of all that is sent holds of what is sent to a node in a lane, and that is of the lane's class
pub sent-in : (P : ℕ → Msg → Type 0) (b : ℕ) (class : Class) (sends : List (ℕ × Msg)) → All (λ send. P send.0 send.1) sends → All (λ m. P b m × (msg_class m ≡ class)) (to_lane b class sends)
sent-in P b class [] h = All-nil (λ m. P b m × (msg_class m ≡ class))
sent-in P b class (send ∷ sends) h = go (send.0 == b) refl (same_class class (msg_class send.1)) refl (sent-in P b class sends (All-tail (λ s. P s.0 s.1) send sends h))
  where
    go : (c : Bool) → (send.0 == b) ≡ c → (d : Bool) → same_class class (msg_class send.1) ≡ d → All (λ m. P b m × (msg_class m ≡ class)) (to_lane b class sends) → All (λ m. P b m × (msg_class m ≡ class)) (cond (c && d) (send.1 ∷ to_lane b class sends) (to_lane b class sends))
    go true e true f rest =
        let at : send.0 ≡ b = eqb-true send.0 b e in
        let of : class ≡ msg_class send.1 = same_class-is class (msg_class send.1) f in
        All-cons (λ m. P b m × (msg_class m ≡ class)) send.1 (to_lane b class sends) (subst (λ k. P k send.1) at (All-head (λ s. P s.0 s.1) send sends h), cc) rest
    go true e false f rest = rest
    go false e d f rest = rest

-- each message was in its lane, or has been sent there
pub lane-after : (P : ℕ → ℕ → Class → Msg → Type 0) (state : State) (d : AgedDone) → ((a b : ℕ) (class : Class) → All (P a b class) (state.lane a b class)) → ((b : ℕ) (class : Class) → All (P d.node b class) (to_lane b class d.did.out.sends)) →
    (a b : ℕ) (class : Class) → All (P a b class) ((after state (without_ages d)).lane a b class)
lane-after P state d was sent a b class =
    All-append (P a b class) (drop (d.off a b class) (state.lane a b class)) _ (All-drop (P a b class) (d.off a b class) (state.lane a b class) (was a b class)) (go (a == d.node) refl)
  where
    go : (c : Bool) → (a == d.node) ≡ c → All (P a b class) (cond c (to_lane b class d.did.out.sends) [])
    go true e = let at : d.node ≡ a = grind (arith, nat_tests) in subst (λ k. All (P k b class) (to_lane b class d.did.out.sends)) at (sent b class)
    go false e = All-nil (P a b class)

-- what each event keeps holds after a run
module _ (sizes : Sizes) (programs : Programs) (P : Past → Type 0) (keeps : (past : Past) → P past → (event : Event) (d : AgedDone) → effect sizes programs past.state past.ages event ≡ Ok d → P (past_after sizes past d)) where
  go-on : (past last : Past) (events : List Event) (r : Result AgedDone Cause) → ((d : AgedDone) → r ≡ Ok d → P (past_after sizes past d)) → ((next : Past) → P next → run_by sizes programs next events ≡ Some last → P last) →
      and_then r (λ done. run_by sizes programs (past_after sizes past done) events) ≡ Some last → P last
  go-on past last events (Ok done) kept rest e = rest (past_after sizes past done) (kept done refl) e
  go-on past last events (Err cause) kept rest e = absurd (let d : ◌≡◌ {A = Option Past} None (Some last) = e in cc)

  pub keeps-from : (past last : Past) (events : List Event) → P past → run_by sizes programs past events ≡ Some last → P last
  keeps-from past last [] it e = let is : past ≡ last = cc in subst P is it
  keeps-from past last (event ∷ events) it e = go-on past last events (effect sizes programs past.state past.ages event) (keeps past it event) (λ next k n. keeps-from next last events k n) e

pub keeps-run : (trace : Trace) (P : Past → Type 0) → ((past : Past) → P past → (event : Event) (d : AgedDone) → effect trace.sizes (program trace) past.state past.ages event ≡ Ok d → P (past_after trace.sizes past d)) → P (start trace.sizes) →
    (events : List Event) (past : Past) → run trace events ≡ Some past → P past
keeps-run trace P keeps first events past runs = keeps-from trace.sizes (program trace) P keeps (start trace.sizes) past events first runs
