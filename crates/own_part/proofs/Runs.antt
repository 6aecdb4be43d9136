-- In every run each node's share keeps what holds of it: it holds at the start, and an event changes the share of its own node alone, by what that node does.
use Rattle.std.proofs.Common.{◌≡◌, ℕ, Bool, true, false, cond, ◌==◌, List, [], ◌∷◌, refl, arith, sym, ap, subst, ◌∙◌, Option, Some, None, Result, Ok, Err}
use Rattle.std.proofs.lemmas.Bool.Decides.{nat_tests}
use Rattle.line_map.specs.Sizes.{Sizes, home_of}
use Rattle.op_model.specs.declared.events.Cause.{Cause}
use Rattle.op_model.specs.declared.events.Cause.TheVariants.{LaneEmpty}
use Rattle.op_model.specs.declared.events.Class.{Class}
use Rattle.op_model.specs.declared.events.Class.TheVariants.{Request}
use Rattle.op_model.specs.declared.events.Event.{Event}
use Rattle.op_model.specs.declared.events.Event.TheVariants.{Evict, Hit, Issue, Reclaim, Take}
use Rattle.op_model.specs.declared.messages.Msg.{Msg}
use Rattle.op_model.specs.Events.Node.{EvictLine, HitNext, Input, IssueNext, NodeOutcome, ReclaimLine, TakeFrom, local}
use Rattle.op_model.specs.Events.Step.{Done, Off, act, and_then, effect, has_room, none_off, one_off, take_front}
use Rattle.op_model.specs.Lines.{Absent, is_empty}
use Rattle.op_model.specs.Nodes.{listed-none}
use Rattle.op_model.specs.OwnPart.{IsOwnLine, IsOwnPart}
use Rattle.op_model.specs.Run.Runs.{Past, past_after, run, run_from, start, start_share}
use Rattle.op_model.specs.Shares.{Charge, State, Trace, first_header, line_share, program}
use Rattle.one_history.proofs.Public.{first-copy, first-header}
use Rattle.lane_bounds.proofs.Public.{bounded-start, held-within}
use Rattle.own_part.proofs.Acts.{own_act}

-- whether each node's share is as it should be
abbrev AreOwn : Charge → Trace → State → Type 0
AreOwn charge trace state = (node : ℕ) → IsOwnPart charge trace.sizes node (program trace node) (state.share node)

module _ (charge : Charge) (trace : Trace) (past : Past) (own : AreOwn charge trace past.state) where
  abbrev sizes : Sizes
  sizes = trace.sizes

  abbrev Holds : Result Done Cause → Type 0
  Holds r = (d : Done) → r ≡ Ok d → AreOwn charge trace (past_after sizes past d).state

  acts : (node : ℕ) (off : Off) (input : Input) (r : Result NodeOutcome Cause) → local charge sizes node (program trace node) (past.state.share node) input ≡ r → Holds (act node off r)
  acts node off input (Err c) is d e = absurd (let n : ◌≡◌ {A = Result Done Cause} (Err c) (Ok d) = e in cc)
  acts node off input (Ok out) is d e =
      let same : ◌≡◌ {A = Done} (record { node = node; out = out; off = off }) d = cc in
      subst (λ y. AreOwn charge trace (past_after sizes past y).state) same (λ n. here n (n == node) refl)
    where
      here : (n : ℕ) (c : Bool) → (n == node) ≡ c → IsOwnPart charge sizes n (program trace n) (cond c out.share (past.state.share n))
      here n true t =
          let at : node ≡ n = grind (arith, nat_tests) in
          subst (λ k. IsOwnPart charge sizes k (program trace k) out.share) at (own_act charge sizes node (program trace node) (past.state.share node) input out (own node) is)
      here n false t = own n

  fronts : (src dst : ℕ) (class : Class) (victim : Option ℕ) (messages : List Msg) → Holds (take_front charge sizes (program trace) past.state src dst class victim messages)
  fronts src dst class victim [] d e = absurd (let n : ◌≡◌ {A = Result Done Cause} (Err LaneEmpty) (Ok d) = e in cc)
  fronts src dst class victim (m ∷ rest) d e = acts dst (one_off src dst class) (TakeFrom src m victim) _ refl d e

  own-event : (event : Event) → Holds (effect charge sizes (program trace) past.state event)
  own-event (Hit node) d e = acts node none_off HitNext _ refl d e
  own-event (Issue node) d e = acts node none_off IssueNext _ refl d e
  own-event (Evict node line kind) d e = acts node none_off (EvictLine line kind (has_room sizes (past.state.lane node (home_of sizes line) Request))) _ refl d e
  own-event (Take src dst class victim) d e = fronts src dst class victim (past.state.lane src dst class) d e
  own-event (Reclaim line) d e = acts (home_of sizes line) none_off (ReclaimLine line) _ refl d e

own-from : (charge : Charge) (trace : Trace) (past last : Past) (events : List Event) → AreOwn charge trace past.state → run_from charge trace past events ≡ Some last → AreOwn charge trace last.state
own-from charge trace past last [] own e = let is : past ≡ last = cc in subst (λ p. AreOwn charge trace p.state) is own
own-from charge trace past last (event ∷ events) own e = go (effect charge trace.sizes (program trace) past.state event) (own-event charge trace past own event) (λ next k n. own-from charge trace next last events k n) e
  where
    go : (r : Result Done Cause) → ((d : Done) → r ≡ Ok d → AreOwn charge trace (past_after trace.sizes past d).state) → ((next : Past) → AreOwn charge trace next.state → run_from charge trace next events ≡ Some last → AreOwn charge trace last.state) →
        and_then r (λ done. run_from charge trace (past_after trace.sizes past done) events) ≡ Some last → AreOwn charge trace last.state
    go (Ok done) keeps rest e = rest (past_after trace.sizes past done) (keeps done refl) e
    go (Err cause) keeps rest e = absurd (let d : ◌≡◌ {A = Option Past} None (Some last) = e in cc)

-- at the start nothing is begun, no line is cached, and each header is the first one
own-start : (charge : Charge) (trace : Trace) → AreOwn charge trace (start trace.sizes).state
own-start charge trace node =
    let bounded = bounded-start charge trace.sizes in
    record {
      outstanding = tt;
      lines = λ line home. own-first line;
      pending = bounded.pending node;
      links = held-within charge (start_share trace.sizes node) trace.sizes.links (λ linked. bounded.links linked node);
      sets = λ a b full. absurd (let e : true ≡ false = sym (ap is_empty (first-copy trace.sizes node a)) ∙ full in cc);
      headers = λ line far. bounded.own node line far;
    }
  where
    first-line : (line : ℕ) → line_share trace.sizes (start_share trace.sizes node) line ≡ record { copy = Absent; want = None; header = first_header trace.sizes }
    first-line line = λ i. record { copy = first-copy trace.sizes node line i; want = None; header = first-header trace.sizes node line i }

    own-first : (line : ℕ) → IsOwnLine node (line_share trace.sizes (start_share trace.sizes node) line)
    own-first line = subst (IsOwnLine node) (sym (first-line line)) (record { local = refl; unlisted = listed-none node; exclusive = refl; waiting = (refl, λ d. absurd (cc)) })

pub own_run : (charge : Charge) (trace : Trace) (events : List Event) (past : Past) (node : ℕ) → run charge trace events ≡ Some past → IsOwnPart charge trace.sizes node (program trace node) (past.state.share node)
own_run charge trace events past node e = own-from charge trace (start trace.sizes) past events (own-start charge trace) e node
