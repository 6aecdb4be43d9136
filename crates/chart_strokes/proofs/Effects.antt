-- What an event does: at its node, with its message.
use Rattle.std.proofs.Common.{◌≡◌, ℕ, List, [], ◌∷◌, Result, Ok, Err, sym, ap}
use Rattle.line_map.specs.Sizes.{Sizes, home_of}
use Rattle.op_model.specs.declared.events.Event.{Event}
use Rattle.op_model.specs.declared.events.Event.TheVariants.{Hit, Issue, Evict, Take, Reclaim}
use Rattle.op_model.specs.declared.events.Cause.{Cause}
use Rattle.op_model.specs.declared.messages.Msg.{Msg}
use Rattle.op_model.specs.Shares.{Charge, State}
use Rattle.op_model.specs.Events.Node.{NodeOutcome, TakeFrom, local}
use Rattle.op_model.specs.Events.Step.{Programs, Done, Off, act, effect, take_front, none_off, one_off, event_node, off_of}

act-is : (node : ℕ) (off : Off) (r : Result NodeOutcome Cause) (done : Done) → act node off r ≡ Ok done → (done.node ≡ node) × (done.off ≡ off)
act-is node off (Ok out) done is =
    let same : record { node = node; out = out; off = off } ≡ done = cc in
    (sym (ap (λ (d : Done). d.node) same), sym (ap (λ (d : Done). d.off) same))
act-is node off (Err cause) done is = cc

-- it is done at its node, and takes its message
pub effect-is : (charge : Charge) (sizes : Sizes) (programs : Programs) (state : State) (event : Event) (done : Done) → effect charge sizes programs state event ≡ Ok done → (done.node ≡ event_node sizes event) × (done.off ≡ off_of event)
effect-is charge sizes programs state (Hit node) done is = act-is node none_off _ done is
effect-is charge sizes programs state (Issue node) done is = act-is node none_off _ done is
effect-is charge sizes programs state (Evict node line kind) done is = act-is node none_off _ done is
effect-is charge sizes programs state (Take src dst class victim) done is = go (state.lane src dst class) is
  where
    go : (messages : List Msg) → take_front charge sizes programs state src dst class victim messages ≡ Ok done → (done.node ≡ dst) × (done.off ≡ one_off src dst class)
    go [] is = cc
    go (m ∷ rest) is = act-is dst (one_off src dst class) (local charge sizes dst (programs dst) (state.share dst) (TakeFrom src m victim)) done is
effect-is charge sizes programs state (Reclaim line) done is = act-is (home_of sizes line) none_off _ done is
