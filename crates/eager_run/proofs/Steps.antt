-- A run from one event to the next, and each event of the run by the node that does it. The run's list stays closed, so that nothing computes more than one event.
use Rattle.std.proofs.Common.{◌≡◌, ℕ, List, [], ◌∷◌, Some, None, Ok, refl, ap, ◌∙◌}
use Rattle.line_map.specs.Sizes.{Sizes}
use Rattle.op_model.specs.Shares.{Share}
use Rattle.op_model.specs.Events.Step.{Programs, Off, and_then, none_off, one_off}
use Rattle.op_model.specs.Events.Node.{HitNext, IssueNext, TakeFrom, NodeOutcome}
use Rattle.eager_model.specs.Types.{Class, Event, Hit, Issue, Msg, Take}
use Rattle.eager_model.specs.Node.{Aged, aged, local}
use Rattle.eager_model.specs.Step.{AgedDone, Call, effect, answer, and_answer, at_node, front, first_age}
use Rattle.eager_model.specs.Runs.{Past, past_after, run_by}

-- these events lead from the one past to the other
pub Leads : Sizes → Programs → Past → List Event → Past → Type 0
Leads sizes programs past events last = run_by sizes programs past events ≡ Some last

pub none-more : (sizes : Sizes) (programs : Programs) (past : Past) → Leads sizes programs past [] past
unfolding Leads
none-more sizes programs past = refl

pub one-more : (sizes : Sizes) (programs : Programs) (past last : Past) (event : Event) (events : List Event) (done : AgedDone) →
    effect sizes programs past.state past.ages event ≡ Ok done → Leads sizes programs (past_after sizes past done) events last → Leads sizes programs past (event ∷ events) last
unfolding Leads
one-more sizes programs past last event events done does rest =
    ap (λ r. and_then r (λ did. run_by sizes programs (past_after sizes past did) events)) does ∙ rest

pub comes-to : (sizes : Sizes) (programs : Programs) (past last : Past) (events : List Event) → Leads sizes programs past events last → run_by sizes programs past events ≡ Some last
unfolding Leads
comes-to sizes programs past last events leads = leads

abbrev pub by_node : ℕ → Off → Aged → AgedDone
by_node node off did = record { node = node; off = off; did = did }

-- where a call comes to a node that has this share, and is answered so
answered : (sizes : Sizes) (programs : Programs) (past : Past) (call : Call) (share : Share) (out : NodeOutcome) (did : Aged) →
    past.state.share call.node ≡ share → local sizes call.node (programs call.node) share call.input ≡ Ok out →
    aged sizes call.node share (past.ages.node call.node) call.input call.age out ≡ did →
    answer sizes programs past.state past.ages call ≡ Ok (by_node call.node call.off did)
answered sizes programs past call share out did has does ages = rw (has, does, ages) refl

pub issues : (sizes : Sizes) (programs : Programs) (past : Past) (node : ℕ) (share : Share) (out : NodeOutcome) (did : Aged) →
    past.state.share node ≡ share → local sizes node (programs node) share IssueNext ≡ Ok out → aged sizes node share (past.ages.node node) IssueNext 0 out ≡ did →
    effect sizes programs past.state past.ages (Issue node) ≡ Ok (by_node node none_off did)
issues sizes programs past node share out did has does ages = answered sizes programs past (at_node node IssueNext) share out did has does ages

pub hits : (sizes : Sizes) (programs : Programs) (past : Past) (node : ℕ) (share : Share) (out : NodeOutcome) (did : Aged) →
    past.state.share node ≡ share → local sizes node (programs node) share HitNext ≡ Ok out → aged sizes node share (past.ages.node node) HitNext 0 out ≡ did →
    effect sizes programs past.state past.ages (Hit node) ≡ Ok (by_node node none_off did)
hits sizes programs past node share out did has does ages = answered sizes programs past (at_node node HitNext) share out did has does ages

pub takes : (sizes : Sizes) (programs : Programs) (past : Past) (src dst : ℕ) (class : Class) (m : Msg) (share : Share) (out : NodeOutcome) (did : Aged) →
    past.state.lane src dst class ≡ m ∷ [] → past.state.share dst ≡ share → local sizes dst (programs dst) share (TakeFrom src m None) ≡ Ok out →
    aged sizes dst share (past.ages.node dst) (TakeFrom src m None) (first_age (past.ages.lane src dst class)) out ≡ did →
    effect sizes programs past.state past.ages (Take src dst class None) ≡ Ok (by_node dst (one_off src dst class) did)
takes sizes programs past src dst class m share out did first has does ages =
    ap (λ messages. and_answer (front src dst class None (past.ages.lane src dst class) messages) (answer sizes programs past.state past.ages)) first
    ∙ answered sizes programs past (record { node = dst; input = TakeFrom src m None; age = first_age (past.ages.lane src dst class); off = one_off src dst class }) share out did has does ages
