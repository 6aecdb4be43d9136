-- What callers see of a machine: its run ends in the state of its nodes with what is under way.
use Rattle.std.proofs.Common.{◌≡◌, ◌↔◌, ℕ, ◌<◌, List, [], ◌∷◌, ◌++◌, map, refl, ap, sym, subst, ◌∙◌, Option, Some, Ok}
use Rattle.std.specs.Prelude.{slice_get}
use Rattle.std.proofs.lemmas.Option.{same_Some}
use Rattle.std.proofs.lemmas.List.{length-map}
use Rattle.line_map.specs.Sizes.{Sizes}
use Rattle.op_model.specs.declared.events.Event.{Event}
use Rattle.op_model.specs.declared.events.Event.TheVariants.{Hit, Issue, Evict, Take, Reclaim}
use Rattle.op_model.specs.Events.Step.{after, IsTake}
use Rattle.op_model.specs.Programs.{programs_of}
use Rattle.op_model.specs.Run.Machines.{IsEventOf}
use Rattle.op_model.specs.Run.Rest.{IsAtRest}
use Rattle.op_model.specs.Run.Schedules.{first_busy, first_busy_in}
use Rattle.op_model.specs.Run.Weight.{weight}
use Rattle.machine_face.specs.Reads.{IsLane}
use Rattle.machine.proofs.Public.{program-of, some-words}
use Rattle.eager_model.specs.Runs.{AgedEntry, Past, run_by, start}
use Rattle.eager_model.specs.Step.{AgedDone, effect, without_ages}
use Rattle.eager_rest.proofs.Public.{falling_weight}
use Rattle.eager_home.specs.Views.{EagerView}
use Rattle.eager_machine.specs.Kept.{past_of, programs_in, share_or, IsKept}
use Rattle.eager_machine.specs.Lanes.{AgedQueues, UnderWay, IsSilent, lane_in, messages_of, msg_of}
use Rattle.eager_machine.specs.declared.queue.AgedMsg.{AgedMsg}
use Rattle.op_model.specs.declared.events.Class.{Class}
use Rattle.eager_machine.specs.Machines.{EagerMachineView, run_of, trace_of, IsMachine, IsNext, IsNodeIn}
use Rattle.eager_machine.proofs.Laws.{programs-are, traced}
use Rattle.eager_machine.proofs.NodeLists.{programs-at}
use Rattle.eager_machine.proofs.Promised.{rests-own}
use Rattle.eager_machine.proofs.Runs.{run-split}

abbrev pub view_by : Sizes → List EagerView → List Event → EagerMachineView
view_by sizes nodes events = record { sizes = sizes; programs = programs_in nodes; events = events }

module _ (sizes : Sizes) (nodes : List EagerView) (way : UnderWay) (events : List Event) (served : List AgedEntry) (view : EagerMachineView) (kept : IsKept sizes nodes way events served) (is : view_by sizes nodes events ≡ view) where
  abbrev pub past_in : Past
  past_in = past_of sizes nodes way served

  pub view-ran : run_of view ≡ Some past_in
  view-ran = subst (λ v. run_of v ≡ Some past_in) is kept.ran

  pub view-past : (past : Past) → run_of view ≡ Some past → past ≡ past_in
  view-past past ran = same_Some past past_in (sym ran ∙ view-ran)

  -- what holds of each machine
  pub view-machine : IsMachine view
  view-machine = subst IsMachine is (record {
    sizes_are = kept.sizes_are;
    programs_are = record { count = length-map nodes (λ (v : EagerView). v.program) ∙ kept.nodes_are.count; each = programs-are sizes nodes kept.nodes_are };
    past = past_in;
    ran = kept.ran;
  })

  -- a message that is taken is heavier than all that is sent for it
  lighter : (event : Event) (done : AgedDone) → IsEventOf sizes event → effect sizes (programs_of (programs_in nodes)) past_in.state past_in.ages event ≡ Ok done → IsTake event → weight sizes (after past_in.state (without_ages done)) < weight sizes past_in.state
  lighter (Hit node) done of does take = absurd take
  lighter (Issue node) done of does take = absurd take
  lighter (Evict node line kind) done of does take = absurd take
  lighter (Reclaim line) done of does take = absurd take
  lighter (Take src dst class victim) done of does take =
      falling_weight (trace_of (view_by sizes nodes events)) events past_in src dst class victim done (some-words sizes kept.sizes_are) (traced sizes nodes kept.nodes_are events past_in kept.ran) of.0 of.1
      (subst (λ ps. effect sizes ps past_in.state past_in.ages (Take src dst class victim) ≡ Ok done) (sym (program-of sizes (programs_in nodes) (programs-are sizes nodes kept.nodes_are))) does)

  -- one event more
  pub view-next : (new : EagerMachineView) (event : Event) (last : Past) → new.sizes ≡ sizes → new.programs ≡ programs_in nodes → new.events ≡ events ++ event ∷ [] → run_of new ≡ Some last → IsEventOf sizes event →
      (past : Past) → run_of view ≡ Some past → IsNext view new past event
  view-next new event last sizes_is programs_is events_is ran of past old =
      let next : run_by sizes (programs_of (programs_in nodes)) (start sizes) (events ++ event ∷ []) ≡ Some last = (λ i. run_by (sym sizes_is i) (programs_of (sym programs_is i)) (start (sym sizes_is i)) (sym events_is i)) ∙ ran in
      let parts = run-split sizes (programs_of (programs_in nodes)) (start sizes) past_in last events event kept.ran next in
      subst (λ v. IsNext v new past event) is
      (subst (λ p. IsNext (view_by sizes nodes events) new p event) (sym (view-past past old))
      (record { done = parts.0; does = parts.1; ran = ran ∙ ap Some parts.2; lighter = lighter event parts.0 of parts.1 }))

  -- nothing is under way exactly where every lane of the run's state is empty
  pub view-empty : (past : Past) → run_of view ≡ Some past → ((src : ℕ) → IsSilent way src) ↔ ((src dst : ℕ) (class : Class) → past.state.lane src dst class ≡ [])
  view-empty past ran =
      subst (λ (p : Past). ((src : ℕ) → IsSilent way src) ↔ ((src dst : ℕ) (class : Class) → p.state.lane src dst class ≡ [])) (sym (view-past past ran))
      ((λ none src dst class. ap (map msg_of) (none src dst class)), (λ none src dst class. unmapped (way src dst class) (none src dst class)))
    where
      unmapped : (xs : List AgedMsg) → map msg_of xs ≡ [] → xs ≡ []
      unmapped [] e = refl
      unmapped (x ∷ xs) e = cc

  -- the same, where the machine is at rest
  pub view-rests : (past : Past) → run_of view ≡ Some past → ((src : ℕ) → IsSilent way src) ↔ IsAtRest past.state
  view-rests past ran =
      let empty = view-empty past ran in
      let rests = rests-own view view-machine past ran in
      ((λ none. rests.0 (empty.0 none)), (λ rest. empty.1 (rests.1 rest)))

  -- the first busy lane of those that hold all that is under way
  pub view-first : (lanes : AgedQueues) → lanes.sizes ≡ sizes → lane_in lanes ≡ way → (answer : Option (ℕ × ℕ × Class)) → IsLane answer (first_busy_in lanes.sizes (messages_of (lane_in lanes))) → (past : Past) → run_of view ≡ Some past → IsLane answer (first_busy view.sizes past.state)
  view-first lanes sized all answer first past ran =
      subst (λ (v : EagerMachineView). IsLane answer (first_busy v.sizes past.state)) is
      (subst (λ (p : Past). IsLane answer (first_busy sizes p.state)) (sym (view-past past ran)) (subst (IsLane answer) (λ i. first_busy_in (sized i) (messages_of (all i))) first))

  -- a node in the state of the run
  pub view-node : (number : ℕ) (node : EagerView) → slice_get nodes number ≡ Some node → (past : Past) → run_of view ≡ Some past → IsNodeIn view past.state number node
  view-node number node there past ran =
      subst (λ (v : EagerMachineView). IsNodeIn v past.state number node) is (subst (λ (p : Past). IsNodeIn (view_by sizes nodes events) p.state number node) (sym (view-past past ran)) here)
    where
      here : IsNodeIn (view_by sizes nodes events) past_in.state number node
      here =
          let its = kept.nodes_are.each number node there in
          record { sizes_are = its.same_sizes; number_is = its.number_is; program_is = sym (programs-at nodes number node there); share_is = sym (ap (share_or sizes number) there) }
