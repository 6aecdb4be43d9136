-- What callers see of a machine: its run ends in the state of its nodes and its lanes.
use Rattle.std.proofs.Common.{◌≡◌, ◌≢◌, ℕ, zero, suc, ◌+◌, ◌≤◌, ◌<◌, Bool, true, false, cond, List, [], ◌∷◌, ◌++◌, length, map, take, get_or, refl, ap, arith, sym, subst, ◌∙◌, Option, Some, None, Ok}
use Rattle.std.specs.Prelude.{slice_get, sum_by, unwrap_or, option_map, IsTrue, ◌==◌, not}
use Rattle.std.proofs.lemmas.Option.{same_Some, slice_get-map}
use Rattle.std.proofs.lemmas.List.{append-nil, length-map}
use Rattle.std.proofs.lemmas.List.Sums.{sum_by-cons}
use Rattle.std.proofs.lemmas.Bool.Decides.{nat_tests}
use Rattle.line_map.specs.Sizes.{Sizes}
use Rattle.op_model.specs.declared.events.Class.{Class}
use Rattle.op_model.specs.declared.events.Event.{Event}
use Rattle.op_model.specs.declared.operations.Entry.{Entry}
use Rattle.op_model.specs.Shares.{Share, State}
use Rattle.op_model.specs.Run.Counts.{Count, all_counts, counted, moments}
use Rattle.op_model.specs.Run.History.{history, is_completed, kept_of, IsOneHistory}
use Rattle.op_model.specs.Run.Rest.{IsAtRest}
use Rattle.op_model.specs.Run.Runs.{Past, start, run_by}
use Rattle.op_model.specs.Run.Weight.{weight}
use Rattle.op_model.specs.Events.Step.{Done, effect, after, IsTake}
use Rattle.op_model.specs.declared.events.Event.TheVariants.{Hit, Issue, Evict, Take, Reclaim}
use Rattle.one_history.proofs.Public.{one_history}
use Rattle.rest_laws.proofs.Public.{enabled_take, falling_weight, resting}
use Rattle.lane_queues.specs.LaneStates.{LaneState, AreEmpty}
use Rattle.msg_words.specs.SendList.{SendList}
use Rattle.event_tally.proofs.Public.{tally_of-at}
use Rattle.machine.specs.Machines.{MachineView, run_of, trace_of, AreAllDone, IsMachine, IsNext, effect_in}
use Rattle.machine.specs.Kept.{share_in, state_of, programs_in, charge_in, left_at, moments_in, IsKept}
use Rattle.machine.specs.Views.{view_by, IsNodeOf}
use Rattle.machine.proofs.Faces.{slice_get-read, programs_of-at, share_in-at}
use Rattle.machine.proofs.Laws.{some-words, some-links, traced, programs-are}
use Rattle.machine.proofs.Programs.{program-of}
use Rattle.machine.specs.Faces.{Face}
use Rattle.op_model.specs.Programs.{programs_of}
use Rattle.op_model.specs.Run.Machines.{IsEventOf}
use Rattle.op_model.proofs.Public.{run-split, take-next}

-- one entry more
pub kept_of-push : (state : State) (entries : List Entry) (entry : Entry) → kept_of state (entries ++ entry ∷ []) ≡ kept_of state entries ++ cond (is_completed state entry) (entry ∷ []) []
kept_of-push state [] entry = refl
kept_of-push state (e ∷ entries) entry = go (is_completed state e) (kept_of-push state entries entry)
  where
    go : (b : Bool) → kept_of state (entries ++ entry ∷ []) ≡ kept_of state entries ++ cond (is_completed state entry) (entry ∷ []) [] →
        cond b (e ∷ kept_of state (entries ++ entry ∷ [])) (kept_of state (entries ++ entry ∷ [])) ≡ cond b (e ∷ kept_of state entries) (kept_of state entries) ++ cond (is_completed state entry) (entry ∷ []) []
    go true rest = ap (λ es. e ∷ es) rest
    go false rest = rest

pub kept-next : (state : State) (served : List Entry) (i : ℕ) (entry d : Entry) → i < length served → entry ≡ get_or served i d →
    kept_of state (take (i + 1) served) ≡ kept_of state (take i served) ++ cond (is_completed state entry) (entry ∷ []) []
kept-next state served i entry d within is = ap (kept_of state) (take-next served i entry (slice_get-read served i d entry within is)) ∙ kept_of-push state (take i served) entry

-- a completed one is kept, and one that isn't is left out
pub kept-one : (state : State) (served : List Entry) (i : ℕ) (d : Entry) (items items' : List Entry) → i < length served → items ≡ kept_of state (take i served) → items' ≡ items ++ get_or served i d ∷ [] → true ≡ is_completed state (get_or served i d) →
    items' ≡ kept_of state (take (i + 1) served)
kept-one state served i d items items' within so_far more done =
    more ∙ ap (λ es. es ++ get_or served i d ∷ []) so_far ∙ sym (kept-next state served i (get_or served i d) d within refl ∙ ap (λ b. kept_of state (take i served) ++ cond b (get_or served i d ∷ []) []) (sym done))

pub kept-none : (state : State) (served : List Entry) (i : ℕ) (d : Entry) (items items' : List Entry) → i < length served → items ≡ kept_of state (take i served) → items' ≡ items → false ≡ is_completed state (get_or served i d) →
    items' ≡ kept_of state (take (i + 1) served)
kept-none state served i d items items' within so_far same undone =
    same ∙ so_far ∙ sym (kept-next state served i (get_or served i d) d within refl ∙ ap (λ b. kept_of state (take i served) ++ cond b (get_or served i d ∷ []) []) (sym undone) ∙ append-nil (kept_of state (take i served)))

pub true_of : (b : Bool) → not b ≡ false → IsTrue b
true_of true is = refl
true_of false is = cc

pub zero_of : (n : ℕ) → IsTrue (n == 0) → n ≡ 0
zero_of n test = grind (arith, nat_tests)

pub of_zero : (n : ℕ) → n ≡ 0 → IsTrue (n == 0)
of_zero n zero_is = grind (arith, nat_tests)

sum-nothing : {A : Type 0} (f : A → ℕ) (xs : List A) → sum_by f xs ≡ 0 → (i : ℕ) (x : A) → slice_get xs i ≡ Some x → f x ≡ 0
sum-nothing f [] none i x is = cc
sum-nothing f (y ∷ xs) none zero x is = let e : f y ≡ f x = ap f (let same : y ≡ x = cc in same) in let s = sum_by-cons f y xs in omega (arith, e, s, none)
sum-nothing f (y ∷ xs) none (suc i) x is = let s = sum_by-cons f y xs in sum-nothing f xs (omega (arith, s, none)) i x is

nothing-summed : {A : Type 0} (f : A → ℕ) (xs : List A) → ((i : ℕ) (x : A) → slice_get xs i ≡ Some x → f x ≡ 0) → sum_by f xs ≡ 0
nothing-summed f [] each = refl
nothing-summed f (y ∷ xs) each = let s = sum_by-cons f y xs in let here = each 0 y refl in let rest = nothing-summed f xs (λ i. each (suc i)) in omega (arith, s, here, rest)

module _ {D : Type 0} (sizes : Sizes) (faces : List Face) (lanes : LaneState) (events : List Event) (served : List Entry) (tally : List ℕ) (left : ℕ) (out : SendList) (dirs : List D) (view : MachineView D)
    (kept : IsKept sizes faces lanes events served tally left out) (is : view_by sizes faces events dirs ≡ view) where
  abbrev pub past_in : Past
  past_in = record { state = state_of sizes faces lanes.lane; served = served }

  pub view-ran : run_of view ≡ Some past_in
  view-ran = subst (λ (v : MachineView D). run_of v ≡ Some past_in) is kept.ran

  pub view-past : (past : Past) → run_of view ≡ Some past → past ≡ past_in
  view-past past ran = same_Some past past_in (sym ran ∙ view-ran)

  -- at rest where the lanes are empty
  pub view-rests : AreEmpty lanes → (past : Past) → run_of view ≡ Some past → IsAtRest past.state
  view-rests empty past ran =
      subst (λ (p : Past). IsAtRest p.state) (sym (view-past past ran))
      (resting (charge_in faces) (trace_of (view_by sizes faces events dirs)) events past_in (some-words sizes kept.sizes_are) (traced sizes (charge_in faces) faces kept.nodes events past_in kept.ran) empty)

  pub view-empty : (past : Past) → run_of view ≡ Some past → IsAtRest past.state → AreEmpty lanes
  view-empty past ran rest = (subst (λ (p : Past). IsAtRest p.state) (view-past past ran) rest).lanes

  -- each node has as many operations left as none
  pub view-done : left ≡ 0 → (past : Past) → run_of view ≡ Some past → AreAllDone view past.state
  view-done none past ran =
      subst (λ (v : MachineView D). AreAllDone v past.state) is (subst (λ (p : Past). AreAllDone (view_by sizes faces events dirs) p.state) (sym (view-past past ran)) (λ node. at node (slice_get faces node) refl))
    where
      at : (node : ℕ) (o : Option Face) → slice_get faces node ≡ o → length (programs_of (programs_in faces) node) ≤ (share_in sizes faces node).place
      at node None there = let none_there : programs_of (programs_in faces) node ≡ [] = ap (λ o. unwrap_or o []) (slice_get-map (λ (f : Face). f.program) faces node ∙ ap (option_map (λ (f : Face). f.program)) there) in let long : length (programs_of (programs_in faces) node) ≡ 0 = ap length none_there in omega (arith, long)
      at node (Some face) there =
          let zero_left : left_at face ≡ 0 = sum-nothing left_at faces (sym kept.left_is ∙ none) node face there in
          let program : length (programs_of (programs_in faces) node) ≡ length face.program = ap length (programs_of-at faces node face there) in
          let place : (share_in sizes faces node).place ≡ face.share.place = ap (λ (s : Share). s.place) (share_in-at sizes faces node face there) in
          omega (arith, zero_left, program, place)

  pub view-undone : (past : Past) → run_of view ≡ Some past → AreAllDone view past.state → left ≡ 0
  view-undone past ran all =
      let done = subst (λ (p : Past). AreAllDone (view_by sizes faces events dirs) p.state) (view-past past ran) (subst (λ (v : MachineView D). AreAllDone v past.state) (sym is) all) in
      kept.left_is ∙ nothing-summed left_at faces (λ node face there.
      let program : length (programs_of (programs_in faces) node) ≡ length face.program = ap length (programs_of-at faces node face there) in
      let place : (share_in sizes faces node).place ≡ face.share.place = ap (λ (s : Share). s.place) (share_in-at sizes faces node face there) in
      let enough = done node in
      omega (arith, program, place, enough))

  pub view-node : (node : ℕ) (face : Face) → slice_get faces node ≡ Some face → (past : Past) → run_of view ≡ Some past → IsNodeOf view past.state node face
  view-node node face there past ran =
      subst (λ (v : MachineView D). IsNodeOf v past.state node face) is (subst (λ (p : Past). IsNodeOf (view_by sizes faces events dirs) p.state node face) (sym (view-past past ran)) here)
    where
      here : IsNodeOf (view_by sizes faces events dirs) past_in.state node face
      here =
          let its = kept.nodes.each node face there in
          λ i. record { sizes = its.same_sizes i; number = its.number_is i; program = sym (programs_of-at faces node face there) i; charge = its.same_charge i; share = sym (share_in-at sizes faces node face there) i }

  pub view-one : (past : Past) → run_of view ≡ Some past → IsOneHistory view.charge (trace_of view) view.events past
  view-one past ran =
      subst (λ (v : MachineView D). IsOneHistory v.charge (trace_of v) v.events past) is
      (subst (λ (p : Past). IsOneHistory (charge_in faces) (trace_of (view_by sizes faces events dirs)) events p) (sym (view-past past ran))
      (one_history (charge_in faces) (trace_of (view_by sizes faces events dirs)) events past_in (some-words sizes kept.sizes_are) (traced sizes (charge_in faces) faces kept.nodes events past_in kept.ran)))

  -- the completed entries among those served are the history of the run
  pub view-history : (entries : List Entry) → entries ≡ kept_of (state_of sizes faces lanes.lane) served → (past : Past) → run_of view ≡ Some past → entries ≡ history past
  view-history entries kept past ran = kept ∙ ap history (sym (view-past past ran))

  pub view-count : (i : ℕ) (c : Count) → slice_get (all_counts view.sizes) i ≡ Some c → get_or tally i 0 ≡ counted (moments view.charge view.sizes (programs_of view.programs) (start view.sizes).state view.events) c
  view-count i c =
      subst (λ (v : MachineView D). slice_get (all_counts v.sizes) i ≡ Some c → get_or tally i 0 ≡ counted (moments v.charge v.sizes (programs_of v.programs) (start v.sizes).state v.events) c) is
      (λ at. ap (λ ns. get_or ns i 0) kept.tally_is ∙ tally_of-at sizes (moments_in sizes faces events) i c at)

  -- what holds of each machine
  pub view-machine : IsMachine view
  view-machine = subst IsMachine is (record {
    sizes_are = kept.sizes_are;
    programs_are = record { count = length-map faces (λ (f : Face). f.program) ∙ kept.nodes.count; each = programs-are sizes (charge_in faces) faces kept.nodes };
    past = past_in;
    ran = kept.ran;
  })

  -- a message that is taken is lighter than it
  lighter : (event : Event) (done : Done) → IsEventOf sizes event → effect (charge_in faces) sizes (programs_of (programs_in faces)) past_in.state event ≡ Ok done → IsTake event → weight sizes (after past_in.state done) < weight sizes past_in.state
  lighter (Hit node) done of does take = absurd take
  lighter (Issue node) done of does take = absurd take
  lighter (Evict node line kind) done of does take = absurd take
  lighter (Reclaim line) done of does take = absurd take
  lighter (Take src dst class victim) done of does take =
      falling_weight (charge_in faces) (trace_of (view_by sizes faces events dirs)) events past_in src dst class victim done (some-words sizes kept.sizes_are) (traced sizes (charge_in faces) faces kept.nodes events past_in kept.ran) of.0 of.1
      (subst (λ ps. effect (charge_in faces) sizes ps past_in.state (Take src dst class victim) ≡ Ok done) (sym (program-of sizes (programs_in faces) (programs-are sizes (charge_in faces) faces kept.nodes))) does)

  -- one event more
  pub view-next : (new : MachineView D) (event : Event) (last : Past) → new.sizes ≡ sizes → new.programs ≡ programs_in faces → new.charge ≡ charge_in faces → new.events ≡ events ++ event ∷ [] → run_of new ≡ Some last → IsEventOf sizes event →
      (past : Past) → run_of view ≡ Some past → IsNext view new past event
  view-next new event last sizes_is programs_is charge_is events_is ran of past old =
      let next : run_by (charge_in faces) sizes (programs_of (programs_in faces)) (start sizes) (events ++ event ∷ []) ≡ Some last = (λ i. run_by (sym charge_is i) (sym sizes_is i) (programs_of (sym programs_is i)) (start (sym sizes_is i)) (sym events_is i)) ∙ ran in
      let parts = run-split (charge_in faces) sizes (programs_of (programs_in faces)) (start sizes) past_in last events event kept.ran next in
      subst (λ (v : MachineView D). IsNext v new past event) is
      (subst (λ (p : Past). IsNext (view_by sizes faces events dirs) new p event) (sym (view-past past old))
      (record { done = parts.0; does = parts.1; ran = ran ∙ ap Some parts.2; lighter = lighter event parts.0 of parts.1 }))

  -- a message under way can be taken
  pub view-moves : (past : Past) (src dst : ℕ) (class : Class) → run_of view ≡ Some past → past.state.lane src dst class ≢ [] → (victim : Option ℕ) × (done : Done) × (effect_in view past.state (Take src dst class victim) ≡ Ok done)
  view-moves past src dst class ran some =
      subst (λ (v : MachineView D). (victim : Option ℕ) × (done : Done) × (effect_in v past.state (Take src dst class victim) ≡ Ok done)) is
      (subst (λ (p : Past). (victim : Option ℕ) × (done : Done) × (effect_in (view_by sizes faces events dirs) p.state (Take src dst class victim) ≡ Ok done)) (sym (view-past past ran))
      (subst (λ ps. (victim : Option ℕ) × (done : Done) × (effect (charge_in faces) sizes ps past_in.state (Take src dst class victim) ≡ Ok done)) (program-of sizes (programs_in faces) (programs-are sizes (charge_in faces) faces kept.nodes))
      (enabled_take (charge_in faces) (trace_of (view_by sizes faces events dirs)) events past_in src dst class (some-words sizes kept.sizes_are) (some-links sizes kept.sizes_are) (traced sizes (charge_in faces) faces kept.nodes events past_in kept.ran)
      (subst (λ (p : Past). p.state.lane src dst class ≢ []) (view-past past ran) some))))
