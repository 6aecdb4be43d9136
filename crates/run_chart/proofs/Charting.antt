-- The chart of a run with one event more.
use Rattle.std.proofs.Common.{◌≡◌, ◌≢◌, ℕ, suc, ◌+◌, ◌<◌, Bool, true, false, cond, ◌==◌, nat_lt, List, [], ◌∷◌, ◌++◌, Option, None, Ok, length, drop, map, refl, sym, ap, subst, ◌∙◌, arith}
use Rattle.std.specs.Prelude.{slice_get}
use Rattle.std.specs.List.{All}
use Rattle.std.proofs.lemmas.List.{append-nil, length-map, drop-map}
use Rattle.std.proofs.lemmas.Bool.Decides.{nat_tests}
use Rattle.std.proofs.Math.Seq.{drop-append_seam}
use Rattle.line_map.specs.Sizes.{Sizes}
use Rattle.op_model.specs.declared.events.Class.{Class}
use Rattle.op_model.specs.declared.events.Event.{Event}
use Rattle.op_model.specs.declared.events.Event.TheVariants.{Hit, Issue, Evict, Take, Reclaim}
use Rattle.op_model.specs.declared.messages.Msg.{Msg}
use Rattle.op_model.specs.declared.operations.Entry.{Entry}
use Rattle.op_model.specs.Messages.{same_class, msg_class}
use Rattle.op_model.specs.Shares.{Lanes}
use Rattle.op_model.specs.Events.Step.{Done, Off, to_lane, event_node, off_of}
use Rattle.op_model.specs.Run.Runs.{Past, past_after}
use Rattle.op_model.specs.Run.Machines.{MachineRun, IsRunning, IsApplied, IsEventOf, effect_on, with_event}
use Rattle.chart_strokes.specs.declared.strokes.Letter.{Letter}
use Rattle.chart_strokes.specs.declared.strokes.Stroke.{Stroke}
use Rattle.chart_strokes.specs.Strokes.{letter_from, letters_after, Charted, charted_after, charted, first_chart, chart_of, strokes_of, stroke_of, letter_taken, operation_entry}
use Rattle.run_chart.specs.declared.before.Before.{Before}
use Rattle.run_chart.specs.Charts.{ChartView, in_lane, IsBefore, IsChartOf}
use Rattle.run_chart.specs.Lettered.{new_letters, AreOfClass, ArePosted}
use Rattle.chart_strokes.proofs.Public.{IsFaithful, charted-past, charted-push, effect-is, faithful, faithful-after, msg_of}

-- ---- the letters that are noted are those of the run

module _ (sizes : Sizes) (chart : Charted) (done : Done) (faithful : IsFaithful chart) where
  abbrev number : ℕ
  number = suc (length chart.strokes)

  abbrev lanes : Lanes
  lanes = (past_after sizes chart.past done).state.lane

  -- what is new in a lane of the node
  new-own : (a b : ℕ) (k : Class) (taken : List Letter) → a ≡ done.node → in_lane taken a b k ≡ drop (done.off a b k) (chart.letters a b k) →
      in_lane taken a b k ++ new_letters number a b k taken (lanes a b k) ≡ letters_after number chart.letters done a b k
  new-own a b k taken own is =
      let left = drop (done.off a b k) (chart.past.state.lane a b k) in
      let sent = to_lane b k done.out.sends in
      let self : (a == done.node) ≡ true = grind (arith, nat_tests) in
      let long : length (in_lane taken a b k) ≡ length left =
      sym (length-map (in_lane taken a b k) msg_of) ∙ ap (λ (ls : List Letter). length (map msg_of ls)) is
      ∙ ap (λ (ms : List Msg). length ms) (sym (drop-map msg_of (done.off a b k) (chart.letters a b k)) ∙ ap (λ (ms : List Msg). drop (done.off a b k) ms) (faithful.letters a b k)) in
      let news : drop (length (in_lane taken a b k)) (lanes a b k) ≡ sent =
      ap (λ (n : ℕ). drop n (left ++ cond (a == done.node) sent [])) long ∙ drop-append_seam left (cond (a == done.node) sent []) ∙ ap (λ (t : Bool). cond t sent []) self in
      ap (λ (ms : List Msg). in_lane taken a b k ++ map (letter_from number a b) ms) news
      ∙ ap (λ (ls : List Letter). ls ++ map (letter_from number a b) sent) is
      ∙ ap (λ (t : Bool). drop (done.off a b k) (chart.letters a b k) ++ cond t (map (letter_from number a b) sent) []) (sym self)

  -- nothing is new in another lane
  new-other : (a b : ℕ) (k : Class) (taken : List Letter) → a ≢ done.node → in_lane taken a b k ≡ drop (done.off a b k) (chart.letters a b k) → in_lane taken a b k ≡ letters_after number chart.letters done a b k
  new-other a b k taken other is =
      let apart : (a == done.node) ≡ false = grind (arith, nat_tests) in
      is ∙ sym (append-nil (drop (done.off a b k) (chart.letters a b k))) ∙ ap (λ (t : Bool). drop (done.off a b k) (chart.letters a b k) ++ cond t (map (letter_from number a b) (to_lane b k done.out.sends)) []) (sym apart)

  pub new-letters : (n : ℕ) (taken new : List Letter) → ((a b : ℕ) (k : Class) → a < n → b < n → in_lane taken a b k ≡ drop (done.off a b k) (chart.letters a b k)) → ArePosted number done.node n lanes taken new →
      (a b : ℕ) (k : Class) → a < n → b < n → in_lane new a b k ≡ letters_after number chart.letters done a b k
  new-letters n taken new left posts a b k from to = go (a == done.node) refl
    where
      go : (t : Bool) → (a == done.node) ≡ t → in_lane new a b k ≡ letters_after number chart.letters done a b k
      go true e =
          let own : a ≡ done.node = grind (arith, nat_tests) in
          subst (λ (node : ℕ). in_lane new node b k ≡ in_lane taken node b k ++ new_letters number node b k taken (lanes node b k)) (sym own) (posts.own b k to) ∙ new-own a b k taken own (left a b k from to)
      go false e =
          let other : a ≢ done.node = grind (arith, nat_tests) in
          posts.others a b k other ∙ new-other a b k taken other (left a b k from to)

-- ---- one event more

module _ (was : MachineRun) (event : Event) (done : Done) (does : effect_on was event ≡ Ok done) (running : IsRunning was) where
  abbrev after : MachineRun
  after = with_event was event done

  abbrev chart : Charted
  chart = chart_of was

  pub chart-next : chart_of after ≡ charted_after was.sizes was.programs chart event done
  chart-next = charted-push was.charge was.sizes was.programs (first_chart was.sizes) was.past was.events event done running.ran does

  pub chart-past : chart.past ≡ was.past
  chart-past = charted-past was.charge was.sizes was.programs (first_chart was.sizes) was.past was.events running.ran

  pub still-charted : (old : ChartView) (taken new : List Letter) (stroke : Stroke) (number node : ℕ) → IsChartOf was old → ((a b : ℕ) (k : Class) → in_lane taken a b k ≡ drop (off_of event a b k) (in_lane old.letters a b k)) →
      (AreOfClass node was.sizes.nodes after.past.state.lane → ArePosted number node was.sizes.nodes after.past.state.lane taken new) →
      number ≡ length old.strokes + 1 → node ≡ event_node was.sizes event → stroke ≡ stroke_of was.sizes was.programs number chart.letters was.past event after.past → IsChartOf after (record { letters = new; strokes = old.strokes ++ stroke ∷ [] })
  unfolding strokes_of
  still-charted old taken new stroke number node was_it left posts count at is =
      let of_it = effect-is was.charge was.sizes was.programs was.past.state event done does in
      let same_count : number ≡ suc (length chart.strokes) = omega (arith, count, ap (λ (ss : List Stroke). length ss) was_it.strokes) in
      let same_node : node ≡ done.node = at ∙ sym of_it.0 in
      let same_past : (charted_after was.sizes was.programs chart event done).past ≡ after.past = ap (λ (p : Past). past_after was.sizes p done) chart-past in
      let of_class : AreOfClass node was.sizes.nodes after.past.state.lane = (λ dst k lt. subst (λ (p : Past). All (λ msg. same_class k (msg_class msg) ≡ true) (p.state.lane node dst k)) same_past ((faithful-after was.sizes was.programs chart event done (faithful was)).of_class node dst k)) in
      let posted_all : ArePosted (suc (length chart.strokes)) done.node was.sizes.nodes (past_after was.sizes chart.past done).state.lane taken new =
      subst (λ (p : Past). ArePosted (suc (length chart.strokes)) done.node was.sizes.nodes p.state.lane taken new) (sym same_past)
      (subst (λ (k : ℕ). ArePosted k done.node was.sizes.nodes after.past.state.lane taken new) same_count
      (subst (λ (k : ℕ). ArePosted number k was.sizes.nodes after.past.state.lane taken new) same_node (posts of_class))) in
      let left_all : (a b : ℕ) (k : Class) → a < was.sizes.nodes → b < was.sizes.nodes → in_lane taken a b k ≡ drop (done.off a b k) (chart.letters a b k) =
      (λ a b k from to. left a b k ∙ ap (λ (ls : List Letter). drop (off_of event a b k) ls) (was_it.letters a b k from to) ∙ ap (λ (off : Off). drop (off a b k) (chart.letters a b k)) (sym of_it.1)) in
      let same_stroke : stroke ≡ stroke_of was.sizes was.programs (suc (length chart.strokes)) chart.letters chart.past event (past_after was.sizes chart.past done) =
      is ∙ ap (λ (k : ℕ). stroke_of was.sizes was.programs k chart.letters was.past event after.past) same_count
      ∙ ap (λ (p : Past). stroke_of was.sizes was.programs (suc (length chart.strokes)) chart.letters p event (past_after was.sizes p done)) (sym chart-past) in
      record {
        strokes = ap (λ (ss : List Stroke). ss ++ stroke ∷ []) was_it.strokes ∙ ap (λ (s : Stroke). chart.strokes ++ s ∷ []) same_stroke ∙ ap (λ (c : Charted). c.strokes) (sym chart-next);
        letters = λ a b k from to. new-letters was.sizes chart done (faithful was) was.sizes.nodes taken new left_all posted_all a b k from to ∙ ap (λ (c : Charted). c.letters a b k) (sym chart-next);
      }

-- the letter that is taken is that of the run
taken-same : (m : MachineRun) (old : ChartView) (event : Event) → IsEventOf m.sizes event → IsChartOf m old → letter_taken (in_lane old.letters) event ≡ letter_taken (chart_of m).letters event
taken-same m old (Hit node) of is = refl
taken-same m old (Issue node) of is = refl
taken-same m old (Evict node line kind) of is = refl
taken-same m old (Take src dst class victim) of is = ap (λ ls. slice_get ls 0) (is.letters src dst class of.0 of.1)
taken-same m old (Reclaim line) of is = refl

abbrev pub noted_stroke : ℕ → Event → Before → Option Letter → Option Entry → Option Entry → Stroke
noted_stroke number event before sent served completed = record { number = number; event = event; node = before.node; line = before.line; letter = sent; served = served; completed = completed }

-- what is done for an event, with the machine after it
pub record IsNoted (now : MachineRun) (event : Event) (before : Before) (old : ChartView) (taken new : List Letter) (number : ℕ) (sent : Option Letter) (entry done : Option Entry) : Type 0 where
  pub count : number ≡ length old.strokes + 1
  pub taken_is : sent ≡ letter_taken (in_lane old.letters) event
  pub left : (a b : ℕ) (k : Class) → in_lane taken a b k ≡ drop (off_of event a b k) (in_lane old.letters a b k)
  pub posts : AreOfClass before.node now.sizes.nodes now.past.state.lane → ArePosted number before.node now.sizes.nodes now.past.state.lane taken new
  pub served : entry ≡ slice_get now.past.served before.served
  pub completed : done ≡ cond (nat_lt before.place (now.past.state.share before.node).place) (operation_entry before.node before.place now.past.served) None

module _ (was : MachineRun) (event : Event) (before : Before) (old : ChartView) (taken new : List Letter) (number : ℕ) (sent : Option Letter) (entry completed : Option Entry) (done : Done) (does : effect_on was event ≡ Ok done) (running : IsRunning was) (known : IsBefore was event before) (of : IsEventOf was.sizes event) (was_it : IsChartOf was old)
    (is : IsNoted (with_event was event done) event before old taken new number sent entry completed) where
  abbrev last : Past
  last = past_after was.sizes was.past done

  same-completed : completed ≡ cond (nat_lt (was.past.state.share (event_node was.sizes event)).place (last.state.share (event_node was.sizes event)).place) (operation_entry (event_node was.sizes event) (was.past.state.share (event_node was.sizes event)).place last.served) None
  same-completed =
      is.completed
      ∙ ap (λ (n : ℕ). cond (nat_lt before.place (last.state.share n).place) (operation_entry n before.place last.served) None) known.node
      ∙ ap (λ (p : ℕ). cond (nat_lt p (last.state.share (event_node was.sizes event)).place) (operation_entry (event_node was.sizes event) p last.served) None) known.place

  same-served : entry ≡ slice_get last.served (length was.past.served)
  same-served = is.served ∙ ap (λ (n : ℕ). slice_get last.served n) known.served

  same-sent : sent ≡ letter_taken (chart_of was).letters event
  same-sent = is.taken_is ∙ taken-same was old event of was_it

  same-stroke : noted_stroke number event before sent entry completed ≡ stroke_of was.sizes was.programs number (chart_of was).letters was.past event last
  same-stroke = λ i. record { number = number; event = event; node = known.node i; line = known.line i; letter = same-sent i; served = same-served i; completed = same-completed i }

  noted-after : IsChartOf (with_event was event done) (record { letters = new; strokes = old.strokes ++ noted_stroke number event before sent entry completed ∷ [] })
  noted-after = still-charted was event done does running old taken new (noted_stroke number event before sent entry completed) number before.node was_it is.left is.posts is.count known.node same-stroke

-- what was the chart of a run is the chart of the run with the event that was noted
pub still-told : (was now : MachineRun) (event : Event) (before : Before) (inside old : ChartView) (taken new : List Letter) (strokes : List Stroke) (number : ℕ) (sent : Option Letter) (entry completed : Option Entry) →
    IsRunning was → IsApplied was event now → IsBefore was event before → IsEventOf now.sizes event → inside ≡ old → IsChartOf was old → IsNoted now event before inside taken new number sent entry completed →
    strokes ≡ inside.strokes ++ noted_stroke number event before sent entry completed ∷ [] → IsChartOf now (record { letters = new; strokes = strokes })
still-told was now event before inside old taken new strokes number sent entry completed running applied known of same was_it is pushed =
    let was_inside : IsChartOf was inside = subst (λ (v : ChartView). IsChartOf was v) (sym same) was_it in
    let after_is : IsNoted (with_event was event applied.0) event before inside taken new number sent entry completed = subst (λ (m : MachineRun). IsNoted m event before inside taken new number sent entry completed) applied.2 is in
    let of_was : IsEventOf was.sizes event = subst (λ (m : MachineRun). IsEventOf m.sizes event) applied.2 of in
    subst (λ (ss : List Stroke). IsChartOf now (record { letters = new; strokes = ss })) (sym pushed)
    (subst (λ (m : MachineRun). IsChartOf m (record { letters = new; strokes = inside.strokes ++ noted_stroke number event before sent entry completed ∷ [] })) (sym applied.2)
    (noted-after was event before inside taken new number sent entry completed applied.0 applied.1 running known of_was was_inside after_is))

-- ---- a run without events

pub first-told : (m : MachineRun) → m.events ≡ [] → IsChartOf m (record { letters = []; strokes = [] })
unfolding strokes_of
first-told m none_yet = record {
  strokes = ap (λ (es : List Event). (charted m.charge m.sizes m.programs (first_chart m.sizes) es).strokes) (sym none_yet);
  letters = λ a b k from to. ap (λ (es : List Event). (charted m.charge m.sizes m.programs (first_chart m.sizes) es).letters a b k) (sym none_yet);
}
