-- Courses of a schedule: one after another they are a course, a course runs, and where the schedule has no next event at its end it is
-- the schedule, the only one: each event is determined by the state before it.
use Rattle.std.proofs.Common.{◌≡◌, ℕ, zero, suc, ◌+◌, List, [], ◌∷◌, ◌++◌, take, sum_by, refl, arith, ap, sym, ◌∙◌, subst, Option, Some, None, Result, Ok, Err}
use Rattle.std.proofs.lemmas.List.Sums.{sum_by-cons}
use Rattle.std.proofs.lemmas.Option.{same_Some}
use Rattle.line_map.specs.Sizes.{Sizes}
use Rattle.op_model.specs.declared.events.Cause.{Cause}
use Rattle.op_model.specs.declared.events.Event.{Event}
use Rattle.op_model.specs.Shares.{Charge, State}
use Rattle.op_model.specs.Events.Step.{Programs, Done, effect, after, and_then}
use Rattle.op_model.specs.Run.Runs.{Past, past_after, run_by}
use Rattle.op_model.specs.Run.Counts.{Moment, moments, moments_then}
use Rattle.op_model.specs.Run.Schedules.{IsScheduleFrom}
use Rattle.schedule_laws.specs.Courses.{IsCourse, naks_sent, nak_count}

module _ (next : State → Option Event) (charge : Charge) (sizes : Sizes) (programs : Programs) where
  abbrev Leads : Past → List Event → Past → Type 0
  Leads past events end = IsCourse next charge sizes programs past events end

  -- one course after another
  pub course-append : (past middle end : Past) (events more : List Event) → Leads past events middle → Leads middle more end → Leads past (events ++ more) end
  course-append past middle end [] more one two = subst (λ p. Leads p more end) (sym one) two
  course-append past middle end (event ∷ events) more one two =
      (one.0, one.1, one.2, course-append (past_after sizes past one.1) middle end events more one.3 two)

  -- a course is a run
  pub course-run : (past end : Past) (events : List Event) → Leads past events end → run_by charge sizes programs past events ≡ Some end
  course-run past end [] leads = ap Some leads
  course-run past end (event ∷ events) leads =
      ap (λ r. and_then r (λ done. run_by charge sizes programs (past_after sizes past done) events)) leads.2 ∙ course-run (past_after sizes past leads.1) end events leads.3

  abbrev naks : List Moment → ℕ
  naks ms = sum_by (λ (m : Moment). naks_sent m.done) ms

  moments-more : (past : Past) (event : Event) (done : Done) (events : List Event) → effect charge sizes programs past.state event ≡ Ok done →
      nak_count charge sizes programs past.state (event ∷ events) ≡ naks_sent done + nak_count charge sizes programs (past_after sizes past done).state events
  moments-more past event done events is =
      ap (λ r. naks (moments_then past.state event (λ s. moments charge sizes programs s events) r)) is
      ∙ sum_by-cons (λ (m : Moment). naks_sent m.done) (record { before = past.state; event = event; done = done }) (moments charge sizes programs (after past.state done) events)

  -- the Naks of one course after another
  pub naks-append : (past middle : Past) (events more : List Event) → Leads past events middle →
      nak_count charge sizes programs past.state (events ++ more) ≡ nak_count charge sizes programs past.state events + nak_count charge sizes programs middle.state more
  naks-append past middle [] more leads = let same = ap (λ (p : Past). nak_count charge sizes programs p.state more) leads in omega arith
  naks-append past middle (event ∷ events) more leads =
      let later = naks-append (past_after sizes past leads.1) middle events more leads.3 in
      let whole = moments-more past event leads.1 (events ++ more) leads.2 in
      let first = moments-more past event leads.1 events leads.2 in
      omega arith

  -- one event that sends no Nak, or one
  pub naks-cons : (past : Past) (event : Event) (done : Done) (events : List Event) → effect charge sizes programs past.state event ≡ Ok done →
      nak_count charge sizes programs past.state (event ∷ events) ≡ naks_sent done + nak_count charge sizes programs (past_after sizes past done).state events
  naks-cons = moments-more

  -- where the schedule has no next event at the end of a course, the course is the schedule
  pub course-schedule : (past end : Past) (events : List Event) → Leads past events end → next end.state ≡ None → IsScheduleFrom next charge sizes programs past events
  course-schedule past end [] leads none zero moment ran = let same : past ≡ moment = cc in ap (λ (p : Past). next p.state) (sym same ∙ leads) ∙ none
  course-schedule past end [] leads none (suc k) moment ran = let same : past ≡ moment = cc in ap (λ (p : Past). next p.state) (sym same ∙ leads) ∙ none
  course-schedule past end (event ∷ events) leads none zero moment ran = let same : past ≡ moment = cc in ap (λ (p : Past). next p.state) (sym same) ∙ leads.0
  course-schedule past end (event ∷ events) leads none (suc k) moment ran =
      course-schedule (past_after sizes past leads.1) end events leads.3 none k moment
      (ap (λ r. and_then r (λ done. run_by charge sizes programs (past_after sizes past done) (take k events))) (sym leads.2) ∙ ran)

  ran-first : (past end : Past) (event : Event) (events : List Event) → run_by charge sizes programs past (event ∷ events) ≡ Some end →
      (done : Done) × (effect charge sizes programs past.state event ≡ Ok done) × (run_by charge sizes programs (past_after sizes past done) events ≡ Some end)
  ran-first past end event events ran = go (effect charge sizes programs past.state event) refl ran
    where
      go : (r : Result Done Cause) → effect charge sizes programs past.state event ≡ r → and_then r (λ done. run_by charge sizes programs (past_after sizes past done) events) ≡ Some end →
          (done : Done) × (effect charge sizes programs past.state event ≡ Ok done) × (run_by charge sizes programs (past_after sizes past done) events ≡ Some end)
      go (Ok done) is ran = (done, is, ran)
      go (Err cause) is ran = absurd (let n : ◌≡◌ {A = Option Past} None (Some end) = ran in cc)

  -- a schedule that runs is a course, at whose end it has no next event
  pub schedule-course : (past end : Past) (events : List Event) → run_by charge sizes programs past events ≡ Some end → IsScheduleFrom next charge sizes programs past events →
      Leads past events end × (next end.state ≡ None)
  schedule-course past end [] ran scheduled = let same : past ≡ end = cc in (same, ap (λ (p : Past). next p.state) (sym same) ∙ scheduled 0 past refl)
  schedule-course past end (event ∷ events) ran scheduled =
      let first = ran-first past end event events ran in
      let rest = schedule-course (past_after sizes past first.0) end events first.2
      (λ k moment runs. scheduled (suc k) moment (ap (λ r. and_then r (λ done. run_by charge sizes programs (past_after sizes past done) (take k events))) first.1 ∙ runs)) in
      ((scheduled 0 past refl, first.0, first.1, rest.0), rest.1)

  -- two courses from one moment, after each of which the schedule has no next event, are one
  pub course-unique : (past end other : Past) (events more : List Event) → Leads past events end → Leads past more other → next end.state ≡ None → next other.state ≡ None → events ≡ more
  course-unique past end other [] [] one two ends stops = refl
  course-unique past end other [] (event ∷ more) one two ends stops = absurd (let n : ◌≡◌ {A = Option Event} None (Some event) = sym ends ∙ ap (λ (p : Past). next p.state) (sym one) ∙ two.0 in cc)
  course-unique past end other (event ∷ events) [] one two ends stops = absurd (let n : ◌≡◌ {A = Option Event} None (Some event) = sym stops ∙ ap (λ (p : Past). next p.state) (sym two) ∙ one.0 in cc)
  course-unique past end other (event ∷ events) (also ∷ more) one two ends stops =
      let same : event ≡ also = same_Some event also (sym one.0 ∙ two.0) in
      let alike : one.1 ≡ two.1 = cc (sym one.2 ∙ ap (effect charge sizes programs past.state) same ∙ two.2) in
      let rest = course-unique (past_after sizes past one.1) end other events more one.3 (subst (λ d. Leads (past_after sizes past d) more other) (sym alike) two.3) ends stops in
      ap (λ e. e ∷ events) same ∙ ap (λ es. also ∷ es) rest
