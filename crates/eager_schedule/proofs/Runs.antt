-- Courses of the serial schedule: one after another they are a course, a course runs, and each of its events is the schedule's next one at its place. Where nothing is next at the end of a course it is the schedule, and the only one.
use Rattle.std.proofs.Common.{◌≡◌, ℕ, zero, suc, ◌<◌, ◌⊎◌, inl, inr, List, [], ◌∷◌, ◌++◌, length, take, refl, arith, ap, sym, ◌∙◌, subst, Option, Some, None, Result, Ok, Err}
use Rattle.std.specs.Prelude.{slice_get}
use Rattle.std.proofs.lemmas.Option.{same_Some}
use Rattle.line_map.specs.Sizes.{Sizes}
use Rattle.op_model.specs.declared.events.Cause.{Cause}
use Rattle.op_model.specs.declared.events.Event.{Event}
use Rattle.op_model.specs.Events.Step.{and_then}
use Rattle.op_model.specs.Run.Schedules.{serial_next}
use Rattle.op_model.specs.Shares.{State, Trace, Unlinked, program}
use Rattle.eager_model.specs.Laws.{IsScheduled, IsSerial}
use Rattle.eager_model.specs.Runs.{Past, past_after, run, run_by, start}
use Rattle.eager_model.specs.Step.{AgedDone, effect}
use Rattle.eager_schedule.specs.Courses.{IsCourse}

-- a moment that a run reaches
abbrev pub IsReached : Trace → Past → Type 0
IsReached trace past = (before : List Event) × (run trace before ≡ Some past)

module _ (trace : Trace) where
  abbrev sizes : Sizes
  sizes = trace.sizes

  abbrev Leads : Past → List Event → Past → Type 0
  Leads past events end = IsCourse trace past events end

  abbrev next : State → Option Event
  next = serial_next Unlinked trace.sizes (program trace) trace.ops

  abbrev ran : Past → List Event → Option Past
  ran past events = run_by trace.sizes (program trace) past events

  -- one course after another
  pub course-append : (past middle end : Past) (events more : List Event) → Leads past events middle → Leads middle more end → Leads past (events ++ more) end
  course-append past middle end [] more one two = subst (λ p. Leads p more end) (sym one) two
  course-append past middle end (event ∷ events) more one two = (one.0, one.1, one.2, course-append (past_after sizes past one.1) middle end events more one.3 two)

  -- a course is a run
  pub course-run : (past end : Past) (events : List Event) → Leads past events end → ran past events ≡ Some end
  course-run past end [] leads = ap Some leads
  course-run past end (event ∷ events) leads = ap (λ r. and_then r (λ done. ran (past_after sizes past done) events)) leads.2 ∙ course-run (past_after sizes past leads.1) end events leads.3

  -- a run and one from its end are one run
  pub run-on : (past middle end : Past) (first rest : List Event) → ran past first ≡ Some middle → ran middle rest ≡ Some end → ran past (first ++ rest) ≡ Some end
  run-on past middle end [] rest e f = let same : past ≡ middle = cc in ap (λ p. ran p rest) same ∙ f
  run-on past middle end (event ∷ events) rest e f = go (effect sizes (program trace) past.state past.ages event) (λ next. run-on next middle end events rest) e
    where
      go : (r : Result AgedDone Cause) → ((next : Past) → ran next events ≡ Some middle → ran middle rest ≡ Some end → ran next (events ++ rest) ≡ Some end) →
          and_then r (λ done. ran (past_after sizes past done) events) ≡ Some middle → and_then r (λ done. ran (past_after sizes past done) (events ++ rest)) ≡ Some end
      go (Ok done) later e = later (past_after sizes past done) e f
      go (Err cause) later e = absurd (let n : ◌≡◌ {A = Option Past} None (Some middle) = e in cc)

  -- a run that goes on from the end of its first events
  pub run-rest : (past middle end : Past) (first rest : List Event) → ran past first ≡ Some middle → ran past (first ++ rest) ≡ Some end → ran middle rest ≡ Some end
  run-rest past middle end [] rest e f = let same : past ≡ middle = cc in ap (λ p. ran p rest) (sym same) ∙ f
  run-rest past middle end (event ∷ events) rest e f = go (effect sizes (program trace) past.state past.ages event) (λ next. run-rest next middle end events rest) e f
    where
      go : (r : Result AgedDone Cause) → ((next : Past) → ran next events ≡ Some middle → ran next (events ++ rest) ≡ Some end → ran middle rest ≡ Some end) →
          and_then r (λ done. ran (past_after sizes past done) events) ≡ Some middle → and_then r (λ done. ran (past_after sizes past done) (events ++ rest)) ≡ Some end → ran middle rest ≡ Some end
      go (Ok done) later e f = later (past_after sizes past done) e f
      go (Err cause) later e f = absurd (let n : ◌≡◌ {A = Option Past} None (Some middle) = e in cc)

  pub reached-on : (past end : Past) (events : List Event) → IsReached trace past → ran past events ≡ Some end → IsReached trace end
  reached-on past end events reached goes = (reached.0 ++ events, run-on (start sizes) past end reached.0 events reached.1 goes)

  pub reached-event : (past : Past) → IsReached trace past → (event : Event) (done : AgedDone) → effect sizes (program trace) past.state past.ages event ≡ Ok done → IsReached trace (past_after sizes past done)
  reached-event past reached event done is = reached-on past (past_after sizes past done) (event ∷ []) reached (ap (λ r. and_then r (λ d. ran (past_after sizes past d) [])) is)

  -- each event of a course is the schedule's next one at its place, and where nothing is next at its end there is none beyond
  pub course-at : (past end : Past) (events : List Event) → Leads past events end → (k : ℕ) (moment : Past) → ran past (take k events) ≡ Some moment → (k < length events) ⊎ (next end.state ≡ None) → next moment.state ≡ slice_get events k
  course-at past end [] leads zero moment goes (inl less) = absurd (omega arith)
  course-at past end [] leads zero moment goes (inr none) = let same : past ≡ moment = cc in ap (λ (p : Past). next p.state) (sym same ∙ leads) ∙ none
  course-at past end [] leads (suc k) moment goes (inl less) = absurd (omega arith)
  course-at past end [] leads (suc k) moment goes (inr none) = let same : past ≡ moment = cc in ap (λ (p : Past). next p.state) (sym same ∙ leads) ∙ none
  course-at past end (event ∷ events) leads zero moment goes either = let same : past ≡ moment = cc in ap (λ (p : Past). next p.state) (sym same) ∙ leads.0
  course-at past end (event ∷ events) leads (suc k) moment goes either =
      course-at (past_after sizes past leads.1) end events leads.3 k moment (ap (λ r. and_then r (λ done. ran (past_after sizes past done) (take k events))) (sym leads.2) ∙ goes) (later either)
    where
      later : (suc k < length (event ∷ events)) ⊎ (next end.state ≡ None) → (k < length events) ⊎ (next end.state ≡ None)
      later (inl less) = inl (omega arith)
      later (inr none) = inr none

  pub ran-first : (past end : Past) (event : Event) (events : List Event) → ran past (event ∷ events) ≡ Some end → (done : AgedDone) × (effect sizes (program trace) past.state past.ages event ≡ Ok done) × (ran (past_after sizes past done) events ≡ Some end)
  ran-first past end event events goes = go (effect sizes (program trace) past.state past.ages event) refl goes
    where
      go : (r : Result AgedDone Cause) → effect sizes (program trace) past.state past.ages event ≡ r → and_then r (λ done. ran (past_after sizes past done) events) ≡ Some end →
          (done : AgedDone) × (effect sizes (program trace) past.state past.ages event ≡ Ok done) × (ran (past_after sizes past done) events ≡ Some end)
      go (Ok done) is goes = (done, is, goes)
      go (Err cause) is goes = absurd (let n : ◌≡◌ {A = Option Past} None (Some end) = goes in cc)

  -- a schedule that runs is a course, at whose end nothing is next
  schedule-course : (past end : Past) (events : List Event) → ran past events ≡ Some end → IsScheduled next sizes (program trace) past events → Leads past events end × (next end.state ≡ None)
  schedule-course past end [] goes scheduled = let same : past ≡ end = cc in (same, ap (λ (p : Past). next p.state) (sym same) ∙ scheduled 0 past refl)
  schedule-course past end (event ∷ events) goes scheduled =
      let first = ran-first past end event events goes in
      let rest = schedule-course (past_after sizes past first.0) end events first.2
      (λ k moment runs. scheduled (suc k) moment (ap (λ r. and_then r (λ done. ran (past_after sizes past done) (take k events))) first.1 ∙ runs)) in
      ((scheduled 0 past refl, first.0, first.1, rest.0), rest.1)

  -- two courses from one moment, after each of which nothing is next, are one
  course-unique : (past end other : Past) (events more : List Event) → Leads past events end → Leads past more other → next end.state ≡ None → next other.state ≡ None → events ≡ more
  course-unique past end other [] [] one two ends stops = refl
  course-unique past end other [] (event ∷ more) one two ends stops = absurd (let n : ◌≡◌ {A = Option Event} None (Some event) = sym ends ∙ ap (λ (p : Past). next p.state) (sym one) ∙ two.0 in cc)
  course-unique past end other (event ∷ events) [] one two ends stops = absurd (let n : ◌≡◌ {A = Option Event} None (Some event) = sym stops ∙ ap (λ (p : Past). next p.state) (sym two) ∙ one.0 in cc)
  course-unique past end other (event ∷ events) (also ∷ more) one two ends stops =
      let same : event ≡ also = same_Some event also (sym one.0 ∙ two.0) in
      let alike : one.1 ≡ two.1 = cc (sym one.2 ∙ ap (effect sizes (program trace) past.state past.ages) same ∙ two.2) in
      let rest = course-unique (past_after sizes past one.1) end other events more one.3 (subst (λ d. Leads (past_after sizes past d) more other) (sym alike) two.3) ends stops in
      ap (λ e. e ∷ events) same ∙ ap (λ es. also ∷ es) rest

  pub serial-unique : (end other : Past) (events more : List Event) → IsSerial trace events end → IsSerial trace more other → events ≡ more
  serial-unique end other events more one two =
      let first = schedule-course (start sizes) end events one.ran one.next in
      let second = schedule-course (start sizes) other more two.ran two.next in
      course-unique (start sizes) end other events more first.0 second.0 first.1 second.1
