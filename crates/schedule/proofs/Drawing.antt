-- Events that are drawn one after another: one more, and the random part under way.
use Rattle.std.proofs.Common.{◌≡◌, ℕ, suc, ◌+◌, ◌≤◌, true, false, List, [], ◌∷◌, ◌++◌, length, length-append, append_assoc, refl, arith, ap, sym, ◌∙◌, subst, ◌⊎◌, inl, inr, Result, Ok, Err}
use Rattle.std.specs.Prelude.{is_ok, slice_get}
use Rattle.std.proofs.lemmas.List.{append-nil}
use Rattle.op_model.specs.declared.events.Cause.{Cause}
use Rattle.op_model.specs.declared.events.Event.{Event}
use Rattle.op_model.specs.Events.Step.{Done, effect}
use Rattle.op_model.specs.Run.Runs.{Past, past_after}
use Rattle.op_model.specs.Run.Seeded.{IsDrawn, candidates, is_enabled}
use Rattle.op_model.specs.Run.Machines.{MachineRun, IsRunning, effect_on, with_event, IsApplied, IsEnabled, IsEventOf}
use Rattle.op_model.proofs.Public.{filter-passes}
use Rattle.rand_pcg.specs.Lcg.{Lcg}
use Rattle.rand_pcg.specs.Pcg.{pcg32}
use Rattle.schedule.specs.Candidates.{candidates_on}
use Rattle.seeded_laws.specs.Command.{generator_of, word_of}
use Rattle.seeded_laws.specs.Drawing.{AreDrawn}
use Rattle.schedule.specs.Draws.{AreDrawnOn, HasDrawn, HasDrawnAll}
use Rattle.schedule.specs.Made.{gone_on}
use Rattle.schedule.proofs.InRange.{candidates-in, in-at}

module _ (answers : ℕ → ℕ → ℕ → Type 0) (words : ℕ → ℕ) (m : MachineRun) where
  abbrev Draws : ℕ → Past → List Event → Past → Type 0
  Draws k past made end = AreDrawn answers words m.charge m.sizes m.programs k past made end

  abbrev among : Past → List Event
  among past = candidates m.charge m.sizes m.programs past.state

  -- one event more
  drawn-push : (k at : ℕ) (past mid : Past) (made : List Event) (event : Event) (done : Done) → Draws k past made mid → at ≡ k + length made → IsDrawn answers (words at) (among mid) event →
      effect m.charge m.sizes m.programs mid.state event ≡ Ok done → Draws k past (made ++ event ∷ []) (past_after m.sizes mid done)
  drawn-push k at past mid [] event done draws place draw does =
      let here : at ≡ k = omega arith in
      subst (λ p. Draws k p (event ∷ []) (past_after m.sizes mid done)) (sym draws) (subst (λ n. IsDrawn answers (words n) (among mid) event) here draw, done, does, refl)
  drawn-push k at past mid (first ∷ made) event done draws place draw does =
      (draws.0, draws.1, draws.2, drawn-push (suc k) at (past_after m.sizes past draws.1) mid made event done draws.3 (omega arith) draw does)

-- with each event one more is stored
pub made-more : (now later : MachineRun) (event : Event) → IsApplied now event later → length later.events ≡ length now.events + 1
made-more now later event applied = ap (λ (r : MachineRun). length r.events) applied.2 ∙ length-append now.events (event ∷ [])

-- The random part under way: so many events are drawn, and the generator stands behind as many words
pub record IsDrawing (answers : ℕ → ℕ → ℕ → Type 0) (seed : ℕ) (first now : MachineRun) (k : ℕ) (generator : Lcg) : Type 0 where
  pub made : List Event
  pub past : Past
  pub is : now ≡ gone_on first made past
  pub draws : AreDrawnOn answers (word_of seed) first made past
  pub count : length made ≡ k
  pub next : generator ≡ generator_of seed k
  pub running : IsRunning now

module _ (answers : ℕ → ℕ → ℕ → Type 0) (seed : ℕ) (first : MachineRun) where
  abbrev Drawing : MachineRun → ℕ → Lcg → Type 0
  Drawing now k generator = IsDrawing answers seed first now k generator

  pub drawing-first : (generator : Lcg) → IsRunning first → generator ≡ generator_of seed 0 → Drawing first 0 generator
  drawing-first generator running is = record {
    made = [];
    past = first.past;
    is = ap (λ es. record first { events = es }) (sym (append-nil first.events));
    draws = refl;
    count = refl;
    next = is;
    running = running;
  }

  -- what is drawn is enabled, and of the machine
  done-of : (now : MachineRun) (event : Event) (r : Result Done Cause) → effect_on now event ≡ r → is_ok r ≡ true → IsEnabled now event
  done-of now event (Ok done) is ok = (done, is)
  done-of now event (Err cause) is ok = absurd (let d : false ≡ true = ok in cc)

  pub drawn-enabled : (now : MachineRun) (word : ℕ) (list : List Event) (event : Event) → list ≡ candidates_on now → IsDrawn answers word list event → IsEnabled now event
  drawn-enabled now word list event is draw =
      done-of now event (effect_on now event) refl (filter-passes (is_enabled now.charge now.sizes now.programs now.past.state) _ draw.place event (ap (λ es. slice_get es draw.place) (sym is) ∙ draw.is))

  pub drawn-in : (now : MachineRun) → IsRunning now → (word : ℕ) (list : List Event) (event : Event) → list ≡ candidates_on now → IsDrawn answers word list event → IsEventOf now.sizes event
  drawn-in now running word list event is draw = in-at now.sizes (candidates_on now) draw.place event (candidates-in now running) (ap (λ es. slice_get es draw.place) (sym is) ∙ draw.is)

  -- one event more
  drew-on : (now : MachineRun) (k : ℕ) (generator later : Lcg) (drawing : Drawing now k generator) (list : List Event) (event : Event) → list ≡ candidates_on now → IsDrawn answers (pcg32 generator).0 list event → later ≡ (pcg32 generator).1 →
      (done : Done) → effect_on now event ≡ Ok done → IsRunning (with_event now event done) → Drawing (with_event now event done) (k + 1) later
  drew-on now k generator later drawing list event is draw next done does running =
      let among : list ≡ candidates first.charge first.sizes first.programs drawing.past.state = is ∙ ap candidates_on drawing.is in
      let word : (pcg32 generator).0 ≡ word_of seed k = ap (λ (s : Lcg). (pcg32 s).0) drawing.next in
      let here : IsDrawn answers (word_of seed k) (candidates first.charge first.sizes first.programs drawing.past.state) event = subst (λ es. IsDrawn answers (word_of seed k) es event) among (subst (λ w. IsDrawn answers w list event) word draw) in
      let more : k + 1 ≡ suc k = omega arith in
      record {
        made = drawing.made ++ event ∷ [];
        past = past_after first.sizes drawing.past done;
        is = ap (λ r. with_event r event done) drawing.is ∙ ap (λ es. record first { events = es; past = past_after first.sizes drawing.past done }) (append_assoc first.events drawing.made (event ∷ []));
        draws = drawn-push answers (word_of seed) first 0 k first.past drawing.past drawing.made event done drawing.draws (omega (arith, drawing.count)) here (sym (ap (λ r. effect_on r event) drawing.is) ∙ does);
        count = length-append drawing.made (event ∷ []) ∙ omega (arith, drawing.count);
        next = next ∙ (ap (λ (s : Lcg). (pcg32 s).1) drawing.next ∙ ap (generator_of seed) (sym more));
        running = running;
      }

  pub drawing-on : (now : MachineRun) (k : ℕ) (generator later : Lcg) → Drawing now k generator → (list : List Event) (event : Event) → list ≡ candidates_on now → IsDrawn answers (pcg32 generator).0 list event → later ≡ (pcg32 generator).1 →
      (after : MachineRun) → IsApplied now event after → IsRunning after → Drawing after (k + 1) later
  drawing-on now k generator later drawing list event is draw next after applied running =
      subst (λ r. Drawing r (k + 1) later) (sym applied.2) (drew-on now k generator later drawing list event is draw next applied.0 applied.1 (subst IsRunning applied.2 running))

  at-now : (now : MachineRun) (k : ℕ) (generator : Lcg) (drawing : Drawing now k generator) → now ≡ gone_on first drawing.made now.past
  at-now now k generator drawing = drawing.is ∙ ap (λ p. gone_on first drawing.made p) (sym (ap (λ (r : MachineRun). r.past) drawing.is))

  draws-now : (now : MachineRun) (k : ℕ) (generator : Lcg) (drawing : Drawing now k generator) → AreDrawnOn answers (word_of seed) first drawing.made now.past
  draws-now now k generator drawing = subst (AreDrawnOn answers (word_of seed) first drawing.made) (sym (ap (λ (r : MachineRun). r.past) drawing.is)) drawing.draws

  pub has-drawn : (now : MachineRun) (k : ℕ) (generator : Lcg) (most : ℕ) → Drawing now k generator → k ≤ most → HasDrawn answers (word_of seed) most first now
  has-drawn now k generator most drawing within =
      record { made = drawing.made; went = at-now now k generator drawing; drawn = draws-now now k generator drawing; few = omega (arith, drawing.count, within) }

  pub has-drawn-all : (now : MachineRun) (k : ℕ) (generator : Lcg) (most : ℕ) → Drawing now k generator → k ≤ most → (k ≡ most) ⊎ (candidates_on now ≡ []) → HasDrawnAll answers (word_of seed) most first now
  has-drawn-all now k generator most drawing within ends =
      record { made = drawing.made; went = at-now now k generator drawing; drawn = draws-now now k generator drawing; few = omega (arith, drawing.count, within); ends = go ends }
    where
      go : (k ≡ most) ⊎ (candidates_on now ≡ []) → (length drawing.made ≡ most) ⊎ (candidates_on now ≡ [])
      go (inl all) = inl (drawing.count ∙ all)
      go (inr none) = inr none

  pub same-drawing : (now later : MachineRun) (k : ℕ) (generator : Lcg) → later ≡ now → Drawing now k generator → Drawing later k generator
  same-drawing now later k generator same drawing = subst (λ r. Drawing r k generator) (sym same) drawing
