-- The random part and the finishing schedule behind it are the seeded schedule; so much of them as was made is its beginning; and what it is for a trace.
use Rattle.std.proofs.Common.{◌≡◌, ◌⊎◌, ℕ, suc, ◌+◌, ◌-◌, ◌*◌, ◌≤◌, List, [], ◌∷◌, ◌++◌, length, append_assoc, slice_get, arith, ap, sym, ◌∙◌, subst, Some}
use Rattle.std.proofs.Math.Nat.{mod-lt}
use Rattle.line_map.specs.Sizes.{AreSizes, Sizes}
use Rattle.op_model.specs.declared.events.Event.{Event}
use Rattle.op_model.specs.Events.Step.{Programs}
use Rattle.op_model.specs.Run.Machines.{MachineRun, IsRunning}
use Rattle.op_model.specs.Run.Runs.{Past, past_after, run, start}
use Rattle.op_model.specs.Run.Schedules.{IsFinishing}
use Rattle.op_model.specs.Run.Seeded.{IsRandomNext, IsSeeded, most_drawn}
use Rattle.op_model.specs.Shares.{Charge, Trace, program}
use Rattle.node_range.specs.Range.{IsOfMachine}
use Rattle.node_range.specs.Traces.{IsTraceOf}
use Rattle.node_range.proofs.Public.{trace-programs, turn-in, turn-programs}
use Rattle.rest_laws.proofs.Public.{run-on}
use Rattle.seeded_laws.specs.Answers.{chosen_by}
use Rattle.seeded_laws.specs.Command.{IsSeededRun, modulo, word_of}
use Rattle.seeded_laws.specs.Drawing.{AreDrawn}
use Rattle.seeded_laws.proofs.Public.{AlwaysAnswers, Drawn, always-chosen, drawn-chosen, drawn-run, draws}
use Rattle.seeded_laws.proofs.Public.{finish-ends, made-seeded}
use Rattle.schedule.specs.Candidates.{candidates_on}
use Rattle.schedule.specs.Draws.{HasBegunSeeded, HasDrawn, HasDrawnAll, IsSeededTo}
use Rattle.schedule.specs.Made.{HasBegun, HasFinished, gone_on}
use Rattle.schedule.specs.Runs.{HasBegunSeededRun}
use Rattle.schedule.proofs.Finishes.{turn, turn-ran}
use Rattle.schedule.proofs.UnderWay.{at-start}

-- what is drawn by a choice is drawn by each relation that holds of its answers
module _ (answers other : ℕ → ℕ → ℕ → Type 0) (words : ℕ → ℕ) (into : (word n place : ℕ) → answers word n place → other word n place) where
  drawn-into : (charge : Charge) (sizes : Sizes) (programs : Programs) (k : ℕ) (past end : Past) (made : List Event) → AreDrawn answers words charge sizes programs k past made end → AreDrawn other words charge sizes programs k past made end
  drawn-into charge sizes programs k past end [] are = are
  drawn-into charge sizes programs k past end (event ∷ made) are = (
    record { place = are.0.place; answered = into (words k) _ are.0.place are.0.answered; is = are.0.is },
    are.1,
    are.2,
    drawn-into charge sizes programs (suc k) (past_after sizes past are.1) end made are.3,
  )

  pub has-drawn-into : (most : ℕ) (old new : MachineRun) → HasDrawn answers words most old new → HasDrawn other words most old new
  has-drawn-into most old new has =
      record { made = has.made; went = has.went; drawn = drawn-into old.charge old.sizes old.programs 0 old.past new.past has.made has.drawn; few = has.few }

  pub has-drawn-all-into : (most : ℕ) (old new : MachineRun) → HasDrawnAll answers words most old new → HasDrawnAll other words most old new
  has-drawn-all-into most old new has =
      record { made = has.made; went = has.went; drawn = drawn-into old.charge old.sizes old.programs 0 old.past new.past has.made has.drawn; few = has.few; ends = has.ends }

module _ (answers : ℕ → ℕ → ℕ → Type 0) (words : ℕ → ℕ) (most : ℕ) where
  -- both parts, one behind the other
  both : (old middle new : MachineRun) → (has : HasDrawnAll answers words most old middle) → (finishing : List Event) (end : Past) → IsFinishing middle.charge middle.sizes middle.programs middle.past finishing end →
      IsSeeded answers words most old.charge old.sizes old.programs old.past (has.made ++ finishing) end
  both old middle new has finishing end is =
      made-seeded answers words most old.charge old.sizes old.programs old.past has.made middle.past finishing end has.drawn has.few
      (subst (λ (m : MachineRun). (length has.made ≡ most) ⊎ (candidates_on m ≡ [])) has.went has.ends)
      (subst (λ (m : MachineRun). IsFinishing m.charge m.sizes m.programs middle.past finishing end) has.went is)

  went-both : (old middle new : MachineRun) (first second : List Event) → middle ≡ gone_on old first middle.past → new ≡ gone_on middle second new.past → new ≡ gone_on old (first ++ second) new.past
  went-both old middle new first second one two =
      two
      ∙ (ap (λ (m : MachineRun). record m { events = m.events ++ second; past = new.past }) one
      ∙ ap (λ es. record old { events = es; past = new.past }) (append_assoc old.events first second))

  pub seeded-to : (old middle new : MachineRun) → HasDrawnAll answers words most old middle → HasFinished middle new → IsSeededTo answers words most old new
  seeded-to old middle new has finished = record {
    made = has.made ++ finished.made;
    went = went-both old middle new has.made finished.made has.went finished.went;
    seeded = both old middle new has finished.made new.past finished.finishing;
  }

  pub begun-finishing : (old middle new : MachineRun) → HasDrawnAll answers words most old middle → HasBegun middle new → HasBegunSeeded answers words most old new
  begun-finishing old middle new has begun = record {
    made = has.made ++ begun.made;
    left = begun.left;
    end = begun.end;
    went = went-both old middle new has.made begun.made has.went begun.went;
    seeded = subst (λ es. IsSeeded answers words most old.charge old.sizes old.programs old.past es begun.end) (sym (append_assoc has.made begun.made begun.left))
        (both old middle new has (begun.made ++ begun.left) begun.end begun.finishing);
  }

  -- a random part that is begun can be drawn to its end
  module _ (charge : Charge) (sizes : Sizes) (programs : Programs) where
    drawn-on : (k : ℕ) (past mid end : Past) (made more : List Event) → AreDrawn answers words charge sizes programs k past made mid → k + length made ≤ most → Drawn answers words most charge sizes programs (k + length made) mid more end →
        Drawn answers words most charge sizes programs k past (made ++ more) end
    drawn-on k past mid end [] more are few rest =
        subst (λ p. Drawn answers words most charge sizes programs k p more end) (sym are) (subst (λ n. Drawn answers words most charge sizes programs n mid more end) (let here : k + 0 ≡ k = omega arith in here) rest)
    drawn-on k past mid end (event ∷ made) more are few rest =
        let here : k + suc (length made) ≡ suc k + length made = omega arith in (
          (omega arith, are.0),
          are.1,
          are.2,
          drawn-on (suc k) (past_after sizes past are.1) mid end made more are.3 (omega arith) (subst (λ n. Drawn answers words most charge sizes programs n mid more end) here rest),
        )

  abbrev CanEnd : Charge → Sizes → Programs → Past → List Event → Type 0
  CanEnd charge sizes programs from made = (left : List Event) × (end : Past) × IsSeeded answers words most charge sizes programs from (made ++ left) end

  ends : AlwaysAnswers answers → (charge : Charge) (trace : Trace) (before : List Event) (from mid : Past) (made : List Event) → AreSizes trace.sizes → IsOfMachine trace → run charge trace before ≡ Some from →
      AreDrawn answers words charge trace.sizes (program trace) 0 from made mid → length made ≤ most → CanEnd charge trace.sizes (program trace) from made
  ends always charge trace before from mid made are all ran drawn few =
      let rest = draws answers words most charge trace.sizes (program trace) always (most - length made) (length made) mid (omega arith) in
      let part = drawn-on charge trace.sizes (program trace) 0 from mid rest.1 made rest.0 drawn (omega arith) (subst (λ n. Drawn answers words most charge trace.sizes (program trace) n mid rest.0 rest.1) (sym (zero-add (length made))) rest.2) in
      let went = drawn-run answers words most charge trace.sizes (program trace) 0 from rest.1 (made ++ rest.0) part in
      let goes = run-on charge trace (start trace.sizes) from rest.1 before (made ++ rest.0) ran went in
      let last = finish-ends charge trace (before ++ (made ++ rest.0)) rest.1 are all goes in (
        rest.0 ++ last.events,
        last.end,
        record {
          random = made ++ rest.0;
          finishing = last.events;
          split = sym (append_assoc made rest.0 last.events);
          middle = rest.1;
          ran = went;
          chosen = λ k moment goes. subst (λ n. IsRandomNext answers words most charge trace.sizes (program trace) n moment.state (slice_get (made ++ rest.0) k)) (zero-add k)
              (drawn-chosen answers words most charge trace.sizes (program trace) 0 from rest.1 (made ++ rest.0) part k moment goes);
          finishes = last.finishing;
        },
      )
    where
      zero-add : (k : ℕ) → 0 + k ≡ k
      zero-add k = omega arith

  pub begun-drawing : AlwaysAnswers answers → (old new : MachineRun) → IsRunning old → HasDrawn answers words most old new → HasBegunSeeded answers words most old new
  begun-drawing always old new running has =
      let same = turn-programs old.sizes old.programs running.programs in
      let drawn = subst (λ ps. AreDrawn answers words old.charge old.sizes ps 0 old.past has.made new.past) (sym same) has.drawn in
      let whole = ends always old.charge (turn old) old.events old.past new.past has.made running.sizes (turn-in old.sizes old.programs running.programs) (turn-ran old running) drawn has.few in
      record {
        made = has.made;
        left = whole.0;
        end = whole.1;
        went = has.went;
        seeded = subst (λ ps. IsSeeded answers words most old.charge old.sizes ps old.past (has.made ++ whole.0) whole.1) same whole.2;
      }

-- a word modulo a number above 0 is always one place below it
pub always-modulo : AlwaysAnswers (chosen_by modulo)
always-modulo = always-chosen modulo (λ word n some. mod-lt word some)

-- from the start on, and for a trace of these programs
module _ (m : MachineRun) (running : IsRunning m) (unused : m.events ≡ []) where
  made-events : (now : MachineRun) (made : List Event) → now ≡ gone_on m made now.past → made ≡ now.events
  made-events now made went = ap (λ es. es ++ made) (sym unused) ∙ sym (ap (λ (n : MachineRun). n.events) went)

  abbrev For : Sizes → Programs → Past → (seed most : ℕ) → List Event → Past → Type 0
  For sizes programs from seed most events end = IsSeeded (chosen_by modulo) (word_of seed) most m.charge sizes programs from events end

  of-trace : (trace : Trace) → IsTraceOf m.sizes m.programs trace → (seed most : ℕ) → 8 * length trace.ops ≡ most → (events : List Event) (end : Past) → For m.sizes m.programs m.past seed most events end → IsSeededRun m.charge trace seed events end
  of-trace trace is seed most count events end seeded =
      let one : For m.sizes m.programs m.past seed (most_drawn trace) events end = subst (λ n. For m.sizes m.programs m.past seed n events end) (sym count) seeded in
      let two : For m.sizes m.programs (start m.sizes) seed (most_drawn trace) events end = subst (λ p. For m.sizes m.programs p seed (most_drawn trace) events end) (sym (at-start m running unused)) one in
      let three : For m.sizes (program trace) (start m.sizes) seed (most_drawn trace) events end =
      subst (λ ps. For m.sizes ps (start m.sizes) seed (most_drawn trace) events end) (sym (trace-programs m.sizes m.programs trace is)) two in
      subst (λ s. For s (program trace) (start s) seed (most_drawn trace) events end) (sym is.sized) three

  module _ (now : MachineRun) (seed most : ℕ) where
    module _ (trace : Trace) (is : IsTraceOf m.sizes m.programs trace) (count : 8 * length trace.ops ≡ most) where
      pub seeded-trace : IsSeededTo (chosen_by modulo) (word_of seed) most m now → IsSeededRun m.charge trace seed now.events now.past
      seeded-trace to = subst (λ es. IsSeededRun m.charge trace seed es now.past) (made-events now to.made to.went) (of-trace trace is seed most count to.made now.past to.seeded)

      pub begun-trace : HasBegunSeeded (chosen_by modulo) (word_of seed) most m now → HasBegunSeededRun m.charge trace seed now.events
      begun-trace to = record {
        left = to.left;
        end = to.end;
        seeded = subst (λ es. IsSeededRun m.charge trace seed (es ++ to.left) to.end) (made-events now to.made to.went) (of-trace trace is seed most count (to.made ++ to.left) to.end to.seeded);
      }
