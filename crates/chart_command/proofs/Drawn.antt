-- What is drawn of a machine that was at a trace's start and has made steps of the trace.
use Rattle.std.proofs.Common.{◌≡◌, ℕ, ◌<◌, List, ◌++◌, length, take, get_or, sym, ap, subst, ◌∙◌, Option, Some}
use Rattle.std.proofs.lemmas.Option.{slice_get-get_or}
use Rattle.line_map.specs.Sizes.{Sizes}
use Rattle.op_model.specs.declared.events.Event.{Event}
use Rattle.op_model.specs.Run.Machines.{MachineRun, IsApplied, IsEventOf, IsRunning}
use Rattle.op_model.specs.Run.Runs.{run, run_by}
use Rattle.op_model.specs.Shares.{Trace, Linked}
use Rattle.chart_strokes.specs.Strokes.{strokes_of}
use Rattle.chart_svg.specs.Pictures.{picture_text}
use Rattle.chart_laws.proofs.Public.{chart-told}
use Rattle.commands.specs.Runs.{machine_after, machine_at_start}
use Rattle.commands.specs.Steps.{AreStepsOf, HasMade}
use Rattle.run_chart.specs.Charts.{ChartView, IsBefore, IsChartOf}
use Rattle.run_chart.specs.declared.before.Before.{Before}
use Rattle.chart_command.specs.Charted.{IsDrawable, IsChart}

pub drawn-by : (chosen : Option ℕ) (trace : Trace) (old new : MachineRun) (text : List ℕ) → IsDrawable chosen trace → old ≡ machine_at_start Linked trace → HasMade old trace.steps new → text ≡ picture_text trace.sizes.nodes chosen (strokes_of new) → IsChart chosen trace text
drawn-by chosen trace old new text fits fresh made is =
    let runs : run Linked trace trace.steps ≡ Some new.past = sym (ap (λ (m : MachineRun). run_by m.charge m.sizes m.programs m.past trace.steps) fresh) ∙ made.ran in
    record {
      fits = fits;
      past = new.past;
      ran = runs;
      told = chart-told (machine_after Linked trace trace.steps new.past) runs;
      drawn = is ∙ ap (λ (m : MachineRun). picture_text trace.sizes.nodes chosen (strokes_of m)) (made.went ∙ ap (λ (m : MachineRun). record m { events = m.events ++ trace.steps; past = new.past }) fresh);
    }

-- ---- one step

-- the machine that has made steps has the sizes that it had
pub sizes-made : (old now : MachineRun) (steps : List Event) → HasMade old steps now → old.sizes ≡ now.sizes
sizes-made old now steps made = sym (ap (λ (m : MachineRun). m.sizes) made.went)

-- each step is of the machine as it stands
pub step-of : (old now seen : MachineRun) (steps : List Event) (i : ℕ) (other : Event) → i < length steps → AreStepsOf old steps → HasMade old (take i steps) now → seen ≡ now → IsEventOf seen.sizes (get_or steps i other)
step-of old now seen steps i other below within made same =
    subst (λ (s : Sizes). IsEventOf s (get_or steps i other)) (sizes-made old now (take i steps) made ∙ sym (ap (λ (m : MachineRun). m.sizes) same))
    (within i (get_or steps i other) (slice_get-get_or steps i other below))

-- a machine makes one event more; what reads it sees that run
module _ (before after seen seen' : MachineRun) (event : Event) (same : seen ≡ before) (same' : seen' ≡ after) (applied : IsApplied before event after) where
  sizes : seen.sizes ≡ seen'.sizes
  sizes = ap (λ (m : MachineRun). m.sizes) same ∙ sym (ap (λ (m : MachineRun). m.sizes) (same' ∙ applied.2))

  pub still-of : IsEventOf seen.sizes event → IsEventOf seen'.sizes event
  still-of of = subst (λ (s : Sizes). IsEventOf s event) sizes of

  pub still-below : (node : ℕ) → node < seen.sizes.nodes → node < seen'.sizes.nodes
  still-below node below = subst (λ (s : Sizes). node < s.nodes) sizes below

  seen-applied : IsApplied before event seen'
  seen-applied = (applied.0, applied.1, same' ∙ applied.2)

  -- the chart of the run before it is noted, and is that of the longer run
  pub noted-on : (known : Before) (chart chart' : ChartView) → IsRunning before → IsBefore seen event known → IsChartOf before chart → ((was : MachineRun) → IsRunning was → IsApplied was event seen' → IsBefore was event known → IsChartOf was chart → IsChartOf seen' chart') → IsChartOf after chart'
  noted-on known chart chart' running is told noted =
      subst (λ (m : MachineRun). IsChartOf m chart') same' (noted before running seen-applied (subst (λ (m : MachineRun). IsBefore m event known) same is) told)
