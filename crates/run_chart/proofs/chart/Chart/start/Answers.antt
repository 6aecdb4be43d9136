use Rattle.std.proofs.Common.{List, [], sym, subst}
use Rattle.chart_strokes.specs.declared.strokes.Letter.{Letter}
use Rattle.chart_strokes.specs.declared.strokes.Stroke.{Stroke}
use Rattle.run_chart.specs.Charts.{IsChartOf}
use Rattle.run_chart.proofs.Charting.{first-told}
use Rattle.run_chart.proofs.chart.Chart.start.Goals as goal

pub returns-clause-told : goal.returns-clause-told
returns-clause-told c m none_yet =
    subst (λ (ls : List Letter). IsChartOf m (record { letters = ls; strokes = c.new-2.result.items })) (sym c.new.ensures.items)
    (subst (λ (ss : List Stroke). IsChartOf m (record { letters = []; strokes = ss })) (sym c.new-2.ensures.items) (first-told m none_yet))
