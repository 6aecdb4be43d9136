use Rattle.chart_laws.proofs.Following.{chart-told}
use Rattle.chart_laws.proofs.every_chart.Goals as goal

pub returns : goal.returns
returns c = record { told = chart-told }
