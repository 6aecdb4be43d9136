-- Each delivery step lowers the weight, so delivery ends.
use Rattle.eager_rest.proofs.Deliver.{delivered-run, delivery_ends, step_lighter}
use Rattle.eager_rest.proofs.every_delivery.Goals as goal

pub returns-clause-lighter : goal.returns-clause-lighter
returns-clause-lighter c = λ trace events past lane runs first. step_lighter trace events past runs lane first

pub returns-clause-ends : goal.returns-clause-ends
returns-clause-ends c = λ trace before past runs. delivery_ends trace before past runs

pub returns-clause-runs : goal.returns-clause-runs
returns-clause-runs c = delivered-run
