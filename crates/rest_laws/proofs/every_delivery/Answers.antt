-- Each delivery step lowers the weight, so delivery ends.
use Rattle.rest_laws.proofs.Deliver.{step_lighter, delivery_ends, delivery_rests, delivered-run}
use Rattle.rest_laws.proofs.every_delivery.Goals as goal

pub returns-clause-lighter : goal.returns-clause-lighter
returns-clause-lighter c = λ charge trace events past positive runs lane lines links first. step_lighter charge trace events past positive lines links runs lane first

pub returns-clause-ends : goal.returns-clause-ends
returns-clause-ends c = λ charge trace before past positive runs lines links. delivery_ends charge trace before past positive lines links runs

pub returns-clause-rests : goal.returns-clause-rests
returns-clause-rests c = λ charge trace before past positive runs all lines links. delivery_rests charge trace before past positive lines links runs all

pub returns-clause-runs : goal.returns-clause-runs
returns-clause-runs c = delivered-run
