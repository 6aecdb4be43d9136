-- Where nothing is under way of a line, nothing is begun on it and it isn't pending.
use Rattle.rest_laws.proofs.AtRest.{resting, resting_clear}
use Rattle.rest_laws.proofs.every_rest.Goals as goal

pub returns-clause-rests : goal.returns-clause-rests
returns-clause-rests c = resting

pub returns-clause-empty : goal.returns-clause-empty
returns-clause-empty c = λ state rest. rest.lanes

pub returns-clause-clear : goal.returns-clause-clear
returns-clause-clear c = λ charge trace events past positive runs all clear. resting_clear charge trace events past all positive runs clear
