-- A message weighs more than all that is sent for it.
use Rattle.rest_laws.proofs.AllTakes.{falling_take}
use Rattle.rest_laws.proofs.Falls.{falling_weight}
use Rattle.rest_laws.proofs.every_take.Goals as goal

pub returns-clause-lighter : goal.returns-clause-lighter
returns-clause-lighter c = λ charge trace events past positive runs src dst class victim done src_in dst_in is. falling_weight charge trace events past src dst class victim done positive runs src_in dst_in is

pub returns-clause-of_machine : goal.returns-clause-of_machine
returns-clause-of_machine c = λ charge trace events past positive runs src dst class victim done all is. falling_take charge trace events past src dst class victim done all positive runs is
