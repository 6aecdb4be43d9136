use Rattle.line_invariant.proofs.Takes.{good-take}
use Rattle.line_invariant.proofs.Served.{served-take, put-answered, take-done}
use Rattle.line_invariant.proofs.Wants.{keeps-want}
use Rattle.line_invariant.proofs.every_take.Goals as goal

pub returns-clause-kept : goal.returns-clause-kept
returns-clause-kept c = λ home line from to class content rest room good front. good-take home line good from rest room to class content front

pub returns-clause-served : goal.returns-clause-served
returns-clause-served c = λ home line from to class content rest room good front. served-take home line good from rest room to class content front

pub returns-clause-answered : goal.returns-clause-answered
returns-clause-answered c = λ home line from to class words rest good front. put-answered home line good from rest to class words front

pub returns-clause-done : goal.returns-clause-done
returns-clause-done c = λ home line from to class content rest room good front. take-done home line good from rest room to class content front

pub returns-clause-wants : goal.returns-clause-wants
returns-clause-wants c = λ home from to alone room content share. keeps-want to home from alone room share content
