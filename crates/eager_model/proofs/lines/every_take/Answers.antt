use Rattle.eager_model.proofs.AnyLine.{eager-want}
use Rattle.eager_model.proofs.EachLine.{any-take, any-served, any-aged, any-answered, any-done}
use Rattle.eager_model.proofs.lines.every_take.Goals as goal

pub returns-clause-kept : goal.returns-clause-kept
returns-clause-kept c = λ home line from to class content rest age ages room good front first. any-take home line good from to class content rest front room age ages first

pub returns-clause-served : goal.returns-clause-served
returns-clause-served c = λ home line from to class content rest room good front. any-served home line good from to class content rest front room

pub returns-clause-aged : goal.returns-clause-aged
returns-clause-aged c = λ home line from to class content rest age ages room good front first. any-aged home line good from to class content rest front room age ages first

pub returns-clause-answered : goal.returns-clause-answered
returns-clause-answered c = λ home line from to class words rest good front. any-answered home line good from to class words rest front

pub returns-clause-done : goal.returns-clause-done
returns-clause-done c = λ home line from to class content rest room good front. any-done home line good from to class content rest front room

pub returns-clause-wants : goal.returns-clause-wants
returns-clause-wants c = λ home from to alone room content share. eager-want to home from alone room share content
