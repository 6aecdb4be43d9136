-- What is told of too many nodes or steps has their number.
use Rattle.chart_top.proofs.tell.tell_chart.Goals as goal

pub returns-in-Usage-clause-part : goal.returns-in-Usage-clause-part
returns-in-Usage-clause-part g c = rw c.in-Usage.is c.write_all.ensures.part

pub returns-in-TooManyNodes-clause-whole : goal.returns-in-TooManyNodes-clause-whole
returns-in-TooManyNodes-clause-whole g c = rw (c.in-TooManyNodes.is, ← c.from.ensures) c.tell_count.ensures.whole

pub returns-in-TooManyNodes-clause-part : goal.returns-in-TooManyNodes-clause-part
returns-in-TooManyNodes-clause-part g c = rw (c.in-TooManyNodes.is, ← c.from.ensures) c.tell_count.ensures.part

pub returns-in-TooManyShown-clause-whole : goal.returns-in-TooManyShown-clause-whole
returns-in-TooManyShown-clause-whole g c = rw c.in-TooManyShown.is c.tell_count-in-TooManyShown.ensures.whole

pub returns-in-TooManyShown-clause-part : goal.returns-in-TooManyShown-clause-part
returns-in-TooManyShown-clause-part g c = rw c.in-TooManyShown.is c.tell_count-in-TooManyShown.ensures.part
