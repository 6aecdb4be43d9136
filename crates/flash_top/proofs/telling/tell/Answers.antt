-- What is told of a line, a step or an entry has the name of its cause, and what is told of too few steps their number.
use Rattle.flash_top.proofs.telling.tell.Goals as goal

pub returns-in-BadTrace-clause-whole : goal.returns-in-BadTrace-clause-whole
returns-in-BadTrace-clause-whole g c = rw (c.in-BadTrace.is, ← c.name.ensures) c.tell_numbered.ensures.whole

pub returns-in-BadTrace-clause-part : goal.returns-in-BadTrace-clause-part
returns-in-BadTrace-clause-part g c = rw (c.in-BadTrace.is, ← c.name.ensures) c.tell_numbered.ensures.part

pub returns-in-NotEnabled-clause-whole : goal.returns-in-NotEnabled-clause-whole
returns-in-NotEnabled-clause-whole g c = rw (c.in-NotEnabled.is, ← c.name-in-NotEnabled.ensures) c.tell_numbered-in-NotEnabled.ensures.whole

pub returns-in-NotEnabled-clause-part : goal.returns-in-NotEnabled-clause-part
returns-in-NotEnabled-clause-part g c = rw (c.in-NotEnabled.is, ← c.name-in-NotEnabled.ensures) c.tell_numbered-in-NotEnabled.ensures.part

pub returns-in-IllegalHistory-clause-whole : goal.returns-in-IllegalHistory-clause-whole
returns-in-IllegalHistory-clause-whole g c = rw (c.in-IllegalHistory.is, ← c.name-in-IllegalHistory.ensures) c.tell_numbered-in-IllegalHistory.ensures.whole

pub returns-in-IllegalHistory-clause-part : goal.returns-in-IllegalHistory-clause-part
returns-in-IllegalHistory-clause-part g c = rw (c.in-IllegalHistory.is, ← c.name-in-IllegalHistory.ensures) c.tell_numbered-in-IllegalHistory.ensures.part

pub returns-in-TooFar-clause-part : goal.returns-in-TooFar-clause-part
returns-in-TooFar-clause-part g c = rw c.in-TooFar.is c.tell_number.ensures.part
