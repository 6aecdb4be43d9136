-- The place of the lowest bit is the least number.
use Rattle.dir_header.proofs.Bits.{least-listed, least-least}
use Rattle.dir_header.proofs.words.least.Goals as goal

pub returns-clause-in_set : goal.returns-clause-in_set
returns-clause-in_set c = least-listed c.args.word c.requires c.ranges.word.fits

pub returns-clause-least : goal.returns-clause-least
returns-clause-least c = λ q there. least-least c.args.word q c.requires c.ranges.word.fits there
