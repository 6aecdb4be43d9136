-- Each bit that is set is a member.
use Rattle.dir_header.proofs.Bits.{ones-count}
use Rattle.dir_header.proofs.words.count.Goals as goal

pub returns : goal.returns
returns c = ones-count c.args.word c.ranges.word.fits
