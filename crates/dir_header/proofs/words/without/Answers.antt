-- A bit is cleared, so a number is taken out.
use Rattle.std.proofs.Common.{w64}
use Rattle.std.proofs.lemmas.Nat.Bits.{bit_at_clear_same, bit_at_clear_other}
use Rattle.dir_header.proofs.Bits.{members-taken}
use Rattle.dir_header.proofs.words.without.Goals as goal

pub returns : goal.returns
returns c =
    members-taken c.args.word _ c.args.i c.requires (bit_at_clear_same w64 c.args.word c.args.i c.requires)
    (λ q low other. bit_at_clear_other w64 c.args.word c.args.i c.requires q low other)
