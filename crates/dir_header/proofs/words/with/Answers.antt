-- A bit is set, so a number is put in.
use Rattle.std.proofs.Common.{w64}
use Rattle.std.proofs.lemmas.Nat.Bits.{bit_at_set_same, bit_at_set_other}
use Rattle.dir_header.proofs.Bits.{members-put}
use Rattle.dir_header.proofs.words.with.Goals as goal

pub returns : goal.returns
returns c =
    members-put c.args.word _ c.args.i c.requires (bit_at_set_same w64 c.args.word c.args.i c.requires)
    (λ q low other. bit_at_set_other w64 c.args.word c.args.i c.requires q other)
