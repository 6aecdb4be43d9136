-- The bit that the shift brings to the front is that of the number.
use Rattle.std.proofs.Common.{◌≡◌, true, ◌&&◌, ◌==◌, sym, ap, ◌∙◌, arith}
use Rattle.std.specs.Prelude.{nat_lt}
use Rattle.std.proofs.lemmas.Bool.Decides.{nat_tests}
use Rattle.std.proofs.lemmas.Nat.Bits.{shr_and_one}
use Rattle.dir_header.specs.WordSets.{has_bit}
use Rattle.dir_header.proofs.Bits.{listed-members}
use Rattle.dir_header.proofs.words.has.Goals as goal

pub returns : goal.returns
returns c =
    let i = c.args.i in
    let within = c.requires in
    let low : nat_lt i 64 ≡ true = grind (arith, nat_tests) in
    ap (λ n. n == 1) (shr_and_one c.args.word i) ∙ sym (listed-members c.args.word i ∙ ap (λ b. b && has_bit c.args.word i) low)
