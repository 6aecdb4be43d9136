use Rattle.std.proofs.Common.{append_assoc, arith}
use Rattle.decimal_text.proofs.Hex.{hex_last}
use Rattle.decimal_text.proofs.+put_hexadecimal.Goals as goal

pub returns : goal.returns
returns t c =
    let e = hex_last c.args.n (omega arith) (omega arith) in
    rw (c.in_ok-put_hexadecimal.ensures, c.glyph-2.ensures, append_assoc, ← e) at c.put_bytes-2.ensures.ok
