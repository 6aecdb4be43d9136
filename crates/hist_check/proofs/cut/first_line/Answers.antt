use Rattle.std.proofs.Common.{◌≡◌, ◌+◌, ◌-◌, length, take, drop, get_or, rules, arith, add-one}
use Rattle.std.proofs.lemmas.List.{take_rest}
use Rattle.text_lines.proofs.Public.{unmatched}
use Rattle.hist_check.proofs.Cuts.{line_found, line_last}
use Rattle.hist_check.proofs.cut.first_line.Goals as goal

pub returns-in-Some : goal.returns-in-Some
returns-in-Some c =
    let bytes = c.args.bytes.now in
    let i = c.in-Some.end in
    let none = c.in-Some.ensures.0.before in
    let is : take (length bytes - (i + 1)) (drop (i + 1) bytes) ≡ drop (i + 1) bytes = search (rules, take_rest) in
    rw (is, add-one) (line_found bytes i c.in-Some.ensures.0.high (λ k lt. unmatched (get_or bytes k 0) 10 (none k (omega arith) lt)) c.in-Some.ensures.1)

pub returns-in-None : goal.returns-in-None
returns-in-None c =
    let bytes = c.args.bytes.now in
    line_last bytes c.requires (λ k lt. unmatched (get_or bytes k 0) 10 (c.in-None.ensures k (omega arith) lt))
