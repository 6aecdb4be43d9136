-- The factor is a little more than 2^40 divided by the value.
use Rattle.std.proofs.Common.{◌<◌, ◌/◌, ◌*◌, arith, ap, ◌∙◌}
use Rattle.std.proofs.Math.Nat.{mul-le-mul_left}
use Rattle.line_map.proofs.Quotients.{by-factor}
use Rattle.line_map.proofs.divisor.Divisor.quotient.Goals as goal

pub returns : goal.returns
returns c =
    let kept = c.self.invariant in
    let n = c.args.n in
    let value = c.self.inside.value in
    let some : 0 < value = omega (arith, kept.0) in
    let most = mul-le-mul_left n kept.1 in
    let small : n * value < 1099511627776 = omega (arith, most, c.requires) in
    ap (λ k. k * c.self.inside.factor / 1099511627776) c.from.ensures ∙ ap (λ f. n * f / 1099511627776) kept.2 ∙ by-factor n value 1099511627776 some small ∙ ap (λ d. n / d) c.self.view_is
