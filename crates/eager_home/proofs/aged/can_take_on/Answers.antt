-- A victim is never asked for.
use Rattle.std.proofs.Common.{sym, ◌∙◌}
use Rattle.eager_home.proofs.Takes.{none-asked, unasked}
use Rattle.eager_home.proofs.aged.can_take_on.Goals as goal

pub returns-then-is_some : goal.returns-then-is_some
returns-then-is_some c = λ sizes number program share src m. unasked sizes number program share src m c.args.victim (sym c.is_some.ensures ∙ c.if-is_some.true)

pub returns : goal.returns
returns c = λ sizes number program share src m. none-asked sizes number program share src m c.args.victim (sym c.is_some.ensures ∙ c.if-is_some.false)
