use Rattle.std.proofs.Common.{rules, ◌≡◌, ◌<◌, arith}
use Rattle.std.proofs.lemmas.Fn.{always_returns_same}
use Rattle.eager_report.proofs.Orders.{line_and_age, ordered}
use Rattle.eager_report.proofs.order.order.Goals as goal

pub returns-in-Ok : goal.returns-in-Ok
returns-in-Ok c =
    let cfg = c.args.cfg.now in
    let some : 0 < cfg.words = omega (arith, c.words-words.ensures.value, c.words-words.ensures.small.0) in
    ordered cfg c.args.entries.now.items c.sort_by_key.new.self.items some c.requires
    (c.in-Ok.ensures.sorted (line_and_age cfg) (always_returns_same _ (λ a r. r ≡ line_and_age cfg a.0.now) _ (λ a r g h. search rules)))
    (c.sort_by_key.ensures.stable (line_and_age cfg) (always_returns_same _ (λ a r. r ≡ line_and_age cfg a.0.now) _ (λ a r g h. search rules)))
