use Rattle.std.proofs.Common.{◌≡◌, ◌<◌, ap, sym, subst, ◌∙◌}
use Rattle.std.specs.List.{All}
use Rattle.line_map.specs.Sizes.{Sizes, all_words}
use Rattle.dir_report.specs.Machines.{Heads}
use Rattle.eager_report.specs.declared.aged.AgedEntry.{AgedEntry}
use Rattle.eager_report.specs.Orders.{by_lines}
use Rattle.eager_report.proofs.Orders.{histories-are}
use Rattle.eager_report.proofs.histories.histories.Goals as goal

pub order-requires : goal.order-requires
order-requires g c =
    let m = g.M.EagerReported.meaning c.args.m.now in
    let sizes : c.sizes.result ≡ m.sizes = c.sizes.ensures ∙ ap (λ (h : Heads). h.sizes) (g.met.M.EagerReported.same c.args.m.now) in
    subst (λ (s : Sizes). All (λ (aged : AgedEntry). aged.entry.word < all_words s) c.in_ok-entries.entries.items) (sym sizes) c.in_ok-entries.ensures.within

pub returns : goal.returns
returns g c =
    let m = g.M.EagerReported.meaning c.args.m.now in
    let sizes : c.sizes.result ≡ m.sizes = c.sizes.ensures ∙ ap (λ (h : Heads). h.sizes) (g.met.M.EagerReported.same c.args.m.now) in
    c.in_ok-order.ensures ∙ (λ i. by_lines (sizes i) (c.in_ok-entries.ensures.value i)) ∙ histories-are m.sizes m.past
