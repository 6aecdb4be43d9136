-- They are those of the run, each on a word of the machine.
use Rattle.std.proofs.Common.{◌≡◌, ◌<◌, List, filter, map, ap, sym, subst, ◌∙◌}
use Rattle.std.specs.Prelude.{All}
use Rattle.std.proofs.lemmas.List.Elements.{All-filter}
use Rattle.std.proofs.lemmas.Result.{IfOk-weaker}
use Rattle.line_map.specs.Sizes.{Sizes, all_words}
use Rattle.op_model.specs.Run.History.{is_completed}
use Rattle.eager_report.specs.declared.aged.AgedEntry.{AgedEntry}
use Rattle.eager_report.specs.Orders.{as_aged}
use Rattle.eager_report.specs.Reports.{completed_of}
use Rattle.eager_machine.specs.Kept.{state_of}
use Rattle.eager_machine.specs.Lanes.{UnderWay}
use Rattle.eager_machine.specs.Outboxes.{under_way}
use Rattle.eager_machine.specs.Seen.{seen_of}
use Rattle.eager_machine.proofs.Seen.{seen-completed, seen-words}
use Rattle.eager_machine.proofs.text.EagerMachineEagerReported.completed.Goals as goal

pub returns-clause-value : goal.returns-clause-value
returns-clause-value c =
    let run = c.self.inside.run in
    let way = under_way run.lanes run.out in
    IfOk-weaker c.completed.result
    (λ v. (sizes : Sizes) (way : UnderWay) → v.items ≡ filter (λ (aged : AgedEntry). is_completed (state_of sizes run.nodes.items way) aged.entry) c.deref.result.now)
    (λ v. map as_aged v.items ≡ completed_of (seen_of c.args.self.now).past)
    (λ v are. seen-completed run.cfg run.nodes.items way run.journal.events.items run.journal.served.items c.args.self.now c.self.invariant.kept c.self.view_is v.items
    (are run.cfg way ∙ ap (filter (λ (aged : AgedEntry). is_completed (state_of run.cfg run.nodes.items way) aged.entry)) c.deref.ensures.value)) c.completed.ensures

pub returns-clause-within : goal.returns-clause-within
returns-clause-within c =
    let run = c.self.inside.run in
    let way = under_way run.lanes run.out in
    let done = λ (aged : AgedEntry). is_completed (state_of run.cfg run.nodes.items way) aged.entry in
    let on_word = λ (aged : AgedEntry). aged.entry.word < all_words c.args.self.now.sizes in
    IfOk-weaker c.completed.result
    (λ v. (sizes : Sizes) (way : UnderWay) → v.items ≡ filter (λ (aged : AgedEntry). is_completed (state_of sizes run.nodes.items way) aged.entry) c.deref.result.now)
    (λ v. All on_word v.items)
    (λ v are. subst (All on_word) (sym (are run.cfg way ∙ ap (filter done) c.deref.ensures.value))
    (All-filter done on_word run.journal.served.items (seen-words run.cfg run.nodes.items way run.journal.events.items run.journal.served.items c.args.self.now c.self.invariant.kept c.self.view_is))) c.completed.ensures
