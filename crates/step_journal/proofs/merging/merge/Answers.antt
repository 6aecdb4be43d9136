use Rattle.std.proofs.Common.{◌≡◌, ◌≤◌, ◌<◌, ◌+◌, ℕ, List, take, length, ap, sym, subst, ◌∙◌}
use Rattle.std.specs.Prelude.{slice_get}
use Rattle.std.specs.List.{All}
use Rattle.std.proofs.lemmas.List.{take_all}
use Rattle.op_model.specs.declared.events.Event.{Event}
use Rattle.op_model.specs.declared.events.Numbered.{Numbered}
use Rattle.op_model.specs.Parts.Journal.{drawn, Agrees}
use Rattle.step_journal.specs.Logs.{LogList, all_entries}
use Rattle.step_journal.proofs.Journals.{merged_of}
use Rattle.step_journal.proofs.Tickets.{one_or_none, drawn_once, drawn_within, merged_more, written_back}
use Rattle.step_journal.proofs.merging.merge.Goals as goal

pub place-requires-clause-within : goal.place-requires-clause-within
place-requires-clause-within c =
    let logs = c.args.logs.now in
    let same = c.entries.ensures ∙ ap (λ (log : LogList). log.entries) c.log-item.is in
    let long : all_entries logs ≡ length c.deref_mut.result.now = sym (ap length c.deref_mut.ensures.value ∙ c.loop-log.invariant.long) in
    subst (λ (n : ℕ). All (λ (e : Numbered). e.ticket < n) c.entries.result.now) long
    (subst (λ (entries : List Numbered). All (λ (e : Numbered). e.ticket < all_entries logs) entries) (sym same) (drawn_within logs c.loop-log.log-index c.log-item.result c.requires c.loop-log-test.true))

pub place-requires-clause-once : goal.place-requires-clause-once
place-requires-clause-once c ticket =
    let same = c.entries.ensures ∙ ap (λ (log : LogList). log.entries) c.log-item.is in
    subst (λ (entries : List Numbered). drawn ticket entries ≤ 1) (sym same) (drawn_once c.args.logs.now c.loop-log.log-index c.log-item.result c.requires c.loop-log-test.true ticket)

pub loop-log-preserved : goal.loop-log-preserved
loop-log-preserved c =
    let logs = c.args.logs.now in
    let i = c.loop-log.log-index in
    let d = c.log-item.result in
    let old = c.loop-log.journal.items in
    let new = c.place.new.journal in
    let same = c.entries.ensures ∙ ap (λ (log : LogList). log.entries) c.log-item.is in
    let back = written_back c.loop-log.journal.len old new (sym (c.place.ensures.long ∙ c.deref_mut.ensures.len)) in
    record {
      long = ap length back ∙ c.place.ensures.long ∙ ap length c.deref_mut.ensures.value ∙ c.loop-log.invariant.long;
      placed = subst (λ (journal : List Event). All (λ (log : LogList). Agrees journal log.entries) (take (i + 1) logs)) (sym back)
          (merged_more old new logs i d c.requires c.loop-log-test.true
          (λ ticket none. c.place.ensures.others ticket (ap (drawn ticket) same ∙ none) ∙ ap (λ (journal : List Event). slice_get journal ticket) c.deref_mut.ensures.value)
          (subst (Agrees new) same c.place.ensures.agrees) c.loop-log.invariant.placed);
    }

pub returns : goal.returns
returns c =
    let logs = c.args.logs.now in
    let journal = c.loop-log.journal.items in
    let long = c.loop-log.invariant.long in
    merged_of logs journal (λ t. c.requires t ∙ ap (one_or_none t) (sym long))
    (subst (λ (xs : List LogList). All (λ (log : LogList). Agrees journal log.entries) xs) (take_all c.loop-log.log-index logs c.loop-log-test.false) c.loop-log.invariant.placed)
