-- What the machine keeps while an event is made: messages going into their lanes, and the journal growing, change nothing that is seen.
use Rattle.std.proofs.Common.{◌≡◌, ℕ, ◌+◌, ◌≤◌, ◌<◌, List, [], ◌∷◌, ◌++◌, length, drop, refl, ap, arith, sym, subst, ◌∙◌}
use Rattle.std.specs.Prelude.{slice_index, option_to_list, All}
use Rattle.std.proofs.lemmas.List.{length_push, map-append}
use Rattle.line_map.specs.Sizes.{Sizes}
use Rattle.op_model.specs.declared.events.Event.{Event}
use Rattle.message_range.specs.Fitting.{IsSentOf}
use Rattle.msg_words.specs.SendList.{SendList}
use Rattle.event_tally.specs.Marks.{naks_in, marks_of, marked_up}
use Rattle.event_tally.specs.Tallies.{tally_of}
use Rattle.eager_report.specs.Orders.{as_aged}
use Rattle.eager_home.specs.Views.{EagerView}
use Rattle.eager_machine.specs.declared.acts.Act.{Act}
use Rattle.eager_machine.specs.declared.journal.Journal.{Journal}
use Rattle.eager_machine.specs.declared.sending.Outbox.{Outbox}
use Rattle.eager_machine.specs.Acts.{AreFrontsMet, IsAct}
use Rattle.eager_machine.specs.Journals.{IsSameJournal, served_in}
use Rattle.eager_machine.specs.Kept.{moments_in, AreYoung, IsKept}
use Rattle.eager_machine.specs.Lanes.{AgedQueues, lane_in, sent_from, taken_off}
use Rattle.eager_machine.specs.Outboxes.{under_way, IsOutbox, IsSameSender}
use Rattle.eager_machine.specs.Runs.{IsRunKept}
use Rattle.eager_machine.proofs.After.{counts-few, kept-after, tally-after}
use Rattle.eager_machine.proofs.Laws.{fronts-met}
use Rattle.eager_machine.proofs.NodeLists.{young-more}

module _ (sizes : Sizes) (nodes : List EagerView) (lanes : AgedQueues) (out : Outbox) (journal : Journal) (kept : IsRunKept sizes nodes lanes out journal) where
  pub outbox-here : IsOutbox lanes.sizes out
  outbox-here = subst (λ s. IsOutbox s out) (sym kept.same_sizes) kept.outbox

  -- the journal has room for another event, and some messages have gone into their lanes
  pub kept-moved : (lanes' : AgedQueues) (out' : Outbox) (journal' : Journal) → IsSameJournal journal journal' → lanes'.sizes ≡ lanes.sizes → under_way lanes' out' ≡ under_way lanes out → IsOutbox lanes.sizes out' → IsSameSender out out' → IsRunKept sizes nodes lanes' out' journal'
  kept-moved lanes' out' journal' same sized way box sender = record {
    kept = subst (λ w. IsKept sizes nodes w journal'.events.items (served_in journal'.served.items)) (sym way)
        (subst (λ es. IsKept sizes nodes (under_way lanes out) es (served_in journal'.served.items)) (sym same.events) (subst (λ es. IsKept sizes nodes (under_way lanes out) journal.events.items (served_in es)) (sym same.served) kept.kept));
    same_sizes = sized ∙ kept.same_sizes;
    outbox = subst (λ s. IsOutbox s out') kept.same_sizes box;
    given = subst (λ n. n ≤ length journal'.events.items) (sym sender.given) (subst (λ es. out.given ≤ length es) (sym same.events) kept.given);
    tally = same.counts ∙ kept.tally ∙ ap (λ es. tally_of sizes (moments_in sizes nodes es)) (sym same.events);
  }

  -- the journal has room for another event, and nothing else has changed
  pub kept-reserved : (journal' : Journal) → IsSameJournal journal journal' → IsRunKept sizes nodes lanes out journal'
  kept-reserved journal' same = kept-moved lanes out journal' same refl refl outbox-here (record { node = refl; given = refl })

  -- where all messages have gone into the lanes, these hold all that is under way
  pub settled : (lanes' : AgedQueues) → lane_in lanes' ≡ under_way lanes out → IsKept sizes nodes (lane_in lanes') journal.events.items (served_in journal.served.items)
  settled lanes' way = subst (λ w. IsKept sizes nodes w journal.events.items (served_in journal.served.items)) (sym way) kept.kept

  pub fronts-settled : (lanes' : AgedQueues) → lane_in lanes' ≡ under_way lanes out → AreFrontsMet sizes nodes (lane_in lanes')
  fronts-settled lanes' way = fronts-met sizes nodes (lane_in lanes') journal.events.items (served_in journal.served.items) (settled lanes' way)

  pub young-here : (bound : ℕ) → length journal.events.items ≤ bound → AreYoung bound nodes
  young-here bound le = young-more (length journal.events.items) bound nodes le kept.kept.young

  -- no count is above the number of events
  pub few : (i : ℕ) → slice_index journal.counts i ≤ length journal.events.items
  few = counts-few sizes nodes (under_way lanes out) journal.events.items (served_in journal.served.items) journal.counts kept.kept kept.tally

  -- one event more
  pub kept-next : (lanes' lanes'' : AgedQueues) (nodes' : List EagerView) (event : Event) (sends : SendList) (act : Act) (out' : Outbox) (journal' : Journal) → lanes'.sizes ≡ lanes.sizes → lane_in lanes' ≡ under_way lanes out →
      IsAct sizes nodes nodes' (lane_in lanes') event sends.list act → sends.room ≡ sizes.nodes + 1 → lanes''.sizes ≡ lanes'.sizes → lane_in lanes'' ≡ taken_off event (lane_in lanes') →
      out'.sends ≡ sends → out'.moved ≡ 0 → out'.node ≡ act.node → out'.given ≡ act.given → journal'.events.items ≡ journal.events.items ++ event ∷ [] → journal'.served.items ≡ journal.served.items ++ option_to_list act.entry → journal'.counts ≡ marked_up journal.counts (marks_of event act.takes act.done (naks_in sends.list) act.marked) →
      IsRunKept sizes nodes' lanes'' out' journal'
  kept-next lanes' lanes'' nodes' event sends act out' journal' sized way is room sized' way' sends_is moved_is node_is given_is events_is served_is counts_are =
      let here = settled lanes' way in
      let list : drop out'.moved out'.sends.list ≡ sends.list = λ i. drop (moved_is i) (sends_is i).list in
      let up = is.rises (length journal.events.items) kept.kept.young here.fresh in
      let long : length journal'.events.items ≡ length journal.events.items + 1 = ap length events_is ∙ length_push journal.events.items event in
      record {
        kept = kept-after sizes nodes nodes' (lane_in lanes') journal.events.items (served_in journal.served.items) event sends.list act here is (under_way lanes'' out') journal'.events.items (served_in journal'.served.items)
            (λ i. sent_from (node_is i) (given_is i) (list i) (way' i)) events_is (ap served_in served_is ∙ map-append as_aged journal.served.items (option_to_list act.entry));
        same_sizes = sized' ∙ sized ∙ kept.same_sizes;
        outbox = record {
          node = subst (λ n. n < sizes.nodes) (sym node_is) is.below;
          room = ap (λ (s : SendList). s.room) sends_is ∙ room;
          moved = subst (λ n. n ≤ length out'.sends.list) (sym moved_is) (omega arith);
          sent = subst (λ (s : SendList). All (IsSentOf sizes) s.list) (sym sends_is) is.sent;
        };
        given = let le = up.1 in omega (arith, le, long, given_is);
        tally = tally-after sizes nodes nodes' (lane_in lanes') journal.events.items (served_in journal.served.items) event sends.list act here is journal.counts journal'.counts journal'.events.items kept.tally counts_are events_is;
      }
