-- What one of the nodes did with an input, as an event of the machine at that node.
use Rattle.std.proofs.Common.{◌≡◌, ℕ, ◌+◌, ◌≤◌, ◌<◌, Bool, true, false, cond, ◌==◌, List, ◌++◌, refl, ap, arith, sym, subst, ◌∙◌, Option, Ok}
use Rattle.std.specs.Prelude.{option_to_list}
use Rattle.line_map.specs.Sizes.{Sizes}
use Rattle.op_model.specs.declared.events.Cause.{Cause}
use Rattle.op_model.specs.declared.events.Event.{Event}
use Rattle.op_model.specs.declared.messages.Msg.{Msg}
use Rattle.op_model.specs.Events.Node.{Input, NodeOutcome, map_ok}
use Rattle.op_model.specs.Events.Step.{Off, Programs, put_at, off_of}
use Rattle.op_model.specs.Lines.{Service, NoService, Own, For}
use Rattle.op_model.specs.Messages.{msg_line}
use Rattle.op_model.specs.Programs.{programs_of}
use Rattle.op_model.specs.Run.Counts.{taken_by, takes_marked}
use Rattle.op_model.specs.Run.Runs.{entries_of, entry_for}
use Rattle.op_model.specs.Shares.{Share, want_on}
use Rattle.cpu_cache.specs.Effects.{served_of}
use Rattle.cpu_cache.specs.declared.effects.Effect.{Effect}
use Rattle.msg_words.specs.SendList.{SendList}
use Rattle.event_tally.specs.Marks.{take_marks_of}
use Rattle.machine.specs.Acts.{entries_after}
use Rattle.machine.proofs.Public.{served-after}
use Rattle.eager_model.specs.Node.{Aged, aged, local, put_ages}
use Rattle.eager_model.specs.Runs.{aged_entries}
use Rattle.eager_model.specs.Step.{AgedDone, Call, answer, effect}
use Rattle.eager_home.specs.Views.{EagerView, ages_in}
use Rattle.eager_home.specs.declared.aging.AgedEffect.{AgedEffect}
use Rattle.eager_machine.specs.declared.acts.Act.{Act}
use Rattle.eager_machine.specs.Acts.{at_age, AreSent, IsAct, IsDoneAt, IsNoted, IsRefusedAt, IsRefusedIn}
use Rattle.eager_machine.specs.Journals.{served_in}
use Rattle.eager_machine.specs.Kept.{share_or, share_in, ages_or, node_ages, state_of, ages_of, programs_in, AreNodes, AreYoung}
use Rattle.eager_machine.specs.Lanes.{UnderWay, messages_of, AreFresh}
use Rattle.eager_machine.proofs.NodeLists.{local-at, aged-at, share-set, ages-set, nodes-set, programs-set, young-set, young-more}
use Rattle.eager_machine.proofs.Quiet.{read, taken_in}

module _ (sizes : Sizes) (nodes nodes' : List EagerView) (node : ℕ) (input : Input) (age : ℕ) (sends : List (ℕ × Msg)) (did : AgedEffect) (are : AreNodes sizes nodes) (row : IsDoneAt nodes nodes' node input age sends did) where
  abbrev out : NodeOutcome
  out = row.acts.acts.outcome

  abbrev programs : Programs
  programs = programs_of (programs_in nodes)

  does-here : local sizes node (programs node) (share_in sizes nodes node) input ≡ Ok out
  does-here = local-at sizes nodes node row.old row.there (are.each node row.old row.there) input ∙ row.acts.acts.is

  -- what it did, with the ages
  abbrev did_here : Aged
  did_here = aged sizes node (share_in sizes nodes node) (node_ages nodes node) input age out

  did-is : did_here ≡ aged row.old.sizes row.old.number row.old.share (ages_in row.old) input age out
  did-is = aged-at sizes nodes node row.old row.there (are.each node row.old row.there) input age out

  out-is : did_here.out ≡ out
  unfolding aged
  out-is = refl

  sends-are : did_here.out.sends ≡ sends
  sends-are =
      ap (λ (o : NodeOutcome). o.sends) out-is ∙ ap (λ l. l ++ out.sends) (sym row.nothing) ∙ sym (ap (λ (o : SendList). o.list) row.acts.acts.sends) ∙ sym row.sends_are

  shares-after : put_at (share_in sizes nodes) node did_here.out.share ≡ share_in sizes nodes'
  shares-after =
      share-set sizes nodes node row.old row.new row.there did_here.out.share (ap (λ (o : NodeOutcome). o.share) out-is ∙ sym row.acts.acts.share) ∙ ap (share_in sizes) (sym row.after)

  ages-are : put_ages did_here.out.line did_here.ages (node_ages nodes node) ≡ ages_in row.new
  ages-are =
      let l = ap (λ (o : NodeOutcome). o.line) out-is in
      let a = ap (λ (d : Aged). d.ages) did-is in
      let before = ap (ages_or node) row.there in
      (λ i. put_ages (l i) (a i) (before i)) ∙ sym row.acts.ages

  ages-after : put_at (node_ages nodes) node (put_ages did_here.out.line did_here.ages (node_ages nodes node)) ≡ node_ages nodes'
  ages-after = ages-set nodes node row.old row.new row.there (put_ages did_here.out.line did_here.ages (node_ages nodes node)) ages-are ∙ ap node_ages (sym row.after)

  same-program : row.new.program ≡ row.old.program
  same-program = ap (λ (v : EagerView). v.program) row.same

  nodes-after : AreNodes sizes nodes'
  nodes-after = subst (AreNodes sizes) (sym row.after) (nodes-set sizes nodes node row.old row.new row.there are row.same)

  programs-after : programs_in nodes' ≡ programs_in nodes
  programs-after = ap programs_in row.after ∙ programs-set sizes nodes node row.old row.new row.there same-program

  rises-after : (bound : ℕ) → AreYoung bound nodes → age ≤ bound → AreYoung (bound + 1) nodes' × (did.given ≤ bound)
  rises-after bound young of =
      let up = row.rises bound (young node row.old row.there) of in
      (subst (AreYoung (bound + 1)) (sym row.after) (young-set sizes nodes node row.old row.new row.there (bound + 1) (young-more bound (bound + 1) nodes (omega arith) young) up.ages), up.given)

  share-at : (q : ℕ) → share_in sizes nodes' q ≡ cond (q == node) out.share (share_in sizes nodes q)
  share-at q = (λ i. sym shares-after i q) ∙ ap (λ (o : NodeOutcome). cond (q == node) o.share (share_in sizes nodes q)) out-is

  served-is : did.effect.served ≡ served_of node (share_in sizes nodes node).place out.served
  served-is =
      let number = (are.each node row.old row.there).number_is in
      let here = sym (ap (λ (s : Share). s.place) (ap (share_or sizes node) row.there)) in
      ap (λ (e : Effect). e.served) row.acts.acts.told ∙ (λ i. served_of (number i) (here i) out.served)

  -- what was served, read after the event
  entries-are : (way : UnderWay) → entries_after sizes (share_in sizes nodes') (taken_in input) did.effect.served ≡ entries_of sizes (state_of sizes nodes way) node out.line out.served
  entries-are way =
      ap (entries_after sizes (share_in sizes nodes') (taken_in input)) served-is
      ∙ served-after sizes (share_in sizes nodes) (share_in sizes nodes') node out (taken_in input) share-at (messages_of way) (read sizes node (programs node) (share_in sizes nodes node) input out does-here)

  abbrev made : Off → AgedDone
  made off = record { node = node; off = off; did = did_here }

  noted-after : (way : UnderWay) (off : Off) (act : Act) → IsNoted sizes nodes' (taken_in input) did act → aged_entries sizes (state_of sizes nodes way) (made off) ≡ served_in (option_to_list act.entry)
  noted-after way off act noted =
      let served = sym (row.acts.served ∙ sym (ap (λ (d : Aged). d.served) did-is)) in
      (λ i. at_age (served i) (entries_of sizes (state_of sizes nodes way) node (out-is i).line (out-is i).served))
      ∙ ap (at_age did.served) (sym (entries-are way)) ∙ sym noted.entry_is

  pub act-by : (way : UnderWay) (event : Event) (off : Off) (act : Act) →
      effect sizes programs (state_of sizes nodes way) (ages_of nodes way) event ≡ answer sizes programs (state_of sizes nodes way) (ages_of nodes way) (record { node = node; input = input; age = age; off = off }) →
      off ≡ off_of event → node < sizes.nodes → act.node ≡ node → IsNoted sizes nodes' (taken_in input) did act → act.takes ≡ take_marks_of (taken_by (state_of sizes nodes way) event) →
      act.marked ≡ takes_marked sizes (state_of sizes nodes way) event (taken_by (state_of sizes nodes way) event) → AreSent sizes sends → ((bound : ℕ) → AreFresh bound way → age ≤ bound) → IsAct sizes nodes nodes' way event sends act
  act-by way event off act is off_is below node_is noted takes marked sent of = record {
    done = made off;
    does = is ∙ ap (map_ok (λ o. record { node = node; off = off; did = aged sizes node (share_in sizes nodes node) (node_ages nodes node) input age o })) does-here;
    node_is = sym node_is;
    below = subst (λ n. n < sizes.nodes) (sym node_is) below;
    off_is = off_is;
    given_is = ap (λ (d : Aged). d.given) did-is ∙ sym row.acts.given ∙ sym noted.given_is;
    sends_are = sends-are;
    sent = sent;
    nodes_are = nodes-after;
    programs_are = programs-after;
    shares = shares-after;
    ages = ages-after;
    noted = noted-after way off act noted;
    tells = record { takes_is = takes; done_is = noted.done_is ∙ row.is_done ∙ sym (ap (λ (o : NodeOutcome). o.done) out-is); sends_are = sym sends-are; marked_is = marked };
    rises = λ bound young fresh. let up = rises-after bound young (of bound fresh) in (up.0, subst (λ n. n ≤ bound) (sym noted.given_is) up.1);
  }

-- a cause for which a node refuses it
pub refused-by : (sizes : Sizes) (nodes : List EagerView) (way : UnderWay) (event : Event) (call : Call) (cause : Cause) → AreNodes sizes nodes →
    effect sizes (programs_of (programs_in nodes)) (state_of sizes nodes way) (ages_of nodes way) event ≡ answer sizes (programs_of (programs_in nodes)) (state_of sizes nodes way) (ages_of nodes way) call →
    IsRefusedAt nodes call.node call.input cause → IsRefusedIn sizes nodes way event cause
refused-by sizes nodes way event call cause are is refused =
    is ∙ ap (map_ok (λ o. record { node = call.node; off = call.off; did = aged sizes call.node (share_in sizes nodes call.node) (node_ages nodes call.node) call.input call.age o }))
    (local-at sizes nodes call.node refused.old refused.there (are.each call.node refused.old refused.there) call.input ∙ refused.refuses)
