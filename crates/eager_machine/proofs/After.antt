-- The machine after an event: its run has come to the state of the nodes, with what they sent under way.
use Rattle.std.proofs.Common.{◌≡◌, ℕ, ◌+◌, ◌≤◌, Bool, true, false, cond, ◌==◌, List, [], ◌∷◌, ◌++◌, length, drop, map, ap, arith, sym, subst, ◌∙◌, Some}
use Rattle.std.specs.Prelude.{slice_index, option_to_list, All}
use Rattle.std.proofs.lemmas.List.{drop-map, map-append, length_push}
use Rattle.std.proofs.lemmas.List.Elements.{All-append, All-cons, All-drop, All-nil, All-weaker}
use Rattle.line_map.specs.Sizes.{Sizes}
use Rattle.op_model.specs.declared.events.Class.{Class}
use Rattle.op_model.specs.declared.events.Event.{Event}
use Rattle.op_model.specs.declared.messages.Msg.{Msg}
use Rattle.op_model.specs.Messages.{Content, Get, GetX, FwdGet, FwdGetX, Inv, Wb, Rpl, Put, PutX, Nak, InvAck, ShWb, FAck, Nakc, msg_content}
use Rattle.op_model.specs.Events.Step.{Programs, to_lane, off_of}
use Rattle.op_model.specs.Programs.{programs_of}
use Rattle.event_tally.specs.Marks.{naks_in, marks_of, marked_up}
use Rattle.event_tally.specs.Tallies.{tally_of}
use Rattle.event_tally.proofs.Public.{tally_of-few, tally_of-push}
use Rattle.eager_model.specs.Ages.{sent_age}
use Rattle.eager_model.specs.Runs.{AgedEntry, Past, past_after, run_by, start}
use Rattle.eager_machine.specs.declared.acts.Act.{Act}
use Rattle.eager_machine.specs.declared.queue.AgedMsg.{AgedMsg}
use Rattle.eager_machine.specs.Acts.{IsAct}
use Rattle.eager_machine.specs.Journals.{served_in}
use Rattle.eager_machine.specs.Kept.{past_of, programs_in, moments_in, AreYoung, IsKept}
use Rattle.eager_machine.specs.Lanes.{UnderWay, msg_of, age_of, with_age, sent_from, taken_off, AreFresh}
use Rattle.eager_machine.proofs.Runs.{run-push, moments-push, length-moments}
use Rattle.eager_machine.proofs.Ways.{msgs-sent, ages-sent}
use Rattle.eager_home.specs.Views.{EagerView}
use Rattle.eager_report.specs.Moments.{moment_of, moments}

-- the age of a message that is sent is at most one more than that of the words given
sent_age-le : (given : ℕ) (content : Content) → sent_age given content ≤ given + 1
sent_age-le given Get = omega arith
sent_age-le given GetX = omega arith
sent_age-le given (FwdGet requester) = omega arith
sent_age-le given (FwdGetX requester) = omega arith
sent_age-le given Inv = omega arith
sent_age-le given (Wb words) = omega arith
sent_age-le given Rpl = omega arith
sent_age-le given (Put words) = omega arith
sent_age-le given (PutX words) = omega arith
sent_age-le given (Nak cause) = omega arith
sent_age-le given InvAck = omega arith
sent_age-le given (ShWb words) = omega arith
sent_age-le given FAck = omega arith
sent_age-le given Nakc = omega arith

sent-fresh : (given bound : ℕ) (ms : List Msg) → given ≤ bound → All (λ (aged : AgedMsg). aged.age ≤ bound + 1) (map (with_age given) ms)
sent-fresh given bound [] le = All-nil (λ (aged : AgedMsg). aged.age ≤ bound + 1)
sent-fresh given bound (m ∷ ms) le =
    All-cons (λ (aged : AgedMsg). aged.age ≤ bound + 1) (with_age given m) (map (with_age given) ms) (let one = sent_age-le given (msg_content m) in omega (arith, one, le)) (sent-fresh given bound ms le)

-- what is sent is fresh, behind what was
pub moved-fresh : (bound node given : ℕ) (event : Event) (sends : List (ℕ × Msg)) (way : UnderWay) → AreFresh bound way → given ≤ bound → AreFresh (bound + 1) (sent_from node given sends (taken_off event way))
moved-fresh bound node given event sends way fresh le a b class =
    All-append (λ (aged : AgedMsg). aged.age ≤ bound + 1) (taken_off event way a b class) _
    (All-drop (λ (aged : AgedMsg). aged.age ≤ bound + 1) (off_of event a b class) (way a b class) (All-weaker (λ (aged : AgedMsg). aged.age ≤ bound) (λ (aged : AgedMsg). aged.age ≤ bound + 1) (λ aged old. omega (arith, old)) (way a b class) (fresh a b class)))
    (go (a == node))
  where
    go : (own : Bool) → All (λ (aged : AgedMsg). aged.age ≤ bound + 1) (cond own (map (with_age given) (to_lane b class sends)) [])
    go true = sent-fresh given bound (to_lane b class sends) le
    go false = All-nil (λ (aged : AgedMsg). aged.age ≤ bound + 1)

-- no count is above the number of events
pub counts-few : (sizes : Sizes) (nodes : List EagerView) (way : UnderWay) (events : List Event) (served : List AgedEntry) (numbers : List ℕ) → IsKept sizes nodes way events served → numbers ≡ tally_of sizes (moments_in sizes nodes events) →
    (i : ℕ) → slice_index numbers i ≤ length events
counts-few sizes nodes way events served numbers kept tally i =
    let ms = moments_in sizes nodes events in
    let long : length ms ≡ length events = length-moments sizes (programs_of (programs_in nodes)) (start sizes) (past_of sizes nodes way served) events kept.ran in
    subst (λ ns. slice_index ns i ≤ length events) (sym tally) (subst (λ n. slice_index (tally_of sizes ms) i ≤ n) long (tally_of-few sizes ms i))

-- a lane seen by its messages, or by their ages: some leave its front, and others come to its end
lane-seen : {B : Type 0} (f : AgedMsg → B) (n : ℕ) (xs ys : List AgedMsg) (zs : List B) (own : Bool) → map f ys ≡ zs → drop n (map f xs) ++ cond own zs [] ≡ map f (drop n xs ++ cond own ys [])
lane-seen f n xs ys zs true is = (λ i. drop-map f n xs i ++ sym is i) ∙ sym (map-append f (drop n xs) ys)
lane-seen f n xs ys zs false is = ap (λ l. l ++ []) (drop-map f n xs) ∙ sym (map-append f (drop n xs) [])

module _ (sizes : Sizes) (nodes nodes' : List EagerView) (way : UnderWay) (events : List Event) (served : List AgedEntry) (event : Event) (sends : List (ℕ × Msg)) (act : Act)
    (kept : IsKept sizes nodes way events served) (is : IsAct sizes nodes nodes' way event sends act) where
  abbrev programs : Programs
  programs = programs_of (programs_in nodes)

  abbrev past : Past
  past = past_of sizes nodes way served

  abbrev moved : UnderWay
  moved = sent_from act.node act.given sends (taken_off event way)

  ran-next : run_by sizes programs (start sizes) (events ++ event ∷ []) ≡ Some (past_after sizes past is.done)
  ran-next = run-push sizes programs (start sizes) past events event is.done kept.ran is.does

  messages-after : (a b : ℕ) (class : Class) → drop (is.done.off a b class) (map msg_of (way a b class)) ++ cond (a == is.done.node) (to_lane b class is.done.did.out.sends) [] ≡ map msg_of (moved a b class)
  messages-after a b class =
      (λ i. drop (is.off_is i a b class) (map msg_of (way a b class)) ++ cond (a == is.node_is i) (to_lane b class (is.sends_are i)) [])
      ∙ lane-seen msg_of (off_of event a b class) (way a b class) (map (with_age act.given) (to_lane b class sends)) (to_lane b class sends) (a == act.node) (msgs-sent act.given (to_lane b class sends))

  ages-after : (a b : ℕ) (class : Class) → drop (is.done.off a b class) (map age_of (way a b class)) ++ cond (a == is.done.node) (map (λ m. sent_age is.done.did.given (msg_content m)) (to_lane b class is.done.did.out.sends)) [] ≡ map age_of (moved a b class)
  ages-after a b class =
      (λ i. drop (is.off_is i a b class) (map age_of (way a b class)) ++ cond (a == is.node_is i) (map (λ m. sent_age (is.given_is i) (msg_content m)) (to_lane b class (is.sends_are i))) [])
      ∙ lane-seen age_of (off_of event a b class) (way a b class) (map (with_age act.given) (to_lane b class sends)) (map (λ m. sent_age act.given (msg_content m)) (to_lane b class sends)) (a == act.node) (ages-sent act.given (to_lane b class sends))

  past-next : past_after sizes past is.done ≡ past_of sizes nodes' moved (served ++ served_in (option_to_list act.entry))
  past-next = λ i. record {
    state = record { share = is.shares i; lane = λ a b class. messages-after a b class i };
    ages = record { node = is.ages i; lane = λ a b class. ages-after a b class i };
    served = served ++ is.noted i;
  }

  -- the numbers of all counts, with the event marked in them
  pub tally-after : (numbers numbers' : List ℕ) (events' : List Event) → numbers ≡ tally_of sizes (moments_in sizes nodes events) → numbers' ≡ marked_up numbers (marks_of event act.takes act.done (naks_in sends) act.marked) → events' ≡ events ++ event ∷ [] →
      numbers' ≡ tally_of sizes (moments_in sizes nodes' events')
  tally-after numbers numbers' events' tally marked events_is =
      marked ∙ ap (λ ns. marked_up ns (marks_of event act.takes act.done (naks_in sends) act.marked)) tally
      ∙ sym (tally_of-push sizes (moment_of past event is.done) act.takes act.done sends act.marked is.tells (moments_in sizes nodes events))
      ∙ ap (tally_of sizes) (sym (moments-push sizes programs (start sizes) past events event is.done kept.ran is.does))
      ∙ (λ i. tally_of sizes (moments sizes (programs_of (sym is.programs_are i)) (start sizes) (sym events_is i)))

  pub kept-after : (way' : UnderWay) (events' : List Event) (served' : List AgedEntry) → way' ≡ moved → events' ≡ events ++ event ∷ [] → served' ≡ served ++ served_in (option_to_list act.entry) → IsKept sizes nodes' way' events' served'
  kept-after way' events' served' way_is events_is served_is =
      let up = is.rises (length events) kept.young kept.fresh in
      subst (λ w. IsKept sizes nodes' w events' served') (sym way_is) (subst (λ s. IsKept sizes nodes' moved events' s) (sym served_is) (subst (λ e. IsKept sizes nodes' moved e (served ++ served_in (option_to_list act.entry))) (sym events_is) (record {
        sizes_are = kept.sizes_are;
        nodes_are = is.nodes_are;
        ran =
            (λ i. run_by sizes (programs_of (is.programs_are i)) (start sizes) (events ++ event ∷ [])) ∙ ran-next ∙ ap Some past-next;
        young = subst (λ n. AreYoung n nodes') (sym (length_push events event)) up.0;
        fresh = subst (λ n. AreFresh n moved) (sym (length_push events event)) (moved-fresh (length events) act.node act.given event sends way kept.fresh up.1);
      })))
