-- What the machine keeps, it keeps over an event.
use Rattle.std.proofs.Common.{◌≡◌, ℕ, zero, suc, ◌+◌, ◌-◌, ◌≤◌, ◌<◌, Bool, true, false, cond, ◌==◌, List, [], ◌∷◌, ◌++◌, length, map, set, drop, refl, ap, arith, sym, subst, ◌∙◌, Option, Some, Ok}
use Rattle.std.specs.Prelude.{slice_index, option_to_list, All}
use Rattle.std.proofs.lemmas.Bool.Decides.{nat_tests}
use Rattle.line_map.specs.Sizes.{Sizes}
use Rattle.op_model.specs.declared.events.Event.{Event}
use Rattle.op_model.specs.declared.messages.Msg.{Msg}
use Rattle.op_model.specs.declared.operations.Entry.{Entry}
use Rattle.op_model.specs.Operations.{Words, entry_of}
use Rattle.op_model.specs.Lines.{Service, NoService, Own, For}
use Rattle.op_model.specs.Messages.{msg_line}
use Rattle.op_model.specs.OwnPart.{IsOwnPart}
use Rattle.op_model.specs.Shares.{Charge, Lanes, Share, want_on, program}
use Rattle.op_model.specs.Events.Step.{Programs, Done, effect, after, to_lane, off_of}
use Rattle.op_model.specs.Run.Runs.{Past, past_after, start, run_by, entries_of, entry_for}
use Rattle.op_model.specs.Run.Counts.{moments, taken_by}
use Rattle.message_range.specs.Fitting.{IsSentOf}
use Rattle.own_part.proofs.Public.{own_run}
use Rattle.message_range.proofs.Public.{act-placed}
use Rattle.lane_queues.specs.LaneStates.{LaneState}
use Rattle.msg_words.specs.SendList.{SendList}
use Rattle.event_tally.specs.Marks.{naks_in, marks_of, marked_up}
use Rattle.event_tally.specs.Tallies.{tally_of, TellsMarks}
use Rattle.event_tally.proofs.Public.{tally_of-few, tally_of-push}
use Rattle.machine.specs.declared.acts.Act.{Act}
use Rattle.machine.specs.Kept.{share_or, share_in, state_of, programs_in, charge_in, left_in, AreNodes, moments_in, no_sends, AreLanesOf, IsKept}
use Rattle.machine.specs.Acts.{sent_from, taken_off, entries_after, FitsAll, IsRead, IsAct}
use Rattle.machine.proofs.Faces.{local-at, share_in-set, programs_of-at, programs_in-set, charge_in-set, nodes-set, left-set}
use Rattle.machine.proofs.Laws.{lane-fits, length-sent, programs-are, traced, machine-trace}
use Rattle.machine.proofs.Programs.{trace_by, program-of}
use Rattle.machine.proofs.ServedAfter.{served-after}
use Rattle.machine.specs.Faces.{Face}
use Rattle.cpu_cache.specs.Effects.{served_of}
use Rattle.op_model.specs.Programs.{programs_of}
use Rattle.machine.proofs.Sent.{sent-in}
use Rattle.op_model.proofs.Public.{length-moments, moment_of, moments-push, run-push}

-- no count is above the number of events
pub counts-few : (sizes : Sizes) (faces : List Face) (lanes : LaneState) (events : List Event) (served : List Entry) (tally : List ℕ) (left : ℕ) (out : SendList) → IsKept sizes faces lanes events served tally left out →
    (i : ℕ) → slice_index tally i ≤ length events
counts-few sizes faces lanes events served tally left out kept i =
    let ms = moments_in sizes faces events in
    let long : length ms ≡ length events = length-moments (charge_in faces) sizes (programs_of (programs_in faces)) (start sizes) (record { state = state_of sizes faces lanes.lane; served = served }) events kept.ran in
    subst (λ ns. slice_index ns i ≤ length events) (sym kept.tally_is) (subst (λ n. slice_index (tally_of sizes ms) i ≤ n) long (tally_of-few sizes ms i))

module _ (sizes : Sizes) (faces faces' : List Face) (lanes : LaneState) (events : List Event) (served : List Entry) (tally : List ℕ) (left : ℕ) (out : SendList) (event : Event) (sends : List (ℕ × Msg)) (act : Act)
    (kept : IsKept sizes faces lanes events served tally left out) (is : IsAct (charge_in faces) sizes faces faces' lanes.lane event sends act) where
  abbrev charge : Charge
  charge = charge_in faces

  abbrev programs : Programs
  programs = programs_of (programs_in faces)

  abbrev past : Past
  past = record { state = state_of sizes faces lanes.lane; served = served }

  abbrev done : Done
  done = record { node = act.node; out = is.row.out; off = off_of event }

  abbrev next : Past
  next = past_after sizes past done

  abbrev moved : Lanes
  moved = sent_from act.node sends (taken_off event lanes.lane)

  -- the message that it took
  abbrev taken : Option Msg
  taken = taken_by past.state event

  abbrev new_face : Face
  new_face = record is.row.face { share = is.row.out.share }

  traced-does : effect charge sizes (program (trace_by sizes (programs_in faces))) past.state event ≡ Ok done
  traced-does = subst (λ ps. effect charge sizes ps past.state event ≡ Ok done) (sym (program-of sizes (programs_in faces) (programs-are sizes charge faces kept.nodes))) is.does

  ran-next : run_by charge sizes programs (start sizes) (events ++ event ∷ []) ≡ Some next
  ran-next = run-push charge sizes programs (start sizes) past events event done kept.ran is.does

  -- what the event sends are messages of the machine
  pub sends-in : All (IsSentOf sizes) sends
  sends-in =
      subst (All (IsSentOf sizes)) (sym is.row.sends_are)
      (sent-in charge (trace_by sizes (programs_in faces)) (machine-trace sizes charge faces kept.nodes) kept.sizes_are events past (traced sizes charge faces kept.nodes events past kept.ran) event done traced-does is.below)

  -- no node goes beyond the end of its program
  placed : is.row.out.share.place ≤ length is.row.face.program
  placed =
      let node_is = kept.nodes.each act.node is.row.face is.row.there in
      let own : IsOwnPart charge sizes act.node (programs act.node) (share_in sizes faces act.node) =
      subst (λ (ps : Programs). IsOwnPart charge sizes act.node (ps act.node) (share_in sizes faces act.node)) (program-of sizes (programs_in faces) (programs-are sizes charge faces kept.nodes))
      (own_run charge (trace_by sizes (programs_in faces)) events past act.node (traced sizes charge faces kept.nodes events past kept.ran)) in
      let does = local-at sizes charge faces act.node is.row.face is.row.there node_is is.input ∙ is.row.does in
      let program = programs_of-at faces act.node is.row.face is.row.there in
      let share = ap (share_or sizes act.node) is.row.there in
      let before : (share_in sizes faces act.node).place ≤ length (programs act.node) =
      (let p : length (programs act.node) ≡ length is.row.face.program = ap length program in let q : (share_in sizes faces act.node).place ≡ is.row.face.share.place = ap (λ (s : Share). s.place) share in omega (arith, p, q, node_is.placed)) in
      subst (λ ops. is.row.out.share.place ≤ length ops) program (act-placed charge sizes act.node (programs act.node) (share_in sizes faces act.node) is.input is.row.out own before does)

  -- what the event sends fits its lanes
  pub sends-fit : FitsAll (record lanes { lane = taken_off event lanes.lane }) act.node sends
  sends-fit dst class =
      let bound = lane-fits sizes charge faces lanes kept.sizes_are kept.nodes kept.lanes_are (events ++ event ∷ []) next ran-next act.node dst class in
      let front = taken_off event lanes.lane act.node dst class in
      let long : length (next.state.lane act.node dst class) ≡ length front + length (to_lane dst class sends) =
      length-sent front act.node dst class is.row.out.sends ∙ ap (λ xs. length front + length (to_lane dst class xs)) (sym is.row.sends_are) in
      omega (arith, bound, long)

  same-programs : programs_in faces' ≡ programs_in faces
  same-programs = ap programs_in is.row.after ∙ programs_in-set faces act.node is.row.face new_face is.row.there refl

  same-charge : charge_in faces' ≡ charge
  same-charge = ap charge_in is.row.after ∙ charge_in-set faces act.node is.row.face new_face is.row.there refl

  pub programs-kept : programs_in faces' ≡ programs_in faces
  programs-kept = same-programs

  pub charge-kept : charge_in faces' ≡ charge_in faces
  charge-kept = same-charge

  share-after : (q : ℕ) → share_in sizes faces' q ≡ cond (q == act.node) is.row.out.share (share_in sizes faces q)
  share-after q = ap (λ fs. share_in sizes fs q) is.row.after ∙ share_in-set sizes faces act.node is.row.face new_face is.row.there q

  state-after : after past.state done ≡ state_of sizes faces' moved
  state-after = λ i. record { share = λ q. sym (share-after q) i; lane = λ a b class. drop (off_of event a b class) (lanes.lane a b class) ++ cond (a == act.node) (to_lane b class (sym is.row.sends_are i)) [] }

  place-before : past.state.share act.node ≡ is.row.face.share
  place-before = ap (share_or sizes act.node) is.row.there

  -- what was served, read after the event
  entry-after : option_to_list act.entry ≡ entries_of sizes past.state act.node is.row.out.line is.row.out.served
  entry-after =
      is.noted.entry_is ∙ ap (entries_after sizes (share_in sizes faces') taken) (is.row.served ∙ ap (λ (s : Share). served_of act.node s.place is.row.out.served) (sym place-before))
      ∙ served-after sizes (share_in sizes faces) (share_in sizes faces') act.node is.row.out taken share-after lanes.lane (λ reader on at. subst (λ s. IsRead s is.row.out taken) (sym place-before) (is.reads reader on at))

  finished : act.done ≡ is.row.out.done
  finished = is.noted.done_is ∙ is.row.is_done

  -- by which counts the event is counted
  abbrev made_marks : List Bool
  made_marks = marks_of event act.takes act.done (naks_in sends) act.marked

  told : TellsMarks sizes (moment_of past.state event done) act.takes act.done sends act.marked
  told = record { takes_is = is.takes_is; done_is = finished; sends_are = is.row.sends_are; marked_is = is.marked_is }

  tally-after : tally_of sizes (moments_in sizes faces' (events ++ event ∷ [])) ≡ marked_up tally made_marks
  tally-after =
      (λ i. tally_of sizes (moments (same-charge i) sizes (programs_of (same-programs i)) (start sizes).state (events ++ event ∷ [])))
      ∙ ap (tally_of sizes) (moments-push charge sizes programs (start sizes) past events event done kept.ran is.does)
      ∙ tally_of-push sizes (moment_of past.state event done) act.takes act.done sends act.marked told (moments_in sizes faces events)
      ∙ ap (λ ns. marked_up ns made_marks) (sym kept.tally_is)

  left-after : left_in faces' + cond act.done 1 0 ≡ left
  left-after =
      ap (λ fs. left_in fs + cond act.done 1 0) is.row.after ∙ ap (λ d. left_in (set faces act.node new_face) + cond d 1 0) finished
      ∙ left-set faces act.node is.row.face is.row.out.share is.row.out.done is.row.there placed is.place ∙ sym kept.left_is

  -- an operation that is done was left
  pub some-left : act.done ≡ true → 0 < left
  some-left finishes = let all = left-after in let one : ◌≡◌ {A = ℕ} (cond act.done 1 0) 1 = ap (λ b. cond b 1 0) finishes in omega (arith, all, one)

  pub kept-after : (lanes' : LaneState) (events' : List Event) (served' : List Entry) (tally' : List ℕ) (left' : ℕ) (out' : SendList) → lanes' ≡ record lanes { lane = moved } → events' ≡ events ++ event ∷ [] →
      served' ≡ served ++ option_to_list act.entry → tally' ≡ marked_up tally made_marks → left' ≡ left - cond act.done 1 0 → out' ≡ no_sends sizes →
      IsKept sizes faces' lanes' events' served' tally' left' out'
  kept-after lanes' events' served' tally' left' out' lanes_is events_is served_is tally_is left_is out_is = record {
    sizes_are = kept.sizes_are;
    nodes = subst (λ ch. AreNodes sizes ch faces') (sym same-charge) (subst (AreNodes sizes charge) (sym is.row.after) (nodes-set sizes charge faces act.node is.row.face is.row.out.share kept.nodes is.row.there placed));
    lanes_are = subst (AreLanesOf sizes) (sym lanes_is) (record { same_sizes = kept.lanes_are.same_sizes; requests = kept.lanes_are.requests; replies = kept.lanes_are.replies });
    ran =
        (λ i. run_by (same-charge i) sizes (programs_of (same-programs i)) (start sizes) (events_is i)) ∙ ran-next
        ∙ (λ i. Some (record { state = state-after i; served = served ++ sym entry-after i }))
        ∙ (λ i. Some (record { state = state_of sizes faces' ((sym lanes_is i).lane); served = sym served_is i }));
    tally_is = tally_is ∙ sym tally-after ∙ ap (λ es. tally_of sizes (moments_in sizes faces' es)) (sym events_is);
    left_is = let all = left-after in omega (arith, all, left_is);
    nothing_sent = out_is;
  }
