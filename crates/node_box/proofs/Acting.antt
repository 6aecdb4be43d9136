-- A box after an event of its node.
use Rattle.std.proofs.Common.{⊎_elim, ◌≡◌, ℕ, zero, suc, ◌+◌, ◌<◌, ◌≤◌, Bool, false, List, [], ◌∷◌, ◌++◌, length, refl, sym, ap, ◌∙◌, subst, arith, Some, Result, Ok, Err}
use Rattle.std.specs.Prelude.{slice_get, slice_index_or, IfSome, IsOk}
use Rattle.std.proofs.lemmas.List.{length-append}
use Rattle.std.proofs.lemmas.List.Elements.{All-push}
use Rattle.line_map.specs.Sizes.{Sizes}
use Rattle.op_model.specs.declared.events.Class.{Class}
use Rattle.op_model.specs.declared.events.Class.TheVariants.{Request}
use Rattle.op_model.specs.declared.events.Event.{Event}
use Rattle.op_model.specs.declared.events.Numbered.{Numbered}
use Rattle.op_model.specs.declared.events.Cause.{Cause}
use Rattle.op_model.specs.declared.messages.Msg.{Msg}
use Rattle.op_model.specs.Messages.{msg_class}
use Rattle.op_model.specs.Operations.{Words}
use Rattle.op_model.specs.Programs.{IsProgramOf}
use Rattle.op_model.specs.Shares.{Linked, Share}
use Rattle.op_model.specs.Events.Node.{NodeOutcome, EvictLine}
use Rattle.op_model.specs.Events.Step.{to_lane, event_node}
use Rattle.op_model.specs.Run.Bounds.{lane_bound}
use Rattle.op_model.specs.Parts.Part.{Part, ByLane, at_lane, logged, sent_to, flushed_to, taken_from, cleared_from, last_departs, departs_at, own_room}
use Rattle.op_model.specs.Parts.OwnStep.{after_outcome, own_step}
use Rattle.one_history.proofs.Public.{to_lane-append}
use Rattle.node_parts.proofs.Public.{own_evict, own_hit, own_issue, own_reclaim}
use Rattle.sharer_dir.specs.Linked.{LinkedView}
use Rattle.cpu_cache.specs.declared.effects.Effect.{Effect}
use Rattle.msg_words.specs.SendList.{SendList}
use Rattle.node_share.specs.Effects.{Acts}
use Rattle.magic_node.specs.Nodes.{input_of, FitsEvent}
use Rattle.magic_node.specs.declared.acts.LocalEvent.{LocalEvent}
use Rattle.magic_node.specs.declared.acts.LocalEvent.TheVariants as own
use Rattle.lane_table.specs.Told.{unflushed, IsOutgoing}
use Rattle.lane_table.specs.Views.{TableView, IsSeatOf}
use Rattle.lane_table.proofs.Public.{drew, has_place, sent_more}
use Rattle.node_box.specs.Boxes.{LinkedNode, BoxView, node_of, outcome_at, IsOwnLog, IsBox}
use Rattle.node_box.specs.Outgoing.{HasRoomFor, IsPut}
use Rattle.node_box.specs.Events.{event_of, IsGate}
use Rattle.node_box.proofs.Issuing.{own_line}

pub made_ok : (r : Result NodeOutcome Cause) → IsOk r → (out : NodeOutcome) × (r ≡ Ok out)
made_ok (Ok out) is = (out, refl)
made_ok (Err cause) is = absurd (cc)

-- the part's own step goes on where the node does
goes_at : (p : Part) (dir : LinkedView) (event : LocalEvent) (room : Bool) (out : NodeOutcome) → FitsEvent p.sizes p.number event → IsGate p event room → outcome_at (node_of p dir) (input_of event room) ≡ Ok out
    → own_step Linked p (event_of p.number event) ≡ Some (after_outcome p p.taken out)
goes_at p dir own.Hit room out fits gate does = own_hit Linked p out does
goes_at p dir own.Issue room out fits gate does = own_issue Linked p out does
goes_at p dir (own.Evict g kind) room out fits gate does =
    own_evict Linked p g kind out
    (⊎_elim (λ home. own_line (node_of p dir) g kind (own_room p g) room home) (λ same. ap (λ r. outcome_at (node_of p dir) (EvictLine g kind r)) (sym same)) gate ∙ does)
goes_at p dir (own.Reclaim g) room out fits gate does = own_reclaim Linked p g out fits does

module _ (p : Part) (node : LinkedNode) (dir : LinkedView) (is : node ≡ node_of p dir) (number : ℕ) (me : number ≡ node.number) where
  pub own_number : number ≡ p.number
  own_number = me ∙ ap (λ (n : LinkedNode). n.number) is

  pub goes_own : (made : Event) (event : LocalEvent) (room : Bool) (out : NodeOutcome) → made ≡ event_of number event
      → FitsEvent node.sizes node.number event → IsGate p event room → outcome_at node (input_of event room) ≡ Ok out → own_step Linked p made ≡ Some (after_outcome p p.taken out)
  goes_own made event room out named fits gate does =
      ap (own_step Linked p) (named ∙ ap (λ n. event_of n event) own_number)
      ∙ goes_at p dir event room out (subst (λ (n : LinkedNode). FitsEvent n.sizes n.number event) is fits) gate (ap (λ n. outcome_at n (input_of event room)) (sym is) ∙ does)

-- which part the ticket of an own event leaves
pub after_own : (p q : Part) (node : LinkedNode) (dir : LinkedView) (number ticket : ℕ) (made : Event) (event : LocalEvent) (room : Bool) (out : NodeOutcome) → node ≡ node_of p dir → number ≡ node.number → made ≡ event_of number event
    → FitsEvent node.sizes node.number event → IsGate p event room → outcome_at node (input_of event room) ≡ Ok out
    → IfSome (own_step Linked p made) (λ after. q ≡ logged after (record { ticket = ticket; event = made })) → q ≡ logged (after_outcome p p.taken out) (record { ticket = ticket; event = event_of p.number event })
after_own p q node dir number ticket made event room out is me named fits gate does told =
    let same : made ≡ event_of p.number event = named ∙ ap (λ n. event_of n event) (own_number p node dir is number me) in
    drew (own_step Linked p made) (after_outcome p p.taken out) q (record { ticket = ticket; event = made }) (goes_own p node dir is number me made event room out named fits gate does) told
    ∙ ap (λ e. logged (after_outcome p p.taken out) (record { ticket = ticket; event = e })) same

-- an event of a node's own is one of that node
pub own_event : (sizes : Sizes) (number : ℕ) (event : LocalEvent) → FitsEvent sizes number event → event_node sizes (event_of number event) ≡ number
own_event sizes number own.Hit fits = refl
own_event sizes number own.Issue fits = refl
own_event sizes number (own.Evict g kind) fits = refl
own_event sizes number (own.Reclaim g) fits = fits

-- what an event leaves of a part: a new share, messages behind those sent, and one more entry in the log
pub record IsAfter (p q : Part) (out : NodeOutcome) (entry : Numbered) : Type 0 where
  pub number : q.number ≡ p.number
  pub machine : q.sizes ≡ p.sizes
  pub program : q.program ≡ p.program
  pub share : q.share ≡ out.share
  pub sent : q.sent ≡ p.sent ++ out.sends
  pub flushed : q.flushed ≡ p.flushed
  pub log : q.log ≡ p.log ++ entry ∷ []

after_here : (p : Part) (taken : ByLane ℕ) (out : NodeOutcome) (entry : Numbered) → IsAfter p (logged (after_outcome p taken out) entry) out entry
after_here p taken out entry = record { number = refl; machine = refl; program = refl; share = refl; sent = refl; flushed = refl; log = refl }

pub is_after : (p q : Part) (taken : ByLane ℕ) (out : NodeOutcome) (entry : Numbered) → q ≡ logged (after_outcome p taken out) entry → IsAfter p q out entry
is_after p q taken out entry is = let P : Part → Type 0 = λ x. IsAfter p x out entry in subst P (sym is) (after_here p taken out entry)

got_append : (n : ℕ) (xs ys : List Msg) → suc n ≤ length xs → slice_get (xs ++ ys) n ≡ slice_get xs n
got_append n [] ys le = absurd (omega arith)
got_append zero (x ∷ xs) ys le = refl
got_append (suc n) (x ∷ xs) ys le = got_append n xs ys (omega arith)

last_append : (n : ℕ) (xs ys : List Msg) → n ≤ length xs → last_departs n (xs ++ ys) ≡ last_departs n xs
last_append zero xs ys le = refl
last_append (suc n) xs ys le = ap departs_at (got_append n xs ys le)

module _ (p q : Part) (out : NodeOutcome) (entry : Numbered) (h : IsAfter p q out entry) where
  flushed_same : (b : ℕ) (c : Class) → flushed_to q b c ≡ flushed_to p b c
  flushed_same b c = ap (λ f. at_lane 0 f b c) h.flushed

  sent_all : (b : ℕ) (c : Class) → sent_to q b c ≡ sent_to p b c ++ to_lane b c out.sends
  sent_all b c = ap (to_lane b c) h.sent ∙ to_lane-append b c p.sent out.sends

  still_within : (b : ℕ) (c : Class) → flushed_to p b c ≤ length (sent_to p b c) → flushed_to q b c ≤ length (sent_to q b c)
  still_within b c within =
      let l : length (sent_to q b c) ≡ length (sent_to p b c) + length (to_lane b c out.sends) = ap length (sent_all b c) ∙ length-append (sent_to p b c) (to_lane b c out.sends) in
      let f = flushed_same b c in
      omega (arith, l, f, within)

  last_same : (b : ℕ) → flushed_to p b Request ≤ length (sent_to p b Request) → last_departs (flushed_to q b Request) (sent_to q b Request) ≡ last_departs (flushed_to p b Request) (sent_to p b Request)
  last_same b within =
      (λ i. last_departs (flushed_same b Request i) (sent_all b Request i)) ∙ last_append (flushed_to p b Request) (sent_to p b Request) (to_lane b Request out.sends) within

-- the box after the event
pub acted_box : (table : TableView) (old new : BoxView) (out : NodeOutcome) (entry : Numbered) → IsBox table old → IsAfter old.seat.part new.seat.part out entry → IsSeatOf table new.seat
    → ((a : ℕ) (c : Class) → taken_from new.seat.part a c ≡ cleared_from new.seat.part a c)
    → new.node ≡ record old.node { share = out.share; dir = new.node.dir } → IsPut old.out new.out out.sends → new.log.entries ≡ old.log.entries ++ entry ∷ []
    → new.departed ≡ old.departed → new.sends ≡ record old.sends { list = [] } → event_node old.seat.part.sizes entry.event ≡ old.seat.part.number → IsBox table new
acted_box table old new out entry kept h seat ready node put log departed sends mine =
    let p : Part = old.seat.part in
    let q : Part = new.seat.part in
    record {
      seat = seat;
      program = subst (λ z. IsProgramOf z q.number q.program) (sym h.machine)
          (subst (λ n. IsProgramOf p.sizes n q.program) (sym h.number) (subst (λ l. IsProgramOf p.sizes p.number l) (sym h.program) kept.program));
      node = node ∙ (ap {A = LinkedNode} {B = LinkedNode} (λ n. record n { share = out.share; dir = new.node.dir }) kept.node
          ∙ (λ i. record { sizes = sym h.machine i; number = sym h.number i; program = sym h.program i; charge = Linked; share = sym h.share i; dir = new.node.dir }));
      log = log ∙ (ap (λ l. l ++ entry ∷ []) kept.log ∙ sym h.log);
      sends = sends ∙ (ap {A = SendList} {B = SendList} (λ s. record s { list = [] }) kept.sends ∙ (λ i. record { list = []; room = (sym h.machine i).nodes + 1 }));
      machine = put.machine ∙ (kept.machine ∙ sym h.machine);
      out = λ b c. put.lanes b c ∙ (ap (λ l. l ++ to_lane b c out.sends) (kept.out b c) ∙ sym (sent_more p q out.sends h.flushed h.sent b c (kept.within b c)));
      within = λ b c. still_within p q out entry h b c (kept.within b c);
      last = λ b below. ap (λ l. slice_index_or l b false) departed
          ∙ (kept.last b (subst (λ (z : Sizes). b < z.nodes) h.machine below) ∙ sym (last_same p q out entry h b (kept.within b Request)));
      places = ap length departed ∙ (kept.places ∙ ap (λ (z : Sizes). z.nodes) (sym h.machine));
      ready = ready;
      own = subst (λ z. IsOwnLog z q.number new.log.entries) (sym h.machine) (subst (λ n. IsOwnLog p.sizes n new.log.entries) (sym h.number)
          (subst (IsOwnLog p.sizes p.number) (sym log) (All-push (λ (e : Numbered). event_node p.sizes e.event ≡ p.number) old.log.entries entry kept.own mine)));
    }

-- what is sent fits into the outbox, since all that isn't flushed is within its bounds
pub room_for : (table : TableView) (old : BoxView) (q : Part) (out : NodeOutcome) (entry : Numbered) → IsBox table old → IsAfter old.seat.part q out entry → IsOutgoing table.setup.sizes q → HasRoomFor old.out out.sends
room_for table old q out entry kept h outgoing before rest dst m cut =
    let p : Part = old.seat.part in
    let c : Class = msg_class m in
    let machine : old.out.sizes ≡ table.setup.sizes = kept.machine ∙ kept.seat.part.machine in
    let place = has_place table.setup.sizes p q before rest dst m h.flushed (h.sent ∙ ap (λ l. p.sent ++ l) cut) (kept.within dst c) outgoing in
    record {
      to = subst (λ (z : Sizes). dst < z.nodes) (sym machine) place.to;
      room = subst (λ l. length (l ++ to_lane dst c before) < lane_bound old.out.sizes c) (sym (kept.out dst c))
          (subst (λ z. length (unflushed p dst c ++ to_lane dst c before) < lane_bound z c) (sym machine) place.room);
    }

pub ready_own : (p q : Part) (out : NodeOutcome) (entry : Numbered) → q ≡ logged (after_outcome p p.taken out) entry → ((a : ℕ) (c : Class) → taken_from p a c ≡ cleared_from p a c) → (a : ℕ) (c : Class) → taken_from q a c ≡ cleared_from q a c
ready_own p q out entry is ready = let P : Part → Type 0 = λ x. (a : ℕ) (c : Class) → taken_from x a c ≡ cleared_from x a c in subst P (sym is) ready

-- what a node's call tells where it has done an act
module _ (node : LinkedNode) (brought : Words) (act : Result NodeOutcome Cause) (before after : SendList) (effect : Effect) where
  pub node_after : (new : LinkedNode) (acts : Acts node.number node.program node.share.place brought act new.share before after effect) → new ≡ record node { share = new.share; dir = new.dir }
      → new ≡ record node { share = acts.outcome.share; dir = new.dir }
  node_after new acts kept = kept ∙ ap {A = Share} {B = LinkedNode} (λ s. record node { share = s; dir = new.dir }) acts.share

  pub sends_are : (new : Share) (acts : Acts node.number node.program node.share.place brought act new before after effect) → before.list ≡ [] → after.list ≡ acts.outcome.sends
  sends_are new acts empty = ap (λ s. s.list) acts.sends ∙ ap (λ l. l ++ acts.outcome.sends) empty

  pub sends_empty : (new : Share) (acts : Acts node.number node.program node.share.place brought act new before after effect) (cleared : SendList) → cleared ≡ record after { list = [] } → cleared ≡ record before { list = [] }
  sends_empty new acts cleared clear = clear ∙ ap {A = SendList} {B = SendList} (λ s. record s { list = [] }) acts.sends
