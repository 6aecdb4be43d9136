-- An event of the machine from what its node did.
use Rattle.std.proofs.Common.{◌≡◌, ℕ, suc, ◌<◌, Bool, true, false, cond, List, [], ◌∷◌, refl, ap, sym, subst, ◌∙◌, Option, Some, None, Result, Ok, Err}
use Rattle.line_map.specs.Sizes.{Sizes}
use Rattle.op_model.specs.declared.events.Cause.{Cause}
use Rattle.op_model.specs.declared.events.Class.{Class}
use Rattle.op_model.specs.declared.events.Event.{Event}
use Rattle.op_model.specs.declared.events.Event.TheVariants.{Take}
use Rattle.op_model.specs.declared.messages.Msg.{Msg}
use Rattle.op_model.specs.Messages.{msg_content}
use Rattle.op_model.specs.Shares.{Charge, Lanes}
use Rattle.op_model.specs.Events.Node.{Input, TakeFrom, NodeOutcome, local, permit}
use Rattle.op_model.specs.Events.Step.{Off, none_off, one_off, act, take_front, effect, is_departure, off_of}
use Rattle.op_model.specs.Run.Counts.{front_of, taken_by, takes_marked}
use Rattle.magic_node.specs.declared.acts.LocalEvent.{LocalEvent}
use Rattle.cpu_cache.specs.declared.effects.Effect.{Effect}
use Rattle.lane_queues.specs.LaneStates.{HasFront}
use Rattle.event_tally.specs.Marks.{take_marks_of, is_marked_put}
use Rattle.machine.specs.declared.acts.Act.{Act}
use Rattle.machine.specs.Kept.{programs_in, share_in, state_of, AreNodes}
use Rattle.machine.specs.Acts.{IsDoneAt, IsRefusedAt, IsNoted, IsAlone, TakesFront, IsAct, IsRefusedIn, IsRead, permit_at, IsPermitIn}
use Rattle.machine.proofs.Faces.{local-at}
use Rattle.machine.specs.Faces.{Face}
use Rattle.magic_node.specs.Nodes.{input_of}
use Rattle.op_model.specs.Programs.{programs_of}
use Rattle.machine.proofs.Services.{is_for, not-for, alone-for, take-line, place-after, take-quiet}

module _ (charge : Charge) (sizes : Sizes) (faces faces' : List Face) (lane : Lanes) (nodes : AreNodes sizes charge faces) where
  -- what a node does with an input in the state
  abbrev pub in_state : ℕ → Input → Result NodeOutcome Cause
  in_state node input = local charge sizes node (programs_of (programs_in faces) node) (share_in sizes faces node) input

  -- an event that is a node's own
  pub own-act : (event : Event) (node : ℕ) (own : LocalEvent) (room : Bool) (sends : List (ℕ × Msg)) (made : Act) →
      effect charge sizes (programs_of (programs_in faces)) (state_of sizes faces lane) event ≡ act node none_off (in_state node (input_of own room)) →
      off_of event ≡ none_off → taken_by (state_of sizes faces lane) event ≡ None → takes_marked sizes (state_of sizes faces lane) event None ≡ false → TakesFront lane event made.departs → node < sizes.nodes →
      IsAlone sizes faces faces' node (input_of own room) sends made → IsAct charge sizes faces faces' lane event sends made
  own-act event node own room sends made is off none unmarked front below alone =
      let row = alone.row in
      let input = input_of own room in
      let here = sym alone.node_is in
      let its : effect charge sizes (programs_of (programs_in faces)) (state_of sizes faces lane) event ≡ act made.node none_off (in_state made.node input) =
      subst (λ n. effect charge sizes (programs_of (programs_in faces)) (state_of sizes faces lane) event ≡ act n none_off (in_state n input)) here is in
      let local_is : in_state made.node input ≡ Ok row.out = local-at sizes charge faces made.node row.face row.there (nodes.each made.node row.face row.there) input ∙ row.does in
      record {
        input = input;
        effect = alone.effect;
        row = row;
        does = its ∙ ap (act made.node none_off) local_is ∙ ap (λ (o : Off). Ok (record { node = made.node; out = row.out; off = o })) (sym off);
        below = subst (λ n. n < sizes.nodes) here below;
        place = place-after row.face.charge row.face.sizes row.face.number row.face.program row.face.share input row.out row.does;
        noted = subst (λ t. IsNoted sizes faces' t alone.effect made) (sym none) alone.noted;
        takes_is = alone.takes_nothing ∙ sym (ap take_marks_of none);
        front = front;
        marked_is = alone.not_marked ∙ sym (ap (takes_marked sizes (state_of sizes faces lane) event) none ∙ unmarked);
        reads = λ reader on served. absurd (not-for row.out.served reader on (alone-for row.face.charge row.face.sizes row.face.number row.face.program row.face.share own room row.out row.does) served);
      }

  -- a cause for which the node refuses it
  pub own-refused : (event : Event) (node : ℕ) (input : Input) (cause : Cause) →
      effect charge sizes (programs_of (programs_in faces)) (state_of sizes faces lane) event ≡ act node none_off (in_state node input) →
      IsRefusedAt faces node input cause → IsRefusedIn charge sizes faces lane event cause
  own-refused event node input cause is refused =
      is ∙ ap (act node none_off) (local-at sizes charge faces node refused.face refused.there (nodes.each node refused.face refused.there) input ∙ refused.refuses)

  -- the message at the front of a lane
  module _ (src dst : ℕ) (class : Class) (victim : Option ℕ) (m : Msg) (rest : List Msg) (front : lane src dst class ≡ m ∷ rest) where
    abbrev take_event : Event
    take_event = Take src dst class victim

    takes : effect charge sizes (programs_of (programs_in faces)) (state_of sizes faces lane) take_event ≡ act dst (one_off src dst class) (in_state dst (TakeFrom src m victim))
    takes = ap (take_front charge sizes (programs_of (programs_in faces)) (state_of sizes faces lane) src dst class victim) front

    taken : taken_by (state_of sizes faces lane) take_event ≡ Some m
    taken = ap front_of front

    pub take-refused : (cause : Cause) → IsRefusedAt faces dst (TakeFrom src m victim) cause → IsRefusedIn charge sizes faces lane take_event cause
    take-refused cause refused =
        takes ∙ ap (act dst (one_off src dst class)) (local-at sizes charge faces dst refused.face refused.there (nodes.each dst refused.face refused.there) (TakeFrom src m victim) ∙ refused.refuses)

    -- where it is sent words, its reader is elsewhere, or begins nothing here
    read : {node : ℕ} {effect : Effect} {sends : List (ℕ × Msg)} (row : IsDoneAt sizes faces faces' node (TakeFrom src m victim) sends effect) → is_for row.out.served ≡ true → IsRead row.face.share row.out (taken_by (state_of sizes faces lane) take_event)
    read row for =
        let quiet = take-quiet row.face.charge row.face.sizes row.face.number row.face.program row.face.share src m victim row.out row.does in
        let place = place-after row.face.charge row.face.sizes row.face.number row.face.program row.face.share (TakeFrom src m victim) row.out row.does in
        record {
          m = m;
          taken_is = taken;
          line = take-line row.face.charge row.face.sizes row.face.number row.face.program row.face.share src m victim row.out row.does;
          place = place ∙ ap (λ d. cond d (suc row.face.share.place) row.face.share.place) (quiet.undone for);
          want = quiet.want for;
        }

    pub take-act : (sends : List (ℕ × Msg)) (made : Act) (done : Effect) → made.node ≡ dst → dst < sizes.nodes → IsDoneAt sizes faces faces' made.node (TakeFrom src m victim) sends done → IsNoted sizes faces' (Some m) done made → made.takes ≡ take_marks_of (Some m) →
        made.departs ≡ is_departure (msg_content m) → made.marked ≡ is_marked_put sizes dst (share_in sizes faces dst).want m → IsAct charge sizes faces faces' lane take_event sends made
    take-act sends made done node_is below row noted its departs mark =
        let input = TakeFrom src m victim in
        let here = sym node_is in
        let is : effect charge sizes (programs_of (programs_in faces)) (state_of sizes faces lane) take_event ≡ act made.node (one_off src dst class) (in_state made.node input) =
        subst (λ n. effect charge sizes (programs_of (programs_in faces)) (state_of sizes faces lane) take_event ≡ act n (one_off src dst class) (in_state n input)) here takes in
        let local_is : in_state made.node input ≡ Ok row.out = local-at sizes charge faces made.node row.face row.there (nodes.each made.node row.face row.there) input ∙ row.does in
        record {
          input = input;
          effect = done;
          row = row;
          does = is ∙ ap (act made.node (one_off src dst class)) local_is;
          below = subst (λ n. n < sizes.nodes) here below;
          place = place-after row.face.charge row.face.sizes row.face.number row.face.program row.face.share input row.out row.does;
          noted = subst (λ t. IsNoted sizes faces' t done made) (sym taken) noted;
          takes_is = its ∙ sym (ap take_marks_of taken);
          front = subst (λ ms. HasFront ms made.departs) (sym front) departs;
          marked_is = mark ∙ sym (ap (takes_marked sizes (state_of sizes faces lane) take_event) taken);
          reads = λ reader on served. read row (let yes_for : is_for row.out.served ≡ true = ap is_for served in yes_for);
        }

  pub no-front : (src dst : ℕ) (class : Class) (victim : Option ℕ) → lane src dst class ≡ [] → IsRefusedIn charge sizes faces lane (Take src dst class victim) Cause.LaneEmpty
  no-front src dst class victim empty = ap (take_front charge sizes (programs_of (programs_in faces)) (state_of sizes faces lane) src dst class victim) empty

  -- whether an event of one node would be made
  pub own-permit : (event : Event) (node : ℕ) (input : Input) (off : Off) → effect charge sizes (programs_of (programs_in faces)) (state_of sizes faces lane) event ≡ act node off (in_state node input) → (r : Result (Unit {0}) Cause) →
      r ≡ permit_at charge sizes faces node input → IsPermitIn charge sizes faces lane event r
  own-permit event node input off is r permits = permits ∙ sym (ap permit is ∙ acted (in_state node input))
    where
      acted : (x : Result NodeOutcome Cause) → permit (act node off x) ≡ permit x
      acted (Ok out) = refl
      acted (Err cause) = refl

  pub front-permit : (src dst : ℕ) (class : Class) (victim : Option ℕ) (m : Msg) (rest : List Msg) → lane src dst class ≡ m ∷ rest → (r : Result (Unit {0}) Cause) →
      r ≡ permit_at charge sizes faces dst (TakeFrom src m victim) → IsPermitIn charge sizes faces lane (Take src dst class victim) r
  front-permit src dst class victim m rest front r permits =
      own-permit (Take src dst class victim) dst (TakeFrom src m victim) (one_off src dst class) (ap (take_front charge sizes (programs_of (programs_in faces)) (state_of sizes faces lane) src dst class victim) front) r permits
