-- What was set going by one operation settles: from a moment at which every message under way settles, delivery ends within what is left
-- over, with no Nak; no other operation is done on the way, and the operation is done at its end, since no lane holds anything for it.
use Rattle.std.proofs.Common.{◌≡◌, ℕ, ◌<◌, ◌≤◌, Bool, true, false, ◌==◌, ◌&&◌, List, [], ◌∷◌, refl, sym, ◌∙◌, subst, Option, Some, Ok}
use Rattle.line_map.specs.Sizes.{Sizes, home_of}
use Rattle.op_model.specs.declared.events.Class.{Class}
use Rattle.op_model.specs.declared.events.Event.{Event}
use Rattle.op_model.specs.declared.events.Event.TheVariants.{Take}
use Rattle.op_model.specs.declared.messages.Msg.{Msg}
use Rattle.op_model.specs.Events.Node.{is_get}
use Rattle.op_model.specs.Events.Step.{Done, effect, after}
use Rattle.op_model.specs.Lines.{is_empty}
use Rattle.op_model.specs.Messages.{Content, Get, GetX, FwdGet, FwdGetX, Inv, Wb, Rpl, Put, PutX, Nak, InvAck, ShWb, FAck, Nakc, msg_content, msg_line}
use Rattle.op_model.specs.Run.Runs.{Past}
use Rattle.op_model.specs.Run.Schedules.{Lane, first_busy, delivery}
use Rattle.op_model.specs.Shares.{Charge, Trace, State, copy_of, program, room_of, share_at}
use Rattle.lane_bounds.proofs.Public.{Act, after_act, after_row_of, each-taken, row_at, taken_of}
use Rattle.rest_laws.proofs.Public.{first-some}
use Rattle.schedule_laws.specs.Courses.{naks_sent}
use Rattle.schedule_laws.proofs.Settled.{AllSettle, IsSettling, message-settles, settles}
use Rattle.schedule_laws.proofs.Settling.{IsCompleting, Settles, completing-after, left_over, less-left}
use Rattle.schedule_laws.proofs.Under.{AllSent, under-front}
use Rattle.schedule_laws.proofs.Known.{Delivers, IsKnown, IsNoNak, IsSettled, IsUsual, act-silent, settle}

-- a message that settles asks for no victim
no-victim : (content : Content) (at wants : Bool) → settles content ≡ true → (is_get content && at && wants) ≡ false
no-victim Get at wants e = cc
no-victim GetX at wants e = refl
no-victim (FwdGet r) at wants e = refl
no-victim (FwdGetX r) at wants e = refl
no-victim Inv at wants e = refl
no-victim (Wb words) at wants e = refl
no-victim Rpl at wants e = refl
no-victim (Put words) at wants e = refl
no-victim (PutX words) at wants e = refl
no-victim (Nak cause) at wants e = refl
no-victim InvAck at wants e = refl
no-victim (ShWb words) at wants e = refl
no-victim FAck at wants e = refl
no-victim Nakc at wants e = refl

pub none-naks : (sends : List (ℕ × Content)) → AllSettle sends → AllSent IsNoNak sends
none-naks [] all = tt
none-naks (send ∷ sends) all = (all.1, none-naks sends all.2)

-- One Take of a message that settles. What holds of the rows of messages that settle holds of the event
module _ (charge : Charge) (trace : Trace) (usual : IsUsual trace) (past : Past) (known : IsKnown charge trace past) (src dst : ℕ) (class : Class) (victim : Option ℕ) (done : Done)
    (is : effect charge trace.sizes (program trace) past.state (Take src dst class victim) ≡ Ok done)
    (settled : (m : Msg) (rest : List Msg) → past.state.lane src dst class ≡ m ∷ rest → settles (msg_content m) ≡ true) where
  abbrev sizes : Sizes
  sizes = trace.sizes

  abbrev state : State
  state = past.state

  -- the state after the row of a message
  abbrev pub then_of : Msg → List Msg → State
  then_of m rest = after_row_of sizes dst (msg_line m) (row_at charge sizes state src dst (msg_line m) (msg_content m)) (record state { lane = taken_of src dst class rest state.lane })

  pub row-settling : (m : Msg) (rest : List Msg) → past.state.lane src dst class ≡ m ∷ rest →
      IsSettling (dst == home_of sizes (msg_line m)) (msg_content m) (share_at sizes state dst (msg_line m)) (row_at charge sizes state src dst (msg_line m) (msg_content m))
  row-settling m rest front = message-settles dst (home_of sizes (msg_line m)) src (room_of charge sizes (state.share dst)) (share_at sizes state dst (msg_line m)) (is_empty (copy_of (state.share dst) (msg_line m))) (msg_content m) (settled m rest front)

  abbrev Fine : (State → Type 0) → Act → Type 0
  Fine P act = P (after_act sizes act state) × AllSent IsNoNak act.outcome.sends

  pub taken-settles : (P : State → Type 0) → ((m : Msg) (rest : List Msg) → past.state.lane src dst class ≡ m ∷ rest → P (then_of m rest)) → P (after state done) × (naks_sent done ≡ 0)
  unfolding after_act
  taken-settles P each =
      let met = each-taken charge trace usual.words past known.sound (Fine P) src dst class
      (record {
        takes = λ m rest front asks. (each m rest front, none-naks _ (row-settling m rest front).sends);
        calls = λ m rest g front asks fit. absurd (let no = no-victim (msg_content m) (dst == home_of sizes (msg_line m)) _ (settled m rest front) in let n : true ≡ false = sym asks ∙ no in cc);
      }) victim done is in
      (subst P (sym met.2.same) met.1.0, act-silent sizes state done met.0 met.2 met.1.1)

module _ (charge : Charge) (trace : Trace) (usual : IsUsual trace) (next : State → Option Event) (delivers : Delivers charge trace usual next) (line p : ℕ) (places : ℕ → ℕ) where
  abbrev Completing : Past → Type 0
  Completing past = IsCompleting trace.sizes line p places past.state

  step : (past : Past) → IsKnown charge trace past → Completing past → (lane : Lane) → first_busy trace.sizes past.state ≡ Some lane → (done : Done) → effect charge trace.sizes (program trace) past.state (delivery charge trace.sizes past.state lane) ≡ Ok done →
      IsCompleting trace.sizes line p places (after past.state done) × (left_over trace.sizes line (after past.state done) < left_over trace.sizes line past.state) × (naks_sent done ≡ 0)
  step past known now lane first done is =
      let inside = first-some trace.sizes past.state lane first in
      let kinds = λ (m : Msg) (rest : List Msg) (front : past.state.lane lane.src lane.dst lane.class ≡ m ∷ rest). (under-front Settles lane.src lane.dst lane.class m rest past.state.lane front now.under).0 in
      let both = taken-settles charge trace usual past known lane.src lane.dst lane.class _ done is kinds
      (λ s. IsCompleting trace.sizes line p places s × (left_over trace.sizes line s < left_over trace.sizes line past.state))
      (λ m rest front.
      let row = row-settling charge trace usual past known lane.src lane.dst lane.class _ done is kinds m rest front in (
        completing-after trace.sizes past.state lane.src lane.dst lane.class m rest front _ row line p places now,
        less-left trace.sizes past.state lane.src lane.dst lane.class m rest front _ row line now.granted inside.0.0 inside.0.1,
      )) in
      (both.0.0, both.0.1, both.1)

  -- delivery ends within what is left over
  pub completes : (past : Past) → IsKnown charge trace past → Completing past → (most : ℕ) → left_over trace.sizes line past.state ≤ most → IsSettled charge trace usual next Completing past most
  completes past known now most light = settle charge trace usual next delivers Completing (left_over trace.sizes line) step most past known now light
