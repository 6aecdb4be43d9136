-- A message that is taken lowers the weight.
-- What its row sends is lighter than the message; and where a line is called in too, the refusal and an Inv to each listed node of that
-- line together are lighter than the Get.
use Rattle.std.proofs.Common.{◌≡◌, ℕ, ◌*◌, ◌<◌, true, false, ◌==◌, not, List, ◌∷◌, arith, sym, subst, Option, Some, Ok}
use Rattle.std.proofs.lemmas.Bool.Decides.{nat_tests}
use Rattle.line_map.specs.Sizes.{Sizes, home_of}
use Rattle.op_model.specs.declared.events.Class.{Class}
use Rattle.op_model.specs.declared.events.Event.{Event}
use Rattle.op_model.specs.declared.events.Event.TheVariants.{Take}
use Rattle.op_model.specs.declared.messages.Msg.{Msg}
use Rattle.op_model.specs.Events.Node.{is_get}
use Rattle.op_model.specs.Events.Step.{Done, after, effect}
use Rattle.op_model.specs.Lines.{Outcome, is_empty, is_pending, to_listed}
use Rattle.op_model.specs.Messages.{Content, msg_content, msg_line}
use Rattle.op_model.specs.Nodes.{listed}
use Rattle.op_model.specs.Run.Runs.{Past, run}
use Rattle.op_model.specs.Run.Weight.{weight, weight_of}
use Rattle.op_model.specs.Shares.{Charge, State, Trace, copy_of, header_of, program, room_of, share_at}
use Rattle.op_model.specs.Tables.Home.{wants_victim}
use Rattle.op_model.specs.Tables.Processor.{call_in, holds_link}
use Rattle.op_model.proofs.Public.{three_parts}
use Rattle.one_history.specs.Project.{project}
use Rattle.one_history.specs.Sound.{IsSound}
use Rattle.one_history.proofs.Public.{refuses}
use Rattle.lane_bounds.proofs.Public.{after_act, after_row_of, asks_victim, bounded-run, each-taken, is_fit}
use Rattle.lane_bounds.proofs.Public.{row-kept, row_at, taken_of}
use Rattle.rest_laws.proofs.Lighter.{message-below, refused-below}
use Rattle.rest_laws.proofs.Sends.{sends-listed}
use Rattle.rest_laws.proofs.Weights.{weight-sent, weight-taken}

module _ (charge : Charge) (trace : Trace) (past : Past) (sound : IsSound trace past) (src dst : ℕ) (src_in : src < trace.sizes.nodes) (dst_in : dst < trace.sizes.nodes) (class : Class) (m : Msg) (rest : List Msg) (front : past.state.lane src dst class ≡ m ∷ rest) where
  abbrev sizes : Sizes
  sizes = trace.sizes

  abbrev state : State
  state = past.state

  abbrev line : ℕ
  line = msg_line m

  abbrev content : Content
  content = msg_content m

  abbrev outcome : Outcome
  outcome = row_at charge sizes state src dst line content

  -- the home of a line isn't listed
  unlisted : (g : ℕ) → listed (header_of sizes (state.share (home_of sizes g)) g).list (home_of sizes g) ≡ false
  unfolding project
  unlisted g = (sound.lines g).unlisted

  falls : weight sizes (after_row_of sizes dst line outcome (record state { lane = taken_of src dst class rest state.lane })) < weight sizes state
  falls =
      let a = weight-sent (weight_of sizes.nodes) sizes.nodes (taken_of src dst class rest state.lane) dst line outcome.sends in
      let b = weight-taken (weight_of sizes.nodes) sizes.nodes state.lane src dst class m rest front src_in dst_in in
      let c = message-below sizes.nodes (room_of charge sizes (state.share dst)) (share_at sizes state dst line) dst (home_of sizes line) src dst_in src_in (λ same. subst (λ n. listed (header_of sizes (state.share (home_of sizes line)) line).list n ≡ false) (sym same) (unlisted line)) (is_empty (copy_of (state.share dst) line)) content in
      omega arith

  abbrev next : State
  next = after_row_of sizes dst line outcome (record state { lane = taken_of src dst class rest state.lane })

  falls-call : (g : ℕ) → asks_victim charge sizes state src dst line content ≡ true → is_fit charge sizes state dst g ≡ true → weight sizes (after_row_of sizes dst g (call_in (share_at sizes next dst g)) next) < weight sizes state
  falls-call g asks fit =
      let want = three_parts (is_get content) (dst == home_of sizes line) (wants_victim (room_of charge sizes (state.share dst)) src (share_at sizes state dst line).header) asks in
      let same : outcome.share ≡ share_at sizes state dst line = refuses dst (home_of sizes line) src (is_empty (copy_of (state.share dst) line)) (room_of charge sizes (state.share dst)) content (share_at sizes state dst line) want.0 want.2 in
      let fits = three_parts (home_of sizes g == dst) (holds_link (room_of charge sizes (state.share dst)) (share_at sizes state dst g).header) (not (is_pending (share_at sizes state dst g).header)) fit in
      let here : home_of sizes g ≡ dst = let e = fits.0 in grind (arith, nat_tests) in
      let kept : (share_at sizes next dst g).header ≡ (share_at sizes state dst g).header = row-kept sizes state (taken_of src dst class rest state.lane) dst line g outcome fits.0 same want.1 in
      let off : listed (share_at sizes next dst g).header.list dst ≡ false = subst (λ h. listed h.list dst ≡ false) (sym kept) (subst (λ n. listed (header_of sizes (state.share (home_of sizes g)) g).list n ≡ false) here (unlisted g)) in
      let a = weight-sent (weight_of sizes.nodes) sizes.nodes (taken_of src dst class rest state.lane) dst line outcome.sends in
      let b = weight-taken (weight_of sizes.nodes) sizes.nodes state.lane src dst class m rest front src_in dst_in in
      let c = refused-below sizes.nodes (room_of charge sizes (state.share dst)) (share_at sizes state dst line) dst (home_of sizes line) src (is_empty (copy_of (state.share dst) line)) content want.0 want.2 in
      let d = weight-sent (weight_of sizes.nodes) sizes.nodes next.lane dst g (to_listed (share_at sizes next dst g).header.list) in
      let e = sends-listed (weight_of sizes.nodes) sizes.nodes (share_at sizes next dst g).header.list dst dst_in off in
      let f : weight_of sizes.nodes content ≡ 3 * sizes.nodes = get-weight content want.0 in
      omega arith
    where
      get-weight : (content : Content) → is_get content ≡ true → weight_of sizes.nodes content ≡ 3 * sizes.nodes
      get-weight content e = grind arith

-- a message between nodes of the machine that is taken lowers the weight
pub falling : (charge : Charge) (trace : Trace) → 0 < trace.sizes.words → (past : Past) → IsSound trace past → (src dst : ℕ) (class : Class) (victim : Option ℕ) (done : Done) → src < trace.sizes.nodes → dst < trace.sizes.nodes →
    effect charge trace.sizes (program trace) past.state (Take src dst class victim) ≡ Ok done → weight trace.sizes (after past.state done) < weight trace.sizes past.state
unfolding after_act
falling charge trace positive past sound src dst class victim done src_in dst_in is =
    let met = each-taken charge trace positive past sound (λ d. weight trace.sizes (after_act trace.sizes d past.state) < weight trace.sizes past.state) src dst class
    (record {
      takes = λ m rest front asks. falls charge trace past sound src dst src_in dst_in class m rest front;
      calls = λ m rest g front asks fit. falls-call charge trace past sound src dst src_in dst_in class m rest front g asks fit;
    }) victim done is in subst (λ s. weight trace.sizes s < weight trace.sizes past.state) (sym met.2.same) met.1

pub falling_weight : (charge : Charge) (trace : Trace) (events : List Event) (past : Past) (src dst : ℕ) (class : Class) (victim : Option ℕ) (done : Done) → 0 < trace.sizes.words → run charge trace events ≡ Some past →
    src < trace.sizes.nodes → dst < trace.sizes.nodes → effect charge trace.sizes (program trace) past.state (Take src dst class victim) ≡ Ok done → weight trace.sizes (after past.state done) < weight trace.sizes past.state
falling_weight charge trace events past src dst class victim done positive runs src_in dst_in is =
    falling charge trace positive past (bounded-run charge trace events past positive runs).0 src dst class victim done src_in dst_in is
