-- After a refusal for want of a link a pending line of the home holds a link: the line that was called in, or else the entry of the home's
-- map for which the row refused, which is a line of this home and keeps its header.
use Rattle.std.proofs.Common.{◌≡◌, ◌≢◌, ℕ, ◌<◌, Bool, true, false, nat_lt, ◌==◌, ◌&&◌, not, ◌⊎◌, inl, inr, List, refl, arith, ap, sym, ◌∙◌, subst, Option, Some, None, Ok, unwrap_or}
use Rattle.std.proofs.lemmas.Bool.Decides.{nat_tests}
use Rattle.std.specs.List.{list_any}
use Rattle.std.specs.FinMap as fin
use Rattle.line_map.specs.Sizes.{Sizes, home_of}
use Rattle.op_model.specs.Events.Node.{is_get}
use Rattle.op_model.specs.Events.Step.{Done, after, effect}
use Rattle.op_model.specs.Lines.{Header, Outcome, Room, is_empty, is_pending}
use Rattle.op_model.specs.Messages.{Content, msg_content, msg_line}
use Rattle.op_model.specs.Nodes.{count}
use Rattle.op_model.specs.Run.Counts.{is_nak}
use Rattle.op_model.specs.Run.Runs.{Past, run}
use Rattle.op_model.specs.Shares.{Charge, State, Trace, first_header, header_of, program, room_of, share_at, header_in}
use Rattle.op_model.specs.Tables.Home.{wants_victim}
use Rattle.op_model.specs.Tables.Processor.{call_in, holds_link}
use Rattle.op_model.specs.declared.events.Class.{Class}
use Rattle.op_model.specs.declared.events.Event.TheVariants.{Take}
use Rattle.op_model.specs.declared.events.Event.{Event}
use Rattle.op_model.specs.declared.messages.Msg.{Msg}
use Rattle.op_model.proofs.Public.{above_one, and_above_one, eqb-self, three_parts}
use Rattle.line_invariant.specs.Types.{NoLink}
use Rattle.one_history.proofs.Public.{header-same, refuses}
use Rattle.lane_bounds.proofs.Public.{IsBounded, after_act, after_row_of, asks_victim, bounded-run}
use Rattle.lane_bounds.proofs.Public.{each-taken, is_fit, row-kept, row_at, taken_of}
use Rattle.link_refusals.specs.Refusals.{IsLinkPending, refuses_link}
use Rattle.link_refusals.proofs.Entries.{Found, found}
use Rattle.link_refusals.proofs.Reasons.{IsReason, any-tagged, refuses_row, why-refused}

many-listed : (room : Room) (header : Header) → holds_link room header ≡ true → 1 < count header.list
many-listed room header e = above_one room.linked (count header.list) e

-- the header of a line after a row at its home
pub header-at : (sizes : Sizes) (state : State) (home line : ℕ) (outcome : Outcome) → home ≡ home_of sizes line → header_of sizes ((after_row_of sizes home line outcome state).share home) line ≡ outcome.share.header
header-at sizes state home line outcome here = rw (eqb-self home) (header-same sizes (home == home_of sizes line) line outcome.done outcome.share (state.share home) (grind (arith, nat_tests)))

module _ (charge : Charge) (sizes : Sizes) (state : State) (bounded : IsBounded charge sizes state) (src dst : ℕ) (class : Class) (line : ℕ) (content : Content) (rest : List Msg) where
  abbrev outcome : Outcome
  outcome = row_at charge sizes state src dst line content

  abbrev next : State
  next = after_row_of sizes dst line outcome (record state { lane = taken_of src dst class rest state.lane })

  -- a header of the home after a row that keeps its share
  kept : (g : ℕ) → home_of sizes g ≡ dst → outcome.share ≡ share_at sizes state dst line → (dst == home_of sizes line) ≡ true → header_of sizes (next.share dst) g ≡ header_of sizes (state.share dst) g
  kept g here same at =
      subst (λ n. header_of sizes (next.share n) g ≡ header_of sizes (state.share n) g) here
      (row-kept sizes state (taken_of src dst class rest state.lane) dst line g outcome (let e = here in grind (arith, nat_tests)) same at)

  -- a pending line that holds a link
  pending-line : (room_of charge sizes (state.share dst)).link_pending ≡ true → IsLinkPending sizes state dst
  unfolding header_in
  pending-line is =
      let f : Found (λ h. is_pending h && nat_lt 1 (count h.list)) (fin.entries (state.share dst).headers) = found (λ h. is_pending h && nat_lt 1 (count h.list)) (fin.entries (state.share dst).headers) (fin.entries_sorted (state.share dst).headers) is in
      let at : fin.get (state.share dst).headers f.0 ≡ Some f.1 = fin.get-entries (state.share dst).headers f.0 ∙ f.2 in
      let has : header_of sizes (state.share dst) f.0 ≡ f.1 = ap (λ o. unwrap_or o (first_header sizes)) at in
      let both = and_above_one (is_pending f.1) (count f.1.list) f.3 in
      record { line = f.0; of_home = own f.0 f.1 at (home_of sizes f.0 == dst) refl; pending = ap is_pending has ∙ both.0; several = subst (λ h. 1 < count h.list) (sym has) both.1 }
    where
      own : (g : ℕ) (h : Header) → fin.get (state.share dst).headers g ≡ Some h → (c : Bool) → (home_of sizes g == dst) ≡ c → home_of sizes g ≡ dst
      own g h is true e = grind (arith, nat_tests)
      own g h is false e = absurd (let far : home_of sizes g ≢ dst = grind (arith, nat_tests) in let n : ◌≡◌ {A = Option Header} None (Some h) = sym (bounded.own dst g far) ∙ is in cc)

  pub refused-take : asks_victim charge sizes state src dst line content ≡ false → refuses_row outcome ≡ true → IsLinkPending sizes next dst
  refused-take asks is =
      let why = why-refused (room_of charge sizes (state.share dst)) (share_at sizes state dst line) dst (home_of sizes line) src (is_empty (share_at sizes state dst line).copy) content is in
      either why (why.why)
    where
      either : IsReason dst (home_of sizes line) src (room_of charge sizes (state.share dst)) content (share_at sizes state dst line) outcome →
          ((room_of charge sizes (state.share dst)).link_pending ≡ true) ⊎ (wants_victim (room_of charge sizes (state.share dst)) src (share_at sizes state dst line).header ≡ true) → IsLinkPending sizes next dst
      either why (inl pending) =
          let l = pending-line pending in
          let k = kept l.line l.of_home why.same why.at_home in
          record { line = l.line; of_home = l.of_home; pending = ap is_pending k ∙ l.pending; several = subst (λ h. 1 < count h.list) (sym k) l.several }
      either why (inr wants) =
          let get = why.get in
          let here = why.at_home in
          let asked : asks_victim charge sizes state src dst line content ≡ true = grind arith in
          absurd (let n : true ≡ false = sym asked ∙ asks in cc)

  pub refused-call : (g : ℕ) → asks_victim charge sizes state src dst line content ≡ true → is_fit charge sizes state dst g ≡ true → IsLinkPending sizes (after_row_of sizes dst g (call_in (share_at sizes next dst g)) next) dst
  refused-call g asks fit =
      let want = three_parts (is_get content) (dst == home_of sizes line) (wants_victim (room_of charge sizes (state.share dst)) src (share_at sizes state dst line).header) asks in
      let same : outcome.share ≡ share_at sizes state dst line = refuses dst (home_of sizes line) src (is_empty (share_at sizes state dst line).copy) (room_of charge sizes (state.share dst)) content (share_at sizes state dst line) want.0 want.2 in
      let fits = three_parts (home_of sizes g == dst) (holds_link (room_of charge sizes (state.share dst)) (share_at sizes state dst g).header) (not (is_pending (share_at sizes state dst g).header)) fit in
      let here : home_of sizes g ≡ dst = let e = fits.0 in grind (arith, nat_tests) in
      let many : 1 < count (share_at sizes state dst g).header.list = many-listed (room_of charge sizes (state.share dst)) (share_at sizes state dst g).header fits.1 in
      let k : (share_at sizes next dst g).header ≡ (share_at sizes state dst g).header = subst (λ n. header_of sizes (next.share n) g ≡ header_of sizes (state.share n) g) (sym here) (kept g here same want.1) in
      let at = header-at sizes next dst g (call_in (share_at sizes next dst g)) (sym here) in
      record { line = g; of_home = here; pending = ap is_pending at; several = subst (λ h. 1 < count h.list) (sym at) (subst (λ h. 1 < count h.list) (sym k) many) }

pub refused_link : (charge : Charge) (trace : Trace) (events : List Event) (past : Past) (src dst : ℕ) (class : Class) (victim : Option ℕ) (done : Done) → 0 < trace.sizes.words → run charge trace events ≡ Some past →
    effect charge trace.sizes (program trace) past.state (Take src dst class victim) ≡ Ok done → refuses_link done.out ≡ true → IsLinkPending trace.sizes (after past.state done) done.node
unfolding after_act
refused_link charge trace events past src dst class victim done positive runs is refused =
    let both = bounded-run charge trace events past positive runs in
    let bounded = both.1 in
    let met = each-taken charge trace positive past both.0 (λ d. refuses_row d.outcome ≡ true → IsLinkPending trace.sizes (after_act trace.sizes d past.state) d.node) src dst class
    (record {
      takes = λ m rest front asks. refused-take charge trace.sizes past.state bounded src dst class (msg_line m) (msg_content m) rest asks;
      calls = λ m rest g front asks fit r. refused-call charge trace.sizes past.state bounded src dst class (msg_line m) (msg_content m) rest g asks fit;
    }) victim done is in
    let sent = met.2.sends in
    let row : refuses_row met.0.outcome ≡ true = sym (ap (λ l. list_any (λ send. is_nak NoLink (msg_content send.1)) l) sent.1 ∙ any-tagged met.0.line met.0.outcome.sends sent.0 (sent.2 (is_nak NoLink) refl)) ∙ refused in
    subst (λ n. IsLinkPending trace.sizes (after past.state done) n) (sym met.2.node) (subst (λ s. IsLinkPending trace.sizes s met.0.node) (sym met.2.same) (met.1 row))
