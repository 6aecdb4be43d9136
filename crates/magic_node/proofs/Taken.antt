-- A message's act, told by the row that it meets and by the line that is then called in.
use Rattle.std.proofs.Common.{◌≡◌, ℕ, ◌<◌, ◌≤◌, ◌+◌, length-append, subst, Bool, true, false, cond, not, ◌&&◌, ◌==◌, List, ◌++◌, append_assoc, length, Some, None, Result, Ok, Err, refl, sym, ap, ◌∙◌, arith}
use Rattle.std.specs.Prelude.{is_err, MatchResult}
use Rattle.std.proofs.lemmas.Bool.{cond-true, not-false, eqb-true}
use Rattle.std.proofs.lemmas.Bool.Decides.{nat_tests}
use Rattle.std.proofs.lemmas.Nat.{le-div}
use Rattle.line_map.specs.Sizes.{Sizes, all_lines, home_of}
use Rattle.op_model.specs.declared.messages.Msg.TheVariants as msg
use Rattle.op_model.specs.declared.events.Cause.{Cause}
use Rattle.op_model.specs.declared.events.Cause.TheVariants.{VictimMissing, VictimUnasked, VictimUnfit}
use Rattle.op_model.specs.declared.messages.Msg.{Msg}
use Rattle.op_model.specs.declared.operations.Op.{Op}
use Rattle.op_model.specs.Messages.{Content, Get, GetX, FwdGet, FwdGetX, Inv, Wb, Rpl, Put, PutX, Nak, InvAck, ShWb, FAck, Nakc, msg_line, msg_content}
use Rattle.op_model.specs.Operations.{Words}
use Rattle.op_model.specs.Lines.{Header, LineShare, Outcome, Room, is_idle, is_pending}
use Rattle.op_model.specs.Shares.{Charge, Share, first_header, header_of, is_set_empty, line_share, put_share, room_of, header_in, Headers}
use Rattle.op_model.specs.Events.Node.{NodeOutcome, TakeFrom, and_call, asks_victim, by_row, fits_victim, is_get, local, meets_row, messages, permit, taking, with_victim}
use Rattle.op_model.specs.Tables.Home.{on_get, lacks_link, wants_victim}
use Rattle.op_model.specs.Tables.Processor.{call_in, holds_link, reclaim}
use Rattle.op_model.specs.Tables.Remote.{meets, on_message, row_of}
use Rattle.line_invariant.proofs.Public.{if-either}
use Rattle.cpu_cache.specs.declared.effects.Effect.{Effect}
use Rattle.msg_words.specs.SendList.{SendList}
use Rattle.std.specs.FinMap as fin
use Rattle.node_share.specs.Parts.{row_at, sent, AreHeaders, DoesRow, HasRoom}
use Rattle.node_share.proofs.Public.{put-same}
use Rattle.reclaim.proofs.Public.{calls-in}
use Rattle.std.proofs.Common.{unwrap_or}
use Rattle.op_model.proofs.Public.{err-ok, last_of_four, last_two_parts, parts_but_last, second_of_four}
use Rattle.op_model.proofs.Public.{some_held}
use Rattle.cpu_cache.specs.Effects.{effect_of}
use Rattle.node_share.specs.Effects.{Acts}

-- a Get that asks for a victim is refused with one message, and leaves the share of its line
abbrev pub IsRefused : ℕ → LineShare → Outcome → Type 0
IsRefused line s o = (o.share ≡ s) × (length (messages line o.sends) ≡ 1)

pub refused : (node home src line : ℕ) (room : Room) (content : Content) (s : LineShare) → is_get content ≡ true → wants_victim room src s.header ≡ true → IsRefused line s (row_of node home src room content s)
unfolding row_of on_get wants_victim
refused node home src line room Get s get wants =
    if-either (IsRefused line s) (is_pending s.header) _ _ (λ _. (refl, refl)) (λ _.
    (if-either (IsRefused line s) (lacks_link room src s.header && room.link_pending) _ _ (λ _. (refl, refl)) (λ _.
    (if-either (IsRefused line s) (lacks_link room src s.header && room.full) _ _ (λ _. (refl, refl)) (λ _.
    (if-either (IsRefused line s) (lacks_link room src s.header) _ _ (λ _. (refl, refl)) (λ has. absurd (second_of_four (is_pending s.header) (lacks_link room src s.header) room.link_pending room.full wants has))))))))
refused node home src line room GetX s get wants = cc
refused node home src line room (FwdGet r) s get wants = cc
refused node home src line room (FwdGetX r) s get wants = cc
refused node home src line room Inv s get wants = cc
refused node home src line room (Wb words) s get wants = cc
refused node home src line room Rpl s get wants = cc
refused node home src line room (Put words) s get wants = cc
refused node home src line room (PutX words) s get wants = cc
refused node home src line room (Nak cause) s get wants = cc
refused node home src line room InvAck s get wants = cc
refused node home src line room (ShWb words) s get wants = cc
refused node home src line room FAck s get wants = cc
refused node home src line room Nakc s get wants = cc

module _ (charge : Charge) (sizes : Sizes) (node : ℕ) (program : List Op) (place : ℕ) (brought : Words) (share : Share) (src : ℕ) (m : Msg) where
  abbrev row : LineShare → Outcome
  row = row_of node (home_of sizes (msg_line m)) src (room_of charge sizes share) (msg_content m)

  abbrev taken : NodeOutcome
  taken = by_row sizes node share (msg_line m) (taking charge sizes node share src m)

  is-row : meets_row sizes node share src m ≡ true → taken ≡ row_at sizes node share (msg_line m) row
  unfolding on_message meets_row
  is-row met = ap (by_row sizes node share (msg_line m)) (cond-true (meets node (home_of sizes (msg_line m)) src (is_set_empty sizes share (msg_line m)) (msg_content m) (line_share sizes share (msg_line m))) _ _ met)

  pub takes : (new : Share) (out out' : SendList) (effect : Effect) → meets_row sizes node share src m ≡ true → asks_victim charge sizes node share src m ≡ false → DoesRow sizes node share new out out' (msg_line m) row →
      effect ≡ effect_of node program place brought (row_at sizes node share (msg_line m) row) → Acts node program place brought (local charge sizes node program share (TakeFrom src m None)) new out out' effect
  unfolding local
  takes new out out' effect met asks does told = record {
    outcome = taken;
    is = ap (λ b. with_victim charge sizes node share b None taken) asks;
    share = does.share ∙ ap (λ (o : NodeOutcome). o.share) (sym (is-row met));
    sends = does.sends ∙ ap (λ (o : NodeOutcome). sent out o.sends) (sym (is-row met));
    told = told ∙ ap (effect_of node program place brought) (sym (is-row met));
  }

  pub missing : asks_victim charge sizes node share src m ≡ true → local charge sizes node program share (TakeFrom src m None) ≡ Err VictimMissing
  unfolding local
  missing asks = ap (λ b. with_victim charge sizes node share b None taken) asks

  pub unasked : (g : ℕ) → asks_victim charge sizes node share src m ≡ false → local charge sizes node program share (TakeFrom src m (Some g)) ≡ Err VictimUnasked
  unfolding local
  unasked g asks = ap (λ b. with_victim charge sizes node share b (Some g) taken) asks

  pub unfit : (g : ℕ) → asks_victim charge sizes node share src m ≡ true → fits_victim charge sizes node share g ≡ false → local charge sizes node program share (TakeFrom src m (Some g)) ≡ Err VictimUnfit
  unfolding local
  unfit g asks fit = ap (λ b. with_victim charge sizes node share b (Some g) taken) asks ∙ ap (λ b. cond b (Ok (and_call sizes node g taken)) (Err VictimUnfit)) fit

  -- what is asked where a message may be taken, and that it may then
  pub allowed-none : Ok tt ≡ permit (local charge sizes node program share (TakeFrom src m None)) → asks_victim charge sizes node share src m ≡ false
  unfolding local
  allowed-none e = by (asks_victim charge sizes node share src m) e
    where
      by : (b : Bool) → Ok tt ≡ permit (with_victim charge sizes node share b None taken) → b ≡ false
      by true e = cc
      by false e = refl

  pub allowed-victim : (g : ℕ) → Ok tt ≡ permit (local charge sizes node program share (TakeFrom src m (Some g))) → (asks_victim charge sizes node share src m ≡ true) × (fits_victim charge sizes node share g ≡ true)
  unfolding local
  allowed-victim g e = by (asks_victim charge sizes node share src m) e
    where
      fitting : (f : Bool) → Ok tt ≡ permit (cond f (Ok (and_call sizes node g taken)) (Err VictimUnfit)) → f ≡ true
      fitting true e = refl
      fitting false e = cc

      by : (b : Bool) → Ok tt ≡ permit (with_victim charge sizes node share b (Some g) taken) → (b ≡ true) × (fits_victim charge sizes node share g ≡ true)
      by true e = (refl, fitting (fits_victim charge sizes node share g) e)
      by false e = cc

  pub may-none : asks_victim charge sizes node share src m ≡ false → Ok tt ≡ permit (local charge sizes node program share (TakeFrom src m None))
  unfolding local
  may-none asks = sym (ap (λ b. permit (with_victim charge sizes node share b None taken)) asks)

  pub may-victim : (g : ℕ) → asks_victim charge sizes node share src m ≡ true → fits_victim charge sizes node share g ≡ true → Ok tt ≡ permit (local charge sizes node program share (TakeFrom src m (Some g)))
  unfolding local
  may-victim g asks fit = sym (ap (λ b. permit (with_victim charge sizes node share b (Some g) taken)) asks ∙ ap (λ b. permit (cond b (Ok (and_call sizes node g taken)) (Err VictimUnfit))) fit)

  pub takes-victim : (g : ℕ) (mid new : Share) (out out' out'' : SendList) (effect : Effect) → meets_row sizes node share src m ≡ true → asks_victim charge sizes node share src m ≡ true → fits_victim charge sizes node share g ≡ true →
      DoesRow sizes node share mid out out' (msg_line m) row → effect ≡ effect_of node program place brought (row_at sizes node share (msg_line m) row) → DoesRow sizes node mid new out' out'' g call_in →
      Acts node program place brought (local charge sizes node program share (TakeFrom src m (Some g))) new out out'' effect
  unfolding local
  takes-victim g mid new out out' out'' effect met asks fit does told calls =
      let mid-is : mid ≡ taken.share = does.share ∙ ap (λ (o : NodeOutcome). o.share) (sym (is-row met)) in
      let sends-is : out' ≡ sent out taken.sends = does.sends ∙ ap (λ (o : NodeOutcome). sent out o.sends) (sym (is-row met)) in
      record {
        outcome = and_call sizes node g taken;
        is = ap (λ b. with_victim charge sizes node share b (Some g) taken) asks ∙ ap (λ b. cond b (Ok (and_call sizes node g taken)) (Err VictimUnfit)) fit;
        share = calls.share ∙ ap (λ s. (row_at sizes node s g call_in).share) mid-is;
        sends = calls.sends ∙ ap (λ s. sent out' (row_at sizes node s g call_in).sends) mid-is ∙ ap (λ o. sent o (row_at sizes node taken.share g call_in).sends) sends-is
            ∙ ap (λ l. record out { list = l }) (append_assoc out.list taken.sends (row_at sizes node taken.share g call_in).sends);
        told = told ∙ ap (effect_of node program place brought) (sym (is-row met));
      }

  pub asks-get : (line : ℕ) → m ≡ msg.Get line → meets_row sizes node share src m ≡ true → wants_victim (room_of charge sizes share) src (line_share sizes share line).header ≡ asks_victim charge sizes node share src m
  asks-get line is met =
      subst (λ q. meets_row sizes node share src q ≡ true → wants_victim (room_of charge sizes share) src (line_share sizes share line).header ≡ asks_victim charge sizes node share src q) (sym is)
      (λ on. ap (λ b. b && true && wants_victim (room_of charge sizes share) src (line_share sizes share line).header) (sym on)) met

  module _ (asks : asks_victim charge sizes node share src m ≡ true) where
    is-refused : IsRefused (msg_line m) (line_share sizes share (msg_line m)) (row (line_share sizes share (msg_line m)))
    is-refused =
        let want = last_two_parts (meets_row sizes node share src m) (is_get (msg_content m)) (wants_victim (room_of charge sizes share) src (line_share sizes share (msg_line m)).header) asks in
        refused node (home_of sizes (msg_line m)) src (msg_line m) (room_of charge sizes share) (msg_content m) (line_share sizes share (msg_line m)) want.0 want.1

    -- the refusal takes one place
    pub room-left : (mid : Share) (out out' : SendList) (count : ℕ) → DoesRow sizes node share mid out out' (msg_line m) row → HasRoom out (count + 1) → HasRoom out' count
    room-left mid out out' count does room =
        let one = is-refused.1 in
        let sends = (row_at sizes node share (msg_line m) row).sends in
        let long : length (out.list ++ sends) ≡ length out.list + length sends = length-append out.list sends in
        subst (λ o. HasRoom o count) (sym does.sends) (omega (arith, long, one))

    -- and leaves the headers
    pub headers-stay : (mid : Share) (out out' : SendList) → DoesRow sizes node share mid out out' (msg_line m) row → AreHeaders sizes node share.headers → mid.headers ≡ share.headers
    unfolding header_in put_share
    headers-stay mid out out' does has =
        ap (λ (s : Share). s.headers) does.share ∙ ap (λ (s : LineShare). cond (node == home_of sizes (msg_line m)) (fin.insert share.headers (msg_line m) s.header) share.headers) is-refused.0 ∙ kept (node == home_of sizes (msg_line m)) refl
      where
        kept : (b : Bool) → (node == home_of sizes (msg_line m)) ≡ b → cond b (fin.insert share.headers (msg_line m) (unwrap_or (fin.get share.headers (msg_line m)) (first_header sizes))) share.headers ≡ share.headers
        kept true e = put-same share.headers (msg_line m) (unwrap_or (fin.get share.headers (msg_line m)) (first_header sizes)) (some_held (fin.get share.headers (msg_line m)) (first_header sizes) (has (msg_line m) (sym (eqb-true node (home_of sizes (msg_line m)) e))))
        kept false e = refl

    -- so that the line can be called in
    pub calls-victim : (g : ℕ) (mid : Share) → fits_victim charge sizes node share g ≡ true → mid.headers ≡ share.headers → reclaim (room_of charge sizes mid) (line_share sizes mid g) ≡ Ok (call_in (line_share sizes mid g))
    unfolding header_in wants_victim
    calls-victim g mid fit stay =
        let bare : Headers → Share = λ h. record mid { headers = h } in
        let wants = last_two_parts (meets_row sizes node share src m) (is_get (msg_content m)) (wants_victim (room_of charge sizes share) src (line_share sizes share (msg_line m)).header) asks in
        let fits = parts_but_last (home_of sizes g == node) (holds_link (room_of charge sizes share) (header_of sizes share g)) (is_pending (header_of sizes share g)) fit in
        calls-in (room_of charge sizes mid) (line_share sizes mid g)
        (ap (λ h. holds_link (room_of charge sizes (bare h)) (header_of sizes (bare h) g)) stay ∙ fits.1)
        (ap (λ h. is_idle (header_of sizes (bare h) g).wait) stay ∙ not-false (is_idle (header_of sizes share g).wait) fits.2)
        (ap (λ h. (room_of charge sizes (bare h)).full) stay ∙ last_of_four (is_pending (line_share sizes share (msg_line m)).header) (lacks_link (room_of charge sizes share) src (line_share sizes share (msg_line m)).header) (room_of charge sizes share).link_pending (room_of charge sizes share).full wants.1)

-- a call that is allowed is done
pub is-done : {A : Type 0} (r : Result A Cause) (room : Room) (header : Header) (s : LineShare) → s.header ≡ header → reclaim room s ≡ Ok (call_in s) →
    MatchResult r (λ acks. (share : LineShare) → share.header ≡ header → reclaim room share ≡ Ok (call_in share)) (λ cause. (share : LineShare) → share.header ≡ header → reclaim room share ≡ Err cause) → is_err r ≡ true → ⊥
is-done (Ok a) room header s same allowed m e = cc
is-done (Err cause) room header s same allowed m e = err-ok cause (call_in s) (sym (m s same) ∙ allowed)

-- whether a line fits as a victim
pub far : (sizes : Sizes) (node line : ℕ) → 0 < sizes.lines → node < sizes.nodes → all_lines sizes ≤ line → (home_of sizes line == node) ≡ false
far sizes node line some below all = let m : sizes.nodes ≤ home_of sizes line = le-div sizes.nodes line sizes.lines some all in grind (arith, nat_tests)

pub fit-home : (a h p : Bool) → a ≡ false → false ≡ (a && h && not p)
fit-home a h p e = grind arith

pub fit-link : (a h p : Bool) → h ≡ false → false ≡ (a && h && not p)
fit-link a h p e = grind arith

pub fit-idle : (a h i : Bool) → a ≡ true → h ≡ true → i ≡ (a && h && not (not i))
fit-idle a h i e f = grind arith

-- a line that fits is of this home
pub fits-here : (charge : Charge) (sizes : Sizes) (node : ℕ) (share : Share) (g : ℕ) → fits_victim charge sizes node share g ≡ true → home_of sizes g ≡ node
fits-here charge sizes node share g fit =
    eqb-true (home_of sizes g) node (parts_but_last (home_of sizes g == node) (holds_link (room_of charge sizes share) (header_of sizes share g)) (is_pending (header_of sizes share g)) fit).0
