-- A Get that finds no link is refused by row H2, H3 or H4 and serves nothing. Where a line is called in too, the refusal is sent first.
use Rattle.std.proofs.Common.{◌≡◌, ℕ, Bool, true, false, cond, ◌&&◌, ◌||◌, not, List, [], ◌∷◌, ◌++◌, refl, arith, subst, Option, Some, None, Result, Ok, Err}
use Rattle.std.specs.List.{list_any}
use Rattle.line_map.specs.Sizes.{Sizes, home_of}
use Rattle.op_model.specs.declared.events.Cause.{Cause}
use Rattle.op_model.specs.declared.events.Cause.TheVariants.{BudgetFull, LinePending, NoLinks, VictimUnfit}
use Rattle.op_model.specs.declared.events.Event.{Event}
use Rattle.op_model.specs.declared.events.Event.TheVariants.{Evict, Hit, Issue, Reclaim, Take}
use Rattle.op_model.specs.declared.messages.Msg.{Msg}
use Rattle.op_model.specs.declared.messages.NakCause.{NakCause}
use Rattle.op_model.specs.declared.messages.NakCause.TheVariants.{Budget, NoLink, Pending}
use Rattle.op_model.specs.declared.operations.Op.{Op}
use Rattle.op_model.specs.Messages.{Content, FAck, FwdGet, FwdGetX, Get, GetX, Inv, InvAck, Nak, Nakc, Put, PutX, Rpl, ShWb, Wb, msg_content, msg_line}
use Rattle.op_model.specs.Lines.{LineShare, NoService, Outcome, is_pending, sending}
use Rattle.op_model.specs.Shares.{Linked, Share, State, is_set_empty, line_share, room_of}
use Rattle.op_model.specs.Tables.Home.{lacks_link, on_get, refuse}
use Rattle.op_model.specs.Tables.Processor.{call_in, holds_link, reclaim}
use Rattle.op_model.specs.Tables.Refusals.{wants_link}
use Rattle.op_model.specs.Tables.Remote.{meets, on_message, row_of}
use Rattle.op_model.specs.Events.Node.{NodeOutcome, ReclaimLine, TakeFrom, and_call, asks_victim, by_row, fits_victim, local, map_ok, meets_row, messages, taking, with_victim}
use Rattle.op_model.specs.Events.Step.{Done, Off, Programs, act, effect, none_off, one_off, take_front}
use Rattle.op_model.specs.Run.Counts.{front_of, is_nak, taken_by}
use Rattle.bitvec_dir.specs.Linkless.{finds_no_link, refuses_for_room, turns_on_links}

by-refusals : {A : Type 0} (Is : A → Type 0) (pending lacks held full : Bool) (h1 h2 h3 h4 rest : A) → (not pending && lacks) ≡ true → Is h2 → Is h3 → Is h4 → Is (cond pending h1 (cond (lacks && held) h2 (cond (lacks && full) h3 (cond lacks h4 rest))))
by-refusals Is true lacks held full h1 h2 h3 h4 rest e is2 is3 is4 = absurd (cc)
by-refusals Is false false held full h1 h2 h3 h4 rest e is2 is3 is4 = absurd (cc)
by-refusals Is false true true full h1 h2 h3 h4 rest e is2 is3 is4 = is2
by-refusals Is false true false true h1 h2 h3 h4 rest e is2 is3 is4 = is3
by-refusals Is false true false false h1 h2 h3 h4 rest e is2 is3 is4 = is4

unwanted : (met idle : Bool) → (met && (idle && false)) ≡ true → ⊥
unwanted met idle e = grind arith

-- a row refuses, whatever is sent after it, and serves nothing
record Refuses (line : ℕ) (o : Outcome) : Type 0 where
  pub refuses : (more : List (ℕ × Msg)) → list_any (λ (send : ℕ × Msg). is_nak NoLink (msg_content send.1) || is_nak Budget (msg_content send.1)) (messages line o.sends ++ more) ≡ true
  pub unserved : o.served ≡ NoService

-- and so does a node
abbrev Refused : NodeOutcome → Type 0
Refused out = (refuses_for_room out ≡ true) × (out.served ≡ NoService)

any-before : (p : ℕ × Msg → Bool) (sends : List (ℕ × Msg)) → list_any p (sends ++ []) ≡ true → list_any p sends ≡ true
any-before p [] is = is
any-before p (send ∷ sends) is = go (p send) is (any-before p sends)
  where
    go : (b : Bool) → (b || list_any p (sends ++ [])) ≡ true → (list_any p (sends ++ []) ≡ true → list_any p sends ≡ true) → (b || list_any p sends) ≡ true
    go true is rest = refl
    go false is rest = rest is

module _ (sizes : Sizes) (me : ℕ) (share : Share) (src : ℕ) where
  get-refuses : (line : ℕ) (s : LineShare) → (not (is_pending s.header) && lacks_link (room_of Linked sizes share) src s.header) ≡ true → Refuses line (on_get (room_of Linked sizes share) src s)
  unfolding on_get
  get-refuses line s e =
      by-refusals (Refuses line) (is_pending s.header) (lacks_link (room_of Linked sizes share) src s.header) (room_of Linked sizes share).link_pending (room_of Linked sizes share).full
      (refuse src Pending s) (refuse src NoLink s) (refuse src Budget s) (refuse src NoLink s) _ e (by NoLink (λ more. refl)) (by Budget (λ more. refl)) (by NoLink (λ more. refl))
    where
      by : (cause : NakCause) → ((more : List (ℕ × Msg)) → list_any (λ (send : ℕ × Msg). is_nak NoLink (msg_content send.1) || is_nak Budget (msg_content send.1)) (messages line (refuse src cause s).sends ++ more) ≡ true) → Refuses line (refuse src cause s)
      by cause is = record { refuses = is; unserved = refl }

  message-refuses : (line home : ℕ) (alone : Bool) (content : Content) (s : LineShare) → (meets me home src alone content s && (not (is_pending s.header) && wants_link (room_of Linked sizes share) src content s.header)) ≡ true →
      Refuses line (on_message me home src alone (room_of Linked sizes share) content s)
  unfolding on_message row_of
  message-refuses line home alone Get s e = go (meets me home src alone Get s) e
    where
      go : (b : Bool) → (b && (not (is_pending s.header) && lacks_link (room_of Linked sizes share) src s.header)) ≡ true → Refuses line (cond b (on_get (room_of Linked sizes share) src s) (sending s []))
      go true lacks = get-refuses line s lacks
      go false lacks = absurd (cc)
  message-refuses line home alone GetX s e = absurd (unwanted _ _ e)
  message-refuses line home alone (FwdGet requester) s e = absurd (unwanted _ _ e)
  message-refuses line home alone (FwdGetX requester) s e = absurd (unwanted _ _ e)
  message-refuses line home alone Inv s e = absurd (unwanted _ _ e)
  message-refuses line home alone (Wb words) s e = absurd (unwanted _ _ e)
  message-refuses line home alone Rpl s e = absurd (unwanted _ _ e)
  message-refuses line home alone (Put words) s e = absurd (unwanted _ _ e)
  message-refuses line home alone (PutX words) s e = absurd (unwanted _ _ e)
  message-refuses line home alone (Nak cause) s e = absurd (unwanted _ _ e)
  message-refuses line home alone InvAck s e = absurd (unwanted _ _ e)
  message-refuses line home alone (ShWb words) s e = absurd (unwanted _ _ e)
  message-refuses line home alone FAck s e = absurd (unwanted _ _ e)
  message-refuses line home alone Nakc s e = absurd (unwanted _ _ e)

  take-refuses : (program : List Op) (m : Msg) (victim : Option ℕ) (x : NodeOutcome) → (meets_row sizes me share src m && (not (is_pending (line_share sizes share (msg_line m)).header) && wants_link (room_of Linked sizes share) src (msg_content m) (line_share sizes share (msg_line m)).header)) ≡ true →
      local Linked sizes me program share (TakeFrom src m victim) ≡ Ok x → Refused x
  unfolding local meets_row
  take-refuses program m victim x e = with (asks_victim Linked sizes me share src m) victim
    where
      out : NodeOutcome
      out = by_row sizes me share (msg_line m) (taking Linked sizes me share src m)

      refused : Refuses (msg_line m) (taking Linked sizes me share src m)
      refused = message-refuses (msg_line m) (home_of sizes (msg_line m)) (is_set_empty sizes share (msg_line m)) (msg_content m) (line_share sizes share (msg_line m)) e

      Gives : Result NodeOutcome Cause → Type 0
      Gives r = r ≡ Ok x → Refused x

      bad : (c : Cause) → Gives (Err c)
      bad c is = absurd (let d : ◌≡◌ {A = Result NodeOutcome Cause} (Err c) (Ok x) = is in cc)

      called : (g : ℕ) (b : Bool) → Gives (cond b (Ok (and_call sizes me g out)) (Err VictimUnfit))
      called g true is = let same : and_call sizes me g out ≡ x = cc in subst Refused same (refused.refuses _, refused.unserved)
      called g false is = bad VictimUnfit is

      with : (b : Bool) (victim : Option ℕ) → Gives (with_victim Linked sizes me share b victim out)
      with true None is = bad _ is
      with true (Some g) is = called g (fits_victim Linked sizes me share g) is
      with false None is = let same : out ≡ x = cc in subst Refused same (any-before _ (messages (msg_line m) (taking Linked sizes me share src m).sends) (refused.refuses []), refused.unserved)
      with false (Some g) is = bad _ is

  reclaim-unserved : (program : List Op) (line : ℕ) (x : NodeOutcome) → local Linked sizes me program share (ReclaimLine line) ≡ Ok x → x.served ≡ NoService
  unfolding local reclaim
  reclaim-unserved program line x = go (not (holds_link (room_of Linked sizes share) (line_share sizes share line).header)) (is_pending (line_share sizes share line).header) (room_of Linked sizes share).full
    where
      Gives : Result NodeOutcome Cause → Type 0
      Gives r = r ≡ Ok x → x.served ≡ NoService

      bad : (c : Cause) → Gives (Err c)
      bad c is = absurd (let d : ◌≡◌ {A = Result NodeOutcome Cause} (Err c) (Ok x) = is in cc)

      go : (a b c : Bool) → Gives (map_ok (by_row sizes me share line) (cond a (Err NoLinks) (cond b (Err LinePending) (cond c (Err BudgetFull) (Ok (call_in (line_share sizes share line)))))))
      go true b c is = bad NoLinks is
      go false true c is = bad LinePending is
      go false false true is = bad BudgetFull is
      go false false false is = let same : by_row sizes me share line (call_in (line_share sizes share line)) ≡ x = cc in subst (λ (y : NodeOutcome). y.served ≡ NoService) same refl

acted : (node : ℕ) (off : Off) (Is : NodeOutcome → Type 0) (r : Result NodeOutcome Cause) (done : Done) → ((out : NodeOutcome) → r ≡ Ok out → Is out) → act node off r ≡ Ok done → Is done.out
acted node off Is (Ok out) done holds is = let same : record { node = node; out = out; off = off } ≡ done = cc in subst (λ (d : Done). Is d.out) same (holds out refl)
acted node off Is (Err cause) done holds is = absurd (let d : ◌≡◌ {A = Result Done Cause} (Err cause) (Ok done) = is in cc)

module _ (sizes : Sizes) (programs : Programs) (state : State) where
  lacking : (event : Event) (done : Done) → finds_no_link sizes state event (taken_by state event) ≡ true → effect Linked sizes programs state event ≡ Ok done → Refused done.out
  lacking (Hit node) done lacks is = absurd (cc)
  lacking (Issue node) done lacks is = absurd (cc)
  lacking (Evict node line kind) done lacks is = absurd (cc)
  lacking (Reclaim line) done lacks is = absurd (cc)
  lacking (Take src dst class victim) done lacks is = go (state.lane src dst class) lacks is
    where
      go : (messages : List Msg) → finds_no_link sizes state (Take src dst class victim) (front_of messages) ≡ true → take_front Linked sizes programs state src dst class victim messages ≡ Ok done → Refused done.out
      go [] lacks is = absurd (cc)
      go (m ∷ rest) lacks is =
          acted dst (one_off src dst class) Refused (local Linked sizes dst (programs dst) (state.share dst) (TakeFrom src m victim)) done
          (λ out. take-refuses sizes dst (state.share dst) src (programs dst) m victim out lacks) is

  pub lacking-refuses : (event : Event) (done : Done) → finds_no_link sizes state event (taken_by state event) ≡ true → effect Linked sizes programs state event ≡ Ok done → refuses_for_room done.out ≡ true
  lacking-refuses event done lacks is = (lacking event done lacks is).0

  pub turning-unserved : (event : Event) (done : Done) → turns_on_links sizes state event ≡ true → effect Linked sizes programs state event ≡ Ok done → done.out.served ≡ NoService
  turning-unserved (Hit node) done turns is = absurd (cc)
  turning-unserved (Issue node) done turns is = absurd (cc)
  turning-unserved (Evict node line kind) done turns is = absurd (cc)
  turning-unserved (Take src dst class victim) done turns is = (lacking (Take src dst class victim) done turns is).1
  turning-unserved (Reclaim line) done turns is =
      acted (home_of sizes line) none_off (λ out. out.served ≡ NoService) (local Linked sizes (home_of sizes line) (programs (home_of sizes line)) (state.share (home_of sizes line)) (ReclaimLine line)) done
      (λ out. reclaim-unserved sizes (home_of sizes line) (state.share (home_of sizes line)) 0 (programs (home_of sizes line)) line out) is
