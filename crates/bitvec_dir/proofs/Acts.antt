-- Of all rows those of a Get and a Reclaim alone look at links; and a Get that needs none, or has one, meets the same row where lists cost none.
use Rattle.std.proofs.Common.{◌≡◌, ℕ, Bool, true, false, cond, ◌&&◌, not, List, [], ◌∷◌, refl, arith, ap, sym, Option, Some, None, Ok}
use Rattle.std.proofs.lemmas.Bool.{true≢false}
use Rattle.line_map.specs.Sizes.{Sizes, home_of}
use Rattle.op_model.specs.declared.events.Event.{Event}
use Rattle.op_model.specs.declared.events.Event.TheVariants.{Evict, Hit, Issue, Reclaim, Take}
use Rattle.op_model.specs.declared.messages.Msg.{Msg}
use Rattle.op_model.specs.declared.messages.NakCause.TheVariants.{Budget, NoLink, Pending}
use Rattle.op_model.specs.declared.operations.Op.{Op}
use Rattle.op_model.specs.Messages.{Content, FAck, FwdGet, FwdGetX, Get, GetX, Inv, InvAck, Nak, Nakc, Put, PutX, Rpl, ShWb, Wb, msg_content, msg_line}
use Rattle.op_model.specs.Lines.{Header, LineShare, is_pending, sending}
use Rattle.op_model.specs.Shares.{Charge, Linked, Unlinked, Share, State, is_set_empty, line_share, room_of}
use Rattle.op_model.specs.Tables.Home.{lacks_link, on_get, on_getx, refuse, wants_victim}
use Rattle.op_model.specs.Tables.Processor.{begin_at_home, begin_op}
use Rattle.op_model.specs.Tables.Refusals.{wants_link}
use Rattle.op_model.specs.Tables.Remote.{meets, on_message, row_of}
use Rattle.op_model.specs.Events.Node.{NodeOutcome, TakeFrom, asks_victim, by_row, is_get, local, meets_row, taking, with_victim}
use Rattle.op_model.specs.Events.Step.{Programs, act, effect, one_off, take_front}
use Rattle.op_model.specs.Run.Counts.{front_of}
use Rattle.bitvec_dir.specs.Linkless.{finds_no_link, turns_on_links}

-- the tests of rows H2 to H4 fail where no link is lacked, and aren't come to at a pending line
past-refusals : {A : Type 0} (pending lacks held full : Bool) (h1 h2 h3 h4 rest : A) → (not pending && lacks) ≡ false → cond pending h1 (cond (lacks && held) h2 (cond (lacks && full) h3 (cond lacks h4 rest))) ≡ cond pending h1 rest
past-refusals true lacks held full h1 h2 h3 h4 rest e = refl
past-refusals false true held full h1 h2 h3 h4 rest e = absurd (true≢false e)
past-refusals false false held full h1 h2 h3 h4 rest e = refl

-- nor is a line called in
no-victim : (met pending lacks held full : Bool) → (met && (not pending && lacks)) ≡ false → (met && true && (not pending && lacks && not held && not full)) ≡ false
no-victim met pending lacks held full e = grind arith

never-wanted : (met get pending held full : Bool) → (met && get && (not pending && false && not held && not full)) ≡ false
never-wanted met get pending held full = grind arith

module _ (sizes : Sizes) (me : ℕ) (share : Share) (src : ℕ) where
  get-same : (s : LineShare) → (not (is_pending s.header) && lacks_link (room_of Linked sizes share) src s.header) ≡ false → on_get (room_of Unlinked sizes share) src s ≡ on_get (room_of Linked sizes share) src s
  unfolding on_get
  get-same s e =
      sym (past-refusals (is_pending s.header) (lacks_link (room_of Linked sizes share) src s.header) (room_of Linked sizes share).link_pending (room_of Linked sizes share).full
      (refuse src Pending s) (refuse src NoLink s) (refuse src Budget s) (refuse src NoLink s) _ e)

  message-same : (home : ℕ) (alone : Bool) (content : Content) (s : LineShare) → (meets me home src alone content s && (not (is_pending s.header) && wants_link (room_of Linked sizes share) src content s.header)) ≡ false →
      on_message me home src alone (room_of Unlinked sizes share) content s ≡ on_message me home src alone (room_of Linked sizes share) content s
  unfolding on_message row_of on_getx
  message-same home alone Get s e = go (meets me home src alone Get s) e
    where
      go : (b : Bool) → (b && (not (is_pending s.header) && lacks_link (room_of Linked sizes share) src s.header)) ≡ false → cond b (on_get (room_of Unlinked sizes share) src s) (sending s []) ≡ cond b (on_get (room_of Linked sizes share) src s) (sending s [])
      go true lacks = get-same s lacks
      go false lacks = refl
  message-same home alone GetX s e = refl
  message-same home alone (FwdGet requester) s e = refl
  message-same home alone (FwdGetX requester) s e = refl
  message-same home alone Inv s e = refl
  message-same home alone (Wb words) s e = refl
  message-same home alone Rpl s e = refl
  message-same home alone (Put words) s e = refl
  message-same home alone (PutX words) s e = refl
  message-same home alone (Nak cause) s e = refl
  message-same home alone InvAck s e = refl
  message-same home alone (ShWb words) s e = refl
  message-same home alone FAck s e = refl
  message-same home alone Nakc s e = refl

  unasked : (met : Bool) (header : Header) → (met && false && wants_victim (room_of Linked sizes share) src header) ≡ false
  unasked met header = grind arith

  linked-asks : (met : Bool) (content : Content) (header : Header) → (met && (not (is_pending header) && wants_link (room_of Linked sizes share) src content header)) ≡ false → (met && is_get content && wants_victim (room_of Linked sizes share) src header) ≡ false
  unfolding wants_victim
  linked-asks met Get header e = no-victim met (is_pending header) (lacks_link (room_of Linked sizes share) src header) (room_of Linked sizes share).link_pending (room_of Linked sizes share).full e
  linked-asks met GetX header e = unasked met header
  linked-asks met (FwdGet requester) header e = unasked met header
  linked-asks met (FwdGetX requester) header e = unasked met header
  linked-asks met Inv header e = unasked met header
  linked-asks met (Wb words) header e = unasked met header
  linked-asks met Rpl header e = unasked met header
  linked-asks met (Put words) header e = unasked met header
  linked-asks met (PutX words) header e = unasked met header
  linked-asks met (Nak cause) header e = unasked met header
  linked-asks met InvAck header e = unasked met header
  linked-asks met (ShWb words) header e = unasked met header
  linked-asks met FAck header e = unasked met header
  linked-asks met Nakc header e = unasked met header

  unlinked-asks : (met : Bool) (content : Content) (header : Header) → (met && is_get content && wants_victim (room_of Unlinked sizes share) src header) ≡ false
  unfolding wants_victim
  unlinked-asks met content header = never-wanted met (is_get content) (is_pending header) (room_of Unlinked sizes share).link_pending (room_of Unlinked sizes share).full

  victim-same : (a b : Bool) (victim : Option ℕ) (x y : NodeOutcome) → a ≡ false → b ≡ false → x ≡ y → with_victim Unlinked sizes me share a victim x ≡ with_victim Linked sizes me share b victim y
  victim-same true b victim x y p q same = absurd (true≢false p)
  victim-same false true victim x y p q same = absurd (true≢false q)
  victim-same false false None x y p q same = λ i. Ok (same i)
  victim-same false false (Some g) x y p q same = refl

  take-same : (program : List Op) (m : Msg) (victim : Option ℕ) → (meets_row sizes me share src m && (not (is_pending (line_share sizes share (msg_line m)).header) && wants_link (room_of Linked sizes share) src (msg_content m) (line_share sizes share (msg_line m)).header)) ≡ false →
      local Unlinked sizes me program share (TakeFrom src m victim) ≡ local Linked sizes me program share (TakeFrom src m victim)
  unfolding local meets_row
  take-same program m victim e =
      victim-same (asks_victim Unlinked sizes me share src m) (asks_victim Linked sizes me share src m) victim
      (by_row sizes me share (msg_line m) (taking Unlinked sizes me share src m)) (by_row sizes me share (msg_line m) (taking Linked sizes me share src m))
      (unlinked-asks (meets_row sizes me share src m) (msg_content m) (line_share sizes share (msg_line m)).header)
      (linked-asks (meets_row sizes me share src m) (msg_content m) (line_share sizes share (msg_line m)).header e)
      (ap (by_row sizes me share (msg_line m)) (message-same (home_of sizes (msg_line m)) (is_set_empty sizes share (msg_line m)) (msg_content m) (line_share sizes share (msg_line m)) e))

module _ (sizes : Sizes) (programs : Programs) (state : State) where
  pub effect-same : (event : Event) → turns_on_links sizes state event ≡ false → effect Unlinked sizes programs state event ≡ effect Linked sizes programs state event
  unfolding local begin_op begin_at_home
  effect-same (Hit node) e = refl
  effect-same (Issue node) e = refl
  effect-same (Evict node line kind) e = refl
  effect-same (Take src dst class victim) e = go (state.lane src dst class) e
    where
      go : (messages : List Msg) → finds_no_link sizes state (Take src dst class victim) (front_of messages) ≡ false → take_front Unlinked sizes programs state src dst class victim messages ≡ take_front Linked sizes programs state src dst class victim messages
      go [] e = refl
      go (m ∷ rest) e = ap (act dst (one_off src dst class)) (take-same sizes dst (state.share dst) src (programs dst) m victim e)
  effect-same (Reclaim line) e = absurd (true≢false e)

  pub effect-alike : (a b : Charge) (event : Event) → turns_on_links sizes state event ≡ false → effect a sizes programs state event ≡ effect b sizes programs state event
  effect-alike Linked Linked event e = refl
  effect-alike Unlinked Unlinked event e = refl
  effect-alike Unlinked Linked event e = effect-same event e
  effect-alike Linked Unlinked event e = sym (effect-same event e)
