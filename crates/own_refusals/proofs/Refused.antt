-- A refusal for want of a link: the row keeps the share of its node, and refuses since a pending line holds a link or calls a line in.
use Rattle.std.proofs.Common.{◌≡◌, ◌≢◌, ◌⊎◌, inl, inr, ℕ, ◌<◌, Bool, true, false, cond, nat_lt, ◌==◌, ◌&&◌, ◌||◌, not, List, [], ◌∷◌, refl, arith, ap, sym, subst, ◌∙◌, Option, Some, None, Result, Ok, Err, unwrap_or}
use Rattle.std.proofs.lemmas.Bool.{and_parts}
use Rattle.std.proofs.lemmas.Bool.Decides.{nat_tests}
use Rattle.std.specs.FinMap as fin
use Rattle.std.specs.List.{list_any}
use Rattle.line_map.specs.Sizes.{Sizes, home_of}
use Rattle.op_model.specs.declared.events.Cause.{Cause}
use Rattle.op_model.specs.declared.messages.Msg.{Msg}
use Rattle.op_model.specs.declared.messages.NakCause.TheVariants.{NoLink}
use Rattle.op_model.specs.declared.operations.Op.{Op}
use Rattle.op_model.specs.Events.Node.{NodeOutcome, TakeFrom, and_call, asks_victim, by_row, fits_victim, is_get, local, meets_row, messages, taking, with_victim}
use Rattle.op_model.specs.Lines.{Header, LineShare, Outcome, Room, is_pending, nobody_listed, sending}
use Rattle.op_model.specs.Messages.{Content, FAck, FwdGet, FwdGetX, Get, GetX, Inv, InvAck, Nak, Nakc, Put, PutX, Rpl, ShWb, Wb, msg_content, msg_content-message, msg_line}
use Rattle.op_model.specs.Nodes.{count, listed}
use Rattle.op_model.specs.OwnPart.{IsOwnPart}
use Rattle.op_model.specs.Run.Counts.{is_nak}
use Rattle.op_model.specs.Shares.{Charge, Share, first_header, header_of, is_linked, is_set_empty, line_share, room_of, header_in}
use Rattle.op_model.specs.Tables.Home.{lacks_link, on_get, wants_victim}
use Rattle.op_model.specs.Tables.Processor.{call_in, holds_link}
use Rattle.op_model.specs.Tables.Remote.{meets, on_message, row_of}
use Rattle.op_model.proofs.Public.{above_one, and_above_one, three_parts}
use Rattle.line_invariant.proofs.Public.{if-either}
use Rattle.one_history.proofs.Public.{header-kept, header-same, refuses}
use Rattle.link_refusals.specs.Refusals.{refuses_link}
use Rattle.link_refusals.proofs.Public.{Found, IsReason, found, refuses_row, why-refused}
use Rattle.own_refusals.specs.OwnLinks.{HasLinkPending}

-- a row refuses where its messages do
pub any-sent : (line : ℕ) (sends : List (ℕ × Content)) → list_any (λ (send : ℕ × Msg). is_nak NoLink (msg_content send.1)) (messages line sends) ≡ list_any (λ (send : ℕ × Content). is_nak NoLink send.1) sends
any-sent line [] = refl
any-sent line (send ∷ sends) = λ i. is_nak NoLink (msg_content-message line send.1 i) || any-sent line sends i

-- a Get that is refused for want of a link lacks one
lacks : (room : Room) (src : ℕ) (s : LineShare) → refuses_row (on_get room src s) ≡ true → lacks_link room src s.header ≡ true
unfolding on_get
lacks room src s =
    if-either K (is_pending s.header) _ _ no (λ _.
    (if-either K (lacks_link room src s.header && room.link_pending) _ _ (λ both _. (and_parts (lacks_link room src s.header) room.link_pending both).0) (λ _.
    (if-either K (lacks_link room src s.header && room.full) _ _ no (λ _.
    (if-either K (lacks_link room src s.header) _ _ (λ is _. is) (λ _.
    (if-either K (s.header.dirty && s.header.local) _ _ no (λ _.
    (if-either K (s.header.dirty && room.full) _ _ no (λ _.
    (if-either K s.header.dirty _ _ no no))))))))))))
  where
    K : Outcome → Type 0
    K o = refuses_row o ≡ true → lacks_link room src s.header ≡ true

    no : {b : Bool} {c : Bool} → b ≡ c → false ≡ true → lacks_link room src s.header ≡ true
    no e f = absurd (cc)

-- where lists cost no links nothing is refused for want of one
message-linked : (me home src : ℕ) (alone : Bool) (room : Room) (s : LineShare) (content : Content) → refuses_row (on_message me home src alone room content s) ≡ true → room.linked ≡ true
unfolding on_message row_of
message-linked me home src alone room s content is = go content is (why-refused room s me home src alone content is).get
  where
    get : refuses_row (on_message me home src alone room Get s) ≡ true → lacks_link room src s.header ≡ true
    get = if-either (λ (o : Outcome). refuses_row o ≡ true → lacks_link room src s.header ≡ true) (meets me home src alone Get s) _ _ (λ _. lacks room src s) (λ _ e. absurd (cc))

    go : (content : Content) → refuses_row (on_message me home src alone room content s) ≡ true → is_get content ≡ true → room.linked ≡ true
    go Get is e = (three_parts room.linked (not (listed s.header.list src)) (not (nobody_listed s.header.list)) (and_parts (room.linked && not (listed s.header.list src) && not (nobody_listed s.header.list)) (not room.link_free) (get is)).0).0
    go GetX is e = absurd (cc)
    go (FwdGet r) is e = absurd (cc)
    go (FwdGetX r) is e = absurd (cc)
    go Inv is e = absurd (cc)
    go (Wb words) is e = absurd (cc)
    go Rpl is e = absurd (cc)
    go (Put words) is e = absurd (cc)
    go (PutX words) is e = absurd (cc)
    go (Nak cause) is e = absurd (cc)
    go InvAck is e = absurd (cc)
    go (ShWb words) is e = absurd (cc)
    go FAck is e = absurd (cc)
    go Nakc is e = absurd (cc)

module _ (charge : Charge) (sizes : Sizes) (node : ℕ) (program : List Op) (share : Share) (src : ℕ) (m : Msg) where
  abbrev line : ℕ
  line = msg_line m

  abbrev room : Room
  room = room_of charge sizes share

  abbrev row : Outcome
  row = taking charge sizes node share src m

  abbrev out : NodeOutcome
  out = by_row sizes node share (msg_line m) (taking charge sizes node share src m)

  reason : refuses_row row ≡ true → IsReason node (home_of sizes line) src room (msg_content m) (line_share sizes share line) row
  reason is = why-refused room (line_share sizes share line) node (home_of sizes line) src (is_set_empty sizes share line) (msg_content m) is

  -- what refuses meets a row
  met : refuses_row row ≡ true → meets_row sizes node share src m ≡ true
  unfolding on_message meets_row
  met = go (meets node (home_of sizes line) src (is_set_empty sizes share line) (msg_content m) (line_share sizes share line))
    where
      go : (c : Bool) → refuses_row (cond c (row_of node (home_of sizes line) src room (msg_content m) (line_share sizes share line)) (sending (line_share sizes share line) [])) ≡ true → c ≡ true
      go true e = refl
      go false e = absurd (cc)

  module _ (own : IsOwnPart charge sizes node program share) where
    -- a pending line that holds a link
    held : room.link_pending ≡ true → HasLinkPending sizes node share
    unfolding header_in
    held is =
        let f : Found (λ h. is_pending h && nat_lt 1 (count h.list)) (fin.entries share.headers) = found (λ h. is_pending h && nat_lt 1 (count h.list)) (fin.entries share.headers) (fin.entries_sorted share.headers) is in
        let at : fin.get share.headers f.0 ≡ Some f.1 = fin.get-entries share.headers f.0 ∙ f.2 in
        let has : header_of sizes share f.0 ≡ f.1 = ap (λ o. unwrap_or o (first_header sizes)) at in
        let both = and_above_one (is_pending f.1) (count f.1.list) f.3 in
        record { line = f.0; of_home = home f.0 f.1 at (home_of sizes f.0 == node) refl; pending = ap is_pending has ∙ both.0; several = subst (λ h. 1 < count h.list) (sym has) both.1 }
      where
        home : (g : ℕ) (h : Header) → fin.get share.headers g ≡ Some h → (c : Bool) → (home_of sizes g == node) ≡ c → home_of sizes g ≡ node
        home g h is true e = grind (arith, nat_tests)
        home g h is false e = absurd (let far : home_of sizes g ≢ node = grind (arith, nat_tests) in let n : ◌≡◌ {A = Option Header} None (Some h) = sym (own.headers g far) ∙ is in cc)

    kept : row.share ≡ line_share sizes share line → (g : ℕ) → header_of sizes out.share g ≡ header_of sizes share g
    kept same g = header-kept sizes (node == home_of sizes line) line row.done row.share share same g

    by-row : asks_victim charge sizes node share src m ≡ false → refuses_row row ≡ true → HasLinkPending sizes node out.share
    by-row asks is = either (reason is).why
      where
        either : (room.link_pending ≡ true) ⊎ (wants_victim room src (header_of sizes share line) ≡ true) → HasLinkPending sizes node out.share
        either (inl pending) =
            let l = held pending in
            let k = kept (reason is).same l.line in
            record { line = l.line; of_home = l.of_home; pending = ap is_pending k ∙ l.pending; several = subst (λ h. 1 < count h.list) (sym k) l.several }
        either (inr wants) =
            let get = (reason is).get in
            let meet = met is in
            absurd (asked (meets_row sizes node share src m) (is_get (msg_content m)) (wants_victim room src (header_of sizes share line)) meet get wants asks)
          where
            asked : (a b c : Bool) → a ≡ true → b ≡ true → c ≡ true → (a && b && c) ≡ false → ⊥
            asked a b c e f g h = grind arith

    by-call : (g : ℕ) → asks_victim charge sizes node share src m ≡ true → fits_victim charge sizes node share g ≡ true → HasLinkPending sizes node (and_call sizes node g out).share
    by-call g asks fit =
        let want = three_parts (meets_row sizes node share src m) (is_get (msg_content m)) (wants_victim room src (header_of sizes share line)) asks in
        let same = refuses node (home_of sizes line) src (is_set_empty sizes share line) room (msg_content m) (line_share sizes share line) want.1 want.2 in
        let fits = three_parts (home_of sizes g == node) (holds_link room (header_of sizes share g)) (not (is_pending (header_of sizes share g))) fit in
        let here : home_of sizes g ≡ node = let e = fits.0 in grind (arith, nat_tests) in
        let at : (node == home_of sizes g) ≡ true = let e = fits.0 in grind (arith, nat_tests) in
        let many = above_one room.linked (count (header_of sizes share g).list) fits.1 in
        let called = call_in (line_share sizes out.share g) in
        let is : header_of sizes (and_call sizes node g out).share g ≡ called.share.header = header-same sizes (node == home_of sizes g) g called.done called.share out.share at in
        record { line = g; of_home = here; pending = ap is_pending is; several = subst (λ h. 1 < count h.list) (sym is) (subst (λ h. 1 < count h.list) (sym (kept same g)) many) }

    pub refused : (victim : Option ℕ) (x : NodeOutcome) → local charge sizes node program share (TakeFrom src m victim) ≡ Ok x → refuses_link x ≡ true → HasLinkPending sizes node x.share
    unfolding local
    refused victim x = with (asks_victim charge sizes node share src m) refl victim
      where
        Gives : Result NodeOutcome Cause → Type 0
        Gives r = r ≡ Ok x → refuses_link x ≡ true → HasLinkPending sizes node x.share

        bad : (c : Cause) → Gives (Err c)
        bad c e = absurd (let d : ◌≡◌ {A = Result NodeOutcome Cause} (Err c) (Ok x) = e in cc)

        with : (b : Bool) → asks_victim charge sizes node share src m ≡ b → (victim : Option ℕ) → Gives (with_victim charge sizes node share b victim out)
        with true asks None = bad _
        with false asks (Some g) = bad _
        with false asks None = λ e is.
            let same : out ≡ x = cc in
            subst (λ y. refuses_link y ≡ true → HasLinkPending sizes node y.share) same (λ r. by-row asks (sym (any-sent line row.sends) ∙ r)) is
        with true asks (Some g) = if-either Gives (fits_victim charge sizes node share g) _ _
            (λ fit e is. let same : and_call sizes node g out ≡ x = cc in subst (λ y. HasLinkPending sizes node y.share) same (by-call g asks fit)) (λ _. bad _)

  pub linked : (victim : Option ℕ) (x : NodeOutcome) → local charge sizes node program share (TakeFrom src m victim) ≡ Ok x → refuses_link x ≡ true → is_linked charge ≡ true
  unfolding local
  linked victim x = with (asks_victim charge sizes node share src m) refl victim
    where
      Gives : Result NodeOutcome Cause → Type 0
      Gives r = r ≡ Ok x → refuses_link x ≡ true → is_linked charge ≡ true

      bad : (c : Cause) → Gives (Err c)
      bad c e = absurd (let d : ◌≡◌ {A = Result NodeOutcome Cause} (Err c) (Ok x) = e in cc)

      holder : (l : Bool) (n : ℕ) → (l && not (n == 0) && not (n == 1)) ≡ true → l ≡ true
      holder l n e = grind arith

      with : (b : Bool) → asks_victim charge sizes node share src m ≡ b → (victim : Option ℕ) → Gives (with_victim charge sizes node share b victim out)
      with true asks None = bad _
      with false asks (Some g) = bad _
      with false asks None = λ e is.
          let same : out ≡ x = cc in
          subst (λ y. refuses_link y ≡ true → is_linked charge ≡ true) same
          (λ r. message-linked node (home_of sizes line) src (is_set_empty sizes share line) room (line_share sizes share line) (msg_content m) (sym (any-sent line row.sends) ∙ r)) is
      with true asks (Some g) = if-either Gives (fits_victim charge sizes node share g) _ _
          (λ fit e is. holder (is_linked charge) (count (header_of sizes share g).list) (three_parts (home_of sizes g == node) (holds_link room (header_of sizes share g)) (not (is_pending (header_of sizes share g))) fit).1) (λ _. bad _)
