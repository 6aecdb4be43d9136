-- Rows while one line is called in for its links: Inv, InvAck and the Nak of the Get that wants a link. None of them is done, brings a
-- copy, or changes the header of a line that waits for nothing; the line that is called in waits until nobody is listed.
use Rattle.std.proofs.Common.{◌≡◌, ℕ, ◌-◌, ◌⊎◌, inl, inr, Bool, true, false, not, ◌==◌, nat_le, refl, arith, ap, sym, subst}
use Rattle.std.proofs.lemmas.Bool.Decides.{nat_tests}
use Rattle.op_model.specs.declared.state.Grantee.{Grantee}
use Rattle.op_model.specs.declared.state.Grantee.TheVariants.{Me, Node, Nobody}
use Rattle.op_model.specs.declared.state.Wait.{Wait}
use Rattle.op_model.specs.declared.state.Wait.TheVariants.{Idle, Invalidate, ForwardGet, ForwardGetX}
use Rattle.op_model.specs.Nodes.{Nodes, count, count-unlist, listed, unlist}
use Rattle.op_model.specs.Messages.{Content, Get, GetX, FwdGet, FwdGetX, Inv, Wb, Rpl, Put, PutX, Nak, InvAck, ShWb, FAck, Nakc}
use Rattle.op_model.specs.Lines.{Absent, Copy, Exclusive, Header, LineShare, Outcome, Room, Shared, is_idle, is_pending, nobody_listed, without_shared}
use Rattle.op_model.specs.Tables.Home.{grant, grantee_of, on_inv_ack}
use Rattle.op_model.specs.Tables.Remote.{meets, row_of, on_message, on_inv, on_nak, is_invalidate}
use Rattle.op_model.proofs.Public.{last_two_parts}
use Rattle.line_invariant.proofs.Public.{if-either}
use Rattle.schedule_laws.proofs.Settled.{settles}
use Rattle.schedule_laws.proofs.Under.{AllSent}

-- a message that is under way while a line is called in
abbrev pub recalls : Content → Bool
recalls Inv = true
recalls InvAck = true
recalls (Nak cause) = true
recalls _ = false

abbrev pub IsRecall : Content → Type 0
IsRecall content = recalls content ≡ true

pub recall-settles : (content : Content) → recalls content ≡ true → settles content ≡ true
recall-settles content e = grind arith

-- a line that is called in for its links, or has given them all back
abbrev pub IsCalledIn : Header → Type 0
IsCalledIn header = ((header.wait ≡ Invalidate Nobody) × (header.acks ≡ count header.list)) ⊎ ((is_pending header ≡ false) × (nobody_listed header.list ≡ true))

pub record IsRecalling (me home : ℕ) (share : LineShare) (outcome : Outcome) : Type 0 where
  pub sends : AllSent IsRecall outcome.sends
  pub undone : outcome.done ≡ false
  pub absent : share.copy ≡ Absent → outcome.share.copy ≡ Absent
  pub idle : is_pending share.header ≡ false → outcome.share.header ≡ share.header
  pub called : IsCalledIn share.header → IsCalledIn outcome.share.header

gone : (copy : Copy) → copy ≡ Absent → without_shared copy ≡ Absent
gone Absent e = refl
gone (Shared words) e = refl
gone (Exclusive words) e = cc

module _ (me home sender : ℕ) (room : Room) (share : LineShare) where
  stays : (outcome : Outcome) → AllSent IsRecall outcome.sends → outcome.done ≡ false → (share.copy ≡ Absent → outcome.share.copy ≡ Absent) → outcome.share.header ≡ share.header → IsRecalling me home share outcome
  stays outcome sends undone absent same =
      record { sends = sends; undone = undone; absent = absent; idle = λ e. same; called = λ c. subst IsCalledIn (sym same) c }

  waits-not : (header : Header) → is_invalidate header.wait ≡ true → is_pending header ≡ false → ⊥
  waits-not header e f = go header.wait e f
    where
      go : (wait : Wait) → is_invalidate wait ≡ true → not (is_idle wait) ≡ false → ⊥
      go Idle e f = cc
      go (Invalidate grantee) e f = cc
      go (ForwardGet r) e f = cc
      go (ForwardGetX r) e f = cc

  -- the last acknowledgement leaves nobody listed, an earlier one lists one node less
  last-out : (list : Nodes) (acks : ℕ) → listed list sender ≡ true → acks ≡ count list → nat_le acks 1 ≡ true → nobody_listed (unlist list sender) ≡ true
  last-out list acks has counted last = let c = count-unlist list sender in grind (arith, nat_tests)

  one-out : (list : Nodes) (acks : ℕ) → listed list sender ≡ true → acks ≡ count list → acks - 1 ≡ count (unlist list sender)
  one-out list acks has counted = let c = count-unlist list sender in grind (arith, nat_tests)

  acked : share.header.wait ≡ Invalidate Nobody → share.header.acks ≡ count share.header.list → listed share.header.list sender ≡ true → IsRecalling me home share (on_inv_ack sender share)
  unfolding on_inv_ack
  acked waits counted has =
      if-either (IsRecalling me home share) (nat_le share.header.acks 1) _ _
      (λ last. ended last (grantee_of share.header.wait) (ap grantee_of waits))
      (λ more. record {
        sends = tt;
        undone = refl;
        absent = λ e. e;
        idle = λ e. absurd (waits-not share.header (ap is_invalidate waits) e);
        called = λ c. inl (waits, one-out share.header.list share.header.acks has counted);
      })
    where
      ended : nat_le share.header.acks 1 ≡ true → (grantee : Grantee) → grantee ≡ Nobody → IsRecalling me home share (grant grantee share.want (unlist share.header.list sender) share)
      ended last Nobody e =
          record {
            sends = tt;
            undone = refl;
            absent = λ e. e;
            idle = λ e. absurd (waits-not share.header (ap is_invalidate waits) e);
            called = λ c. inr (refl, last-out share.header.list share.header.acks has counted last);
          }
      ended last Me e = cc
      ended last (Node n) e = cc

  -- a line waits for nothing, or is called in
  abbrev pub IsCalm : Type 0
  IsCalm = (is_pending share.header ≡ false) ⊎ IsCalledIn share.header

  calm-acked : IsCalm → is_invalidate share.header.wait ≡ true → listed share.header.list sender ≡ true → IsRecalling me home share (on_inv_ack sender share)
  calm-acked (inl idle) waits has = absurd (waits-not share.header waits idle)
  calm-acked (inr (inl called)) waits has = acked called.0 called.1 has
  calm-acked (inr (inr over)) waits has = absurd (waits-not share.header waits over.0)

  row-recalls : IsCalm → (alone : Bool) (content : Content) → recalls content ≡ true → meets me home sender alone content share ≡ true → IsRecalling me home share (row_of me home sender room content share)
  unfolding row_of meets on_inv on_nak
  row-recalls calm alone Get kind meet = cc
  row-recalls calm alone GetX kind meet = cc
  row-recalls calm alone (FwdGet r) kind meet = cc
  row-recalls calm alone (FwdGetX r) kind meet = cc
  row-recalls calm alone Inv kind meet = stays _ (refl, tt) refl (gone share.copy) refl
  row-recalls calm alone (Wb words) kind meet = cc
  row-recalls calm alone Rpl kind meet = cc
  row-recalls calm alone (Put words) kind meet = cc
  row-recalls calm alone (PutX words) kind meet = cc
  row-recalls calm alone (Nak cause) kind meet = stays _ tt refl (λ e. e) refl
  row-recalls calm alone InvAck kind meet = let both = last_two_parts (me == home) (is_invalidate share.header.wait) (listed share.header.list sender) meet in calm-acked calm both.0 both.1
  row-recalls calm alone (ShWb words) kind meet = cc
  row-recalls calm alone FAck kind meet = cc
  row-recalls calm alone Nakc kind meet = cc

  pub message-recalls : IsCalm → (alone : Bool) (content : Content) → recalls content ≡ true → IsRecalling me home share (on_message me home sender alone room content share)
  unfolding on_message
  message-recalls calm alone content kind =
      if-either (IsRecalling me home share) (meets me home sender alone content share) _ _ (row-recalls calm alone content kind) (λ _. stays _ tt refl (λ e. e) refl)
