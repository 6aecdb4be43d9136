-- Rows of messages that neither ask nor forward: they settle what was set going. Each one that is taken leaves less to come, since an
-- Inv is answered by an InvAck, and only the last InvAck for a node sends it a PutX; none of them sends a Nak, and none is done for a
-- node that has begun nothing.
use Rattle.std.proofs.Common.{◌≡◌, ℕ, ◌+◌, ◌<◌, ◌≤◌, ◌⊎◌, inl, inr, Bool, true, false, cond, not, ◌==◌, ◌&&◌, nat_le, List, [], ◌∷◌, refl, arith, sym, ◌∙◌, Option, Some, None, is_some}
use Rattle.std.proofs.lemmas.Bool.Decides.{nat_tests}
use Rattle.op_model.specs.declared.state.Grantee.{Grantee}
use Rattle.op_model.specs.declared.state.Grantee.TheVariants.{Nobody, Me, Node}
use Rattle.op_model.specs.declared.state.Wait.{Wait}
use Rattle.op_model.specs.declared.state.Wait.TheVariants.{Idle, Invalidate, ForwardGet, ForwardGetX}
use Rattle.op_model.specs.declared.state.Want.{Want}
use Rattle.op_model.specs.Nodes.{Nodes, none, unlist}
use Rattle.op_model.specs.Operations.{Words, after_op}
use Rattle.op_model.specs.Messages.{Content, Get, GetX, FwdGet, FwdGetX, Inv, Wb, Rpl, Put, PutX, Nak, InvAck, ShWb, FAck, Nakc}
use Rattle.op_model.specs.Lines.{Exclusive, Header, LineShare, Room, Outcome, Own, sending, is_idle, marked_load}
use Rattle.op_model.specs.Tables.Home.{grant, grantee_of, on_inv_ack, on_shwb, on_fack, on_wb, on_rpl}
use Rattle.op_model.specs.Tables.Remote.{meets, row_of, on_message, on_inv, on_put, on_putx, on_nak, waits_load, waits_write, is_invalidate}
use Rattle.op_model.proofs.Public.{three_parts}
use Rattle.line_invariant.proofs.Public.{if-either}
use Rattle.schedule_laws.specs.Courses.{is_any_nak}

-- a message that neither asks nor forwards, nor tells a home that a forward was refused
abbrev pub settles : Content → Bool
settles Get = false
settles GetX = false
settles (FwdGet requester) = false
settles (FwdGetX requester) = false
settles Nakc = false
settles _ = true

-- how many messages are still taken for this one, itself included
abbrev pub still : Content → ℕ
still Inv = 2
still _ = 1

-- a node is granted the line when the acknowledgements are in
abbrev pub grants : Wait → ℕ
grants (Invalidate (Node node)) = 1
grants _ = 0

abbrev pub still_sent : List (ℕ × Content) → ℕ
still_sent [] = 0
still_sent (send ∷ sends) = still send.1 + still_sent sends

-- what is sent settles, and is no Nak
abbrev pub AllSettle : List (ℕ × Content) → Type 0
AllSettle [] = Unit {0}
AllSettle (send ∷ sends) = (settles send.1 ≡ true) × (is_any_nak send.1 ≡ false) × AllSettle sends

-- a row of a message that settles
pub record IsSettling (at_home : Bool) (content : Content) (share : LineShare) (outcome : Outcome) : Type 0 where
  pub lighter : still_sent outcome.sends + cond at_home (grants outcome.share.header.wait) (grants share.header.wait) < still content + grants share.header.wait
  pub fewer : grants outcome.share.header.wait ≤ grants share.header.wait
  pub sends : AllSettle outcome.sends
  pub unwanted : share.want ≡ None → (outcome.share.want ≡ None) × (outcome.done ≡ false)
  pub wanted : is_any_nak content ≡ false → is_some share.want ≡ true → ((outcome.done ≡ true) × (outcome.share.want ≡ None)) ⊎ ((outcome.done ≡ false) × (is_some outcome.share.want ≡ true))

-- a row that sends nothing, and leaves what is begun
silent : (at_home : Bool) (content : Content) (share : LineShare) (header : Header) → grants header.wait ≤ grants share.header.wait →
    IsSettling at_home content share (sending (record share { header = header }) [])
silent at_home content share header less =
    record {
      lighter = light at_home (still content) (still-some content);
      fewer = less;
      sends = tt;
      unwanted = λ none. (none, refl);
      wanted = λ nak some. inr (refl, some);
    }
  where
    still-some : (content : Content) → 0 < still content
    still-some content = grind arith

    light : (c : Bool) (n : ℕ) → 0 < n → 0 + cond c (grants header.wait) (grants share.header.wait) < n + grants share.header.wait
    light true n some = omega arith
    light false n some = omega arith

marked-some : (want : Option Want) → is_some want ≡ true → is_some (marked_load want) ≡ true
marked-some None e = e
marked-some (Some want) e = refl

marked-none : (want : Option Want) → want ≡ None → marked_load want ≡ None
marked-none None e = refl
marked-none (Some want) e = cc

module _ (me home sender : ℕ) (room : Room) (share : LineShare) where
  abbrev Settling : Content → Outcome → Type 0
  Settling content outcome = IsSettling (me == home) content share outcome

  inv-settles : Settling Inv (on_inv home share)
  unfolding on_inv
  inv-settles =
      record {
        lighter = light (me == home);
        fewer = omega arith;
        sends = (refl, refl, tt);
        unwanted = λ none. (marked-none share.want none, refl);
        wanted = λ nak some. inr (refl, marked-some share.want some);
      }
    where
      light : (c : Bool) → 1 + 0 + cond c (grants share.header.wait) (grants share.header.wait) < 2 + grants share.header.wait
      light true = omega arith
      light false = omega arith

  granted : (at : me ≡ home) (grantee : Grantee) → grants share.header.wait ≡ grants (Invalidate grantee) → (list : Nodes) → (want : Option Want) → want ≡ share.want → Settling InvAck (grant grantee want list share)
  granted at Nobody is list want same = silent (me == home) InvAck share _ (omega arith)
  granted at (Node node) is list want same =
      record {
        lighter = light (me == home) (grind (arith, nat_tests));
        fewer = omega arith;
        sends = (refl, refl, tt);
        unwanted = λ none. (none, refl);
        wanted = λ nak some. inr (refl, some);
      }
    where
      light : (c : Bool) → c ≡ true → 1 + 0 + cond c (grants Idle) (grants share.header.wait) < 1 + grants share.header.wait
      light true e = omega arith
      light false e = cc
  granted at Me is list None same = silent (me == home) InvAck share _ (omega arith)
  granted at Me is list (Some want) same =
      record {
        lighter = light (me == home) (grind (arith, nat_tests));
        fewer = omega arith;
        sends = tt;
        unwanted = λ none. absurd (let n : ◌≡◌ {A = Option Want} (Some want) None = same ∙ none in cc);
        wanted = λ nak some. inl (refl, refl);
      }
    where
      light : (c : Bool) → c ≡ true → 0 + cond c (grants Idle) (grants share.header.wait) < 1 + grants share.header.wait
      light true e = omega arith
      light false e = cc

  called : (wait : Wait) → is_invalidate wait ≡ true → grants wait ≡ grants (Invalidate (grantee_of wait))
  called Idle e = refl
  called (Invalidate grantee) e = refl
  called (ForwardGet r) e = refl
  called (ForwardGetX r) e = refl

  acked : me ≡ home → is_invalidate share.header.wait ≡ true → Settling InvAck (on_inv_ack sender share)
  unfolding on_inv_ack
  acked at waits =
      if-either (Settling InvAck) (nat_le share.header.acks 1) _ _
      (λ _. granted at (grantee_of share.header.wait) (called share.header.wait waits) (unlist share.header.list sender) share.want refl)
      (λ _. silent (me == home) InvAck share _ (omega arith))

  put-settles : (words : Words) → (want : Option Want) → share.want ≡ want → waits_load want ≡ true → Settling (Put words) (on_put (me == home) words share)
  unfolding on_put
  put-settles words None is waits = cc
  put-settles words (Some want) is waits = go (me == home)
    where
      go : (c : Bool) → IsSettling c (Put words) share (on_put c words share)
      go true = record { lighter = omega arith; fewer = omega arith; sends = tt; unwanted = λ none. absurd (let n : ◌≡◌ {A = Option Want} (Some want) None = sym is ∙ none in cc); wanted = λ nak some. inl (refl, refl) }
      go false = record { lighter = omega arith; fewer = omega arith; sends = tt; unwanted = λ none. absurd (let n : ◌≡◌ {A = Option Want} (Some want) None = sym is ∙ none in cc); wanted = λ nak some. inl (refl, refl) }

  putx-settles : (words : Words) → waits_write share.want ≡ true → Settling (PutX words) (on_putx (me == home) words share)
  unfolding on_putx
  putx-settles words waits = go share.want refl waits (me == home)
    where
      out : (at_home : Bool) → Want → Outcome
      out at_home want = record {
        share = record share {
          copy = Exclusive (after_op want.op words);
          want = None;
          header = (cond at_home (record share.header { local = true; dirty = true; wait = Idle; list = none }) share.header);
        };
        sends = [];
        served = Own want.op words;
        done = true;
      }

      go : (want : Option Want) → share.want ≡ want → waits_write want ≡ true → (c : Bool) → IsSettling c (PutX words) share (elim want [ None ↦ sending share [] | Some w ↦ out c w ])
      go None is waits c = cc
      go (Some want) is waits true = record { lighter = omega arith; fewer = omega arith; sends = tt; unwanted = λ none. absurd (let n : ◌≡◌ {A = Option Want} (Some want) None = sym is ∙ none in cc); wanted = λ nak some. inl (refl, refl) }
      go (Some want) is waits false = record { lighter = omega arith; fewer = omega arith; sends = tt; unwanted = λ none. absurd (let n : ◌≡◌ {A = Option Want} (Some want) None = sym is ∙ none in cc); wanted = λ nak some. inl (refl, refl) }

  row-settles : (alone : Bool) (content : Content) → settles content ≡ true → meets me home sender alone content share ≡ true → Settling content (row_of me home sender room content share)
  unfolding row_of meets on_nak on_wb on_rpl on_shwb on_fack
  row-settles alone Get kind meet = cc
  row-settles alone GetX kind meet = cc
  row-settles alone (FwdGet r) kind meet = cc
  row-settles alone (FwdGetX r) kind meet = cc
  row-settles alone Nakc kind meet = cc
  row-settles alone Inv kind meet = inv-settles
  row-settles alone (Wb words) kind meet = silent (me == home) (Wb words) share _ (omega arith)
  row-settles alone Rpl kind meet = if-either (Settling Rpl) (is_idle share.header.wait && not share.header.dirty) _ _ (λ _. silent (me == home) Rpl share _ (omega arith)) (λ _. silent (me == home) Rpl share share.header (omega arith))
  row-settles alone (Put words) kind meet = put-settles words share.want refl (three_parts (waits_load share.want) alone _ meet).0
  row-settles alone (PutX words) kind meet = putx-settles words (three_parts (waits_write share.want) alone _ meet).0
  row-settles alone (Nak cause) kind meet =
      record { lighter = light (me == home); fewer = omega arith; sends = tt; unwanted = λ none. (refl, refl); wanted = λ nak some. cc }
    where
      light : (c : Bool) → 0 + cond c (grants share.header.wait) (grants share.header.wait) < 1 + grants share.header.wait
      light true = omega arith
      light false = omega arith
  row-settles alone InvAck kind meet = let both = three_parts (me == home) (is_invalidate share.header.wait) _ meet in acked (grind (arith, nat_tests)) both.1
  row-settles alone (ShWb words) kind meet = silent (me == home) (ShWb words) share _ (omega arith)
  row-settles alone FAck kind meet = silent (me == home) FAck share _ (omega arith)

  pub message-settles : (alone : Bool) (content : Content) → settles content ≡ true → Settling content (on_message me home sender alone room content share)
  unfolding on_message
  message-settles alone content kind =
      if-either (Settling content) (meets me home sender alone content share) _ _ (row-settles alone content kind) (λ _. silent (me == home) content share share.header (omega arith))
