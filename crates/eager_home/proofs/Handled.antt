-- The rows of messages that serve nothing, and which messages are which.
use Rattle.std.proofs.Common.{◌≡◌, ℕ, false, nat_le, [], refl}
use Rattle.line_map.specs.declared.body.Body.{Body}
use Rattle.op_model.specs.declared.messages.Msg.{Msg}
use Rattle.op_model.specs.declared.messages.Msg.TheVariants as msg
use Rattle.op_model.specs.Messages.{msg_content}
use Rattle.op_model.specs.Lines.{LineShare, Outcome, Room}
use Rattle.line_invariant.proofs.Public.{if-either}
use Rattle.eager_model.specs.Rows.{asks_shared, on_getx, on_inv_ack}
use Rattle.magic_node.specs.Nodes.{is_for_home}
use Rattle.magic_node.proofs.Public.{IsQuiet}
use Rattle.magic_node.proofs.Public as delayed
use Rattle.eager_home.specs.Nodes.{is_for_list}

pub getx-quiet : (room : Room) (src : ℕ) (share : LineShare) → IsQuiet (on_getx room src share)
unfolding on_getx
getx-quiet room src share = if-either IsQuiet (asks_shared room src share.header) _ _ (λ _. (refl, refl)) (λ _. delayed.getx-quiet room src share)

pub inv_ack-quiet : (home src : ℕ) (share : LineShare) → IsQuiet (on_inv_ack home src share)
unfolding on_inv_ack
inv_ack-quiet home src share = if-either IsQuiet (nat_le share.header.acks 1) _ _ (λ _. (refl, refl)) (λ _. (refl, refl))

pub inv_ack-sends : (home src : ℕ) (share : LineShare) → (on_inv_ack home src share).sends ≡ []
unfolding on_inv_ack
inv_ack-sends home src share = if-either (λ (o : Outcome). o.sends ≡ []) (nat_le share.header.acks 1) _ _ (λ _. refl) (λ _. refl)

-- each message is one that changes whom a home lists, a report of an owner, or one of the others
pub none-for-list : (m : Msg) → ((x : ℕ) → m ≡ msg.Get x → ⊥) → ((x : ℕ) → m ≡ msg.GetX x → ⊥) → ((x : ℕ) → m ≡ msg.InvAck x → ⊥) → ((x : ℕ) (y : Body) → m ≡ msg.Wb x y → ⊥) → ((x : ℕ) → m ≡ msg.Rpl x → ⊥) → is_for_list (msg_content m) ≡ false
none-for-list (msg.Get x) a b c d e = absurd (a x refl)
none-for-list (msg.GetX x) a b c d e = absurd (b x refl)
none-for-list (msg.FwdGet x y) a b c d e = refl
none-for-list (msg.FwdGetX x y) a b c d e = refl
none-for-list (msg.Inv x) a b c d e = refl
none-for-list (msg.Wb x y) a b c d e = absurd (d x y refl)
none-for-list (msg.Rpl x) a b c d e = absurd (e x refl)
none-for-list (msg.Put x y) a b c d e = refl
none-for-list (msg.PutX x y) a b c d e = refl
none-for-list (msg.Nak x y) a b c d e = refl
none-for-list (msg.InvAck x) a b c d e = absurd (c x refl)
none-for-list (msg.ShWb x y) a b c d e = refl
none-for-list (msg.FAck x) a b c d e = refl
none-for-list (msg.Nakc x) a b c d e = refl

pub none-reports : (m : Msg) → is_for_list (msg_content m) ≡ false → ((x : ℕ) (y : Body) → m ≡ msg.ShWb x y → ⊥) → ((x : ℕ) → m ≡ msg.FAck x → ⊥) → ((x : ℕ) → m ≡ msg.Nakc x → ⊥) → is_for_home (msg_content m) ≡ false
none-reports (msg.Get x) off a b c = cc
none-reports (msg.GetX x) off a b c = cc
none-reports (msg.FwdGet x y) off a b c = refl
none-reports (msg.FwdGetX x y) off a b c = refl
none-reports (msg.Inv x) off a b c = refl
none-reports (msg.Wb x y) off a b c = cc
none-reports (msg.Rpl x) off a b c = cc
none-reports (msg.Put x y) off a b c = refl
none-reports (msg.PutX x y) off a b c = refl
none-reports (msg.Nak x y) off a b c = refl
none-reports (msg.InvAck x) off a b c = cc
none-reports (msg.ShWb x y) off a b c = absurd (a x y refl)
none-reports (msg.FAck x) off a b c = absurd (b x refl)
none-reports (msg.Nakc x) off a b c = absurd (c x refl)
