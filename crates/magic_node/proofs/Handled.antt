-- The rows of messages that serve nothing, and of a Nak.
use Rattle.std.proofs.Common.{◌≡◌, ℕ, Bool, true, false, cond, not, ◌&&◌, ◌==◌, List, [], Option, Some, None, refl, sym, ap, ◌∙◌, unwrap_or}
use Rattle.std.specs.Prelude.{is_some}
use Rattle.std.proofs.lemmas.Bool.{eqb-true}
use Rattle.std.specs.FinMap as fin
use Rattle.line_map.specs.Sizes.{Sizes, line_of, home_of}
use Rattle.line_map.specs.declared.body.Body.{Body}
use Rattle.op_model.specs.declared.messages.Msg.{Msg}
use Rattle.op_model.specs.declared.messages.Msg.TheVariants as msg
use Rattle.op_model.specs.declared.messages.NakCause.{NakCause}
use Rattle.op_model.specs.Messages.{msg_content}
use Rattle.op_model.specs.declared.state.Want.{Want}
use Rattle.op_model.specs.Operations.{Words}
use Rattle.op_model.specs.Lines.{Copy, LineShare, NoService, Outcome, Room, is_idle, is_pending, is_outstanding}
use Rattle.op_model.specs.Shares.{Share, first_header, copy_of, header_of, line_share, want_on, want_after, header_in, Copies, copy_in, Headers}
use Rattle.op_model.specs.Tables.Home.{on_getx, on_rpl, no_other}
use Rattle.op_model.specs.Tables.Remote.{on_nak, on_put, on_putx}
use Rattle.op_model.proofs.Public.{some_held}
use Rattle.line_invariant.proofs.Public.{if-either}
use Rattle.cpu_cache.specs.Processors.{ProcView}
use Rattle.msg_words.specs.SendList.{SendList}
use Rattle.magic_node.specs.Nodes.{is_for_home}
use Rattle.node_share.specs.Parts.{share_of, AreCopies, AreHeaders, DoesRow}
use Rattle.node_share.proofs.Public.{copy-kept, on-line, put-same, row-share, sent-none, some-waits}
use Rattle.node_share.proofs.Public.{want-gone}

abbrev pub IsQuiet : Outcome → Type 0
IsQuiet o = (o.served ≡ NoService) × (o.done ≡ false)

pub getx-quiet : (room : Room) (src : ℕ) (share : LineShare) → IsQuiet (on_getx room src share)
unfolding on_getx
getx-quiet room src share =
    if-either IsQuiet (is_pending share.header) _ _ (λ _. (refl, refl)) (λ _.
    (if-either IsQuiet (share.header.dirty && share.header.local) _ _ (λ _. (refl, refl)) (λ _.
    (if-either IsQuiet (share.header.dirty && room.full) _ _ (λ _. (refl, refl)) (λ _.
    (if-either IsQuiet share.header.dirty _ _ (λ _. (refl, refl)) (λ _.
    (if-either IsQuiet (no_other src share.header.list) _ _ (λ _. (refl, refl)) (λ _.
    (if-either IsQuiet room.full _ _ (λ _. (refl, refl)) (λ _. (refl, refl))))))))))))

pub rpl-quiet : (src : ℕ) (share : LineShare) → IsQuiet (on_rpl src share)
unfolding on_rpl
rpl-quiet src share = if-either IsQuiet (is_idle share.header.wait && not share.header.dirty) _ _ (λ _. (refl, refl)) (λ _. (refl, refl))

some-on : (sizes : Sizes) (wanted : Option Want) (line : ℕ) → is_outstanding (want_on sizes wanted line) ≡ true → (w : Want) × (wanted ≡ Some w)
some-on sizes None line e = cc
some-on sizes (Some w) line e = (w, refl)

pub nak-does : (sizes : Sizes) (node line : ℕ) (proc proc' : ProcView) (copies : Copies) (headers : Headers) (out : SendList) → AreCopies copies → AreHeaders sizes node headers → is_outstanding (want_on sizes proc.want line) ≡ true → proc' ≡ record proc { want = None } →
    DoesRow sizes node (share_of proc copies headers) (share_of proc' copies headers) out out line on_nak
unfolding on_nak copy_of header_in
nak-does sizes node line proc proc' copies headers out held has waits proc-is = record {
  share = row-share sizes node line proc copies headers on_nak proc' copies headers (ap (λ p. p.place) proc-is)
      (let s = some-on sizes proc.want line waits in ap (λ p. p.want) proc-is ∙ sym (want-gone sizes proc.want line s.0 s.1 (on-line sizes proc.want line s.0 s.1 waits)))
      (sym (copy-kept copies line held)) (kept (node == home_of sizes line) refl);
  sends = sent-none out;
}
  where
    kept : (b : Bool) → (node == home_of sizes line) ≡ b → headers ≡ cond b (fin.insert headers line (unwrap_or (fin.get headers line) (first_header sizes))) headers
    kept true e = sym (put-same headers line (unwrap_or (fin.get headers line) (first_header sizes)) (some_held (fin.get headers line) (first_header sizes) (has line (sym (eqb-true node (home_of sizes line) e)))))
    kept false e = refl

-- these send nothing
pub rpl-sends : (src : ℕ) (share : LineShare) → (on_rpl src share).sends ≡ []
unfolding on_rpl
rpl-sends src share = if-either (λ (o : Outcome). o.sends ≡ []) (is_idle share.header.wait && not share.header.dirty) _ _ (λ _. refl) (λ _. refl)

pub put-sends : (b : Bool) (words : Words) (share : LineShare) → (on_put b words share).sends ≡ []
unfolding on_put
put-sends true words share = refl
put-sends false words share = refl

pub putx-sends : (b : Bool) (words : Words) (share : LineShare) → (on_putx b words share).sends ≡ []
unfolding on_putx
putx-sends b words share = by share.want
  where
    by : (w : Option Want) → (on_putx b words (record share { want = w })).sends ≡ []
    by None = refl
    by (Some w) = refl

pub some-wanted : (sizes : Sizes) (wanted : Option Want) (line : ℕ) → is_outstanding (want_on sizes wanted line) ≡ true → is_some wanted ≡ true
some-wanted sizes None line e = cc
some-wanted sizes (Some w) line e = refl

-- each message is one that only a home takes, or one of the others
pub none-for-home : (m : Msg) → ((x : ℕ) → m ≡ msg.Get x → ⊥) → ((x : ℕ) → m ≡ msg.GetX x → ⊥) → ((x : ℕ) (y : Body) → m ≡ msg.Wb x y → ⊥) → ((x : ℕ) → m ≡ msg.Rpl x → ⊥) → ((x : ℕ) → m ≡ msg.InvAck x → ⊥) → ((x : ℕ) (y : Body) → m ≡ msg.ShWb x y → ⊥) → ((x : ℕ) → m ≡ msg.FAck x → ⊥) → ((x : ℕ) → m ≡ msg.Nakc x → ⊥) → is_for_home (msg_content m) ≡ false
none-for-home (msg.Get x) a b c d e f g h = absurd (a x refl)
none-for-home (msg.GetX x) a b c d e f g h = absurd (b x refl)
none-for-home (msg.FwdGet x y) a b c d e f g h = refl
none-for-home (msg.FwdGetX x y) a b c d e f g h = refl
none-for-home (msg.Inv x) a b c d e f g h = refl
none-for-home (msg.Wb x y) a b c d e f g h = absurd (c x y refl)
none-for-home (msg.Rpl x) a b c d e f g h = absurd (d x refl)
none-for-home (msg.Put x y) a b c d e f g h = refl
none-for-home (msg.PutX x y) a b c d e f g h = refl
none-for-home (msg.Nak x y) a b c d e f g h = refl
none-for-home (msg.InvAck x) a b c d e f g h = absurd (e x refl)
none-for-home (msg.ShWb x y) a b c d e f g h = absurd (f x y refl)
none-for-home (msg.FAck x) a b c d e f g h = absurd (g x refl)
none-for-home (msg.Nakc x) a b c d e f g h = absurd (h x refl)

pub none-away : (m : Msg) → is_for_home (msg_content m) ≡ false → ((x : ℕ) (y : ℕ) → m ≡ msg.FwdGet x y → ⊥) → ((x : ℕ) (y : ℕ) → m ≡ msg.FwdGetX x y → ⊥) → ((x : ℕ) → m ≡ msg.Inv x → ⊥) → ((x : ℕ) (y : Body) → m ≡ msg.Put x y → ⊥) → ((x : ℕ) (y : Body) → m ≡ msg.PutX x y → ⊥) → ((x : ℕ) (y : NakCause) → m ≡ msg.Nak x y → ⊥) → ⊥
none-away (msg.Get x) off a b c d e f = cc
none-away (msg.GetX x) off a b c d e f = cc
none-away (msg.FwdGet x y) off a b c d e f = absurd (a x y refl)
none-away (msg.FwdGetX x y) off a b c d e f = absurd (b x y refl)
none-away (msg.Inv x) off a b c d e f = absurd (c x refl)
none-away (msg.Wb x y) off a b c d e f = cc
none-away (msg.Rpl x) off a b c d e f = cc
none-away (msg.Put x y) off a b c d e f = absurd (d x y refl)
none-away (msg.PutX x y) off a b c d e f = absurd (e x y refl)
none-away (msg.Nak x y) off a b c d e f = absurd (f x y refl)
none-away (msg.InvAck x) off a b c d e f = cc
none-away (msg.ShWb x y) off a b c d e f = cc
none-away (msg.FAck x) off a b c d e f = cc
none-away (msg.Nakc x) off a b c d e f = cc
