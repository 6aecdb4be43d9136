-- A row refuses for want of a link only a Get at the home, which keeps its share, and only where a pending line holds a link or a line
-- is called in: of all rows two send such a Nak.
use Rattle.std.proofs.Common.{◌≡◌, ℕ, Bool, true, false, cond, nat_le, ◌||◌, ◌==◌, ◌&&◌, not, ◌⊎◌, inl, inr, List, [], ◌∷◌, ◌++◌, refl, arith, sym, ◌∙◌, Option, Some, None}
use Rattle.std.proofs.lemmas.Bool.{and_parts}
use Rattle.std.specs.List.{list_any}
use Rattle.op_model.specs.Events.Node.{is_get, messages}
use Rattle.op_model.specs.Lines.{Header, LineShare, Outcome, Room, is_exclusive, is_idle, is_pending, to_each, words_of}
use Rattle.op_model.specs.Messages.{Content, FAck, FwdGet, FwdGetX, Get, GetX, Inv, InvAck, Nak, Nakc, Put, PutX, Rpl, ShWb, Wb, msg_content, msg_content-message}
use Rattle.op_model.specs.Nodes.{in_order, unlist}
use Rattle.op_model.specs.Run.Counts.{is_nak}
use Rattle.op_model.specs.Tables.Home.{grant, grantee_of, lacks_link, no_other, on_fack, on_get, on_getx, on_inv_ack, on_nakc, on_rpl, on_shwb, on_wb, wants_victim}
use Rattle.op_model.specs.Tables.Remote.{meets, on_fwd_get, on_fwd_getx, on_inv, on_message, on_nak, on_put, on_putx, row_of}
use Rattle.op_model.specs.declared.messages.Msg.{Msg}
use Rattle.op_model.specs.declared.state.Want.{Want}
use Rattle.line_invariant.specs.Types.{Grantee, Me, NoLink, Nobody, Node}
use Rattle.line_invariant.proofs.Public.{if-either}
use Rattle.lane_bounds.proofs.Public.{finds}

-- a row refuses for want of a link
abbrev pub refuses_row : Outcome → Bool
refuses_row outcome = list_any (λ send. is_nak NoLink send.1) outcome.sends

any-finds : (sends : List (ℕ × Msg)) → list_any (λ send. is_nak NoLink (msg_content send.1)) sends ≡ finds (is_nak NoLink) sends
any-finds [] = refl
any-finds (s ∷ sends) = let ih = any-finds sends in grind arith

-- a row refuses where its messages do
pub any-tagged : (line : ℕ) (sends : List (ℕ × Content)) (g : List (ℕ × Msg)) → finds (is_nak NoLink) g ≡ false → list_any (λ send. is_nak NoLink (msg_content send.1)) (messages line sends ++ g) ≡ list_any (λ send. is_nak NoLink send.1) sends
any-tagged line [] g none = any-finds g ∙ none
any-tagged line (s ∷ sends) g none = λ i. is_nak NoLink (msg_content-message line s.1 i) || any-tagged line sends g none i

pub record IsReason (me home src : ℕ) (room : Room) (content : Content) (row : LineShare) (outcome : Outcome) : Type 0 where
  pub get : is_get content ≡ true
  pub at_home : (me == home) ≡ true
  pub same : outcome.share ≡ row
  pub why : (room.link_pending ≡ true) ⊎ (wants_victim room src row.header ≡ true)

abbrev Clear : Outcome → Type 0
Clear o = refuses_row o ≡ false

pub clear-each : (nodes : List ℕ) → list_any {X = ℕ × Content} (λ send. is_nak NoLink send.1) (to_each nodes) ≡ false
clear-each [] = refl
clear-each (n ∷ ns) = clear-each ns

module _ (room : Room) (row : LineShare) where
  abbrev header : Header
  header = row.header

  clear-getx : (p : ℕ) → Clear (on_getx room p row)
  unfolding on_getx
  clear-getx p =
      if-either Clear (is_pending header) _ _ (λ _. refl) (λ _.
      (if-either Clear (header.dirty && header.local) _ _ (λ _. refl) (λ _.
      (if-either Clear (header.dirty && room.full) _ _ (λ _. refl) (λ _.
      (if-either Clear header.dirty _ _ (λ _. refl) (λ _.
      (if-either Clear (no_other p header.list) _ _ (λ _. refl) (λ _.
      (if-either Clear room.full _ _ (λ _. refl) (λ _. clear-each (in_order (unlist header.list p)))))))))))))

  clear-grant : (grantee : Grantee) (want : Option Want) (p : ℕ) → Clear (grant grantee want (unlist header.list p) row)
  clear-grant Nobody want p = refl
  clear-grant (Node n) want p = refl
  clear-grant Me None p = refl
  clear-grant Me (Some want) p = refl

  clear-putx : (at_home : Bool) (words : List ℕ) (want : Option Want) → Clear (on_putx at_home words (record row { want = want }))
  unfolding on_putx
  clear-putx at_home words None = refl
  clear-putx at_home words (Some want) = refl

  clear-put : (at_home : Bool) (words : List ℕ) → Clear (on_put at_home words row)
  unfolding on_put
  clear-put true words = refl
  clear-put false words = refl

  module _ (me home src : ℕ) where
    abbrev Reasons : Content → Outcome → Type 0
    Reasons content o = refuses_row o ≡ true → IsReason me home src room content row o

    clear : (content : Content) (o : Outcome) → Clear o → Reasons content o
    clear content o e r = absurd (let n : false ≡ true = sym e ∙ r in cc)

    why-get : (me == home) ≡ true → Reasons Get (on_get room src row)
    unfolding on_get wants_victim
    why-get here =
        if-either (Reasons Get) (is_pending header) _ _ (λ _. clear Get _ refl) (λ idle.
        (if-either (Reasons Get) (lacks_link room src header && room.link_pending) _ _ (λ both _. record { get = refl; at_home = here; same = refl; why = inl (and_parts (lacks_link room src header) room.link_pending both).1 }) (λ not_both.
        (if-either (Reasons Get) (lacks_link room src header && room.full) _ _ (λ _. clear Get _ refl) (λ not_full.
        (if-either (Reasons Get) (lacks_link room src header) _ _ (λ lacks _. record { get = refl; at_home = here; same = refl; why = inr (all (is_pending header) (lacks_link room src header) room.link_pending room.full idle lacks not_both not_full) }) (λ _.
        (if-either (Reasons Get) (header.dirty && header.local) _ _ (λ _. clear Get _ refl) (λ _.
        (if-either (Reasons Get) (header.dirty && room.full) _ _ (λ _. clear Get _ refl) (λ _.
        (if-either (Reasons Get) header.dirty _ _ (λ _. clear Get _ refl) (λ _. clear Get _ refl)))))))))))))
      where
        all : (a b c d : Bool) → a ≡ false → b ≡ true → (b && c) ≡ false → (b && d) ≡ false → (not a && b && not c && not d) ≡ true
        all a b c d p q r s = grind arith

    clear-fwd : (r : ℕ) (first second : Content) → is_nak NoLink first ≡ false → is_nak NoLink second ≡ false → (c : Bool) → list_any {X = ℕ × Content} (λ send. is_nak NoLink send.1) (cond c ((home, first) ∷ []) ((r, first) ∷ (home, second) ∷ [])) ≡ false
    clear-fwd r first second e f true = rw e
    clear-fwd r first second e f false = rw (e, f)

    why-row : (alone : Bool) (content : Content) → meets me home src alone content row ≡ true → Reasons content (row_of me home src room content row)
    unfolding row_of meets on_inv on_nak on_shwb on_fwd_get on_fwd_getx on_inv_ack on_fack on_nakc on_wb on_rpl
    why-row alone Get meet = why-get (grind arith)
    why-row alone GetX meet = clear GetX _ (clear-getx src)
    why-row alone (FwdGet r) meet = if-either (Reasons (FwdGet r)) (is_exclusive row.copy) _ _ (λ _. clear (FwdGet r) _ (clear-fwd r (Put (words_of row.copy)) (ShWb (words_of row.copy)) refl refl (r == home))) (λ _. clear (FwdGet r) _ refl)
    why-row alone (FwdGetX r) meet = if-either (Reasons (FwdGetX r)) (is_exclusive row.copy) _ _ (λ _. clear (FwdGetX r) _ (clear-fwd r (PutX (words_of row.copy)) FAck refl refl (r == home))) (λ _. clear (FwdGetX r) _ refl)
    why-row alone Inv meet = clear Inv _ refl
    why-row alone (Wb words) meet = clear (Wb words) _ refl
    why-row alone Rpl meet = if-either (Reasons Rpl) (is_idle header.wait && not header.dirty) _ _ (λ _. clear Rpl _ refl) (λ _. clear Rpl _ refl)
    why-row alone (Put words) meet = clear (Put words) _ (clear-put (me == home) words)
    why-row alone (PutX words) meet = clear (PutX words) _ (clear-putx (me == home) words row.want)
    why-row alone (Nak cause) meet = clear (Nak cause) _ refl
    why-row alone InvAck meet = if-either (Reasons InvAck) (nat_le header.acks 1) _ _ (λ _. clear InvAck _ (clear-grant (grantee_of header.wait) row.want src)) (λ _. clear InvAck _ refl)
    why-row alone (ShWb words) meet = clear (ShWb words) _ refl
    why-row alone FAck meet = clear FAck _ refl
    why-row alone Nakc meet = clear Nakc _ refl

    pub why-refused : (alone : Bool) (content : Content) → Reasons content (on_message me home src alone room content row)
    unfolding on_message
    why-refused alone content = if-either (Reasons content) (meets me home src alone content row) _ _ (λ meet. why-row alone content meet) (λ _. clear content _ refl)
