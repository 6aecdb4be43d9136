-- What a row sends is lighter than the message that is taken.
-- By the tables, row by row. A Get or GetX meets its row only from another node than the home, so there are two nodes at least, and
-- a forward or an Inv to each listed node is lighter. A Get that calls a line in sends its refusal alone besides.
use Rattle.std.proofs.Common.{◌≡◌, ◌≢◌, ℕ, ◌+◌, ◌*◌, ◌<◌, Bool, true, false, cond, nat_le, ◌==◌, ◌&&◌, not, List, [], ◌∷◌, refl, arith, Option, Some, None}
use Rattle.std.proofs.lemmas.Bool.Decides.{nat_tests}
use Rattle.op_model.specs.declared.messages.NakCause.TheVariants.{Budget, Gone, NoLink, Pending}
use Rattle.op_model.specs.declared.state.Grantee.{Grantee}
use Rattle.op_model.specs.declared.state.Grantee.TheVariants.{Me, Nobody, Node}
use Rattle.op_model.specs.declared.state.Want.{Want}
use Rattle.op_model.specs.Events.Node.{is_get}
use Rattle.op_model.specs.Lines.{Header, LineShare, Outcome, Room, is_exclusive, is_idle, is_pending, owner, to_listed, words_of}
use Rattle.op_model.specs.Messages.{Content, FAck, FwdGet, FwdGetX, Get, GetX, Inv, InvAck, Nak, Nakc, Put, PutX, Rpl, ShWb, Wb}
use Rattle.op_model.specs.Nodes.{Nodes, listed, listings, unlist}
use Rattle.op_model.specs.Run.Weight.{weight_of}
use Rattle.op_model.specs.Tables.Home.{grant, grantee_of, lacks_link, no_other, on_fack, on_get, on_getx, on_inv_ack, on_nakc, on_rpl, on_shwb, on_wb, wants_victim}
use Rattle.op_model.specs.Tables.Remote.{meets, on_fwd_get, on_fwd_getx, on_inv, on_message, on_nak, on_put, on_putx, row_of}
use Rattle.op_model.proofs.Public.{second_of_four}
use Rattle.line_invariant.proofs.Public.{if-either}
use Rattle.rest_laws.proofs.Sends.{sends-cons, sends-listed, sends-none, sends_weight}

module _ (nodes : ℕ) where
  abbrev pub Below : ℕ → Outcome → Type 0
  Below n o = sends_weight (weight_of nodes) nodes o.sends < n

  none : (n : ℕ) → 0 < n → sends_weight (weight_of nodes) nodes [] < n
  none n h = let z = sends-none (weight_of nodes) nodes in omega arith

  pub one : (node : ℕ) (content : Content) (n : ℕ) → weight_of nodes content < n → sends_weight (weight_of nodes) nodes ((node, content) ∷ []) < n
  one node content n h = let z = sends-none (weight_of nodes) nodes in let c = sends-cons (weight_of nodes) nodes (node, content) [] in omega arith

  two : (a : ℕ) (first : Content) (b : ℕ) (second : Content) (n : ℕ) → weight_of nodes first + weight_of nodes second < n → sends_weight (weight_of nodes) nodes ((a, first) ∷ (b, second) ∷ []) < n
  two a first b second n h = let z = sends-none (weight_of nodes) nodes in let c = sends-cons (weight_of nodes) nodes (a, first) ((b, second) ∷ []) in let d = sends-cons (weight_of nodes) nodes (b, second) [] in omega arith

  module _ (room : Room) (share : LineShare) where
    abbrev header : Header
    header = share.header

    get-below : (p : ℕ) → 3 < 3 * nodes → Below (3 * nodes) (on_get room p share)
    unfolding on_get
    get-below p more =
        if-either (Below (3 * nodes)) (is_pending header) _ _ (λ _. one p (Nak Pending) _ (omega arith)) (λ _.
        (if-either (Below (3 * nodes)) (lacks_link room p header && room.link_pending) _ _ (λ _. one p (Nak NoLink) _ (omega arith)) (λ _.
        (if-either (Below (3 * nodes)) (lacks_link room p header && room.full) _ _ (λ _. one p (Nak Budget) _ (omega arith)) (λ _.
        (if-either (Below (3 * nodes)) (lacks_link room p header) _ _ (λ _. one p (Nak NoLink) _ (omega arith)) (λ _.
        (if-either (Below (3 * nodes)) (header.dirty && header.local) _ _ (λ _. one p (Put (words_of share.copy)) _ (omega arith)) (λ _.
        (if-either (Below (3 * nodes)) (header.dirty && room.full) _ _ (λ _. one p (Nak Budget) _ (omega arith)) (λ _.
        (if-either (Below (3 * nodes)) header.dirty _ _ (λ _. one (owner header) (FwdGet p) _ more) (λ _. one p (Put header.memory) _ (omega arith))))))))))))))

    getx-below : (p home : ℕ) → 3 < 3 * nodes → home < nodes → listed header.list home ≡ false → Below (3 * nodes) (on_getx room p share)
    unfolding on_getx
    getx-below p home more within off =
        if-either (Below (3 * nodes)) (is_pending header) _ _ (λ _. one p (Nak Pending) _ (omega arith)) (λ _.
        (if-either (Below (3 * nodes)) (header.dirty && header.local) _ _ (λ _. one p (PutX (words_of share.copy)) _ (omega arith)) (λ _.
        (if-either (Below (3 * nodes)) (header.dirty && room.full) _ _ (λ _. one p (Nak Budget) _ (omega arith)) (λ _.
        (if-either (Below (3 * nodes)) header.dirty _ _ (λ _. one (owner header) (FwdGetX p) _ more) (λ _.
        (if-either (Below (3 * nodes)) (no_other p header.list) _ _ (λ _. one p (PutX header.memory) _ (omega arith)) (λ _.
        (if-either (Below (3 * nodes)) room.full _ _ (λ _. one p (Nak Budget) _ (omega arith)) (λ _. all)))))))))))
      where
        all : sends_weight (weight_of nodes) nodes (to_listed (unlist header.list p)) < 3 * nodes
        all = let gone : listed (unlist header.list p) home ≡ false = grind (arith, nat_tests, listings) in let l = sends-listed (weight_of nodes) nodes (unlist header.list p) home within gone in omega arith

    grant-below : (grantee : Grantee) (want : Option Want) (list : Nodes) → Below 2 (grant grantee want list share)
    grant-below Nobody want list = none 2 (omega arith)
    grant-below (Node n) want list = one n (PutX header.memory) 2 (omega arith)
    grant-below Me None list = none 2 (omega arith)
    grant-below Me (Some want) list = none 2 (omega arith)

    putx-below : (at_home : Bool) (words : List ℕ) (want : Option Want) → Below 1 (on_putx at_home words (record share { want = want }))
    unfolding on_putx
    putx-below at_home words None = none 1 (omega arith)
    putx-below at_home words (Some want) = none 1 (omega arith)

    put-below : (at_home : Bool) (words : List ℕ) → Below 1 (on_put at_home words share)
    unfolding on_put
    put-below true words = none 1 (omega arith)
    put-below false words = none 1 (omega arith)

    module _ (me home src : ℕ) (within : me < nodes) (inside : src < nodes) (off : me ≡ home → listed header.list me ≡ false) where
      asked : (a b c d : Bool) → (a && b && c) ≡ true → (a ≡ true) × (b ≡ true)
      asked a b c d e = (grind arith, grind arith)

      -- an asker isn't the home, so there are two nodes
      apart : (me == home) ≡ true → not (src == home) ≡ true → (me ≡ home) × (3 < 3 * nodes)
      apart e f = let same : me ≡ home = grind (arith, nat_tests) in let far : src ≢ home = grind (arith, nat_tests) in (same, grind arith)

      back : (r : ℕ) (first second : Content) → weight_of nodes first ≡ 1 → weight_of nodes second ≡ 1 → (c : Bool) → sends_weight (weight_of nodes) nodes (cond c ((home, first) ∷ []) ((r, first) ∷ (home, second) ∷ [])) < 3
      back r first second e f true = one home first 3 (omega arith)
      back r first second e f false = two r first home second 3 (omega arith)

      row-below : (alone : Bool) (content : Content) → meets me home src alone content share ≡ true → Below (weight_of nodes content) (row_of me home src room content share)
      unfolding row_of meets on_inv on_nak on_shwb on_fwd_get on_fwd_getx on_inv_ack on_fack on_nakc on_wb on_rpl
      row-below alone Get meet = let a = asked (me == home) (not (src == home)) _ true meet in let two = apart a.0 a.1 in get-below src two.1
      row-below alone GetX meet = let a = asked (me == home) (not (src == home)) _ true meet in let two = apart a.0 a.1 in getx-below src me two.1 within (off two.0)
      row-below alone (FwdGet r) meet = if-either (Below 3) (is_exclusive share.copy) _ _ (λ _. back r (Put (words_of share.copy)) (ShWb (words_of share.copy)) refl refl (r == home)) (λ _. two r (Nak Gone) home Nakc 3 (omega arith))
      row-below alone (FwdGetX r) meet = if-either (Below 3) (is_exclusive share.copy) _ _ (λ _. back r (PutX (words_of share.copy)) FAck refl refl (r == home)) (λ _. two r (Nak Gone) home Nakc 3 (omega arith))
      row-below alone Inv meet = one home InvAck 3 (omega arith)
      row-below alone (Wb words) meet = none 1 (omega arith)
      row-below alone Rpl meet = if-either (Below 1) (is_idle header.wait && not header.dirty) _ _ (λ _. none 1 (omega arith)) (λ _. none 1 (omega arith))
      row-below alone (Put words) meet = put-below (me == home) words
      row-below alone (PutX words) meet = putx-below (me == home) words share.want
      row-below alone (Nak cause) meet = none 1 (omega arith)
      row-below alone InvAck meet = if-either (Below 2) (nat_le header.acks 1) _ _ (λ _. grant-below (grantee_of header.wait) share.want _) (λ _. none 2 (omega arith))
      row-below alone (ShWb words) meet = none 1 (omega arith)
      row-below alone FAck meet = none 1 (omega arith)
      row-below alone Nakc meet = none 1 (omega arith)

      pub message-below : (alone : Bool) (content : Content) → Below (weight_of nodes content) (on_message me home src alone room content share)
      unfolding on_message
      message-below alone content = if-either (Below (weight_of nodes content)) (meets me home src alone content share) _ _ (λ meet. row-below alone content meet) (λ _. none _ (positive content))
        where
          positive : (content : Content) → 0 < weight_of nodes content
          positive Get = omega arith
          positive GetX = omega arith
          positive (FwdGet r) = omega arith
          positive (FwdGetX r) = omega arith
          positive Inv = omega arith
          positive (Wb words) = omega arith
          positive Rpl = omega arith
          positive (Put words) = omega arith
          positive (PutX words) = omega arith
          positive (Nak cause) = omega arith
          positive InvAck = omega arith
          positive (ShWb words) = omega arith
          positive FAck = omega arith
          positive Nakc = omega arith

    -- a Get for which a line is called in is refused
    pub refused-below : (me home src : ℕ) (alone : Bool) (content : Content) → is_get content ≡ true → wants_victim room src header ≡ true → Below 2 (on_message me home src alone room content share)
    unfolding on_message row_of on_get wants_victim
    refused-below me home src alone Get get wants =
        if-either (Below 2) (meets me home src alone Get share) _ _ (λ _.
        (if-either (Below 2) (is_pending header) _ _ (λ _. one src (Nak Pending) 2 (omega arith)) (λ _.
        (if-either (Below 2) (lacks_link room src header && room.link_pending) _ _ (λ _. one src (Nak NoLink) 2 (omega arith)) (λ _.
        (if-either (Below 2) (lacks_link room src header && room.full) _ _ (λ _. one src (Nak Budget) 2 (omega arith)) (λ _.
        (if-either (Below 2) (lacks_link room src header) _ _ (λ _. one src (Nak NoLink) 2 (omega arith)) (λ has. absurd (second_of_four (is_pending header) (lacks_link room src header) room.link_pending room.full wants has))))))))))
        (λ _. none 2 (omega arith))
    refused-below me home src alone GetX get wants = cc
    refused-below me home src alone (FwdGet r) get wants = cc
    refused-below me home src alone (FwdGetX r) get wants = cc
    refused-below me home src alone Inv get wants = cc
    refused-below me home src alone (Wb words) get wants = cc
    refused-below me home src alone Rpl get wants = cc
    refused-below me home src alone (Put words) get wants = cc
    refused-below me home src alone (PutX words) get wants = cc
    refused-below me home src alone (Nak cause) get wants = cc
    refused-below me home src alone InvAck get wants = cc
    refused-below me home src alone (ShWb words) get wants = cc
    refused-below me home src alone FAck get wants = cc
    refused-below me home src alone Nakc get wants = cc
