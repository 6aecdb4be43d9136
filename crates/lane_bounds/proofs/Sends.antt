-- What a row sends: write-backs and hints by evictions alone, and no node but a home sends to itself.
-- Each row names whom it answers: the home, or a requester who is another node.
use Rattle.std.proofs.Common.{◌≡◌, ◌≢◌, ℕ, Bool, true, false, cond, nat_le, ◌==◌, ◌&&◌, not, List, [], ◌∷◌, refl, arith, subst, sym, ◌∙◌, Option, Some, None, Result, Ok, Err}
use Rattle.std.proofs.lemmas.Bool.{ne_eqb}
use Rattle.std.proofs.lemmas.Bool.Decides.{nat_tests}
use Rattle.std.specs.List.{list_any}
use Rattle.op_model.specs.Events.Step.{is_departure}
use Rattle.op_model.specs.Lines.{Header, LineShare, Outcome, Room, is_exclusive, is_idle, is_pending, nobody_listed, to_each, words_of}
use Rattle.op_model.specs.Messages.{Content, FAck, FwdGet, FwdGetX, Get, GetX, Inv, InvAck, Nak, Nakc, Put, PutX, Rpl, ShWb, Wb}
use Rattle.op_model.specs.Nodes.{in_order, unlist}
use Rattle.op_model.specs.Operations.{is_load}
use Rattle.op_model.specs.Tables.Home.{grant, grantee_of, lacks_link, no_other, on_fack, on_get, on_getx, on_inv_ack, on_nakc, on_rpl, on_shwb, on_wb}
use Rattle.op_model.specs.Tables.Processor.{ask, begin_at_home, begin_op, evict, fits, hit, holds_link, leave_remote, reclaim, serves}
use Rattle.op_model.specs.Tables.Remote.{meets, on_fwd_get, on_fwd_getx, on_inv, on_message, on_nak, on_put, on_putx, row_of}
use Rattle.op_model.specs.declared.events.Cause.{Cause}
use Rattle.op_model.specs.declared.events.Class.{Class}
use Rattle.op_model.specs.declared.events.EvictKind.TheVariants as way
use Rattle.op_model.specs.declared.events.EvictKind.{EvictKind}
use Rattle.op_model.specs.declared.operations.Op.{Op}
use Rattle.op_model.specs.declared.state.Want.{Want}
use Rattle.line_invariant.specs.Line.{addressed}
use Rattle.line_invariant.specs.Types.{Gone, Grantee, Me, Nobody, Node}
use Rattle.line_invariant.proofs.Public.{if-either}

-- no write-back and no hint is sent
abbrev pub Quiet : Outcome → Type 0
Quiet o = list_any (λ s. is_departure s.1) o.sends ≡ false

abbrev pub QuietOk : Result Outcome Cause → Type 0
QuietOk r = (o : Outcome) → r ≡ Ok o → Quiet o

bad : (P : Outcome → Type 0) (c : Cause) (o : Outcome) → ◌≡◌ {A = Result Outcome Cause} (Err c) (Ok o) → P o
bad P c o e = absurd (cc)

fine : (P : Outcome → Type 0) (x : Outcome) → P x → (o : Outcome) → ◌≡◌ {A = Result Outcome Cause} (Ok x) (Ok o) → P o
fine P x a o e = let is : x ≡ o = cc in subst P is a

pub quiet-each : (nodes : List ℕ) → list_any (λ s. is_departure s.1) (to_each nodes) ≡ false
quiet-each [] = refl
quiet-each (n ∷ ns) = quiet-each ns

module _ (room : Room) (row : LineShare) where
  abbrev header : Header
  header = row.header

  pub quiet-hit : (op : Op) → Quiet (hit op row)
  unfolding hit
  quiet-hit op = refl

  quiet-ask : (home : ℕ) (op : Op) → Quiet (ask home op row)
  unfolding ask
  quiet-ask home op = if-either Quiet (is_load op.kind) _ _ (λ _. refl) (λ _. refl)

  pub quiet-begin : (me home : ℕ) (op : Op) → QuietOk (begin_op me home room op row)
  unfolding begin_op begin_at_home
  quiet-begin me home op =
      if-either QuietOk (serves op row.copy) _ _ (λ _. bad Quiet _) (λ _.
      (if-either QuietOk (me == home) _ _ (λ _.
      (if-either QuietOk (is_pending header) _ _ (λ _. bad Quiet _) (λ _.
      (if-either QuietOk (not header.dirty && is_load op.kind) _ _ (λ _. fine Quiet _ refl) (λ _.
      (if-either QuietOk (not header.dirty && nobody_listed header.list) _ _ (λ _. fine Quiet _ refl) (λ _.
      (if-either QuietOk room.full _ _ (λ _. bad Quiet _) (λ free.
      (if-either QuietOk (not header.dirty) _ _ (λ _. fine Quiet _ (quiet-each (in_order header.list))) (λ _.
      (if-either QuietOk (is_load op.kind) _ _ (λ _. fine Quiet _ refl) (λ _. fine Quiet _ refl)))))))))))))
      (λ _. fine Quiet _ (quiet-ask home op))))

  pub quiet-reclaim : QuietOk (reclaim room row)
  unfolding reclaim
  quiet-reclaim =
      if-either QuietOk (not (holds_link room header)) _ _ (λ _. bad Quiet _) (λ _.
      (if-either QuietOk (is_pending header) _ _ (λ _. bad Quiet _) (λ _.
      (if-either QuietOk room.full _ _ (λ _. bad Quiet _) (λ _. fine Quiet _ (quiet-each (in_order header.list)))))))

  quiet-get : (p : ℕ) → Quiet (on_get room p row)
  unfolding on_get
  quiet-get p =
      if-either Quiet (is_pending header) _ _ (λ _. refl) (λ _.
      (if-either Quiet (lacks_link room p header && room.link_pending) _ _ (λ _. refl) (λ _.
      (if-either Quiet (lacks_link room p header && room.full) _ _ (λ _. refl) (λ _.
      (if-either Quiet (lacks_link room p header) _ _ (λ _. refl) (λ _.
      (if-either Quiet (header.dirty && header.local) _ _ (λ _. refl) (λ _.
      (if-either Quiet (header.dirty && room.full) _ _ (λ _. refl) (λ _.
      (if-either Quiet header.dirty _ _ (λ _. refl) (λ _. refl)))))))))))))

  quiet-getx : (p : ℕ) → Quiet (on_getx room p row)
  unfolding on_getx
  quiet-getx p =
      if-either Quiet (is_pending header) _ _ (λ _. refl) (λ _.
      (if-either Quiet (header.dirty && header.local) _ _ (λ _. refl) (λ _.
      (if-either Quiet (header.dirty && room.full) _ _ (λ _. refl) (λ _.
      (if-either Quiet header.dirty _ _ (λ _. refl) (λ _.
      (if-either Quiet (no_other p header.list) _ _ (λ _. refl) (λ _.
      (if-either Quiet room.full _ _ (λ _. refl) (λ _. quiet-each (in_order (unlist header.list p)))))))))))))

  quiet-grant : (grantee : Grantee) (want : Option Want) (p : ℕ) → Quiet (grant grantee want (unlist header.list p) row)
  quiet-grant Nobody want p = refl
  quiet-grant (Node n) want p = refl
  quiet-grant Me None p = refl
  quiet-grant Me (Some want) p = refl

  quiet-putx : (at_home : Bool) (words : List ℕ) (want : Option Want) → Quiet (on_putx at_home words (record row { want = want }))
  unfolding on_putx
  quiet-putx at_home words None = refl
  quiet-putx at_home words (Some want) = refl

  quiet-put : (at_home : Bool) (words : List ℕ) → Quiet (on_put at_home words row)
  unfolding on_put
  quiet-put true words = refl
  quiet-put false words = refl

  quiet-row : (me home src : ℕ) (content : Content) → Quiet (row_of me home src room content row)
  unfolding row_of on_inv on_nak on_shwb on_fwd_get on_fwd_getx on_inv_ack on_fack on_nakc on_wb on_rpl
  quiet-row me home src Get = quiet-get src
  quiet-row me home src GetX = quiet-getx src
  quiet-row me home src (FwdGet r) = if-either Quiet (is_exclusive row.copy) _ _ (λ _. either (r == home)) (λ _. refl)
    where
      either : (c : Bool) → list_any {X = ℕ × Content} (λ s. is_departure s.1) (cond c ((home, Put (words_of row.copy)) ∷ []) ((r, Put (words_of row.copy)) ∷ (home, ShWb (words_of row.copy)) ∷ [])) ≡ false
      either true = refl
      either false = refl
  quiet-row me home src (FwdGetX r) = if-either Quiet (is_exclusive row.copy) _ _ (λ _. either (r == home)) (λ _. refl)
    where
      either : (c : Bool) → list_any {X = ℕ × Content} (λ s. is_departure s.1) (cond c ((home, PutX (words_of row.copy)) ∷ []) ((r, PutX (words_of row.copy)) ∷ (home, FAck) ∷ [])) ≡ false
      either true = refl
      either false = refl
  quiet-row me home src Inv = refl
  quiet-row me home src (Wb words) = refl
  quiet-row me home src Rpl = if-either Quiet (is_idle header.wait && not header.dirty) _ _ (λ _. refl) (λ _. refl)
  quiet-row me home src (Put words) = quiet-put (me == home) words
  quiet-row me home src (PutX words) = quiet-putx (me == home) words row.want
  quiet-row me home src (Nak cause) = refl
  quiet-row me home src InvAck = if-either Quiet (nat_le header.acks 1) _ _ (λ _. quiet-grant (grantee_of header.wait) row.want src) (λ _. refl)
  quiet-row me home src (ShWb words) = refl
  quiet-row me home src FAck = refl
  quiet-row me home src Nakc = refl

  pub quiet-message : (me home src : ℕ) (alone : Bool) (content : Content) → Quiet (on_message me home src alone room content row)
  unfolding on_message
  quiet-message me home src alone content = if-either Quiet (meets me home src alone content row) _ _ (λ _. quiet-row me home src content) (λ _. refl)

-- nothing is sent to this node
abbrev pub Elsewhere : ℕ → Outcome → Type 0
Elsewhere me o = list_any (λ s. s.0 == me) o.sends ≡ false

-- a forward isn't for the node that takes it
abbrev pub IsForAnother : ℕ → Content → Type 0
IsForAnother me (FwdGet r) = r ≢ me
IsForAnother me (FwdGetX r) = r ≢ me
IsForAnother me _ = Unit {0}

pub addressed-none : (me : ℕ) (class : Class) (sends : List (ℕ × Content)) → list_any (λ s. s.0 == me) sends ≡ false → addressed me class sends ≡ []
addressed-none me class [] h = refl
addressed-none me class (s ∷ sends) h = let ih = addressed-none me class sends in grind arith

module _ (me home : ℕ) (apart : me ≢ home) (room : Room) (row : LineShare) where
  off : (me == home) ≡ false
  off = ne_eqb me home apart

  away : (home == me) ≡ false
  away = grind (arith, nat_tests)

  abbrev ElsewhereOk : Result Outcome Cause → Type 0
  ElsewhereOk r = (o : Outcome) → r ≡ Ok o → Elsewhere me o

  to-home : (content : Content) → list_any {X = ℕ × Content} (λ s. s.0 == me) ((home, content) ∷ []) ≡ false
  to-home content = rw away

  to-both : (r : ℕ) (first second : Content) → r ≢ me → list_any {X = ℕ × Content} (λ s. s.0 == me) ((r, first) ∷ (home, second) ∷ []) ≡ false
  to-both r first second other = rw (ne_eqb r me other, away)

  pub else-hit : (op : Op) → Elsewhere me (hit op row)
  unfolding hit
  else-hit op = refl

  pub else-begin : (op : Op) → ElsewhereOk (begin_op me home room op row)
  unfolding begin_op begin_at_home ask
  else-begin op =
      if-either ElsewhereOk (serves op row.copy) _ _ (λ _. bad (Elsewhere me) _) (λ _.
      (if-either ElsewhereOk (me == home) _ _ (λ same. absurd (let n : true ≡ false = sym same ∙ off in cc))
      (λ _. fine (Elsewhere me) _ (if-either (Elsewhere me) (is_load op.kind) _ _ (λ _. to-home Get) (λ _. to-home GetX)))))

  pub else-evict : (kind : EvictKind) → ElsewhereOk (evict me home kind row)
  unfolding evict
  else-evict kind =
      if-either ElsewhereOk (fits (me == home) kind row.copy) _ _
      (λ _. fine (Elsewhere me) _ (if-either (Elsewhere me) (me == home) _ _ (λ same. absurd (let n : true ≡ false = sym same ∙ off in cc)) (λ _. leaves kind)))
      (λ _. bad (Elsewhere me) _)
    where
      leaves : (kind : EvictKind) → Elsewhere me (leave_remote home kind row)
      leaves way.Wb = to-home (Wb (words_of row.copy))
      leaves way.Hint = to-home Rpl
      leaves way.Silent = refl

  else-putx : (at_home : Bool) (words : List ℕ) (want : Option Want) → Elsewhere me (on_putx at_home words (record row { want = want }))
  unfolding on_putx
  else-putx at_home words None = refl
  else-putx at_home words (Some want) = refl

  else-put : (at_home : Bool) (words : List ℕ) → Elsewhere me (on_put at_home words row)
  unfolding on_put
  else-put true words = refl
  else-put false words = refl

  else-row : (src : ℕ) (alone : Bool) (content : Content) → IsForAnother me content → meets me home src alone content row ≡ true → Elsewhere me (row_of me home src room content row)
  unfolding row_of meets on_inv on_nak on_fwd_get on_fwd_getx
  else-row src alone Get other meet = absurd (let n : false ≡ true = rw off at meet in cc)
  else-row src alone GetX other meet = absurd (let n : false ≡ true = rw off at meet in cc)
  else-row src alone (FwdGet r) other meet = if-either (Elsewhere me) (is_exclusive row.copy) _ _ (λ _. either (r == home)) (λ _. to-both r (Nak Gone) Nakc other)
    where
      either : (c : Bool) → list_any {X = ℕ × Content} (λ s. s.0 == me) (cond c ((home, Put (words_of row.copy)) ∷ []) ((r, Put (words_of row.copy)) ∷ (home, ShWb (words_of row.copy)) ∷ [])) ≡ false
      either true = to-home (Put (words_of row.copy))
      either false = to-both r (Put (words_of row.copy)) (ShWb (words_of row.copy)) other
  else-row src alone (FwdGetX r) other meet = if-either (Elsewhere me) (is_exclusive row.copy) _ _ (λ _. either (r == home)) (λ _. to-both r (Nak Gone) Nakc other)
    where
      either : (c : Bool) → list_any {X = ℕ × Content} (λ s. s.0 == me) (cond c ((home, PutX (words_of row.copy)) ∷ []) ((r, PutX (words_of row.copy)) ∷ (home, FAck) ∷ [])) ≡ false
      either true = to-home (PutX (words_of row.copy))
      either false = to-both r (PutX (words_of row.copy)) FAck other
  else-row src alone Inv other meet = to-home InvAck
  else-row src alone (Wb words) other meet = absurd (let n : false ≡ true = rw off at meet in cc)
  else-row src alone Rpl other meet = absurd (let n : true ≡ false = sym meet ∙ off in cc)
  else-row src alone (Put words) other meet = else-put (me == home) words
  else-row src alone (PutX words) other meet = else-putx (me == home) words row.want
  else-row src alone (Nak cause) other meet = refl
  else-row src alone InvAck other meet = absurd (let n : false ≡ true = rw off at meet in cc)
  else-row src alone (ShWb words) other meet = absurd (let n : false ≡ true = rw off at meet in cc)
  else-row src alone FAck other meet = absurd (let n : false ≡ true = rw off at meet in cc)
  else-row src alone Nakc other meet = absurd (let n : false ≡ true = rw off at meet in cc)

  pub else-message : (src : ℕ) (alone : Bool) (content : Content) → IsForAnother me content → Elsewhere me (on_message me home src alone room content row)
  unfolding on_message
  else-message src alone content other = if-either (Elsewhere me) (meets me home src alone content row) _ _ (λ meet. else-row src alone content other meet) (λ _. refl)
