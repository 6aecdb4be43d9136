-- The rows of nodes of the machine list, await and send to nodes of the machine.
-- By the tables alone, row by row: a row lists its sender or nobody new, waits for its node or its sender, and sends to the home, its
-- sender, a listed node, the requester that a message names or the one that the line waits for.
use Rattle.std.proofs.Common.{◌≡◌, ℕ, ◌<◌, Bool, true, false, cond, nat_le, ◌==◌, ◌&&◌, not, List, [], ◌∷◌, refl, arith, subst, Result, Ok, Err, Option, Some, None}
use Rattle.std.proofs.lemmas.Bool.Decides.{nat_tests}
use Rattle.op_model.specs.declared.events.Cause.{Cause}
use Rattle.op_model.specs.declared.events.EvictKind.{EvictKind}
use Rattle.op_model.specs.declared.events.EvictKind.TheVariants as way
use Rattle.op_model.specs.declared.messages.NakCause.{NakCause}
use Rattle.op_model.specs.declared.messages.NakCause.TheVariants.{Budget, NoLink, Pending}
use Rattle.op_model.specs.declared.operations.Op.{Op}
use Rattle.op_model.specs.declared.state.Grantee.{Grantee}
use Rattle.op_model.specs.declared.state.Grantee.TheVariants.{Me, Nobody, Node}
use Rattle.op_model.specs.declared.state.Wait.{Wait}
use Rattle.op_model.specs.declared.state.Wait.TheVariants.{ForwardGet, ForwardGetX, Idle, Invalidate}
use Rattle.op_model.specs.declared.state.Want.{Want}
use Rattle.op_model.specs.Lines.{Absent, Copy, Exclusive, Header, LineShare, NoService, Outcome, Room, Shared, first_of_list, is_exclusive, is_idle, is_pending, nobody_listed, owner, to_each, to_listed, words_of}
use Rattle.op_model.specs.Messages.{Content, FAck, FwdGet, FwdGetX, Get, GetX, Inv, InvAck, Nak, Nakc, Put, PutX, Rpl, ShWb, Wb}
use Rattle.op_model.specs.Nodes.{Nodes, enlist, in_order, listed, listings, none, only, times, unlist}
use Rattle.op_model.specs.Operations.{is_load}
use Rattle.op_model.specs.Tables.Home.{grant, grantee_of, lacks_link, no_other, on_fack, on_get, on_getx, on_inv_ack, on_nakc, on_rpl, on_shwb, on_wb, requester_of}
use Rattle.op_model.specs.Tables.Processor.{ask, begin_at_home, begin_op, call_in, evict, fits, holds_link, leave_home, leave_remote, load_at_home, reclaim, serves, write_at_home}
use Rattle.op_model.specs.Tables.Remote.{meets, on_fwd_get, on_fwd_getx, on_inv, on_message, on_nak, on_put, on_putx, row_of}
use Rattle.op_model.proofs.Public.{in_order-listed}
use Rattle.line_invariant.proofs.Public.{if-either}
use Rattle.node_range.specs.Range.{IsContentIn, IsGranteeIn, IsHeaderIn, IsSentIn, IsWaitIn}

module _ (nodes : ℕ) (some : 0 < nodes) where
  each-in : (ns : List ℕ) → ((q : ℕ) → 0 < times q ns → q < nodes) → IsSentIn nodes (to_each ns)
  each-in [] h = tt
  each-in (n ∷ ns) h = (h n (grind (arith, nat_tests)), tt, each-in ns (λ q lt. h q (grind (arith, nat_tests))))

  listed-in : (list : Nodes) → ((q : ℕ) → listed list q ≡ true → q < nodes) → IsSentIn nodes (to_listed list)
  listed-in list h = each-in (in_order list) (λ q lt. h q (in_order-listed list q lt))

  owner-in : (header : Header) → ((q : ℕ) → listed header.list q ≡ true → q < nodes) → owner header < nodes
  owner-in header h = go (in_order header.list) (λ q lt. h q (in_order-listed header.list q lt))
    where
      go : (ns : List ℕ) → ((q : ℕ) → 0 < times q ns → q < nodes) → first_of_list ns < nodes
      go [] h = some
      go (n ∷ ns) h = h n (grind (arith, nat_tests))

  enlist-in : (list : Nodes) (p : ℕ) → ((q : ℕ) → listed list q ≡ true → q < nodes) → p < nodes → (q : ℕ) → listed (enlist list p) q ≡ true → q < nodes
  enlist-in list p h in_it q is = go (q == p) refl
    where
      go : (c : Bool) → (q == p) ≡ c → q < nodes
      go true e = let same : q ≡ p = grind (arith, nat_tests) in omega arith
      go false e = h q (grind (arith, nat_tests, listings))

  unlist-in : (list : Nodes) (p : ℕ) → ((q : ℕ) → listed list q ≡ true → q < nodes) → (q : ℕ) → listed (unlist list p) q ≡ true → q < nodes
  unlist-in list p h q is = h q (grind (arith, nat_tests, listings))

  none-in : (q : ℕ) → listed none q ≡ true → q < nodes
  none-in q is = absurd (grind (arith, listings))

  only-in : (p : ℕ) → p < nodes → (q : ℕ) → listed (only p) q ≡ true → q < nodes
  only-in p in_it q is = enlist-in none p none-in in_it q is

  module _ (room : Room) (share : LineShare) (good : IsHeaderIn nodes share.header) (me home : ℕ) (me_in : me < nodes) (home_in : home < nodes) where
    abbrev header : Header
    header = share.header

    abbrev pub In : Outcome → Type 0
    In o = IsHeaderIn nodes o.share.header × IsSentIn nodes o.sends

    abbrev pub InOk : Result Outcome Cause → Type 0
    InOk r = (o : Outcome) → r ≡ Ok o → In o

    bad : (c : Cause) → InOk (Err c)
    bad c o e = absurd (let d : ◌≡◌ {A = Result Outcome Cause} (Err c) (Ok o) = e in cc)

    fine : (x : Outcome) → In x → InOk (Ok x)
    fine x a o e = let is : x ≡ o = cc in subst In is a

    all_in : IsSentIn nodes (to_listed header.list)
    all_in = listed-in header.list good.lists

    owner_is : owner header < nodes
    owner_is = owner-in header good.lists

    pub begin-in : (op : Op) → InOk (begin_op me home room op share)
    unfolding begin_op begin_at_home ask
    begin-in op =
        if-either InOk (serves op share.copy) _ _ (λ _. bad _) (λ _.
        (if-either InOk (me == home) _ _ (λ _.
        (if-either InOk (is_pending header) _ _ (λ _. bad _) (λ _.
        (if-either InOk (not header.dirty && is_load op.kind) _ _ (λ _. fine (load_at_home op share) (record { lists = good.lists; waits = good.waits }, tt)) (λ _.
        (if-either InOk (not header.dirty && nobody_listed header.list) _ _ (λ _. fine (write_at_home op share) (record { lists = good.lists; waits = good.waits }, tt)) (λ _.
        (if-either InOk room.full _ _ (λ _. bad _) (λ _.
        (if-either InOk (not header.dirty) _ _ (λ _. fine _ (record { lists = good.lists; waits = tt }, all_in)) (λ _.
        (if-either InOk (is_load op.kind) _ _ (λ _. fine _ (record { lists = good.lists; waits = home_in }, (owner_is, home_in, tt))) (λ _. fine _ (record { lists = good.lists; waits = home_in }, (owner_is, home_in, tt)))))))))))))))
        (λ _. fine _ (if-either In (is_load op.kind) _ _ (λ _. (good, (home_in, tt, tt))) (λ _. (good, (home_in, tt, tt)))))))

    pub evict-in : (kind : EvictKind) → InOk (evict me home kind share)
    unfolding evict
    evict-in kind = if-either InOk (fits (me == home) kind share.copy) _ _ (λ _. fine _ (if-either In (me == home) _ _ (λ _. here share.copy) (λ _. there kind))) (λ _. bad _)
      where
        here : (copy : Copy) → In (leave_home copy share)
        here Absent = (good, tt)
        here (Shared words) = (record { lists = good.lists; waits = good.waits }, tt)
        here (Exclusive words) = (record { lists = good.lists; waits = good.waits }, tt)

        there : (kind : EvictKind) → In (leave_remote home kind share)
        there way.Wb = (good, (home_in, tt, tt))
        there way.Hint = (good, (home_in, tt, tt))
        there way.Silent = (good, tt)

    pub call-in-in : In (call_in share)
    call-in-in = (record { lists = good.lists; waits = tt }, all_in)

    pub reclaim-in : InOk (reclaim room share)
    unfolding reclaim
    reclaim-in =
        if-either InOk (not (holds_link room header)) _ _ (λ _. bad _) (λ _.
        (if-either InOk (is_pending header) _ _ (λ _. bad _) (λ _.
        (if-either InOk room.full _ _ (λ _. bad _) (λ _. fine (call_in share) call-in-in)))))

    module _ (src : ℕ) (src_in : src < nodes) where
      refused : (cause : NakCause) → In (record { share = share; sends = (src, Nak cause) ∷ []; served = NoService; done = false })
      refused cause = (good, (src_in, tt, tt))

      get-in : In (on_get room src share)
      unfolding on_get
      get-in =
          if-either In (is_pending header) _ _ (λ _. refused Pending) (λ _.
          (if-either In (lacks_link room src header && room.link_pending) _ _ (λ _. refused NoLink) (λ _.
          (if-either In (lacks_link room src header && room.full) _ _ (λ _. refused Budget) (λ _.
          (if-either In (lacks_link room src header) _ _ (λ _. refused NoLink) (λ _.
          (if-either In (header.dirty && header.local) _ _ (λ _. (record { lists = enlist-in header.list src good.lists src_in; waits = good.waits }, (src_in, tt, tt))) (λ _.
          (if-either In (header.dirty && room.full) _ _ (λ _. refused Budget) (λ _.
          (if-either In header.dirty _ _ (λ _. (record { lists = enlist-in header.list src good.lists src_in; waits = src_in }, (owner_is, src_in, tt))) (λ _. (record { lists = enlist-in header.list src good.lists src_in; waits = good.waits }, (src_in, tt, tt)))))))))))))))

      getx-in : In (on_getx room src share)
      unfolding on_getx
      getx-in =
          if-either In (is_pending header) _ _ (λ _. refused Pending) (λ _.
          (if-either In (header.dirty && header.local) _ _ (λ _. (record { lists = only-in src src_in; waits = good.waits }, (src_in, tt, tt))) (λ _.
          (if-either In (header.dirty && room.full) _ _ (λ _. refused Budget) (λ _.
          (if-either In header.dirty _ _ (λ _. (record { lists = good.lists; waits = src_in }, (owner_is, src_in, tt))) (λ _.
          (if-either In (no_other src header.list) _ _ (λ _. (record { lists = only-in src src_in; waits = good.waits }, (src_in, tt, tt))) (λ _.
          (if-either In room.full _ _ (λ _. refused Budget) (λ _. (record { lists = unlist-in header.list src good.lists; waits = src_in }, listed-in (unlist header.list src) (unlist-in header.list src good.lists)))))))))))))

      grant-in : (grantee : Grantee) (want : Option Want) → IsGranteeIn nodes grantee → In (grant grantee want (unlist header.list src) share)
      grant-in Nobody want is = (record { lists = unlist-in header.list src good.lists; waits = tt }, tt)
      grant-in (Node n) want is = (record { lists = only-in n is; waits = tt }, (is, tt, tt))
      grant-in Me None is = (record { lists = unlist-in header.list src good.lists; waits = tt }, tt)
      grant-in Me (Some want) is = (record { lists = unlist-in header.list src good.lists; waits = tt }, tt)

      grantee-in : (wait : Wait) → IsWaitIn nodes wait → IsGranteeIn nodes (grantee_of wait)
      grantee-in Idle is = tt
      grantee-in (Invalidate grantee) is = is
      grantee-in (ForwardGet n) is = tt
      grantee-in (ForwardGetX n) is = tt

      requester-in : (wait : Wait) → IsWaitIn nodes wait → requester_of wait < nodes
      requester-in Idle is = some
      requester-in (Invalidate grantee) is = some
      requester-in (ForwardGet n) is = is
      requester-in (ForwardGetX n) is = is

      putx-in : (at_home : Bool) (words : List ℕ) (want : Option Want) → In (on_putx at_home words (record share { want = want }))
      unfolding on_putx
      putx-in at_home words None = (good, tt)
      putx-in true words (Some want) = (record { lists = none-in; waits = tt }, tt)
      putx-in false words (Some want) = (good, tt)

      put-in : (at_home : Bool) (words : List ℕ) → In (on_put at_home words share)
      unfolding on_put
      put-in true words = (record { lists = good.lists; waits = tt }, tt)
      put-in false words = (good, tt)

      back-in : (r : ℕ) (first second : Content) → r < nodes → IsContentIn nodes first → IsContentIn nodes second → (c : Bool) → IsSentIn nodes (cond c ((home, first) ∷ []) ((r, first) ∷ (home, second) ∷ []))
      back-in r first second r_in a b true = (home_in, a, tt)
      back-in r first second r_in a b false = (r_in, a, (home_in, b, tt))

      lists-if : (P : Nodes → Type 0) (c : Bool) (x y : Nodes) → P x → P y → P (cond c x y)
      lists-if P true x y a b = a
      lists-if P false x y a b = b

      row-in : (content : Content) → IsContentIn nodes content → In (row_of me home src room content share)
      unfolding row_of on_inv on_nak on_shwb on_fwd_get on_fwd_getx on_inv_ack on_fack on_nakc on_wb on_rpl
      row-in Get is = get-in
      row-in GetX is = getx-in
      row-in (FwdGet r) is = if-either In (is_exclusive share.copy) _ _ (λ _. (good, back-in r (Put (words_of share.copy)) (ShWb (words_of share.copy)) is tt tt (r == home))) (λ _. (good, (is, tt, (home_in, tt, tt))))
      row-in (FwdGetX r) is = if-either In (is_exclusive share.copy) _ _ (λ _. (good, back-in r (PutX (words_of share.copy)) FAck is tt tt (r == home))) (λ _. (good, (is, tt, (home_in, tt, tt))))
      row-in Inv is = (good, (home_in, tt, tt))
      row-in (Wb words) is = (record { lists = lists-if (λ l. (q : ℕ) → listed l q ≡ true → q < nodes) (is_idle header.wait) none header.list none-in good.lists; waits = good.waits }, tt)
      row-in Rpl is = if-either In (is_idle header.wait && not header.dirty) _ _ (λ _. (record { lists = unlist-in header.list src good.lists; waits = good.waits }, tt)) (λ _. (good, tt))
      row-in (Put words) is = put-in (me == home) words
      row-in (PutX words) is = putx-in (me == home) words share.want
      row-in (Nak cause) is = (good, tt)
      row-in InvAck is = if-either In (nat_le header.acks 1) _ _ (λ _. grant-in (grantee_of header.wait) share.want (grantee-in header.wait good.waits)) (λ _. (record { lists = unlist-in header.list src good.lists; waits = good.waits }, tt))
      row-in (ShWb words) is = (record { lists = good.lists; waits = tt }, tt)
      row-in FAck is = (record { lists = lists-if (λ l. (q : ℕ) → listed l q ≡ true → q < nodes) header.dirty (only (requester_of header.wait)) none (only-in (requester_of header.wait) (requester-in header.wait good.waits)) none-in; waits = tt }, tt)
      row-in Nakc is = (record { lists = lists-if (λ l. (q : ℕ) → listed l q ≡ true → q < nodes) header.dirty (unlist header.list (requester_of header.wait)) none (unlist-in header.list (requester_of header.wait) good.lists) none-in; waits = tt }, tt)

      pub message-in : (alone : Bool) (content : Content) → IsContentIn nodes content → In (on_message me home src alone room content share)
      unfolding on_message
      message-in alone content is = if-either In (meets me home src alone content share) _ _ (λ _. row-in content is) (λ _. (good, tt))
