-- Rows of an acknowledgement, call by call.
use Rattle.std.proofs.Common.{◌≡◌, ℕ, suc, ◌-◌, ◌<◌, ◌≤◌, true, false, cond, ◌&&◌, nat_le, List, [], ◌∷◌, slice_get, Option, Some, None, refl, sym, ap, ◌∙◌, subst, arith}
use Rattle.std.proofs.lemmas.Bool.Decides.{nat_tests}
use Rattle.std.specs.Prelude.{is_some}
use Rattle.line_map.specs.Sizes.{all_words, line_of, home_of}
use Rattle.op_model.specs.Tables.Processor.{serves}
use Rattle.op_model.specs.declared.messages.Msg.TheVariants as msg
use Rattle.op_model.specs.declared.state.Grantee.{Grantee}
use Rattle.op_model.specs.declared.state.Grantee.TheVariants.{Nobody, Me, Node}
use Rattle.op_model.specs.declared.state.Want.{Want}
use Rattle.op_model.specs.declared.state.Wait.{Wait}
use Rattle.op_model.specs.declared.state.Wait.TheVariants.{Idle, Invalidate, ForwardGet, ForwardGetX}
use Rattle.op_model.specs.Messages.{PutX}
use Rattle.op_model.specs.Nodes.{Nodes, only, unlist, listed}
use Rattle.op_model.specs.Operations.{Words, after_op, entry_of, is_load}
use Rattle.op_model.specs.Lines.{Exclusive, Header, LineShare, NoService, Own, Outcome}
use Rattle.op_model.specs.Shares.{want_on, header_in, copy_in}
use Rattle.op_model.specs.Tables.Home.{on_inv_ack, grant, grantee_of}
use Rattle.op_model.specs.Tables.Remote.{waits_write, is_invalidate}
use Rattle.op_model.specs.OwnPart.{IsOwnPart, IsOwnWait, IsOutstanding}
use Rattle.op_model.specs.Shares.{copy_of}
use Rattle.op_model.specs.Programs.{IsProgramOf}
use Rattle.op_model.proofs.Public.{want-stays, write-outstanding}
use Rattle.cpu_cache.specs.Effects.{effect_of, nothing, own_effect}
use Rattle.cpu_cache.specs.declared.effects.Effect.{Effect}
use Rattle.cpu_cache.specs.Caches.{CacheView, with_copy, is_set_taken}
use Rattle.cpu_cache.specs.Processors.{ProcView}
use Rattle.dir_header.specs.HomeSides.{HomeView, header_at, with_header, relisted, unlisted}
use Rattle.msg_words.specs.SendList.{SendList}
use Rattle.node_share.specs.Parts.{share_of, row_at, AreCopies, DoesRow, sent, copy_done}
use Rattle.node_share.proofs.Public.{Puts, copy-kept, done-write, effect-none, effect-own, on-line, own-done}
use Rattle.node_share.proofs.Public.{own-outcome, own-row, puts-as, puts-once, puts-then, sent-none}
use Rattle.node_share.proofs.Public.{set-unserved, set-untaken, want-gone, want-is, write-is}

pub last-one : (acks : ℕ) → acks ≤ 1 → acks - 1 ≡ 0
last-one acks few = omega arith

pub few-test : (acks : ℕ) → acks ≤ 1 → nat_le acks 1 ≡ true
few-test acks few = grind (arith, nat_tests)

pub more-test : (acks : ℕ) → 1 < acks → nat_le acks 1 ≡ false
more-test acks more = grind (arith, nat_tests)

pub called : (wait : Wait) → is_invalidate wait ≡ true → wait ≡ Invalidate (grantee_of wait)
called Idle e = cc
called (Invalidate grantee) e = refl
called (ForwardGet r) e = cc
called (ForwardGetX r) e = cc

module _ {D : Type 0} (home : HomeView D) (cache : CacheView) (proc : ProcView) (src line : ℕ) (out : SendList) (own : home_of home.sizes line ≡ home.node) (held : AreCopies cache.copies) where
  abbrev h : Header
  h = header_at home line

  abbrev rest : Nodes
  rest = unlist h.list src

  abbrev want : Option Want
  want = want_on home.sizes proc.want line

  abbrev before : LineShare
  before = record { copy = copy_in cache.copies line; want = want; header = h }

  abbrev pub Does : HomeView D → ProcView → CacheView → SendList → Type 0
  Does home' proc' cache' out' = DoesRow home.sizes home.node (share_of proc cache.copies home.headers) (share_of proc' cache'.copies home'.headers) out out' line (on_inv_ack src)

  abbrev pub Tells : Effect → Type 0
  Tells effect = effect ≡ effect_of home.node proc.program proc.place [] (row_at home.sizes home.node (share_of proc cache.copies home.headers) line (on_inv_ack src))

  -- a row that leaves the processor and the cache
  abbrev quiet : Header → List (ℕ × Rattle.op_model.specs.Messages.Content) → Outcome
  quiet header sends = record { share = record before { header = header }; sends = sends; served = NoService; done = false }

  quiet-does : (home' : HomeView D) (header : Header) (sends : List (ℕ × Rattle.op_model.specs.Messages.Content)) (out' : SendList) → Puts home home' line header → on_inv_ack src before ≡ quiet header sends → out' ≡ sent out (Rattle.op_model.specs.Events.Node.messages line sends) → Does home' proc cache out'
  quiet-does home' header sends out' puts is out-is =
      own-row home home' proc proc cache.copies cache.copies line out out' (on_inv_ack src) (quiet header sends) own is puts (sym (copy-kept cache.copies line held)) refl (sym (want-stays home.sizes proc.want line)) out-is

  quiet-tells : (header : Header) (sends : List (ℕ × Rattle.op_model.specs.Messages.Content)) → on_inv_ack src before ≡ quiet header sends → Tells nothing
  quiet-tells header sends is =
      effect-none home.node proc.program proc.place [] (row_at home.sizes home.node (share_of proc cache.copies home.headers) line (on_inv_ack src))
      (own-outcome home home proc proc cache.copies cache.copies line out out (on_inv_ack src) (quiet header sends) is)
      (own-done home home proc proc cache.copies cache.copies line out out (on_inv_ack src) (quiet header sends) is)

  module _ (waits : is_invalidate h.wait ≡ true) (was : listed h.list src ≡ true) (h1 : HomeView D) (first : h1 ≡ record (with_header home line (unlisted h src)) { dir = h1.dir }) where
    pub acked : Puts home h1 line (record h { list = rest; acks = h.acks - 1 })
    acked = puts-as (puts-once home h1 line (unlisted h src) h1.dir first) (record h { list = rest; acks = h.acks - 1 }) (λ i. record h { list = rest; acks = cond (waits i && was i) (h.acks - 1) h.acks })

    more-row : 1 < h.acks → on_inv_ack src before ≡ quiet (record h { list = rest; acks = h.acks - 1 }) []
    unfolding on_inv_ack
    more-row more = ap (λ b. cond b (grant (grantee_of h.wait) want rest before) (quiet (record h { list = rest; acks = h.acks - 1 }) [])) (more-test h.acks more)

    pub more-does : 1 < h.acks → Does h1 proc cache out
    more-does more = quiet-does h1 (record h { list = rest; acks = h.acks - 1 }) [] out acked (more-row more) (sent-none out)

    pub more-tells : 1 < h.acks → Tells nothing
    more-tells more = quiet-tells (record h { list = rest; acks = h.acks - 1 }) [] (more-row more)

    module _ (few : h.acks ≤ 1) where
      last-row : (grantee : Grantee) → grantee_of h.wait ≡ grantee → on_inv_ack src before ≡ grant grantee want rest before
      unfolding on_inv_ack
      last-row grantee is =
          ap (λ b. cond b (grant (grantee_of h.wait) want rest before) (quiet (record h { list = rest; acks = h.acks - 1 }) [])) (few-test h.acks few)
          ∙ ap (λ k. grant k want rest before) is

      module _ (h2 : HomeView D) (second : h2 ≡ with_header h1 line (record (header_at h1 line) { wait = Idle })) where
        pub ended : Puts home h2 line (record h { list = rest; acks = 0; wait = Idle })
        ended = puts-as (puts-then acked h2 (λ k. record k { wait = Idle }) h1.dir second) (record h { list = rest; acks = 0; wait = Idle }) (λ i. record h { list = rest; acks = last-one h.acks few i; wait = Idle })

        pub nobody-does : grantee_of h.wait ≡ Nobody → Does h2 proc cache out
        nobody-does is = quiet-does h2 (record h { list = rest; acks = 0; wait = Idle }) [] out ended (last-row Nobody is) (sent-none out)

        pub nobody-tells : grantee_of h.wait ≡ Nobody → Tells nothing
        nobody-tells is = quiet-tells (record h { list = rest; acks = 0; wait = Idle }) [] (last-row Nobody is)

        module _ (h3 : HomeView D) (third : h3 ≡ with_header h2 line (record (header_at h2 line) { dirty = true })) where
          pub granted : Puts home h3 line (record h { list = rest; acks = 0; wait = Idle; dirty = true })
          granted = puts-then ended h3 (λ k. record k { dirty = true }) h2.dir third

          module _ (h4 : HomeView D) (node : ℕ) (is : grantee_of h.wait ≡ Node node) (fourth : h4 ≡ relisted h3 h4.dir line (only node)) where
            pub handed : Puts home h4 line (record h { list = only node; acks = 0; wait = Idle; dirty = true })
            handed = puts-then granted h4 (λ k. record k { list = only node }) h4.dir fourth

            pub node-does : (words : Words) (out' : SendList) → words ≡ h.memory → out' ≡ sent out ((node, msg.PutX line words) ∷ []) → Does h4 proc cache out'
            node-does words out' are pushed =
                quiet-does h4 (record h { list = only node; acks = 0; wait = Idle; dirty = true }) ((node, PutX words) ∷ []) out' handed
                (last-row (Node node) is ∙ ap (λ w. quiet (record h { list = only node; acks = 0; wait = Idle; dirty = true }) ((node, PutX w) ∷ [])) (sym are)) pushed

            pub node-tells : Tells nothing
            node-tells = quiet-tells (record h { list = only node; acks = 0; wait = Idle; dirty = true }) ((node, PutX h.memory) ∷ []) (last-row (Node node) is)

          -- the home's own write
          module _ (h4 : HomeView D) (is : grantee_of h.wait ≡ Me) (fourth : h4 ≡ with_header h3 line (record (header_at h3 line) { local = true })) where
            pub taken : Puts home h4 line (record h { list = rest; acks = 0; wait = Idle; dirty = true; local = true })
            taken = puts-then granted h4 (λ k. record k { local = true }) h3.dir fourth

            module _ (w : Want) (wanted : proc.want ≡ Some w) (on : line_of home.sizes w.op.word ≡ line) (write : is_load w.op.kind ≡ false) (words : Words) (are : words ≡ h.memory) where
              abbrev o : Outcome
              o = record { share = record { copy = Exclusive (after_op w.op words); want = None; header = record h { list = rest; acks = 0; wait = Idle; dirty = true; local = true } }; sends = []; served = Own w.op words; done = true }

              me-row : on_inv_ack src before ≡ o
              me-row =
                  last-row Me is
                  ∙ ap (λ k. grant Me k rest (record before { want = k })) (want-is home.sizes proc.want line w wanted on)
                  ∙ ap (λ m. record { share = record { copy = Exclusive (after_op w.op m); want = None; header = record h { list = rest; acks = 0; wait = Idle; dirty = true; local = true } }; sends = []; served = Own w.op m; done = true }) (sym are)

              pub me-does : (proc' : ProcView) (cache' : CacheView) → proc' ≡ record proc { place = suc proc.place; want = None } → cache' ≡ with_copy cache (line_of cache.sizes w.op.word) (copy_done w.op words) → cache.sizes ≡ home.sizes → Does h4 proc' cache' out
              me-does proc' cache' proc-is cache-is same =
                  own-row home h4 proc proc' cache.copies cache'.copies line out out (on_inv_ack src) o own me-row taken
                  (ap (λ c. c.copies) cache-is ∙ (λ i. Rattle.op_model.specs.Shares.put_copy cache.copies (line_of (same i) w.op.word) (done-write w.op words write i)) ∙ ap (λ g. Rattle.op_model.specs.Shares.put_copy cache.copies g (Exclusive (after_op w.op words))) on)
                  (ap (λ p. p.place) proc-is) (ap (λ p. p.want) proc-is ∙ sym (want-gone home.sizes proc.want line w wanted on)) (sent-none out)

              pub me-tells : IsProgramOf home.sizes home.node proc.program → slice_get proc.program proc.place ≡ Some w.op → Tells (own_effect (entry_of w.op.node w.op.index w.op words))
              me-tells program next =
                  effect-own home.node proc.program proc.place [] (row_at home.sizes home.node (share_of proc cache.copies home.headers) line (on_inv_ack src)) home.sizes w.op words program next
                  (own-outcome home home proc proc cache.copies cache.copies line out out (on_inv_ack src) o me-row)
                  (own-done home home proc proc cache.copies cache.copies line out out (on_inv_ack src) o me-row)

  -- the home's own write waits, and its line's set is free
  pub own-write : (charge : Rattle.op_model.specs.Shares.Charge) → IsOwnPart charge home.sizes home.node proc.program (share_of proc cache.copies home.headers) → is_invalidate h.wait ≡ true → grantee_of h.wait ≡ Me → waits_write want ≡ true
  unfolding header_in copy_of
  own-write charge part waits me =
      let is : h.wait ≡ Invalidate Me = called h.wait waits ∙ ap Invalidate me in
      let waiting = subst (λ k. IsOwnWait home.node k before) is (part.lines line own).waiting in
      waiting.3.1

  -- so it is a write of this line, the next operation of the program, and the set of the line is free
  module _ (charge : Rattle.op_model.specs.Shares.Charge) (part : IsOwnPart charge home.sizes home.node proc.program (share_of proc cache.copies home.headers)) (waits : is_invalidate h.wait ≡ true) (me : grantee_of h.wait ≡ Me) where
    pub some-write : is_some proc.want ≡ true
    some-write = by proc.want (own-write charge part waits me)
      where
        by : (wanted : Option Want) → waits_write (want_on home.sizes wanted line) ≡ true → is_some wanted ≡ true
        by None e = cc
        by (Some w) e = refl

    module _ (w : Want) (wanted : proc.want ≡ Some w) where
      pub write-on : line_of home.sizes w.op.word ≡ line
      write-on = on-line home.sizes proc.want line w wanted (write-outstanding want (own-write charge part waits me))

      pub write-kind : is_load w.op.kind ≡ false
      write-kind = write-is want w (want-is home.sizes proc.want line w wanted write-on) (own-write charge part waits me)

      outstanding : IsOutstanding home.sizes home.node proc.program (share_of proc cache.copies home.headers) (Some w)
      outstanding = subst (IsOutstanding home.sizes home.node proc.program (share_of proc cache.copies home.headers)) wanted part.outstanding

      pub write-next : slice_get proc.program proc.place ≡ Some w.op
      write-next = outstanding.0

      module _ (same : cache.sizes ≡ home.sizes) (program : IsProgramOf home.sizes home.node proc.program) where
        pub write-word : w.op.word < all_words cache.sizes
        write-word = subst (λ z. w.op.word < all_words z) (sym same) (program proc.place w.op write-next).word

        pub write-alone : is_set_taken cache (line_of cache.sizes w.op.word) ≡ false
        write-alone = ap (λ z. is_set_taken cache (line_of z w.op.word)) same ∙ set-untaken home.sizes proc cache home.headers (line_of home.sizes w.op.word) same outstanding.1

        pub write-unserved : serves w.op (copy_in cache.copies (line_of cache.sizes w.op.word)) ≡ false
        write-unserved = ap (λ z. serves w.op (copy_in cache.copies (line_of z w.op.word))) same ∙ set-unserved home.sizes proc cache home.headers (line_of home.sizes w.op.word) same outstanding.1 w.op
