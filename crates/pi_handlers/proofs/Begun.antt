-- An operation is begun, call by call.
use Rattle.std.proofs.Common.{◌≡◌, ◌≢◌, ℕ, suc, Bool, true, false, cond, not, List, [], ◌∷◌, slice_get, Option, Some, None, Result, Ok, Err, refl, sym, ap, ◌∙◌, subst}
use Rattle.line_map.specs.Sizes.{Sizes, line_of, home_of}
use Rattle.op_model.specs.declared.events.Cause.{Cause}
use Rattle.op_model.specs.declared.messages.Msg.TheVariants as msg
use Rattle.op_model.specs.declared.operations.Op.{Op}
use Rattle.op_model.specs.declared.state.Grantee.TheVariants.{Me}
use Rattle.op_model.specs.declared.state.Want.{Want}
use Rattle.op_model.specs.declared.state.Wait.TheVariants.{Invalidate, ForwardGet, ForwardGetX}
use Rattle.op_model.specs.Messages.{Get, GetX, FwdGet, FwdGetX}
use Rattle.op_model.specs.Nodes.{count}
use Rattle.op_model.specs.Operations.{Words, is_load, after_op, entry_of}
use Rattle.op_model.specs.Lines.{Copy, Absent, Shared, Exclusive, Header, LineShare, NoService, Own, Outcome, begun, is_idle, without_shared, to_listed, owner, nobody_listed}
use Rattle.op_model.specs.Shares.{copy_of, header_of, line_share, put_copy, want_on, want_after, header_in, copy_in, Headers}
use Rattle.op_model.specs.Events.Node.{messages, by_row}
use Rattle.op_model.specs.Tables.Processor.{ask, begin_at_home, load_at_home, write_at_home, invalidate_for_home, forward_get_home, forward_getx_home, serves}
use Rattle.op_model.specs.Programs.{IsProgramOf}
use Rattle.cpu_cache.specs.Effects.{effect_of, nothing, own_effect}
use Rattle.cpu_cache.specs.declared.effects.Effect.{Effect}
use Rattle.cpu_cache.specs.Caches.{CacheView, with_copy}
use Rattle.cpu_cache.specs.Processors.{ProcView, next_of, wanting}
use Rattle.dir_header.specs.HomeSides.{HomeView, header_at, with_header, made_pending, room_in}
use Rattle.msg_words.specs.SendList.{SendList}
use Rattle.node_share.specs.Parts.{share_of, AreCopies, DoesRow, sent, copy_done}
use Rattle.node_share.specs.Effects.{Begins}
use Rattle.node_share.proofs.Public.{Puts, away-row, copy-kept, done-load, done-write, effect-none}
use Rattle.node_share.proofs.Public.{effect-own, own-row, puts-once, puts-read, puts-then, sent-none}
use Rattle.pi_handlers.proofs.Rows.{begin-get, begin-getx, begin-load, begin-write, begin-called}

-- the processor that has begun its next operation
pub begun-is : (proc proc' : ProcView) (op : Op) → next_of proc ≡ Some op → proc' ≡ record proc { want = wanting (next_of proc) } → proc' ≡ record proc { want = begun op }
begun-is proc proc' op next is = is ∙ ap (λ o. record proc { want = wanting o }) next

gone : (op : Op) (copy : Copy) → is_load op.kind ≡ false → serves op copy ≡ false → without_shared copy ≡ Absent
gone op Absent w e = refl
gone op (Shared words) w e = refl
gone op (Exclusive words) w e = cc

-- a node asks the line's home
module _ (sizes : Sizes) (node line at : ℕ) (op : Op) (proc proc' : ProcView) (cache : CacheView) (headers : Headers) (out out' : SendList) (away : home_of sizes line ≢ node) (free : proc.want ≡ None) (proc-is : proc' ≡ record proc { want = begun op }) where
  abbrev here : LineShare
  here = line_share sizes (share_of proc cache.copies headers) line

  after : (w : Option Want) → want_after sizes proc.want line w ≡ w
  after w = ap (λ k. want_after sizes k line w) free

  pub asks-load : AreCopies cache.copies → is_load op.kind ≡ true → out' ≡ sent out ((at, msg.Get line) ∷ []) → DoesRow sizes node (share_of proc cache.copies headers) (share_of proc' cache.copies headers) out out' line (ask at op)
  unfolding ask copy_of
  asks-load held load pushed =
      away-row sizes node line proc proc' cache.copies cache.copies headers out out' (ask at op) (record { share = record here { want = begun op }; sends = (at, Get) ∷ []; served = NoService; done = false }) away
      (ap (λ b. cond b (record { share = record here { want = begun op }; sends = (at, Get) ∷ []; served = NoService; done = false }) (record { share = record here { want = begun op; copy = without_shared here.copy }; sends = (at, GetX) ∷ []; served = NoService; done = false })) load)
      (sym (copy-kept cache.copies line held)) (ap (λ p. p.place) proc-is) (ap (λ p. p.want) proc-is ∙ sym (after (begun op))) pushed

  pub asks-write : (cache' : CacheView) → is_load op.kind ≡ false → serves op (copy_in cache.copies line) ≡ false → cache' ≡ with_copy cache line Absent → out' ≡ sent out ((at, msg.GetX line) ∷ []) →
      DoesRow sizes node (share_of proc cache.copies headers) (share_of proc' cache'.copies headers) out out' line (ask at op)
  unfolding ask copy_of
  asks-write cache' write unserved dropped pushed =
      away-row sizes node line proc proc' cache.copies cache'.copies headers out out' (ask at op) (record { share = record here { want = begun op; copy = Absent }; sends = (at, GetX) ∷ []; served = NoService; done = false }) away
      (ap (λ b. cond b (record { share = record here { want = begun op }; sends = (at, Get) ∷ []; served = NoService; done = false }) (record { share = record here { want = begun op; copy = without_shared here.copy }; sends = (at, GetX) ∷ []; served = NoService; done = false })) write
      ∙ ap (λ c. record { share = record here { want = begun op; copy = c }; sends = (at, GetX) ∷ []; served = NoService; done = false }) (gone op (copy_in cache.copies line) write unserved))
      (ap (λ c. c.copies) dropped) (ap (λ p. p.place) proc-is) (ap (λ p. p.want) proc-is ∙ sym (after (begun op))) pushed

-- at the line's home
module _ {D : Type 0} (home : HomeView D) (node line : ℕ) (op : Op) (proc : ProcView) (cache : CacheView) (out : SendList) (number : home.node ≡ node) (own : home_of home.sizes line ≡ home.node) (free : proc.want ≡ None) (idle : is_idle (header_at home line).wait ≡ true) where
  abbrev h : Header
  h = header_at home line

  abbrev before : LineShare
  before = record { copy = copy_in cache.copies line; want = want_on home.sizes proc.want line; header = h }

  abbrev pub Does : HomeView D → ProcView → CacheView → SendList → Effect → Type 0
  Does home' proc' cache' out' effect =
      Begins home.sizes node proc.program proc.place line (begin_at_home node (room_in home) op (line_share home.sizes (share_of proc cache.copies home.headers) line)) (share_of proc cache.copies home.headers) (share_of proc' cache'.copies home'.headers) out out' effect

  wants : (w : Option Want) → want_after home.sizes proc.want line w ≡ w
  wants w = ap (λ k. want_after home.sizes k line w) free

  row-does : (home' : HomeView D) (proc' : ProcView) (cache' : CacheView) (out' : SendList) (effect : Effect) (o : Outcome) → begin_at_home node (room_in home) op before ≡ Ok o → Puts home home' line o.share.header → cache'.copies ≡ put_copy cache.copies line o.share.copy →
      proc'.place ≡ cond o.done (suc proc.place) proc.place → proc'.want ≡ o.share.want → out' ≡ sent out (messages line o.sends) → effect ≡ effect_of node proc.program proc.place [] (by_row home.sizes node (share_of proc cache.copies home.headers) line o) → Does home' proc' cache' out' effect
  unfolding copy_of header_in
  row-does home' proc' cache' out' effect o is puts copies-are place want out-is told = record {
    outcome = o;
    is = is;
    row = subst (λ k. DoesRow home.sizes k (share_of proc cache.copies home.headers) (share_of proc' cache'.copies home'.headers) out out' line (λ share. o)) number
        (own-row home home' proc proc' cache.copies cache'.copies line out out' (λ share. o) o own refl puts copies-are place (want ∙ sym (wants o.share.want)) out-is);
    told = told;
  }

  -- the line waits
  module _ (proc' : ProcView) (proc-is : proc' ≡ record proc { want = begun op }) (full : (room_in home).full ≡ false) where
    quiet-told : (o : Outcome) → o.served ≡ NoService → o.done ≡ false → nothing ≡ effect_of node proc.program proc.place [] (by_row home.sizes node (share_of proc cache.copies home.headers) line o)
    quiet-told o none undone = effect-none node proc.program proc.place [] (by_row home.sizes node (share_of proc cache.copies home.headers) line o) none undone

    module _ (held : AreCopies cache.copies) (dirty : h.dirty ≡ true) (acks : h.acks ≡ 0) (out' : SendList) (to : ℕ) (to-is : to ≡ owner h) where
      pub forwards-get : (h1 : HomeView D) → is_load op.kind ≡ true → h1 ≡ with_header home line (made_pending h (ForwardGet node)) → out' ≡ sent out ((to, msg.FwdGet line node) ∷ []) → Does h1 proc' cache out' nothing
      forwards-get h1 load first pushed =
          row-does h1 proc' cache out' nothing (forward_get_home node op before) (begin-get node (room_in home) op before idle dirty full load)
          (puts-once home h1 line (record h { wait = ForwardGet node }) home.dir (first ∙ (λ i. with_header home line (record h { wait = ForwardGet node; acks = sym acks i }))))
          (sym (copy-kept cache.copies line held)) (ap (λ p. p.place) proc-is) (ap (λ p. p.want) proc-is) (pushed ∙ ap (λ k. sent out ((k, msg.FwdGet line node) ∷ [])) to-is) (quiet-told (forward_get_home node op before) refl refl)

      pub forwards-getx : (h1 : HomeView D) → is_load op.kind ≡ false → h1 ≡ with_header home line (made_pending h (ForwardGetX node)) → out' ≡ sent out ((to, msg.FwdGetX line node) ∷ []) → Does h1 proc' cache out' nothing
      forwards-getx h1 write first pushed =
          row-does h1 proc' cache out' nothing (forward_getx_home node op before) (begin-getx node (room_in home) op before idle dirty full write)
          (puts-once home h1 line (record h { wait = ForwardGetX node }) home.dir (first ∙ (λ i. with_header home line (record h { wait = ForwardGetX node; acks = sym acks i }))))
          (sym (copy-kept cache.copies line held)) (ap (λ p. p.place) proc-is) (ap (λ p. p.want) proc-is) (pushed ∙ ap (λ k. sent out ((k, msg.FwdGetX line node) ∷ [])) to-is) (quiet-told (forward_getx_home node op before) refl refl)

    module _ (clean : h.dirty ≡ false) (write : is_load op.kind ≡ false) (some : nobody_listed h.list ≡ false) where
      pub calls-in : (h1 h2 : HomeView D) (cache' : CacheView) (out' : SendList) → h1 ≡ with_header home line (made_pending h (Invalidate Me)) → h2 ≡ with_header h1 line (record (header_at h1 line) { local = false }) → cache' ≡ with_copy cache line Absent →
          out' ≡ sent out (messages line (to_listed (header_at h2 line).list)) → Does h2 proc' cache' out' nothing
      calls-in h1 h2 cache' out' first second dropped pushed =
          let puts : Puts home h2 line (record h { wait = Invalidate Me; acks = count h.list; local = false }) = puts-then (puts-once home h1 line (record h { wait = Invalidate Me; acks = count h.list }) home.dir first) h2 (λ k. record k { local = false }) h1.dir second in
          row-does h2 proc' cache' out' nothing (invalidate_for_home op before) (begin-called node (room_in home) op before idle clean write some full) puts
          (ap (λ c. c.copies) dropped) (ap (λ p. p.place) proc-is) (ap (λ p. p.want) proc-is) (pushed ∙ ap (λ k. sent out (messages line (to_listed k.list))) (puts-read puts)) (quiet-told (invalidate_for_home op before) refl refl)

  -- the operation is done at once
  module _ (proc' : ProcView) (proc-is : proc' ≡ record proc { place = suc proc.place; want = None }) (cache' : CacheView) (words : Words) (are : words ≡ h.memory) (cached : cache' ≡ with_copy cache line (copy_done op words)) (clean : h.dirty ≡ false)
      (program : IsProgramOf home.sizes node proc.program) (next : slice_get proc.program proc.place ≡ Some op) where
    own-told : (o : Outcome) → o.served ≡ Own op words → o.done ≡ true → own_effect (entry_of op.node op.index op words) ≡ effect_of node proc.program proc.place [] (by_row home.sizes node (share_of proc cache.copies home.headers) line o)
    own-told o own done = effect-own node proc.program proc.place [] (by_row home.sizes node (share_of proc cache.copies home.headers) line o) home.sizes op words program next own done

    no-want : want_on home.sizes proc.want line ≡ None
    no-want = ap (λ k. want_on home.sizes k line) free

    pub loads : (h1 : HomeView D) → is_load op.kind ≡ true → h1 ≡ with_header home line (record h { local = true }) → Does h1 proc' cache' out (own_effect (entry_of op.node op.index op words))
    loads h1 load first =
        row-does h1 proc' cache' out (own_effect (entry_of op.node op.index op words)) (load_at_home op before) (begin-load node (room_in home) op before idle clean load)
        (puts-once home h1 line (record h { local = true }) home.dir first)
        (ap (λ c. c.copies) cached ∙ ap (put_copy cache.copies line) (done-load op words load ∙ ap (λ w. Shared w) are)) (ap (λ p. p.place) proc-is) (ap (λ p. p.want) proc-is ∙ sym no-want) (sent-none out)
        (own-told (load_at_home op before) (ap (λ w. Own op w) (sym are)) refl)

    pub writes : (h1 h2 : HomeView D) → is_load op.kind ≡ false → nobody_listed h.list ≡ true → h1 ≡ with_header home line (record h { local = true }) → h2 ≡ with_header h1 line (record (header_at h1 line) { dirty = true }) → Does h2 proc' cache' out (own_effect (entry_of op.node op.index op words))
    writes h1 h2 write nobody first second =
        row-does h2 proc' cache' out (own_effect (entry_of op.node op.index op words)) (write_at_home op before) (begin-write node (room_in home) op before idle clean write nobody)
        (puts-then (puts-once home h1 line (record h { local = true }) home.dir first) h2 (λ k. record k { dirty = true }) h1.dir second)
        (ap (λ c. c.copies) cached ∙ ap (put_copy cache.copies line) (done-write op words write ∙ ap (λ w. Exclusive (after_op op w)) are)) (ap (λ p. p.place) proc-is) (ap (λ p. p.want) proc-is ∙ sym no-want) (sent-none out)
        (own-told (write_at_home op before) (ap (λ w. Own op w) (sym are)) refl)
