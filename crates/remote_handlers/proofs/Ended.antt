-- An operation is done by its answer, at the line's home or elsewhere.
use Rattle.std.proofs.Common.{◌≡◌, ◌≢◌, ℕ, suc, Bool, true, false, cond, ◌==◌, [], slice_get, Some, None, refl, sym, ap, ◌∙◌, subst}
use Rattle.line_map.specs.Sizes.{Sizes, line_of, home_of}
use Rattle.op_model.specs.declared.state.Want.{Want}
use Rattle.op_model.specs.declared.state.Wait.TheVariants.{Idle}
use Rattle.op_model.specs.Nodes.{none}
use Rattle.op_model.specs.Operations.{Words, after_op, entry_of, is_load}
use Rattle.op_model.specs.Lines.{Copy, Shared, Exclusive, Header, LineShare, NoService, Own, Outcome}
use Rattle.op_model.specs.Shares.{copy_of, line_share, want_on, copy_in, Headers}
use Rattle.op_model.specs.Tables.Remote.{on_put, on_putx}
use Rattle.op_model.specs.Programs.{IsProgramOf}
use Rattle.cpu_cache.specs.Effects.{effect_of, own_effect}
use Rattle.cpu_cache.specs.declared.effects.Served.TheVariants as served
use Rattle.cpu_cache.specs.Caches.{CacheView, with_copy}
use Rattle.cpu_cache.specs.Processors.{ProcView}
use Rattle.dir_header.specs.HomeSides.{HomeView, header_at, with_header, relisted}
use Rattle.msg_words.specs.SendList.{SendList}
use Rattle.node_share.specs.Parts.{share_of, row_at, AreCopies, DoesRow, copy_done}
use Rattle.node_share.proofs.Public.{Puts, at-home, away-row, copy-kept, done-write, effect-load, effect-own}
use Rattle.node_share.proofs.Public.{is-away, own-row, puts-once, puts-then, sent-none, want-gone, want-is}

nothing_sent : SendList
nothing_sent = record { list = []; room = 0 }

-- what a Put does, wherever it comes
put-quiet : (b : Bool) (words : Words) (share : LineShare) → ((on_put b words share).served ≡ NoService) × ((on_put b words share).done ≡ true)
unfolding on_put
put-quiet true words share = (refl, refl)
put-quiet false words share = (refl, refl)

-- and a PutX, where a write is begun
putx-own : (b : Bool) (words : Words) (share : LineShare) (w : Want) → share.want ≡ Some w → ((on_putx b words share).served ≡ Own w.op words) × ((on_putx b words share).done ≡ true)
unfolding on_putx
putx-own b words share w is = (ap (λ k. (on_putx b words (record share { want = k })).served) is, ap (λ k. (on_putx b words (record share { want = k })).done) is)

module _ (sizes : Sizes) (node line : ℕ) (proc : ProcView) (cache : CacheView) (headers : Headers) (words : Words) (w : Want) (wanted : proc.want ≡ Some w) (program : IsProgramOf sizes node proc.program) (next : slice_get proc.program proc.place ≡ Some w.op) where
  abbrev at : LineShare
  at = line_share sizes (share_of proc cache.copies headers) line

  pub put-tells : (b : Bool) → record { served = served.Nothing; done = Some (entry_of w.op.node w.op.index w.op words) } ≡ effect_of node proc.program proc.place words (row_at sizes node (share_of proc cache.copies headers) line (on_put b words))
  put-tells b = let q = put-quiet b words at in effect-load node proc.program proc.place words (row_at sizes node (share_of proc cache.copies headers) line (on_put b words)) sizes w.op program next q.0 q.1

  pub putx-tells : (b : Bool) → line_of sizes w.op.word ≡ line → own_effect (entry_of w.op.node w.op.index w.op words) ≡ effect_of node proc.program proc.place words (row_at sizes node (share_of proc cache.copies headers) line (on_putx b words))
  putx-tells b on =
      let q = putx-own b words at w (want-is sizes proc.want line w wanted on) in
      effect-own node proc.program proc.place words (row_at sizes node (share_of proc cache.copies headers) line (on_putx b words)) sizes w.op words program next q.0 q.1

-- the processor after its operation
abbrev pub ended : ProcView → ProcView
ended proc = record proc { place = suc proc.place; want = None }

-- elsewhere than at the home
module _ (sizes : Sizes) (node line : ℕ) (proc proc' : ProcView) (cache cache' : CacheView) (headers : Headers) (words : Words) (w : Want) (wanted : proc.want ≡ Some w) (on : line_of sizes w.op.word ≡ line) (away : home_of sizes line ≢ node) (proc-is : proc' ≡ ended proc) where
  abbrev here : LineShare
  here = line_share sizes (share_of proc cache.copies headers) line

  abbrev pub Leaves : (LineShare → Outcome) → Type 0
  Leaves row = share_of proc' cache'.copies headers ≡ (row_at sizes node (share_of proc cache.copies headers) line row).share

  leaves : (row : LineShare → Outcome) (o : Outcome) → row here ≡ o → o.done ≡ true → o.share.want ≡ None → o.sends ≡ [] → cache'.copies ≡ Rattle.op_model.specs.Shares.put_copy cache.copies line o.share.copy → Leaves row
  leaves row o is done gone quiet copies-are =
      (away-row sizes node line proc proc' cache.copies cache'.copies headers nothing_sent nothing_sent row o away is copies-are
      (ap (λ p. p.place) proc-is ∙ sym (ap (λ b. cond b (suc proc.place) proc.place) done))
      (ap (λ p. p.want) proc-is ∙ sym (ap (Rattle.op_model.specs.Shares.want_after sizes proc.want line) gone ∙ want-gone sizes proc.want line w wanted on))
      (sent-none nothing_sent ∙ sym (ap (λ m. Rattle.node_share.specs.Parts.sent nothing_sent (Rattle.op_model.specs.Events.Node.messages line m)) quiet))).share

  abbrev put : Copy → Outcome
  put copy = record { share = record here { copy = copy; want = None }; sends = []; served = NoService; done = true }

  put-row : on_put (node == home_of sizes line) words here ≡ put (cond w.marked (copy_in cache.copies line) (Shared words))
  unfolding on_put copy_of
  put-row =
      ap (λ b. on_put b words here) (is-away sizes node line away)
      ∙ ap (λ k. on_put false words (record here { want = k })) (want-is sizes proc.want line w wanted on)

  pub put-marked : AreCopies cache.copies → w.marked ≡ true → cache' ≡ cache → Leaves (on_put (node == home_of sizes line) words)
  put-marked held marked same =
      leaves (on_put (node == home_of sizes line) words) (put (copy_in cache.copies line)) (put-row ∙ ap (λ b. put (cond b (copy_in cache.copies line) (Shared words))) marked) refl refl refl
      (ap (λ c. c.copies) same ∙ sym (copy-kept cache.copies line held))

  pub put-cached : w.marked ≡ false → cache' ≡ with_copy cache line (Shared words) → Leaves (on_put (node == home_of sizes line) words)
  put-cached unmarked cached =
      leaves (on_put (node == home_of sizes line) words) (put (Shared words)) (put-row ∙ ap (λ b. put (cond b (copy_in cache.copies line) (Shared words))) unmarked) refl refl refl (ap (λ c. c.copies) cached)

  pub putx-cached : is_load w.op.kind ≡ false → cache' ≡ with_copy cache line (copy_done w.op words) → Leaves (on_putx (node == home_of sizes line) words)
  unfolding on_putx
  putx-cached write cached =
      leaves (on_putx (node == home_of sizes line) words)
      (record { share = record here { copy = Exclusive (after_op w.op words); want = None }; sends = []; served = Own w.op words; done = true })
      (ap (λ b. on_putx b words here) (is-away sizes node line away) ∙ ap (λ k. on_putx false words (record here { want = k })) (want-is sizes proc.want line w wanted on)) refl refl refl
      (ap (λ c. c.copies) cached ∙ ap (Rattle.op_model.specs.Shares.put_copy cache.copies line) (done-write w.op words write))

-- at the home
module _ {D : Type 0} (home : HomeView D) (line : ℕ) (proc proc' : ProcView) (cache cache' : CacheView) (words : Words) (w : Want) (wanted : proc.want ≡ Some w) (on : line_of home.sizes w.op.word ≡ line) (own : home_of home.sizes line ≡ home.node) (proc-is : proc' ≡ ended proc) where
  abbrev h : Header
  h = header_at home line

  abbrev before : LineShare
  before = record { copy = copy_in cache.copies line; want = want_on home.sizes proc.want line; header = h }

  abbrev pub Makes : HomeView D → ℕ → (LineShare → Outcome) → Type 0
  Makes home' node row = share_of proc' cache'.copies home'.headers ≡ (row_at home.sizes node (share_of proc cache.copies home.headers) line row).share

  makes : (home' : HomeView D) (row : LineShare → Outcome) (o : Outcome) → row before ≡ o → Puts home home' line o.share.header → o.done ≡ true → o.share.want ≡ None → o.sends ≡ [] → cache'.copies ≡ Rattle.op_model.specs.Shares.put_copy cache.copies line o.share.copy → Makes home' home.node row
  makes home' row o is puts done gone quiet copies-are =
      (own-row home home' proc proc' cache.copies cache'.copies line nothing_sent nothing_sent row o own is puts copies-are
      (ap (λ p. p.place) proc-is ∙ sym (ap (λ b. cond b (suc proc.place) proc.place) done))
      (ap (λ p. p.want) proc-is ∙ sym (ap (Rattle.op_model.specs.Shares.want_after home.sizes proc.want line) gone ∙ want-gone home.sizes proc.want line w wanted on))
      (sent-none nothing_sent ∙ sym (ap (λ m. Rattle.node_share.specs.Parts.sent nothing_sent (Rattle.op_model.specs.Events.Node.messages line m)) quiet))).share

  module _ (h1 h2 h3 : HomeView D) (first : h1 ≡ with_header home line (record h { memory = words })) (second : h2 ≡ with_header h1 line (record (header_at h1 line) { dirty = false })) (third : h3 ≡ with_header h2 line (record (header_at h2 line) { local = true })) where
    pub kept-words : Puts home h3 line (record h { memory = words; dirty = false; local = true })
    kept-words = puts-then (puts-then (puts-once home h1 line (record h { memory = words }) home.dir first) h2 (λ k. record k { dirty = false }) h1.dir second) h3 (λ k. record k { local = true }) h2.dir third

    pub put-home : (h4 : HomeView D) (node : ℕ) → home.node ≡ node → h4 ≡ with_header h3 line (record (header_at h3 line) { wait = Idle }) → cache' ≡ with_copy cache line (Shared words) → Makes h4 node (on_put (node == home_of home.sizes line) words)
    unfolding on_put
    put-home h4 node number fourth cached =
        subst (λ k. Makes h4 k (on_put (k == home_of home.sizes line) words)) number
        (makes h4 (on_put (home.node == home_of home.sizes line) words)
        (record { share = record { copy = Shared words; want = None; header = record h { memory = words; dirty = false; local = true; wait = Idle } }; sends = []; served = NoService; done = true })
        (ap (λ b. on_put b words before) (at-home home.sizes home.node line own))
        (puts-then kept-words h4 (λ k. record k { wait = Idle }) h3.dir fourth) refl refl refl (ap (λ c. c.copies) cached))

  module _ (h1 h2 : HomeView D) (first : h1 ≡ with_header home line (record h { dirty = true })) (second : h2 ≡ with_header h1 line (record (header_at h1 line) { local = true })) where
    pub owned : Puts home h2 line (record h { dirty = true; local = true })
    owned = puts-then (puts-once home h1 line (record h { dirty = true }) home.dir first) h2 (λ k. record k { local = true }) h1.dir second

    module _ (h3 : HomeView D) (third : h3 ≡ with_header h2 line (record (header_at h2 line) { wait = Idle })) where
      pub owned-idle : Puts home h3 line (record h { dirty = true; local = true; wait = Idle })
      owned-idle = puts-then owned h3 (λ k. record k { wait = Idle }) h2.dir third

      pub putx-home : (h4 : HomeView D) (node : ℕ) → home.node ≡ node → h4 ≡ relisted h3 h4.dir line none → is_load w.op.kind ≡ false → cache' ≡ with_copy cache line (copy_done w.op words) → Makes h4 node (on_putx (node == home_of home.sizes line) words)
      unfolding on_putx
      putx-home h4 node number fourth write cached =
          subst (λ k. Makes h4 k (on_putx (k == home_of home.sizes line) words)) number
          (makes h4 (on_putx (home.node == home_of home.sizes line) words)
          (record { share = record { copy = Exclusive (after_op w.op words); want = None; header = record h { dirty = true; local = true; wait = Idle; list = none } }; sends = []; served = Own w.op words; done = true })
          (ap (λ b. on_putx b words before) (at-home home.sizes home.node line own) ∙ ap (λ k. on_putx true words (record before { want = k })) (want-is home.sizes proc.want line w wanted on))
          (puts-then owned-idle h4 (λ k. record k { list = none }) h4.dir fourth) refl refl refl
          (ap (λ c. c.copies) cached ∙ ap (Rattle.op_model.specs.Shares.put_copy cache.copies line) (done-write w.op words write)))
