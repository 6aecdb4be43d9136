-- A write that drains its line, call by call.
use Rattle.std.proofs.Common.{◌≡◌, ℕ, suc, true, [], slice_get, Some, None, Ok, refl, sym, ap, ◌∙◌, subst}
use Rattle.line_map.specs.Sizes.{home_of, line_of}
use Rattle.op_model.specs.declared.operations.Op.{Op}
use Rattle.op_model.specs.Nodes.{count}
use Rattle.op_model.specs.Operations.{Words, after_op, entry_of}
use Rattle.op_model.specs.Lines.{Exclusive, Header, LineShare, Outcome, to_listed}
use Rattle.op_model.specs.Shares.{Share, copy_in, copy_of, header_in, line_share, put_copy, want_after, want_on}
use Rattle.op_model.specs.Events.Node.{IssueNext, by_row, messages}
use Rattle.op_model.specs.Programs.{IsProgramOf}
use Rattle.eager_model.specs.Node.{local}
use Rattle.eager_model.specs.Rows.{Drain, write_and_drain}
use Rattle.cpu_cache.specs.Effects.{own_effect}
use Rattle.cpu_cache.specs.declared.effects.Effect.{Effect}
use Rattle.cpu_cache.specs.Caches.{CacheView, with_copy}
use Rattle.cpu_cache.specs.Processors.{ProcView}
use Rattle.dir_header.specs.HomeSides.{HomeView, header_at, made_pending, with_header}
use Rattle.msg_words.specs.SendList.{SendList}
use Rattle.node_share.specs.Parts.{copy_done, sent, share_of, DoesRow}
use Rattle.node_share.specs.Effects.{Acts}
use Rattle.node_share.proofs.Public.{Puts, done-write, effect-own, own-row, puts-once, puts-read, puts-then}
use Rattle.eager_home.proofs.Written.{IsDrainingWrite}

module _ {D : Type 0} (home : HomeView D) (node : ℕ) (op : Op) (proc : ProcView) (cache : CacheView) (out : SendList) (number : home.node ≡ node) (program : IsProgramOf home.sizes node proc.program) (next : slice_get proc.program proc.place ≡ Some op) where
  abbrev share : Share
  share = share_of proc cache.copies home.headers

  abbrev line : ℕ
  line = line_of home.sizes op.word

  abbrev h : Header
  h = header_at home line

  abbrev before : LineShare
  before = record { copy = copy_in cache.copies line; want = want_on home.sizes proc.want line; header = h }

  module _ (own : home_of home.sizes line ≡ node) (is : IsDrainingWrite home.sizes node proc.program share op next) (h1 h2 h3 : HomeView D)
      (first : h1 ≡ with_header home line (made_pending h (Drain node))) (second : h2 ≡ with_header h1 line (record (header_at h1 line) { local = true })) (third : h3 ≡ with_header h2 line (record (header_at h2 line) { dirty = true })) where
    puts : Puts home h3 line (record h { wait = Drain node; acks = count h.list; local = true; dirty = true })
    puts = puts-then (puts-then (puts-once home h1 line (record h { wait = Drain node; acks = count h.list }) home.dir first) h2 (λ k. record k { local = true }) h1.dir second) h3 (λ k. record k { dirty = true }) h2.dir third

    pub wrote : (proc' : ProcView) (cache' : CacheView) (out' : SendList) (effect : Effect) (words : Words) → words ≡ h.memory → out' ≡ sent out (messages line (to_listed (header_at h3 line).list)) →
        effect ≡ own_effect (entry_of op.node op.index op words) → proc' ≡ record proc { place = suc proc.place; want = None } → cache' ≡ with_copy cache line (copy_done op words) →
        Acts node proc.program proc.place [] (local home.sizes node proc.program share IssueNext) (share_of proc' cache'.copies h3.headers) out out' effect
    unfolding copy_of header_in
    wrote proc' cache' out' effect words are called told proc-is cached =
        let o : Outcome = write_and_drain node op before in
        let copied : copy_done op words ≡ Exclusive (after_op op h.memory) = done-write op words is.write ∙ ap (λ w. Exclusive (after_op op w)) are in
        let wanted : proc'.want ≡ want_after home.sizes proc.want line o.share.want = ap (λ p. p.want) proc-is ∙ sym (ap (λ w. want_after home.sizes w line (want_on home.sizes w line)) is.free) in
        let row : DoesRow home.sizes node share (share_of proc' cache'.copies h3.headers) out out' line (write_and_drain node op) =
        subst (λ k. DoesRow home.sizes k share (share_of proc' cache'.copies h3.headers) out out' line (write_and_drain node op)) number
        (own-row home h3 proc proc' cache.copies cache'.copies line out out' (write_and_drain node op) o (own ∙ sym number) refl puts
        (ap (λ c. c.copies) cached ∙ ap (put_copy cache.copies line) copied) (ap (λ p. p.place) proc-is) wanted
        (called ∙ ap (λ k. sent out (messages line (to_listed k.list))) (puts-read puts))) in
        record {
          outcome = by_row home.sizes node share line (write_and_drain node op (line_share home.sizes share line));
          is = is.is ∙ ap (λ k. Ok (by_row home.sizes node share line (write_and_drain k op (line_share home.sizes share line)))) own;
          share = row.share;
          sends = row.sends;
          told = told ∙ ap (λ w. own_effect (entry_of op.node op.index op w)) are
              ∙ effect-own node proc.program proc.place [] (by_row home.sizes node share line (write_and_drain node op (line_share home.sizes share line))) home.sizes op h.memory program next refl refl;
        }
