-- The line drains, and the write is done on a copy from memory.
use Rattle.std.proofs.Common.{◌≡◌, true, not, ap, ◌∙◌, subst}
use Rattle.std.proofs.lemmas.Bool.{both_ways}
use Rattle.line_map.specs.Sizes.{line_of}
use Rattle.op_model.specs.Lines.{is_pending, to_listed}
use Rattle.op_model.specs.Events.Node.{messages}
use Rattle.op_model.specs.Shares.{copy_in, copy_of, header_in}
use Rattle.op_model.specs.Tables.Processor.{serves}
use Rattle.eager_model.specs.Rows.{Drain}
use Rattle.cpu_cache.specs.Caches.{is_set_taken, with_copy}
use Rattle.dir_header.specs.HomeSides.{header_at, made_pending, room_in, with_header}
use Rattle.node_share.specs.Parts.{copy_done, sent, share_of}
use Rattle.node_share.proofs.Public.{on-ok}
use Rattle.eager_home.proofs.Written.{drains}
use Rattle.eager_home.proofs.Wrote.{wrote}
use Rattle.eager_home.proofs.writes.write_and_drain.Goals as goal

pub make_pending-requires-clause-idle : goal.make_pending-requires-clause-idle
unfolding header_in
make_pending-requires-clause-idle g c =
    let home = c.args.home.now in
    let line : c.line_of-line.result ≡ line_of home.sizes c.args.op.now.word = c.line_of-line.ensures.value ∙ ap (λ z. line_of z c.args.op.now.word) c.cfg.ensures.value in
    let is = drains home.sizes c.args.node c.args.proc.now.program (share_of c.args.proc.now c.args.cache.now.copies home.headers) c.args.op.now c.requires.next c.requires.allowed c.requires.here c.requires.shared in
    ap (λ l. is_pending (header_at home l)) line ∙ ap not is.idle

pub finish_on-requires-clause-alone : goal.finish_on-requires-clause-alone
unfolding header_in
finish_on-requires-clause-alone g c =
    let home = c.args.home.now in
    let is = drains home.sizes c.args.node c.args.proc.now.program (share_of c.args.proc.now c.args.cache.now.copies home.headers) c.args.op.now c.requires.next c.requires.allowed c.requires.here c.requires.shared in
    ap (λ z. is_set_taken (record { sizes = z; copies = c.args.cache.now.copies }) (line_of z c.args.op.now.word)) c.requires.same ∙ is.alone

pub finish_on-requires-clause-unserved : goal.finish_on-requires-clause-unserved
unfolding header_in copy_of
finish_on-requires-clause-unserved g c =
    let home = c.args.home.now in
    let is = drains home.sizes c.args.node c.args.proc.now.program (share_of c.args.proc.now c.args.cache.now.copies home.headers) c.args.op.now c.requires.next c.requires.allowed c.requires.here c.requires.shared in
    ap (λ z. serves c.args.op.now (copy_in c.args.cache.now.copies (line_of z c.args.op.now.word))) c.requires.same ∙ is.unserved

pub returns-clause-acts : goal.returns-clause-acts
unfolding header_in
returns-clause-acts g c =
    let home = c.args.home.now in
    let op = c.args.op.now in
    let line : c.line_of-line.result ≡ line_of home.sizes op.word = c.line_of-line.ensures.value ∙ ap (λ z. line_of z op.word) c.cfg.ensures.value in
    let is = drains home.sizes c.args.node c.args.proc.now.program (share_of c.args.proc.now c.args.cache.now.copies home.headers) op c.requires.next c.requires.allowed c.requires.here c.requires.shared in
    let pending = on-ok c.make_pending.result (λ e. both_ways (room_in home).full is.left (c.make_pending.ensures.full.0 e)) c.make_pending.ensures.ok in
    let h1 = c.make_pending.new.self in
    let h2 = c.set_local.new.self in
    let h3 = c.set_dirty.new.self in
    wrote home c.args.node op c.args.proc.now c.args.cache.now c.args.out.now c.requires.node c.requires.program c.requires.next c.requires.here is h1 h2 h3
    (subst (λ l. h1 ≡ with_header home l (made_pending (header_at home l) (Drain c.args.node))) line pending)
    (subst (λ l. h2 ≡ with_header h1 l (record (header_at h1 l) { local = true })) line c.set_local.ensures)
    (subst (λ l. h3 ≡ with_header h2 l (record (header_at h2 l) { dirty = true })) line c.set_dirty.ensures)
    c.finish_on.new.proc c.finish_on.new.cache c.send_invs.new.out c.finish_on.result c.memory-body.result
    (subst (λ l. c.memory-body.result ≡ (header_at home l).memory) line c.memory-body.ensures.value)
    (subst (λ l. c.send_invs.new.out ≡ sent c.args.out.now (messages l (to_listed (header_at h3 l).list))) line c.send_invs.ensures)
    c.finish_on.ensures.effect c.finish_on.ensures.proc
    (c.finish_on.ensures.cache ∙ ap (λ z. with_copy c.args.cache.now (line_of z op.word) (copy_done op c.memory-body.result)) c.requires.same)
