-- The write is done; at the home its line is owned and no longer waited for.
use Rattle.std.proofs.Common.{◌≡◌, ◌≢◌, ◌==◌, false, Some, sym, ap, ◌∙◌, subst}
use Rattle.std.specs.Prelude.{IfSome, slice_get}
use Rattle.line_map.specs.Sizes.{line_of, home_of}
use Rattle.op_model.specs.Lines.{is_pending}
use Rattle.op_model.specs.Shares.{want_on, copy_in}
use Rattle.cpu_cache.specs.Processors.{next_of}
use Rattle.op_model.specs.Operations.{is_load}
use Rattle.op_model.specs.Tables.Processor.{serves}
use Rattle.op_model.specs.Tables.Remote.{is_invalidate}
use Rattle.op_model.proofs.Public.{write-outstanding}
use Rattle.cpu_cache.specs.Caches.{with_copy, is_set_taken}
use Rattle.node_share.specs.Parts.{copy_done}
use Rattle.node_share.proofs.Public.{on-line, puts-read, set-unserved, set-untaken, want-is, write-is}
use Rattle.remote_handlers.proofs.Ended.{owned, owned-idle, putx-home, putx-cached, putx-tells}
use Rattle.remote_handlers.proofs.answers.on_putx.Goals as goal

pub finish_on-effect-requires-clause-alone : goal.finish_on-effect-requires-clause-alone
finish_on-effect-requires-clause-alone g c =
    let home = c.args.home.now in
    let w = c.unwrap.result in
    let wanted : c.args.proc.now.want ≡ Some w = sym c.want.ensures.value ∙ c.unwrap.ensures in
    let on : line_of home.sizes w.op.word ≡ c.args.line = on-line home.sizes c.args.proc.now.want c.args.line w wanted (write-outstanding (want_on home.sizes c.args.proc.now.want c.args.line) c.requires.waits) in
    ap (is_set_taken c.args.cache.now) (ap (λ z. line_of z w.op.word) c.requires.same ∙ on) ∙ set-untaken c.args.home.now.sizes c.args.proc.now c.args.cache.now c.args.home.now.headers c.args.line c.requires.same c.requires.alone

pub finish_on-effect-requires-clause-unserved : goal.finish_on-effect-requires-clause-unserved
finish_on-effect-requires-clause-unserved g c =
    let home = c.args.home.now in
    let w = c.unwrap.result in
    let wanted : c.args.proc.now.want ≡ Some w = sym c.want.ensures.value ∙ c.unwrap.ensures in
    let on : line_of home.sizes w.op.word ≡ c.args.line = on-line home.sizes c.args.proc.now.want c.args.line w wanted (write-outstanding (want_on home.sizes c.args.proc.now.want c.args.line) c.requires.waits) in
    ap (λ k. serves w.op (copy_in c.args.cache.now.copies k)) (ap (λ z. line_of z w.op.word) c.requires.same ∙ on) ∙ set-unserved c.args.home.now.sizes c.args.proc.now c.args.cache.now c.args.home.now.headers c.args.line c.requires.same c.requires.alone w.op

pub end_pending-requires-clause-pending : goal.end_pending-requires-clause-pending
end_pending-requires-clause-pending g c =
    let home = c.args.home.now in
    let w = c.unwrap.result in
    let wanted : c.args.proc.now.want ≡ Some w = sym c.want.ensures.value ∙ c.unwrap.ensures in
    let on : line_of home.sizes w.op.word ≡ c.args.line = on-line home.sizes c.args.proc.now.want c.args.line w wanted (write-outstanding (want_on home.sizes c.args.proc.now.want c.args.line) c.requires.waits) in
    let there : home_of home.sizes c.args.line ≡ c.args.node = ap (λ z. home_of z c.args.line) (sym (c.cfg-cfg.ensures.value ∙ c.requires.same)) ∙ sym c.home_of.ensures.value ∙ c.if-home_of-node.true in
    let own : home_of home.sizes c.args.line ≡ home.node = there ∙ sym c.requires.node in
    ap is_pending (puts-read (owned home c.args.line c.args.proc.now c.finish_on-effect.new.proc c.args.cache.now c.finish_on-effect.new.cache c.args.body.now w wanted on own c.finish_on-effect.ensures.proc c.set_dirty.new.self c.set_local.new.self c.set_dirty.ensures c.set_local.ensures)) ∙ c.requires.pending there

pub end_pending-requires-clause-acks : goal.end_pending-requires-clause-acks
end_pending-requires-clause-acks g c =
    let home = c.args.home.now in
    let w = c.unwrap.result in
    let wanted : c.args.proc.now.want ≡ Some w = sym c.want.ensures.value ∙ c.unwrap.ensures in
    let on : line_of home.sizes w.op.word ≡ c.args.line = on-line home.sizes c.args.proc.now.want c.args.line w wanted (write-outstanding (want_on home.sizes c.args.proc.now.want c.args.line) c.requires.waits) in
    let there : home_of home.sizes c.args.line ≡ c.args.node = ap (λ z. home_of z c.args.line) (sym (c.cfg-cfg.ensures.value ∙ c.requires.same)) ∙ sym c.home_of.ensures.value ∙ c.if-home_of-node.true in
    let own : home_of home.sizes c.args.line ≡ home.node = there ∙ sym c.requires.node in
    ap (λ h. h.acks) (puts-read (owned home c.args.line c.args.proc.now c.finish_on-effect.new.proc c.args.cache.now c.finish_on-effect.new.cache c.args.body.now w wanted on own c.finish_on-effect.ensures.proc c.set_dirty.new.self c.set_local.new.self c.set_dirty.ensures c.set_local.ensures)) ∙ c.requires.acks there

pub list_only-requires-clause-calm : goal.list_only-requires-clause-calm
list_only-requires-clause-calm g c =
    let home = c.args.home.now in
    let w = c.unwrap.result in
    let wanted : c.args.proc.now.want ≡ Some w = sym c.want.ensures.value ∙ c.unwrap.ensures in
    let on : line_of home.sizes w.op.word ≡ c.args.line = on-line home.sizes c.args.proc.now.want c.args.line w wanted (write-outstanding (want_on home.sizes c.args.proc.now.want c.args.line) c.requires.waits) in
    let there : home_of home.sizes c.args.line ≡ c.args.node = ap (λ z. home_of z c.args.line) (sym (c.cfg-cfg.ensures.value ∙ c.requires.same)) ∙ sym c.home_of.ensures.value ∙ c.if-home_of-node.true in
    let own : home_of home.sizes c.args.line ≡ home.node = there ∙ sym c.requires.node in
    ap (λ h. is_invalidate h.wait) (puts-read (owned-idle home c.args.line c.args.proc.now c.finish_on-effect.new.proc c.args.cache.now c.finish_on-effect.new.cache c.args.body.now w wanted on own c.finish_on-effect.ensures.proc c.set_dirty.new.self c.set_local.new.self c.set_dirty.ensures c.set_local.ensures c.end_pending.new.self c.end_pending.ensures))

pub returns-then-home_of-node-clause-share : goal.returns-then-home_of-node-clause-share
returns-then-home_of-node-clause-share g c =
    let home = c.args.home.now in
    let w = c.unwrap.result in
    let wanted : c.args.proc.now.want ≡ Some w = sym c.want.ensures.value ∙ c.unwrap.ensures in
    let on : line_of home.sizes w.op.word ≡ c.args.line = on-line home.sizes c.args.proc.now.want c.args.line w wanted (write-outstanding (want_on home.sizes c.args.proc.now.want c.args.line) c.requires.waits) in
    let there : home_of home.sizes c.args.line ≡ c.args.node = ap (λ z. home_of z c.args.line) (sym (c.cfg-cfg.ensures.value ∙ c.requires.same)) ∙ sym c.home_of.ensures.value ∙ c.if-home_of-node.true in
    let own : home_of home.sizes c.args.line ≡ home.node = there ∙ sym c.requires.node in
    let write : is_load w.op.kind ≡ false = write-is (want_on home.sizes c.args.proc.now.want c.args.line) w (want-is home.sizes c.args.proc.now.want c.args.line w wanted on) c.requires.waits in
    let cached : c.finish_on-effect.new.cache ≡ with_copy c.args.cache.now c.args.line (copy_done w.op c.args.body.now) = c.finish_on-effect.ensures.cache ∙ ap (λ k. with_copy c.args.cache.now k (copy_done w.op c.args.body.now)) (ap (λ z. line_of z w.op.word) c.requires.same ∙ on) in
    putx-home home c.args.line c.args.proc.now c.finish_on-effect.new.proc c.args.cache.now c.finish_on-effect.new.cache c.args.body.now w wanted on own c.finish_on-effect.ensures.proc c.set_dirty.new.self c.set_local.new.self c.set_dirty.ensures c.set_local.ensures c.end_pending.new.self c.end_pending.ensures c.list_only.new.self c.args.node c.requires.node c.list_only.ensures.home write cached

pub returns-then-home_of-node-clause-effect : goal.returns-then-home_of-node-clause-effect
returns-then-home_of-node-clause-effect g c =
    let home = c.args.home.now in
    let w = c.unwrap.result in
    let wanted : c.args.proc.now.want ≡ Some w = sym c.want.ensures.value ∙ c.unwrap.ensures in
    let on : line_of home.sizes w.op.word ≡ c.args.line = on-line home.sizes c.args.proc.now.want c.args.line w wanted (write-outstanding (want_on home.sizes c.args.proc.now.want c.args.line) c.requires.waits) in
    let next : slice_get c.args.proc.now.program c.args.proc.now.place ≡ Some w.op = subst (λ o. IfSome o (λ k. next_of c.args.proc.now ≡ Some k.op)) c.unwrap.ensures c.want.ensures.next in
    c.finish_on-effect.ensures.effect ∙ putx-tells home.sizes c.args.node c.args.line c.args.proc.now c.args.cache.now home.headers c.args.body.now w wanted c.requires.program next (c.args.node == home_of home.sizes c.args.line) on

pub returns-clause-share : goal.returns-clause-share
returns-clause-share g c =
    let home = c.args.home.now in
    let w = c.unwrap.result in
    let wanted : c.args.proc.now.want ≡ Some w = sym c.want.ensures.value ∙ c.unwrap.ensures in
    let on : line_of home.sizes w.op.word ≡ c.args.line = on-line home.sizes c.args.proc.now.want c.args.line w wanted (write-outstanding (want_on home.sizes c.args.proc.now.want c.args.line) c.requires.waits) in
    let away : home_of home.sizes c.args.line ≢ c.args.node = λ e. c.if-home_of-node.false (c.home_of.ensures.value ∙ ap (λ z. home_of z c.args.line) (c.cfg-cfg.ensures.value ∙ c.requires.same) ∙ e) in
    let write : is_load w.op.kind ≡ false = write-is (want_on home.sizes c.args.proc.now.want c.args.line) w (want-is home.sizes c.args.proc.now.want c.args.line w wanted on) c.requires.waits in
    let cached : c.finish_on-effect.new.cache ≡ with_copy c.args.cache.now c.args.line (copy_done w.op c.args.body.now) = c.finish_on-effect.ensures.cache ∙ ap (λ k. with_copy c.args.cache.now k (copy_done w.op c.args.body.now)) (ap (λ z. line_of z w.op.word) c.requires.same ∙ on) in
    putx-cached home.sizes c.args.node c.args.line c.args.proc.now c.finish_on-effect.new.proc c.args.cache.now c.finish_on-effect.new.cache home.headers c.args.body.now w wanted on away c.finish_on-effect.ensures.proc write cached

pub returns-clause-effect : goal.returns-clause-effect
returns-clause-effect g c =
    let home = c.args.home.now in
    let w = c.unwrap.result in
    let wanted : c.args.proc.now.want ≡ Some w = sym c.want.ensures.value ∙ c.unwrap.ensures in
    let on : line_of home.sizes w.op.word ≡ c.args.line = on-line home.sizes c.args.proc.now.want c.args.line w wanted (write-outstanding (want_on home.sizes c.args.proc.now.want c.args.line) c.requires.waits) in
    let next : slice_get c.args.proc.now.program c.args.proc.now.place ≡ Some w.op = subst (λ o. IfSome o (λ k. next_of c.args.proc.now ≡ Some k.op)) c.unwrap.ensures c.want.ensures.next in
    c.finish_on-effect.ensures.effect ∙ putx-tells home.sizes c.args.node c.args.line c.args.proc.now c.args.cache.now home.headers c.args.body.now w wanted c.requires.program next (c.args.node == home_of home.sizes c.args.line) on
