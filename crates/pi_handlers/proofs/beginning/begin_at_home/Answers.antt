-- The first row that holds begins the operation.
use Rattle.std.proofs.Common.{◌≡◌, ◌<◌, true, false, refl, sym, ap, ◌∙◌, subst}
use Rattle.std.specs.Prelude.{not}
use Rattle.std.proofs.lemmas.Bool.{both_ways}
use Rattle.std.proofs.lemmas.Result.{err_from_is_err_and}
use Rattle.std.proofs.lemmas.Option.{slice_get_within}
use Rattle.line_map.specs.Sizes.{line_of, home_of}
use Rattle.op_model.specs.Operations.{is_load}
use Rattle.op_model.specs.Lines.{is_idle, nobody_listed}
use Rattle.op_model.specs.Tables.Processor.{begin_at_home}
use Rattle.op_model.specs.Shares.{line_share, copy_of, header_of, header_in}
use Rattle.op_model.proofs.Public.{refused-for}
use Rattle.cpu_cache.specs.Caches.{with_copy}
use Rattle.dir_header.specs.HomeSides.{header_at, room_in}
use Rattle.node_share.specs.Parts.{share_of, copy_done}
use Rattle.node_share.specs.Effects.{Begins}
use Rattle.node_share.proofs.Public.{load_test, on-ok}
use Rattle.pi_handlers.proofs.Rows.{allowed-idle, allowed-room, dirty-waits, write-waits, no-acks, owner-listed}
use Rattle.pi_handlers.proofs.Begun.{Does, begun-is, forwards-get, forwards-getx, calls-in, loads, writes}
use Rattle.pi_handlers.proofs.beginning.begin_at_home.Goals as goal

pub returns-in_err-can_begin_at_home-clause-refused : goal.returns-in_err-can_begin_at_home-clause-refused
returns-in_err-can_begin_at_home-clause-refused g c =
    let home = c.args.home.now in
    let share = line_share home.sizes (share_of c.args.proc.now c.args.cache.now.copies home.headers) c.args.line in
    let p = err_from_is_err_and c.from_residual.result c.from_residual.ensures.1 in
    rw (p.1, p.2) (refused-for (begin_at_home c.args.node (room_in home) c.args.op.now share) c.in_err-can_begin_at_home.field-0.0 (c.in_err-can_begin_at_home.ensures c.args.node share refl))

pub make_pending-requires-clause-idle : goal.make_pending-requires-clause-idle
make_pending-requires-clause-idle g c =
    let home = c.args.home.now in
    let room = room_in home in
    let op = c.args.op.now in
    let can = c.in_ok-can_begin_at_home.ensures c.args.node (line_share home.sizes (share_of c.args.proc.now c.args.cache.now.copies home.headers) c.args.line) refl in
    ap not (allowed-idle c.args.node room op (line_share home.sizes (share_of c.args.proc.now c.args.cache.now.copies home.headers) c.args.line) can)

pub make_pending-requires-then-header-clause-idle : goal.make_pending-requires-then-header-clause-idle
make_pending-requires-then-header-clause-idle g c =
    let home = c.args.home.now in
    let room = room_in home in
    let op = c.args.op.now in
    let can = c.in_ok-can_begin_at_home.ensures c.args.node (line_share home.sizes (share_of c.args.proc.now c.args.cache.now.copies home.headers) c.args.line) refl in
    ap not (allowed-idle c.args.node room op (line_share home.sizes (share_of c.args.proc.now c.args.cache.now.copies home.headers) c.args.line) can)

pub make_pending-requires-2-clause-idle : goal.make_pending-requires-2-clause-idle
make_pending-requires-2-clause-idle g c =
    let home = c.args.home.now in
    let room = room_in home in
    let op = c.args.op.now in
    let can = c.in_ok-can_begin_at_home.ensures c.args.node (line_share home.sizes (share_of c.args.proc.now c.args.cache.now.copies home.headers) c.args.line) refl in
    ap not (allowed-idle c.args.node room op (line_share home.sizes (share_of c.args.proc.now c.args.cache.now.copies home.headers) c.args.line) can)

pub owner-owner-requires-clause-listed : goal.owner-owner-requires-clause-listed
unfolding copy_of header_in
owner-owner-requires-clause-listed g c =
    let home = c.args.home.now in
    let h = header_at home c.args.line in
    let room = room_in home in
    let op = c.args.op.now in
    let own : home_of home.sizes c.args.line ≡ home.node = c.requires.here ∙ sym c.requires.node in
    let can = c.in_ok-can_begin_at_home.ensures c.args.node (line_share home.sizes (share_of c.args.proc.now c.args.cache.now.copies home.headers) c.args.line) refl in
    let idle : is_idle h.wait ≡ true = allowed-idle c.args.node room op (line_share home.sizes (share_of c.args.proc.now c.args.cache.now.copies home.headers) c.args.line) can in
    let dirty : h.dirty ≡ true = ap (λ k. k.dirty) (sym c.header.ensures) ∙ c.if-header.true in
    owner-listed c.args.node (line_share home.sizes (share_of c.args.proc.now c.args.cache.now.copies home.headers) c.args.line) op (c.requires.own idle) idle dirty c.requires.unserved

pub begin-requires-clause-left : goal.begin-requires-clause-left
begin-requires-clause-left g c = slice_get_within c.args.proc.now.program c.args.proc.now.place c.args.op.now c.requires.next

pub returns-then-load-clause-done : goal.returns-then-load-clause-done
unfolding copy_of header_in
returns-then-load-clause-done g c =
    let home = c.args.home.now in
    let h = header_at home c.args.line in
    let room = room_in home in
    let op = c.args.op.now in
    let own : home_of home.sizes c.args.line ≡ home.node = c.requires.here ∙ sym c.requires.node in
    let can = c.in_ok-can_begin_at_home.ensures c.args.node (line_share home.sizes (share_of c.args.proc.now c.args.cache.now.copies home.headers) c.args.line) refl in
    let idle : is_idle h.wait ≡ true = allowed-idle c.args.node room op (line_share home.sizes (share_of c.args.proc.now c.args.cache.now.copies home.headers) c.args.line) can in
    let dirty : h.dirty ≡ true = ap (λ k. k.dirty) (sym c.header.ensures) ∙ c.if-header.true in
    let load : is_load op.kind ≡ true = sym (load_test op.kind) ∙ sym c.eq-load.ensures ∙ c.if-load.true in
    let full : room.full ≡ false = allowed-room c.args.node room op (line_share home.sizes (share_of c.args.proc.now c.args.cache.now.copies home.headers) c.args.line) can (dirty-waits op h dirty) in
    let pending = on-ok c.make_pending.result (λ e. both_ways room.full full (c.make_pending.ensures.full.0 e)) c.make_pending.ensures.ok in
    let acks : h.acks ≡ 0 = no-acks c.args.node (line_share home.sizes (share_of c.args.proc.now c.args.cache.now.copies home.headers) c.args.line) op (c.requires.own idle) idle in
    subst (λ e. Does home c.args.node c.args.line op c.args.proc.now c.args.cache.now c.args.out.now c.requires.node own c.requires.free idle c.make_pending.new.self c.begin.new.self c.args.cache.now c.push.new.self e) (sym c.no_effect.ensures)
    (forwards-get home c.args.node c.args.line op c.args.proc.now c.args.cache.now c.args.out.now c.requires.node own c.requires.free idle c.begin.new.self (begun-is c.args.proc.now c.begin.new.self op c.requires.next c.begin.ensures) full c.cfg-kept.ensures.kept.held dirty acks c.push.new.self c.owner-owner.result c.owner-owner.ensures c.make_pending.new.self load pending c.push.ensures)

pub begin-requires-then-header-clause-left : goal.begin-requires-then-header-clause-left
begin-requires-then-header-clause-left g c = slice_get_within c.args.proc.now.program c.args.proc.now.place c.args.op.now c.requires.next

pub returns-then-header-clause-done : goal.returns-then-header-clause-done
unfolding copy_of header_in
returns-then-header-clause-done g c =
    let home = c.args.home.now in
    let h = header_at home c.args.line in
    let room = room_in home in
    let op = c.args.op.now in
    let own : home_of home.sizes c.args.line ≡ home.node = c.requires.here ∙ sym c.requires.node in
    let can = c.in_ok-can_begin_at_home.ensures c.args.node (line_share home.sizes (share_of c.args.proc.now c.args.cache.now.copies home.headers) c.args.line) refl in
    let idle : is_idle h.wait ≡ true = allowed-idle c.args.node room op (line_share home.sizes (share_of c.args.proc.now c.args.cache.now.copies home.headers) c.args.line) can in
    let dirty : h.dirty ≡ true = ap (λ k. k.dirty) (sym c.header.ensures) ∙ c.if-header.true in
    let load : is_load op.kind ≡ false = sym (load_test op.kind) ∙ sym c.eq-load.ensures ∙ c.if-load.false in
    let full : room.full ≡ false = allowed-room c.args.node room op (line_share home.sizes (share_of c.args.proc.now c.args.cache.now.copies home.headers) c.args.line) can (dirty-waits op h dirty) in
    let pending = on-ok c.make_pending-then-header.result (λ e. both_ways room.full full (c.make_pending-then-header.ensures.full.0 e)) c.make_pending-then-header.ensures.ok in
    let acks : h.acks ≡ 0 = no-acks c.args.node (line_share home.sizes (share_of c.args.proc.now c.args.cache.now.copies home.headers) c.args.line) op (c.requires.own idle) idle in
    subst (λ e. Does home c.args.node c.args.line op c.args.proc.now c.args.cache.now c.args.out.now c.requires.node own c.requires.free idle c.make_pending-then-header.new.self c.begin-then-header.new.self c.args.cache.now c.push-then-header.new.self e) (sym c.no_effect-then-header.ensures)
    (forwards-getx home c.args.node c.args.line op c.args.proc.now c.args.cache.now c.args.out.now c.requires.node own c.requires.free idle c.begin-then-header.new.self (begun-is c.args.proc.now c.begin-then-header.new.self op c.requires.next c.begin-then-header.ensures) full c.cfg-kept.ensures.kept.held dirty acks c.push-then-header.new.self c.owner-owner.result c.owner-owner.ensures c.make_pending-then-header.new.self load pending c.push-then-header.ensures)

pub returns-then-load-2-clause-done : goal.returns-then-load-2-clause-done
returns-then-load-2-clause-done g c =
    let home = c.args.home.now in
    let h = header_at home c.args.line in
    let room = room_in home in
    let op = c.args.op.now in
    let own : home_of home.sizes c.args.line ≡ home.node = c.requires.here ∙ sym c.requires.node in
    let can = c.in_ok-can_begin_at_home.ensures c.args.node (line_share home.sizes (share_of c.args.proc.now c.args.cache.now.copies home.headers) c.args.line) refl in
    let idle : is_idle h.wait ≡ true = allowed-idle c.args.node room op (line_share home.sizes (share_of c.args.proc.now c.args.cache.now.copies home.headers) c.args.line) can in
    let dirty : h.dirty ≡ false = ap (λ k. k.dirty) (sym c.header.ensures) ∙ c.if-header.false in
    let load : is_load op.kind ≡ true = sym (load_test op.kind) ∙ sym c.eq-load.ensures ∙ c.if-load-2.true in
    subst (λ e. Does home c.args.node c.args.line op c.args.proc.now c.args.cache.now c.args.out.now c.requires.node own c.requires.free idle c.set_local.new.self c.finish_on.new.proc c.finish_on.new.cache c.args.out.now e) (sym c.finish_on.ensures.effect)
    (loads home c.args.node c.args.line op c.args.proc.now c.args.cache.now c.args.out.now c.requires.node own c.requires.free idle c.finish_on.new.proc c.finish_on.ensures.proc c.finish_on.new.cache c.memory-body.result c.memory-body.ensures.value (c.finish_on.ensures.cache ∙ ap (λ k. with_copy c.args.cache.now k (copy_done op c.memory-body.result)) (sym c.requires.line)) dirty c.requires.program c.requires.next c.set_local.new.self load c.set_local.ensures)

pub returns-then-nobody-clause-done : goal.returns-then-nobody-clause-done
returns-then-nobody-clause-done g c =
    let home = c.args.home.now in
    let h = header_at home c.args.line in
    let room = room_in home in
    let op = c.args.op.now in
    let own : home_of home.sizes c.args.line ≡ home.node = c.requires.here ∙ sym c.requires.node in
    let can = c.in_ok-can_begin_at_home.ensures c.args.node (line_share home.sizes (share_of c.args.proc.now c.args.cache.now.copies home.headers) c.args.line) refl in
    let idle : is_idle h.wait ≡ true = allowed-idle c.args.node room op (line_share home.sizes (share_of c.args.proc.now c.args.cache.now.copies home.headers) c.args.line) can in
    let dirty : h.dirty ≡ false = ap (λ k. k.dirty) (sym c.header.ensures) ∙ c.if-header.false in
    let load : is_load op.kind ≡ false = sym (load_test op.kind) ∙ sym c.eq-load.ensures ∙ c.if-load-2.false in
    let nobody : nobody_listed h.list ≡ true = sym c.nobody.ensures ∙ c.if-nobody.true in
    subst (λ e. Does home c.args.node c.args.line op c.args.proc.now c.args.cache.now c.args.out.now c.requires.node own c.requires.free idle c.set_dirty.new.self c.finish_on-then-nobody.new.proc c.finish_on-then-nobody.new.cache c.args.out.now e) (sym c.finish_on-then-nobody.ensures.effect)
    (writes home c.args.node c.args.line op c.args.proc.now c.args.cache.now c.args.out.now c.requires.node own c.requires.free idle c.finish_on-then-nobody.new.proc c.finish_on-then-nobody.ensures.proc c.finish_on-then-nobody.new.cache c.memory-body.result c.memory-body.ensures.value (c.finish_on-then-nobody.ensures.cache ∙ ap (λ k. with_copy c.args.cache.now k (copy_done op c.memory-body.result)) (sym c.requires.line)) dirty c.requires.program c.requires.next c.set_local-then-nobody.new.self c.set_dirty.new.self load nobody c.set_local-then-nobody.ensures c.set_dirty.ensures)

pub begin-requires-2-clause-left : goal.begin-requires-2-clause-left
begin-requires-2-clause-left g c = slice_get_within c.args.proc.now.program c.args.proc.now.place c.args.op.now c.requires.next

pub returns-clause-done : goal.returns-clause-done
returns-clause-done g c =
    let home = c.args.home.now in
    let h = header_at home c.args.line in
    let room = room_in home in
    let op = c.args.op.now in
    let own : home_of home.sizes c.args.line ≡ home.node = c.requires.here ∙ sym c.requires.node in
    let can = c.in_ok-can_begin_at_home.ensures c.args.node (line_share home.sizes (share_of c.args.proc.now c.args.cache.now.copies home.headers) c.args.line) refl in
    let idle : is_idle h.wait ≡ true = allowed-idle c.args.node room op (line_share home.sizes (share_of c.args.proc.now c.args.cache.now.copies home.headers) c.args.line) can in
    let dirty : h.dirty ≡ false = ap (λ k. k.dirty) (sym c.header.ensures) ∙ c.if-header.false in
    let load : is_load op.kind ≡ false = sym (load_test op.kind) ∙ sym c.eq-load.ensures ∙ c.if-load-2.false in
    let nobody : nobody_listed h.list ≡ false = sym c.nobody.ensures ∙ c.if-nobody.false in
    let full : room.full ≡ false = allowed-room c.args.node room op (line_share home.sizes (share_of c.args.proc.now c.args.cache.now.copies home.headers) c.args.line) can (write-waits op h dirty load ∙ ap not nobody) in
    let pending = on-ok c.make_pending-2.result (λ e. both_ways room.full full (c.make_pending-2.ensures.full.0 e)) c.make_pending-2.ensures.ok in
    subst (λ e. Does home c.args.node c.args.line op c.args.proc.now c.args.cache.now c.args.out.now c.requires.node own c.requires.free idle c.set_local-2.new.self c.begin-2.new.self c.drop_line.new.self c.send_invs.new.out e) (sym c.no_effect-2.ensures)
    (calls-in home c.args.node c.args.line op c.args.proc.now c.args.cache.now c.args.out.now c.requires.node own c.requires.free idle c.begin-2.new.self (begun-is c.args.proc.now c.begin-2.new.self op c.requires.next c.begin-2.ensures) full dirty load nobody c.make_pending-2.new.self c.set_local-2.new.self c.drop_line.new.self c.send_invs.new.out pending c.set_local-2.ensures c.drop_line.ensures.dropped c.send_invs.ensures)
