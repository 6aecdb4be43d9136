-- The line waits for the acknowledgements of all listed nodes.
use Rattle.std.proofs.Common.{not, None, refl, ap, ◌∙◌}
use Rattle.std.proofs.lemmas.Result.{err_from_is_err_and}
use Rattle.op_model.specs.Lines.{LineShare, Absent}
use Rattle.op_model.specs.Tables.Processor.{reclaim}
use Rattle.op_model.proofs.Public.{refused-for}
use Rattle.dir_header.specs.HomeSides.{header_at, room_in}
use Rattle.node_share.proofs.Public.{puts-read}
use Rattle.reclaim.proofs.Called.{allows, begun, called, call-does}
use Rattle.reclaim.proofs.calling.begin.Goals as goal

pub returns-in_err-can_begin-clause-allowed : goal.returns-in_err-can_begin-clause-allowed
returns-in_err-can_begin-clause-allowed g c =
    let p = err_from_is_err_and c.from_residual.result c.from_residual.ensures.1 in
    rw (p.1, p.2) (λ (share : LineShare) is. refused-for (reclaim (room_in c.args.home.now) share) c.in_err-can_begin.field-0.0 (c.in_err-can_begin.ensures share is))

pub make_pending-requires-clause-idle : goal.make_pending-requires-clause-idle
make_pending-requires-clause-idle g c =
    let share : LineShare = record { copy = Absent; want = None; header = header_at c.args.home.now c.args.line } in
    ap not (allows (room_in c.args.home.now) share (c.in_ok-can_begin.ensures share refl)).0

pub returns-clause-done : goal.returns-clause-done
returns-clause-done g c =
    let share : LineShare = record { copy = Absent; want = None; header = header_at c.args.home.now c.args.line } in
    let can = allows (room_in c.args.home.now) share (c.in_ok-can_begin.ensures share refl) in
    call-does c.args.home.now c.make_pending.new.self c.args.line c.args.out.now c.send_invs.new.out c.requires.line (begun c.make_pending.result (room_in c.args.home.now).full can.1 c.make_pending.ensures.full.0 c.make_pending.ensures.ok) c.send_invs.ensures

pub returns-clause-allowed : goal.returns-clause-allowed
returns-clause-allowed g c = λ share is. (allows (room_in c.args.home.now) share (c.in_ok-can_begin.ensures share is)).2

pub returns-clause-acks : goal.returns-clause-acks
returns-clause-acks g c =
    let share : LineShare = record { copy = Absent; want = None; header = header_at c.args.home.now c.args.line } in
    let can = allows (room_in c.args.home.now) share (c.in_ok-can_begin.ensures share refl) in
    let pending = begun c.make_pending.result (room_in c.args.home.now).full can.1 c.make_pending.ensures.full.0 c.make_pending.ensures.ok in
    ap (λ h. h.acks) c.header.ensures ∙ ap (λ h. h.acks) (puts-read (called c.args.home.now c.make_pending.new.self c.args.line c.args.out.now c.send_invs.new.out c.requires.line pending))
