-- The first cause why a line can't be called in.
use Rattle.std.proofs.Common.{◌≡◌, true, false, sym, ap, ◌∙◌}
use Rattle.op_model.specs.Lines.{is_idle}
use Rattle.op_model.specs.Tables.Processor.{holds_link}
use Rattle.op_model.specs.Events.Node.{permit}
use Rattle.dir_header.specs.HomeSides.{header_at, room_in}
use Rattle.reclaim.proofs.Called.{no-links, line-pending, budget-full, calls-in}
use Rattle.reclaim.proofs.calling.can_begin.Goals as goal

pub returns-then-not-holds_link : goal.returns-then-not-holds_link
returns-then-not-holds_link g c =
    let room = room_in c.args.home.now in
    λ share is. sym (ap permit (no-links room share (ap (holds_link room) is ∙ sym c.holds_link.ensures ∙ c.if-not-holds_link.true)))

pub returns-then-not-is_idle : goal.returns-then-not-is_idle
returns-then-not-is_idle g c =
    let room = room_in c.args.home.now in
    let waits : is_idle (header_at c.args.home.now c.args.line).wait ≡ false = ap (λ h. is_idle h.wait) (sym c.header.ensures) ∙ sym c.is_idle.ensures ∙ c.if-not-is_idle.true in
    λ share is. sym (ap permit (line-pending room share (ap (holds_link room) is ∙ sym c.holds_link.ensures ∙ c.if-not-holds_link.false) (ap (λ h. is_idle h.wait) is ∙ waits)))

pub returns-then-is_full : goal.returns-then-is_full
returns-then-is_full g c =
    let room = room_in c.args.home.now in
    let idle : is_idle (header_at c.args.home.now c.args.line).wait ≡ true = ap (λ h. is_idle h.wait) (sym c.header.ensures) ∙ sym c.is_idle.ensures ∙ c.if-not-is_idle.false in
    λ share is. sym (ap permit (budget-full room share (ap (holds_link room) is ∙ sym c.holds_link.ensures ∙ c.if-not-holds_link.false) (ap (λ h. is_idle h.wait) is ∙ idle) (sym c.is_full.ensures ∙ c.if-is_full.true)))

pub returns : goal.returns
returns g c =
    let room = room_in c.args.home.now in
    let idle : is_idle (header_at c.args.home.now c.args.line).wait ≡ true = ap (λ h. is_idle h.wait) (sym c.header.ensures) ∙ sym c.is_idle.ensures ∙ c.if-not-is_idle.false in
    λ share is. sym (ap permit (calls-in room share (ap (holds_link room) is ∙ sym c.holds_link.ensures ∙ c.if-not-holds_link.false) (ap (λ h. is_idle h.wait) is ∙ idle) (sym c.is_full.ensures ∙ c.if-is_full.false)))
