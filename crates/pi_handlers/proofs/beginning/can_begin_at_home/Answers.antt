-- The first cause why an operation can't be begun at its line's home.
use Rattle.std.proofs.Common.{◌≡◌, true, false, sym, ap, ◌∙◌}
use Rattle.op_model.specs.Lines.{is_idle}
use Rattle.dir_header.specs.HomeSides.{header_at, room_in}
use Rattle.pi_handlers.proofs.Rows.{has_to_wait, may-pending, may-rest, may-full, may-wait}
use Rattle.pi_handlers.proofs.beginning.can_begin_at_home.Goals as goal

pub returns-then-not-is_idle : goal.returns-then-not-is_idle
returns-then-not-is_idle g c =
    let h = header_at c.args.home.now c.args.line in
    let waits : is_idle h.wait ≡ false = ap (λ k. is_idle k.wait) (sym c.header.ensures) ∙ sym c.is_idle.ensures ∙ c.if-not-is_idle.true in
    λ node share is. may-pending node (room_in c.args.home.now) c.args.op.now share (ap (λ k. is_idle k.wait) is ∙ waits)

pub returns-then-not-has_to_wait : goal.returns-then-not-has_to_wait
returns-then-not-has_to_wait g c =
    let h = header_at c.args.home.now c.args.line in
    let idle : is_idle h.wait ≡ true = ap (λ k. is_idle k.wait) (sym c.header.ensures) ∙ sym c.is_idle.ensures ∙ c.if-not-is_idle.false in
    λ node share is. may-rest node (room_in c.args.home.now) c.args.op.now share (ap (λ k. is_idle k.wait) is ∙ idle) (ap (has_to_wait c.args.op.now) is ∙ sym c.has_to_wait.ensures ∙ c.if-not-has_to_wait.true)

pub returns-then-is_full : goal.returns-then-is_full
returns-then-is_full g c =
    let h = header_at c.args.home.now c.args.line in
    let idle : is_idle h.wait ≡ true = ap (λ k. is_idle k.wait) (sym c.header.ensures) ∙ sym c.is_idle.ensures ∙ c.if-not-is_idle.false in
    λ node share is. may-full node (room_in c.args.home.now) c.args.op.now share (ap (λ k. is_idle k.wait) is ∙ idle) (ap (has_to_wait c.args.op.now) is ∙ sym c.has_to_wait.ensures ∙ c.if-not-has_to_wait.false) (sym c.is_full.ensures ∙ c.if-is_full.true)

pub returns : goal.returns
returns g c =
    let h = header_at c.args.home.now c.args.line in
    let idle : is_idle h.wait ≡ true = ap (λ k. is_idle k.wait) (sym c.header.ensures) ∙ sym c.is_idle.ensures ∙ c.if-not-is_idle.false in
    λ node share is. may-wait node (room_in c.args.home.now) c.args.op.now share (ap (λ k. is_idle k.wait) is ∙ idle) (ap (has_to_wait c.args.op.now) is ∙ sym c.has_to_wait.ensures ∙ c.if-not-has_to_wait.false) (sym c.is_full.ensures ∙ c.if-is_full.false)
