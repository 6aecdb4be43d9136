-- The table's tests, one by one.
use Rattle.std.proofs.Common.{◌≡◌, not, true, false, sym, ap, ◌∙◌}
use Rattle.op_model.specs.Operations.{is_load}
use Rattle.dir_header.specs.HomeSides.{header_at}
use Rattle.node_share.proofs.Public.{load_test}
use Rattle.pi_handlers.proofs.Rows.{dirty-waits, load-rests, write-waits}
use Rattle.pi_handlers.proofs.beginning.has_to_wait.Goals as goal

pub returns-then-header : goal.returns-then-header
returns-then-header g c =
    let h = header_at c.args.home.now c.args.line in
    sym (dirty-waits c.args.op.now h (ap (λ k. k.dirty) (sym c.header.ensures) ∙ c.if-header.true))

pub returns-then-eq : goal.returns-then-eq
returns-then-eq g c =
    let h = header_at c.args.home.now c.args.line in
    let op = c.args.op.now in
    sym (load-rests op h (ap (λ k. k.dirty) (sym c.header.ensures) ∙ c.if-header.false) (sym (load_test op.kind) ∙ sym c.eq.ensures ∙ c.if-eq.true))

pub returns : goal.returns
returns g c =
    let h = header_at c.args.home.now c.args.line in
    let op = c.args.op.now in
    ap not c.nobody.ensures ∙ sym (write-waits op h (ap (λ k. k.dirty) (sym c.header.ensures) ∙ c.if-header.false) (sym (load_test op.kind) ∙ sym c.eq.ensures ∙ c.if-eq.false))
