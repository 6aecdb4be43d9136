-- A hit that has a next operation is done.
use Rattle.std.proofs.Common.{◌≡◌, Err, sym, ap}
use Rattle.std.proofs.lemmas.Result.{err_from_is_err_and}
use Rattle.op_model.specs.Events.Node.{permit}
use Rattle.pi_handlers.proofs.Acting.{hit-may}
use Rattle.pi_handlers.proofs.hitting.can_hit.Goals as goal

pub returns-in_err-next_hit : goal.returns-in_err-next_hit
returns-in_err-next_hit c =
    let p = err_from_is_err_and c.from_residual.result c.from_residual.ensures.1 in
    rw (p.1, p.2) (λ charge node headers. sym (ap permit (c.in_err-next_hit.ensures.refused charge node headers)))

pub returns : goal.returns
returns c =
    let found = c.in_ok-next_hit.ensures.found in
    λ charge node headers. hit-may charge c.args.cache.now.sizes node c.args.proc.now c.args.cache.now headers c.in_ok-next_hit.field-0 found.0 found.1 found.2
