-- The next operation is done on the copy that serves it.
use Rattle.std.proofs.Common.{◌≡◌, true, false, [], Some, None, refl, sym, ap, ◌∙◌, subst}
use Rattle.std.specs.Prelude.{slice_get, is_some}
use Rattle.std.proofs.lemmas.Result.{err_from_is_err_and}
use Rattle.std.proofs.lemmas.Option.{slice_get_within}
use Rattle.line_map.specs.Sizes.{line_of}
use Rattle.op_model.specs.Operations.{entry_of}
use Rattle.op_model.specs.Lines.{words_of}
use Rattle.op_model.specs.Tables.Processor.{serves}
use Rattle.op_model.specs.Events.Node.{HitNext}
use Rattle.op_model.specs.Shares.{copy_in}
use Rattle.cpu_cache.specs.Effects.{own_effect}
use Rattle.node_share.specs.Parts.{share_of}
use Rattle.node_share.specs.Effects.{Acts}
use Rattle.pi_handlers.proofs.Acting.{act, hit-does}
use Rattle.pi_handlers.proofs.hitting.hit.Goals as goal

pub returns-in_err-op-clause-acts : goal.returns-in_err-op-clause-acts
returns-in_err-op-clause-acts c =
    let p = err_from_is_err_and c.from_residual.result c.from_residual.ensures.1 in
    rw (p.1, p.2) (λ charge node headers program has. c.in_err-op.ensures.refused charge node headers)

pub finish-requires : goal.finish-requires
finish-requires c = slice_get_within c.args.proc.now.program c.args.proc.now.place c.in_ok-op.op c.in_ok-op.ensures.found.0

pub returns-clause-acts : goal.returns-clause-acts
returns-clause-acts c =
    let found = c.in_ok-op.ensures.found in
    λ charge node headers program has out.
    subst (λ e. Acts node c.args.proc.now.program c.args.proc.now.place [] (act charge c.args.cache.now.sizes node c.args.proc.now c.args.cache.now headers HitNext) (share_of c.finish.new.self c.perform-entry.new.cache.copies headers) out out (own_effect e)) (sym c.perform-entry.ensures.entry)
    (hit-does charge c.args.cache.now.sizes node c.args.proc.now c.args.cache.now headers c.in_ok-op.op found.0 found.1 c.finish.new.self c.perform-entry.new.cache out has program found.2 c.finish.ensures c.perform-entry.ensures.done)
