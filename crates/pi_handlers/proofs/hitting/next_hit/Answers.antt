-- The next operation is done on the copy that serves it; else the first cause.
use Rattle.std.proofs.Common.{◌≡◌, true, false, [], Some, None, refl, sym, ap, ◌∙◌, subst}
use Rattle.std.specs.Prelude.{slice_get, is_some}
use Rattle.std.proofs.lemmas.Option.{slice_get_within}
use Rattle.line_map.specs.Sizes.{line_of}
use Rattle.op_model.specs.Operations.{entry_of}
use Rattle.op_model.specs.Lines.{words_of}
use Rattle.op_model.specs.Tables.Processor.{serves}
use Rattle.op_model.specs.Events.Node.{HitNext}
use Rattle.op_model.specs.Shares.{copy_in}
use Rattle.cpu_cache.specs.Effects.{own_effect}
use Rattle.node_share.specs.Parts.{share_of}
use Rattle.node_share.specs.Effects.{Acts}
use Rattle.pi_handlers.proofs.Acting.{act, free-is, hit-none, hit-waits, hit-misses, hit-does}
use Rattle.pi_handlers.proofs.hitting.next_hit.Goals as goal

pub returns-in_default-clause-refused : goal.returns-in_default-clause-refused
returns-in_default-clause-refused c = λ charge node headers. hit-none charge c.args.cache.now.sizes node c.args.proc.now c.args.cache.now headers (sym c.next_op.ensures ∙ c.in_default.is)

pub returns-then-is_some-clause-refused : goal.returns-then-is_some-clause-refused
returns-then-is_some-clause-refused c =
    let next : slice_get c.args.proc.now.program c.args.proc.now.place ≡ Some c.in-Some.op = sym c.next_op.ensures ∙ c.in-Some.is in
    λ charge node headers. hit-waits charge c.args.cache.now.sizes node c.args.proc.now c.args.cache.now headers c.in-Some.op next (ap is_some (sym c.want.ensures.value) ∙ sym c.is_some.ensures ∙ c.if-is_some.true)

pub returns-then-not-serves-clause-refused : goal.returns-then-not-serves-clause-refused
returns-then-not-serves-clause-refused c =
    let next : slice_get c.args.proc.now.program c.args.proc.now.place ≡ Some c.in-Some.op = sym c.next_op.ensures ∙ c.in-Some.is in
    let free : c.args.proc.now.want ≡ None = free-is c.args.proc.now.want (ap is_some (sym c.want.ensures.value) ∙ sym c.is_some.ensures ∙ c.if-is_some.false) in
    let line : c.line_of-line.result ≡ line_of c.args.cache.now.sizes c.in-Some.op.word = c.line_of-line.ensures.value ∙ ap (λ z. line_of z c.in-Some.op.word) c.cfg.ensures.value in
    let on : serves c.in-Some.op (copy_in c.args.cache.now.copies (line_of c.args.cache.now.sizes c.in-Some.op.word)) ≡ false = ap (λ k. serves c.in-Some.op (copy_in c.args.cache.now.copies k)) (sym line) ∙ sym c.serves.ensures.value ∙ c.if-not-serves.true in
    λ charge node headers. hit-misses charge c.args.cache.now.sizes node c.args.proc.now c.args.cache.now headers c.in-Some.op next free on

pub returns-clause-found : goal.returns-clause-found
returns-clause-found c =
    let line : c.line_of-line.result ≡ line_of c.args.cache.now.sizes c.in-Some.op.word = c.line_of-line.ensures.value ∙ ap (λ z. line_of z c.in-Some.op.word) c.cfg.ensures.value in (
      sym c.next_op.ensures ∙ c.in-Some.is,
      free-is c.args.proc.now.want (ap is_some (sym c.want.ensures.value) ∙ sym c.is_some.ensures ∙ c.if-is_some.false),
      ap (λ k. serves c.in-Some.op (copy_in c.args.cache.now.copies k)) (sym line) ∙ sym c.serves.ensures.value ∙ c.if-not-serves.false,
    )
