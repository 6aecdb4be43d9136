-- The requester is answered, by the copy or by a refusal.
use Rattle.std.proofs.Common.{◌≡◌, true, false, cond, ◌==◌, [], ◌∷◌, sym, ap, ◌∙◌}
use Rattle.op_model.specs.declared.messages.Msg.TheVariants as msg
use Rattle.op_model.specs.declared.messages.NakCause.TheVariants.{Gone}
use Rattle.op_model.specs.Lines.{is_exclusive}
use Rattle.op_model.specs.Shares.{copy_in}
use Rattle.node_share.specs.Parts.{sent}
use Rattle.remote_handlers.proofs.Aways.{getx-gone-does, getx-gone-tells, getx-does, getx-tells}
use Rattle.remote_handlers.proofs.forwards.on_fwd_getx.Goals as goal

pub returns-then-not-has_exclusive-clause-row : goal.returns-then-not-has_exclusive-clause-row
returns-then-not-has_exclusive-clause-row c =
    let none : is_exclusive (copy_in c.args.cache.now.copies c.args.line) ≡ false = sym c.has_exclusive.ensures.value ∙ c.if-not-has_exclusive.true in
    λ proc headers. getx-gone-does c.args.cfg.now c.args.node c.args.line c.args.req c.args.cache.now c.args.out.now c.requires.away proc headers none c.tell_gone.new.out c.has_exclusive.ensures.kept.held
    (c.tell_gone.ensures ∙ ap (λ k. sent c.args.out.now ((c.args.req, msg.Nak c.args.line Gone) ∷ (k, msg.Nakc c.args.line) ∷ [])) c.home_of-home.ensures.value)

pub returns-then-not-has_exclusive-clause-effect : goal.returns-then-not-has_exclusive-clause-effect
returns-then-not-has_exclusive-clause-effect c =
    let none : is_exclusive (copy_in c.args.cache.now.copies c.args.line) ≡ false = sym c.has_exclusive.ensures.value ∙ c.if-not-has_exclusive.true in
    λ proc headers. c.no_effect.ensures ∙ getx-gone-tells c.args.cfg.now c.args.node c.args.line c.args.req c.args.cache.now c.args.out.now c.requires.away proc headers none

pub returns-clause-row : goal.returns-clause-row
returns-clause-row c =
    let there : is_exclusive (copy_in c.args.cache.now.copies c.args.line) ≡ true = sym c.has_exclusive.ensures.value ∙ c.if-not-has_exclusive.false in
    λ proc headers. getx-does c.args.cfg.now c.args.node c.args.line c.args.req c.args.cache.now c.args.out.now c.requires.away proc headers there c.drop_line.new.self c.answer.new.out c.body-body.result c.body-body.ensures.value c.drop_line.ensures.dropped
    (c.answer.ensures ∙ ap (λ k. sent c.args.out.now (cond (c.args.req == k) ((k, msg.PutX c.args.line c.body-body.result) ∷ []) ((c.args.req, msg.PutX c.args.line c.body-body.result) ∷ (k, msg.FAck c.args.line) ∷ []))) c.home_of-home.ensures.value)

pub returns-clause-effect : goal.returns-clause-effect
returns-clause-effect c =
    let there : is_exclusive (copy_in c.args.cache.now.copies c.args.line) ≡ true = sym c.has_exclusive.ensures.value ∙ c.if-not-has_exclusive.false in
    λ proc headers. c.no_effect-2.ensures ∙ getx-tells c.args.cfg.now c.args.node c.args.line c.args.req c.args.cache.now c.args.out.now c.requires.away proc headers there
