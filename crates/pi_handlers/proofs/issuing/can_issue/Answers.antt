-- What the cache allows, the home may still refuse.
use Rattle.std.proofs.Common.{◌≡◌, ◌==◌, false, Err, refl, sym, ap, ◌∙◌, subst}
use Rattle.std.proofs.lemmas.Result.{err_from_is_err_and}
use Rattle.line_map.specs.Sizes.{line_of, home_of}
use Rattle.op_model.specs.Shares.{line_share, copy_in}
use Rattle.op_model.specs.Tables.Processor.{serves, begin_at_home}
use Rattle.op_model.specs.Events.Node.{IssueNext, local, permit}
use Rattle.op_model.specs.Programs.{IsProgramOf}
use Rattle.cpu_cache.specs.Caches.{is_set_taken}
use Rattle.dir_header.specs.HomeSides.{room_in}
use Rattle.node_share.specs.Parts.{share_of}
use Rattle.node_share.proofs.Public.{is-away}
use Rattle.pi_handlers.proofs.Acting.{issue-may, issue-away}
use Rattle.pi_handlers.proofs.issuing.can_issue.Goals as goal

pub next_issue-requires : goal.next_issue-requires
next_issue-requires g c = (c.args.node, subst (λ z. IsProgramOf z c.args.node c.args.proc.now.program) (sym c.requires.same) c.requires.program)

pub returns-in_err-op : goal.returns-in_err-op
returns-in_err-op g c =
    let home = c.args.home.now in
    let share = share_of c.args.proc.now c.args.cache.now.copies home.headers in
    let p = err_from_is_err_and c.from_residual.result c.from_residual.ensures.1 in
    rw (p.1, p.2) (sym (ap permit (subst (λ z. local home.charge z c.args.node c.args.proc.now.program share IssueNext ≡ Err c.in_err-op.field-0.0) c.requires.same (c.in_err-op.ensures.refused home.charge c.args.node home.headers))))

pub returns-then-home_of-node : goal.returns-then-home_of-node
returns-then-home_of-node g c =
    let home = c.args.home.now in
    let op = c.in_ok-op.op in
    let share = share_of c.args.proc.now c.args.cache.now.copies home.headers in
    let found = c.in_ok-op.ensures.found in
    let off : serves op (copy_in c.args.cache.now.copies (line_of home.sizes op.word)) ≡ false = ap (λ z. serves op (copy_in c.args.cache.now.copies (line_of z op.word))) (sym c.requires.same) ∙ found.2 in
    let alone : is_set_taken c.args.cache.now (line_of home.sizes op.word) ≡ false = ap (λ z. is_set_taken c.args.cache.now (line_of z op.word)) (sym c.requires.same) ∙ found.3 in
    let line : c.line_of-line.result ≡ line_of home.sizes op.word = c.line_of-line.ensures.value ∙ ap (λ z. line_of z op.word) (c.cfg.ensures.value ∙ c.requires.same) in
    let at : c.home_of.result ≡ home_of home.sizes c.line_of-line.result = c.home_of.ensures.value ∙ ap (λ z. home_of z c.line_of-line.result) (c.cfg-2.ensures.value ∙ c.requires.same) in
    let own : home_of home.sizes (line_of home.sizes op.word) ≡ c.args.node = ap (home_of home.sizes) (sym line) ∙ sym at ∙ c.if-home_of-node.true in
    c.can_begin_at_home.ensures c.args.node (line_share home.sizes share c.line_of-line.result) refl
    ∙ ap (λ k. permit (begin_at_home c.args.node (room_in home) op (line_share home.sizes share k))) line
    ∙ sym (issue-may home.charge home.sizes c.args.node c.args.proc.now c.args.cache.now home.headers op found.0 found.1 off c.requires.same alone own)

pub returns : goal.returns
returns g c =
    let home = c.args.home.now in
    let op = c.in_ok-op.op in
    let found = c.in_ok-op.ensures.found in
    let off : serves op (copy_in c.args.cache.now.copies (line_of home.sizes op.word)) ≡ false = ap (λ z. serves op (copy_in c.args.cache.now.copies (line_of z op.word))) (sym c.requires.same) ∙ found.2 in
    let alone : is_set_taken c.args.cache.now (line_of home.sizes op.word) ≡ false = ap (λ z. is_set_taken c.args.cache.now (line_of z op.word)) (sym c.requires.same) ∙ found.3 in
    let line : c.line_of-line.result ≡ line_of home.sizes op.word = c.line_of-line.ensures.value ∙ ap (λ z. line_of z op.word) (c.cfg.ensures.value ∙ c.requires.same) in
    let at : c.home_of.result ≡ home_of home.sizes (line_of home.sizes op.word) = c.home_of.ensures.value ∙ ap (λ z. home_of z c.line_of-line.result) (c.cfg-2.ensures.value ∙ c.requires.same) ∙ ap (home_of home.sizes) line in
    issue-away home.charge home.sizes c.args.node c.args.proc.now c.args.cache.now home.headers op found.0 found.1 off c.requires.same alone (is-away home.sizes c.args.node (line_of home.sizes op.word) (λ e. c.if-home_of-node.false (at ∙ e)))
