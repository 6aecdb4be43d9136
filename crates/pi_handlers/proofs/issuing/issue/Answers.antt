-- The next operation is begun by its row.
use Rattle.std.proofs.Common.{◌≡◌, ◌≢◌, ◌==◌, true, false, [], Some, None, Err, refl, sym, ap, ◌∙◌, subst}
use Rattle.std.proofs.lemmas.Result.{err_from_is_err_and, IfOk-weaker, IfErr-weaker}
use Rattle.line_map.specs.Sizes.{line_of, home_of}
use Rattle.op_model.specs.Shares.{line_share, copy_in}
use Rattle.op_model.specs.Tables.Processor.{serves, ask as ask_row, begin_at_home}
use Rattle.op_model.specs.Events.Node.{IssueNext, local}
use Rattle.op_model.specs.Programs.{IsProgramOf}
use Rattle.cpu_cache.specs.Caches.{is_set_taken}
use Rattle.dir_header.specs.HomeSides.{room_in}
use Rattle.node_share.specs.Parts.{share_of, DoesRow}
use Rattle.node_share.specs.Effects.{Acts, Begins}
use Rattle.node_share.proofs.Public.{is-away}
use Rattle.pi_handlers.proofs.Acting.{act, issue-refused, issue-begins, issue-asks}
use Rattle.pi_handlers.proofs.issuing.issue.Goals as goal

pub next_issue-requires : goal.next_issue-requires
next_issue-requires g c = (c.args.node, subst (λ z. IsProgramOf z c.args.node c.args.proc.now.program) (sym c.requires.same) c.requires.program)

pub returns-in_err-op-clause-refused : goal.returns-in_err-op-clause-refused
returns-in_err-op-clause-refused g c =
    let home = c.args.home.now in
    let share = share_of c.args.proc.now c.args.cache.now.copies home.headers in
    let p = err_from_is_err_and c.from_residual.result c.from_residual.ensures.1 in
    rw (p.1, p.2) (subst (λ z. local home.charge z c.args.node c.args.proc.now.program share IssueNext ≡ Err c.in_err-op.field-0.0) c.requires.same (c.in_err-op.ensures.refused home.charge c.args.node home.headers))

pub begin_at_home-requires-clause-unserved : goal.begin_at_home-requires-clause-unserved
begin_at_home-requires-clause-unserved g c =
    let line : c.line_of-line.result ≡ line_of c.args.cache.now.sizes c.in_ok-op.op.word = c.line_of-line.ensures.value ∙ ap (λ z. line_of z c.in_ok-op.op.word) c.cfg.ensures.value in
    ap (λ k. serves c.in_ok-op.op (copy_in c.args.cache.now.copies k)) line ∙ c.in_ok-op.ensures.found.2

pub ask-requires-clause-unserved : goal.ask-requires-clause-unserved
ask-requires-clause-unserved g c =
    let line : c.line_of-line.result ≡ line_of c.args.cache.now.sizes c.in_ok-op.op.word = c.line_of-line.ensures.value ∙ ap (λ z. line_of z c.in_ok-op.op.word) c.cfg.ensures.value in
    ap (λ k. serves c.in_ok-op.op (copy_in c.args.cache.now.copies k)) line ∙ c.in_ok-op.ensures.found.2

pub begin_at_home-requires-clause-alone : goal.begin_at_home-requires-clause-alone
begin_at_home-requires-clause-alone g c =
    let line : c.line_of-line.result ≡ line_of c.args.cache.now.sizes c.in_ok-op.op.word = c.line_of-line.ensures.value ∙ ap (λ z. line_of z c.in_ok-op.op.word) c.cfg.ensures.value in
    ap (is_set_taken c.args.cache.now) line ∙ c.in_ok-op.ensures.found.3

pub returns-then-at-node-clause-acts : goal.returns-then-at-node-clause-acts
returns-then-at-node-clause-acts g c =
    let home = c.args.home.now in
    let found = c.in_ok-op.ensures.found in
    let next = found.0 in
    let free = found.1 in
    let line : c.line_of-line.result ≡ line_of home.sizes c.in_ok-op.op.word = c.line_of-line.ensures.value ∙ ap (λ z. line_of z c.in_ok-op.op.word) (c.cfg.ensures.value ∙ c.requires.same) in
    let on : serves c.in_ok-op.op (copy_in c.args.cache.now.copies (line_of home.sizes c.in_ok-op.op.word)) ≡ false = ap (λ z. serves c.in_ok-op.op (copy_in c.args.cache.now.copies (line_of z c.in_ok-op.op.word))) (sym c.requires.same) ∙ found.2 in
    let alone : is_set_taken c.args.cache.now (line_of home.sizes c.in_ok-op.op.word) ≡ false = ap (λ z. is_set_taken c.args.cache.now (line_of z c.in_ok-op.op.word)) (sym c.requires.same) ∙ found.3 in
    let at : c.home_of-at.result ≡ home_of home.sizes c.line_of-line.result = c.home_of-at.ensures.value ∙ ap (λ z. home_of z c.line_of-line.result) (c.cfg-2.ensures.value ∙ c.requires.same) in
    let own : home_of home.sizes (line_of home.sizes c.in_ok-op.op.word) ≡ c.args.node = ap (home_of home.sizes) (sym line) ∙ sym at ∙ c.if-at-node.true in
    IfOk-weaker c.begin_at_home.result (λ effect. Begins home.sizes c.args.node c.args.proc.now.program c.args.proc.now.place c.line_of-line.result (begin_at_home c.args.node (room_in home) c.in_ok-op.op (line_share home.sizes (share_of c.args.proc.now c.args.cache.now.copies home.headers) c.line_of-line.result)) (share_of c.args.proc.now c.args.cache.now.copies home.headers) (share_of c.begin_at_home.new.proc c.begin_at_home.new.cache.copies c.begin_at_home.new.home.headers) c.args.out.now c.begin_at_home.new.out effect) (λ effect. Acts c.args.node c.args.proc.now.program c.args.proc.now.place [] (act home.charge home.sizes c.args.node c.args.proc.now c.args.cache.now home.headers IssueNext) (share_of c.begin_at_home.new.proc c.begin_at_home.new.cache.copies c.begin_at_home.new.home.headers) c.args.out.now c.begin_at_home.new.out effect)
    (λ effect b. issue-begins home.charge home.sizes c.args.node c.args.proc.now c.args.cache.now home.headers c.in_ok-op.op next free on c.requires.same alone own (share_of c.begin_at_home.new.proc c.begin_at_home.new.cache.copies c.begin_at_home.new.home.headers) c.args.out.now c.begin_at_home.new.out effect (subst (λ k. Begins home.sizes c.args.node c.args.proc.now.program c.args.proc.now.place k (begin_at_home c.args.node (room_in home) c.in_ok-op.op (line_share home.sizes (share_of c.args.proc.now c.args.cache.now.copies home.headers) k)) (share_of c.args.proc.now c.args.cache.now.copies home.headers) (share_of c.begin_at_home.new.proc c.begin_at_home.new.cache.copies c.begin_at_home.new.home.headers) c.args.out.now c.begin_at_home.new.out effect) line b)) c.begin_at_home.ensures.done

pub returns-then-at-node-clause-refused : goal.returns-then-at-node-clause-refused
returns-then-at-node-clause-refused g c =
    let home = c.args.home.now in
    let found = c.in_ok-op.ensures.found in
    let next = found.0 in
    let free = found.1 in
    let line : c.line_of-line.result ≡ line_of home.sizes c.in_ok-op.op.word = c.line_of-line.ensures.value ∙ ap (λ z. line_of z c.in_ok-op.op.word) (c.cfg.ensures.value ∙ c.requires.same) in
    let on : serves c.in_ok-op.op (copy_in c.args.cache.now.copies (line_of home.sizes c.in_ok-op.op.word)) ≡ false = ap (λ z. serves c.in_ok-op.op (copy_in c.args.cache.now.copies (line_of z c.in_ok-op.op.word))) (sym c.requires.same) ∙ found.2 in
    let alone : is_set_taken c.args.cache.now (line_of home.sizes c.in_ok-op.op.word) ≡ false = ap (λ z. is_set_taken c.args.cache.now (line_of z c.in_ok-op.op.word)) (sym c.requires.same) ∙ found.3 in
    let at : c.home_of-at.result ≡ home_of home.sizes c.line_of-line.result = c.home_of-at.ensures.value ∙ ap (λ z. home_of z c.line_of-line.result) (c.cfg-2.ensures.value ∙ c.requires.same) in
    let own : home_of home.sizes (line_of home.sizes c.in_ok-op.op.word) ≡ c.args.node = ap (home_of home.sizes) (sym line) ∙ sym at ∙ c.if-at-node.true in
    IfErr-weaker c.begin_at_home.result (λ cause. (begin_at_home c.args.node (room_in home) c.in_ok-op.op (line_share home.sizes (share_of c.args.proc.now c.args.cache.now.copies home.headers) c.line_of-line.result)) ≡ Err cause) (λ cause. act home.charge home.sizes c.args.node c.args.proc.now c.args.cache.now home.headers IssueNext ≡ Err cause)
    (λ cause e. issue-refused home.charge home.sizes c.args.node c.args.proc.now c.args.cache.now home.headers c.in_ok-op.op next free on c.requires.same alone own cause (ap (λ k. (begin_at_home c.args.node (room_in home) c.in_ok-op.op (line_share home.sizes (share_of c.args.proc.now c.args.cache.now.copies home.headers) k))) (sym line) ∙ e)) c.begin_at_home.ensures.refused

pub returns-clause-acts : goal.returns-clause-acts
returns-clause-acts g c =
    let home = c.args.home.now in
    let found = c.in_ok-op.ensures.found in
    let next = found.0 in
    let free = found.1 in
    let line : c.line_of-line.result ≡ line_of home.sizes c.in_ok-op.op.word = c.line_of-line.ensures.value ∙ ap (λ z. line_of z c.in_ok-op.op.word) (c.cfg.ensures.value ∙ c.requires.same) in
    let on : serves c.in_ok-op.op (copy_in c.args.cache.now.copies (line_of home.sizes c.in_ok-op.op.word)) ≡ false = ap (λ z. serves c.in_ok-op.op (copy_in c.args.cache.now.copies (line_of z c.in_ok-op.op.word))) (sym c.requires.same) ∙ found.2 in
    let alone : is_set_taken c.args.cache.now (line_of home.sizes c.in_ok-op.op.word) ≡ false = ap (λ z. is_set_taken c.args.cache.now (line_of z c.in_ok-op.op.word)) (sym c.requires.same) ∙ found.3 in
    let at : c.home_of-at.result ≡ home_of home.sizes c.line_of-line.result = c.home_of-at.ensures.value ∙ ap (λ z. home_of z c.line_of-line.result) (c.cfg-2.ensures.value ∙ c.requires.same) in
    let away : home_of home.sizes c.line_of-line.result ≢ c.args.node = λ e. c.if-at-node.false (at ∙ e) in
    let row = c.ask.ensures.row c.args.node home.headers (λ e. away (ap (λ z. home_of z c.line_of-line.result) (sym c.requires.same) ∙ e)) in
    let same : DoesRow home.sizes c.args.node (share_of c.args.proc.now c.args.cache.now.copies home.headers) (share_of c.ask.new.proc c.ask.new.cache.copies home.headers) c.args.out.now c.ask.new.out c.line_of-line.result (ask_row (home_of home.sizes c.line_of-line.result) c.in_ok-op.op) =
    subst (λ z. DoesRow z c.args.node (share_of c.args.proc.now c.args.cache.now.copies home.headers) (share_of c.ask.new.proc c.ask.new.cache.copies home.headers) c.args.out.now c.ask.new.out c.line_of-line.result (ask_row (home_of home.sizes c.line_of-line.result) c.in_ok-op.op)) c.requires.same
    (subst (λ k. DoesRow c.args.cache.now.sizes c.args.node (share_of c.args.proc.now c.args.cache.now.copies home.headers) (share_of c.ask.new.proc c.ask.new.cache.copies home.headers) c.args.out.now c.ask.new.out c.line_of-line.result (ask_row k c.in_ok-op.op)) at row) in
    let here : DoesRow home.sizes c.args.node (share_of c.args.proc.now c.args.cache.now.copies home.headers) (share_of c.ask.new.proc c.ask.new.cache.copies home.headers) c.args.out.now c.ask.new.out (line_of home.sizes c.in_ok-op.op.word) (ask_row (home_of home.sizes (line_of home.sizes c.in_ok-op.op.word)) c.in_ok-op.op) =
    subst (λ k. DoesRow home.sizes c.args.node (share_of c.args.proc.now c.args.cache.now.copies home.headers) (share_of c.ask.new.proc c.ask.new.cache.copies home.headers) c.args.out.now c.ask.new.out k (ask_row (home_of home.sizes k) c.in_ok-op.op)) line same in
    subst (λ e. Acts c.args.node c.args.proc.now.program c.args.proc.now.place [] (act home.charge home.sizes c.args.node c.args.proc.now c.args.cache.now home.headers IssueNext) (share_of c.ask.new.proc c.ask.new.cache.copies home.headers) c.args.out.now c.ask.new.out e) (sym c.ask.ensures.effect)
    (issue-asks home.charge home.sizes c.args.node c.args.proc.now c.args.cache.now home.headers c.in_ok-op.op next free on c.requires.same alone (share_of c.ask.new.proc c.ask.new.cache.copies home.headers) c.args.out.now c.ask.new.out (is-away home.sizes c.args.node (line_of home.sizes c.in_ok-op.op.word) (λ e. away (ap (home_of home.sizes) line ∙ e))) here)
