-- The next operation is begun by its row; else the first cause.
use Rattle.std.proofs.Common.{◌≡◌, ◌≢◌, ◌==◌, true, false, [], Some, None, Err, refl, sym, ap, ◌∙◌, subst}
use Rattle.std.specs.Prelude.{slice_get, is_some}
use Rattle.std.proofs.lemmas.Result.{IfOk-weaker, IfErr-weaker}
use Rattle.line_map.specs.Sizes.{line_of, home_of}
use Rattle.op_model.specs.Shares.{line_share, copy_in}
use Rattle.op_model.specs.Tables.Processor.{serves, ask as ask_row, begin_at_home}
use Rattle.op_model.specs.Events.Node.{IssueNext}
use Rattle.cpu_cache.specs.Caches.{is_set_taken}
use Rattle.dir_header.specs.HomeSides.{room_in}
use Rattle.node_share.specs.Parts.{share_of, DoesRow}
use Rattle.node_share.specs.Effects.{Acts, Begins}
use Rattle.node_share.proofs.Public.{is-away}
use Rattle.pi_handlers.proofs.Acting.{act, free-is, issue-none, issue-waits, issue-hits, issue-conflicts, issue-refused, issue-begins, issue-asks}
use Rattle.pi_handlers.proofs.issuing.next_issue.Goals as goal

pub returns-in_default-clause-refused : goal.returns-in_default-clause-refused
returns-in_default-clause-refused c =
    let sizes = c.args.cache.now.sizes in
    λ charge node headers. issue-none charge sizes node c.args.proc.now c.args.cache.now headers (sym c.next_op.ensures ∙ c.in_default.is)

pub returns-then-is_some-clause-refused : goal.returns-then-is_some-clause-refused
returns-then-is_some-clause-refused c =
    let sizes = c.args.cache.now.sizes in
    let next : slice_get c.args.proc.now.program c.args.proc.now.place ≡ Some c.in-Some.op = sym c.next_op.ensures ∙ c.in-Some.is in
    λ charge node headers. issue-waits charge sizes node c.args.proc.now c.args.cache.now headers c.in-Some.op next (ap is_some (sym c.want.ensures.value) ∙ sym c.is_some.ensures ∙ c.if-is_some.true)

pub returns-then-serves-clause-refused : goal.returns-then-serves-clause-refused
returns-then-serves-clause-refused c =
    let sizes = c.args.cache.now.sizes in
    let next : slice_get c.args.proc.now.program c.args.proc.now.place ≡ Some c.in-Some.op = sym c.next_op.ensures ∙ c.in-Some.is in
    let free : c.args.proc.now.want ≡ None = free-is c.args.proc.now.want (ap is_some (sym c.want.ensures.value) ∙ sym c.is_some.ensures ∙ c.if-is_some.false) in
    let line : c.line_of-line.result ≡ line_of sizes c.in-Some.op.word = c.line_of-line.ensures.value ∙ ap (λ z. line_of z c.in-Some.op.word) c.cfg.ensures.value in
    let on : serves c.in-Some.op (copy_in c.args.cache.now.copies (line_of sizes c.in-Some.op.word)) ≡ true = ap (λ k. serves c.in-Some.op (copy_in c.args.cache.now.copies k)) (sym line) ∙ sym c.serves.ensures.value ∙ c.if-serves.true in
    λ charge node headers. issue-hits charge sizes node c.args.proc.now c.args.cache.now headers c.in-Some.op next free on

pub returns-then-conflicts-clause-refused : goal.returns-then-conflicts-clause-refused
returns-then-conflicts-clause-refused c =
    let sizes = c.args.cache.now.sizes in
    let next : slice_get c.args.proc.now.program c.args.proc.now.place ≡ Some c.in-Some.op = sym c.next_op.ensures ∙ c.in-Some.is in
    let free : c.args.proc.now.want ≡ None = free-is c.args.proc.now.want (ap is_some (sym c.want.ensures.value) ∙ sym c.is_some.ensures ∙ c.if-is_some.false) in
    let line : c.line_of-line.result ≡ line_of sizes c.in-Some.op.word = c.line_of-line.ensures.value ∙ ap (λ z. line_of z c.in-Some.op.word) c.cfg.ensures.value in
    let on : serves c.in-Some.op (copy_in c.args.cache.now.copies (line_of sizes c.in-Some.op.word)) ≡ false = ap (λ k. serves c.in-Some.op (copy_in c.args.cache.now.copies k)) (sym line) ∙ sym c.serves.ensures.value ∙ c.if-serves.false in
    let alone : is_set_taken c.args.cache.now (line_of sizes c.in-Some.op.word) ≡ true = ap (is_set_taken c.args.cache.now) (sym line) ∙ sym c.conflicts.ensures ∙ c.if-conflicts.true in
    λ charge node headers. issue-conflicts charge sizes node c.args.proc.now c.args.cache.now headers c.in-Some.op next free on refl alone

pub returns-clause-found : goal.returns-clause-found
returns-clause-found c =
    let line : c.line_of-line.result ≡ line_of c.args.cache.now.sizes c.in-Some.op.word = c.line_of-line.ensures.value ∙ ap (λ z. line_of z c.in-Some.op.word) c.cfg.ensures.value in (
      sym c.next_op.ensures ∙ c.in-Some.is,
      free-is c.args.proc.now.want (ap is_some (sym c.want.ensures.value) ∙ sym c.is_some.ensures ∙ c.if-is_some.false),
      ap (λ k. serves c.in-Some.op (copy_in c.args.cache.now.copies k)) (sym line) ∙ sym c.serves.ensures.value ∙ c.if-serves.false,
      ap (is_set_taken c.args.cache.now) (sym line) ∙ sym c.conflicts.ensures ∙ c.if-conflicts.false,
    )
