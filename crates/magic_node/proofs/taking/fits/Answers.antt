-- A victim is a line of this home that holds a link and is idle.
use Rattle.std.proofs.Common.{◌≡◌, ◌==◌, ◌<◌, ◌≤◌, false, true, sym, ap, ◌∙◌, subst, arith}
use Rattle.std.proofs.lemmas.Bool.{eq-eqb}
use Rattle.line_map.specs.Sizes.{all_lines, home_of}
use Rattle.op_model.specs.Lines.{is_idle, is_pending}
use Rattle.op_model.specs.Shares.{header_of, header_in}
use Rattle.op_model.specs.Tables.Processor.{holds_link}
use Rattle.dir_header.specs.HomeSides.{header_at, room_in}
use Rattle.magic_node.proofs.Taken.{far, fit-home, fit-link, fit-idle}
use Rattle.magic_node.proofs.taking.fits.Goals as goal

pub returns-then-line-all_lines : goal.returns-then-line-all_lines
unfolding header_in
returns-then-line-all_lines g c = λ proc copies.
    let home = c.args.home.now in
    let some : 0 < home.sizes.lines = subst (λ n. 0 < n) (c.lines-some.ensures.value ∙ ap (λ z. z.lines) c.cfg-cfg.ensures.value) (let s = c.lines-some.ensures.small.0 in omega arith) in
    fit-home (home_of home.sizes c.args.line == c.args.number) (holds_link (room_in home) (header_at home c.args.line)) (is_pending (header_at home c.args.line))
    (far home.sizes c.args.number c.args.line some c.requires.numbered (subst (λ n. n ≤ c.args.line) (c.all_lines.ensures.value ∙ ap all_lines c.cfg-cfg.ensures.value) c.if-line-all_lines.true))

pub returns-then-not-holds_link : goal.returns-then-not-holds_link
unfolding header_in
returns-then-not-holds_link g c = λ proc copies.
    let home = c.args.home.now in
    fit-link (home_of home.sizes c.args.line == c.args.number) (holds_link (room_in home) (header_at home c.args.line)) (is_pending (header_at home c.args.line)) (sym c.holds_link.ensures ∙ c.if-not-holds_link.true)

pub returns : goal.returns
unfolding header_in
returns g c = λ proc copies.
    let home = c.args.home.now in
    (c.is_idle.ensures ∙ ap (λ h. is_idle h.wait) c.header.ensures) ∙ fit-idle (home_of home.sizes c.args.line == c.args.number) (holds_link (room_in home) (header_at home c.args.line)) (is_idle (header_at home c.args.line).wait)
    (eq-eqb (home_of home.sizes c.args.line) c.args.number (sym (c.home_of.ensures.value ∙ ap (λ z. home_of z c.args.line) c.cfg-cfg.ensures.value) ∙ c.if-home_of-number.false)) (sym c.holds_link.ensures ∙ c.if-not-holds_link.false)
