-- A hint counts where the line is idle and clean.
use Rattle.std.proofs.Common.{◌≡◌, ◌-◌, true, false, cond, ◌&&◌, sym, ap, ◌∙◌}
use Rattle.op_model.specs.Nodes.{listed}
use Rattle.op_model.specs.Lines.{is_idle}
use Rattle.op_model.proofs.Public.{idle-calm}
use Rattle.dir_header.specs.HomeSides.{header_at}
use Rattle.node_share.proofs.Public.{home-headers}
use Rattle.repl_hints.proofs.Leaves.{rpl-waits, rpl-dirty, rpl-clean}
use Rattle.repl_hints.proofs.hints.on_rpl.Goals as goal

pub returns-then-not-is_idle-clause-share : goal.returns-then-not-is_idle-clause-share
returns-then-not-is_idle-clause-share g c =
    let home = c.args.home.now in
    let waits : is_idle (header_at home c.args.line).wait ≡ false = ap (λ h. is_idle h.wait) (sym c.header-header.ensures) ∙ sym c.is_idle.ensures ∙ c.if-not-is_idle.true in
    rpl-waits home c.args.line c.requires.line c.args.src (home-headers (g.D.Sharers.directory home.dir) home c.cfg-kept.ensures.kept) waits

pub returns-then-header-clause-share : goal.returns-then-header-clause-share
returns-then-header-clause-share g c =
    let home = c.args.home.now in
    let idle : is_idle (header_at home c.args.line).wait ≡ true = ap (λ h. is_idle h.wait) (sym c.header-header.ensures) ∙ sym c.is_idle.ensures ∙ c.if-not-is_idle.false in
    rpl-dirty home c.args.line c.requires.line c.args.src (home-headers (g.D.Sharers.directory home.dir) home c.cfg-kept.ensures.kept) idle (ap (λ h. h.dirty) (sym c.header-header.ensures) ∙ c.if-header.true)

pub returns-clause-share : goal.returns-clause-share
returns-clause-share g c =
    let home = c.args.home.now in
    let h = header_at home c.args.line in
    let idle : is_idle (header_at home c.args.line).wait ≡ true = ap (λ h. is_idle h.wait) (sym c.header-header.ensures) ∙ sym c.is_idle.ensures ∙ c.if-not-is_idle.false in
    rpl-clean home c.args.line c.requires.line c.args.src c.unlist.new.self idle (ap (λ h. h.dirty) (sym c.header-header.ensures) ∙ c.if-header.false) c.unlist.ensures.home
    (ap (λ b. cond (b && listed h.list c.args.src) (h.acks - 1) h.acks) (idle-calm h.wait idle))
