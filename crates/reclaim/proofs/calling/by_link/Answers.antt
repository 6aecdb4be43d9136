-- The line's list holds the link, and so the line has the number of its place at this home.
use Rattle.std.proofs.Common.{◌≡◌, ℕ, ◌<◌, ◌*◌, ◌+◌, ◌⊎◌, length, Some, refl, ap, ◌∙◌, subst}
use Rattle.std.specs.Prelude.{option_map}
use Rattle.dir_header.specs.Sharers.{Unlinked, free_in, held_by, list_at}
use Rattle.reclaim.proofs.Called.{found, no-link}
use Rattle.reclaim.proofs.calling.by_link.Goals as goal

pub returns-clause-line : goal.returns-clause-line
returns-clause-line g c =
    let home = c.args.home.now in
    let m = c.in_ok-m.m in
    found (g.D.Sharers.directory home.dir) home m (c.node.result * c.lines-lines.result + m) c.cfg.ensures.kept
    (subst (λ d. m < length (g.D.Sharers.directory d).lists) c.dir.ensures c.in_ok-m.ensures.holds.0)
    (subst (λ d. 0 < held_by (g.D.Sharers.directory d).charge (list_at (g.D.Sharers.directory d) m)) c.dir.ensures c.in_ok-m.ensures.holds.1)
    ((λ i. c.node.ensures i * (c.lines-lines.ensures.value ∙ ap (λ z. z.lines) c.cfg.ensures.value) i + m))

pub returns-clause-found : goal.returns-clause-found
returns-clause-found g c =
    let home = c.args.home.now in
    let lines : c.lines-lines.result ≡ home.sizes.lines = c.lines-lines.ensures.value ∙ ap (λ z. z.lines) c.cfg.ensures.value in
    (λ i. Some (c.node.ensures i * lines i + c.in_ok-m.m)) ∙ ap (option_map (λ (k : ℕ). home.node * home.sizes.lines + k)) (c.in_ok-m.ensures.found ∙ ap (λ d. g.D.Sharers.link_line d c.args.link) c.dir.ensures)

pub returns-in_err-m-clause-found : goal.returns-in_err-m-clause-found
returns-in_err-m-clause-found g c =
    let home = c.args.home.now in
    c.from_residual.ensures ∙ ap (option_map (λ (k : ℕ). home.node * home.sizes.lines + k)) (c.in_err-m.ensures.found ∙ ap (λ d. g.D.Sharers.link_line d c.args.link) c.dir.ensures)

pub returns-in_err-m-clause-free : goal.returns-in_err-m-clause-free
returns-in_err-m-clause-free g c =
    let home = c.args.home.now in
    λ none. no-link (g.D.Sharers.directory home.dir) home c.cfg.ensures.kept (subst (λ d. (0 < free_in (g.D.Sharers.directory d)) ⊎ ((g.D.Sharers.directory d).charge ≡ Unlinked)) c.dir.ensures (c.in_err-m.ensures.free refl))
