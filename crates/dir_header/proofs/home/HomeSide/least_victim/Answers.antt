-- The least line of the set that is kept beside the headers.
use Rattle.std.proofs.Common.{◌+◌, ◌*◌, None, Some, ap, ◌∙◌, arith}
use Rattle.dir_header.proofs.LinkedLines.{first_fits, least-returns}
use Rattle.dir_header.proofs.home.HomeSide.least_victim.Goals as goal

pub returns-in_err-m : goal.returns-in_err-m
returns-in_err-m g c =
    let i = c.self.inside in
    c.from_residual.ensures ∙ rw (← c.self.view_is) (least-returns (g.D.Sharers.directory i.dir) i.cfg i.node i.headers.items i.memory.items i.dir i.budget i.holders c.self.invariant None c.in_err-m.ensures.value)

pub overflow_mul-result : goal.overflow_mul-result
overflow_mul-result g c =
    let i = c.self.inside in
    let fits = first_fits (g.D.Sharers.directory i.dir) i.cfg i.node i.headers.items i.memory.items i.dir i.budget i.holders c.self.invariant in let lines = ap (λ n. i.node * n) c.lines.ensures.value in omega (arith, fits, lines)

pub overflow_add-result : goal.overflow_add-result
overflow_add-result g c =
    let i = c.self.inside in
    let fits = first_fits (g.D.Sharers.directory i.dir) i.cfg i.node i.headers.items i.memory.items i.dir i.budget i.holders c.self.invariant in let lines = ap (λ n. i.node * n) c.lines.ensures.value in omega (arith, fits, lines, c.in_ok-m.ensures.below)

pub returns : goal.returns
returns g c =
    let i = c.self.inside in
    ap (λ n. Some (i.node * n + c.in_ok-m.m)) c.lines.ensures.value ∙ rw (← c.self.view_is) (least-returns (g.D.Sharers.directory i.dir) i.cfg i.node i.headers.items i.memory.items i.dir i.budget i.holders c.self.invariant (Some c.in_ok-m.m) c.in_ok-m.ensures.value)
