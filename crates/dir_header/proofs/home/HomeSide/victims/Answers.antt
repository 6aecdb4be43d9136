-- The lines of the set that is kept beside the headers.
use Rattle.std.proofs.Common.{◌*◌, ap, ◌∙◌, arith}
use Rattle.dir_header.specs.WordSets.{numbered_from}
use Rattle.dir_header.proofs.LinkedLines.{first_fits, victims-are}
use Rattle.dir_header.proofs.home.HomeSide.victims.Goals as goal

pub overflow_mul-self-inside : goal.overflow_mul-self-inside
overflow_mul-self-inside g c =
    let i = c.self.inside in
    let fits = first_fits (g.D.Sharers.directory i.dir) i.cfg i.node i.headers.items i.memory.items i.dir i.budget i.holders c.self.invariant in let lines = ap (λ n. i.node * n) c.lines.ensures.value in omega (arith, fits, lines)

pub new-requires : goal.new-requires
new-requires g c =
    let i = c.self.inside in
    let fits = first_fits (g.D.Sharers.directory i.dir) i.cfg i.node i.headers.items i.memory.items i.dir i.budget i.holders c.self.invariant in let lines = ap (λ n. i.node * n) c.lines.ensures.value in omega (arith, fits, lines)

pub returns : goal.returns
returns g c =
    let i = c.self.inside in
    c.new.ensures ∙ (λ j. numbered_from (i.node * c.lines.ensures.value j) (c.victims.ensures j))
    ∙ rw (← c.self.view_is) (victims-are (g.D.Sharers.directory i.dir) i.cfg i.node i.headers.items i.memory.items i.dir i.budget i.holders c.self.invariant)
