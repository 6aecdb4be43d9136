-- The count that is kept beside the headers is above 0 where such a line is.
use Rattle.dir_header.proofs.LinkedLines.{holds-returns}
use Rattle.dir_header.proofs.home.HomeSide.pending_holds.Goals as goal

pub returns : goal.returns
returns g c =
    let i = c.self.inside in
    rw (← c.self.view_is) (holds-returns (g.D.Sharers.directory i.dir) i.cfg i.node i.headers.items i.memory.items i.dir i.budget i.holders c.self.invariant c.pending.result c.pending.ensures)
