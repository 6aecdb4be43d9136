-- The fields at the place of the line are those of its header.
use Rattle.std.proofs.Common.{◌≡◌, sym, ap, ◌∙◌}
use Rattle.line_map.specs.Sizes.{home_of}
use Rattle.dir_header.specs.HomeSides.{fields}
use Rattle.dir_header.proofs.Changes.{header-is}
use Rattle.dir_header.proofs.Calls.{fields-read}
use Rattle.dir_header.proofs.home.HomeSide.header.Goals as goal

pub returns : goal.returns
returns g c =
    let i = c.self.inside in
    let dir = g.D.Sharers.directory i.dir in
    let own : home_of i.cfg c.args.g ≡ i.node = rw (← c.self.view_is) at c.requires in
    let place : c.place.result ≡ _ = rw (← c.self.view_is) at c.place.ensures.value in
    rw (← c.self.view_is)
    (fields-read dir i.cfg i.node i.headers.items i.memory.items i.dir i.budget i.holders c.self.invariant c.args.g own c.place.result place c.index.result.now c.index.ensures
    ∙ sym (ap fields (header-is dir i.cfg i.node i.headers.items i.memory.items i.dir i.budget i.holders c.self.invariant c.args.g own)))
