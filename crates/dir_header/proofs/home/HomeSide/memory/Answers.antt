-- The words at the place of the line are those of its header.
use Rattle.std.proofs.Common.{◌≡◌, ◌%◌, length, sym, ap, ◌∙◌}
use Rattle.line_map.specs.Sizes.{home_of}
use Rattle.dir_header.proofs.Changes.{header-is}
use Rattle.dir_header.proofs.Calls.{memory-read}
use Rattle.dir_header.proofs.home.HomeSide.memory.Goals as goal

pub returns-clause-value : goal.returns-clause-value
returns-clause-value g c =
    let i = c.self.inside in
    let dir = g.D.Sharers.directory i.dir in
    let own : home_of i.cfg c.args.g ≡ i.node = rw (← c.self.view_is) at c.requires in
    let place : c.place.result ≡ c.args.g % i.cfg.lines = rw (← c.self.view_is) at c.place.ensures.value in
    rw (← c.self.view_is) (memory-read dir i.cfg i.node i.headers.items i.memory.items i.dir i.budget i.holders c.self.invariant c.args.g own c.place.result place c.index.result.now c.index.ensures ∙ sym (ap (λ h. h.memory) (header-is dir i.cfg i.node i.headers.items i.memory.items i.dir i.budget i.holders c.self.invariant c.args.g own)))

pub returns-clause-width : goal.returns-clause-width
returns-clause-width g c =
    let i = c.self.inside in
    let dir = g.D.Sharers.directory i.dir in
    let own : home_of i.cfg c.args.g ≡ i.node = rw (← c.self.view_is) at c.requires in
    let place : c.place.result ≡ c.args.g % i.cfg.lines = rw (← c.self.view_is) at c.place.ensures.value in
    rw (← c.self.view_is)
    (ap length (memory-read dir i.cfg i.node i.headers.items i.memory.items i.dir i.budget i.holders c.self.invariant c.args.g own c.place.result place c.index.result.now c.index.ensures ∙ sym (ap (λ h. h.memory) (header-is dir i.cfg i.node i.headers.items i.memory.items i.dir i.budget i.holders c.self.invariant c.args.g own))) ∙ c.self.invariant.home.width c.args.g own)
