-- The line ends to wait: one line fewer is pending, and one place fewer is used.
use Rattle.std.proofs.Common.{◌≡◌, ◌%◌, ◌≤◌, sym, subst}
use Rattle.line_map.specs.Sizes.{home_of}
use Rattle.dir_header.specs.Standings.{counted}
use Rattle.dir_header.proofs.Calls.{fields-read, stands, counted-least, few-least}
use Rattle.dir_header.proofs.Waits.{place-used, ends-kept, ends-returns}
use Rattle.dir_header.proofs.home.HomeSide.end_pending.Goals as goal

pub give_back-requires : goal.give_back-requires
give_back-requires g c =
    let i = c.self.inside in
    let dir = g.D.Sharers.directory i.dir in
    let own : home_of i.cfg c.args.g ≡ i.node = rw (← c.self.view_is) at c.requires.line in
    let place : c.place-m.result ≡ c.args.g % i.cfg.lines = rw (← c.self.view_is) at c.place-m.ensures.value in
    let stood = stands dir i.cfg i.node i.headers.items i.memory.items i.dir i.budget i.holders c.self.invariant c.args.g own c.place-m.result place c.index.result.now c.holds-links.result c.standing_by-before.result c.index.ensures c.holds-links.ensures c.standing_by-before.ensures in
    let read = fields-read dir i.cfg i.node i.headers.items i.memory.items i.dir i.budget i.holders c.self.invariant c.args.g own c.place-m.result place c.index_mut.result.now c.index_mut.ensures.value in
    place-used dir i.cfg i.node i.headers.items i.memory.items i.dir i.budget i.holders c.self.invariant c.args.g own c.place-m.result place (rw (← c.self.view_is) at c.requires.pending)

pub change-requires-clause-was : goal.change-requires-clause-was
change-requires-clause-was g c =
    let i = c.self.inside in
    let dir = g.D.Sharers.directory i.dir in
    let own : home_of i.cfg c.args.g ≡ i.node = rw (← c.self.view_is) at c.requires.line in
    let place : c.place-m.result ≡ c.args.g % i.cfg.lines = rw (← c.self.view_is) at c.place-m.ensures.value in
    let stood = stands dir i.cfg i.node i.headers.items i.memory.items i.dir i.budget i.holders c.self.invariant c.args.g own c.place-m.result place c.index.result.now c.holds-links.result c.standing_by-before.result c.index.ensures c.holds-links.ensures c.standing_by-before.ensures in
    subst (λ s. counted s ≤ i.holders.pending) (sym stood) (counted-least dir i.cfg i.node i.headers.items i.memory.items i.dir i.budget i.holders c.self.invariant c.args.g own c.place-m.result place)

pub change-requires-clause-room : goal.change-requires-clause-room
change-requires-clause-room g c =
    let i = c.self.inside in
    let dir = g.D.Sharers.directory i.dir in
    let own : home_of i.cfg c.args.g ≡ i.node = rw (← c.self.view_is) at c.requires.line in
    let place : c.place-m.result ≡ c.args.g % i.cfg.lines = rw (← c.self.view_is) at c.place-m.ensures.value in
    few-least dir i.cfg i.node i.headers.items i.memory.items i.dir i.budget i.holders c.self.invariant c.args.g own c.place-m.result place

pub invariant_of-self : goal.invariant_of-self
invariant_of-self g c =
    let i = c.self.inside in
    let dir = g.D.Sharers.directory i.dir in
    let own : home_of i.cfg c.args.g ≡ i.node = rw (← c.self.view_is) at c.requires.line in
    let place : c.place-m.result ≡ c.args.g % i.cfg.lines = rw (← c.self.view_is) at c.place-m.ensures.value in
    let stood = stands dir i.cfg i.node i.headers.items i.memory.items i.dir i.budget i.holders c.self.invariant c.args.g own c.place-m.result place c.index.result.now c.holds-links.result c.standing_by-before.result c.index.ensures c.holds-links.ensures c.standing_by-before.ensures in
    let read = fields-read dir i.cfg i.node i.headers.items i.memory.items i.dir i.budget i.holders c.self.invariant c.args.g own c.place-m.result place c.index_mut.result.now c.index_mut.ensures.value in
    ends-kept dir i.cfg i.node i.headers.items i.memory.items i.dir i.budget i.holders c.self.invariant c.args.g own c.place-m.result place c.index_mut.result.now read c.give_back.new.self c.change.new.self c.standing_by-before.result c.standing_by.result c.holds-links.result c.change.ensures stood c.holds-links.ensures (rw (← c.self.view_is) at c.requires.pending) c.give_back.ensures c.standing_by.ensures

pub returns : goal.returns
returns g c =
    let i = c.self.inside in
    let dir = g.D.Sharers.directory i.dir in
    let own : home_of i.cfg c.args.g ≡ i.node = rw (← c.self.view_is) at c.requires.line in
    let place : c.place-m.result ≡ c.args.g % i.cfg.lines = rw (← c.self.view_is) at c.place-m.ensures.value in
    let stood = stands dir i.cfg i.node i.headers.items i.memory.items i.dir i.budget i.holders c.self.invariant c.args.g own c.place-m.result place c.index.result.now c.holds-links.result c.standing_by-before.result c.index.ensures c.holds-links.ensures c.standing_by-before.ensures in
    let read = fields-read dir i.cfg i.node i.headers.items i.memory.items i.dir i.budget i.holders c.self.invariant c.args.g own c.place-m.result place c.index_mut.result.now c.index_mut.ensures.value in
    rw (← c.self.view_is) (ends-returns dir i.cfg i.node i.headers.items i.memory.items i.dir i.budget i.holders c.self.invariant c.args.g own c.place-m.result place c.index_mut.result.now read c.give_back.new.self c.change.new.self c.standing_by-before.result c.standing_by.result c.holds-links.result c.change.ensures stood c.holds-links.ensures)
