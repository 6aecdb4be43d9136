-- The line begins to wait: one more line is pending, and one more place is used.
use Rattle.std.proofs.Common.{◌≡◌, ◌%◌, ◌≤◌, false, sym, subst}
use Rattle.line_map.specs.Sizes.{home_of}
use Rattle.dir_header.specs.Standings.{counted}
use Rattle.dir_header.proofs.Calls.{fields-read, stands, counted-least, few-least}
use Rattle.dir_header.proofs.Waits.{full-returns, waits-kept, waits-returns}
use Rattle.dir_header.proofs.home.HomeSide.make_pending.Goals as goal

pub change-requires-clause-was : goal.change-requires-clause-was
change-requires-clause-was g c =
    let i = c.self.inside in
    let dir = g.D.Sharers.directory i.dir in
    let own : home_of i.cfg c.args.g ≡ i.node = rw (← c.self.view_is) at c.requires.line in
    let place : c.place-m.result ≡ c.args.g % i.cfg.lines = rw (← c.self.view_is) at c.place-m.ensures.value in
    let stood = stands dir i.cfg i.node i.headers.items i.memory.items i.dir i.budget i.holders c.self.invariant c.args.g own c.place-m.result place c.index-header.result.now c.holds-links.result c.standing_by-before.result c.index-header.ensures c.holds-links.ensures c.standing_by-before.ensures in
    subst (λ s. counted s ≤ i.holders.pending) (sym stood) (counted-least dir i.cfg i.node i.headers.items i.memory.items i.dir i.budget i.holders c.self.invariant c.args.g own c.place-m.result place)

pub change-requires-clause-room : goal.change-requires-clause-room
change-requires-clause-room g c =
    let i = c.self.inside in
    let dir = g.D.Sharers.directory i.dir in
    let own : home_of i.cfg c.args.g ≡ i.node = rw (← c.self.view_is) at c.requires.line in
    let place : c.place-m.result ≡ c.args.g % i.cfg.lines = rw (← c.self.view_is) at c.place-m.ensures.value in
    few-least dir i.cfg i.node i.headers.items i.memory.items i.dir i.budget i.holders c.self.invariant c.args.g own c.place-m.result place

pub invariant_of-self-2 : goal.invariant_of-self-2
invariant_of-self-2 g c =
    let i = c.self.inside in
    let dir = g.D.Sharers.directory i.dir in
    let own : home_of i.cfg c.args.g ≡ i.node = rw (← c.self.view_is) at c.requires.line in
    let place : c.place-m.result ≡ c.args.g % i.cfg.lines = rw (← c.self.view_is) at c.place-m.ensures.value in
    let stood = stands dir i.cfg i.node i.headers.items i.memory.items i.dir i.budget i.holders c.self.invariant c.args.g own c.place-m.result place c.index-header.result.now c.holds-links.result c.standing_by-before.result c.index-header.ensures c.holds-links.ensures c.standing_by-before.ensures in
    let read = fields-read dir i.cfg i.node i.headers.items i.memory.items i.dir i.budget i.holders c.self.invariant c.args.g own c.place-m.result place c.index-header.result.now c.index-header.ensures in
    waits-kept dir i.cfg i.node i.headers.items i.memory.items i.dir i.budget i.holders c.self.invariant c.args.g own c.place-m.result place c.index-header.result.now read c.hold.new.self c.change.new.self c.standing_by-before.result c.standing_by.result c.holds-links.result c.change.ensures stood c.holds-links.ensures c.args.wait c.count.result c.acks_due.result c.count.ensures c.acks_due.ensures (rw (← c.self.view_is) at c.requires.idle) c.requires.waits c.in_ok-hold.ensures.ok c.in_ok-hold.ensures.full c.standing_by.ensures

pub returns-clause-ok : goal.returns-clause-ok
returns-clause-ok g c =
    let i = c.self.inside in
    let dir = g.D.Sharers.directory i.dir in
    let own : home_of i.cfg c.args.g ≡ i.node = rw (← c.self.view_is) at c.requires.line in
    let place : c.place-m.result ≡ c.args.g % i.cfg.lines = rw (← c.self.view_is) at c.place-m.ensures.value in
    let stood = stands dir i.cfg i.node i.headers.items i.memory.items i.dir i.budget i.holders c.self.invariant c.args.g own c.place-m.result place c.index-header.result.now c.holds-links.result c.standing_by-before.result c.index-header.ensures c.holds-links.ensures c.standing_by-before.ensures in
    let read = fields-read dir i.cfg i.node i.headers.items i.memory.items i.dir i.budget i.holders c.self.invariant c.args.g own c.place-m.result place c.index-header.result.now c.index-header.ensures in
    rw (← c.self.view_is) (waits-returns dir i.cfg i.node i.headers.items i.memory.items i.dir i.budget i.holders c.self.invariant c.args.g own c.place-m.result place c.index-header.result.now read c.hold.new.self c.change.new.self c.standing_by-before.result c.standing_by.result c.holds-links.result c.change.ensures stood c.holds-links.ensures c.args.wait c.count.result c.acks_due.result c.count.ensures c.acks_due.ensures)

pub returns-clause-full : goal.returns-clause-full
returns-clause-full g c =
    let i = c.self.inside in
    let dir = g.D.Sharers.directory i.dir in
    let own : home_of i.cfg c.args.g ≡ i.node = rw (← c.self.view_is) at c.requires.line in
    let place : c.place-m.result ≡ c.args.g % i.cfg.lines = rw (← c.self.view_is) at c.place-m.ensures.value in
    rw (← c.self.view_is) (full-returns dir i.cfg i.node i.headers.items i.memory.items i.dir i.budget i.holders c.self.invariant c.args.g own c.place-m.result place false c.in_ok-hold.ensures.full)
