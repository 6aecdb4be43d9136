-- The list of the line becomes that of one node or none, and the line stands to the links as its new list says.
use Rattle.std.proofs.Common.{◌≡◌, ◌%◌, ◌<◌, ◌≤◌, length, IfSome, sym, ap, subst}
use Rattle.line_map.specs.Sizes.{home_of}
use Rattle.dir_header.specs.Sharers.{IsDirectory, only_this}
use Rattle.dir_header.specs.Standings.{counted}
use Rattle.dir_header.proofs.Calls.{fields-read, stands, counted-least, few-least, moves-at, stands-after, relist-kept}
use Rattle.dir_header.proofs.Returns.{place-within, some-bound, calm-old, relist-returns, dir-returns}
use Rattle.dir_header.proofs.Directories.{only-below, cleared-keeps}
use Rattle.dir_header.proofs.home.HomeSide.list_only.Goals as goal

pub change-requires-clause-was : goal.change-requires-clause-was
change-requires-clause-was g c =
    let i = c.self.inside in
    let dir = g.D.Sharers.directory i.dir in
    let own : home_of i.cfg c.args.g ≡ i.node = rw (← c.self.view_is) at c.requires.line in
    let place : c.place-m.result ≡ c.args.g % i.cfg.lines = rw (← c.self.view_is) at c.place-m.ensures.value in
    let stood = stands dir i.cfg i.node i.headers.items i.memory.items i.dir i.budget i.holders c.self.invariant c.args.g own c.place-m.result place c.index.result.now c.holds.result c.standing_by-before.result c.index.ensures c.holds.ensures c.standing_by-before.ensures in
    subst (λ s. counted s ≤ i.holders.pending) (sym stood) (counted-least dir i.cfg i.node i.headers.items i.memory.items i.dir i.budget i.holders c.self.invariant c.args.g own c.place-m.result place)

pub change-requires-clause-room : goal.change-requires-clause-room
change-requires-clause-room g c =
    let i = c.self.inside in
    let dir = g.D.Sharers.directory i.dir in
    let own : home_of i.cfg c.args.g ≡ i.node = rw (← c.self.view_is) at c.requires.line in
    let place : c.place-m.result ≡ c.args.g % i.cfg.lines = rw (← c.self.view_is) at c.place-m.ensures.value in
    few-least dir i.cfg i.node i.headers.items i.memory.items i.dir i.budget i.holders c.self.invariant c.args.g own c.place-m.result place

pub invariant_of-self : goal.invariant_of-self
invariant_of-self g c =
    let i = c.self.inside in
    let dir = g.D.Sharers.directory i.dir in
    let own : home_of i.cfg c.args.g ≡ i.node = rw (← c.self.view_is) at c.requires.line in
    let place : c.place-m.result ≡ c.args.g % i.cfg.lines = rw (← c.self.view_is) at c.place-m.ensures.value in
    let stood = stands dir i.cfg i.node i.headers.items i.memory.items i.dir i.budget i.holders c.self.invariant c.args.g own c.place-m.result place c.index.result.now c.holds.result c.standing_by-before.result c.index.ensures c.holds.ensures c.standing_by-before.ensures in
    let dir' = g.D.Sharers.directory c.clear_to.new.self in
    let list = only_this c.args.only in
    let calm = calm-old dir i.cfg i.node i.headers.items i.memory.items i.dir i.budget i.holders c.self.invariant c.args.g own c.place-m.result place (rw (← c.self.view_is) at c.requires.calm) in
    let node : IfSome c.args.only (λ node. node < i.cfg.nodes) = rw (← c.self.view_is) at c.requires.node in
    let within : c.place-m.result < length dir.lists = place-within dir i.cfg i.node i.headers.items i.memory.items i.dir i.budget i.holders c.self.invariant c.args.g own c.place-m.result place in
    let bound : IfSome c.args.only (λ node. node < dir.nodes) = some-bound dir i.cfg i.node i.headers.items i.memory.items i.dir i.budget i.holders c.self.invariant c.args.g own c.place-m.result place c.args.only node in
    let read = fields-read dir i.cfg i.node i.headers.items i.memory.items i.dir i.budget i.holders c.self.invariant c.args.g own c.place-m.result place c.index.result.now c.index.ensures in
    let after = stands-after dir i.cfg i.node i.headers.items i.memory.items i.dir i.budget i.holders c.self.invariant c.args.g own c.place-m.result place dir' c.clear_to.new.self list c.clear_to.ensures c.index.result.now.wait c.holds-2.result c.standing_by-after.result (ap (λ h. h.wait) read) c.holds-2.ensures c.standing_by-after.ensures in
    relist-kept dir i.cfg i.node i.headers.items i.memory.items i.dir i.budget i.holders c.self.invariant c.args.g own c.place-m.result place dir' c.clear_to.new.self list c.clear_to.ensures c.change.new.self
    (subst IsDirectory (sym c.clear_to.ensures) (cleared-keeps dir c.place-m.result c.self.invariant.home.dir_kept within c.args.only bound))
    (λ q. only-below c.args.only i.cfg.nodes q node) calm
    (moves-at dir i.cfg i.node i.headers.items i.memory.items i.dir i.budget i.holders c.self.invariant c.args.g own c.place-m.result place c.change.new.self c.standing_by-before.result c.standing_by-after.result _ c.change.ensures stood after)

pub returns-clause-home : goal.returns-clause-home
returns-clause-home g c =
    let i = c.self.inside in
    let dir = g.D.Sharers.directory i.dir in
    let own : home_of i.cfg c.args.g ≡ i.node = rw (← c.self.view_is) at c.requires.line in
    let place : c.place-m.result ≡ c.args.g % i.cfg.lines = rw (← c.self.view_is) at c.place-m.ensures.value in
    rw (← c.self.view_is) (relist-returns dir i.cfg i.node i.headers.items i.memory.items i.dir i.budget i.holders c.self.invariant c.args.g own c.place-m.result place (λ l. only_this c.args.only) (g.D.Sharers.directory c.clear_to.new.self) c.clear_to.new.self c.clear_to.ensures)

pub returns-clause-dir : goal.returns-clause-dir
returns-clause-dir g c =
    let i = c.self.inside in
    let dir = g.D.Sharers.directory i.dir in
    let own : home_of i.cfg c.args.g ≡ i.node = rw (← c.self.view_is) at c.requires.line in
    let place : c.place-m.result ≡ c.args.g % i.cfg.lines = rw (← c.self.view_is) at c.place-m.ensures.value in
    rw (← c.self.view_is) (dir-returns dir i.cfg i.node i.headers.items i.memory.items i.dir i.budget i.holders c.self.invariant c.args.g own c.place-m.result place (λ l. only_this c.args.only) (g.D.Sharers.directory c.clear_to.new.self) c.clear_to.new.self c.clear_to.ensures)
