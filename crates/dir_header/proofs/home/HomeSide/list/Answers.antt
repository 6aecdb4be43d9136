-- The list of the line gains a node, and the line stands to the links as its new list says. A refusal of the directory is that of the tables.
use Rattle.std.proofs.Common.{◌≡◌, ◌%◌, ◌<◌, ◌≤◌, false, length, sym, ap, subst, true≢false}
use Rattle.line_map.specs.Sizes.{home_of}
use Rattle.op_model.specs.Nodes.{enlist}
use Rattle.dir_header.specs.Sharers.{with_list, IsDirectory, list_at}
use Rattle.dir_header.specs.Standings.{counted}
use Rattle.dir_header.proofs.Calls.{fields-read, stands, counted-least, few-least, below-at, moves-at, stands-after, relist-kept}
use Rattle.dir_header.proofs.Returns.{place-within, bound-at, calm-old, relist-returns, dir-returns, room-returns}
use Rattle.dir_header.proofs.Directories.{enlist-below, listed-keeps}
use Rattle.dir_header.proofs.home.HomeSide.list.Goals as goal

pub change-requires-clause-was : goal.change-requires-clause-was
change-requires-clause-was g c =
    let i = c.self.inside in
    let dir = g.D.Sharers.directory i.dir in
    let own : home_of i.cfg c.args.g ≡ i.node = rw (← c.self.view_is) at c.requires.line in
    let place : c.place-m.result ≡ c.args.g % i.cfg.lines = rw (← c.self.view_is) at c.place-m.ensures.value in
    let stood = stands dir i.cfg i.node i.headers.items i.memory.items i.dir i.budget i.holders c.self.invariant c.args.g own c.place-m.result place c.index.result.now c.holds.result c.standing_by-before.result c.index.ensures c.holds.ensures c.standing_by-before.ensures in
    subst (λ s. counted s ≤ i.holders.pending) (sym stood) (counted-least dir i.cfg i.node i.headers.items i.memory.items i.dir i.budget i.holders c.self.invariant c.args.g own c.place-m.result place)

pub change-requires-clause-room : goal.change-requires-clause-room
change-requires-clause-room g c =
    let i = c.self.inside in
    let dir = g.D.Sharers.directory i.dir in
    let own : home_of i.cfg c.args.g ≡ i.node = rw (← c.self.view_is) at c.requires.line in
    let place : c.place-m.result ≡ c.args.g % i.cfg.lines = rw (← c.self.view_is) at c.place-m.ensures.value in
    few-least dir i.cfg i.node i.headers.items i.memory.items i.dir i.budget i.holders c.self.invariant c.args.g own c.place-m.result place

pub invariant_of-self-2 : goal.invariant_of-self-2
invariant_of-self-2 g c =
    let i = c.self.inside in
    let dir = g.D.Sharers.directory i.dir in
    let own : home_of i.cfg c.args.g ≡ i.node = rw (← c.self.view_is) at c.requires.line in
    let place : c.place-m.result ≡ c.args.g % i.cfg.lines = rw (← c.self.view_is) at c.place-m.ensures.value in
    let stood = stands dir i.cfg i.node i.headers.items i.memory.items i.dir i.budget i.holders c.self.invariant c.args.g own c.place-m.result place c.index.result.now c.holds.result c.standing_by-before.result c.index.ensures c.holds.ensures c.standing_by-before.ensures in
    let list = enlist (list_at dir c.place-m.result) c.args.node in
    let calm = calm-old dir i.cfg i.node i.headers.items i.memory.items i.dir i.budget i.holders c.self.invariant c.args.g own c.place-m.result place (rw (← c.self.view_is) at c.requires.calm) in
    let node : c.args.node < i.cfg.nodes = rw (← c.self.view_is) at c.requires.node in
    let within : c.place-m.result < length dir.lists = place-within dir i.cfg i.node i.headers.items i.memory.items i.dir i.budget i.holders c.self.invariant c.args.g own c.place-m.result place in
    let bound : c.args.node < dir.nodes = bound-at dir i.cfg i.node i.headers.items i.memory.items i.dir i.budget i.holders c.self.invariant c.args.g own c.place-m.result place c.args.node node in
    let read = fields-read dir i.cfg i.node i.headers.items i.memory.items i.dir i.budget i.holders c.self.invariant c.args.g own c.place-m.result place c.index.result.now c.index.ensures in
    let after = stands-after dir i.cfg i.node i.headers.items i.memory.items i.dir i.budget i.holders c.self.invariant c.args.g own c.place-m.result place (g.D.Sharers.directory c.add.new.self) c.add.new.self list c.in_ok-add.ensures.ok c.index.result.now.wait c.holds-2.result c.standing_by-after.result (ap (λ h. h.wait) read) c.holds-2.ensures c.standing_by-after.ensures in
    relist-kept dir i.cfg i.node i.headers.items i.memory.items i.dir i.budget i.holders c.self.invariant c.args.g own c.place-m.result place (g.D.Sharers.directory c.add.new.self) c.add.new.self list c.in_ok-add.ensures.ok c.change.new.self
    (subst IsDirectory {x = with_list dir c.place-m.result list} (sym c.in_ok-add.ensures.ok) (listed-keeps dir c.place-m.result c.self.invariant.home.dir_kept within c.args.node bound (λ a. true≢false (sym (c.in_ok-add.ensures.room.1 a)))))
    (λ q. enlist-below _ c.args.node i.cfg.nodes q node (below-at dir i.cfg i.node i.headers.items i.memory.items i.dir i.budget i.holders c.self.invariant c.args.g own c.place-m.result place q)) calm
    (moves-at dir i.cfg i.node i.headers.items i.memory.items i.dir i.budget i.holders c.self.invariant c.args.g own c.place-m.result place c.change.new.self c.standing_by-before.result c.standing_by-after.result _ c.change.ensures stood after)

pub returns-clause-ok : goal.returns-clause-ok
returns-clause-ok g c =
    let i = c.self.inside in
    let dir = g.D.Sharers.directory i.dir in
    let own : home_of i.cfg c.args.g ≡ i.node = rw (← c.self.view_is) at c.requires.line in
    let place : c.place-m.result ≡ c.args.g % i.cfg.lines = rw (← c.self.view_is) at c.place-m.ensures.value in
    rw (← c.self.view_is) (relist-returns dir i.cfg i.node i.headers.items i.memory.items i.dir i.budget i.holders c.self.invariant c.args.g own c.place-m.result place (λ l. enlist l c.args.node) (g.D.Sharers.directory c.add.new.self) c.add.new.self c.in_ok-add.ensures.ok)

pub returns-clause-room : goal.returns-clause-room
returns-clause-room g c =
    let i = c.self.inside in
    let dir = g.D.Sharers.directory i.dir in
    let own : home_of i.cfg c.args.g ≡ i.node = rw (← c.self.view_is) at c.requires.line in
    let place : c.place-m.result ≡ c.args.g % i.cfg.lines = rw (← c.self.view_is) at c.place-m.ensures.value in
    rw (← c.self.view_is) (room-returns dir i.cfg i.node i.headers.items i.memory.items i.dir i.budget i.holders c.self.invariant c.args.g own c.place-m.result place c.args.node false c.in_ok-add.ensures.room)

pub returns-clause-dir : goal.returns-clause-dir
returns-clause-dir g c =
    let i = c.self.inside in
    let dir = g.D.Sharers.directory i.dir in
    let own : home_of i.cfg c.args.g ≡ i.node = rw (← c.self.view_is) at c.requires.line in
    let place : c.place-m.result ≡ c.args.g % i.cfg.lines = rw (← c.self.view_is) at c.place-m.ensures.value in
    rw (← c.self.view_is) (dir-returns dir i.cfg i.node i.headers.items i.memory.items i.dir i.budget i.holders c.self.invariant c.args.g own c.place-m.result place (λ l. enlist l c.args.node) (g.D.Sharers.directory c.add.new.self) c.add.new.self c.in_ok-add.ensures.ok)
