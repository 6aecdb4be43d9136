-- The list of the line loses a node, its acknowledgement goes where one is due, and the line stands to the links as its new list says.
use Rattle.std.proofs.Common.{◌≡◌, ◌%◌, ◌≤◌, false, sym, ap, ◌∙◌, subst}
use Rattle.line_map.specs.Sizes.{home_of}
use Rattle.op_model.specs.Nodes.{listed, unlist}
use Rattle.dir_header.specs.Sharers.{list_at}
use Rattle.dir_header.specs.Standings.{counted}
use Rattle.dir_header.proofs.Calls.{fields-read, stands, counted-least, few-least, stands-after}
use Rattle.dir_header.proofs.Returns.{dir-returns}
use Rattle.dir_header.specs.HomeParts.{home_view}
use Rattle.dir_header.proofs.Unlisted.{home-same, dir-same}
use Rattle.dir_header.proofs.Waits.{acks-asked, was-returns, gone-kept, gone-returns}
use Rattle.dir_header.proofs.home.HomeSide.unlist.Goals as goal

pub change-requires-clause-was : goal.change-requires-clause-was
change-requires-clause-was g c =
    let i = c.self.inside in
    let dir = g.D.Sharers.directory i.dir in
    let own : home_of i.cfg c.args.g ≡ i.node = rw (← c.self.view_is) at c.requires.line in
    let place : c.place-m.result ≡ c.args.g % i.cfg.lines = rw (← c.self.view_is) at c.place-m.ensures.value in
    let stood = stands dir i.cfg i.node i.headers.items i.memory.items i.dir i.budget i.holders c.self.invariant c.args.g own c.place-m.result place c.index.result.now c.holds.result c.standing_by-before.result c.index.ensures c.holds.ensures c.standing_by-before.ensures in
    subst (λ s. counted s ≤ i.holders.pending) (sym stood) (counted-least dir i.cfg i.node i.headers.items i.memory.items i.dir i.budget i.holders c.self.invariant c.args.g own c.place-m.result place)

pub change-requires-clause-room : goal.change-requires-clause-room
change-requires-clause-room g c =
    let i = c.self.inside in
    let dir = g.D.Sharers.directory i.dir in
    let own : home_of i.cfg c.args.g ≡ i.node = rw (← c.self.view_is) at c.requires.line in
    let place : c.place-m.result ≡ c.args.g % i.cfg.lines = rw (← c.self.view_is) at c.place-m.ensures.value in
    few-least dir i.cfg i.node i.headers.items i.memory.items i.dir i.budget i.holders c.self.invariant c.args.g own c.place-m.result place

pub acks_left-requires : goal.acks_left-requires
acks_left-requires g c =
    let i = c.self.inside in
    let dir = g.D.Sharers.directory i.dir in
    let own : home_of i.cfg c.args.g ≡ i.node = rw (← c.self.view_is) at c.requires.line in
    let place : c.place-m.result ≡ c.args.g % i.cfg.lines = rw (← c.self.view_is) at c.place-m.ensures.value in
    let read1 = fields-read dir i.cfg i.node i.headers.items i.memory.items i.dir i.budget i.holders c.self.invariant c.args.g own c.place-m.result place c.index.result.now c.index.ensures in
    let read2 = fields-read dir i.cfg i.node i.headers.items i.memory.items i.dir i.budget i.holders c.self.invariant c.args.g own c.place-m.result place c.index-2.result.now c.index-2.ensures in
    acks-asked dir i.cfg i.node i.headers.items i.memory.items i.dir i.budget i.holders c.self.invariant c.args.g own c.place-m.result place c.args.node c.remove-was.result c.index.result.now c.index-2.result.now c.remove-was.ensures.was read1 read2

pub invariant_of-self : goal.invariant_of-self
invariant_of-self g c =
    let i = c.self.inside in
    let dir = g.D.Sharers.directory i.dir in
    let own : home_of i.cfg c.args.g ≡ i.node = rw (← c.self.view_is) at c.requires.line in
    let place : c.place-m.result ≡ c.args.g % i.cfg.lines = rw (← c.self.view_is) at c.place-m.ensures.value in
    let stood = stands dir i.cfg i.node i.headers.items i.memory.items i.dir i.budget i.holders c.self.invariant c.args.g own c.place-m.result place c.index.result.now c.holds.result c.standing_by-before.result c.index.ensures c.holds.ensures c.standing_by-before.ensures in
    let read1 = fields-read dir i.cfg i.node i.headers.items i.memory.items i.dir i.budget i.holders c.self.invariant c.args.g own c.place-m.result place c.index.result.now c.index.ensures in
    let read2 = fields-read dir i.cfg i.node i.headers.items i.memory.items i.dir i.budget i.holders c.self.invariant c.args.g own c.place-m.result place c.index-2.result.now c.index-2.ensures in
    let read3 = fields-read dir i.cfg i.node i.headers.items i.memory.items i.dir i.budget i.holders c.self.invariant c.args.g own c.place-m.result place c.index_mut.result.now c.index_mut.ensures.value in
    let after = stands-after dir i.cfg i.node i.headers.items i.memory.items i.dir i.budget i.holders c.self.invariant c.args.g own c.place-m.result place (g.D.Sharers.directory c.remove-was.new.self) c.remove-was.new.self (unlist (list_at dir c.place-m.result) c.args.node) c.remove-was.ensures.after c.index.result.now.wait c.holds-2.result c.standing_by-after.result (ap (λ h. h.wait) read1) c.holds-2.ensures c.standing_by-after.ensures in
    gone-kept dir i.cfg i.node i.headers.items i.memory.items i.dir i.budget i.holders c.self.invariant c.args.g own c.place-m.result place c.args.node c.remove-was.result c.index.result.now c.index-2.result.now c.remove-was.ensures.was read1 read2 c.acks_left.result c.index_mut.result.now c.acks_left.ensures read3 (g.D.Sharers.directory c.remove-was.new.self) c.remove-was.new.self c.remove-was.ensures.after c.change.new.self c.standing_by-before.result c.standing_by-after.result c.change.ensures stood after

pub returns-clause-was : goal.returns-clause-was
returns-clause-was g c =
    let i = c.self.inside in
    let dir = g.D.Sharers.directory i.dir in
    let own : home_of i.cfg c.args.g ≡ i.node = rw (← c.self.view_is) at c.requires.line in
    let place : c.place-m.result ≡ c.args.g % i.cfg.lines = rw (← c.self.view_is) at c.place-m.ensures.value in
    let read1 = fields-read dir i.cfg i.node i.headers.items i.memory.items i.dir i.budget i.holders c.self.invariant c.args.g own c.place-m.result place c.index.result.now c.index.ensures in
    let read2 = fields-read dir i.cfg i.node i.headers.items i.memory.items i.dir i.budget i.holders c.self.invariant c.args.g own c.place-m.result place c.index-2.result.now c.index-2.ensures in
    rw (← c.self.view_is) (was-returns dir i.cfg i.node i.headers.items i.memory.items i.dir i.budget i.holders c.self.invariant c.args.g own c.place-m.result place c.args.node c.remove-was.result c.index.result.now c.index-2.result.now c.remove-was.ensures.was read1 read2)

pub returns-clause-home : goal.returns-clause-home
returns-clause-home g c =
    let i = c.self.inside in
    let dir = g.D.Sharers.directory i.dir in
    let own : home_of i.cfg c.args.g ≡ i.node = rw (← c.self.view_is) at c.requires.line in
    let place : c.place-m.result ≡ c.args.g % i.cfg.lines = rw (← c.self.view_is) at c.place-m.ensures.value in
    let read1 = fields-read dir i.cfg i.node i.headers.items i.memory.items i.dir i.budget i.holders c.self.invariant c.args.g own c.place-m.result place c.index.result.now c.index.ensures in
    let read2 = fields-read dir i.cfg i.node i.headers.items i.memory.items i.dir i.budget i.holders c.self.invariant c.args.g own c.place-m.result place c.index-2.result.now c.index-2.ensures in
    let read3 = fields-read dir i.cfg i.node i.headers.items i.memory.items i.dir i.budget i.holders c.self.invariant c.args.g own c.place-m.result place c.index_mut.result.now c.index_mut.ensures.value in
    rw (← c.self.view_is) (gone-returns dir i.cfg i.node i.headers.items i.memory.items i.dir i.budget i.holders c.self.invariant c.args.g own c.place-m.result place c.args.node c.remove-was.result c.index.result.now c.index-2.result.now c.remove-was.ensures.was read1 read2 c.acks_left.result c.index_mut.result.now c.acks_left.ensures read3 (g.D.Sharers.directory c.remove-was.new.self) c.remove-was.new.self c.remove-was.ensures.after)

pub returns-clause-dir : goal.returns-clause-dir
returns-clause-dir g c =
    let i = c.self.inside in
    let dir = g.D.Sharers.directory i.dir in
    let own : home_of i.cfg c.args.g ≡ i.node = rw (← c.self.view_is) at c.requires.line in
    let place : c.place-m.result ≡ c.args.g % i.cfg.lines = rw (← c.self.view_is) at c.place-m.ensures.value in
    rw (← c.self.view_is) (dir-returns dir i.cfg i.node i.headers.items i.memory.items i.dir i.budget i.holders c.self.invariant c.args.g own c.place-m.result place (λ l. unlist l c.args.node) (g.D.Sharers.directory c.remove-was.new.self) c.remove-was.new.self c.remove-was.ensures.after)

pub returns-then-not-contains-clause-was : goal.returns-then-not-contains-clause-was
returns-then-not-contains-clause-was g c =
    let i = c.self.inside in
    let dir = g.D.Sharers.directory i.dir in
    let home = home_view dir i.cfg i.node i.headers.items i.memory.items i.dir in
    let own : home_of i.cfg c.args.g ≡ i.node = rw (← c.self.view_is) at c.requires.line in
    let place : c.place-m.result ≡ c.args.g % i.cfg.lines = rw (← c.self.view_is) at c.place-m.ensures.value in
    let off : listed (list_at dir (c.args.g % i.cfg.lines)) c.args.node ≡ false = ap (λ m. listed (list_at dir m) c.args.node) (sym place) ∙ sym c.contains.ensures ∙ c.if-not-contains.true in
    rw (← c.self.view_is) (sym (ap (λ l. listed l c.args.node) (c.self.invariant.home.lists c.args.g own) ∙ off))

pub returns-then-not-contains-clause-home : goal.returns-then-not-contains-clause-home
returns-then-not-contains-clause-home g c =
    let i = c.self.inside in
    let dir = g.D.Sharers.directory i.dir in
    let home = home_view dir i.cfg i.node i.headers.items i.memory.items i.dir in
    let own : home_of i.cfg c.args.g ≡ i.node = rw (← c.self.view_is) at c.requires.line in
    let place : c.place-m.result ≡ c.args.g % i.cfg.lines = rw (← c.self.view_is) at c.place-m.ensures.value in
    let off : listed (list_at dir (c.args.g % i.cfg.lines)) c.args.node ≡ false = ap (λ m. listed (list_at dir m) c.args.node) (sym place) ∙ sym c.contains.ensures ∙ c.if-not-contains.true in
    rw (← c.self.view_is) (home-same dir home c.self.invariant.home c.args.g c.args.node own off)

pub returns-then-not-contains-clause-dir : goal.returns-then-not-contains-clause-dir
returns-then-not-contains-clause-dir g c =
    let i = c.self.inside in
    let dir = g.D.Sharers.directory i.dir in
    let home = home_view dir i.cfg i.node i.headers.items i.memory.items i.dir in
    let own : home_of i.cfg c.args.g ≡ i.node = rw (← c.self.view_is) at c.requires.line in
    let place : c.place-m.result ≡ c.args.g % i.cfg.lines = rw (← c.self.view_is) at c.place-m.ensures.value in
    let off : listed (list_at dir (c.args.g % i.cfg.lines)) c.args.node ≡ false = ap (λ m. listed (list_at dir m) c.args.node) (sym place) ∙ sym c.contains.ensures ∙ c.if-not-contains.true in
    rw (← c.self.view_is) (dir-same dir home c.self.invariant.home c.args.g c.args.node own off)
