-- A flag of the header is written, so nothing that is kept beside it changes.
use Rattle.std.proofs.Common.{◌≡◌, ◌%◌, [], get_or, sym, ap, ◌∙◌}
use Rattle.line_map.specs.Sizes.{home_of}
use Rattle.op_model.specs.Lines.{Header}
use Rattle.dir_header.specs.Sharers.{list_at}
use Rattle.dir_header.specs.HomeSides.{Fields, with_header}
use Rattle.dir_header.specs.HomeParts.{joined}
use Rattle.dir_header.proofs.Changes.{header-is}
use Rattle.dir_header.proofs.Calls.{fields-read, flags-view, flags-kept}
use Rattle.dir_header.proofs.home.HomeSide.set_dirty.Goals as goal

pub invariant_of-self : goal.invariant_of-self
invariant_of-self g c =
    let i = c.self.inside in
    let dir = g.D.Sharers.directory i.dir in
    let own : home_of i.cfg c.args.g ≡ i.node = rw (← c.self.view_is) at c.requires in
    let place : c.place-m.result ≡ c.args.g % i.cfg.lines = rw (← c.self.view_is) at c.place-m.ensures.value in
    let read = fields-read dir i.cfg i.node i.headers.items i.memory.items i.dir i.budget i.holders c.self.invariant c.args.g own c.place-m.result place c.index_mut.result.now c.index_mut.ensures.value in
    flags-kept dir i.cfg i.node i.headers.items i.memory.items i.dir i.budget i.holders c.self.invariant c.args.g own c.place-m.result place (record c.index_mut.result.now { dirty = c.args.on }) (ap (λ h. h.wait) read) (ap (λ h. h.acks) read)

pub returns : goal.returns
returns g c =
    let i = c.self.inside in
    let dir = g.D.Sharers.directory i.dir in
    let own : home_of i.cfg c.args.g ≡ i.node = rw (← c.self.view_is) at c.requires in
    let place : c.place-m.result ≡ c.args.g % i.cfg.lines = rw (← c.self.view_is) at c.place-m.ensures.value in
    let read = fields-read dir i.cfg i.node i.headers.items i.memory.items i.dir i.budget i.holders c.self.invariant c.args.g own c.place-m.result place c.index_mut.result.now c.index_mut.ensures.value in
    rw (← c.self.view_is)
    (flags-view dir i.cfg i.node i.headers.items i.memory.items i.dir i.budget i.holders c.self.invariant c.args.g own c.place-m.result place (record c.index_mut.result.now { dirty = c.args.on })
    ∙ ap (with_header _ c.args.g) (ap (λ (h : Fields). joined (record h { dirty = c.args.on }) (list_at dir (c.args.g % i.cfg.lines)) (get_or i.memory.items (c.args.g % i.cfg.lines) [])) read ∙ ap (λ (h : Header). record h { dirty = c.args.on }) (sym (header-is dir i.cfg i.node i.headers.items i.memory.items i.dir i.budget i.holders c.self.invariant c.args.g own))))
