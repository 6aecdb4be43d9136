-- The words of the line are written, and nothing that is kept beside them changes.
use Rattle.std.proofs.Common.{◌≡◌, ◌%◌, length, sym, ap, ◌∙◌}
use Rattle.line_map.specs.Sizes.{home_of}
use Rattle.op_model.specs.Lines.{Header}
use Rattle.dir_header.specs.HomeSides.{with_header}
use Rattle.dir_header.proofs.Changes.{header-is}
use Rattle.dir_header.proofs.Calls.{rewrite-view, rewrite-kept}
use Rattle.dir_header.proofs.home.HomeSide.put_memory.Goals as goal

pub invariant_of-self : goal.invariant_of-self
invariant_of-self g c =
    let i = c.self.inside in
    let dir = g.D.Sharers.directory i.dir in
    let own : home_of i.cfg c.args.g ≡ i.node = rw (← c.self.view_is) at c.requires.line in
    let place : c.place-m.result ≡ c.args.g % i.cfg.lines = rw (← c.self.view_is) at c.place-m.ensures.value in
    let width : length c.args.body.now ≡ i.cfg.words = rw (← c.self.view_is) at c.requires.width in
    rewrite-kept dir i.cfg i.node i.headers.items i.memory.items i.dir i.budget i.holders c.self.invariant c.args.g own c.place-m.result place c.args.body.now width

pub returns : goal.returns
returns g c =
    let i = c.self.inside in
    let dir = g.D.Sharers.directory i.dir in
    let own : home_of i.cfg c.args.g ≡ i.node = rw (← c.self.view_is) at c.requires.line in
    let place : c.place-m.result ≡ c.args.g % i.cfg.lines = rw (← c.self.view_is) at c.place-m.ensures.value in
    rw (← c.self.view_is)
    (rewrite-view dir i.cfg i.node i.headers.items i.memory.items i.dir i.budget i.holders c.self.invariant c.args.g own c.place-m.result place c.args.body.now ∙ ap (with_header _ c.args.g) (ap (λ (h : Header). record h { memory = c.args.body.now }) (sym (header-is dir i.cfg i.node i.headers.items i.memory.items i.dir i.budget i.holders c.self.invariant c.args.g own))))
