-- The first link of the line's chain becomes free.
use Rattle.std.proofs.Common.{arith}
use Rattle.link_store.proofs.Moves.{line_below, line_first, pop_done, node_popped}
use Rattle.link_store.proofs.links.Links.pop_front.Goals as goal

pub overflow_cast-link : goal.overflow_cast-link
overflow_cast-link c =
    let l = line_below _ _ _ _ c.args.m c.self.view_is c.requires in
    let below = (line_first _ _ _ _ _ _ c.self.invariant l c.in-Link.is c.index-start.ensures).0 in
    let fits = c.self.invariant.fits in
    omega (arith, below, fits)

pub index-entry-requires : goal.index-entry-requires
index-entry-requires c =
    let l = line_below _ _ _ _ c.args.m c.self.view_is c.requires in
    let below = (line_first _ _ _ _ _ _ c.self.invariant l c.in-Link.is c.index-start.ensures).0 in
    omega (arith, below)

pub overflow_sub-start : goal.overflow_sub-start
overflow_sub-start c =
    let l = line_below _ _ _ _ c.args.m c.self.view_is c.requires in
    (line_first _ _ _ _ _ _ c.self.invariant l c.in-Link.is c.index-start.ensures).1

pub index_mut-taken-requires : goal.index_mut-taken-requires
index_mut-taken-requires c =
    let l = line_below _ _ _ _ c.args.m c.self.view_is c.requires in
    let below = (line_first _ _ _ _ _ _ c.self.invariant l c.in-Link.is c.index-start.ensures).0 in
    omega (arith, below)

pub put_front-requires : goal.put_front-requires
put_front-requires c =
    let l = line_below _ _ _ _ c.args.m c.self.view_is c.requires in
    (line_first _ _ _ _ _ _ c.self.invariant l c.in-Link.is c.index-start.ensures).2

pub invariant_of-self : goal.invariant_of-self
invariant_of-self c =
    let l = line_below _ _ _ _ c.args.m c.self.view_is c.requires in
    (pop_done _ _ _ _ _ c.index-entry.result.now.node _ _ _ _ _ c.self.invariant c.self.view_is l c.in-Link.is c.index-entry.ensures c.index-start.ensures c.put_front.ensures.entry c.put_front.ensures.start).0

pub returns-clause-value : goal.returns-clause-value
returns-clause-value c =
    let l = line_below _ _ _ _ c.args.m c.self.view_is c.requires in
    node_popped _ _ _ _ _ _ _ _ c.self.invariant c.self.view_is l c.in-Link.is c.index-entry.ensures c.index-start.ensures

pub returns-clause-after : goal.returns-clause-after
returns-clause-after c =
    let l = line_below _ _ _ _ c.args.m c.self.view_is c.requires in
    (pop_done _ _ _ _ _ c.index-entry.result.now.node _ _ _ _ _ c.self.invariant c.self.view_is l c.in-Link.is c.index-entry.ensures c.index-start.ensures c.put_front.ensures.entry c.put_front.ensures.start).1

pub returns-clause-partition : goal.returns-clause-partition
returns-clause-partition c = (invariant_of-self c).partition
