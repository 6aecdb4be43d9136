-- The first free link goes in front of the line's chain.
use Rattle.link_store.proofs.Moves.{line_below, put_done, room_for}
use Rattle.link_store.proofs.links.Links.put_front.Goals as goal

pub put_front-requires : goal.put_front-requires
put_front-requires c =
    let l = line_below _ _ _ _ c.args.m c.self.view_is c.requires in
    room_for _ _ _ _ _ _ c.self.invariant l c.in-Link.is c.index_mut.ensures.value

pub invariant_of-self : goal.invariant_of-self
invariant_of-self c =
    let l = line_below _ _ _ _ c.args.m c.self.view_is c.requires in
    (put_done _ _ _ _ _ c.args.node _ _ _ _ _ c.self.invariant c.self.view_is l c.in-Link.is c.index.ensures c.index_mut.ensures.value c.put_front.ensures.entry c.put_front.ensures.start).0

pub returns-clause-after : goal.returns-clause-after
returns-clause-after c =
    let l = line_below _ _ _ _ c.args.m c.self.view_is c.requires in
    (put_done _ _ _ _ _ c.args.node _ _ _ _ _ c.self.invariant c.self.view_is l c.in-Link.is c.index.ensures c.index_mut.ensures.value c.put_front.ensures.entry c.put_front.ensures.start).1

pub returns-clause-partition : goal.returns-clause-partition
returns-clause-partition c = (invariant_of-self c).partition
