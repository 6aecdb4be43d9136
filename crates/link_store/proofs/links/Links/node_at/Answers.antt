-- The entry of the link at that place has its node.
use Rattle.link_store.proofs.Moves.{line_below}
use Rattle.link_store.proofs.Loops.{node_in}
use Rattle.link_store.proofs.links.Links.node_at.Goals as goal

pub returns : goal.returns
returns c =
    node_in _ _ _ _ _ _ _ _ _ _ c.self.invariant c.self.view_is (line_below _ _ _ _ _ c.self.view_is c.requires.line) c.requires.place c.deref.ensures.value c.index.ensures c.link_at-link.ensures.below
    c.link_at-link.ensures.value c.index-2.ensures
