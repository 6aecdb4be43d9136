-- The line whose chain has the link holds it.
use Rattle.std.proofs.Common.{inl}
use Rattle.sharer_dir.specs.Kept.{linked_view}
use Rattle.sharer_dir.proofs.Answered.{line_holds, line_is, unused_is_free}
use Rattle.sharer_dir.proofs.linked.LinkedDirSharers.line_of_link.Goals as goal

pub returns-clause-holds : goal.returns-clause-holds
returns-clause-holds c = rw (← c.self.view_is) (line_holds (linked_view c.self.inside.heads.items c.self.inside.links c.self.inside.sets) c.args.link c.home_line.result c.self.invariant.linked c.home_line.ensures.line)

pub returns-clause-free : goal.returns-clause-free
returns-clause-free c = rw (← c.self.view_is) (λ none. inl (unused_is_free (linked_view c.self.inside.heads.items c.self.inside.links c.self.inside.sets) c.args.link c.self.invariant.linked (c.home_line.ensures.free.0 none)))

pub returns-clause-line : goal.returns-clause-line
returns-clause-line c = rw (← c.self.view_is) c.home_line.ensures.line

pub returns-clause-found : goal.returns-clause-found
returns-clause-found c = rw (← c.self.view_is) (line_is c.self.inside.links c.args.link c.home_line.result c.home_line.ensures.line)
