-- The lists hold the links of the chains, and their nodes are below 64.
use Rattle.sharer_dir.proofs.Directories.{is_directory}
use Rattle.sharer_dir.proofs.linked.LinkedDirSharers.lines.Goals as goal

pub returns-clause-kept : goal.returns-clause-kept
returns-clause-kept c =
    rw (← c.self.view_is) (is_directory _ c.self.invariant.linked (λ m node there. rw c.self.invariant.bound at (c.lines.ensures.kept.below m node there)))

pub returns-clause-sound : goal.returns-clause-sound
returns-clause-sound c = rw (← c.self.view_is) c.self.invariant.linked
