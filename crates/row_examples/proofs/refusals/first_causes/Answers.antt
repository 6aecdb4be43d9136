-- The first cause computes, but for what the finite maps and sets of a share answer.
use Rattle.std.proofs.Common.{[], ◌∷◌, false, refl, ap}
use Rattle.op_model.specs.declared.events.EvictKind.TheVariants as way
use Rattle.op_model.specs.Nodes.{listings}
use Rattle.op_model.specs.Lines.{Shared}
use Rattle.op_model.specs.Tables.Processor.{begin_op, begin_at_home, evict, reclaim}
use Rattle.op_model.specs.Shares.{copy_of, header_of, header_in}
use Rattle.op_model.specs.Events.Node.{local}
use Rattle.row_examples.specs.Machines.{machine, share_with}
use Rattle.row_examples.proofs.Maps.{maps}
use Rattle.row_examples.proofs.Evictions.{evict_of, copy-0}
use Rattle.row_examples.proofs.refusals.first_causes.Goals as goal

pub returns-clause-outstanding : goal.returns-clause-outstanding
unfolding local
returns-clause-outstanding c = refl

pub returns-clause-hit_first : goal.returns-clause-hit_first
unfolding local copy_of header_in begin_op begin_at_home
returns-clause-hit_first c = simp maps refl

pub returns-clause-conflict : goal.returns-clause-conflict
unfolding local copy_of header_in begin_op begin_at_home
returns-clause-conflict c = simp maps refl

pub returns-clause-held_pending : goal.returns-clause-held_pending
unfolding local copy_of header_in begin_op begin_at_home
returns-clause-held_pending c = simp maps refl

pub returns-clause-wrong_kind : goal.returns-clause-wrong_kind
unfolding local evict
returns-clause-wrong_kind c = ap (evict_of (machine 2 1 1 1 1 1 1) 1 (share_with 0 ((0, Shared (0 ∷ [])) ∷ []) []) 0 way.Wb false) (copy-0 (Shared (0 ∷ [])))

pub returns-clause-no_links : goal.returns-clause-no_links
unfolding local header_in reclaim
returns-clause-no_links c = simp (listings, maps) refl

pub returns-clause-line_pending : goal.returns-clause-line_pending
unfolding local header_in reclaim
returns-clause-line_pending c = simp (listings, maps) refl
