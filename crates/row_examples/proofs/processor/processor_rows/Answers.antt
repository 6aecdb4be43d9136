-- Each row computes, but for what the laws of finite sets and maps say: how many nodes are listed and in which order, and what a
-- whole share of a node answers for one line.
use Rattle.std.proofs.Common.{[], ◌∷◌, false, refl, ap, ◌∙◌}
use Rattle.op_model.specs.declared.events.EvictKind.TheVariants as way
use Rattle.op_model.specs.Nodes.{listings}
use Rattle.op_model.specs.Operations.{after_op}
use Rattle.op_model.specs.Lines.{Shared}
use Rattle.op_model.specs.Tables.Processor.{hit, ask, begin_at_home, begin_op, evict, reclaim}
use Rattle.op_model.specs.Shares.{copy_of, header_of, put_share, header_in}
use Rattle.op_model.specs.Events.Node.{local}
use Rattle.row_examples.specs.Machines.{machine, share_with}
use Rattle.row_examples.proofs.Sets.{orders}
use Rattle.row_examples.proofs.Maps.{maps, put-put, remove-empty, remove-1-of-0, remove-put}
use Rattle.row_examples.proofs.Evictions.{evict_of, copy-1}
use Rattle.row_examples.proofs.processor.processor_rows.Goals as goal

pub returns-clause-p1_sets : goal.returns-clause-p1_sets
unfolding local copy_of put_share begin_op ask
returns-clause-p1_sets c = simp (maps, remove-1-of-0) refl

pub returns-clause-p1_node : goal.returns-clause-p1_node
unfolding local copy_of put_share begin_op ask
returns-clause-p1_node c = simp (maps, remove-empty) refl

pub returns-clause-p4_node : goal.returns-clause-p4_node
unfolding local copy_of header_in put_share begin_op begin_at_home after_op
returns-clause-p4_node c = simp (listings, maps) refl

pub returns-clause-hit_next : goal.returns-clause-hit_next
unfolding local hit copy_of header_in put_share after_op
returns-clause-hit_next c = simp (maps, put-put) refl

pub returns-clause-p11_gate : goal.returns-clause-p11_gate
unfolding local put_share evict
returns-clause-p11_gate c = ap (evict_of (machine 2 2 1 1 2 1 1) 1 (share_with 0 ((1, Shared (0 ∷ [])) ∷ []) []) 1 way.Silent false) (copy-1 (Shared (0 ∷ []))) ∙ simp (remove-put, remove-empty) refl

pub returns-clause-hit_add : goal.returns-clause-hit_add
unfolding hit after_op
returns-clause-hit_add c = refl

pub returns-clause-hit_load : goal.returns-clause-hit_load
unfolding hit
returns-clause-hit_load c = refl

pub returns-clause-p1 : goal.returns-clause-p1
unfolding begin_op ask
returns-clause-p1 c = refl

pub returns-clause-p2 : goal.returns-clause-p2
unfolding begin_op ask
returns-clause-p2 c = refl

pub returns-clause-p3 : goal.returns-clause-p3
unfolding begin_op begin_at_home
returns-clause-p3 c = refl

pub returns-clause-p4 : goal.returns-clause-p4
unfolding begin_op begin_at_home after_op
returns-clause-p4 c = simp listings refl

pub returns-clause-p5 : goal.returns-clause-p5
unfolding begin_op begin_at_home
returns-clause-p5 c = simp (listings, orders) refl

pub returns-clause-p5_copy : goal.returns-clause-p5_copy
unfolding begin_op begin_at_home
returns-clause-p5_copy c = simp (listings, orders) refl

pub returns-clause-p6 : goal.returns-clause-p6
unfolding begin_op begin_at_home
returns-clause-p6 c = simp orders refl

pub returns-clause-p7 : goal.returns-clause-p7
unfolding begin_op begin_at_home
returns-clause-p7 c = simp orders refl

pub returns-clause-p8 : goal.returns-clause-p8
unfolding evict
returns-clause-p8 c = refl

pub returns-clause-p9 : goal.returns-clause-p9
unfolding evict
returns-clause-p9 c = refl

pub returns-clause-p10 : goal.returns-clause-p10
unfolding evict
returns-clause-p10 c = refl

pub returns-clause-p11 : goal.returns-clause-p11
unfolding evict
returns-clause-p11 c = refl

pub returns-clause-p12 : goal.returns-clause-p12
unfolding evict
returns-clause-p12 c = refl

pub returns-clause-reclaimed : goal.returns-clause-reclaimed
unfolding reclaim
returns-clause-reclaimed c = simp (listings, orders) refl

pub returns-clause-reclaimed_copy : goal.returns-clause-reclaimed_copy
unfolding reclaim
returns-clause-reclaimed_copy c = simp (listings, orders) refl
