-- Each cause computes, but for what the finite maps and sets of a share answer.
use Rattle.std.proofs.Common.{[], ◌∷◌, true, false, refl, ap}
use Rattle.op_model.specs.declared.events.EvictKind.TheVariants as way
use Rattle.op_model.specs.Nodes.{listings}
use Rattle.op_model.specs.Lines.{Shared, Exclusive}
use Rattle.op_model.specs.Tables.Processor.{begin_op, begin_at_home, evict, reclaim}
use Rattle.op_model.specs.Tables.Home.{wants_victim}
use Rattle.op_model.specs.Tables.Remote.{meets}
use Rattle.op_model.specs.Shares.{copy_of, header_of, header_in}
use Rattle.op_model.specs.Events.Node.{meets_row, local}
use Rattle.op_model.specs.Events.Step.{act, none_off}
use Rattle.row_examples.specs.Machines.{machine, share_with}
use Rattle.row_examples.proofs.Maps.{maps}
use Rattle.row_examples.proofs.Evictions.{evict_of, copy-none, copy-0, copy-1}
use Rattle.row_examples.proofs.refusals.causes.Goals as goal

pub returns-clause-no_op : goal.returns-clause-no_op
unfolding local
returns-clause-no_op c = refl

pub returns-clause-no_op_issue : goal.returns-clause-no_op_issue
unfolding local
returns-clause-no_op_issue c = refl

pub returns-clause-outstanding : goal.returns-clause-outstanding
unfolding local
returns-clause-outstanding c = refl

pub returns-clause-miss : goal.returns-clause-miss
unfolding local copy_of
returns-clause-miss c = simp maps refl

pub returns-clause-miss_store : goal.returns-clause-miss_store
unfolding local copy_of
returns-clause-miss_store c = simp maps refl

pub returns-clause-hit_first : goal.returns-clause-hit_first
unfolding local copy_of header_in begin_op begin_at_home
returns-clause-hit_first c = simp maps refl

pub returns-clause-conflict : goal.returns-clause-conflict
unfolding local copy_of header_in begin_op begin_at_home
returns-clause-conflict c = simp maps refl

pub returns-clause-held_pending : goal.returns-clause-held_pending
unfolding local copy_of header_in begin_op begin_at_home
returns-clause-held_pending c = simp maps refl

pub returns-clause-held_budget : goal.returns-clause-held_budget
unfolding local copy_of header_in begin_op begin_at_home
returns-clause-held_budget c = simp maps refl

pub returns-clause-no_copy : goal.returns-clause-no_copy
unfolding local evict
returns-clause-no_copy c = ap (evict_of (machine 2 1 1 1 1 1 1) 1 (share_with 0 [] []) 0 way.Silent true) copy-none

pub returns-clause-wrong_kind_wb : goal.returns-clause-wrong_kind_wb
unfolding local evict
returns-clause-wrong_kind_wb c = ap (evict_of (machine 2 1 1 1 1 1 1) 1 (share_with 0 ((0, Shared (0 ∷ [])) ∷ []) []) 0 way.Wb true) (copy-0 (Shared (0 ∷ [])))

pub returns-clause-wrong_kind_hint : goal.returns-clause-wrong_kind_hint
unfolding local evict
returns-clause-wrong_kind_hint c = ap (evict_of (machine 2 1 1 1 1 1 1) 1 (share_with 0 ((0, Exclusive (4 ∷ [])) ∷ []) []) 0 way.Hint true) (copy-0 (Exclusive (4 ∷ [])))

pub returns-clause-wrong_kind_silent : goal.returns-clause-wrong_kind_silent
unfolding local evict
returns-clause-wrong_kind_silent c = ap (evict_of (machine 2 1 1 1 1 1 1) 1 (share_with 0 ((0, Exclusive (4 ∷ [])) ∷ []) []) 0 way.Silent true) (copy-0 (Exclusive (4 ∷ [])))

pub returns-clause-wrong_kind_home : goal.returns-clause-wrong_kind_home
unfolding local evict
returns-clause-wrong_kind_home c = ap (evict_of (machine 2 1 1 1 1 1 1) 0 (share_with 0 ((0, Shared (0 ∷ [])) ∷ []) []) 0 way.Hint true) (copy-0 (Shared (0 ∷ [])))

pub returns-clause-lane_gate : goal.returns-clause-lane_gate
unfolding local evict
returns-clause-lane_gate c = ap (λ copy. act 1 none_off (evict_of (machine 2 2 1 1 2 1 1) 1 (share_with 0 ((1, Shared (0 ∷ [])) ∷ []) []) 1 way.Hint false copy)) (copy-1 (Shared (0 ∷ [])))

pub returns-clause-lane_empty : goal.returns-clause-lane_empty
returns-clause-lane_empty c = refl

pub returns-clause-victim_missing : goal.returns-clause-victim_missing
unfolding local copy_of header_in meets_row meets wants_victim
returns-clause-victim_missing c = simp (listings, maps) refl

pub returns-clause-victim_unfit : goal.returns-clause-victim_unfit
unfolding local copy_of header_in meets_row meets wants_victim
returns-clause-victim_unfit c = simp (listings, maps) refl

pub returns-clause-victim_elsewhere : goal.returns-clause-victim_elsewhere
unfolding local copy_of header_in meets_row meets wants_victim
returns-clause-victim_elsewhere c = simp (listings, maps) refl

pub returns-clause-victim_unasked : goal.returns-clause-victim_unasked
unfolding local copy_of header_in meets_row meets wants_victim
returns-clause-victim_unasked c = simp (listings, maps) refl

pub returns-clause-held_budget_store : goal.returns-clause-held_budget_store
unfolding local copy_of header_in begin_op begin_at_home
returns-clause-held_budget_store c = simp (listings, maps) refl

pub returns-clause-held_budget_owned : goal.returns-clause-held_budget_owned
unfolding local copy_of header_in begin_op begin_at_home
returns-clause-held_budget_owned c = simp maps refl

pub returns-clause-victim_for_store : goal.returns-clause-victim_for_store
unfolding local copy_of header_in meets_row meets wants_victim
returns-clause-victim_for_store c = simp maps refl

pub returns-clause-victim_pending : goal.returns-clause-victim_pending
unfolding local copy_of header_in meets_row meets wants_victim
returns-clause-victim_pending c = simp maps refl

pub returns-clause-victim_held : goal.returns-clause-victim_held
unfolding local copy_of header_in meets_row meets wants_victim
returns-clause-victim_held c = simp (listings, maps) refl

pub returns-clause-victim_full : goal.returns-clause-victim_full
unfolding local copy_of header_in meets_row meets wants_victim
returns-clause-victim_full c = simp (listings, maps) refl

pub returns-clause-victim_unlinked : goal.returns-clause-victim_unlinked
unfolding local copy_of header_in meets_row meets wants_victim
returns-clause-victim_unlinked c = simp maps refl

pub returns-clause-no_links_unlinked : goal.returns-clause-no_links_unlinked
unfolding local reclaim
returns-clause-no_links_unlinked c = refl

pub returns-clause-no_links : goal.returns-clause-no_links
unfolding local header_in reclaim
returns-clause-no_links c = simp (listings, maps) refl

pub returns-clause-no_links_one : goal.returns-clause-no_links_one
unfolding local header_in reclaim
returns-clause-no_links_one c = simp (listings, maps) refl

pub returns-clause-line_pending : goal.returns-clause-line_pending
unfolding local header_in reclaim
returns-clause-line_pending c = simp (listings, maps) refl

pub returns-clause-budget_full : goal.returns-clause-budget_full
unfolding local header_in reclaim
returns-clause-budget_full c = simp (listings, maps) refl
