-- Ages of a line through an event of the node by itself.
use Rattle.std.proofs.Common.{◌≡◌, ℕ, ◌≤◌, Bool, true, false, cond, ◌==◌, ◌&&◌, List, slice_get, is_some, refl, sym, ap, ◌∙◌, Option, Some, None, Ok}
use Rattle.line_map.specs.Sizes.{Sizes, home_of}
use Rattle.op_model.specs.declared.operations.Op.{Op}
use Rattle.op_model.specs.Lines.{LineShare, Outcome, is_exclusive}
use Rattle.op_model.specs.Operations.{Words}
use Rattle.op_model.specs.Shares.{Share, line_share}
use Rattle.op_model.specs.Events.Node.{IssueNext, NodeOutcome, with_next}
use Rattle.line_invariant.proofs.Public.{if-either}
use Rattle.eager_model.specs.Ages.{LineAges, filled_age}
use Rattle.eager_model.specs.Node.{ages_by, issue_next, local, row_done}
use Rattle.cpu_cache.specs.Effects.{done_of, entry_at}
use Rattle.magic_node.specs.declared.acts.LocalEvent.{LocalEvent}
use Rattle.magic_node.specs.declared.acts.LocalEvent.TheVariants.{Hit, Issue, Evict, Reclaim}
use Rattle.magic_node.specs.Nodes.{input_of}
use Rattle.eager_home.specs.Aged.{ages_after, ages_before, line_named}

-- the definition's ages, in two halves
pub by-halves : (sizes : Sizes) (node : ℕ) (program : List Op) (old : Share) (event : LocalEvent) (gate : Bool) (age : ℕ) (o : NodeOutcome) (pair : LineAges) →
    ages_after event (row_done sizes o) (ages_before event (node == home_of sizes (line_named sizes program old.place (input_of event gate))) (line_share sizes old (line_named sizes program old.place (input_of event gate))) pair) ≡ ages_by sizes node old (input_of event gate) age o pair
by-halves sizes node program old Hit gate age o pair = refl
by-halves sizes node program old Issue gate age o pair = refl
by-halves sizes node program old (Evict line kind) gate age o pair = refl
by-halves sizes node program old (Reclaim line) gate age o pair = refl

-- elsewhere than at its home memory keeps its age
pub memory-away : (event : LocalEvent) (at_home : Bool) (share : LineShare) (row : Outcome) (pair : LineAges) → at_home ≡ false → (ages_after event row (ages_before event at_home share pair)).memory ≡ pair.memory
memory-away Hit at_home share row pair off = refl
memory-away Issue at_home share row pair off = by row.done
  where
    by : (b : Bool) → (cond b (record pair { copy = filled_age row.share.copy pair.memory }) pair).memory ≡ pair.memory
    by true = refl
    by false = refl
memory-away (Evict line kind) at_home share row pair off = ap (λ h. (cond (h && is_exclusive share.copy) (record pair { memory = pair.copy }) pair).memory) off
memory-away (Reclaim line) at_home share row pair off = refl

pub settled-within : (bound : ℕ) (event : LocalEvent) (at_home : Bool) (share : LineShare) (pair : LineAges) → pair.copy ≤ bound → pair.memory ≤ bound → (ages_before event at_home share pair).memory ≤ bound
settled-within bound Hit at_home share pair c m = m
settled-within bound Issue at_home share pair c m = m
settled-within bound (Evict line kind) at_home share pair c m = if-either (λ (r : LineAges). r.memory ≤ bound) (at_home && is_exclusive share.copy) _ _ (λ _. c) (λ _. m)
settled-within bound (Reclaim line) at_home share pair c m = m

-- an issue tells of an operation exactly where it does one
pub done-told : (sizes : Sizes) (node place : ℕ) (program : List Op) (old : Share) (o : NodeOutcome) (words : Words) → old.place ≡ place → local sizes node program old IssueNext ≡ Ok o → o.done ≡ is_some (done_of node program place o.done words)
unfolding local
done-told sizes node place program old o words at is = by (slice_get program place) (ap (λ p. with_next old (slice_get program p) (issue_next sizes node old)) (sym at) ∙ is)
  where
    told : (op : Op) (b : Bool) → b ≡ is_some (cond b (entry_at node place words (Some op)) None)
    told op true = refl
    told op false = refl

    by : (n : Option Op) → with_next old n (issue_next sizes node old) ≡ Ok o → o.done ≡ is_some (cond o.done (entry_at node place words n) None)
    by None e = cc
    by (Some op) e = told op o.done
