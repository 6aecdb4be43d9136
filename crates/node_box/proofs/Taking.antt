-- A box after a message was taken and its cell cleared.
use Rattle.std.proofs.Common.{◌≡◌, ℕ, ◌+◌, cond, refl, sym, ap, ◌∙◌, subst, Option, Some, Ok, ◌==◌, ◌&&◌}
use Rattle.std.specs.Prelude.{IfSome}
use Rattle.op_model.specs.declared.events.Class.{Class}
use Rattle.op_model.specs.declared.events.Event.TheVariants.{Take}
use Rattle.op_model.specs.declared.events.Numbered.{Numbered}
use Rattle.op_model.specs.declared.messages.Msg.{Msg}
use Rattle.op_model.specs.Messages.{same_class}
use Rattle.op_model.specs.Shares.{Linked}
use Rattle.op_model.specs.Events.Node.{NodeOutcome, TakeFrom}
use Rattle.op_model.specs.Parts.Part.{Part, ByLane, at_lane, put_lane, logged, taken_from, cleared_from, in_note, named}
use Rattle.op_model.specs.Parts.OwnStep.{after_outcome, own_step}
use Rattle.node_parts.proofs.Public.{own_take}
use Rattle.sharer_dir.specs.Linked.{LinkedView}
use Rattle.lane_table.specs.Steps.{freed}
use Rattle.lane_table.proofs.Public.{at_here, drew}
use Rattle.node_box.specs.Boxes.{LinkedNode, node_of, outcome_at}
use Rattle.node_box.proofs.Acting.{IsAfter, own_number}

-- the part after the event
abbrev pub after_take : Part → ℕ → Class → NodeOutcome → Part
after_take p src class out = after_outcome p (put_lane p.taken src class (taken_from p src class + 1)) out

module _ (p : Part) (node : LinkedNode) (dir : LinkedView) (is : node ≡ node_of p dir) (number : ℕ) (me : number ≡ node.number) (src : ℕ) (class : Class) (victim : Option ℕ) (m : Msg) (out : NodeOutcome) where
  pub goes_take : taken_from p src class ≡ cleared_from p src class → named p.sizes (in_note p src class) ≡ Some m → outcome_at node (TakeFrom src m victim) ≡ Ok out
      → own_step Linked p (Take src number class victim) ≡ Some (after_take p src class out)
  goes_take ready found does =
      ap (λ n. own_step Linked p (Take src n class victim)) (own_number p node dir is number me)
      ∙ own_take Linked p src class victim m out ready found (ap (λ n. outcome_at n (TakeFrom src m victim)) (sym is) ∙ does)

  -- the part right after the ticket
  pub after_taken : (q : Part) (ticket : ℕ) → taken_from p src class ≡ cleared_from p src class → named p.sizes (in_note p src class) ≡ Some m → outcome_at node (TakeFrom src m victim) ≡ Ok out
      → IfSome (own_step Linked p (Take src number class victim)) (λ after. q ≡ logged after (record { ticket = ticket; event = Take src number class victim }))
      → q ≡ logged (after_take p src class out) (record { ticket = ticket; event = Take src p.number class victim })
  after_taken q ticket ready found does told =
      drew (own_step Linked p (Take src number class victim)) (after_take p src class out) q (record { ticket = ticket; event = Take src number class victim }) (goes_take ready found does) told
      ∙ ap (λ n. logged (after_take p src class out) (record { ticket = ticket; event = Take src n class victim })) (own_number p node dir is number me)

pub one_ahead : (p q : Part) (src : ℕ) (class : Class) (out : NodeOutcome) (entry : Numbered) → q ≡ logged (after_take p src class out) entry → taken_from p src class ≡ cleared_from p src class → taken_from q src class ≡ cleared_from q src class + 1
one_ahead p q src class out entry is ready =
    let P : Part → Type 0 = λ x. taken_from x src class ≡ cleared_from x src class + 1 in
    subst P (sym is) (at_here 0 p.taken src class (taken_from p src class + 1) ∙ ap (λ n. n + 1) ready)

both_put : (xs ys : ByLane ℕ) (a : ℕ) (c : Class) (m n : ℕ) → m ≡ n → (i : ℕ) (d : Class) → at_lane 0 xs i d ≡ at_lane 0 ys i d → at_lane 0 (put_lane xs a c m) i d ≡ at_lane 0 (put_lane ys a c n) i d
both_put xs ys a c m n e i d f = λ k. cond ((i == a) && same_class d c) (e k) (f k)

cleared_after : (p : Part) (src : ℕ) (class : Class) (out : NodeOutcome) (entry : Numbered) → IsAfter p (freed (logged (after_take p src class out) entry) src class) out entry
cleared_after p src class out entry = record { number = refl; machine = refl; program = refl; share = refl; sent = refl; flushed = refl; log = refl }

pub taken_after : (p q r : Part) (src : ℕ) (class : Class) (out : NodeOutcome) (entry : Numbered) → q ≡ logged (after_take p src class out) entry → r ≡ freed q src class → IsAfter p r out entry
taken_after p q r src class out entry is clear = let P : Part → Type 0 = λ x. IsAfter p x out entry in subst P (sym (clear ∙ ap (λ x. freed x src class) is)) (cleared_after p src class out entry)

pub taken_ready : (p q r : Part) (src : ℕ) (class : Class) (out : NodeOutcome) (entry : Numbered) → q ≡ logged (after_take p src class out) entry → r ≡ freed q src class
    → ((a : ℕ) (c : Class) → taken_from p a c ≡ cleared_from p a c) → (a : ℕ) (c : Class) → taken_from r a c ≡ cleared_from r a c
taken_ready p q r src class out entry is clear ready =
    let P : Part → Type 0 = λ x. (a : ℕ) (c : Class) → taken_from x a c ≡ cleared_from x a c in
    subst P (sym (clear ∙ ap (λ x. freed x src class) is))
    (λ a c. both_put p.taken p.cleared src class (taken_from p src class + 1) (cleared_from p src class + 1) (ap (λ m. m + 1) (ready src class)) a c (ready a c))
