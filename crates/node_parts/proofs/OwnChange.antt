-- What an own step leaves alone, and when it goes on.
use Rattle.std.proofs.Common.{◌≡◌, ◌⊎◌, inl, inr, ℕ, ◌+◌, Bool, true, false, cond, ◌==◌, ◌&&◌, refl, sym, ap, ◌∙◌, subst, Option, Some, None, Result, Ok}
use Rattle.std.proofs.lemmas.Bool.{eqb-true, and_parts, eq-eqb}
use Rattle.line_map.specs.Sizes.{Sizes, home_of}
use Rattle.op_model.specs.declared.events.Class.{Class}
use Rattle.op_model.specs.declared.events.Cause.{Cause}
use Rattle.op_model.specs.declared.events.EvictKind.{EvictKind}
use Rattle.op_model.specs.declared.events.Event.{Event}
use Rattle.op_model.specs.declared.events.Event.TheVariants.{Hit, Issue, Evict, Take, Reclaim}
use Rattle.op_model.specs.declared.messages.Msg.{Msg}
use Rattle.op_model.specs.Messages.{same_class}
use Rattle.op_model.specs.Shares.{Charge}
use Rattle.op_model.specs.Events.Node.{Input, HitNext, IssueNext, EvictLine, TakeFrom, ReclaimLine, NodeOutcome, local}
use Rattle.op_model.specs.MessageWords.{from_words}
use Rattle.op_model.specs.Parts.Part.{Part, ByLane, at_lane, put_lane, Note, taken_from, cleared_from, in_note, notes_full, named, own_room}
use Rattle.op_model.specs.Parts.OwnStep.{after_outcome, part_of, take_named, own_step}
use Rattle.op_model.specs.Parts.Composition.{IsOwnChange}
use Rattle.op_model.proofs.Public.{same_class-is}
use Rattle.node_parts.proofs.Basics.{some_when, went_on}

abbrev Moves : Part → ByLane ℕ → Type 0
Moves p t = (a : ℕ) (c : Class) → (at_lane 0 t a c ≡ taken_from p a c) ⊎ ((at_lane 0 t a c ≡ taken_from p a c + 1) × (taken_from p a c ≡ cleared_from p a c) × (notes_full (in_note p a c) ≡ true))

change_of : (p : Part) (t : ByLane ℕ) (o : NodeOutcome) (q : Part) → after_outcome p t o ≡ q → Moves p t → IsOwnChange p q
change_of p t o q e how =
    let P : Part → Type 0 = λ x. IsOwnChange p x in
    subst P e (record { about = (refl, refl, refl, refl); flushed = refl; cleared = refl; out_notes = refl; in_notes = refl; more = o.sends; sent = refl; taken = how })

named_full : (z : Sizes) (t : Note) (m : Msg) → named z t ≡ Some m → notes_full t ≡ true
named_full z t m e = (some_when (notes_full t) (from_words z t.word t.body) m e).0

module _ (charge : Charge) where
  acts_change : (p : Part) (c : Bool) (i : Input) (q : Part) → cond c (part_of p p.taken (local charge p.sizes p.number p.program p.share i)) None ≡ Some q → IsOwnChange p q
  acts_change p c i q is =
      let (v, w) = some_when c (part_of p p.taken (local charge p.sizes p.number p.program p.share i)) q is in
      let (out, went, same) = went_on p p.taken (local charge p.sizes p.number p.program p.share i) q w in
      change_of p p.taken out q same (λ a c. inl refl)

  taking : (p : Part) (a : ℕ) (c : Class) (victim : Option ℕ) (o : Option Msg) (q : Part) → named p.sizes (in_note p a c) ≡ o → taken_from p a c ≡ cleared_from p a c → take_named charge p a c victim o ≡ Some q → IsOwnChange p q
  taking p a c victim None q note ready e = absurd (let d : ◌≡◌ {A = Option Part} None (Some q) = e in cc)
  taking p a c victim (Some m) q note ready e =
      let t : ByLane ℕ = put_lane p.taken a c (taken_from p a c + 1) in
      let (out, is, same) = went_on p t (local charge p.sizes p.number p.program p.share (TakeFrom a m victim)) q e in
      change_of p t out q same (λ i d. here i d (i == a) (same_class d c) refl refl)
    where
      here : (i : ℕ) (d : Class) (u v : Bool) → (i == a) ≡ u → same_class d c ≡ v
          → (cond (u && v) (taken_from p a c + 1) (taken_from p i d) ≡ taken_from p i d) ⊎ ((cond (u && v) (taken_from p a c + 1) (taken_from p i d) ≡ taken_from p i d + 1) × (taken_from p i d ≡ cleared_from p i d) × (notes_full (in_note p i d) ≡ true))
      here i d true true x y =
          let P : ℕ × Class → Type 0 = λ k. (taken_from p a c + 1 ≡ taken_from p k.0 k.1 + 1) × (taken_from p k.0 k.1 ≡ cleared_from p k.0 k.1) × (notes_full (in_note p k.0 k.1) ≡ true) in
          inr (subst P (λ k. (sym (eqb-true i a x) k, sym (same_class-is d c y) k)) (refl, ready, named_full p.sizes (in_note p a c) m note))
      here i d true false x y = inl refl
      here i d false v x y = inl refl

  pub own_change : (p : Part) (event : Event) (q : Part) → own_step charge p event ≡ Some q → IsOwnChange p q
  unfolding own_step
  own_change p (Hit n) q is = acts_change p (n == p.number) HitNext q is
  own_change p (Issue n) q is = acts_change p (n == p.number) IssueNext q is
  own_change p (Evict n line kind) q is = acts_change p (n == p.number) (EvictLine line kind (own_room p line)) q is
  own_change p (Take a b c victim) q is =
      let (v, w) = some_when ((b == p.number) && (taken_from p a c == cleared_from p a c)) (take_named charge p a c victim (named p.sizes (in_note p a c))) q is in
      let (x, y) = and_parts (b == p.number) (taken_from p a c == cleared_from p a c) v in
      taking p a c victim (named p.sizes (in_note p a c)) q refl (eqb-true (taken_from p a c) (cleared_from p a c) y) w
  own_change p (Reclaim line) q is = acts_change p (home_of p.sizes line == p.number) (ReclaimLine line) q is

  -- that an own step goes on, from what the node does: an event that takes no message
  part_of_ok : (p : Part) (taken : ByLane ℕ) (r : Result NodeOutcome Cause) (out : NodeOutcome) → r ≡ Ok out → part_of p taken r ≡ Some (after_outcome p taken out)
  part_of_ok p taken r out e = ap (part_of p taken) e

  pub own_hit : (p : Part) (out : NodeOutcome) → local charge p.sizes p.number p.program p.share HitNext ≡ Ok out → own_step charge p (Hit p.number) ≡ Some (after_outcome p p.taken out)
  unfolding own_step
  own_hit p out goes = ap (λ v. cond v (part_of p p.taken (local charge p.sizes p.number p.program p.share HitNext)) None) (eq-eqb p.number p.number refl) ∙ part_of_ok p p.taken _ out goes

  pub own_issue : (p : Part) (out : NodeOutcome) → local charge p.sizes p.number p.program p.share IssueNext ≡ Ok out → own_step charge p (Issue p.number) ≡ Some (after_outcome p p.taken out)
  unfolding own_step
  own_issue p out goes = ap (λ v. cond v (part_of p p.taken (local charge p.sizes p.number p.program p.share IssueNext)) None) (eq-eqb p.number p.number refl) ∙ part_of_ok p p.taken _ out goes

  pub own_evict : (p : Part) (line : ℕ) (kind : EvictKind) (out : NodeOutcome) → local charge p.sizes p.number p.program p.share (EvictLine line kind (own_room p line)) ≡ Ok out → own_step charge p (Evict p.number line kind) ≡ Some (after_outcome p p.taken out)
  unfolding own_step
  own_evict p line kind out goes = ap (λ v. cond v (part_of p p.taken (local charge p.sizes p.number p.program p.share (EvictLine line kind (own_room p line)))) None) (eq-eqb p.number p.number refl) ∙ part_of_ok p p.taken _ out goes

  pub own_reclaim : (p : Part) (line : ℕ) (out : NodeOutcome) → home_of p.sizes line ≡ p.number → local charge p.sizes p.number p.program p.share (ReclaimLine line) ≡ Ok out → own_step charge p (Reclaim line) ≡ Some (after_outcome p p.taken out)
  unfolding own_step
  own_reclaim p line out home goes = ap (λ v. cond v (part_of p p.taken (local charge p.sizes p.number p.program p.share (ReclaimLine line))) None) (eq-eqb (home_of p.sizes line) p.number home) ∙ part_of_ok p p.taken _ out goes

  -- a Take of the message that the standing note names
  pub own_take : (p : Part) (from : ℕ) (class : Class) (victim : Option ℕ) (message : Msg) (out : NodeOutcome) → taken_from p from class ≡ cleared_from p from class → named p.sizes (in_note p from class) ≡ Some message →
      local charge p.sizes p.number p.program p.share (TakeFrom from message victim) ≡ Ok out → own_step charge p (Take from p.number class victim) ≡ Some (after_outcome p (put_lane p.taken from class (taken_from p from class + 1)) out)
  unfolding own_step
  own_take p from class victim message out ready note goes =
      let x : Option Part = take_named charge p from class victim (named p.sizes (in_note p from class)) in
      ap (λ v. cond v x None) (λ k. eq-eqb p.number p.number refl k && eq-eqb (taken_from p from class) (cleared_from p from class) ready k)
      ∙ (ap (take_named charge p from class victim) note ∙ part_of_ok p (put_lane p.taken from class (taken_from p from class + 1)) _ out goes)
