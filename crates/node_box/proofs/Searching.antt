-- Lanes are looked at one after another, and what a turn of a controller says of the lanes.
use Rattle.std.proofs.Common.{⊎_elim, ◌≡◌, ℕ, ◌+◌, ◌*◌, ◌<◌, refl, ap, ◌∙◌, arith, Option, Some, None}
use Rattle.std.specs.Prelude.{IfSome, IfNone, IsNone}
use Rattle.op_model.specs.declared.events.Class.{Class}
use Rattle.op_model.specs.declared.events.Class.TheVariants.{Request, Reply}
use Rattle.op_model.specs.Parts.Part.{Part, at_lane, no_note, in_note}
use Rattle.node_box.specs.Boxes.{BoxView}
use Rattle.node_box.specs.Lanes.{OnlyLooks, AreEmpty, AreFlushed, lane_place}
use Rattle.node_box.specs.Turns.{TakesOne, Reclaims, Controls, IsIdle, AreServed, AreFoundEmpty}
use Rattle.node_box.proofs.Serving.{served_by}

-- no lane was looked at yet
pub empty_none : (box : BoxView) (place : ℕ) → AreEmpty box box place place
empty_none box place =
    record {
      only = record { notes = box.seat.part.in_notes; part = refl; box = refl };
      empty = λ src class from to. absurd (omega (arith, from, to));
      rest = λ src class out. refl;
    }

pub looks_on : (old mid new : BoxView) → OnlyLooks old mid → OnlyLooks mid new → OnlyLooks old new
looks_on old mid new h k =
    record {
      notes = k.notes;
      part = k.part ∙ ap {A = Part} {B = Part} (λ p. record p { in_notes = k.notes }) h.part;
      box = k.box ∙ ap {A = BoxView} {B = BoxView} (λ b. record b { seat = new.seat }) h.box;
    }

pub takes_later : (old mid new : BoxView) (link ticket : ℕ) → OnlyLooks old mid → TakesOne mid new link ticket → TakesOne old new link ticket
takes_later old mid new link ticket h k =
    record { before = k.before; found = k.found; src = k.src; class = k.class; msg = k.msg; victim = k.victim; looks = looks_on old mid k.before h k.looks; finds = k.finds; only = k.only; by_link = k.by_link; takes = k.takes }

pub map_some : (r : Option ℕ) (P Q : ℕ → Type 0) → ((n : ℕ) → P n → Q n) → IfSome r P → IfSome r Q
map_some None P Q f h = tt
map_some (Some n) P Q f h = f n h

pub when_none : (r : Option ℕ) (E X : Type 0) → (IsNone r → E → X) → IfNone r E → IfNone r X
when_none None E X f e = f refl e
when_none (Some n) E X f e = tt

-- what waited was served, whatever came later, if it left the outgoing lanes alone
KeepsOut : Part → Part → Type 0
KeepsOut p q = (q.flushed ≡ p.flushed) × (q.out_notes ≡ p.out_notes)

looks_keep : (old new : BoxView) → OnlyLooks old new → KeepsOut old.seat.part new.seat.part
unfolding KeepsOut
looks_keep old new h = (ap (λ p. p.flushed) h.part, ap (λ p. p.out_notes) h.part)

keeps_on : (p q r : Part) → KeepsOut p q → KeepsOut q r → KeepsOut p r
unfolding KeepsOut
keeps_on p q r h k = (k.0 ∙ h.0, k.1 ∙ h.1)

takes_keep : (old new : BoxView) (link ticket : ℕ) → TakesOne old new link ticket → KeepsOut old.seat.part new.seat.part
unfolding KeepsOut
takes_keep old new link ticket h =
    let looked = keeps_on old.seat.part h.before.seat.part h.found.seat.part (looks_keep old h.before h.looks) (looks_keep h.before h.found h.only) in
    keeps_on old.seat.part h.found.seat.part new.seat.part looked (ap (λ p. p.flushed) h.takes.part, ap (λ p. p.out_notes) h.takes.part)

place_below : (dst nodes : ℕ) (class : Class) → dst < nodes → lane_place dst class < nodes * 2
place_below dst nodes Request below = omega (arith, below)
place_below dst nodes Reply below = omega (arith, below)

served_later : (nodes : ℕ) (old mid new : BoxView) → AreFlushed old mid (nodes * 2) → KeepsOut mid.seat.part new.seat.part → AreServed nodes old new
unfolding KeepsOut
served_later nodes old mid new h k dst class below waits =
    served_by old.seat.part mid.seat.part new.seat.part dst class (ap (λ f. at_lane 0 f dst class) k.0, ap (λ f. at_lane no_note f dst class) k.1) (h.served dst class (place_below dst nodes class below) waits)

pub controls_served : (nodes : ℕ) (old new : BoxView) (link ticket : ℕ) → Controls nodes old new link ticket → AreServed nodes old new
unfolding KeepsOut
controls_served nodes old new link ticket h =
    served_later nodes old h.flushed new h.flushes
    (⊎_elim (λ (t : TakesOne h.flushed new link ticket). takes_keep h.flushed new link ticket t)
    (λ (e : (empty : BoxView) × AreEmpty h.flushed empty 0 (nodes * 2) × Reclaims empty new link ticket).
    keeps_on h.flushed.seat.part e.0.seat.part new.seat.part (looks_keep h.flushed e.0 e.1.only) (ap (λ p. p.flushed) e.2.acts.part, ap (λ p. p.out_notes) e.2.acts.part)) h.does)

pub idle_served : (nodes : ℕ) (old new : BoxView) (link : ℕ) → IsIdle nodes old new link → AreServed nodes old new
idle_served nodes old new link h = served_later nodes old h.flushed new h.flushes (looks_keep h.flushed new h.empty.only)

-- and each incoming lane was found empty
pub idle_empty : (nodes : ℕ) (old new : BoxView) (link : ℕ) → IsIdle nodes old new link → AreFoundEmpty nodes old new
idle_empty nodes old new link h src class below =
    let found = h.empty.empty src class (omega arith) (place_below src nodes class below) in
    let same : in_note h.flushed.seat.part src class ≡ in_note old.seat.part src class = ap (λ p. in_note p src class) h.flushes.only.is in
    (found.0 ∙ ap (λ n. n.loads + 1) same, found.1)
