-- A seat with one part, before a step and after it.
use Rattle.std.proofs.Common.{◌≡◌, ℕ, ◌<◌, List, [], ◌∷◌, length, refl, sym, ap, ◌∙◌, subst, arith, Option, Some, None, All}
use Rattle.std.proofs.lemmas.List.Elements.{All-head, All-tail}
use Rattle.atomic_table.specs.Table.{Me}
use Rattle.op_model.specs.declared.events.Event.{Event}
use Rattle.op_model.specs.Shares.{Linked}
use Rattle.op_model.specs.Programs.{programs_of}
use Rattle.op_model.specs.Parts.Part.{Part}
use Rattle.op_model.specs.Parts.OwnStep.{own_step}
use Rattle.node_parts.proofs.Public.{own_change}
use Rattle.lane_table.specs.Rule.{IsPartOf}
use Rattle.lane_table.specs.Steps.{ticketed}
use Rattle.lane_table.specs.Views.{TableView, SeatView, SeatsView, IsSeatOf, AreSeatsOf, first_of, HasOne, heads, tails}

pub one_part : (me : Me (Unit {0}) (List Part)) (x : Part) → me ≡ (x ∷ [], []) → HasOne me
one_part me x e = let P : Me (Unit {0}) (List Part) → Type 0 = λ m. m ≡ (first_of m ∷ [], []) in subst P (sym e) refl

pub one_part_is : (me : Me (Unit {0}) (List Part)) (x : Part) → me ≡ (x ∷ [], []) → first_of me ≡ x
one_part_is me x e = ap (λ (m : Me (Unit {0}) (List Part)). first_of m) e

-- what no step changes of a part
abbrev pub IsSamePart : Part → Part → Type 0
IsSamePart old new = (new.number ≡ old.number) × (new.sizes ≡ old.sizes) × (new.program ≡ old.program)

pub seat_after : (table : TableView) (old new : SeatView) → IsSeatOf table old → new.id ≡ table.id → IsSamePart old.part new.part → IsSeatOf table new
seat_after table old new h id same =
    record {
      id = id;
      number = subst (λ (n : ℕ). n < table.setup.sizes.nodes) (sym same.0) h.number;
      part = record { number = refl; machine = same.1 ∙ h.part.machine; program = same.2 ∙ (h.part.program ∙ ap (programs_of table.setup.programs) (sym same.0)) };
    }

pub ticketed_same : (p : Part) (o : Option Part) (t : ℕ) (e : Event) → own_step Linked p e ≡ o → IsSamePart p (ticketed p o t e)
ticketed_same p None t e is = (refl, refl, refl)
ticketed_same p (Some q) t e is = let about = (own_change Linked p e q is).about in (about.0, about.1, about.2)

-- the first part is cut off
pub cut_parts : (w : List Part) (me mine : Me (Unit {0}) (List Part)) → 0 < length w → me.0 ≡ tails w → mine ≡ (heads w, []) → w ≡ first_of mine ∷ me.0
cut_parts [] me mine some rest first = absurd (omega arith)
cut_parts (p ∷ w) me mine some rest first = λ k. sym (one_part_is mine p first) k ∷ sym rest k

pub first_seat : (table : TableView) (seats : SeatsView) (seat : SeatView) (rest : List Part) → AreSeatsOf table seats → seats.parts ≡ seat.part ∷ rest → seat.id ≡ table.id → IsSeatOf table seat
first_seat table seats seat rest h e id =
    let P : Part → Type 0 = λ part. (part.number < table.setup.sizes.nodes) × IsPartOf table.setup part.number part in
    let mine = All-head P seat.part rest (subst (All P) e h.parts) in
    record { id = id; number = mine.0; part = mine.1 }

pub rest_seats : (table : TableView) (seats next : SeatsView) (first : Part) → AreSeatsOf table seats → seats.parts ≡ first ∷ next.parts → next.id ≡ table.id → AreSeatsOf table next
rest_seats table seats next first h e id =
    let P : Part → Type 0 = λ part. (part.number < table.setup.sizes.nodes) × IsPartOf table.setup part.number part in
    record { id = id; parts = All-tail P first next.parts (subst (All P) e h.parts) }
