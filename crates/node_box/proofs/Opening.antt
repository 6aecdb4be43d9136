-- The box of a node that has done nothing.
use Rattle.std.proofs.Common.{◌≡◌, ℕ, zero, suc, ◌+◌, false, [], length, drop, refl, sym, ap, ◌∙◌, subst, arith, replicate}
use Rattle.std.specs.Prelude.{slice_index_or}
use Rattle.std.proofs.lemmas.List.Elements.{All-nil}
use Rattle.line_map.specs.Sizes.{Sizes}
use Rattle.op_model.specs.declared.events.Numbered.{Numbered}
use Rattle.op_model.specs.declared.events.Class.{Class}
use Rattle.op_model.specs.declared.events.Class.TheVariants.{Request}
use Rattle.op_model.specs.Events.Step.{to_lane, event_node}
use Rattle.op_model.specs.Programs.{IsProgramOf}
use Rattle.op_model.specs.Parts.Part.{Part, at_lane, sent_to, flushed_to, taken_from, cleared_from, last_departs}
use Rattle.out_space.specs.Boxes.{empty_box, waiting, waiting-empty_box}
use Rattle.lane_table.specs.Views.{TableView, IsSeatOf}
use Rattle.node_box.specs.Boxes.{LinkedNode, BoxView, node_of, IsOwnLog, IsBox}

none_there : (n i : ℕ) → slice_index_or (replicate n false) i false ≡ false
none_there zero i = refl
none_there (suc n) zero = refl
none_there (suc n) (suc i) = none_there n i

pub new_box : (table : TableView) (new : BoxView) (cfg : Sizes) → IsSeatOf table new.seat → cfg ≡ new.node.sizes → new.node ≡ node_of new.seat.part new.node.dir → IsProgramOf new.node.sizes new.node.number new.node.program
    → new.seat.part.sent ≡ [] → new.seat.part.flushed ≡ [] → new.seat.part.log ≡ []
    → ((src : ℕ) (class : Class) → taken_from new.seat.part src class ≡ cleared_from new.seat.part src class)
    → new.out ≡ empty_box cfg → new.departed ≡ replicate cfg.nodes false → new.sends ≡ record { list = []; room = cfg.nodes + 1 } → new.log.entries ≡ [] → length new.departed ≡ cfg.nodes → IsBox table new
new_box table new cfg seat machine node program sent flushed unlogged ready out departed sends log places =
    let p : Part = new.seat.part in
    let same : cfg ≡ p.sizes = machine ∙ ap (λ (n : LinkedNode). n.sizes) node in
    let sents : (b : ℕ) (c : Class) → sent_to p b c ≡ [] = λ b c. ap (to_lane b c) sent in
    let flusheds : (b : ℕ) (c : Class) → flushed_to p b c ≡ 0 = λ b c. ap (λ f. at_lane 0 f b c) flushed in
    record {
      seat = seat;
      program = subst (λ (n : LinkedNode). IsProgramOf n.sizes n.number n.program) node program;
      node = node;
      log = log ∙ sym unlogged;
      sends = sends ∙ (λ i. record { list = []; room = (same i).nodes + 1 });
      machine = ap (λ x. x.sizes) out ∙ same;
      out = λ b c. ap (λ x. waiting x b c) out ∙ (waiting-empty_box cfg b c ∙ sym (λ i. drop (flusheds b c i) (sents b c i)));
      within = λ b c. let f = flusheds b c in omega (arith, f);
      last = λ b near. ap (λ l. slice_index_or l b false) departed ∙ (none_there cfg.nodes b ∙ sym (λ i. last_departs (flusheds b Request i) (sents b Request i)));
      places = places ∙ ap (λ (z : Sizes). z.nodes) same;
      ready = ready;
      own = subst (IsOwnLog p.sizes p.number) (sym log) (All-nil (λ (e : Numbered). event_node p.sizes e.event ≡ p.number));
    }
