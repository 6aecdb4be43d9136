-- Lanes are flushed one after another.
use Rattle.std.proofs.Common.{⊎_elim, ◌≡◌, ◌≢◌, ◌⊎◌, inl, inr, ℕ, ◌+◌, ◌<◌, ◌≤◌, [], drop, refl, sym, ap, ◌∙◌, subst, arith, true, zero, suc}
use Rattle.op_model.specs.declared.events.Class.{Class}
use Rattle.op_model.specs.declared.events.Class.TheVariants.{Request, Reply}
use Rattle.op_model.specs.Parts.Part.{Part, Note, no_note, at_lane, put_lane, sent_to, flushed_to, out_note}
use Rattle.lane_table.specs.Calls.{IsOtherLane, Flushes, FlushesNone}
use Rattle.lane_table.specs.Told.{unflushed}
use Rattle.lane_table.proofs.Public.{at_else, at_here}
use Rattle.node_box.specs.Boxes.{BoxView}
use Rattle.node_box.specs.Events.{FlushesLane}
use Rattle.node_box.specs.Lanes.{lane_place, IsLaneServed, OnlyFlushes, AreFlushed}

pub split : (a b : ℕ) → (a ≤ b) ⊎ (b < a)
split zero b = inl (omega arith)
split (suc a) zero = inr (omega arith)
split (suc a) (suc b) = ⊎_elim (λ (le : a ≤ b). inl (omega (arith, le))) (λ (lt : b < a). inr (omega (arith, lt))) (split a b)

-- a place is that of one lane
pub one_lane : (j : ℕ) (d : Class) (b : ℕ) (c : Class) → lane_place j d ≡ lane_place b c → (j ≡ b) × (d ≡ c)
one_lane j Request b Request is = (omega (arith, is), refl)
one_lane j Request b Reply is = absurd (omega (arith, is))
one_lane j Reply b Request is = absurd (omega (arith, is))
one_lane j Reply b Reply is = (omega (arith, is), refl)

pub other_lane : (j : ℕ) (d : Class) (b : ℕ) (c : Class) → lane_place j d ≢ lane_place b c → IsOtherLane b c j d
other_lane j d b c apart = λ same. apart (λ i. lane_place (same.0 i) (same.1 i))

-- one flush leaves the other lanes alone
flushed_elsewhere : (p q : Part) (b : ℕ) (c : Class) → Flushes p q b c ⊎ FlushesNone p q b c → (j : ℕ) (d : Class) → IsOtherLane b c j d → (flushed_to q j d ≡ flushed_to p j d) × (out_note q j d ≡ out_note p j d)
flushed_elsewhere p q b c (inl h) j d apart = (ap (λ x. flushed_to x j d) h.is ∙ at_else 0 p.flushed b c (flushed_to p b c + 1) j d apart, ap (λ x. out_note x j d) h.is ∙ h.changes.others j d apart)
flushed_elsewhere p q b c (inr (inl same)) j d apart = (ap (λ x. flushed_to x j d) same.1, ap (λ x. out_note x j d) same.1)
flushed_elsewhere p q b c (inr (inr full)) j d apart = (ap (λ x. flushed_to x j d) full.is, ap (λ x. out_note x j d) full.is ∙ at_else no_note p.out_notes b c _ j d apart)

-- and serves its own, where a message waits
served_here : (p q : Part) (b : ℕ) (c : Class) → Flushes p q b c ⊎ FlushesNone p q b c → unflushed p b c ≢ [] → IsLaneServed p q b c
served_here p q b c (inl h) waits = inl (ap (λ x. flushed_to x b c) h.is ∙ at_here 0 p.flushed b c (flushed_to p b c + 1))
served_here p q b c (inr (inl same)) waits = absurd (waits same.0)
served_here p q b c (inr (inr full)) waits =
    let note : out_note q b c ≡ record { loads = (out_note p b c).loads + 1; word = full.word; body = []; stands = true } = ap (λ x. out_note x b c) full.is ∙ at_here no_note p.out_notes b c _ in
    inr (ap (λ n. n.loads) note, λ zero_. full.full (sym (ap (λ n. n.word) note) ∙ zero_))

only_one : (p q r : Part) (b : ℕ) (c : Class) → OnlyFlushes p q → Flushes q r b c ⊎ FlushesNone q r b c → OnlyFlushes p r
only_one p q r b c h (inl k) = let P : Part → Type 0 = λ x. OnlyFlushes p (record x { flushed = put_lane x.flushed b c (flushed_to x b c + 1); out_notes = k.notes }) in
    subst (OnlyFlushes p) (sym k.is) (subst P (sym h.is) (record { flushed = put_lane h.flushed b c (at_lane 0 h.flushed b c + 1); notes = k.notes; is = refl }))
only_one p q r b c h (inr (inl same)) = subst (OnlyFlushes p) (sym same.1) h
only_one p q r b c h (inr (inr full)) =
    let note : Note = record { loads = (out_note q b c).loads + 1; word = full.word; body = []; stands = true } in
    let P : Part → Type 0 = λ x. OnlyFlushes p (record x { out_notes = put_lane q.out_notes b c note }) in
    subst (OnlyFlushes p) (sym full.is) (subst P (sym h.is) (record { flushed = h.flushed; notes = put_lane q.out_notes b c note; is = refl }))

same_sent : (p q : Part) → OnlyFlushes p q → (j : ℕ) (d : Class) → sent_to q j d ≡ sent_to p j d
same_sent p q h j d = ap (λ x. sent_to x j d) h.is

-- what a lane's numbers say, it says of any part with the same numbers
pub served_by : (p q r : Part) (j : ℕ) (d : Class) → (flushed_to r j d ≡ flushed_to q j d) × (out_note r j d ≡ out_note q j d) → IsLaneServed p q j d → IsLaneServed p r j d
served_by p q r j d same (inl more) = inl (same.0 ∙ more)
served_by p q r j d same (inr full) = inr (ap (λ n. n.loads) same.1 ∙ full.0, λ zero_. full.1 (sym (ap (λ n. n.word) same.1) ∙ zero_))

served_from : (p q r : Part) (j : ℕ) (d : Class) → (flushed_to q j d ≡ flushed_to p j d) × (out_note q j d ≡ out_note p j d) → IsLaneServed q r j d → IsLaneServed p r j d
served_from p q r j d same (inl more) = inl (more ∙ ap (λ n. n + 1) same.0)
served_from p q r j d same (inr full) = inr (full.0 ∙ ap (λ n. n.loads + 1) same.1, full.1)

-- nothing was flushed yet
pub flushed_none : (box : BoxView) → AreFlushed box box 0
flushed_none box =
    record {
      same = record { node = refl; log = refl };
      only = record { flushed = box.seat.part.flushed; notes = box.seat.part.out_notes; is = refl };
      served = λ dst class below waits. absurd (omega (arith, below));
      rest = λ dst class far. (refl, refl);
    }

-- one lane more
pub flushed_next : (first now new : BoxView) (b : ℕ) (c : Class) (place : ℕ) → lane_place b c ≡ place → AreFlushed first now place → FlushesLane now new b c → AreFlushed first new (place + 1)
flushed_next first now new b c place at h f =
    let p : Part = first.seat.part in
    let q : Part = now.seat.part in
    let r : Part = new.seat.part in
    record {
      same = record { node = f.same.node ∙ h.same.node; log = f.same.log ∙ h.same.log };
      only = only_one p q r b c h.only f.lane;
      served = λ j d below waits.
          ⊎_elim
          (λ (far : place ≤ lane_place j d).
          let lane : (j ≡ b) × (d ≡ c) = one_lane j d b c (omega (arith, below, far, at)) in
          let there : unflushed q b c ≢ [] = λ none. waits (sym (λ i. drop ((h.rest j d far).0 i) (same_sent p q h.only j d i)) ∙ ((λ i. unflushed q (lane.0 i) (lane.1 i)) ∙ none)) in
          let here : IsLaneServed q r b c = served_here q r b c f.lane there in
          served_from p q r j d (h.rest j d far) (subst (λ x. IsLaneServed q r x d) (sym lane.0) (subst (λ k. IsLaneServed q r b k) (sym lane.1) here)))
          (λ (near : lane_place j d < place).
          served_by p q r j d (flushed_elsewhere q r b c f.lane j d (other_lane j d b c (λ is. (let e = is in absurd (omega (arith, near, at, e)))))) (h.served j d near waits))
          (split place (lane_place j d));
      rest = λ j d far.
          let same = flushed_elsewhere q r b c f.lane j d (other_lane j d b c (λ is. (let e = is in absurd (omega (arith, far, at, e))))) in
          let before = h.rest j d (omega (arith, far)) in
          (same.0 ∙ before.0, same.1 ∙ before.1);
    }
