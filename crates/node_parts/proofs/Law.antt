-- The law of parts: where a part's own step isn't refused, the composed machine takes that step too, to what the parts then make. It never looks at what a node does.
use Rattle.std.proofs.Common.{◌≡◌, ℕ, zero, suc, ◌+◌, ◌-◌, ◌<◌, ◌≤◌, Bool, true, false, cond, ◌==◌, ◌&&◌, nat_lt, List, [], ◌∷◌, length, drop, refl, sym, ap, ◌∙◌, subst, arith, Option, Some, None, Ok}
use Rattle.std.proofs.lemmas.Bool.{eqb-true, and_parts, lt-ltb, ltb-true}
use Rattle.line_map.specs.Sizes.{Sizes, home_of}
use Rattle.op_model.specs.declared.events.Class.{Class}
use Rattle.op_model.specs.declared.events.Class.TheVariants.{Request}
use Rattle.op_model.specs.declared.events.EvictKind.{EvictKind}
use Rattle.op_model.specs.declared.events.Event.{Event}
use Rattle.op_model.specs.declared.events.Event.TheVariants.{Hit, Issue, Evict, Take, Reclaim}
use Rattle.op_model.specs.declared.messages.Msg.{Msg}
use Rattle.op_model.specs.declared.operations.Op.{Op}
use Rattle.op_model.specs.Messages.{same_class}
use Rattle.op_model.specs.Shares.{Charge, Share}
use Rattle.op_model.specs.Events.Node.{Input, HitNext, IssueNext, EvictLine, TakeFrom, ReclaimLine, NodeOutcome, local, map_ok}
use Rattle.op_model.specs.Events.Step.{Programs, Off, none_off, one_off, put_at, departures, has_room, act, take_front, after, step}
use Rattle.op_model.specs.Parts.Part.{Part, ByLane, at_lane, put_lane, sent_to, flushed_to, taken_from, cleared_from, out_note, in_note, notes_empty, named, gate_count, own_room}
use Rattle.op_model.specs.Parts.OwnStep.{after_outcome, part_of, take_named, own_step}
use Rattle.op_model.specs.Parts.Composition.{compose, IsReady}
use Rattle.op_model.proofs.Public.{same_class-is}
use Rattle.one_history.proofs.Public.{local_room}
use Rattle.node_parts.proofs.Basics.{some_when, went_on}
use Rattle.node_parts.proofs.Composed.{composed}
use Rattle.node_parts.proofs.Departures.{departures_later, count_is}

drop_rest : {A : Type 0} (k : ℕ) (xs : List A) (m : A) (rest : List A) → drop k xs ≡ m ∷ rest → k + 1 ≤ length xs
drop_rest zero [] m rest e = absurd (cc)
drop_rest zero (x ∷ xs) m rest e = omega arith
drop_rest (suc k) [] m rest e = absurd (cc)
drop_rest (suc k) (x ∷ xs) m rest e = let h = drop_rest k xs m rest e in omega arith

more_room : (charge : Charge) (z : Sizes) (n : ℕ) (program : List Op) (s : Share) (line : ℕ) (kind : EvictKind) (out : NodeOutcome) (own whole : Bool) → (own ≡ true → whole ≡ true)
    → local charge z n program s (EvictLine line kind own) ≡ Ok out → local charge z n program s (EvictLine line kind whole) ≡ Ok out
more_room charge z n program s line kind out true true imp e = e
more_room charge z n program s line kind out true false imp e = let f = imp refl in absurd (cc)
more_room charge z n program s line kind out false true imp e = local_room charge z n program s line kind out e
more_room charge z n program s line kind out false false imp e = e

module _ (charge : Charge) (z : Sizes) (ps : Programs) (parts : ℕ → Part) (n : ℕ) (r : IsReady z ps parts n) where
  abbrev mine : Part
  mine = parts n

  same_local : (i : Input) (out : NodeOutcome) → local charge mine.sizes mine.number mine.program mine.share i ≡ Ok out → local charge z n (ps n) mine.share i ≡ Ok out
  same_local i out e = sym (λ k. local charge (r.machine k) (r.number k) (r.program k) mine.share i) ∙ e

  -- where the lanes lose as much as the part takes
  goes : (i : Input) (taken : ByLane ℕ) (out : NodeOutcome) (off : Off) → local charge z n (ps n) mine.share i ≡ Ok out
      → ((a b : ℕ) (c : Class) → taken_from (put_at parts n (after_outcome mine taken out) b) a c ≡ taken_from (parts b) a c + off a b c)
      → ((a b : ℕ) (c : Class) → taken_from (parts b) a c + off a b c ≤ length (sent_to (parts a) b c))
      → map_ok (after (compose parts)) (act n off (local charge z n (ps n) mine.share i)) ≡ Ok (compose (put_at parts n (after_outcome mine taken out)))
  goes i taken out off is tk le = ap (λ x. map_ok (after (compose parts)) (act n off x)) is ∙ ap (λ s. Ok s) (composed parts n taken out off tk le)

  kept : (out : NodeOutcome) (a b : ℕ) (c : Class) → taken_from (put_at parts n (after_outcome mine mine.taken out) b) a c ≡ taken_from (parts b) a c + 0
  kept out a b c = here (b == n) refl
    where
      here : (v : Bool) → (b == n) ≡ v → taken_from (cond v (after_outcome mine mine.taken out) (parts b)) a c ≡ taken_from (parts b) a c + 0
      here true e = ap (λ m. taken_from (parts m) a c) (sym (eqb-true b n e)) ∙ omega arith
      here false e = omega arith

  stays : (a b : ℕ) (c : Class) → taken_from (parts b) a c + 0 ≤ length (sent_to (parts a) b c)
  stays a b c = let h = r.counts a b c in omega arith

  -- an event that takes no message
  acts : (i : Input) (q : Part) → part_of mine mine.taken (local charge mine.sizes mine.number mine.program mine.share i) ≡ Some q → map_ok (after (compose parts)) (act n none_off (local charge z n (ps n) mine.share i)) ≡ Ok (compose (put_at parts n q))
  acts i q e =
      let (out, is, same) = went_on mine mine.taken (local charge mine.sizes mine.number mine.program mine.share i) q e in
      goes i mine.taken out none_off (same_local i out is) (kept out) stays
      ∙ ap (λ p. Ok (compose (put_at parts n p))) same

  room_stays : (line : ℕ) → own_room mine line ≡ true → has_room z ((compose parts).lane n (home_of z line) Request) ≡ true
  room_stays line e =
      let b : ℕ = home_of z line in
      let e' : nat_lt (gate_count mine b) z.evicts ≡ true = sym (λ k. nat_lt (gate_count mine (home_of (r.machine k) line)) (r.machine k).evicts) ∙ e in
      let lt : gate_count mine b < z.evicts = ltb-true (gate_count mine b) z.evicts e' in
      let count = count_is mine b in
      let le = departures_later (flushed_to mine b Request - cond (notes_empty (out_note mine b Request)) 0 1) (taken_from (parts b) n Request) (sent_to mine b Request) (r.gate b) in
      lt-ltb (departures (drop (taken_from (parts b) n Request) (sent_to mine b Request))) z.evicts (omega (arith, lt, le, count))

  evicted : (line : ℕ) (kind : EvictKind) (q : Part) → part_of mine mine.taken (local charge mine.sizes mine.number mine.program mine.share (EvictLine line kind (own_room mine line))) ≡ Some q
      → step charge z ps (compose parts) (Evict n line kind) ≡ Ok (compose (put_at parts n q))
  evicted line kind q e =
      let (out, is, same) = went_on mine mine.taken (local charge mine.sizes mine.number mine.program mine.share (EvictLine line kind (own_room mine line))) q e in
      let room : Bool = has_room z ((compose parts).lane n (home_of z line) Request) in
      let is' = more_room charge z n (ps n) mine.share line kind out (own_room mine line) room (room_stays line) (same_local (EvictLine line kind (own_room mine line)) out is) in
      goes (EvictLine line kind room) mine.taken out none_off is' (kept out) stays
      ∙ ap (λ p. Ok (compose (put_at parts n p))) same

  -- a take counts in one lane alone
  counted : (a : ℕ) (c : Class) (out : NodeOutcome) (i j : ℕ) (d : Class)
      → taken_from (put_at parts n (after_outcome mine (put_lane mine.taken a c (taken_from mine a c + 1)) out) j) i d ≡ taken_from (parts j) i d + one_off a n c i j d
  counted a c out i j d = here (j == n) refl
    where
      lane : (u v : Bool) → (i == a) ≡ u → same_class d c ≡ v → cond (u && v) (taken_from mine a c + 1) (taken_from mine i d) ≡ taken_from mine i d + cond (u && v) 1 0
      lane true true e f = ap (λ m. m + 1) (λ k. at_lane 0 mine.taken (sym (eqb-true i a e) k) (sym (same_class-is d c f) k))
      lane true false e f = omega arith
      lane false v e f = omega arith

      here : (v : Bool) → (j == n) ≡ v
          → taken_from (cond v (after_outcome mine (put_lane mine.taken a c (taken_from mine a c + 1)) out) (parts j)) i d ≡ taken_from (parts j) i d + cond (v && ((i == a) && same_class d c)) 1 0
      here true e = lane (i == a) (same_class d c) refl refl ∙ ap (λ m. taken_from (parts m) i d + cond ((i == a) && same_class d c) 1 0) (sym (eqb-true j n e))
      here false e = omega arith

  fits : (a : ℕ) (c : Class) (m : Msg) (rest : List Msg) → drop (taken_from mine a c) (sent_to (parts a) n c) ≡ m ∷ rest
      → (i j : ℕ) (d : Class) → taken_from (parts j) i d + one_off a n c i j d ≤ length (sent_to (parts i) j d)
  fits a c m rest e i j d = here (j == n) (i == a) (same_class d c) refl refl refl
    where
      here : (u v w : Bool) → (j == n) ≡ u → (i == a) ≡ v → same_class d c ≡ w → taken_from (parts j) i d + cond (u && (v && w)) 1 0 ≤ length (sent_to (parts i) j d)
      here true true true p q s =
          let P : ℕ × (ℕ × Class) → Type 0 = λ t. taken_from (parts t.0) (t.1).0 (t.1).1 + 1 ≤ length (sent_to (parts (t.1).0) t.0 (t.1).1) in
          subst P (λ k. (sym (eqb-true j n p) k, (sym (eqb-true i a q) k, sym (same_class-is d c s) k))) (drop_rest (taken_from mine a c) (sent_to (parts a) n c) m rest e)
      here true true false p q s = let h = r.counts i j d in omega arith
      here true false w p q s = let h = r.counts i j d in omega arith
      here false v w p q s = let h = r.counts i j d in omega arith

  took : (a : ℕ) (c : Class) (victim : Option ℕ) (o : Option Msg) (q : Part) → named z (in_note mine a c) ≡ o → taken_from mine a c ≡ cleared_from mine a c
      → take_named charge mine a c victim o ≡ Some q → step charge z ps (compose parts) (Take a n c victim) ≡ Ok (compose (put_at parts n q))
  took a c victim None q note ready e = absurd (let d : ◌≡◌ {A = Option Part} None (Some q) = e in cc)
  took a c victim (Some m) q note ready e =
      let t : ByLane ℕ = put_lane mine.taken a c (taken_from mine a c + 1) in
      let (out, is, same) = went_on mine t (local charge mine.sizes mine.number mine.program mine.share (TakeFrom a m victim)) q e in
      let (rest, front) = r.front a c m ready note in
      ap (λ ms. map_ok (after (compose parts)) (take_front charge z ps (compose parts) a n c victim ms)) front
      ∙ (goes (TakeFrom a m victim) t out (one_off a n c) (same_local (TakeFrom a m victim) out is) (counted a c out) (fits a c m rest front)
      ∙ ap (λ p. Ok (compose (put_at parts n p))) same)

-- where the own step of a node's part goes on, the composed machine goes on, to what the parts then make
pub law_of_parts : (charge : Charge) (machine : Sizes) (programs : Programs) (parts : ℕ → Part) (node : ℕ) → IsReady machine programs parts node → (event : Event) (after : Part) → own_step charge (parts node) event ≡ Some after
    → step charge machine programs (compose parts) event ≡ Ok (compose (put_at parts node after))
unfolding own_step
law_of_parts charge z ps parts n r (Hit m) q is =
    let (v, w) = some_when (m == (parts n).number) (part_of (parts n) (parts n).taken (local charge (parts n).sizes (parts n).number (parts n).program (parts n).share HitNext)) q is in
    let P : ℕ → Type 0 = λ k. step charge z ps (compose parts) (Hit k) ≡ Ok (compose (put_at parts n q)) in
    subst P (sym (eqb-true m (parts n).number v ∙ r.number)) (acts charge z ps parts n r HitNext q w)
law_of_parts charge z ps parts n r (Issue m) q is =
    let (v, w) = some_when (m == (parts n).number) (part_of (parts n) (parts n).taken (local charge (parts n).sizes (parts n).number (parts n).program (parts n).share IssueNext)) q is in
    let P : ℕ → Type 0 = λ k. step charge z ps (compose parts) (Issue k) ≡ Ok (compose (put_at parts n q)) in
    subst P (sym (eqb-true m (parts n).number v ∙ r.number)) (acts charge z ps parts n r IssueNext q w)
law_of_parts charge z ps parts n r (Evict m line kind) q is =
    let (v, w) = some_when (m == (parts n).number) (part_of (parts n) (parts n).taken (local charge (parts n).sizes (parts n).number (parts n).program (parts n).share (EvictLine line kind (own_room (parts n) line)))) q is in
    let P : ℕ → Type 0 = λ k. step charge z ps (compose parts) (Evict k line kind) ≡ Ok (compose (put_at parts n q)) in
    subst P (sym (eqb-true m (parts n).number v ∙ r.number)) (evicted charge z ps parts n r line kind q w)
law_of_parts charge z ps parts n r (Take a b c victim) q is =
    let (v, w) = some_when ((b == (parts n).number) && (taken_from (parts n) a c == cleared_from (parts n) a c)) (take_named charge (parts n) a c victim (named (parts n).sizes (in_note (parts n) a c))) q is in
    let (x, y) = and_parts (b == (parts n).number) (taken_from (parts n) a c == cleared_from (parts n) a c) v in
    let P : ℕ → Type 0 = λ k. step charge z ps (compose parts) (Take a k c victim) ≡ Ok (compose (put_at parts n q)) in
    subst P (sym (eqb-true b (parts n).number x ∙ r.number))
    (took charge z ps parts n r a c victim (named (parts n).sizes (in_note (parts n) a c)) q (λ k. named (sym r.machine k) (in_note (parts n) a c)) (eqb-true (taken_from (parts n) a c) (cleared_from (parts n) a c) y) w)
law_of_parts charge z ps parts n r (Reclaim line) q is =
    let (v, w) = some_when (home_of (parts n).sizes line == (parts n).number) (part_of (parts n) (parts n).taken (local charge (parts n).sizes (parts n).number (parts n).program (parts n).share (ReclaimLine line))) q is in
    let home : home_of z line ≡ n = ap (λ m. home_of m line) (sym r.machine) ∙ eqb-true (home_of (parts n).sizes line) (parts n).number v ∙ r.number in
    let P : ℕ → Type 0 = λ k. map_ok (after (compose parts)) (act k none_off (local charge z k (ps k) (parts k).share (ReclaimLine line))) ≡ Ok (compose (put_at parts n q)) in
    subst P (sym home) (acts charge z ps parts n r (ReclaimLine line) q w)
