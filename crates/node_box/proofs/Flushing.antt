-- A box after a flush of one lane.
use Rattle.std.proofs.Common.{⊎_elim, ◌≡◌, ◌⊎◌, inl, inr, ℕ, zero, suc, ◌+◌, ◌<◌, ◌≤◌, Bool, true, false, cond, ◌==◌, ◌&&◌, List, [], ◌∷◌, length, drop, refl, sym, ap, ◌∙◌, subst, arith, Option, Some}
use Rattle.std.specs.Prelude.{slice_get, slice_index_or, slice_set}
use Rattle.std.proofs.lemmas.Bool.Decides.{nat_tests}
use Rattle.std.proofs.lemmas.Grind.{get_or-set_at}
use Rattle.std.proofs.lemmas.List.{get_or-set_other}
use Rattle.line_map.specs.Sizes.{Sizes}
use Rattle.op_model.specs.declared.events.Class.{Class}
use Rattle.op_model.specs.declared.events.Class.TheVariants.{Request, Reply}
use Rattle.op_model.specs.declared.messages.Msg.{Msg}
use Rattle.op_model.specs.Messages.{msg_content}
use Rattle.op_model.specs.Events.Step.{is_departure}
use Rattle.op_model.specs.Programs.{IsProgramOf}
use Rattle.op_model.specs.Parts.Part.{Part, ByLane, Note, out_note, at_lane, put_lane, sent_to, flushed_to, taken_from, cleared_from, last_departs}
use Rattle.out_space.specs.Boxes.{IsBox as IsOutbox, waiting, with_waiting, sizes-with_waiting}
use Rattle.lane_table.specs.Calls.{IsOtherLane, Flushes, FindsFull, FlushesNone}
use Rattle.lane_table.specs.Steps.{loaded}
use Rattle.lane_table.specs.Told.{unflushed}
use Rattle.lane_table.specs.Views.{TableView, IsSeatOf}
use Rattle.lane_table.proofs.Public.{at_else, at_here, lane_tells, last_flushed, outbox_after}
use Rattle.node_box.specs.Boxes.{BoxView, node_of, IsOwnLog, IsBox}

same_or_other : (b : ℕ) (c : Class) (j : ℕ) (d : Class) → ((j ≡ b) × (d ≡ c)) ⊎ IsOtherLane b c j d
same_or_other b c j d = go b refl (lane_tells b b c b j d)
  where
    go : (a : ℕ) → b ≡ a → ((b ≡ a) × (j ≡ b) × (d ≡ c)) ⊎ ((b ≡ a) × (j ≡ b) × (d ≡ c) → ⊥) → ((j ≡ b) × (d ≡ c)) ⊎ IsOtherLane b c j d
    go a is (inl same) = inl (same.1, same.2)
    go a is (inr other) = inr (λ same. other (is, same.0, same.1))

-- a fact of every lane, from the one of this lane and those of the others
by_lane : (P : ℕ → Class → Type 0) (b : ℕ) (c : Class) → P b c → ((j : ℕ) (d : Class) → IsOtherLane b c j d → P j d) → (j : ℕ) (d : Class) → P j d
by_lane P b c here others j d = go (same_or_other b c j d)
  where
    go : ((j ≡ b) × (d ≡ c)) ⊎ IsOtherLane b c j d → P j d
    go (inl same) = subst (λ x. P x d) (sym same.0) (subst (λ k. P b k) (sym same.1) here)
    go (inr other) = others j d other

-- something waits only where less is flushed than sent
waits_within : (n : ℕ) (xs : List Msg) (m : Msg) (rest : List Msg) → drop n xs ≡ m ∷ rest → n + 1 ≤ length xs
waits_within zero [] m rest is = absurd (cc)
waits_within zero (x ∷ xs) m rest is = omega arith
waits_within (suc n) [] m rest is = absurd (cc)
waits_within (suc n) (x ∷ xs) m rest is = let le = waits_within n xs m rest is in omega (arith, le)

-- the message that waits first
first_is : (xs : List Msg) (front m : Msg) (rest : List Msg) → slice_get xs 0 ≡ Some front → xs ≡ m ∷ rest → front ≡ m
first_is xs front m rest got is = let e : ◌≡◌ {A = Option Msg} (Some front) (Some m) = sym got ∙ ap (λ l. slice_get l 0) is in cc

at_place : (flags : List Bool) (i j : ℕ) (flag : Bool) → i < length flags → slice_index_or (slice_set flags i flag) j false ≡ cond (j == i) flag (slice_index_or flags j false)
at_place flags i j flag within = grind (arith, nat_tests, get_or-set_at, get_or-set_other)

module _ (p q : Part) (b : ℕ) where
  -- what the memory of a lane of requests says after its flush
  last_here : (c : Class) (h : Flushes p q b c) → c ≡ Request → is_departure (msg_content h.msg) ≡ last_departs (flushed_to q b c) (sent_to q b c)
  last_here Request h is = sym (last_flushed p q b h)
  last_here Reply h is = absurd (cc)

-- the box after one message left the outbox
pub flushed_box : (table : TableView) (old new : BoxView) (b : ℕ) (c : Class) (front : Msg) → IsBox table old → IsOutbox old.out → b < old.out.sizes.nodes → slice_get (waiting old.out b c) 0 ≡ Some front
    → Flushes old.seat.part new.seat.part b c → new.out ≡ with_waiting old.out b c (drop 1 (waiting old.out b c)) → IsSeatOf table new.seat → new.node ≡ old.node → new.log ≡ old.log → new.sends ≡ old.sends
    → length new.departed ≡ length old.departed
    → ((j : ℕ) → slice_index_or new.departed j false ≡ at_lane (slice_index_or old.departed j false) (put_lane [] b c (is_departure (msg_content front))) j Request) → IsBox table new
flushed_box table old new b c front kept box below got h out seat node log sends places flags =
    let p : Part = old.seat.part in
    let q : Part = new.seat.part in
    let machine : q.sizes ≡ p.sizes = ap (λ (x : Part). x.sizes) h.is in
    let sent : (j : ℕ) (d : Class) → sent_to q j d ≡ sent_to p j d = λ j d. ap (λ x. sent_to x j d) h.is in
    let here : flushed_to q b c ≡ flushed_to p b c + 1 = ap (λ x. flushed_to x b c) h.is ∙ at_here 0 p.flushed b c (flushed_to p b c + 1) in
    let else_ : (j : ℕ) (d : Class) → IsOtherLane b c j d → flushed_to q j d ≡ flushed_to p j d = λ j d apart. ap (λ x. flushed_to x j d) h.is ∙ at_else 0 p.flushed b c (flushed_to p b c + 1) j d apart in
    let one : flushed_to p b c + 1 ≤ length (sent_to p b c) = waits_within (flushed_to p b c) (sent_to p b c) h.msg h.rest h.first in
    let flag : Bool = is_departure (msg_content front) in
    let flag_is : flag ≡ is_departure (msg_content h.msg) = ap (λ m. is_departure (msg_content m)) (first_is (waiting old.out b c) front h.msg h.rest got (kept.out b c ∙ h.first)) in
    record {
      seat = seat;
      program = let P : Part → Type 0 = λ x. IsProgramOf x.sizes x.number x.program in subst P (sym h.is) kept.program;
      node = node ∙ (kept.node ∙ (λ i. node_of (sym h.is i) ((sym node i).dir)));
      log = ap (λ l. l.entries) log ∙ (kept.log ∙ ap (λ (x : Part). x.log) (sym h.is));
      sends = sends ∙ (kept.sends ∙ (λ i. record { list = []; room = (sym machine i).nodes + 1 }));
      machine = ap (λ x. x.sizes) out ∙ (sizes-with_waiting old.out b c (drop 1 (waiting old.out b c)) ∙ (kept.machine ∙ sym machine));
      out = λ j d. ap (λ x. waiting x j d) out ∙ outbox_after old.out p q b c box below kept.out h j d;
      within = by_lane (λ j d. flushed_to q j d ≤ length (sent_to q j d)) b c
          (let le = one in let l : length (sent_to q b c) ≡ length (sent_to p b c) = ap length (sent b c) in omega (arith, le, l, here))
          (λ j d apart. let le = kept.within j d in let l : length (sent_to q j d) ≡ length (sent_to p j d) = ap length (sent j d) in let e = else_ j d apart in omega (arith, le, l, e));
      last = λ j near. flags j ∙ by_lane (λ j d. d ≡ Request → j < q.sizes.nodes → at_lane (slice_index_or old.departed j false) (put_lane [] b c flag) j d ≡ last_departs (flushed_to q j d) (sent_to q j d)) b c
          (λ is within. at_here (slice_index_or old.departed b false) [] b c flag ∙ (flag_is ∙ last_here p q b c h is))
          (λ j d apart is within. at_else (slice_index_or old.departed j false) [] b c flag j d apart
          ∙ (kept.last j (subst (λ (z : Sizes). j < z.nodes) machine within)
          ∙ ((λ i. last_departs (flushed_to p j (sym is i)) (sent_to p j (sym is i))) ∙ sym (λ i. last_departs (else_ j d apart i) (sent j d i)))))
          j Request refl near;
      places = places ∙ (kept.places ∙ ap (λ (z : Sizes). z.nodes) (sym machine));
      ready = let P : Part → Type 0 = λ x. (a : ℕ) (d : Class) → taken_from x a d ≡ cleared_from x a d in subst P (sym h.is) kept.ready;
      own = let P : Part → Type 0 = λ x. IsOwnLog x.sizes x.number new.log.entries in subst P (sym h.is) (subst (λ l. IsOwnLog p.sizes p.number l.entries) (sym log) kept.own);
    }

-- the memory of a request that left, and of a reply
pub flags_request : (flags : List Bool) (b : ℕ) (flag : Bool) → b < length flags → (j : ℕ) → slice_index_or (slice_set flags b flag) j false ≡ at_lane (slice_index_or flags j false) (put_lane [] b Request flag) j Request
flags_request flags b flag within j = at_place flags b j flag within ∙ go (j == b)
  where
    go : (t : Bool) → cond t flag (slice_index_or flags j false) ≡ cond (t && true) flag (slice_index_or flags j false)
    go true = refl
    go false = refl

pub flags_reply : (flags : List Bool) (b : ℕ) (flag : Bool) (j : ℕ) → slice_index_or flags j false ≡ at_lane (slice_index_or flags j false) (put_lane [] b Reply flag) j Request
flags_reply flags b flag j = go (j == b)
  where
    go : (t : Bool) → slice_index_or flags j false ≡ cond (t && false) flag (slice_index_or flags j false)
    go true = refl
    go false = refl

-- which lane left a write-back or a hint last
abbrev remembers : BoxView → Part → Type 0
remembers box part = (dst : ℕ) → dst < part.sizes.nodes → slice_index_or box.departed dst false ≡ last_departs (flushed_to part dst Request) (sent_to part dst Request)

-- the box where nothing but the notes of its part changed
pub noted_box : (table : TableView) (old new : BoxView) (outs ins : ByLane Note) → IsBox table old → new.seat.part ≡ record old.seat.part { out_notes = outs; in_notes = ins } → IsSeatOf table new.seat → new.node ≡ old.node → new.log ≡ old.log → new.sends ≡ old.sends → new.out ≡ old.out → new.departed ≡ old.departed → IsBox table new
noted_box table old new outs ins kept is seat node log sends out departed =
    let p : Part = old.seat.part in
    let P : Part → Type 0 = λ x. (new.node ≡ node_of x new.node.dir) × (new.log.entries ≡ x.log) × (new.sends ≡ record { list = []; room = x.sizes.nodes + 1 }) × (new.out.sizes ≡ x.sizes)
    × ((j : ℕ) (d : Class) → waiting new.out j d ≡ unflushed x j d) × ((j : ℕ) (d : Class) → flushed_to x j d ≤ length (sent_to x j d)) × remembers new x × (length new.departed ≡ x.sizes.nodes)
    × ((a : ℕ) (d : Class) → taken_from x a d ≡ cleared_from x a d) × IsProgramOf x.sizes x.number x.program × IsOwnLog x.sizes x.number new.log.entries in
    let facts : P p = (
      node ∙ (kept.node ∙ (λ i. node_of p ((sym node i).dir))),
      ap (λ l. l.entries) log ∙ kept.log,
      sends ∙ kept.sends,
      ap (λ x. x.sizes) out ∙ kept.machine,
      (λ j d. ap (λ x. waiting x j d) out ∙ kept.out j d),
      kept.within,
      (λ j near. ap (λ l. slice_index_or l j false) departed ∙ kept.last j near),
      ap length departed ∙ kept.places,
      kept.ready,
      kept.program,
      subst (λ l. IsOwnLog p.sizes p.number l.entries) (sym log) kept.own,
    ) in
    let mine : P new.seat.part = subst P (sym is) facts in
    record { seat = seat; node = mine.0; log = mine.1; sends = mine.2; machine = mine.3; out = mine.4; within = mine.5; last = mine.6; places = mine.7; ready = mine.8; program = mine.9; own = mine.10 }

-- the box where the cell was full, or nothing waited
pub unflushed_box : (table : TableView) (old new : BoxView) (b : ℕ) (c : Class) → IsBox table old → FlushesNone old.seat.part new.seat.part b c → IsSeatOf table new.seat → new.node ≡ old.node → new.log ≡ old.log → new.sends ≡ old.sends → new.out ≡ old.out → new.departed ≡ old.departed → IsBox table new
unflushed_box table old new b c kept h seat node log sends out departed =
    let p : Part = old.seat.part in
    let notes : (outs : ByLane Note) × (new.seat.part ≡ record p { out_notes = outs; in_notes = p.in_notes }) =
    ⊎_elim (λ (same : (unflushed p b c ≡ []) × (new.seat.part ≡ p)). (p.out_notes, same.1)) (λ (full : FindsFull p new.seat.part b c). (put_lane p.out_notes b c (loaded (out_note p b c) full.word), full.is)) h in
    noted_box table old new notes.0 p.in_notes kept notes.1 seat node log sends out departed
