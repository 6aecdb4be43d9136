-- What a node that keeps what it hasn't flushed in an outbox needs of its seat's part: the outbox has room for all that an event sends,
-- and follows the part at each flush.
use Rattle.std.proofs.Common.{◌≡◌, ℕ, zero, suc, ◌+◌, ◌<◌, ◌≤◌, Bool, true, false, cond, ◌==◌, ◌&&◌, List, [], ◌∷◌, ◌++◌, length, drop, refl, sym, ap, ◌∙◌, subst, arith, ⊎_elim, eq-eqb, length-append, append_assoc, add-one, All, Some}
use Rattle.std.specs.Prelude.{slice_get, slice_index_or}
use Rattle.std.proofs.lemmas.Bool.{eqb-true, and_parts, cases_lt}
use Rattle.std.proofs.lemmas.List.{drop-append-le}
use Rattle.std.proofs.lemmas.List.Elements.{All-get_or}
use Rattle.line_map.specs.Sizes.{Sizes}
use Rattle.op_model.specs.declared.events.Class.{Class}
use Rattle.op_model.specs.declared.events.Class.TheVariants.{Request}
use Rattle.op_model.specs.declared.messages.Msg.{Msg}
use Rattle.op_model.specs.Messages.{same_class, msg_class, msg_content}
use Rattle.op_model.specs.MessageWords.{IsMsgOf}
use Rattle.op_model.specs.Events.Step.{to_lane, is_departure}
use Rattle.op_model.specs.Run.Bounds.{lane_bound}
use Rattle.op_model.specs.Parts.Part.{Part, sent_to, flushed_to, at_lane, last_departs, departs_at}
use Rattle.one_history.proofs.Public.{to_lane-append}
use Rattle.op_model.proofs.Public.{same_class-is, same_class-self}
use Rattle.out_space.specs.Boxes.{BoxState, IsBox, waiting, with_waiting, waiting-with_waiting}
use Rattle.lane_table.specs.Told.{unflushed, IsOutgoing}
use Rattle.lane_table.specs.Calls.{Flushes}
use Rattle.lane_table.proofs.Fields.{at_here}
use Rattle.lane_table.proofs.Notes.{one_fewer, kept_waiting}

-- what an event sends waits behind what was there
pub sent_more : (old new : Part) (more : List (ℕ × Msg)) → new.flushed ≡ old.flushed → new.sent ≡ old.sent ++ more → (b : ℕ) (c : Class) → flushed_to old b c ≤ length (sent_to old b c) → unflushed new b c ≡ unflushed old b c ++ to_lane b c more
sent_more old new more flushed sent b c within =
    (λ k. drop (at_lane 0 (flushed k) b c) (to_lane b c (sent k)))
    ∙ (ap (drop (flushed_to old b c)) (to_lane-append b c old.sent more) ∙ drop-append-le (flushed_to old b c) (sent_to old b c) (to_lane b c more) within)

own-lane : (m : Msg) (b : ℕ) (rest : List (ℕ × Msg)) → to_lane b (msg_class m) ((b, m) ∷ rest) ≡ m ∷ to_lane b (msg_class m) rest
own-lane m b rest = ap (λ v. cond (v && same_class (msg_class m) (msg_class m)) (m ∷ to_lane b (msg_class m) rest) (to_lane b (msg_class m) rest)) (eq-eqb b b refl) ∙ ap (λ v. cond v (m ∷ to_lane b (msg_class m) rest) (to_lane b (msg_class m) rest)) (same_class-self (msg_class m))

-- Each message of an event goes to a node of the machine, is one of the machine, and finds room behind those sent before it
pub record HasPlace (sizes : Sizes) (old : Part) (before : List (ℕ × Msg)) (dst : ℕ) (m : Msg) : Type 0 where
  pub to : dst < sizes.nodes
  pub of_machine : IsMsgOf sizes m
  pub room : length (unflushed old dst (msg_class m) ++ to_lane dst (msg_class m) before) < lane_bound sizes (msg_class m)

pub has_place : (sizes : Sizes) (old new : Part) (before rest : List (ℕ × Msg)) (dst : ℕ) (m : Msg) → new.flushed ≡ old.flushed → new.sent ≡ old.sent ++ (before ++ (dst, m) ∷ rest)
    → flushed_to old dst (msg_class m) ≤ length (sent_to old dst (msg_class m)) → IsOutgoing sizes new → HasPlace sizes old before dst m
has_place sizes old new before rest dst m flushed sent within h =
    let c : Class = msg_class m in
    let lane : to_lane dst c (before ++ (dst, m) ∷ rest) ≡ to_lane dst c before ++ m ∷ to_lane dst c rest = to_lane-append dst c before ((dst, m) ∷ rest) ∙ ap (λ xs. to_lane dst c before ++ xs) (own-lane m dst rest) in
    let all : unflushed new dst c ≡ unflushed old dst c ++ (to_lane dst c before ++ m ∷ to_lane dst c rest) = sent_more old new (before ++ (dst, m) ∷ rest) flushed sent dst c within ∙ ap (λ xs. unflushed old dst c ++ xs) lane in
    let split : unflushed new dst c ≡ (unflushed old dst c ++ to_lane dst c before) ++ m ∷ to_lane dst c rest = all ∙ sym (append_assoc (unflushed old dst c) (to_lane dst c before) (m ∷ to_lane dst c rest)) in
    let size = ap length split ∙ length-append (unflushed old dst c ++ to_lane dst c before) (m ∷ to_lane dst c rest) in
    let bound = h.bound dst c in
    record {
      to = ⊎_elim (λ (lt : dst < sizes.nodes). lt)
          (λ (far : sizes.nodes ≤ dst).
          let none : unflushed new dst c ≡ [] = ap (drop (flushed_to new dst c)) (h.nowhere dst c far) ∙ nil (flushed_to new dst c) in
          absurd (let e = ap length none in omega arith))
          (cases_lt dst sizes.nodes);
      of_machine = subst (IsMsgOf sizes) (middle (unflushed old dst c ++ to_lane dst c before) (to_lane dst c rest) m)
          (All-get_or (IsMsgOf sizes) ((unflushed old dst c ++ to_lane dst c before) ++ m ∷ to_lane dst c rest) (length (unflushed old dst c ++ to_lane dst c before)) m
          (let l = length-append (unflushed old dst c ++ to_lane dst c before) (m ∷ to_lane dst c rest) in omega arith) (subst (All (IsMsgOf sizes)) split (h.of_machine dst c)));
      room = omega arith;
    }
  where
    nil : (n : ℕ) → drop {A = Msg} n [] ≡ []
    nil zero = refl
    nil (suc n) = refl

    middle : (xs ys : List Msg) (m : Msg) → slice_index_or (xs ++ m ∷ ys) (length xs) m ≡ m
    middle [] ys m = refl
    middle (x ∷ xs) ys m = middle xs ys m

-- an outbox that holds what isn't flushed still does after a flush
pub outbox_after : (box : BoxState) (old new : Part) (dst : ℕ) (class : Class) → IsBox box → dst < box.sizes.nodes → ((b : ℕ) (c : Class) → waiting box b c ≡ unflushed old b c) → Flushes old new dst class
    → (b : ℕ) (c : Class) → waiting (with_waiting box dst class (drop 1 (waiting box dst class))) b c ≡ unflushed new b c
outbox_after box old new dst class is below holds h b c =
    waiting-with_waiting box dst class (drop 1 (waiting box dst class)) b c is below
    ∙ here ((b == dst) && same_class c class) refl
  where
    here : (v : Bool) → ((b == dst) && same_class c class) ≡ v → cond v (drop 1 (waiting box dst class)) (waiting box b c) ≡ unflushed new b c
    here true e =
        let both = and_parts (b == dst) (same_class c class) e in
        let at : b ≡ dst = eqb-true b dst both.0 in
        let kind : c ≡ class = same_class-is c class both.1 in
        ap (drop 1) (holds dst class) ∙ (sym (one_fewer old new dst class h) ∙ (λ k. unflushed new (sym at k) (sym kind k)))
    here false e = holds b c ∙ sym (kept_waiting old new dst class h b c (λ same. let t = apart same.0 same.1 in let f : true ≡ false = sym t ∙ e in absurd (cc)))
      where
        apart : b ≡ dst → c ≡ class → ((b == dst) && same_class c class) ≡ true
        apart at kind = (λ k. (at k == dst) && same_class (kind k) class) ∙ (ap (λ v. v && same_class class class) (eq-eqb dst dst refl) ∙ same_class-self class)

-- the message that was flushed last is the one that waited first
get_first : (k : ℕ) (xs : List Msg) (m : Msg) (rest : List Msg) → drop k xs ≡ m ∷ rest → slice_get xs k ≡ Some m
get_first zero [] m rest e = absurd (cc)
get_first zero (x ∷ xs) m rest e = let same : x ≡ m = cc in ap Some same
get_first (suc k) [] m rest e = absurd (cc)
get_first (suc k) (x ∷ xs) m rest e = get_first k xs m rest e

pub last_flushed : (old new : Part) (dst : ℕ) (h : Flushes old new dst Request) → last_departs (flushed_to new dst Request) (sent_to new dst Request) ≡ is_departure (msg_content h.msg)
last_flushed old new dst h =
    let count : flushed_to new dst Request ≡ suc (flushed_to old dst Request) = ap (λ x. flushed_to x dst Request) h.is ∙ (at_here 0 old.flushed dst Request (flushed_to old dst Request + 1) ∙ add-one (flushed_to old dst Request)) in
    (λ k. last_departs (count k) (to_lane dst Request ((ap (λ x. x.sent) h.is) k)))
    ∙ ap departs_at (get_first (flushed_to old dst Request) (sent_to old dst Request) h.msg h.rest h.first)
