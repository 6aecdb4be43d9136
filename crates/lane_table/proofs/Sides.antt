-- What each kind of step makes of the lane that it is about, and that the lane's cell stays in order.
use Rattle.std.proofs.Common.{◌≡◌, ◌≢◌, ℕ, ◌+◌, ◌<◌, ◌≤◌, true, false, not, ◌==◌, List, [], ◌∷◌, ◌++◌, length, drop, set, sym, ap, ◌∙◌, subst, ⊎_elim, arith, eq-eqb, length-append, length-drop}
use Rattle.std.specs.Prelude.{slice_index}
use Rattle.std.proofs.lemmas.Bool.{eqb-true}
use Rattle.std.proofs.lemmas.Bool.Decides.{eqb_tells}
use Rattle.std.proofs.Math.ListN.{get_or-append}
use Rattle.std.proofs.Math.Seq.{get_or-append_seam}
use Rattle.std.proofs.lemmas.List.{get_or-set_same, get_or-set_other}
use Rattle.line_map.specs.Sizes.{Sizes}
use Rattle.op_model.specs.declared.events.Class.{Class}
use Rattle.op_model.specs.declared.messages.Msg.{Msg}
use Rattle.op_model.specs.Messages.{msg_content}
use Rattle.op_model.specs.MessageWords.{header_word, words_behind, IsMsgOf}
use Rattle.op_model.specs.Parts.Part.{Note, notes_empty}
use Rattle.msg_words.proofs.Public.{word_above}
use Rattle.lane_table.specs.Layout.{cell_word}
use Rattle.lane_table.specs.Cells.{LaneView, AreCounts, Stand, IsCell}
use Rattle.lane_table.specs.Steps.{with_word, done_with}
use Rattle.lane_table.proofs.Places.{word_along}

abbrev pub with_sender : LaneView → Note → LaneView
with_sender lane note = record { sent = lane.sent; flushed = lane.flushed; taken = lane.taken; cleared = lane.cleared; sender = note; taker = lane.taker }

abbrev pub with_taker : LaneView → Note → LaneView
with_taker lane note = record { sent = lane.sent; flushed = lane.flushed; taken = lane.taken; cleared = lane.cleared; sender = lane.sender; taker = note }

abbrev pub posted_view : LaneView → LaneView
posted_view lane = record { sent = lane.sent; flushed = lane.flushed + 1; taken = lane.taken; cleared = lane.cleared; sender = done_with lane.sender; taker = lane.taker }

abbrev pub freed_view : LaneView → LaneView
freed_view lane = record { sent = lane.sent; flushed = lane.flushed; taken = lane.taken; cleared = lane.cleared + 1; sender = lane.sender; taker = done_with lane.taker }

abbrev seen : ℕ → ℕ → Note
seen loads word = record { loads = loads; word = word; body = []; stands = true }

-- an empty header word says that nothing is under way
nothing_there : (sizes : Sizes) (words : List ℕ) (header : ℕ) (lane : LaneView) → AreCounts lane → IsCell sizes words header lane → slice_index words header ≡ 0 → lane.flushed ≡ lane.cleared
nothing_there sizes words header lane n h e =
    let a = n.cleared in let b = n.taken in let c = n.one in
    ⊎_elim (λ (t : ((lane.flushed == lane.cleared) ≡ true) × (lane.flushed ≡ lane.cleared)). t.1)
    (λ (t : ((lane.flushed == lane.cleared) ≡ false) × (lane.flushed ≢ lane.cleared)).
    let ne : lane.flushed ≢ lane.cleared = t.1 in
    let full : lane.flushed ≡ lane.cleared + 1 = omega arith in
    let m = h.full full in
    let s = word_above m.msg in let e' : header_word m.msg ≡ 0 = sym m.head ∙ e in absurd (omega arith))
    (eqb_tells lane.flushed lane.cleared)

-- and any other that one message is
pub one_there : (sizes : Sizes) (words : List ℕ) (header : ℕ) (lane : LaneView) → AreCounts lane → IsCell sizes words header lane → slice_index words header ≢ 0 → lane.flushed ≡ lane.cleared + 1
one_there sizes words header lane n h ne =
    let a = n.cleared in let b = n.taken in let c = n.one in
    ⊎_elim (λ (t : ((lane.flushed == lane.cleared) ≡ true) × (lane.flushed ≡ lane.cleared)). absurd (ne (h.empty t.1)))
    (λ (t : ((lane.flushed == lane.cleared) ≡ false) × (lane.flushed ≢ lane.cleared)). let ne' : lane.flushed ≢ lane.cleared = t.1 in omega arith)
    (eqb_tells lane.flushed lane.cleared)

pub sender_looked : (sizes : Sizes) (words : List ℕ) (header : ℕ) (lane : LaneView) (k w : ℕ) → slice_index words header ≡ w → AreCounts lane → IsCell sizes words header lane → IsCell sizes words header (with_sender lane (seen k w))
sender_looked sizes words header lane k w is n h = record {
  empty = h.empty;
  full = h.full;
  taker = h.taker;
  sender = λ e. (nothing_there sizes words header lane n h (is ∙ eqb-true w 0 e), (λ i lt. absurd (omega arith)), omega arith);
}

not_zero : (w : ℕ) → not (w == 0) ≡ true → w ≢ 0
not_zero w e is = let f = eq-eqb w 0 is in absurd (cc)

pub taker_looked : (sizes : Sizes) (words : List ℕ) (header : ℕ) (lane : LaneView) (k w : ℕ) → slice_index words header ≡ w → AreCounts lane → IsCell sizes words header lane → IsCell sizes words header (with_taker lane (seen k w))
taker_looked sizes words header lane k w is n h = record {
  empty = h.empty;
  full = h.full;
  sender = h.sender;
  taker = λ e. (one_there sizes words header lane n h (λ zero'. not_zero w e (sym is ∙ zero')), is, (λ i lt. absurd (omega arith)), omega arith);
}

stand_more : (words : List ℕ) (header : ℕ) (ws : List ℕ) (w : ℕ) → slice_index words (header + (1 + length ws)) ≡ w → Stand words header ws → Stand words header (ws ++ w ∷ [])
stand_more words header ws w is h i lt =
    ⊎_elim
    (λ (t : ((i == length ws) ≡ true) × (i ≡ length ws)).
    let P : ℕ → Type 0 = λ k. slice_index words (header + (1 + k)) ≡ slice_index (ws ++ w ∷ []) k in
    subst P (sym t.1) (is ∙ sym (get_or-append_seam ws w [] 0)))
    (λ (t : ((i == length ws) ≡ false) × (i ≢ length ws)).
    let ne : i ≢ length ws = t.1 in let len = length-append ws (w ∷ []) in
    h i (omega arith) ∙ sym (get_or-append ws (w ∷ []) 0 i (omega arith)))
    (eqb_tells i (length ws))

pub taker_read : (sizes : Sizes) (words : List ℕ) (header : ℕ) (lane : LaneView) (w : ℕ) → slice_index words (header + (1 + length lane.taker.body)) ≡ w
    → length lane.taker.body < sizes.words → IsCell sizes words header lane → IsCell sizes words header (with_taker lane (with_word lane.taker w))
taker_read sizes words header lane w at lt h = record {
  empty = h.empty;
  full = h.full;
  sender = h.sender;
  taker = λ e. let s = h.taker e in (s.0, s.1, stand_more words header lane.taker.body w at s.2, (let len = length-append lane.taker.body (w ∷ []) in omega arith));
}

-- the sender stores the header word of its next message, whose body it has stored
pub sender_posted : (sizes : Sizes) (words : List ℕ) (header : ℕ) (lane : LaneView) (m : Msg) (rest : List Msg) → header < length words → drop lane.flushed lane.sent ≡ m ∷ rest → IsMsgOf sizes m
    → lane.sender.body ≡ words_behind (msg_content m) → notes_empty lane.sender ≡ true → AreCounts lane → IsCell sizes words header lane
    → AreCounts (posted_view lane) × IsCell sizes (set words header (header_word m)) header (posted_view lane)
sender_posted sizes words header lane m rest inside next of body free n h =
    let s = h.sender free in
    let i = n.cleared in let j = n.taken in let k = n.flushed in
    let e = s.0 in
    let more : lane.flushed + 1 ≤ length lane.sent = let left = length-drop lane.flushed lane.sent in let first = ap length next in omega arith in (
      record { cleared = i; taken = omega arith; flushed = omega arith; one = omega arith },
      record {
        empty = λ f. absurd (omega arith);
        full = λ _. record {
          msg = m;
          rest = rest;
          first = ap (λ d. drop d lane.sent) (sym e) ∙ next;
          of_machine = of;
          head = get_or-set_same words header (header_word m) 0 inside;
          body = λ v lt. get_or-set_other words header (header + (1 + v)) (header_word m) 0 (λ f. absurd (omega arith))
              ∙ (let P : List ℕ → Type 0 = λ ws. Stand words header ws in subst P body s.1) v lt;
        };
        sender = λ f. absurd (cc);
        taker = λ f. let t = h.taker f in let t0 = t.0 in absurd (omega arith);
      },
    )

-- the taker stores 0 in the header word, after the event of the message
pub taker_freed : (sizes : Sizes) (words : List ℕ) (header : ℕ) (lane : LaneView) → header < length words → lane.taken ≡ lane.cleared + 1 → AreCounts lane → IsCell sizes words header lane
    → AreCounts (freed_view lane) × IsCell sizes (set words header 0) header (freed_view lane)
taker_freed sizes words header lane inside made n h =
    let i = n.cleared in let j = n.taken in let k = n.flushed in let l = n.one in (
      record { cleared = omega arith; taken = j; flushed = k; one = omega arith },
      record {
        empty = λ _. get_or-set_same words header 0 0 inside;
        full = λ e. absurd (omega arith);
        sender = λ e. let s = h.sender e in let s0 = s.0 in absurd (omega arith);
        taker = λ e. absurd (cc);
      },
    )

-- the sender stores one more word of a body behind an empty header word
pub sender_stored : (sizes : Sizes) (words : List ℕ) (a b : ℕ) (c : Class) (lane : LaneView) (w : ℕ) → cell_word sizes a b c (1 + length lane.sender.body) < length words → length lane.sender.body < sizes.words → notes_empty lane.sender ≡ true
    → IsCell sizes words (cell_word sizes a b c 0) lane
    → IsCell sizes (set words (cell_word sizes a b c (1 + length lane.sender.body)) w) (cell_word sizes a b c 0) (with_sender lane (with_word lane.sender w))
sender_stored sizes words a b c lane w inside room free h =
    let at : ℕ = cell_word sizes a b c (1 + length lane.sender.body) in
    let header : ℕ = cell_word sizes a b c 0 in
    let now : List ℕ = set words at w in
    let s = h.sender free in
    let s0 = s.0 in
    let len = length-append lane.sender.body (w ∷ []) in
    record {
      empty = λ e. get_or-set_other words at header w 0 (λ f. absurd (omega arith)) ∙ h.empty e;
      full = λ e. absurd (omega arith);
      sender = λ _. (
        s.0,
        stand_more now header lane.sender.body w
            (ap (slice_index now) (word_along sizes a b c (1 + length lane.sender.body)) ∙ get_or-set_same words at w 0 inside)
            (λ i lt. get_or-set_other words at (header + (1 + i)) w 0 (λ f. absurd (omega arith)) ∙ s.1 i lt),
        omega arith,
      );
      taker = λ e. let t = h.taker e in let t0 = t.0 in absurd (omega arith);
    }
