-- Each kind of step keeps what holds of the table, but for the ticket.
use Rattle.std.proofs.Common.{◌≡◌, ℕ, ◌+◌, ◌<◌, ◌≤◌, true, List, ◌∷◌, length, drop, set, refl, sym, ap, ◌∙◌, subst, arith}
use Rattle.std.specs.Prelude.{slice_index}
use Rattle.std.proofs.lemmas.List.{set-get_or}
use Rattle.line_map.specs.Sizes.{Sizes}
use Rattle.op_model.specs.declared.events.Class.{Class}
use Rattle.op_model.specs.declared.messages.Msg.{Msg}
use Rattle.op_model.specs.Messages.{msg_content}
use Rattle.op_model.specs.MessageWords.{header_word, words_behind, IsMsgOf}
use Rattle.op_model.specs.Events.Step.{put_at}
use Rattle.op_model.specs.Parts.Part.{Part, Note, no_note, sent_to, flushed_to, taken_from, cleared_from, out_note, in_note, notes_empty}
use Rattle.lane_table.specs.Setups.{Setup}
use Rattle.lane_table.specs.Layout.{cell_word}
use Rattle.lane_table.specs.Cells.{LaneView, lane_view, IsCell}
use Rattle.lane_table.specs.Rule.{IsTable}
use Rattle.lane_table.specs.Steps.{loaded, with_word, done_with, looked_out, stored_out, posted, looked_in, read_in, freed}
use Rattle.lane_table.proofs.Places.{word_along, in_table}
use Rattle.lane_table.proofs.Fields.{field_same, field_when, field_here, at_here, at_else}
use Rattle.lane_table.proofs.Lanes.{lane_step}
use Rattle.lane_table.proofs.Sides.{with_sender, with_taker, posted_view, freed_view, sender_looked, taker_looked, taker_read, sender_posted, taker_freed, sender_stored}

module _ (setup : Setup) (words : List ℕ) (parts : ℕ → Part) (h : IsTable setup words parts) (n : ℕ) (me : n < setup.sizes.nodes) where
  abbrev z : Sizes
  z = setup.sizes

  -- a load leaves the words as they are
  stays : (i w : ℕ) → slice_index words i ≡ w → words ≡ set words i w
  stays i w is = sym (set-get_or words i 0) ∙ ap (set words i) is

  inside : (a b : ℕ) (c : Class) (i : ℕ) → a < z.nodes → b < z.nodes → i ≤ z.words → cell_word z a b c i < length words
  inside a b c i src dst le = let e = h.count in let l = in_table z a b c i src dst le in omega arith

  module _ (b : ℕ) (c : Class) (dst : b < z.nodes) where
    abbrev old : LaneView
    old = lane_view (parts n) (parts b) n b c

    -- a step that changes the sender's note alone
    sender_notes : (i w : ℕ) (t : Note) → i ≤ z.words → IsCell z (set words (cell_word z n b c i) w) (cell_word z n b c 0) (with_sender old t)
        → IsTable setup (set words (cell_word z n b c i) w) (put_at parts n (record (parts n) { out_notes = ((b, c), t) ∷ (parts n).out_notes }))
    sender_notes i w t le cell =
        let q : Part = record (parts n) { out_notes = ((b, c), t) ∷ (parts n).out_notes } in
        lane_step setup words parts n q n b c i w (with_sender old t) h me dst le (refl, refl, refl, refl) refl
        (λ j k d apart v. record {
          sent = field_same (λ p. sent_to p k d) parts n q j refl v;
          flushed = field_same (λ p. flushed_to p k d) parts n q j refl v;
          taken = field_same (λ p. taken_from p j d) parts n q k refl v;
          cleared = field_same (λ p. cleared_from p j d) parts n q k refl v;
          sender = field_when (λ p. out_note p k d) parts n q j (λ same. at_else no_note (parts n).out_notes b c t k d (λ u. apart (same, u.0, u.1))) v;
          taker = field_same (λ p. in_note p j d) parts n q k refl v;
        })
        (λ v. record {
          sent = field_same (λ p. sent_to p b c) parts n q n refl v;
          flushed = field_same (λ p. flushed_to p b c) parts n q n refl v;
          taken = field_same (λ p. taken_from p n c) parts n q b refl v;
          cleared = field_same (λ p. cleared_from p n c) parts n q b refl v;
          sender = (field_here (λ p. out_note p b c) parts n q ∙ at_here no_note (parts n).out_notes b c t) v;
          taker = field_same (λ p. in_note p n c) parts n q b refl v;
        })
        (let o = h.counts n b c in record { cleared = o.cleared; taken = o.taken; flushed = o.flushed; one = o.one })
        cell

    pub looks_out : (w : ℕ) → slice_index words (cell_word z n b c 0) ≡ w → IsTable setup (set words (cell_word z n b c 0) w) (put_at parts n (looked_out (parts n) b c w))
    looks_out w is =
        let t : Note = loaded (out_note (parts n) b c) w in
        let P : List ℕ → Type 0 = λ ws. IsCell z ws (cell_word z n b c 0) (with_sender old t) in
        sender_notes 0 w t (omega arith)
        (subst P (stays (cell_word z n b c 0) w is) (sender_looked z words (cell_word z n b c 0) old ((out_note (parts n) b c).loads + 1) w is (h.counts n b c) (h.cells n b c me dst)))

    pub stores_out : (w : ℕ) → notes_empty (out_note (parts n) b c) ≡ true → length (out_note (parts n) b c).body < z.words
        → IsTable setup (set words (cell_word z n b c (1 + length (out_note (parts n) b c).body)) w) (put_at parts n (stored_out (parts n) b c w))
    stores_out w free room =
        let i : ℕ = 1 + length (out_note (parts n) b c).body in
        sender_notes i w (with_word (out_note (parts n) b c) w) (omega arith) (sender_stored z words n b c old w (inside n b c i me dst (omega arith)) room free (h.cells n b c me dst))

    pub posts : (m : Msg) (rest : List Msg) → drop (flushed_to (parts n) b c) (sent_to (parts n) b c) ≡ m ∷ rest → IsMsgOf z m
        → (out_note (parts n) b c).body ≡ words_behind (msg_content m) → notes_empty (out_note (parts n) b c) ≡ true
        → IsTable setup (set words (cell_word z n b c 0) (header_word m)) (put_at parts n (posted (parts n) b c))
    posts m rest next of body free =
        let q : Part = posted (parts n) b c in
        let t : Note = done_with (out_note (parts n) b c) in
        let done = sender_posted z words (cell_word z n b c 0) old m rest (inside n b c 0 me dst (omega arith)) next of body free (h.counts n b c) (h.cells n b c me dst) in
        lane_step setup words parts n q n b c 0 (header_word m) (posted_view old) h me dst (omega arith) (refl, refl, refl, refl) refl
        (λ j k d apart v. record {
          sent = field_same (λ p. sent_to p k d) parts n q j refl v;
          flushed = field_when (λ p. flushed_to p k d) parts n q j (λ same. at_else 0 (parts n).flushed b c (flushed_to (parts n) b c + 1) k d (λ u. apart (same, u.0, u.1))) v;
          taken = field_same (λ p. taken_from p j d) parts n q k refl v;
          cleared = field_same (λ p. cleared_from p j d) parts n q k refl v;
          sender = field_when (λ p. out_note p k d) parts n q j (λ same. at_else no_note (parts n).out_notes b c t k d (λ u. apart (same, u.0, u.1))) v;
          taker = field_same (λ p. in_note p j d) parts n q k refl v;
        })
        (λ v. record {
          sent = field_same (λ p. sent_to p b c) parts n q n refl v;
          flushed = (field_here (λ p. flushed_to p b c) parts n q ∙ at_here 0 (parts n).flushed b c (flushed_to (parts n) b c + 1)) v;
          taken = field_same (λ p. taken_from p n c) parts n q b refl v;
          cleared = field_same (λ p. cleared_from p n c) parts n q b refl v;
          sender = (field_here (λ p. out_note p b c) parts n q ∙ at_here no_note (parts n).out_notes b c t) v;
          taker = field_same (λ p. in_note p n c) parts n q b refl v;
        })
        done.0 done.1

  module _ (a : ℕ) (c : Class) (src : a < z.nodes) where
    abbrev lane : LaneView
    lane = lane_view (parts a) (parts n) a n c

    -- a step that changes the taker's note alone
    taker_notes : (i w : ℕ) (t : Note) → i ≤ z.words → IsCell z (set words (cell_word z a n c i) w) (cell_word z a n c 0) (with_taker lane t)
        → IsTable setup (set words (cell_word z a n c i) w) (put_at parts n (record (parts n) { in_notes = ((a, c), t) ∷ (parts n).in_notes }))
    taker_notes i w t le cell =
        let q : Part = record (parts n) { in_notes = ((a, c), t) ∷ (parts n).in_notes } in
        lane_step setup words parts n q a n c i w (with_taker lane t) h src me le (refl, refl, refl, refl) refl
        (λ j k d apart v. record {
          sent = field_same (λ p. sent_to p k d) parts n q j refl v;
          flushed = field_same (λ p. flushed_to p k d) parts n q j refl v;
          taken = field_same (λ p. taken_from p j d) parts n q k refl v;
          cleared = field_same (λ p. cleared_from p j d) parts n q k refl v;
          sender = field_same (λ p. out_note p k d) parts n q j refl v;
          taker = field_when (λ p. in_note p j d) parts n q k (λ same. at_else no_note (parts n).in_notes a c t j d (λ u. apart (u.0, same, u.1))) v;
        })
        (λ v. record {
          sent = field_same (λ p. sent_to p n c) parts n q a refl v;
          flushed = field_same (λ p. flushed_to p n c) parts n q a refl v;
          taken = field_same (λ p. taken_from p a c) parts n q n refl v;
          cleared = field_same (λ p. cleared_from p a c) parts n q n refl v;
          sender = field_same (λ p. out_note p n c) parts n q a refl v;
          taker = (field_here (λ p. in_note p a c) parts n q ∙ at_here no_note (parts n).in_notes a c t) v;
        })
        (let o = h.counts a n c in record { cleared = o.cleared; taken = o.taken; flushed = o.flushed; one = o.one })
        cell

    pub looks_in : (w : ℕ) → slice_index words (cell_word z a n c 0) ≡ w → IsTable setup (set words (cell_word z a n c 0) w) (put_at parts n (looked_in (parts n) a c w))
    looks_in w is =
        let t : Note = loaded (in_note (parts n) a c) w in
        let P : List ℕ → Type 0 = λ ws. IsCell z ws (cell_word z a n c 0) (with_taker lane t) in
        taker_notes 0 w t (omega arith)
        (subst P (stays (cell_word z a n c 0) w is) (taker_looked z words (cell_word z a n c 0) lane ((in_note (parts n) a c).loads + 1) w is (h.counts a n c) (h.cells a n c src me)))

    pub reads_in : (w : ℕ) → length (in_note (parts n) a c).body < z.words → slice_index words (cell_word z a n c (1 + length (in_note (parts n) a c).body)) ≡ w
        → IsTable setup (set words (cell_word z a n c (1 + length (in_note (parts n) a c).body)) w) (put_at parts n (read_in (parts n) a c w))
    reads_in w room is =
        let t : Note = with_word (in_note (parts n) a c) w in
        let i : ℕ = 1 + length (in_note (parts n) a c).body in
        let at : ℕ = cell_word z a n c i in
        let P : List ℕ → Type 0 = λ ws. IsCell z ws (cell_word z a n c 0) (with_taker lane t) in
        taker_notes i w t (omega arith)
        (subst P (stays at w is) (taker_read z words (cell_word z a n c 0) lane w (ap (slice_index words) (word_along z a n c i) ∙ is) room (h.cells a n c src me)))

    pub clears : taken_from (parts n) a c ≡ cleared_from (parts n) a c + 1 → IsTable setup (set words (cell_word z a n c 0) 0) (put_at parts n (freed (parts n) a c))
    clears made =
        let q : Part = freed (parts n) a c in
        let t : Note = done_with (in_note (parts n) a c) in
        let done = taker_freed z words (cell_word z a n c 0) lane (inside a n c 0 src me (omega arith)) made (h.counts a n c) (h.cells a n c src me) in
        lane_step setup words parts n q a n c 0 0 (freed_view lane) h src me (omega arith) (refl, refl, refl, refl) refl
        (λ j k d apart v. record {
          sent = field_same (λ p. sent_to p k d) parts n q j refl v;
          flushed = field_same (λ p. flushed_to p k d) parts n q j refl v;
          taken = field_same (λ p. taken_from p j d) parts n q k refl v;
          cleared = field_when (λ p. cleared_from p j d) parts n q k (λ same. at_else 0 (parts n).cleared a c (cleared_from (parts n) a c + 1) j d (λ u. apart (u.0, same, u.1))) v;
          sender = field_same (λ p. out_note p k d) parts n q j refl v;
          taker = field_when (λ p. in_note p j d) parts n q k (λ same. at_else no_note (parts n).in_notes a c t j d (λ u. apart (u.0, same, u.1))) v;
        })
        (λ v. record {
          sent = field_same (λ p. sent_to p n c) parts n q a refl v;
          flushed = field_same (λ p. flushed_to p n c) parts n q a refl v;
          taken = field_same (λ p. taken_from p a c) parts n q n refl v;
          cleared = (field_here (λ p. cleared_from p a c) parts n q ∙ at_here 0 (parts n).cleared a c (cleared_from (parts n) a c + 1)) v;
          sender = field_same (λ p. out_note p n c) parts n q a refl v;
          taker = (field_here (λ p. in_note p a c) parts n q ∙ at_here no_note (parts n).in_notes a c t) v;
        })
        done.0 done.1
