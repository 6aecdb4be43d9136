-- The ticket keeps what holds of the table: by the law of parts the run goes on by the event, and the lanes stay in order.
use Rattle.std.proofs.Common.{◌≡◌, ◌≢◌, ◌⊎◌, inl, inr, ℕ, zero, suc, ◌+◌, ◌-◌, ◌*◌, ◌%◌, ◌^◌, ◌<◌, ◌≤◌, Bool, true, false, cond, ◌==◌, ◌&&◌, List, [], ◌∷◌, ◌++◌, length, drop, set, refl, sym, ap, ◌∙◌, subst, ⊎_elim, arith, append-nil, length-set, length-append, Option, Some, None}
use Rattle.std.specs.Prelude.{slice_index}
use Rattle.std.proofs.lemmas.Bool.{eqb-true, and_parts, cases_lt}
use Rattle.std.proofs.lemmas.List.{get_or-set_same, get_or-set_other, drop-append-le}
use Rattle.std.proofs.Math.Nat.{mul-le-mul_right}
use Rattle.line_map.specs.Sizes.{Sizes}
use Rattle.line_map.proofs.Public.{few-nodes}
use Rattle.op_model.specs.declared.events.Class.{Class}
use Rattle.op_model.specs.declared.events.Class.TheVariants.{Request}
use Rattle.op_model.specs.declared.events.Event.{Event}
use Rattle.op_model.specs.declared.events.Numbered.{Numbered}
use Rattle.op_model.specs.declared.messages.Msg.{Msg}
use Rattle.op_model.specs.MessageWords.{header_word, from_words}
use Rattle.op_model.specs.Shares.{Trace, program, Linked}
use Rattle.op_model.specs.Programs.{programs_of}
use Rattle.op_model.specs.Events.Step.{Programs, put_at, to_lane}
use Rattle.op_model.specs.Parts.Part.{Part, Note, no_note, at_lane, sent_to, flushed_to, taken_from, cleared_from, out_note, in_note, notes_empty, notes_full, logged}
use Rattle.op_model.specs.Parts.OwnStep.{own_step}
use Rattle.op_model.specs.Parts.Composition.{IsReady, IsOwnChange}
use Rattle.one_history.proofs.Public.{to_lane-append}
use Rattle.node_parts.proofs.Public.{own_change, some_when, ticket_drawn, total-put}
use Rattle.lane_table.specs.Setups.{Setup}
use Rattle.lane_table.specs.Layout.{cell_word}
use Rattle.lane_table.specs.Cells.{LaneView, lane_view, AreCounts, Stand, IsCell}
use Rattle.lane_table.specs.Rule.{IsTable, Keeps}
use Rattle.lane_table.specs.Steps.{ticketed}
use Rattle.lane_table.specs.Told.{tells_none}
use Rattle.lane_table.proofs.Fields.{put_else, field_same, field_here}
use Rattle.lane_table.proofs.Lanes.{cell_same}
use Rattle.lane_table.proofs.Reading.{read_back}
use Rattle.lane_table.proofs.Programs.{trace_of, told_programs, told_run}
use Rattle.lane_table.proofs.Sums.{total_most}

-- what a sender counts from bounds what the taker has left
gate_of : (v : Bool) (f t k : ℕ) → f ≤ k + 1 → k ≤ t → (v ≡ true → f ≡ k) → f - cond v 0 1 ≤ t
gate_of true f t k one le imp = let e = imp refl in omega arith
gate_of false f t k one le imp = omega arith

-- a note that stands is of a lane of the machine
stands_full : (note : Note) → notes_full note ≡ true → note.stands ≡ true
stands_full note e = (and_parts note.stands _ e).0

stands_empty : (note : Note) → notes_empty note ≡ true → note.stands ≡ true
stands_empty note e = (and_parts note.stands _ e).0

module _ (setup : Setup) (words : List ℕ) (parts : ℕ → Part) (h : IsTable setup words parts) where
  abbrev z : Sizes
  z = setup.sizes

  pub taker_in : (a b : ℕ) (c : Class) → b < z.nodes → notes_full (in_note (parts b) a c) ≡ true → a < z.nodes
  taker_in a b c lt full = ⊎_elim (λ (e : a < z.nodes). e)
      (λ (e : z.nodes ≤ a). absurd (let s = stands_full (in_note (parts b) a c) full in let u = (h.unused a b c (inl e)).taker in cc)) (cases_lt a z.nodes)

  sender_in : (a b : ℕ) (c : Class) → a < z.nodes → notes_empty (out_note (parts a) b c) ≡ true → b < z.nodes
  sender_in a b c lt empty = ⊎_elim (λ (e : b < z.nodes). e)
      (λ (e : z.nodes ≤ b). absurd (let s = stands_empty (out_note (parts a) b c) empty in let u = (h.unused a b c (inr e)).sender in cc)) (cases_lt b z.nodes)

  -- what the law of parts wants of the parts
  pub ready_of : (n : ℕ) → n < z.nodes → IsReady z (programs_of setup.programs) parts n
  ready_of n lt = record {
    number = (h.about n).number;
    machine = (h.about n).machine;
    program = (h.about n).program;
    counts = λ a b c. let o = h.counts a b c in let x = o.taken in let y = o.flushed in omega arith;
    front = λ a c m same note.
        let (full, text) = some_when (notes_full (in_note (parts n) a c)) (from_words z (in_note (parts n) a c).word (in_note (parts n) a c).body) m note in
        let src = taker_in a n c lt full in
        let cell = h.cells a n c src lt in
        let t = cell.taker full in
        let k = cell.full t.0 in
        let text' : from_words z (header_word k.msg) (in_note (parts n) a c).body ≡ Some m = (λ i. from_words z ((sym k.head ∙ t.1) i) (in_note (parts n) a c).body) ∙ text in
        let is : m ≡ k.msg = read_back z h.machine k.msg m (in_note (parts n) a c).body k.of_machine (λ i below below'. sym (t.2 i below) ∙ k.body i below') text' in
        (k.rest, ap (λ j. drop j (sent_to (parts a) n c)) same ∙ (k.first ∙ ap (λ y. y ∷ k.rest) (sym is)));
    gate = λ b.
        let o = h.counts n b Request in let one = o.one in let le = o.cleared in
        gate_of (notes_empty (out_note (parts n) b Request)) (flushed_to (parts n) b Request) (taken_from (parts b) n Request) (cleared_from (parts b) n Request) one le
        (λ e. ((h.cells n b Request lt (sender_in n b Request lt e)).sender e).0);
  }

-- messages sent at the end, and one taken, keep the counts of a lane and its cell
counts_after : (x y : LaneView) → AreCounts x → (more : List Msg) → y.sent ≡ x.sent ++ more → y.flushed ≡ x.flushed → y.cleared ≡ x.cleared
    → (y.taken ≡ x.taken) ⊎ ((y.taken ≡ x.taken + 1) × (x.taken ≡ x.cleared) × (x.flushed ≡ x.cleared + 1)) → AreCounts y
counts_after x y h more sent flushed cleared taken =
    let a = h.cleared in let b = h.taken in let c = h.flushed in let d = h.one in
    let len : length y.sent ≡ length x.sent + length more = ap length sent ∙ length-append x.sent more in
    ⊎_elim
    (λ (t : y.taken ≡ x.taken). record { cleared = omega arith; taken = omega arith; flushed = omega arith; one = omega arith })
    (λ (t : (y.taken ≡ x.taken + 1) × (x.taken ≡ x.cleared) × (x.flushed ≡ x.cleared + 1)). let t0 = t.0 in let t1 = t.1 in let t2 = t.2 in record { cleared = omega arith; taken = omega arith; flushed = omega arith; one = omega arith })
    taken

cell_after : (sizes : Sizes) (words : List ℕ) (header : ℕ) (x y : LaneView) → IsCell sizes words header x → (more : List Msg) → y.sent ≡ x.sent ++ more → y.flushed ≡ x.flushed → y.cleared ≡ x.cleared → y.sender ≡ x.sender → y.taker ≡ x.taker
    → x.cleared ≤ length x.sent → IsCell sizes words header y
cell_after sizes words header x y h more sent flushed cleared sender taker le =
    record {
      empty = λ e. h.empty (sym flushed ∙ (e ∙ cleared));
      full = λ e. let k = h.full (sym flushed ∙ (e ∙ ap (λ i. i + 1) cleared)) in
          record {
            msg = k.msg;
            rest = k.rest ++ more;
            of_machine = k.of_machine;
            head = k.head;
            body = k.body;
            first = (λ i. drop (cleared i) (sent i)) ∙ (drop-append-le x.cleared x.sent more le ∙ ap (λ ms. ms ++ more) k.first);
          };
      sender = λ e. let P : Note → Type 0 = λ t. notes_empty t ≡ true → (y.flushed ≡ y.cleared) × Stand words header t.body × (length t.body ≤ sizes.words) in
          subst P (sym sender) (λ e'. let s = h.sender e' in (flushed ∙ (s.0 ∙ sym cleared), s.1, s.2)) e;
      taker = λ e. let P : Note → Type 0 = λ t. notes_full t ≡ true → (y.flushed ≡ y.cleared + 1) × (slice_index words header ≡ t.word) × Stand words header t.body × (length t.body ≤ sizes.words) in
          subst P (sym taker) (λ e'. let s = h.taker e' in (flushed ∙ (s.0 ∙ ap (λ i. i + 1) (sym cleared)), s.1, s.2, s.3)) e;
    }

module _ (setup : Setup) (words : List ℕ) (parts : ℕ → Part) (h : IsTable setup words parts) (n : ℕ) (lt : n < setup.sizes.nodes) (e : Event) (q : Part) (goes : own_step Linked (parts n) e ≡ Some q) where
  abbrev k : ℕ
  k = length h.journal

  abbrev entry : Numbered
  entry = record { ticket = k; event = e }

  abbrev now : ℕ → Part
  now = put_at parts n (logged q entry)

  change : IsOwnChange (parts n) q
  change = own_change Linked (parts n) e q goes

  sents : (a b : ℕ) (c : Class) → (more : List Msg) × (sent_to (now a) b c ≡ sent_to (parts a) b c ++ more)
  sents a b c = here (a == n) refl
    where
      here : (v : Bool) → (a == n) ≡ v → (more : List Msg) × (sent_to (cond v (logged q entry) (parts a)) b c ≡ sent_to (parts a) b c ++ more)
      here true is = let s = own_change Linked (parts n) e q goes in
          (to_lane b c s.more, ap (λ xs. to_lane b c xs) s.sent ∙ (to_lane-append b c (parts n).sent s.more ∙ ap (λ m. sent_to (parts m) b c ++ to_lane b c s.more) (sym (eqb-true a n is))))
      here false is = ([], sym (append-nil (sent_to (parts a) b c)))

  takes : (a b : ℕ) (c : Class) → (taken_from (now b) a c ≡ taken_from (parts b) a c)
      ⊎ ((taken_from (now b) a c ≡ taken_from (parts b) a c + 1) × (taken_from (parts b) a c ≡ cleared_from (parts b) a c) × (flushed_to (parts a) b c ≡ cleared_from (parts b) a c + 1))
  takes a b c = here (b == n) refl
    where
      here : (v : Bool) → (b == n) ≡ v → (taken_from (cond v (logged q entry) (parts b)) a c ≡ taken_from (parts b) a c)
          ⊎ ((taken_from (cond v (logged q entry) (parts b)) a c ≡ taken_from (parts b) a c + 1) × (taken_from (parts b) a c ≡ cleared_from (parts b) a c) × (flushed_to (parts a) b c ≡ cleared_from (parts b) a c + 1))
      here true is =
          let s = own_change Linked (parts n) e q goes in
          let P : ℕ → Type 0 = λ m. (taken_from q a c ≡ taken_from (parts m) a c) ⊎ ((taken_from q a c ≡ taken_from (parts m) a c + 1) × (taken_from (parts m) a c ≡ cleared_from (parts m) a c) × (flushed_to (parts a) m c ≡ cleared_from (parts m) a c + 1)) in
          subst P (sym (eqb-true b n is))
          (⊎_elim (λ (t : taken_from q a c ≡ taken_from (parts n) a c). inl t)
          (λ (t : (taken_from q a c ≡ taken_from (parts n) a c + 1) × (taken_from (parts n) a c ≡ cleared_from (parts n) a c) × (notes_full (in_note (parts n) a c) ≡ true)).
          inr (t.0, t.1, ((h.cells a n c (taker_in setup words parts h a n c lt t.2) lt).taker t.2).0))
          (s.taken a c))
      here false is = inl refl

  abbrev next : List ℕ
  next = set words 0 ((slice_index words 0 + 1) % 2 ^ 64)

  flushed : (a b : ℕ) (c : Class) → flushed_to (now a) b c ≡ flushed_to (parts a) b c
  flushed a b c = field_same (λ p. flushed_to p b c) parts n (logged q entry) a (ap (λ t. at_lane 0 t b c) (own_change Linked (parts n) e q goes).flushed)

  cleared : (a b : ℕ) (c : Class) → cleared_from (now b) a c ≡ cleared_from (parts b) a c
  cleared a b c = field_same (λ p. cleared_from p a c) parts n (logged q entry) b (ap (λ t. at_lane 0 t a c) (own_change Linked (parts n) e q goes).cleared)

  senders : (a b : ℕ) (c : Class) → out_note (now a) b c ≡ out_note (parts a) b c
  senders a b c = field_same (λ p. out_note p b c) parts n (logged q entry) a (ap (λ t. at_lane no_note t b c) (own_change Linked (parts n) e q goes).out_notes)

  takers : (a b : ℕ) (c : Class) → in_note (now b) a c ≡ in_note (parts b) a c
  takers a b c = field_same (λ p. in_note p a c) parts n (logged q entry) b (ap (λ t. at_lane no_note t a c) (own_change Linked (parts n) e q goes).in_notes)

  cleared-sent : (a b : ℕ) (c : Class) → cleared_from (parts b) a c ≤ length (sent_to (parts a) b c)
  cleared-sent a b c = let o = h.counts a b c in let i = o.cleared in let j = o.taken in let m = o.flushed in omega arith

  -- the ticket word doesn't wrap
  up : (slice_index words 0 + 1) % 2 ^ 64 ≡ k + 1
  up =
      let size : k ≤ setup.sizes.nodes * 2 ^ 48 = subst (λ (y : ℕ). y ≤ setup.sizes.nodes * 2 ^ 48) h.entries (total_most setup.sizes.nodes (2 ^ 48) (λ m. length (parts m).log) h.few) in
      let most : setup.sizes.nodes * 2 ^ 48 ≤ 64 * 2 ^ 48 = mul-le-mul_right (2 ^ 48) (few-nodes setup.sizes h.machine) in
      let t = h.ticket in omega arith

  log-here : (now n).log ≡ (parts n).log ++ entry ∷ []
  log-here = field_here (λ p. p.log) parts n (logged q entry) ∙ ap (λ l. l ++ entry ∷ []) (own_change Linked (parts n) e q goes).about.3

  log-else : (m : ℕ) → m ≢ n → (now m).log ≡ (parts m).log
  log-else m ne = ap (λ (p : Part). p.log) (put_else parts n m (logged q entry) ne)

  pub ticket_step : length (parts n).log < 2 ^ 48 → IsTable setup next now
  ticket_step few =
      let about = (own_change Linked (parts n) e q goes).about in
      let trace : Trace = trace_of setup in
      let ready : IsReady setup.sizes (program trace) parts n = subst (λ (programs : Programs). IsReady setup.sizes programs parts n) (sym (told_programs setup h.programs)) (ready_of setup words parts h n lt) in
      let drawn = ticket_drawn Linked trace h.journal h.past parts n e q lt h.numbered (told_run setup h.programs h.journal ∙ h.ran) h.made ready goes in
      let ends : length (now n).log ≡ length (parts n).log + 1 = ap length log-here ∙ length-append (parts n).log (entry ∷ []) in
      let top : 0 < length words = (let c = h.count in omega arith) in
      record {
        machine = h.machine;
        programs = h.programs;
        count = length-set words 0 ((slice_index words 0 + 1) % 2 ^ 64) ∙ h.count;
        about = λ m. let t = h.about m in
            record {
              number = field_same (λ p. p.number) parts n (logged q entry) m about.0 ∙ t.number;
              machine = field_same (λ p. p.sizes) parts n (logged q entry) m about.1 ∙ t.machine;
              program = field_same (λ p. p.program) parts n (logged q entry) m about.2 ∙ t.program;
            };
        few = λ m. few_after m (m == n) refl few ends;
        counts = λ a b c. let (more, sent) = sents a b c in
            counts_after (lane_view (parts a) (parts b) a b c) (lane_view (now a) (now b) a b c) (h.counts a b c) more sent (flushed a b c) (cleared a b c) (takes a b c);
        cells = λ a b c src dst. let (more, sent) = sents a b c in
            cell_same setup.sizes words next (cell_word setup.sizes a b c 0) (lane_view (now a) (now b) a b c) (λ i _. get_or-set_other words 0 (cell_word setup.sizes a b c 0 + i) ((slice_index words 0 + 1) % 2 ^ 64) 0 (λ is. absurd (omega arith)))
            (cell_after setup.sizes words (cell_word setup.sizes a b c 0) (lane_view (parts a) (parts b) a b c) (lane_view (now a) (now b) a b c) (h.cells a b c src dst) more sent (flushed a b c) (cleared a b c) (senders a b c) (takers a b c) (cleared-sent a b c));
        unused = λ a b c far. let u = h.unused a b c far in
            record { flushed = flushed a b c ∙ u.flushed; sender = ap (λ t. t.stands) (senders a b c) ∙ u.sender; taker = ap (λ t. t.stands) (takers a b c) ∙ u.taker };
        journal = h.journal ++ e ∷ [];
        ticket = get_or-set_same words 0 ((slice_index words 0 + 1) % 2 ^ 64) 0 top ∙ (up ∙ sym (length-append h.journal (e ∷ [])));
        entries = total-put (λ m. length (parts m).log) (λ m. length (now m).log) setup.sizes.nodes n 1 lt (λ m ne. ap length (log-else m ne)) ends
            ∙ (ap (λ x. x + 1) h.entries ∙ sym (length-append h.journal (e ∷ [])));
        numbered = drawn.0;
        past = drawn.1.0;
        ran = sym (told_run setup h.programs (h.journal ++ e ∷ [])) ∙ drawn.1.1;
        made = drawn.1.2;
      }
    where
      few_after : (m : ℕ) (v : Bool) → (m == n) ≡ v → length (parts n).log < 2 ^ 48 → length (now n).log ≡ length (parts n).log + 1 → length (now m).log ≤ 2 ^ 48
      few_after m true is few ends = subst (λ i. length (now i).log ≤ 2 ^ 48) (sym (eqb-true m n is)) (let e = ends in omega arith)
      few_after m false is few ends = subst (λ l. length l ≤ 2 ^ 48) (sym (log-else m (λ same. let t = Rattle.std.proofs.Common.eq-eqb m n same in cc))) (h.few m)

-- the ticket as a step of the table
pub keeps_ticket : (setup : Setup) (p : Part) (e : Event) (q : Part) → own_step Linked p e ≡ Some q → length p.log < 2 ^ 48 → Keeps setup 0 (λ n. (n + 1) % 2 ^ 64) p (λ t. ticketed p (own_step Linked p e) t e) tells_none
keeps_ticket setup p e q goes few words parts table is lt small =
    let P : Part → Type 0 = λ x. own_step Linked x e ≡ Some q in
    let Q : Part → Type 0 = λ x. length x.log < 2 ^ 48 in
    let n : ℕ = p.number in
    let t : ℕ = slice_index words 0 in
    let done = ticket_step setup words parts table n lt e q (subst P is goes) (subst Q is few) in
    let R : ℕ → Type 0 = λ j. IsTable setup (set words 0 ((t + 1) % 2 ^ 64)) (put_at parts n (logged q (record { ticket = j; event = e }))) in
    let S : Option Part → Type 0 = λ o. ((ticketed p o t e).number ≡ n) × IsTable setup (set words 0 ((t + 1) % 2 ^ 64)) (put_at parts n (ticketed p o t e)) × Unit {0} in
    subst S (sym goes) ((own_change Linked p e q goes).about.0, subst R (sym table.ticket) done, tt)
