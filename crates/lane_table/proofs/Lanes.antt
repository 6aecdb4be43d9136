-- A step that changes one word and one lane keeps all others.
use Rattle.std.proofs.Common.{◌≡◌, ℕ, ◌+◌, ◌^◌, ◌<◌, ◌≤◌, List, length, set, sym, ap, ◌∙◌, subst, ⊎_elim, arith, length-set}
use Rattle.std.specs.Prelude.{slice_index}
use Rattle.std.proofs.lemmas.List.{get_or-set_other}
use Rattle.line_map.specs.Sizes.{Sizes}
use Rattle.op_model.specs.declared.events.Class.{Class}
use Rattle.op_model.specs.declared.events.Event.{Event}
use Rattle.op_model.specs.declared.events.Numbered.{Numbered}
use Rattle.op_model.specs.declared.messages.Msg.{Msg}
use Rattle.op_model.specs.Messages.{Content, Get, GetX, FwdGet, FwdGetX, Inv, Wb, Rpl, Put, PutX, Nak, InvAck, ShWb, FAck, Nakc, msg_content}
use Rattle.op_model.specs.MessageWords.{words_behind, IsContentOf, IsMsgOf}
use Rattle.op_model.specs.Events.Step.{put_at}
use Rattle.op_model.specs.Run.Weight.{total}
use Rattle.op_model.specs.Parts.Part.{Part}
use Rattle.op_model.specs.Parts.Journal.{drawn, Agrees, IsJournal}
use Rattle.node_parts.proofs.Public.{compose_same, core}
use Rattle.lane_table.specs.Setups.{Setup}
use Rattle.lane_table.specs.Layout.{cell_word}
use Rattle.lane_table.specs.Cells.{LaneView, lane_view, AreCounts, Stand, IsCell, IsUnused}
use Rattle.lane_table.specs.Rule.{IsTable}
use Rattle.lane_table.proofs.Places.{one_place, word_along}
use Rattle.lane_table.proofs.Fields.{field_same, lane_tells}

few_behind : (sizes : Sizes) (content : Content) → IsContentOf sizes content → length (words_behind content) ≤ sizes.words
few_behind sizes Get h = omega arith
few_behind sizes GetX h = omega arith
few_behind sizes (FwdGet req) h = omega arith
few_behind sizes (FwdGetX req) h = omega arith
few_behind sizes Inv h = omega arith
few_behind sizes (Wb words) h = omega arith
few_behind sizes Rpl h = omega arith
few_behind sizes (Put words) h = omega arith
few_behind sizes (PutX words) h = omega arith
few_behind sizes (Nak cause) h = omega arith
few_behind sizes InvAck h = omega arith
few_behind sizes (ShWb words) h = omega arith
few_behind sizes FAck h = omega arith
few_behind sizes Nakc h = omega arith

pub few_words : (sizes : Sizes) (m : Msg) → IsMsgOf sizes m → length (words_behind (msg_content m)) ≤ sizes.words
few_words sizes m h = few_behind sizes (msg_content m) h.1

-- a cell whose words stay is kept
pub cell_same : (sizes : Sizes) (words now : List ℕ) (header : ℕ) (lane : LaneView) → ((k : ℕ) → k ≤ sizes.words → slice_index now (header + k) ≡ slice_index words (header + k))
    → IsCell sizes words header lane → IsCell sizes now header lane
cell_same sizes words now header lane same h =
    let head : slice_index now header ≡ slice_index words header =
    let P : ℕ → Type 0 = λ k. slice_index now k ≡ slice_index words k in let at : header + 0 ≡ header = omega arith in subst P at (same 0 (omega arith)) in
    let stand = λ (ws : List ℕ) (few : length ws ≤ sizes.words) (s : Stand words header ws) (i : ℕ) (lt : i < length ws). same (1 + i) (omega arith) ∙ s i lt in
    record {
      empty = λ e. head ∙ h.empty e;
      full = λ e. let c = h.full e in
          record { msg = c.msg; rest = c.rest; first = c.first; of_machine = c.of_machine; head = head ∙ c.head; body = stand (words_behind (msg_content c.msg)) (few_words sizes c.msg c.of_machine) c.body };
      sender = λ e. let s = h.sender e in (s.0, stand lane.sender.body s.2 s.1, s.2);
      taker = λ e. let s = h.taker e in (s.0, head ∙ s.1, stand lane.taker.body s.3 s.2, s.3);
    }

-- logs that are the same have the same journal
pub journal_same : (nodes : ℕ) (parts next : ℕ → Part) (journal : List Event) → ((n : ℕ) → (next n).log ≡ (parts n).log) → IsJournal nodes parts journal → IsJournal nodes next journal
journal_same nodes parts next journal same h =
    record {
      once = λ ticket. ap {A = ℕ → List Numbered} (λ logs. total (λ n. drawn ticket (logs n)) nodes) (λ v n. same n v) ∙ h.once ticket;
      agrees = λ n lt. subst (Agrees journal) (sym (same n)) (h.agrees n lt);
    }

-- one lane changes, and one word of its cell
pub lane_step : (setup : Setup) (words : List ℕ) (parts : ℕ → Part) (n : ℕ) (q : Part) (a b : ℕ) (c : Class) (i new : ℕ) (lane : LaneView)
    → IsTable setup words parts → a < setup.sizes.nodes → b < setup.sizes.nodes → i ≤ setup.sizes.words
    → (q.number ≡ (parts n).number) × (q.sizes ≡ (parts n).sizes) × (q.program ≡ (parts n).program) × (q.log ≡ (parts n).log)
    → core q ≡ core (parts n)
    → ((j k : ℕ) (d : Class) → ((j ≡ a) × (k ≡ b) × (d ≡ c) → ⊥) → lane_view (put_at parts n q j) (put_at parts n q k) j k d ≡ lane_view (parts j) (parts k) j k d)
    → lane_view (put_at parts n q a) (put_at parts n q b) a b c ≡ lane
    → AreCounts lane → IsCell setup.sizes (set words (cell_word setup.sizes a b c i) new) (cell_word setup.sizes a b c 0) lane
    → IsTable setup (set words (cell_word setup.sizes a b c i) new) (put_at parts n q)
lane_step setup words parts n q a b c i new lane h src dst le about same others mine counts kept =
    let z : Sizes = setup.sizes in
    let next : ℕ → Part = put_at parts n q in
    let now : List ℕ = set words (cell_word z a b c i) new in
    let logs : (m : ℕ) → (next m).log ≡ (parts m).log = λ m. field_same (λ p. p.log) parts n q m about.3 in
    record {
      machine = h.machine;
      programs = h.programs;
      count = length-set words (cell_word z a b c i) new ∙ h.count;
      about = λ m. let t = h.about m in
          record {
            number = field_same (λ p. p.number) parts n q m about.0 ∙ t.number;
            machine = field_same (λ p. p.sizes) parts n q m about.1 ∙ t.machine;
            program = field_same (λ p. p.program) parts n q m about.2 ∙ t.program;
          };
      few = λ m. subst (λ l. length l ≤ 2 ^ 48) (sym (logs m)) (h.few m);
      counts = λ j k d. ⊎_elim
          (λ (t : (j ≡ a) × (k ≡ b) × (d ≡ c)).
          let P : ℕ × (ℕ × Class) → Type 0 = λ y. AreCounts (lane_view (next y.0) (next y.1.0) y.0 y.1.0 y.1.1) in
          subst P (λ v. (sym t.0 v, (sym t.1 v, sym t.2 v))) (subst AreCounts (sym mine) counts))
          (λ (t : (j ≡ a) × (k ≡ b) × (d ≡ c) → ⊥). subst AreCounts (sym (others j k d t)) (h.counts j k d))
          (lane_tells a b c j k d);
      cells = λ j k d lt lt'. ⊎_elim
          (λ (t : (j ≡ a) × (k ≡ b) × (d ≡ c)).
          let P : ℕ × (ℕ × Class) → Type 0 = λ y. IsCell z now (cell_word z y.0 y.1.0 y.1.1 0) (lane_view (next y.0) (next y.1.0) y.0 y.1.0 y.1.1) in
          let Q : LaneView → Type 0 = λ y. IsCell z now (cell_word z a b c 0) y in
          subst P (λ v. (sym t.0 v, (sym t.1 v, sym t.2 v))) (subst Q (sym mine) kept))
          (λ (t : (j ≡ a) × (k ≡ b) × (d ≡ c) → ⊥).
          let Q : LaneView → Type 0 = λ y. IsCell z now (cell_word z j k d 0) y in
          subst Q (sym (others j k d t))
          (cell_same z words now (cell_word z j k d 0) (lane_view (parts j) (parts k) j k d)
          (λ m le'. get_or-set_other words (cell_word z a b c i) (cell_word z j k d 0 + m) new 0
          (λ e. let p = one_place z j k d m a b c i lt' dst le' le (sym (word_along z j k d m) ∙ e) in t (p.0, p.1, p.2)))
          (h.cells j k d lt lt')))
          (lane_tells a b c j k d);
      unused = λ j k d far. ⊎_elim
          (λ (t : (j ≡ a) × (k ≡ b) × (d ≡ c)). absurd (⊎_elim (λ (e : z.nodes ≤ j). let s = t.0 in absurd (omega arith)) (λ (e : z.nodes ≤ k). let s = t.1 in absurd (omega arith)) far))
          (λ (t : (j ≡ a) × (k ≡ b) × (d ≡ c) → ⊥). subst IsUnused (sym (others j k d t)) (h.unused j k d far))
          (lane_tells a b c j k d);
      journal = h.journal;
      ticket = get_or-set_other words (cell_word z a b c i) 0 new 0 (λ e. absurd (omega arith)) ∙ h.ticket;
      entries = ap {A = ℕ → List Numbered} (λ l. total (λ m. length (l m)) z.nodes) (λ v m. logs m v) ∙ h.entries;
      numbered = journal_same z.nodes parts next h.journal logs h.numbered;
      past = h.past;
      ran = h.ran;
      made = h.made ∙ sym (compose_same parts n q same);
    }
