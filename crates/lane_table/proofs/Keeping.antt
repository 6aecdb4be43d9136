-- Each kind of step of a seat, with what it tells: whatever the words and the parts are, it keeps what holds of the table.
use Rattle.std.proofs.Common.{◌≡◌, ℕ, ◌+◌, ◌%◌, ◌^◌, ◌<◌, true, List, ◌∷◌, length, set, refl, sym, ap, ◌∙◌, subst, Some, All}
use Rattle.std.specs.Prelude.{slice_index}
use Rattle.std.proofs.lemmas.List.Elements.{All-head}
use Rattle.line_map.specs.Sizes.{Sizes}
use Rattle.op_model.specs.declared.events.Class.{Class}
use Rattle.op_model.specs.declared.events.Event.{Event}
use Rattle.op_model.specs.declared.messages.Msg.{Msg}
use Rattle.op_model.specs.Messages.{msg_content}
use Rattle.op_model.specs.MessageWords.{header_word, words_behind, IsMsgOf}
use Rattle.op_model.specs.Shares.{Linked}
use Rattle.op_model.specs.Events.Step.{put_at}
use Rattle.op_model.specs.Parts.Part.{Part, taken_from, cleared_from, out_note, in_note, notes_empty}
use Rattle.op_model.specs.Parts.OwnStep.{own_step}
use Rattle.lane_table.specs.Setups.{Setup}
use Rattle.lane_table.specs.Layout.{cell_word}
use Rattle.lane_table.specs.Cells.{LaneView, lane_view}
use Rattle.lane_table.specs.Rule.{IsTable, Keeps}
use Rattle.lane_table.specs.Steps.{looked_out, stored_out, posted, looked_in, read_in, freed, ticketed}
use Rattle.lane_table.specs.Told.{unflushed, IsReached, IsOutgoing, Fronts, IsHeader, tells_none}
use Rattle.lane_table.proofs.Fields.{put_here}
use Rattle.lane_table.proofs.Sides.{one_there}
use Rattle.lane_table.proofs.EachKind.{looks_out, stores_out, posts, looks_in, reads_in, clears}
use Rattle.lane_table.proofs.Ticket.{keeps_ticket}
use Rattle.lane_table.proofs.Facts.{fronts, outgoing, reached}

-- a step after which the table is in order tells of it
also_tells : (setup : Setup) (i : ℕ) (f : ℕ → ℕ) (p : Part) (after : ℕ → Part) (tells : ℕ → Type 0) (Of : Part → Type 0)
    → ((words : List ℕ) (parts : ℕ → Part) → IsTable setup words parts → p.number < setup.sizes.nodes → Of (parts p.number))
    → Keeps setup i f p after tells → Keeps setup i f p after (λ n. tells n × Of (after n))
also_tells setup i f p after tells Of of step words parts table is lt small =
    let (same, next, told) = step words parts table is lt small in
    let q : Part = after (slice_index words i) in
    (same, next, (told, subst Of (put_here parts p.number p.number q refl) (of (set words i (f (slice_index words i))) (put_at parts p.number q) next lt)))

looks : (setup : Setup) (p : Part) (b : ℕ) (c : Class) → b < setup.sizes.nodes → Keeps setup (cell_word setup.sizes p.number b c 0) (λ n. n) p (looked_out p b c) tells_none
looks setup p b c dst words parts table is lt small =
    let w : ℕ = slice_index words (cell_word setup.sizes p.number b c 0) in
    let P : Part → Type 0 = λ x. IsTable setup (set words (cell_word setup.sizes p.number b c 0) w) (put_at parts p.number (looked_out x b c w)) in
    (refl, subst P (sym is) (looks_out setup words parts table p.number lt b c dst w refl), tt)

-- the sender's load of a header word
pub keeps_out : (setup : Setup) (p : Part) (b : ℕ) (c : Class) → b < setup.sizes.nodes
    → Keeps setup (cell_word setup.sizes p.number b c 0) (λ n. n) p (looked_out p b c) (λ n. Unit {0} × IsOutgoing setup.sizes (looked_out p b c n))
keeps_out setup p b c dst =
    also_tells setup (cell_word setup.sizes p.number b c 0) (λ n. n) p (looked_out p b c) tells_none (IsOutgoing setup.sizes) (λ words parts table lt. outgoing setup words parts table p.number) (looks setup p b c dst)

-- the sender's store of a body word
pub keeps_stored : (setup : Setup) (p : Part) (b : ℕ) (c : Class) (i w : ℕ) → b < setup.sizes.nodes → notes_empty (out_note p b c) ≡ true → i ≡ length (out_note p b c).body → i < setup.sizes.words
    → Keeps setup (cell_word setup.sizes p.number b c (1 + i)) (λ _. w) p (λ _. stored_out p b c w) tells_none
keeps_stored setup p b c i w dst free same room words parts table is lt small =
    let n : ℕ = p.number in
    let z : Sizes = setup.sizes in
    let P : Part × ℕ → Type 0 = λ x. notes_empty (out_note x.0 b c) ≡ true → x.1 < z.words → IsTable setup (set words (cell_word z n b c (1 + x.1)) w) (put_at parts n (stored_out x.0 b c w)) in
    let e : length (out_note (parts n) b c).body ≡ i = ap (λ r. length (out_note r b c).body) (sym is) ∙ sym same in
    (refl, subst P (λ k. (sym is k, e k)) (λ f l. stores_out setup words parts table n lt b c dst w f l) free room, tt)

-- the sender's store of a header word
pub keeps_posted : (setup : Setup) (p : Part) (b : ℕ) (c : Class) (m : Msg) (rest : List Msg) → b < setup.sizes.nodes → unflushed p b c ≡ m ∷ rest → (out_note p b c).body ≡ words_behind (msg_content m) → notes_empty (out_note p b c) ≡ true
    → Keeps setup (cell_word setup.sizes p.number b c 0) (λ _. header_word m) p (λ _. posted p b c) tells_none
keeps_posted setup p b c m rest dst next body free words parts table is lt small =
    let n : ℕ = p.number in
    let Q : Part → Type 0 = λ x. (unflushed x b c ≡ m ∷ rest) × ((out_note x b c).body ≡ words_behind (msg_content m)) × (notes_empty (out_note x b c) ≡ true) in
    let P : Part → Type 0 = λ x. IsTable setup (set words (cell_word setup.sizes n b c 0) (header_word m)) (put_at parts n (posted x b c)) in
    let f = subst Q is (next, body, free) in
    let of : IsMsgOf setup.sizes m = All-head (IsMsgOf setup.sizes) m rest (subst (All (IsMsgOf setup.sizes)) f.0 ((outgoing setup words parts table n).of_machine b c)) in
    (refl, subst P (sym is) (posts setup words parts table n lt b c dst m rest f.0 of f.1 f.2), tt)

looks_at : (setup : Setup) (p : Part) (a : ℕ) (c : Class) → a < setup.sizes.nodes → Keeps setup (cell_word setup.sizes a p.number c 0) (λ n. n) p (looked_in p a c) (IsHeader setup.sizes)
looks_at setup p a c src words parts table is lt small =
    let z : Sizes = setup.sizes in
    let w : ℕ = slice_index words (cell_word z a p.number c 0) in
    let x : LaneView = lane_view (parts a) (parts p.number) a p.number c in
    let P : Part → Type 0 = λ x. IsTable setup (set words (cell_word z a p.number c 0) w) (put_at parts p.number (looked_in x a c w)) in (
      refl,
      subst P (sym is) (looks_in setup words parts table p.number lt a c src w refl),
      (λ ne. let k = (table.cells a p.number c src lt).full (one_there z words (cell_word z a p.number c 0) x (table.counts a p.number c) (table.cells a p.number c src lt) ne) in (k.msg, k.of_machine, sym k.head)),
    )

-- the taker's load of a header word
pub keeps_in : (setup : Setup) (p : Part) (a : ℕ) (c : Class) → a < setup.sizes.nodes
    → Keeps setup (cell_word setup.sizes a p.number c 0) (λ n. n) p (looked_in p a c) (λ n. IsHeader setup.sizes n × Fronts setup (looked_in p a c n) a c)
keeps_in setup p a c src =
    also_tells setup (cell_word setup.sizes a p.number c 0) (λ n. n) p (looked_in p a c) (IsHeader setup.sizes) (λ q. Fronts setup q a c) (λ words parts table lt. fronts setup words parts table p.number lt a c) (looks_at setup p a c src)

reads : (setup : Setup) (p : Part) (a : ℕ) (c : Class) (i : ℕ) → a < setup.sizes.nodes → i ≡ length (in_note p a c).body → i < setup.sizes.words → Keeps setup (cell_word setup.sizes a p.number c (1 + i)) (λ n. n) p (read_in p a c) tells_none
reads setup p a c i src same room words parts table is lt small =
    let n : ℕ = p.number in
    let z : Sizes = setup.sizes in
    let w : ℕ = slice_index words (cell_word z a n c (1 + i)) in
    let P : Part × ℕ → Type 0 = λ x. x.1 < z.words → slice_index words (cell_word z a n c (1 + x.1)) ≡ w → IsTable setup (set words (cell_word z a n c (1 + x.1)) w) (put_at parts n (read_in x.0 a c w)) in
    let e : length (in_note (parts n) a c).body ≡ i = ap (λ r. length (in_note r a c).body) (sym is) ∙ sym same in
    (refl, subst P (λ k. (sym is k, e k)) (λ l s. reads_in setup words parts table n lt a c src w l s) room refl, tt)

-- the taker's load of a body word
pub keeps_read : (setup : Setup) (p : Part) (a : ℕ) (c : Class) (i : ℕ) → a < setup.sizes.nodes → i ≡ length (in_note p a c).body → i < setup.sizes.words
    → Keeps setup (cell_word setup.sizes a p.number c (1 + i)) (λ n. n) p (read_in p a c) (λ n. Unit {0} × Fronts setup (read_in p a c n) a c)
keeps_read setup p a c i src same room =
    also_tells setup (cell_word setup.sizes a p.number c (1 + i)) (λ n. n) p (read_in p a c) tells_none (λ q. Fronts setup q a c) (λ words parts table lt. fronts setup words parts table p.number lt a c) (reads setup p a c i src same room)

-- the taker's store of 0
pub keeps_freed : (setup : Setup) (p : Part) (a : ℕ) (c : Class) → a < setup.sizes.nodes → taken_from p a c ≡ cleared_from p a c + 1 → Keeps setup (cell_word setup.sizes a p.number c 0) (λ _. 0) p (λ _. freed p a c) tells_none
keeps_freed setup p a c src made words parts table is lt small =
    let n : ℕ = p.number in
    let Q : Part → Type 0 = λ x. taken_from x a c ≡ cleared_from x a c + 1 in
    let P : Part → Type 0 = λ x. IsTable setup (set words (cell_word setup.sizes a n c 0) 0) (put_at parts n (freed x a c)) in
    (refl, subst P (sym is) (clears setup words parts table n lt a c src (subst Q is made)), tt)

-- what a node knows after it drew a ticket
abbrev pub Drawn : Setup → Part → Type 0
Drawn setup part = IsReached setup part × IsOutgoing setup.sizes part

-- the ticket
pub keeps_drawn : (setup : Setup) (p : Part) (e : Event) (q : Part) → own_step Linked p e ≡ Some q → length p.log < 2 ^ 48
    → Keeps setup 0 (λ n. (n + 1) % 2 ^ 64) p (λ t. ticketed p (own_step Linked p e) t e) (λ t. Unit {0} × Drawn setup (ticketed p (own_step Linked p e) t e))
keeps_drawn setup p e q goes few =
    also_tells setup 0 (λ n. (n + 1) % 2 ^ 64) p (λ t. ticketed p (own_step Linked p e) t e) tells_none (Drawn setup) (λ words parts table lt. (reached setup words parts table p.number lt, outgoing setup words parts table p.number)) (keeps_ticket setup p e q goes few)
