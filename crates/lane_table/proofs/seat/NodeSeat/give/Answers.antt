-- The words are stored behind an empty header word, and then the header word.
use Rattle.std.proofs.Common.{◌≡◌, ℕ, true, ◌∷◌, sym, ap, ◌∙◌, subst}
use Rattle.op_model.specs.declared.messages.Msg.{Msg}
use Rattle.op_model.specs.Messages.{msg_content}
use Rattle.op_model.specs.MessageWords.{header_word, words_behind}
use Rattle.op_model.specs.Parts.Part.{Part, Note, out_note, notes_empty}
use Rattle.lane_table.specs.Layout.{cell_word}
use Rattle.lane_table.specs.Rule.{Keeps}
use Rattle.lane_table.specs.Steps.{posted}
use Rattle.lane_table.specs.Views.{SeatView, first_of}
use Rattle.lane_table.specs.Told.{unflushed, tells_none}
use Rattle.lane_table.specs.Calls.{Gives}
use Rattle.lane_table.proofs.Keeping.{keeps_posted}
use Rattle.lane_table.proofs.OneSeat.{one_part_is}
use Rattle.lane_table.proofs.Notes.{noted_out, same_out, gives}
use Rattle.lane_table.proofs.seat.NodeSeat.give.Goals as goal

pub store_of-requires-clause-keeps : goal.store_of-requires-clause-keeps
store_of-requires-clause-keeps c =
    let z = c.args.t.now.setup.sizes in
    let setup = c.args.t.now.setup in
    let p : Part = first_of c.self.inside.seat.me in
    let q : Part = first_of c.put_words.new.seat.me in
    let b = c.args.dst in
    let d = c.args.class in
    let m : Msg = c.args.msg.now in
    let same : c.args.self.now.part ≡ p = sym (ap (λ (s : SeatView). s.part) c.self.view_is) in
    let noted = c.put_words.ensures.note in
    let note : Note = record (out_note p b d) { body = words_behind (msg_content m) } in
    let stored = noted_out p q b d note noted in
    let free : notes_empty (out_note p b d) ≡ true = (let Q : Part → Type 0 = λ x. notes_empty (out_note x b d) ≡ true in subst Q same c.requires.free) in
    let next : unflushed q b d ≡ m ∷ c.requires.next.0 = ap (λ x. unflushed x b d) noted.is ∙ (let Q : Part → Type 0 = λ x. unflushed x b d ≡ m ∷ c.requires.next.0 in subst Q same c.requires.next.1) in
    let number : cell_word z q.number b d 0 ≡ c.header_at-at.result = ap (λ k. cell_word z k b d 0) ((same_out p q b d note noted).0 ∙ c.self.invariant.1) ∙ sym c.header_at-at.ensures.place in
    let word : header_word m ≡ c.header_word.result = sym c.header_word.ensures in
    let P : ℕ × ℕ → Type 0 = λ x. Keeps setup x.0 (λ _. x.1) q (λ _. posted q b d) tells_none in
    subst P (λ k. (number k, word k)) (keeps_posted setup q b d m c.requires.next.0 c.requires.dst next (ap (λ n. n.body) stored) (ap notes_empty stored ∙ free))

pub returns-clause-part : goal.returns-clause-part
returns-clause-part c =
    let p : Part = first_of c.self.inside.seat.me in
    let q : Part = first_of c.put_words.new.seat.me in
    let b = c.args.dst in
    let d = c.args.class in
    let same : p ≡ c.args.self.now.part = ap (λ (s : SeatView). s.part) c.self.view_is in
    let is = one_part_is c.store_of.new.seat.me (posted q b d) c.store_of.ensures.part in
    let P : Part × Part → Type 0 = λ x. Gives x.0 x.1 b d in
    subst P (λ k. (same k, sym is k)) (gives p q b d (words_behind (msg_content c.args.msg.now)) c.put_words.ensures.note)
