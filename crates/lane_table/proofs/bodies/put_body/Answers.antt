-- Each word is stored behind those before it.
use Rattle.std.proofs.Common.{◌≡◌, ℕ, ◌+◌, ◌<◌, ◌≤◌, true, List, [], ◌∷◌, ◌++◌, length, take, sym, ap, ◌∙◌, subst, arith, length-take-le, take-suc, add-one}
use Rattle.line_map.specs.Sizes.{Sizes}
use Rattle.op_model.specs.Parts.Part.{Note, Part, out_note, notes_empty}
use Rattle.lane_table.specs.Layout.{cell_word}
use Rattle.lane_table.specs.Rule.{Keeps}
use Rattle.lane_table.specs.Steps.{stored_out}
use Rattle.lane_table.specs.Views.{first_of}
use Rattle.lane_table.specs.Told.{tells_none}
use Rattle.lane_table.specs.Calls.{NotesOut}
use Rattle.lane_table.proofs.Places.{in_table, few_words_in}
use Rattle.lane_table.proofs.Keeping.{keeps_stored}
use Rattle.lane_table.proofs.OneSeat.{one_part, one_part_is}
use Rattle.lane_table.proofs.Notes.{noted_out, same_out, stored_none, stored_more}
use Rattle.lane_table.proofs.bodies.put_body.Goals as goal

pub overflow_add-at : goal.overflow_add-at
overflow_add-at c =
    let z : Sizes = c.args.t.now.setup.sizes in
    let n : ℕ = (first_of c.args.seat.now.me).number in
    let small : z.words ≤ 16 = let most = c.words-i-end.ensures.small in let end = c.words-i-end.ensures.value in let machine = ap (λ (s : Sizes). s.words) c.cfg.ensures.value in omega arith in
    let few = few_words_in z c.cfg.ensures.sized small in
    let inside = in_table z n c.args.dst c.args.class 0 c.requires.number c.requires.dst (omega arith) in
    let at = c.requires.place in
    omega arith

pub overflow_add-at-in-loop-i : goal.overflow_add-at-in-loop-i
overflow_add-at-in-loop-i c =
    let z : Sizes = c.args.t.now.setup.sizes in
    let n : ℕ = (first_of c.args.seat.now.me).number in
    let end = c.words-i-end.ensures.value in
    let machine = ap (λ (s : Sizes). s.words) c.cfg.ensures.value in
    let most = c.words-i-end.ensures.small in
    let below = c.loop-i-test.true in
    let small : z.words ≤ 16 = omega arith in
    let few = few_words_in z c.cfg.ensures.sized small in
    let inside = in_table z n c.args.dst c.args.class (1 + c.loop-i.i) c.requires.number c.requires.dst (omega arith) in
    let at = c.requires.place in
    omega arith

pub store_of-requires-clause-at : goal.store_of-requires-clause-at
store_of-requires-clause-at c =
    let z : Sizes = c.args.t.now.setup.sizes in
    let n : ℕ = (first_of c.args.seat.now.me).number in
    let end = c.words-i-end.ensures.value in
    let machine = ap (λ (s : Sizes). s.words) c.cfg.ensures.value in
    let below = c.loop-i-test.true in
    let table = c.cfg.ensures.words in
    let at = c.requires.place in
    let inside = in_table z n c.args.dst c.args.class (1 + c.loop-i.i) c.requires.number c.requires.dst (omega arith) in
    omega arith

pub store_of-requires-clause-keeps : goal.store_of-requires-clause-keeps
store_of-requires-clause-keeps c =
    let z : Sizes = c.args.t.now.setup.sizes in
    let setup = c.args.t.now.setup in
    let p : Part = first_of c.args.seat.now.me in
    let q : Part = first_of c.loop-i.seat.me in
    let i : ℕ = c.loop-i.i in
    let w : ℕ = c.get-word.result in
    let inv = c.loop-i.invariant in
    let t : Note = record (out_note p c.args.dst c.args.class) { body = take i c.args.body.now } in
    let number = (same_out p q c.args.dst c.args.class t inv.note).0 in
    let end = c.words-i-end.ensures.value in
    let machine = ap (λ (s : Sizes). s.words) c.cfg.ensures.value in
    let below : i < z.words = let b = c.loop-i-test.true in omega arith in
    let room : i ≤ length c.args.body.now = let l = c.requires.words in omega arith in
    let noted = noted_out p q c.args.dst c.args.class t inv.note in
    let len : i ≡ length (out_note q c.args.dst c.args.class).body = sym (ap (λ (m : Note). length m.body) noted ∙ length-take-le i c.args.body.now room) in
    let free : notes_empty (out_note q c.args.dst c.args.class) ≡ true = ap notes_empty noted ∙ c.requires.free in
    let at : cell_word z q.number c.args.dst c.args.class (1 + i) ≡ c.args.at + 1 + i = ap (λ k. cell_word z k c.args.dst c.args.class (1 + i)) number ∙ (let e = c.requires.place in omega arith) in
    let P : ℕ → Type 0 = λ k. Keeps setup k (λ _. w) q (λ _. stored_out q c.args.dst c.args.class w) tells_none in
    subst P at (keeps_stored setup q c.args.dst c.args.class i w c.requires.dst free len below)

pub loop-i-init : goal.loop-i-init
loop-i-init c =
    let p : Part = first_of c.args.seat.now.me in
    let t : Note = record (out_note p c.args.dst c.args.class) { body = [] } in
    let same : out_note p c.args.dst c.args.class ≡ t = λ k. record (out_note p c.args.dst c.args.class) { body = c.requires.none k } in
    record { table = c.requires.table; one = c.requires.one; note = stored_none p c.args.dst c.args.class t same }

pub loop-i-preserved : goal.loop-i-preserved
loop-i-preserved c =
    let p : Part = first_of c.args.seat.now.me in
    let q : Part = first_of c.loop-i.seat.me in
    let i : ℕ = c.loop-i.i in
    let inv = c.loop-i.invariant in
    let e = c.store_of.ensures in
    let w : ℕ = c.get-word.result in
    let t : Note = out_note p c.args.dst c.args.class in
    let is = one_part_is c.store_of.new.seat.me (stored_out q c.args.dst c.args.class w) e.part in
    let machine = ap (λ (s : Sizes). s.words) c.cfg.ensures.value in
    let lt : i < length c.args.body.now = let l = c.requires.words in let end = c.words-i-end.ensures.value in let b = c.loop-i-test.true in omega arith in
    let more : take (i + 1) c.args.body.now ≡ take i c.args.body.now ++ w ∷ [] =
    ap (λ n. take n c.args.body.now) (add-one i) ∙ (take-suc c.args.body.now i 0 lt ∙ ap (λ x. take i c.args.body.now ++ x ∷ []) (sym c.get-word.ensures)) in
    let P : Part × List ℕ → Type 0 = λ x. NotesOut p x.0 c.args.dst c.args.class (record t { body = x.1 }) in
    record {
      table = e.table;
      one = one_part c.store_of.new.seat.me (stored_out q c.args.dst c.args.class w) e.part;
      note = subst P (λ k. (sym is k, sym more k)) (stored_more p q c.args.dst c.args.class (record t { body = take i c.args.body.now }) w inv.note);
    }
