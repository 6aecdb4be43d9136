-- Each word is read behind those before it.
use Rattle.std.proofs.Common.{◌≡◌, ℕ, ◌+◌, ◌<◌, ◌≤◌, List, [], ◌∷◌, ◌++◌, length, take, sym, ap, ◌∙◌, subst, arith, length-take-le, length-set, refl}
use Rattle.std.proofs.lemmas.Grind.{take-set_at}
use Rattle.std.proofs.lemmas.List.{length-replicate}
use Rattle.line_map.specs.Sizes.{Sizes}
use Rattle.op_model.specs.Parts.Part.{Note, Part, in_note}
use Rattle.lane_table.specs.Layout.{cell_word}
use Rattle.lane_table.specs.Rule.{Keeps}
use Rattle.lane_table.specs.Steps.{read_in}
use Rattle.lane_table.specs.Views.{first_of}
use Rattle.lane_table.specs.Told.{Fronts}
use Rattle.lane_table.specs.Calls.{NotesIn}
use Rattle.lane_table.proofs.Places.{in_table, few_words_in}
use Rattle.lane_table.proofs.Keeping.{keeps_read}
use Rattle.lane_table.proofs.OneSeat.{one_part, one_part_is}
use Rattle.lane_table.proofs.Notes.{noted_in, same_in, noted_none, read_more}
use Rattle.lane_table.proofs.bodies.read_body.Goals as goal

pub overflow_add-at : goal.overflow_add-at
overflow_add-at c =
    let z : Sizes = c.args.t.now.setup.sizes in
    let n : ℕ = (first_of c.args.seat.now.me).number in
    let small : z.words ≤ 16 = let most = c.words-words.ensures.small in let end = c.words-words.ensures.value in let machine = ap (λ (s : Sizes). s.words) c.cfg.ensures.value in omega arith in
    let few = few_words_in z c.cfg.ensures.sized small in
    let inside = in_table z c.args.src n c.args.class 0 c.requires.src c.requires.number (omega arith) in
    let at = c.requires.place in
    omega arith

pub overflow_add-at-in-loop-i : goal.overflow_add-at-in-loop-i
overflow_add-at-in-loop-i c =
    let z : Sizes = c.args.t.now.setup.sizes in
    let n : ℕ = (first_of c.args.seat.now.me).number in
    let end = c.words-words.ensures.value in
    let machine = ap (λ (s : Sizes). s.words) c.cfg.ensures.value in
    let most = c.words-words.ensures.small in
    let below = c.loop-i-test.true in
    let small : z.words ≤ 16 = omega arith in
    let few = few_words_in z c.cfg.ensures.sized small in
    let inside = in_table z c.args.src n c.args.class (1 + c.loop-i.i) c.requires.src c.requires.number (omega arith) in
    let at = c.requires.place in
    omega arith

pub load_of-word-requires-clause-at : goal.load_of-word-requires-clause-at
load_of-word-requires-clause-at c =
    let z : Sizes = c.args.t.now.setup.sizes in
    let n : ℕ = (first_of c.args.seat.now.me).number in
    let end = c.words-words.ensures.value in
    let machine = ap (λ (s : Sizes). s.words) c.cfg.ensures.value in
    let below = c.loop-i-test.true in
    let table = c.cfg.ensures.words in
    let at = c.requires.place in
    let inside = in_table z c.args.src n c.args.class (1 + c.loop-i.i) c.requires.src c.requires.number (omega arith) in
    omega arith

pub load_of-word-requires-clause-keeps : goal.load_of-word-requires-clause-keeps
load_of-word-requires-clause-keeps c =
    let z : Sizes = c.args.t.now.setup.sizes in
    let setup = c.args.t.now.setup in
    let p : Part = first_of c.args.seat.now.me in
    let q : Part = first_of c.loop-i.seat.me in
    let i : ℕ = c.loop-i.i in
    let inv = c.loop-i.invariant in
    let t : Note = record (in_note p c.args.src c.args.class) { body = take i c.loop-i.body } in
    let number = (same_in p q c.args.src c.args.class t inv.note).0 in
    let end = c.words-words.ensures.value in
    let machine = ap (λ (s : Sizes). s.words) c.cfg.ensures.value in
    let below : i < z.words = let b = c.loop-i-test.true in omega arith in
    let room : i ≤ length c.loop-i.body = let l = inv.length in let b = c.loop-i-test.true in omega arith in
    let len : i ≡ length (in_note q c.args.src c.args.class).body = sym (ap (λ (m : Note). length m.body) (noted_in p q c.args.src c.args.class t inv.note) ∙ length-take-le i c.loop-i.body room) in
    let at : cell_word z c.args.src q.number c.args.class (1 + i) ≡ c.args.at + 1 + i = ap (λ k. cell_word z c.args.src k c.args.class (1 + i)) number ∙ (let e = c.requires.place in omega arith) in
    let P : ℕ → Type 0 = λ k. Keeps setup k (λ n. n) q (read_in q c.args.src c.args.class) (λ n. Unit {0} × Fronts setup (read_in q c.args.src c.args.class n) c.args.src c.args.class) in
    subst P at (keeps_read setup q c.args.src c.args.class i c.requires.src len below)

pub loop-i-init : goal.loop-i-init
loop-i-init c =
    let p : Part = first_of c.args.seat.now.me in
    let t : Note = record (in_note p c.args.src c.args.class) { body = [] } in
    let same : in_note p c.args.src c.args.class ≡ t = λ k. record (in_note p c.args.src c.args.class) { body = c.requires.none k } in
    record {
      table = c.requires.table;
      one = c.requires.one;
      length = ap length c.zeros-body.ensures ∙ length-replicate c.words-words.result 0;
      note = noted_none p c.args.src c.args.class t same;
      front = c.requires.front;
    }

pub loop-i-preserved : goal.loop-i-preserved
loop-i-preserved c =
    let p : Part = first_of c.args.seat.now.me in
    let q : Part = first_of c.loop-i.seat.me in
    let i : ℕ = c.loop-i.i in
    let inv = c.loop-i.invariant in
    let e = c.load_of-word.ensures in
    let w : ℕ = c.load_of-word.result in
    let t : Note = in_note p c.args.src c.args.class in
    let is = one_part_is c.load_of-word.new.seat.me (read_in q c.args.src c.args.class w) e.part in
    let lt : i < length c.loop-i.body = let l = inv.length in let b = c.loop-i-test.true in omega arith in
    let body : take (i + 1) c.put.new.self ≡ take i c.loop-i.body ++ w ∷ [] = ap (take (i + 1)) c.put.ensures ∙ take-set_at c.loop-i.body i (i + 1) w refl lt in
    let P : Part × List ℕ → Type 0 = λ x. NotesIn p x.0 c.args.src c.args.class (record t { body = x.1 }) in
    let Q : Part → Type 0 = λ x. Fronts c.args.t.now.setup x c.args.src c.args.class in
    record {
      table = e.table;
      one = one_part c.load_of-word.new.seat.me (read_in q c.args.src c.args.class w) e.part;
      length = ap length c.put.ensures ∙ (length-set c.loop-i.body i w ∙ inv.length);
      note = subst P (λ k. (sym is k, sym body k)) (read_more p q c.args.src c.args.class (record t { body = take i c.loop-i.body }) w inv.note);
      front = subst Q (sym is) e.told.1;
    }
