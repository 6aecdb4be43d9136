-- The flat memory and the words of a line. An operation served on the words of its line makes a legal entry, which changes the
-- words of that line as the operation does, and of no other line: a word stands in one line, at one place.
use Rattle.std.proofs.Common.{◌≡◌, ◌≢◌, ℕ, ◌+◌, ◌*◌, ◌/◌, ◌%◌, ◌<◌, mod-lt, div-add-mod', Bool, true, false, cond, ◌==◌, length, get_or, slice_set, set, length-set, get_or-set_other, get_or-set_same, refl, arith, ap, sym, ◌∙◌}
use Rattle.std.proofs.lemmas.List.{ext_get_or}
use Rattle.std.proofs.lemmas.Bool.Decides.{nat_tests}
use Rattle.std.proofs.lemmas.List.FromFn.{get_or-map-range_with_len, length-map-range_with_len}
use Rattle.std.proofs.lemmas.Nat.{div-mul-add}
use Rattle.std.specs.FinMap as fin
use Rattle.std.specs.FinMap.{gets}
use Rattle.op_model.specs.declared.operations.Op.{Op}
use Rattle.op_model.specs.Flat.{FlatMemory, IsLegalAt, after_entry, flat_at}
use Rattle.op_model.specs.Operations.{Words, after_op, entry_of, is_load, old_at, place_in, word_in, written}
use Rattle.one_history.specs.Project.{words_at}

pub word-is : (size : ℕ) (flat : FlatMemory) (line off : ℕ) → off < size → get_or (words_at size flat line) off 0 ≡ flat_at flat (line * size + off)
unfolding words_at
word-is size flat line off h = get_or-map-range_with_len (λ i. flat_at flat (line * size + i)) 0 size off off 0 h (omega arith)

words-length : (size : ℕ) (flat : FlatMemory) (line : ℕ) → length (words_at size flat line) ≡ size
unfolding words_at
words-length size flat line = length-map-range_with_len (λ i. flat_at flat (line * size + i)) 0 size

put-here : (flat : FlatMemory) (w v : ℕ) → flat_at (fin.insert flat w v) w ≡ v
put-here flat w v = grind (arith, gets)

put-there : (flat : FlatMemory) (w v q : ℕ) → q ≢ w → flat_at (fin.insert flat w v) q ≡ flat_at flat q
put-there flat w v q other = grind (arith, nat_tests, gets)

apart-words : (size line q i off : ℕ) → q ≢ line → i < size → off < size → q * size + i ≢ line * size + off
apart-words size line q i off other a b e = other (sym (div-mul-add q size i a) ∙ ap (λ n. n / size) e ∙ div-mul-add line size off b)

pub written-here : (size : ℕ) (flat : FlatMemory) (line off v : ℕ) → off < size → words_at size (fin.insert flat (line * size + off) v) line ≡ slice_set (words_at size flat line) off v
written-here size flat line off v h =
    ext_get_or 0 _ _ (words-length size _ line ∙ sym (length-set (words_at size flat line) off v ∙ words-length size flat line))
    (λ i lt. let below : i < size = omega (arith, words-length size (fin.insert flat (line * size + off) v) line) in
    word-is size _ line i below ∙ go i below (i == off) refl)
  where
    go : (i : ℕ) → i < size → (b : Bool) → (i == off) ≡ b → flat_at (fin.insert flat (line * size + off) v) (line * size + i) ≡ get_or (set (words_at size flat line) off v) i 0
    go i below true e =
        let same : i ≡ off = grind (arith, nat_tests) in
        ap (λ k. flat_at (fin.insert flat (line * size + off) v) (line * size + k)) same ∙ put-here flat (line * size + off) v
        ∙ sym (ap (λ k. get_or (set (words_at size flat line) off v) k 0) same ∙ (let lt : off < length (words_at size flat line) = omega (arith, words-length size flat line) in rw get_or-set_same))
    go i below false e =
        let other : i ≢ off = grind (arith, nat_tests) in
        put-there flat _ v _ (omega arith) ∙ sym (rw get_or-set_other (word-is size flat line i below))

pub written-there : (size : ℕ) (flat : FlatMemory) (line off v q : ℕ) → off < size → q ≢ line → words_at size (fin.insert flat (line * size + off) v) q ≡ words_at size flat q
written-there size flat line off v q h other =
    ext_get_or 0 _ _ (words-length size _ q ∙ sym (words-length size flat q))
    (λ i lt. let below : i < size = omega (arith, words-length size (fin.insert flat (line * size + off) v) q) in
    word-is size _ q i below ∙ put-there flat _ v _ (apart-words size line q i off other below h) ∙ sym (word-is size flat q i below))

-- an operation of this line that is served on its words in the flat memory makes a legal entry
module _ (size : ℕ) (flat : FlatMemory) (node index line : ℕ) (op : Op) (on : Words) (positive : 0 < size) (here : op.word / size ≡ line) (fresh : on ≡ words_at size flat line) where
  abbrev off : ℕ
  off = op.word % size

  below : off < size
  below = mod-lt op.word positive

  word : line * size + off ≡ op.word
  word = ap (λ l. l * size + off) (sym here) ∙ div-add-mod' op.word size

  place : place_in op (words_at size flat line) ≡ off
  place = ap (λ n. op.word % n) (words-length size flat line)

  has : word_in op (words_at size flat line) ≡ flat_at flat op.word
  has = ap (λ k. get_or (words_at size flat line) k 0) place ∙ word-is size flat line off below ∙ ap (flat_at flat) word

  old-is : word_in op on ≡ flat_at flat op.word
  old-is = ap (word_in op) fresh ∙ has

  pub entry-legal : IsLegalAt flat (entry_of node index op on)
  entry-legal = record { loaded = λ load. (rw load) ∙ old-is; old = ap (old_at op.kind) old-is }

  pub entry-here : words_at size (after_entry flat (entry_of node index op on)) line ≡ after_op op (words_at size flat line)
  unfolding after_op
  entry-here = go (is_load op.kind)
    where
      go : (c : Bool) → words_at size (cond c flat (fin.insert flat op.word (written op.kind (flat_at flat op.word) (cond c (word_in op on) op.value)))) line ≡ cond c (words_at size flat line) (set (words_at size flat line) (place_in op (words_at size flat line)) (written op.kind (word_in op (words_at size flat line)) op.value))
      go true = refl
      go false =
          ap (λ w. words_at size (fin.insert flat w (written op.kind (flat_at flat op.word) op.value)) line) (sym word)
          ∙ written-here size flat line off (written op.kind (flat_at flat op.word) op.value) below
          ∙ ap (λ k. set (words_at size flat line) k (written op.kind (flat_at flat op.word) op.value)) (sym place)
          ∙ ap (λ x. set (words_at size flat line) (place_in op (words_at size flat line)) (written op.kind x op.value)) (sym has)

  pub entry-there : (q : ℕ) → q ≢ line → words_at size (after_entry flat (entry_of node index op on)) q ≡ words_at size flat q
  entry-there q other = go (is_load op.kind)
    where
      go : (c : Bool) → words_at size (cond c flat (fin.insert flat op.word (written op.kind (flat_at flat op.word) (cond c (word_in op on) op.value)))) q ≡ words_at size flat q
      go true = refl
      go false =
          ap (λ w. words_at size (fin.insert flat w (written op.kind (flat_at flat op.word) op.value)) q) (sym word)
          ∙ written-there size flat line off (written op.kind (flat_at flat op.word) op.value) q below other
