-- Moves one after the other join: what two reads took, and what two writes appended, is what one of both would have. Where the bytes aren't told there is nothing to show, and else each is an equation of lists.
use Rattle.std.proofs.Common.{◌≡◌, ℕ, ◌+◌, ◌-◌, List, [], ◌∷◌, ◌++◌, length, get_or, take, drop, flat_map, Option, Some, None, ◌<◌, ◌≤◌, min, sym, ap, ◌∙◌, append_assoc, arith, add-one}
use Rattle.std.proofs.lemmas.List.{drop-drop, take_rest, take_at, take-append-drop, take-append-le, length-append, length-drop}
use Rattle.std.proofs.lemmas.List.Concat.{flat_map-append}
use Rattle.std.proofs.Math.ListN.{drop_of_length-le}
use Rattle.std.proofs.Math.Seq.{take-add, take-append-add, drop-cons}
use Rattle.std.specs.Io.KnownBytes.{Consumes, Appends}
use Rattle.byte_io.specs.Moves.{AppendsPart}

-- ---- reads

pub consumes_more : (a b c : Option (List ℕ)) (xs ys : List ℕ) → Consumes a b xs → Consumes b c ys → Consumes a c (xs ++ ys)
consumes_more None b c xs ys p q = tt
consumes_more (Some a) None c xs ys p q = absurd p
consumes_more (Some a) (Some b) None xs ys p q = absurd q
consumes_more (Some a) (Some b) (Some c) xs ys p q = p ∙ ap (λ (r : List ℕ). xs ++ r) q ∙ sym (append_assoc xs ys c)

-- a read of n bytes from the place at, into the front of a buffer
pub moved : (xs copied buf : List ℕ) (at n room : ℕ) → n ≡ min (min (length buf) room) (length xs - at) → 0 < room → length copied ≡ n → copied ≡ take n (drop at xs)
    → (drop at xs ≡ take n (copied ++ drop n buf) ++ drop (at + n) xs) × (n ≡ 0 → 0 < length (copied ++ drop n buf) → drop (at + n) xs ≡ [])
moved xs copied buf at n room count pos long is =
    let front : take n (copied ++ drop n buf) ≡ copied = take_at copied (drop n buf) n long in
    let back : drop (at + n) xs ≡ drop n (drop at xs) = sym (drop-drop n at xs) in
    (rw (front, back, is) (sym (take-append-drop n (drop at xs))), λ none some. drop_of_length-le xs (omega (arith, length-append copied (drop n buf), length-drop n buf)))

-- ---- writes

pub appends_more : (a b c : Option (List ℕ)) (xs ys : List ℕ) → Appends a b xs → Appends b c ys → Appends a c (xs ++ ys)
appends_more None b c xs ys p q = tt
appends_more (Some a) None c xs ys p q = absurd p
appends_more (Some a) (Some b) None xs ys p q = absurd q
appends_more (Some a) (Some b) (Some c) xs ys p q = q ∙ ap (λ (r : List ℕ). r ++ ys) p ∙ append_assoc a xs ys

-- s bytes, and then n of the rest
pub sent_more : (a b c : Option (List ℕ)) (bytes : List ℕ) (s n : ℕ) → Appends a b (take s bytes) → Appends b c (take n (take (length bytes - s) (drop s bytes))) → Appends a c (take (s + n) bytes)
sent_more a b c bytes s n p q =
    let both = appends_more a b c (take s bytes) (take n (drop s bytes)) p (rw take_rest at q) in
    rw (take-add s n bytes) both

-- a whole text, and then part of a piece that more follows
pub part_more : (a b c : Option (List ℕ)) (front piece back : List ℕ) → Appends a b front → AppendsPart b c piece → AppendsPart a c (front ++ (piece ++ back))
part_more a b c front piece back p q =
    let within : q.count ≤ length piece = omega (arith, q.short) in
    let same : take (length front + q.count) (front ++ (piece ++ back)) ≡ front ++ take q.count piece =
    take-append-add front (piece ++ back) q.count ∙ ap (λ (r : List ℕ). front ++ r) (take-append-le q.count piece back within) in
    record {
      count = length front + q.count;
      written = rw same (appends_more a b c front (take q.count piece) p q.written);
      short = omega (arith, q.short, length-append front (piece ++ back), length-append piece back);
    }

-- ---- texts of several pieces

-- the pieces before one, that one, and the pieces after it
pub flat_map-split : {X : Type 0} (f : X → List ℕ) (xs : List X) (i : ℕ) (d : X) → i < length xs → flat_map f xs ≡ flat_map f (take i xs) ++ (f (get_or xs i d) ++ flat_map f (drop (i + 1) xs))
flat_map-split f xs i d within =
    let cut : drop i xs ≡ get_or xs i d ∷ drop (i + 1) xs = rw add-one (drop-cons xs i d within) in
    ap (flat_map f) (sym (take-append-drop i xs)) ∙ flat_map-append f (take i xs) (drop i xs) ∙ ap (λ r. flat_map f (take i xs) ++ flat_map f r) cut

-- all pieces before one, and then part of that one
pub pieces_part : {X : Type 0} (f : X → List ℕ) (xs : List X) (i : ℕ) (d : X) (a b c : Option (List ℕ)) → i < length xs → Appends a b (flat_map f (take i xs)) → AppendsPart b c (f (get_or xs i d)) → AppendsPart a c (flat_map f xs)
pieces_part f xs i d a b c within p q =
    rw (flat_map-split f xs i d within) (part_more a b c (flat_map f (take i xs)) (f (get_or xs i d)) (flat_map f (drop (i + 1) xs)) p q)
