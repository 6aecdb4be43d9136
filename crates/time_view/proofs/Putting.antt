-- Lines that were put behind a text, one after another.
use Rattle.std.proofs.Common.{◌≡◌, ℕ, ◌+◌, List, [], ◌∷◌, ◌++◌, length, map, take, slice_get, Some, refl, sym, ap, ◌∙◌, append_assoc, add-one, arith}
use Rattle.std.specs.List.{flat_map, range_with_len}
use Rattle.std.proofs.lemmas.List.{append-nil, length-append}
use Rattle.std.proofs.lemmas.Grind.{flat_map-append}
use Rattle.text_lines.specs.Printing.{line_text}
use Rattle.dir_report.proofs.Public.{flat_map-range_more, flat_map-take_more}
use Rattle.op_model.specs.Run.Schedules.{Lane}
use Rattle.time_view.specs.Puts.{ArePut}

-- the lines of a text, each made of words
abbrev pub Lines : Type 0
Lines = List (List (List ℕ))

pub none_put : (text : List ℕ) → ArePut text text 0 []
none_put text = record { many = refl; text = sym (append-nil text) }

pub one_put : (before after : List ℕ) (words : List (List ℕ)) → after ≡ before ++ line_text words → ArePut before after 1 (words ∷ [])
one_put before after words is = record { many = refl; text = is ∙ ap (λ (xs : List ℕ). before ++ xs) (sym (append-nil (line_text words))) }

pub put_then : (a b c : List ℕ) (m n : ℕ) (xs ys : Lines) → ArePut a b m xs → ArePut b c n ys → ArePut a c (m + n) (xs ++ ys)
put_then a b c m n xs ys first second =
    record {
      many = omega (arith, first.many, second.many, length-append xs ys);
      text =
          second.text ∙ ap (λ (zs : List ℕ). zs ++ flat_map line_text ys) first.text
          ∙ append_assoc a (flat_map line_text xs) (flat_map line_text ys)
          ∙ ap (λ (zs : List ℕ). a ++ zs) (sym (flat_map-append line_text xs ys));
    }

-- what is put for each number below another, one more at a time
pub range_put : (f : ℕ → Lines) (a b c : List ℕ) (m n i : ℕ) → ArePut a b m (flat_map f (range_with_len 0 i)) → ArePut b c n (f i) → ArePut a c (m + n) (flat_map f (range_with_len 0 (i + 1)))
range_put f a b c m n i first second =
    let both = put_then a b c m n (flat_map f (range_with_len 0 i)) (f i) first second in
    let more = flat_map-range_more f i in
    record {
      many = both.many ∙ ap length (sym more);
      text = both.text ∙ ap (λ (xs : Lines). a ++ flat_map line_text xs) (sym more);
    }

-- the same where the lines are those of the lanes that belong to each number
pub lanes_put : (lines : Lane → Lines) (lanes : ℕ → List Lane) (a b c : List ℕ) (m n i : ℕ) → ArePut a b m (flat_map lines (flat_map lanes (range_with_len 0 i))) → ArePut b c n (flat_map lines (lanes i)) → ArePut a c (m + n) (flat_map lines (flat_map lanes (range_with_len 0 (i + 1))))
lanes_put lines lanes a b c m n i first second =
    let both = put_then a b c m n (flat_map lines (flat_map lanes (range_with_len 0 i))) (flat_map lines (lanes i)) first second in
    let more = sym (flat_map-append lines (flat_map lanes (range_with_len 0 i)) (lanes i)) ∙ ap (λ (xs : List Lane). flat_map lines xs) (sym (flat_map-range_more lanes i)) in
    record {
      many = both.many ∙ ap length more;
      text = both.text ∙ ap (λ (xs : Lines). a ++ flat_map line_text xs) more;
    }

-- the lines of two lanes
pub two_put : (lines : Lane → Lines) (a b c : List ℕ) (m n : ℕ) (p q : Lane) → ArePut a b m (lines p) → ArePut b c n (lines q) → ArePut a c (m + n) (flat_map lines (p ∷ q ∷ []))
two_put lines a b c m n p q first second =
    let both = put_then a b c m n (lines p) (lines q) first second in
    let more : lines p ++ lines q ≡ flat_map lines (p ∷ q ∷ []) = ap (λ (xs : Lines). lines p ++ xs) (sym (append-nil (lines q))) in
    record {
      many = both.many ∙ ap length more;
      text = both.text ∙ ap (λ (xs : Lines). a ++ flat_map line_text xs) more;
    }

-- what is printed for each element of a list, each in its words, one more at a time
pub mapped_more : {X : Type 0} (f : X → List (List ℕ)) (xs : List X) (i : ℕ) (x : X) (before now next : List ℕ) → slice_get xs i ≡ Some x → now ≡ before ++ flat_map (λ y. line_text (f y)) (take i xs) → next ≡ now ++ line_text (f x) → next ≡ before ++ flat_map (λ y. line_text (f y)) (take (i + 1) xs)
mapped_more f xs i x before now next at is more =
    more ∙ ap (λ (zs : List ℕ). zs ++ line_text (f x)) is ∙ append_assoc before (flat_map (λ y. line_text (f y)) (take i xs)) (line_text (f x))
    ∙ ap (λ (zs : List ℕ). before ++ zs) (sym (rw add-one (flat_map-take_more (λ y. line_text (f y)) xs i x at)))

pub mapped_text : {X : Type 0} (f : X → List (List ℕ)) (xs : List X) → flat_map (λ y. line_text (f y)) xs ≡ flat_map line_text (map f xs)
mapped_text f [] = refl
mapped_text f (x ∷ xs) = ap (λ (zs : List ℕ). line_text (f x) ++ zs) (mapped_text f xs)
