-- An input is cut line by line, and what it is as a trace is told by its two pieces.
use Rattle.std.proofs.Common.{◌≡◌, ℕ, suc, ◌+◌, ◌-◌, ◌<◌, ◌≤◌, true, false, eqb, List, [], ◌∷◌, ◌++◌, length, get_or, take, drop, take-append-drop, drop-cons, eqb-true, Result, Ok, Err, refl, sym, ap, subst, ◌∙◌, ◌⊎◌, inl, inr, append-nil, append_assoc, arith}
use Rattle.std.specs.Prelude.{codes, if◌then◌else◌}
use Rattle.std.specs.Str.{bytes_eq}
use Rattle.std.proofs.lemmas.Bool.{cases_Bool}
use Rattle.std.proofs.lemmas.List.{length-append, length-take-le, get_or-take}
use Rattle.std.proofs.lemmas.List.Elements.{All-nil, All-head, All-tail, All-push}
use Rattle.std.proofs.lemmas.Slice.Eq.{bytes_eq-Decides}
use Rattle.op_model.specs.Shares.{Trace}
use Rattle.text_lines.specs.Lines.{Line, lines_of, without_return, is_skipped, kept, left}
use Rattle.text_lines.proofs.Public.{cut_nowhere, line_none}
use Rattle.trace_text.specs.declared.fault.TraceError.{TraceError}
use Rattle.trace_text.specs.Reading.{trace_in, trace_of}
use Rattle.trace_text.specs.Spelling.{Ends, EndsBehindSteps, IsSpelled}
use Rattle.trace_text.proofs.Public.{read_spelled}
use Rattle.hist_check.specs.Cut.{is_end, HaveNoEnd, EndThere, IsCut, with_rest, IsApart, IsFirstLine}
use Rattle.hist_check.proofs.Ends.{NoneEnds, trace_whole}

-- ---- the first line

lines_before : (text more : List ℕ) → ((k : ℕ) → k < length text → eqb (get_or text k 0) 10 ≡ false) → lines_of (text ++ 10 ∷ more) ≡ text ∷ lines_of more
lines_before [] more none = refl
lines_before (b ∷ bs) more none =
    let h = lines_before bs more (λ k lt. none (suc k) (omega arith)) in
    let e : eqb b 10 ≡ false = none 0 (omega arith) in
    rw (e, h) refl

line_some : (bytes text rest : List ℕ) → bytes ≡ text ++ 10 ∷ rest → ((k : ℕ) → k < length text → eqb (get_or text k 0) 10 ≡ false) → IsFirstLine bytes text rest
line_some bytes text rest is none =
    record {
      front = text ++ 10 ∷ [];
      whole = is ∙ sym (append_assoc text (10 ∷ []) rest);
      some = omega (arith, length-append text (10 ∷ []));
      line = alone;
      apart = inl (λ more. ap lines_of (append_assoc text (10 ∷ []) more) ∙ lines_before text more none ∙ ap (λ (ls : List (List ℕ)). ls ++ lines_of more) (sym alone));
    }
  where
    alone : lines_of (text ++ 10 ∷ []) ≡ text ∷ []
    alone = lines_before text [] none

pub line_found : (bytes : List ℕ) (i : ℕ) → i < length bytes → ((k : ℕ) → k < i → eqb (get_or bytes k 0) 10 ≡ false) → eqb (get_or bytes i 0) 10 ≡ true → IsFirstLine bytes (take i bytes) (drop (suc i) bytes)
line_found bytes i lt none at =
    line_some bytes (take i bytes) (drop (suc i) bytes)
    (sym (take-append-drop i bytes) ∙ ap (λ (bs : List ℕ). take i bytes ++ bs) (drop-cons bytes i 0 lt) ∙ ap (λ b. take i bytes ++ b ∷ drop (suc i) bytes) (eqb-true (get_or bytes i 0) 10 at))
    (λ k below. let within : k < i = omega (arith, below, length-take-le i bytes (omega arith)) in ap (λ b. eqb b 10) (get_or-take i bytes k 0 within) ∙ none k within)

pub line_last : (bytes : List ℕ) → 0 < length bytes → ((k : ℕ) → k < length bytes → eqb (get_or bytes k 0) 10 ≡ false) → IsFirstLine bytes bytes []
line_last bytes some none =
    record { front = bytes; whole = sym (append-nil bytes); some = some; line = line_none bytes some (cut_nowhere 10 bytes none); apart = inr refl }

-- ---- line by line

-- the lines read so far are those of a front, and none of them is `end`
pub record IsReadOn (bytes rest : List ℕ) (next : ℕ) : Type 0 where
  pub front : List ℕ
  pub whole : bytes ≡ front ++ rest
  pub apart : IsApart front ⊎ (rest ≡ [])
  pub number : next ≡ length (lines_of front) + 1
  pub none : HaveNoEnd (lines_of front)
  pub few : next + length rest ≤ length bytes + 1

pub read-none : (bytes : List ℕ) → IsReadOn bytes bytes 1
read-none bytes = record { front = []; whole = refl; apart = inl (λ more. refl); number = refl; none = All-nil (λ (text : List ℕ). is_end text ≡ false); few = omega arith }

-- there is more to read only behind a line that has ended
apart-there : (front rest : List ℕ) → 0 < length rest → IsApart front ⊎ (rest ≡ []) → IsApart front
apart-there front rest some (inl apart) = apart
apart-there front rest some (inr none) = absurd (let e = ap length none in omega (arith, e, some))

apart-both : (front line : List ℕ) → IsApart front → IsApart line → IsApart (front ++ line)
apart-both front line a b more =
    ap lines_of (append_assoc front line more) ∙ a (line ++ more) ∙ ap (λ (ls : List (List ℕ)). lines_of front ++ ls) (b more)
    ∙ sym (append_assoc (lines_of front) (lines_of line) (lines_of more)) ∙ ap (λ (ls : List (List ℕ)). ls ++ lines_of more) (sym (a line))

module _ (bytes rest : List ℕ) (next : ℕ) (text behind : List ℕ) (is : IsReadOn bytes rest next) (some : 0 < length rest) (line : IsFirstLine rest text behind) where
  abbrev front : List ℕ
  front = is.front ++ line.front

  so_far : IsApart is.front
  so_far = apart-there is.front rest some is.apart

  whole : bytes ≡ front ++ behind
  whole = is.whole ∙ ap (λ (bs : List ℕ). is.front ++ bs) line.whole ∙ sym (append_assoc is.front line.front behind)

  lines : lines_of front ≡ lines_of is.front ++ text ∷ []
  lines = so_far line.front ∙ ap (λ (ls : List (List ℕ)). lines_of is.front ++ ls) line.line

  apart : IsApart line.front ⊎ (behind ≡ []) → IsApart front ⊎ (behind ≡ [])
  apart (inl a) = inl (apart-both is.front line.front so_far a)
  apart (inr none) = inr none

  number : next + 1 ≡ length (lines_of front) + 1
  number = omega (arith, is.number, ap length lines, length-append (lines_of is.front) (text ∷ []))

  few : (next + 1) + length behind ≤ length bytes + 1
  few = omega (arith, is.few, line.some, ap length line.whole, length-append line.front behind)

  pub read-more : is_end text ≡ false → IsReadOn bytes behind (next + 1)
  read-more other = record {
    front = front;
    whole = whole;
    apart = apart line.apart;
    number = number;
    none = subst HaveNoEnd (sym lines) (All-push (λ (t : List ℕ). is_end t ≡ false) (lines_of is.front) text is.none other);
    few = few;
  }

  lines_apart : IsApart front ⊎ (behind ≡ []) → lines_of (front ++ behind) ≡ lines_of front ++ lines_of behind
  lines_apart (inl a) = a behind
  lines_apart (inr none) = subst (λ (bs : List ℕ). lines_of (front ++ bs) ≡ lines_of front ++ lines_of bs) (sym none) (ap lines_of (append-nil front) ∙ sym (append-nil (lines_of front)))

  pub cut-here : (trace : List ℕ) → trace ≡ front → is_end text ≡ true → IsCut bytes trace behind (next + 1)
  cut-here trace same over = subst (λ (t : List ℕ). IsCut bytes t behind (next + 1)) (sym same) (record {
    whole = whole;
    lines = ap lines_of whole ∙ lines_apart (apart line.apart);
    number = number;
    ends = inl (record { before = lines_of is.front; last = text; whole = lines; first = is.none; over = over });
  })

  pub taken : take (length bytes - length behind) bytes ≡ front
  taken = front-taken front behind bytes whole
    where
      front-taken : (front behind bytes : List ℕ) → bytes ≡ front ++ behind → take (length bytes - length behind) bytes ≡ front
      front-taken front behind bytes e =
          let n : length bytes - length behind ≡ length front = omega (arith, ap length e, length-append front behind) in
          ap (λ k. take k bytes) n ∙ ap (take (length front)) e ∙ go front behind
        where
          go : (xs ys : List ℕ) → take (length xs) (xs ++ ys) ≡ xs
          go [] ys = refl
          go (x ∷ xs) ys = ap (λ (l : List ℕ). x ∷ l) (go xs ys)

nothing-left : (rest : List ℕ) → length rest ≡ 0 → rest ≡ []
nothing-left [] short = refl
nothing-left (b ∷ bs) short = absurd (omega (arith, short))

pub cut-nowhere : (bytes rest : List ℕ) (next : ℕ) → IsReadOn bytes rest next → length rest ≡ 0 → IsCut bytes bytes rest next
cut-nowhere bytes rest next is short =
    let none : rest ≡ [] = nothing-left rest short in
    let same : is.front ≡ bytes = sym (is.whole ∙ ap (λ (bs : List ℕ). is.front ++ bs) none ∙ append-nil is.front) in
    record {
      whole = sym (ap (λ (bs : List ℕ). bytes ++ bs) none ∙ append-nil bytes);
      lines = sym (ap (λ (bs : List ℕ). lines_of bytes ++ lines_of bs) none ∙ append-nil (lines_of bytes));
      number = is.number ∙ ap (λ (bs : List ℕ). length (lines_of bs) + 1) same;
      ends = inr (none, subst (λ (bs : List ℕ). HaveNoEnd (lines_of bs)) same is.none);
    }

-- ---- lines that count

kept-append : (n : ℕ) (xs ys : List (List ℕ)) → kept n (xs ++ ys) ≡ kept n xs ++ kept (n + length xs) ys
kept-append n [] ys = ap (λ k. kept k ys) (omega arith)
kept-append n (x ∷ xs) ys =
    let h = kept-append (suc n) xs ys in
    let e : suc n + length xs ≡ n + length (x ∷ xs) = omega arith in
    elim (cases_Bool (is_skipped (without_return x))) [
      | inl skipped ↦ rw skipped (h ∙ ap (λ k. kept (suc n) xs ++ kept k ys) e)
      | inr counts ↦ rw counts (ap (λ (ls : List Line). record { number = n; text = without_return x } ∷ ls) (h ∙ ap (λ k. kept (suc n) xs ++ kept k ys) e))
    ]

kept-none : (n : ℕ) (xs : List (List ℕ)) → HaveNoEnd xs → NoneEnds (kept n xs)
kept-none n [] none = tt
kept-none n (x ∷ xs) none =
    let here = All-head (λ (t : List ℕ). is_end t ≡ false) x xs none in
    let h = kept-none (suc n) xs (All-tail (λ (t : List ℕ). is_end t ≡ false) x xs none) in
    elim (cases_Bool (is_skipped (without_return x))) [
      | inl skipped ↦ rw skipped h
      | inr counts ↦ rw counts (here, h)
    ]

kept-end : (n : ℕ) (text : List ℕ) (texts : List (List ℕ)) → is_end text ≡ true → kept n (text ∷ texts) ≡ record { number = n; text = codes "end" } ∷ kept (suc n) texts
kept-end n text texts over =
    let same : without_return text ≡ codes "end" = (bytes_eq-Decides (without_return text) (codes "end")).0 over in
    ap (λ (t : List ℕ). if is_skipped t then kept (suc n) texts else record { number = n; text = t } ∷ kept (suc n) texts) same

-- ---- what the whole is as a trace

nothing-behind : (next : ℕ) (r : Result Trace TraceError) → r ≡ with_rest next [] r
nothing-behind next (Ok t) = refl
nothing-behind next (Err e) = refl

module _ (bytes trace rest : List ℕ) (next : ℕ) (cut : IsCut bytes trace rest next) where
  behind-end : EndThere (lines_of trace) → trace_of bytes ≡ with_rest next rest (trace_of trace)
  behind-end there =
      ap trace_in (λ i. record { lines = far_lines i; end = far_end i })
      ∙ trace_whole n later (1 + length (lines_of trace)) (next + length (lines_of rest)) before none
      ∙ ap (with_rest next rest) (sym (ap trace_in (λ i. record { lines = near_lines i; end = 1 + length (lines_of trace) })))
    where
      n : ℕ
      n = 1 + length there.before

      later : List Line
      later = kept next (lines_of rest)

      before : List Line
      before = kept 1 there.before

      none : NoneEnds before
      none = kept-none 1 there.before there.first

      last : Line
      last = record { number = n; text = codes "end" }

      long : length (lines_of trace) ≡ length there.before + 1
      long = ap length there.whole ∙ length-append there.before (there.last ∷ [])

      near_lines : kept 1 (lines_of trace) ≡ before ++ last ∷ []
      near_lines = ap (kept 1) there.whole ∙ kept-append 1 there.before (there.last ∷ []) ∙ ap (λ (ls : List Line). before ++ ls) (kept-end n there.last [] there.over)

      far_lines : kept 1 (lines_of bytes) ≡ before ++ last ∷ later
      far_lines =
          let at : suc n ≡ next = omega (arith, long, cut.number) in
          ap (kept 1) (cut.lines ∙ ap (λ (ls : List (List ℕ)). ls ++ lines_of rest) there.whole ∙ append_assoc there.before (there.last ∷ []) (lines_of rest))
          ∙ kept-append 1 there.before (there.last ∷ lines_of rest)
          ∙ ap (λ (ls : List Line). before ++ ls) (kept-end n there.last (lines_of rest) there.over ∙ ap (λ k. last ∷ kept k (lines_of rest)) at)

      far_end : 1 + length (lines_of bytes) ≡ next + length (lines_of rest)
      far_end = omega (arith, cut.number, ap length cut.lines, length-append (lines_of trace) (lines_of rest))

  all-trace : rest ≡ [] → trace_of bytes ≡ with_rest next rest (trace_of trace)
  all-trace none =
      ap trace_of (cut.whole ∙ ap (λ (bs : List ℕ). trace ++ bs) none ∙ append-nil trace)
      ∙ subst (λ (bs : List ℕ). trace_of trace ≡ with_rest next bs (trace_of trace)) (sym none) (nothing-behind next (trace_of trace))

  pub cut-whole : trace_of bytes ≡ with_rest next rest (trace_of trace)
  cut-whole = go cut.ends
    where
      go : EndThere (lines_of trace) ⊎ ((rest ≡ []) × HaveNoEnd (lines_of trace)) → trace_of bytes ≡ with_rest next rest (trace_of trace)
      go (inl there) = behind-end there
      go (inr none) = all-trace none.0

  pub cut-fault : (e : TraceError) → trace_of trace ≡ Err e → trace_of bytes ≡ Err e
  cut-fault e is = cut-whole ∙ ap (with_rest next rest) is

-- ---- a trace has its line `end`

none-behind : (xs ys : List Line) → NoneEnds (xs ++ ys) → NoneEnds ys
none-behind [] ys none = none
none-behind (x ∷ xs) ys none = none-behind xs ys none.1

none-last : (last : Line) → last.text ≡ codes "end" → NoneEnds (last ∷ []) → ⊥
none-last last is none =
    let no : bytes_eq (codes "end") (codes "end") ≡ false = subst (λ (t : List ℕ). bytes_eq t (codes "end") ≡ false) is none.0 in
    absurd (let e : true ≡ false = no in cc e)

ends-there : (all : List Line) (t : Trace) → IsSpelled all t → NoneEnds all → ⊥
ends-there all t is none = go is.over (none-behind is.middle is.tail (none-behind is.header (is.middle ++ is.tail) (subst NoneEnds is.whole none).1))
  where
    go : Ends is.tail t.steps ⊎ EndsBehindSteps t.sizes is.tail t.steps → NoneEnds is.tail → ⊥
    go (inl last) none = none-last last.last last.over (subst NoneEnds last.whole none)
    go (inr steps) none = none-last steps.last steps.over (none-behind steps.middle (steps.last ∷ []) (subst NoneEnds steps.whole none).1)

pub cut-ends : (bytes trace rest : List ℕ) (next : ℕ) → IsCut bytes trace rest next → (t : Trace) → trace_of trace ≡ Ok t → EndThere (lines_of trace)
cut-ends bytes trace rest next cut t is = go cut.ends
  where
    go : EndThere (lines_of trace) ⊎ ((rest ≡ []) × HaveNoEnd (lines_of trace)) → EndThere (lines_of trace)
    go (inl there) = there
    go (inr none) = absurd (ends-there (kept 1 (lines_of trace)) t (read_spelled (Ok t) (left 1 trace) is) (kept-none 1 (lines_of trace) none.1))
