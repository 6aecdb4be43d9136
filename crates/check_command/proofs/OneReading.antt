-- An input is read in one way: its lines up to the first `end` are the same wherever it is cut, and only lines are read.
use Rattle.std.proofs.Common.{◌≡◌, ℕ, ◌+◌, true, false, List, [], ◌∷◌, ◌++◌, length, Result, Ok, Err, refl, sym, ap, subst, ◌∙◌, ◌⊎◌, inl, inr, append-nil, append_assoc}
use Rattle.std.proofs.lemmas.List.Elements.{All-head, All-tail}
use Rattle.line_map.specs.Sizes.{◌>>=◌}
use Rattle.op_model.specs.declared.operations.Entry.{Entry}
use Rattle.op_model.specs.Shares.{Trace, program}
use Rattle.text_lines.specs.Lines.{lines_of, kept}
use Rattle.trace_text.specs.declared.fault.TraceError.{TraceError}
use Rattle.trace_text.specs.declared.fault.TraceError.TheVariants.{Bad, TooManyOps, TooManySteps, Memory}
use Rattle.trace_text.specs.Reading.{trace_in}
use Rattle.hist_check.specs.Cut.{is_end, HaveNoEnd, EndThere, IsCut}
use Rattle.hist_check.specs.Reading.{entries_in}
use Rattle.hist_check.specs.Good.{IsGood}
use Rattle.check_command.specs.declared.refusal.CheckRefusal.{CheckRefusal}
use Rattle.check_command.specs.declared.refusal.CheckRefusal.TheVariants.{Input, IllegalHistory}
use Rattle.check_command.specs.Checked.{of_entries, piece_by_piece, IsReadAs, IsChecked, IsUncheckable}

abbrev Other : List ℕ → Type 0
Other text = is_end text ≡ false

differ : (text other : List ℕ) → is_end text ≡ true → is_end other ≡ false → text ≡ other → ⊥
differ text other over not same = let both : true ≡ false = sym over ∙ ap is_end same ∙ not in cc

-- the lines up to the first `end`, and those behind it
one-front : (before others : List (List ℕ)) (last final : List ℕ) (xs ys : List (List ℕ)) → HaveNoEnd before → HaveNoEnd others → is_end last ≡ true → is_end final ≡ true → before ++ last ∷ xs ≡ others ++ final ∷ ys → (before ++ last ∷ [] ≡ others ++ final ∷ []) × (xs ≡ ys)
one-front [] [] last final xs ys none free over end same =
    let here : last ≡ final = cc in
    let rest : xs ≡ ys = cc in
    (ap (λ (text : List ℕ). text ∷ []) here, rest)
one-front [] (o ∷ others) last final xs ys none free over end same = let here : last ≡ o = cc in absurd (differ last o over (All-head Other o others free) here)
one-front (b ∷ before) [] last final xs ys none free over end same = let here : final ≡ b = cc in absurd (differ final b end (All-head Other b before none) here)
one-front (b ∷ before) (o ∷ others) last final xs ys none free over end same =
    let here : b ≡ o = cc in
    let rest : before ++ last ∷ xs ≡ others ++ final ∷ ys = cc in
    let h = one-front before others last final xs ys (All-tail Other b before none) (All-tail Other o others free) over end rest in
    (ap (λ (ls : List (List ℕ)). b ∷ ls) h.0 ∙ ap (λ (text : List ℕ). text ∷ (others ++ final ∷ [])) here, h.1)

no-end-within : (before : List (List ℕ)) (last : List ℕ) (xs : List (List ℕ)) → is_end last ≡ true → HaveNoEnd (before ++ last ∷ xs) → ⊥
no-end-within [] last xs over none = differ last last over (All-head Other last xs none) refl
no-end-within (b ∷ before) last xs over none = no-end-within before last xs over (All-tail Other b (before ++ last ∷ xs) none)

-- the lines of both pieces
abbrev Same : List (List ℕ) → List (List ℕ) → List (List ℕ) → List (List ℕ) → Type 0
Same front rest other behind = (front ≡ other) × (rest ≡ behind)

module _ (all front rest other behind : List (List ℕ)) (cut : all ≡ front ++ rest) (again : all ≡ other ++ behind) where
  both-end : EndThere front → EndThere other → Same front rest other behind
  both-end a b =
      let left : all ≡ a.before ++ a.last ∷ rest = cut ∙ ap (λ (ls : List (List ℕ)). ls ++ rest) a.whole ∙ append_assoc a.before (a.last ∷ []) rest in
      let right : all ≡ b.before ++ b.last ∷ behind = again ∙ ap (λ (ls : List (List ℕ)). ls ++ behind) b.whole ∙ append_assoc b.before (b.last ∷ []) behind in
      let h = one-front a.before b.before a.last b.last rest behind a.first b.first a.over b.over (sym left ∙ right) in
      (a.whole ∙ h.0 ∙ sym b.whole, h.1)

  one-ends : EndThere front → behind ≡ [] → HaveNoEnd other → ⊥
  one-ends a none free =
      let left : all ≡ a.before ++ a.last ∷ rest = cut ∙ ap (λ (ls : List (List ℕ)). ls ++ rest) a.whole ∙ append_assoc a.before (a.last ∷ []) rest in
      let right : all ≡ other = again ∙ ap (λ (ls : List (List ℕ)). other ++ ls) none ∙ append-nil other in
      no-end-within a.before a.last rest a.over (subst HaveNoEnd (sym right ∙ left) free)

  none-ends : rest ≡ [] → behind ≡ [] → Same front rest other behind
  none-ends none nothing =
      let left : all ≡ front = cut ∙ ap (λ (ls : List (List ℕ)). front ++ ls) none ∙ append-nil front in
      let right : all ≡ other = again ∙ ap (λ (ls : List (List ℕ)). other ++ ls) nothing ∙ append-nil other in
      (sym left ∙ right, none ∙ sym nothing)

same-lines : (bytes front rest other behind : List ℕ) (next number : ℕ) → IsCut bytes front rest next → IsCut bytes other behind number → Same (lines_of front) (lines_of rest) (lines_of other) (lines_of behind)
same-lines bytes front rest other behind next number a b = go a.ends b.ends
  where
    go : EndThere (lines_of front) ⊎ ((rest ≡ []) × HaveNoEnd (lines_of front)) → EndThere (lines_of other) ⊎ ((behind ≡ []) × HaveNoEnd (lines_of other)) → Same (lines_of front) (lines_of rest) (lines_of other) (lines_of behind)
    go (inl x) (inl y) = both-end (lines_of bytes) (lines_of front) (lines_of rest) (lines_of other) (lines_of behind) a.lines b.lines x y
    go (inl x) (inr y) = absurd (one-ends (lines_of bytes) (lines_of front) (lines_of rest) (lines_of other) (lines_of behind) a.lines b.lines x (ap lines_of y.0) y.1)
    go (inr x) (inl y) = absurd (one-ends (lines_of bytes) (lines_of other) (lines_of behind) (lines_of front) (lines_of rest) b.lines a.lines y (ap lines_of x.0) x.1)
    go (inr x) (inr y) = none-ends (lines_of bytes) (lines_of front) (lines_of rest) (lines_of other) (lines_of behind) a.lines b.lines (ap lines_of x.0) (ap lines_of y.0)

-- only lines are read
abbrev by_lines : List (List ℕ) → List (List ℕ) → ℕ → Result (Trace × List Entry) TraceError
by_lines front rest next =
    trace_in (record { lines = kept 1 front; end = 1 + length front })
    >>= λ trace. of_entries (entries_in trace.sizes trace.version (record { lines = kept next rest; end = next + length rest }))
    >>= λ history. Ok (trace, history)

pub one-reading : (bytes : List ℕ) (read other : Result (Trace × List Entry) TraceError) → IsReadAs bytes read → IsReadAs bytes other → read ≡ other
one-reading bytes read other a b =
    let same = same-lines bytes a.front a.rest b.front b.rest a.next b.next a.cut b.cut in
    let number : a.next ≡ b.next = a.cut.number ∙ ap (λ (ls : List (List ℕ)). length ls + 1) same.0 ∙ sym b.cut.number in
    let first : piece_by_piece a.front a.rest a.next ≡ by_lines (lines_of a.front) (lines_of a.rest) a.next = refl in
    let last : piece_by_piece b.front b.rest b.next ≡ by_lines (lines_of b.front) (lines_of b.rest) b.next = refl in
    a.is ∙ first
    ∙ ap (λ (ls : List (List ℕ)). by_lines ls (lines_of a.rest) a.next) same.0
    ∙ ap (λ (ls : List (List ℕ)). by_lines (lines_of b.front) ls a.next) same.1
    ∙ ap (by_lines (lines_of b.front) (lines_of b.rest)) number
    ∙ sym last ∙ sym b.is

-- what was read is good
abbrev HasGood : Result (Trace × List Entry) TraceError → Type 0
HasGood (Ok read) = IsGood (program read.0) read.1
HasGood (Err error) = ⊥

pub exact : (bytes text : List ℕ) (refusal : CheckRefusal) → IsChecked bytes text → IsUncheckable bytes refusal → refusal ≡ Input Memory
exact bytes text refusal checked un = go refusal un
  where
    good-as : (read : Result (Trace × List Entry) TraceError) → IsReadAs bytes read → HasGood read
    good-as read is = subst HasGood (one-reading bytes (Ok (checked.trace, checked.history)) read checked.read is) checked.good

    go : (refusal : CheckRefusal) → IsUncheckable bytes refusal → refusal ≡ Input Memory
    go (Input Memory) un = refl
    go (Input (Bad line cause)) un = absurd (good-as (Err (Bad line cause)) un)
    go (Input TooManyOps) un = absurd (good-as (Err TooManyOps) un)
    go (Input TooManySteps) un = absurd (good-as (Err TooManySteps) un)
    go (IllegalHistory number cause) un = absurd (un.refused (good-as (Ok (un.trace, un.history)) un.read))
