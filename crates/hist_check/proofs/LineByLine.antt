-- Reading lines, one after the other: up to a line `end`, and so many entries.
use Rattle.std.proofs.Common.{◌≡◌, ℕ, suc, ◌-◌, ◌<◌, ◌≤◌, ◌+◌, true, false, List, [], ◌∷◌, ◌++◌, Result, Ok, refl, ap, sym, subst, ◌∙◌, arith}
use Rattle.std.specs.Prelude.{codes, if◌then◌else◌}
use Rattle.std.specs.Str.{bytes_eq}
use Rattle.line_map.specs.Sizes.{Sizes, ◌>>=◌}
use Rattle.op_model.specs.declared.operations.Entry.{Entry}
use Rattle.text_lines.specs.Lines.{Line, Input, words_of}
use Rattle.hist_check.specs.declared.fault.EntriesError.{EntriesError}
use Rattle.hist_check.specs.declared.fault.EntriesError.TheVariants.{Bad, Memory}
use Rattle.hist_check.specs.Forms.{entry_form}
use Rattle.hist_check.specs.Reading.{Fails, of_line, next_of, behind_end, entries_from}

-- a fault of the first step is the fault of the whole
fails_first : {A B : Type 0} (e : EntriesError) (r : Result A EntriesError) (f : A → Result B EntriesError) → Fails e r → Fails e (r >>= f)
fails_first Memory r f h = tt
fails_first (Bad line cause) r f h = rw h refl

fails_as : {A : Type 0} (e : EntriesError) (r s : Result A EntriesError) → r ≡ s → Fails e r → Fails e s
fails_as {A = A} e r s same h = subst (λ (x : Result A EntriesError). Fails e x) same h

-- ---- up to a line `end`

abbrev by_line : Line → Input → Result Input EntriesError
by_line line after = if bytes_eq line.text (codes "end") then Ok after else behind_end after.lines after.end

by_next : (lines : List Line) (end : ℕ) → behind_end lines end ≡ (next_of (record { lines = lines; end = end }) >>= λ n. by_line n.0 n.1)
unfolding behind_end
by_next [] end = refl
by_next (line ∷ lines) end = refl

at_line : (input : Input) (line : Line) (after : Input) (total : Result Input EntriesError) → next_of input ≡ Ok (line, after) → behind_end input.lines input.end ≡ total → by_line line after ≡ total
at_line input line after total next so_far = sym (by_next input.lines input.end ∙ rw next refl) ∙ so_far

pub no_line : (e : EntriesError) (input : Input) (total : Result Input EntriesError) → Fails e (next_of input) → behind_end input.lines input.end ≡ total → Fails e total
no_line e input total h so_far = fails_as e _ total (sym (by_next input.lines input.end) ∙ so_far) (fails_first e (next_of input) (λ n. by_line n.0 n.1) h)

pub ends_here : (input : Input) (line : Line) (after : Input) (total : Result Input EntriesError) → next_of input ≡ Ok (line, after) → bytes_eq line.text (codes "end") ≡ true → behind_end input.lines input.end ≡ total → total ≡ Ok after
ends_here input line after total next is so_far = sym (at_line input line after total next so_far) ∙ rw is refl

pub goes_on : (input : Input) (line : Line) (after : Input) (total : Result Input EntriesError) → next_of input ≡ Ok (line, after) → bytes_eq line.text (codes "end") ≡ false → behind_end input.lines input.end ≡ total → behind_end after.lines after.end ≡ total
goes_on input line after total next not so_far = sym (rw not refl) ∙ at_line input line after total next so_far

-- ---- entries

module _ (sizes : Sizes) (version : ℕ) (before : List Entry) (wanted done : ℕ) (input : Input) (total : Result (List Entry) EntriesError) (so_far : entries_from sizes version before (wanted - done) input ≡ total) where
  abbrev more : Line → Input → Entry → Result (List Entry) EntriesError
  more line after entry = entries_from sizes version (before ++ entry ∷ []) (wanted - (done + 1)) after

  abbrev by_entry : Line × Input → Result (List Entry) EntriesError
  by_entry n = of_line n.0.number (entry_form sizes version (words_of n.0.text)) >>= more n.0 n.1

  one-more : (count : ℕ) → entries_from sizes version before (suc count) input ≡ (next_of input >>= λ n. of_line n.0.number (entry_form sizes version (words_of n.0.text)) >>= λ entry. entries_from sizes version (before ++ entry ∷ []) count n.1)
  unfolding entries_from
  one-more count = refl

  by_first : done < wanted → (next_of input >>= by_entry) ≡ total
  by_first lt =
      let is : wanted - done ≡ suc (wanted - (done + 1)) = omega arith in
      sym (ap (λ k. entries_from sizes version before k input) is ∙ one-more (wanted - (done + 1))) ∙ so_far

  pub no_entry : (e : EntriesError) → done < wanted → Fails e (next_of input) → Fails e total
  no_entry e lt h = fails_as e _ total (by_first lt) (fails_first e (next_of input) by_entry h)

  module _ (line : Line) (after : Input) (lt : done < wanted) (next : next_of input ≡ Ok (line, after)) where
    here : by_entry (line, after) ≡ total
    here = sym (rw next refl) ∙ by_first lt

    pub bad_entry : (e : EntriesError) → Fails e (of_line line.number (entry_form sizes version (words_of line.text))) → Fails e total
    bad_entry e h = fails_as e _ total here (fails_first e (of_line line.number (entry_form sizes version (words_of line.text))) (more line after) h)

    pub next_entry : (entry : Entry) → of_line line.number (entry_form sizes version (words_of line.text)) ≡ Ok entry → entries_from sizes version (before ++ entry ∷ []) (wanted - (done + 1)) after ≡ total
    next_entry entry is = sym (rw is refl) ∙ here

none-more : (sizes : Sizes) (version : ℕ) (before : List Entry) (input : Input) → entries_from sizes version before 0 input ≡ Ok before
unfolding entries_from
none-more sizes version before input = refl

pub all_read : (sizes : Sizes) (version : ℕ) (before : List Entry) (wanted done : ℕ) (input : Input) (total : Result (List Entry) EntriesError) → wanted ≤ done → entries_from sizes version before (wanted - done) input ≡ total → total ≡ Ok before
all_read sizes version before wanted done input total le so_far =
    let is : wanted - done ≡ 0 = omega arith in
    sym so_far ∙ ap (λ k. entries_from sizes version before k input) is ∙ none-more sizes version before input
