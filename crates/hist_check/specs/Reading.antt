-- The entries that the lines behind a trace spell, or the first bad line with the first cause of that line.
use Rattle.std.specs.Prelude.{◌≡◌, ℕ, zero, suc, List, [], ◌∷◌, ◌++◌, codes, if◌then◌else◌, Result, Ok, Err}
use Rattle.std.specs.Str.{bytes_eq}
use Rattle.line_map.specs.Sizes.{Sizes, ◌>>=◌}
use Rattle.op_model.specs.declared.operations.Entry.{Entry}
use Rattle.text_lines.specs.Lines.{Line, Input, left, words_of}
use Rattle.trace_text.specs.declared.fault.TraceCause.{TraceCause}
use Rattle.trace_text.specs.declared.fault.TraceCause.TheVariants.{NoEnd}
use Rattle.trace_text.specs.Forms.{named}
use Rattle.hist_check.specs.declared.fault.EntriesError.{EntriesError}
use Rattle.hist_check.specs.declared.fault.EntriesError.TheVariants.{Bad, Memory}
use Rattle.hist_check.specs.Forms.{report_line, entry_form}

-- What a function returned, seen by view, is what reading gives, unless memory ran out.
abbrev pub Fails : {Y : Type 0} → EntriesError → Result Y EntriesError → Type 0
Fails Memory read = Unit {0}
Fails (Bad line cause) read = read ≡ Err (Bad line cause)

abbrev pub Gives : {X Y : Type 0} → (X → Y) → Result X EntriesError → Result Y EntriesError → Type 0
Gives view (Ok x) read = read ≡ Ok (view x)
Gives view (Err e) read = Fails e read

-- a value of the line of this number, or the line's cause
abbrev pub of_line : {A : Type 0} → ℕ → Result A TraceCause → Result A EntriesError
of_line n (Ok a) = Ok a
of_line n (Err cause) = Err (Bad n cause)

-- the first line that is left; the end of the input is the fault of the line after the last
abbrev pub next_of : Input → Result (Line × Input) EntriesError
next_of input = elim input.lines as (λ (ls : List Line). Result (Line × Input) EntriesError) [ [] ↦ Err (Bad input.end NoEnd) | line ∷ lines ↦ Ok (line, record { lines = lines; end = input.end }) ]

-- what is left behind the next line `end`
unfoldable pub behind_end : List Line → ℕ → Result Input EntriesError
behind_end [] end = Err (Bad end NoEnd)
behind_end (line ∷ lines) end = if bytes_eq line.text (codes "end") then Ok (record { lines = lines; end = end }) else behind_end lines end

-- the first line, behind a section of steps where there is one
unfoldable pub head_of : Input → Result (Line × Input) EntriesError
head_of input = do
  next ← next_of input
  if bytes_eq next.0.text (codes "steps") then (behind_end next.1.lines next.1.end >>= next_of) else Ok next

-- the version of the report, and how many entries follow
unfoldable pub report_front : ℕ → Input → Result (ℕ × Input) EntriesError
report_front version input = do
  head ← head_of input
  same ← of_line head.0.number (report_line version (words_of head.0.text))
  next ← next_of head.1
  count ← of_line next.0.number (named (codes "history") (words_of next.0.text))
  Ok (count, next.1)

-- so many entries, behind those before
unfoldable pub entries_from : Sizes → ℕ → List Entry → ℕ → Input → Result (List Entry) EntriesError
entries_from sizes version before zero input = Ok before
entries_from sizes version before (suc count) input = do
  next ← next_of input
  entry ← of_line next.0.number (entry_form sizes version (words_of next.0.text))
  entries_from sizes version (before ++ entry ∷ []) count next.1

-- what stands behind the entries is passed over
unfoldable pub entries_in : Sizes → ℕ → Input → Result (List Entry) EntriesError
entries_in sizes version input = do
  front ← report_front version input
  entries_from sizes version [] front.0 front.1

-- the entries in a text whose first line has this number
abbrev pub report_history : Sizes → ℕ → ℕ → List ℕ → Result (List Entry) EntriesError
report_history sizes version first text = entries_in sizes version (left first text)
