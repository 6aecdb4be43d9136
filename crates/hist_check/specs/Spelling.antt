-- What a text is made of that has a history: perhaps a section of steps, the line of the report, the number of entries, and one line for each entry, in order. What comes behind them is free.
use Rattle.std.specs.Prelude.{◌≡◌, ◌≢◌, ℕ, List, [], ◌∷◌, ◌++◌, length, codes, Ok, ◌⊎◌}
use Rattle.std.specs.List.{All, AllZip}
use Rattle.line_map.specs.Sizes.{Sizes}
use Rattle.op_model.specs.declared.operations.Entry.{Entry}
use Rattle.text_lines.specs.Lines.{Line, words_of}
use Rattle.trace_text.specs.Forms.{named}
use Rattle.hist_check.specs.Forms.{report_line, entry_form}

abbrev pub IsNoEnd : Line → Type 0
IsNoEnd line = line.text ≢ codes "end"

-- the line `steps`, lines that aren't `end`, and the line `end`
pub record IsSection (lines : List Line) : Type 0 where
  pub mark : Line
  pub middle : List Line
  pub last : Line
  pub whole : lines ≡ mark ∷ (middle ++ last ∷ [])
  pub begins : mark.text ≡ codes "steps"
  pub within : All IsNoEnd middle
  pub over : last.text ≡ codes "end"

-- one line for each entry
abbrev pub SpellEntries : Sizes → ℕ → List Line → List Entry → Type 0
SpellEntries sizes version lines entries = AllZip (λ (line : Line) (entry : Entry). entry_form sizes version (words_of line.text) ≡ Ok entry) lines entries

-- perhaps a section of steps, the head of the report, the number of entries, the entries, and a rest
pub record IsSpelled (sizes : Sizes) (version : ℕ) (lines : List Line) (entries : List Entry) : Type 0 where
  pub front : List Line
  pub head : Line
  pub count : Line
  pub middle : List Line
  pub rest : List Line
  pub whole : lines ≡ front ++ head ∷ count ∷ (middle ++ rest)
  pub passed : (front ≡ []) ⊎ IsSection front
  pub report : report_line version (words_of head.text) ≡ Ok tt
  pub counted : named (codes "history") (words_of count.text) ≡ Ok (length entries)
  pub each : SpellEntries sizes version middle entries
