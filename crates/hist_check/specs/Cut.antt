-- Where the trace of an input ends, and what the whole input is as a trace.
use Rattle.std.specs.Prelude.{◌≡◌, ℕ, ◌+◌, ◌<◌, Bool, true, false, List, [], ◌∷◌, ◌++◌, length, codes, Result, Ok, ◌⊎◌}
use Rattle.std.specs.List.{All}
use Rattle.std.specs.Str.{bytes_eq}
use Rattle.line_map.specs.Sizes.{◌>>=◌}
use Rattle.op_model.specs.Shares.{Trace}
use Rattle.text_lines.specs.Lines.{lines_of, without_return, left}
use Rattle.trace_text.specs.declared.fault.TraceError.{TraceError}
use Rattle.trace_text.specs.Reading.{nothing_more}

-- the line `end`, which is never one that is skipped
abbrev pub is_end : List ℕ → Bool
is_end text = bytes_eq (without_return text) (codes "end")

-- none of these lines is `end`
abbrev pub HaveNoEnd : List (List ℕ) → Type 0
HaveNoEnd lines = All (λ (text : List ℕ). is_end text ≡ false) lines

-- the last of these lines is `end`, and no other one is
pub record EndThere (lines : List (List ℕ)) : Type 0 where
  pub before : List (List ℕ)
  pub last : List ℕ
  pub whole : lines ≡ before ++ last ∷ []
  pub first : HaveNoEnd before
  pub over : is_end last ≡ true

-- An input is cut between two of its lines, behind the first line `end`. Where it has no such line all of it is the trace. The rest begins with the line of this number
pub record IsCut (bytes trace rest : List ℕ) (next : ℕ) : Type 0 where
  pub whole : bytes ≡ trace ++ rest
  pub lines : lines_of bytes ≡ lines_of trace ++ lines_of rest
  pub number : next ≡ length (lines_of trace) + 1
  pub ends : EndThere (lines_of trace) ⊎ ((rest ≡ []) × HaveNoEnd (lines_of trace))

-- What a trace that is read so is with a rest behind it, whose first line has this number: the same fault, or that of the first line of the rest that counts
abbrev pub with_rest : ℕ → List ℕ → Result Trace TraceError → Result Trace TraceError
with_rest next rest read = read >>= λ trace. nothing_more (left next rest) >>= λ over. Ok trace

-- a line ends where these bytes end, whatever comes behind them
abbrev pub IsApart : List ℕ → Type 0
IsApart front = (more : List ℕ) → lines_of (front ++ more) ≡ lines_of front ++ lines_of more

-- the first line of these bytes, without its end, and what comes behind it
pub record IsFirstLine (bytes text rest : List ℕ) : Type 0 where
  pub front : List ℕ
  pub whole : bytes ≡ front ++ rest
  pub some : 0 < length front
  pub line : lines_of front ≡ text ∷ []
  pub apart : IsApart front ⊎ (rest ≡ [])
