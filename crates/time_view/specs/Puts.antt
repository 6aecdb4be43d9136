-- What a call appends to a text, in lines of words.
use Rattle.std.specs.Prelude.{◌≡◌, ℕ, ◌++◌, List, length}
use Rattle.std.specs.List.{flat_map}
use Rattle.text_lines.specs.Printing.{line_text}

-- these lines were put behind a text, and they are so many
pub record ArePut (before after : List ℕ) (count : ℕ) (lines : List (List (List ℕ))) : Type 0 where
  pub many : count ≡ length lines
  pub text : after ≡ before ++ flat_map line_text lines
