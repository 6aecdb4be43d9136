-- The forms of the lines of a report's history, word by word. A line that has a form gives its value. Else it gives the first of its causes.
use Rattle.std.specs.Prelude.{ℕ, ◌^◌, not, nat_lt, List, [], ◌∷◌, codes, ◌==◌, if◌then◌else◌, ◌&&◌, Result, Ok, Err}
use Rattle.std.specs.Str.{bytes_eq}
use Rattle.line_map.specs.Sizes.{Sizes, ◌>>=◌}
use Rattle.op_model.specs.declared.operations.Kind.{Kind}
use Rattle.op_model.specs.declared.operations.Kind.TheVariants.{Load, Store, Swap, Add}
use Rattle.op_model.specs.declared.operations.Entry.{Entry}
use Rattle.text_lines.specs.declared.numbers.WordCause.{WordCause}
use Rattle.text_lines.specs.declared.numbers.WordCause.TheVariants as word
use Rattle.text_lines.specs.Numbers.{decimal_word, address_word, both}
use Rattle.trace_text.specs.declared.fault.TraceCause.{TraceCause}
use Rattle.trace_text.specs.declared.fault.TraceCause.TheVariants.{Shape, Version}
use Rattle.trace_text.specs.Forms.{of_words, word_in}
use Rattle.hist_check.specs.declared.forms.Numbers.{Numbers}

-- flash report <version>, of this version
abbrev pub same_version : ℕ → ℕ → Result (Unit {0}) TraceCause
same_version version n = if n == version then Ok tt else Err Version

unfoldable pub report_line : ℕ → List (List ℕ) → Result (Unit {0}) TraceCause
report_line version (first ∷ second ∷ number ∷ []) =
    if bytes_eq first (codes "flash") && bytes_eq second (codes "report") then (of_words (decimal_word number) >>= same_version version) else Err Shape
report_line version words = Err Shape

-- a node and an index are below 2^32
abbrev pub narrow : ℕ → Result ℕ WordCause
narrow n = if nat_lt n (2 ^ 32) then Ok n else Err word.Number

abbrev pub small_word : List ℕ → Result ℕ WordCause
small_word word = decimal_word word >>= narrow

-- the numbers that every entry has. Where two words are at fault Shape comes first
unfoldable pub entry_numbers : List ℕ → List ℕ → List ℕ → List ℕ → Result Numbers WordCause
entry_numbers node index address value = do
  n ← both (small_word node) (both (small_word index) (both (address_word address) (decimal_word value)))
  Ok (record { node = n.0; index = n.1.0; byte = n.1.1.0; value = n.1.1.1 })

-- the kinds without an old value
unfoldable pub plain_kind : List ℕ → Result Kind TraceCause
plain_kind word = if bytes_eq word (codes "L") then Ok Load else (if bytes_eq word (codes "S") then Ok Store else Err Shape)

-- and those with one, in version 2 alone
unfoldable pub exchange_kind : ℕ → List ℕ → Result Kind TraceCause
exchange_kind version word =
    if not (version == 2) then Err Shape
    else (if bytes_eq word (codes "X") then Ok Swap else (if bytes_eq word (codes "A") then Ok Add else Err Shape))

-- the entry of an operation of this kind on the word at its address
unfoldable pub entry_with : Sizes → Kind → Numbers → ℕ → Result Entry TraceCause
entry_with sizes kind numbers old = do
  word ← word_in sizes numbers.byte
  Ok (record { node = numbers.node; index = numbers.index; kind = kind; word = word; value = numbers.value; old = old })

-- <node> <index> L|S <address> <value>, or <node> <index> X|A <address> <value> <old value>
unfoldable pub entry_form : Sizes → ℕ → List (List ℕ) → Result Entry TraceCause
entry_form sizes version (node ∷ index ∷ kind ∷ address ∷ value ∷ []) = do
  k ← plain_kind kind
  numbers ← of_words (entry_numbers node index address value)
  entry_with sizes k numbers 0
entry_form sizes version (node ∷ index ∷ kind ∷ address ∷ value ∷ old ∷ []) = do
  k ← exchange_kind version kind
  both_numbers ← of_words (both (entry_numbers node index address value) (decimal_word old))
  entry_with sizes k both_numbers.0 both_numbers.1
entry_form sizes version words = Err Shape
