-- One line of the whole machine, seen alone, and its words in the flat memory.
use Rattle.std.specs.Prelude.{ℕ, ◌+◌, ◌*◌, Bool, if◌then◌else◌, List, [], ◌∷◌, ◌==◌, map}
use Rattle.std.specs.List.{range_with_len}
use Rattle.std.specs.FinMap as fin
use Rattle.line_map.specs.Sizes.{Sizes, home_of}
use Rattle.op_model.specs.declared.operations.Entry.{Entry}
use Rattle.op_model.specs.declared.messages.Msg.{Msg}
use Rattle.op_model.specs.Operations.{Words}
use Rattle.op_model.specs.Messages.{Content, msg_line, msg_content}
use Rattle.op_model.specs.Flat.{FlatMemory, flat_at, after_from}
use Rattle.op_model.specs.Shares.{State, copy_of, header_of, want_on}
use Rattle.line_invariant.specs.Line.{Line}

-- what the messages of a lane say of this line, in order
abbrev pub of_line : ℕ → List Msg → List Content
of_line line [] = []
of_line line (m ∷ messages) = if msg_line m == line then msg_content m ∷ of_line line messages else of_line line messages

-- the line as the machine has it, with its words in the flat memory, and whose load of it was served
unfoldable pub project : Sizes → State → Words → (ℕ → Bool) → ℕ → Line
project sizes state words answered line =
    record {
      copy = λ node. copy_of (state.share node) line;
      want = λ node. want_on sizes (state.share node).want line;
      header = header_of sizes (state.share (home_of sizes line)) line;
      lane = λ a b class. of_line line (state.lane a b class);
      words = words;
      answered = answered;
    }

-- the words of a line in the flat memory, where a line has this many words
unfoldable pub words_at : (size : ℕ) → FlatMemory → ℕ → Words
words_at size flat line = map (λ i. flat_at flat (line * size + i)) (range_with_len 0 size)

-- the words of a line in the flat memory after these entries
abbrev pub line_words : Sizes → List Entry → ℕ → Words
line_words sizes served line = words_at sizes.words (after_from fin.empty served) line
