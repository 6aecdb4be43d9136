-- The story of one line: what its header prints at the start, and each time that an event has changed that.
use Rattle.std.specs.Prelude.{ℕ, suc, ◌++◌, if◌then◌else◌, List, [], length, take, codes, decimal, Option, Some, None}
use Rattle.std.specs.List.{flat_map, range_with_len}
use Rattle.std.specs.Str.{bytes_eq}
use Rattle.line_map.specs.Sizes.{Sizes}
use Rattle.decimal_text.specs.Text.{named}
use Rattle.op_model.specs.Run.Runs.{Past, start, run_by}
use Rattle.op_model.specs.Run.Machines.{MachineRun}
use Rattle.dir_report.specs.declared.mode.Mode.TheVariants.{Delayed}
use Rattle.dir_report.specs.Reports.{header_at, header_words}

-- ---- a story by itself

-- the line, the number of events noted, what the header printed after the last of them, and the text of the lines so far
pub record StoryView : Type 0 where
  pub line : ℕ
  pub steps : ℕ
  pub last : List ℕ
  pub text : List ℕ

-- <k> <header>, where the header prints otherwise than before
abbrev pub changed : ℕ → List ℕ → List ℕ → List ℕ
changed k before now = if bytes_eq now before then [] else decimal k ++ codes " " ++ now ++ codes "\n"

abbrev pub first_story : ℕ → StoryView
first_story line = record { line = line; steps = 0; last = codes "- clean idle -"; text = codes "0 - clean idle -\n" }

-- one event more, after which the header prints so
abbrev pub noted : StoryView → List ℕ → StoryView
noted story now = record { line = story.line; steps = suc story.steps; last = now; text = story.text ++ changed (suc story.steps) story.last now }

abbrev pub text_of : StoryView → List ℕ
text_of story = codes "flash story 1\n" ++ named (codes "line ") story.line ++ story.text ++ named (codes "steps ") story.steps ++ codes "end\n"

-- ---- the story of a line in a run

abbrev pub printed_in : Sizes → ℕ → Option Past → List ℕ
printed_in sizes line None = []
printed_in sizes line (Some past) = header_words Delayed (header_at sizes past.state line)

-- what the header of a line prints after the first k events
abbrev pub printed_after : MachineRun → ℕ → ℕ → List ℕ
printed_after m line k = printed_in m.sizes line (run_by m.charge m.sizes m.programs (start m.sizes) (take k m.events))

-- what the header prints after one event more than k, where that is otherwise than after k
abbrev pub change_at : MachineRun → ℕ → ℕ → List ℕ
change_at m line k = changed (suc k) (printed_after m line k) (printed_after m line (suc k))

-- the first header, and each change
abbrev pub changes_of : MachineRun → ℕ → List ℕ
changes_of m line = codes "0 - clean idle -\n" ++ flat_map (change_at m line) (range_with_len 0 (length m.events))

unfoldable pub story_of : MachineRun → ℕ → StoryView
story_of m line = record { line = line; steps = length m.events; last = printed_after m line (length m.events); text = changes_of m line }

unfoldable pub story_text : MachineRun → ℕ → List ℕ
story_text m line = text_of (story_of m line)
