-- The words of a command.
use Rattle.std.specs.Prelude.{ℕ, nat_le, if◌then◌else◌, List, [], ◌∷◌, codes, Option, Some, None, Result, Ok, Err}
use Rattle.std.specs.Str.{bytes_eq}
use Rattle.text_lines.specs.declared.numbers.WordCause.{WordCause}
use Rattle.text_lines.specs.Numbers.{decimal_word}
use Rattle.command_words.specs.declared.command.Play.TheVariants.{Serial, Seeded, Replay, Gen}
use Rattle.command_words.specs.declared.command.EagerPlay.TheVariants as eager
use Rattle.command_words.specs.declared.command.View.TheVariants.{At, Story}
use Rattle.command_words.specs.declared.command.Lists.TheVariants.{Linked, Bits}
use Rattle.command_words.specs.declared.command.Command.{Command}
use Rattle.command_words.specs.declared.command.Command.TheVariants as asked

-- what a word stands for, by these words and their meanings
abbrev pub meant_by : List (List ℕ × Option Command) → List ℕ → Option Command
meant_by [] word = None
meant_by ((one, command) ∷ others) word = if bytes_eq word one then command else meant_by others word

-- a command with a number, which is decimal and below 2^64
abbrev pub with_number : (ℕ → Command) → Result ℕ WordCause → Option Command
with_number make (Ok number) = Some (make number)
with_number make (Err cause) = None

-- a command with a number, which is decimal and not above this one
abbrev pub with_number_up_to : ℕ → (ℕ → Command) → Result ℕ WordCause → Option Command
with_number_up_to most make (Ok number) = if nat_le number most then Some (make number) else None
with_number_up_to most make (Err cause) = None

-- the state after at most 1,000,000 steps
abbrev pub at_by : List ℕ → Option Command
at_by number = with_number_up_to 1000000 (λ steps. asked.View (At steps)) (decimal_word number)

-- the story of a line, whose number has at most 32 bits
abbrev pub story_by : List ℕ → Option Command
story_by number = with_number_up_to 4294967295 (λ line. asked.View (Story line)) (decimal_word number)

-- at most 100,000 operations are generated
abbrev pub generated_by : Result ℕ WordCause → Result ℕ WordCause → Option Command
generated_by (Ok count) (Ok seed) = if nat_le count 100000 then Some (asked.Play (Gen count seed) Linked) else None
generated_by _ _ = None

-- the schedule or the steps of a trace, over bit vectors
abbrev pub over_bits_by : List ℕ → Option Command
over_bits_by word =
    meant_by ((codes "serial", Some (asked.Play Serial Bits)) ∷
    (codes "replay", Some (asked.Play Replay Bits)) ∷
    []) word

-- the same by the eager core
abbrev pub eager_by : List ℕ → Option Command
eager_by word =
    meant_by ((codes "serial", Some (asked.Eager eager.Serial)) ∷
    (codes "replay", Some (asked.Eager eager.Replay)) ∷
    []) word

-- The command that words name, which are matched whole. None where they are no form of a command
abbrev pub command_of : List (List ℕ) → Option Command
command_of (word ∷ []) =
    meant_by ((codes "serial", Some (asked.Play Serial Linked)) ∷
    (codes "replay", Some (asked.Play Replay Linked)) ∷
    (codes "check", Some asked.Check) ∷
    []) word
command_of (word ∷ number ∷ []) =
    meant_by ((codes "seeded", with_number (λ seed. asked.Play (Seeded seed) Linked) (decimal_word number)) ∷
    (codes "bits", over_bits_by number) ∷
    (codes "eager", eager_by number) ∷
    (codes "at", at_by number) ∷
    (codes "story", story_by number) ∷
    []) word
command_of (word ∷ count ∷ seed ∷ []) =
    meant_by ((codes "gen", generated_by (decimal_word count) (decimal_word seed)) ∷
    []) word
command_of words = None
