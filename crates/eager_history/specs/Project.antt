-- One line of the eager machine, seen alone: as the delayed core has it, with the ages, and with its words after the operations of each age.
use Rattle.std.specs.Prelude.{ℕ, ◌==◌, nat_lt, if◌then◌else◌, List, [], ◌∷◌, map, filter, drop}
use Rattle.line_map.specs.Sizes.{Sizes, line_of, home_of}
use Rattle.op_model.specs.Operations.{Words}
use Rattle.op_model.specs.Messages.{msg_line}
use Rattle.op_model.specs.Run.Runs as delayed
use Rattle.eager_model.specs.Types.{Entry, Msg}
use Rattle.eager_model.specs.Step.{first_age}
use Rattle.eager_model.specs.Runs.{AgedEntry, Past}
use Rattle.eager_model.specs.History.{in_age_order}
use Rattle.eager_model.specs.Line.{AgedLine}
use Rattle.one_history.specs.Project.{project, line_words}
use Rattle.one_history.specs.Sound.{answered_of}

-- the entries, without their ages
abbrev pub plain : List AgedEntry → List Entry
plain entries = map (λ aged. aged.entry) entries

-- the state and what was served, as the delayed core has them
abbrev pub plain_past : Past → delayed.Past
plain_past past = record { state = past.state; served = plain past.served }

-- the served operations of a line, in the order in which they were served
abbrev pub served_on : Sizes → ℕ → List AgedEntry → List AgedEntry
served_on sizes line served = filter (λ aged. line_of sizes aged.entry.word == line) served

-- the same in the order of their ages
abbrev pub history_on : Sizes → ℕ → List AgedEntry → List AgedEntry
history_on sizes line served = in_age_order (served_on sizes line served)

-- a history up to this age
abbrev pub up_to : ℕ → List AgedEntry → List AgedEntry
up_to age [] = []
up_to age (aged ∷ entries) = if nat_lt age aged.age then [] else aged ∷ up_to age entries

-- the words of a line after its operations up to this age, from zeros
abbrev pub words_up_to : Sizes → List AgedEntry → ℕ → ℕ → Words
words_up_to sizes served line age = line_words sizes (plain (up_to age (history_on sizes line served))) line

-- the age of a node's last operation among these, where it was this one before
abbrev pub last_age : ℕ → ℕ → List AgedEntry → ℕ
last_age node before [] = before
last_age node before (aged ∷ entries) = last_age node (if aged.entry.node == node then aged.age else before) entries

-- the ages of a lane's messages of this line
abbrev pub ages_on : ℕ → List Msg → List ℕ → List ℕ
ages_on line [] ages = []
ages_on line (m ∷ messages) ages = if msg_line m == line then first_age ages ∷ ages_on line messages (drop 1 ages) else ages_on line messages (drop 1 ages)

-- the line as the machine has it, where this is the greatest age given to it
unfoldable pub aged_line : Sizes → Past → ℕ → ℕ → AgedLine
aged_line sizes past top line =
    record {
      line = project sizes past.state (line_words sizes (plain (history_on sizes line past.served)) line) (answered_of sizes (plain_past past) line) line;
      copy_age = λ node. (past.ages.node node).copy line;
      memory_age = (past.ages.node (home_of sizes line)).memory line;
      lane_age = λ a b class. ages_on line (past.state.lane a b class) (past.ages.lane a b class);
      top = top;
      words_at = words_up_to sizes past.served line;
      last = λ node. last_age node 0 (served_on sizes line past.served);
    }
