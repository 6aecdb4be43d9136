-- Logs of events with their tickets.
use Rattle.std.specs.Prelude.{◌≡◌, ℕ, ◌<◌, List, length, map, sum_by, slice_index_or, nat_lt, if◌then◌else◌}
use Rattle.op_model.specs.declared.events.Numbered.{Numbered}
use Rattle.op_model.specs.Parts.Part.{Part}
use Rattle.op_model.specs.Parts.Journal.{drawn}

-- a log: its entries, and how many more it has room for
pub record LogList : Type 0 where
  pub entries : List Numbered
  pub room : ℕ

-- how many entries all logs have, and how many of them have this ticket
abbrev pub all_entries : List LogList → ℕ
all_entries logs = sum_by (λ (log : LogList). length log.entries) logs

abbrev pub all_drawn : ℕ → List LogList → ℕ
all_drawn ticket logs = sum_by (λ (log : LogList). drawn ticket log.entries) logs

-- the tickets of all logs are the numbers below their total, each once
abbrev pub AreNumbered : List LogList → Type 0
AreNumbered logs = (ticket : ℕ) → all_drawn ticket logs ≡ (if nat_lt ticket (all_entries logs) then 1 else 0)

-- the entries of each log
abbrev pub entries_of : List LogList → List (List Numbered)
entries_of logs = map (λ (log : LogList). log.entries) logs

-- the logs are those of the parts of so many nodes, in the order of the nodes
pub record AreLogsOf (nodes : ℕ) (parts : ℕ → Part) (logs : List LogList) : Type 0 where
  pub count : length logs ≡ nodes
  pub entries : (node : ℕ) (other : LogList) → node < nodes → (slice_index_or logs node other).entries ≡ (parts node).log
