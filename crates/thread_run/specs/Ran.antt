-- What a run in threads answers.
use Rattle.std.specs.Prelude.{◌≡◌, ℕ, ◌<◌, ◌==◌, ◌%◌, List, length, slice_get, count_by, All, Some}
use Rattle.line_map.specs.Sizes.{home_of}
use Rattle.op_model.specs.declared.events.Event.{Event}
use Rattle.op_model.specs.Shares.{State, Linked, header_of}
use Rattle.op_model.specs.Programs.{programs_of}
use Rattle.op_model.specs.Run.Runs.{Past}
use Rattle.dir_header.specs.Sharers.{list_at}
use Rattle.sharer_dir.specs.Linked.{IsLinkedDir, linked_directory}
use Rattle.one_journal.specs.SameLogs.{IsMerged}
use Rattle.step_journal.specs.Logs.{LogList, entries_of}
use Rattle.lane_table.specs.Setups.{Setup, run_in}
use Rattle.node_box.specs.Boxes.{LinkedNode, IsOwnLog}

-- The node of its number in a state: with the machine, its program and its share of that state, and with lists that cost links. Each
-- link is free or in the list of one line, and each list stands for the set that the state has for its line
pub record IsNodeIn (setup : Setup) (state : State) (node : LinkedNode) : Type 0 where
  pub number : node.number < setup.sizes.nodes
  pub machine : node.sizes ≡ setup.sizes
  pub program : node.program ≡ programs_of setup.programs node.number
  pub charge : node.charge ≡ Linked
  pub share : node.share ≡ state.share node.number
  pub links : IsLinkedDir node.dir
  pub lists : (line : ℕ) → home_of setup.sizes line ≡ node.number
      → (header_of setup.sizes (state.share node.number) line).list ≡ list_at (linked_directory node.dir) (line % setup.sizes.lines)

-- There are as many nodes as the machine has, and as many logs. Each number of the machine is the number of the node at exactly one
-- place, and the log at a place is that of the node there. The journal is what the logs are merged into by their tickets. It is a run of
-- the machine with these programs from the start, each node is the node of its number at the run's end, and every program is done there
pub record IsRan (setup : Setup) (journal : List Event) (nodes : List LinkedNode) (logs : List LogList) : Type 0 where
  pub node_places : length nodes ≡ setup.sizes.nodes
  pub log_places : length logs ≡ setup.sizes.nodes
  pub once : (number : ℕ) → number < setup.sizes.nodes → count_by (λ (node : LinkedNode). node.number == number) nodes ≡ 1
  pub own_logs : (place : ℕ) (node : LinkedNode) (log : LogList) → slice_get nodes place ≡ Some node → slice_get logs place ≡ Some log → IsOwnLog setup.sizes node.number log.entries
  pub merged : IsMerged (entries_of logs) journal
  pub past : Past
  pub ran : run_in setup journal ≡ Some past
  pub ends : All (IsNodeIn setup past.state) nodes
  pub done : (number : ℕ) → number < setup.sizes.nodes → (past.state.share number).place ≡ length (programs_of setup.programs number)
