-- How a home keeps its part: the fields of each line's header and the words of each line by the line's number there, the lists in the
-- directory, the lines that hold links apart, and the budget.
use Rattle.std.specs.Prelude.{◌≡◌, ℕ, zero, suc, ◌+◌, ◌*◌, ◌<◌, ◌≤◌, ◌%◌, true, false, List, [], length, slice_index_or}
use Rattle.std.specs.List.{count_by}
use Rattle.std.specs.FinMap as fin
use Rattle.line_map.specs.Sizes.{Sizes, home_of}
use Rattle.op_model.specs.declared.state.Wait.TheVariants.{Idle}
use Rattle.op_model.specs.Nodes.{Nodes, listed, none}
use Rattle.op_model.specs.Operations.{Words}
use Rattle.op_model.specs.Lines.{Header}
use Rattle.op_model.specs.Shares.{Headers}
use Rattle.dir_header.specs.Sharers.{Directory}
use Rattle.dir_header.specs.Budgets.{BudgetView}
use Rattle.dir_header.specs.HomeSides.{HomeView, Fields, header_at, pending_in, IsHome}
use Rattle.dir_header.specs.Standings.{HoldersView, standing_in, stands_victim, stands_pending}

-- the headers of so many lines, from this one on
unfoldable pub table : (ℕ → Header) → ℕ → ℕ → Headers
table header line zero = fin.empty
table header line (suc n) = fin.insert (table header (line + 1) n) line (header line)

abbrev pub blank : Fields
blank = record { local = false; dirty = false; wait = Idle; acks = 0 }

-- a header of its parts
abbrev pub joined : Fields → Nodes → Words → Header
joined h list memory = record { local = h.local; dirty = h.dirty; wait = h.wait; acks = h.acks; list = list; memory = memory }

-- the header of the line with this number at its home
abbrev pub line_header : List Fields → List Words → List Nodes → ℕ → Header
line_header headers memory lists m = joined (slice_index_or headers m blank) (slice_index_or lists m none) (slice_index_or memory m [])

abbrev pub home_view : {D : Type 0} → Directory → Sizes → ℕ → List Fields → List Words → D → HomeView D
home_view dir sizes node headers memory d =
    record {
      sizes = sizes;
      node = node;
      charge = dir.charge;
      dir = d;
      headers = table (λ line. line_header headers memory dir.lists (line % sizes.lines)) (node * sizes.lines) sizes.lines;
    }

-- what is kept beside a home: the places of the budget that pending lines use, which lines hold a link and are idle, and how many
-- hold one and are pending
pub record IsCounted {D : Type 0} (home : HomeView D) (budget : BudgetView) (holders : HoldersView) : Type 0 where
  pub used : budget.used ≡ pending_in home
  pub limit : budget.limit ≡ home.sizes.pending
  pub victims : (line : ℕ) → home_of home.sizes line ≡ home.node → listed holders.victims (line % home.sizes.lines) ≡ stands_victim (standing_in home.charge (header_at home line))
  pub few : (m : ℕ) → listed holders.victims m ≡ true → m < home.sizes.lines
  pub pending : holders.pending ≡ count_by (λ e. stands_pending (standing_in home.charge e.1)) (fin.entries home.headers)

pub record IsHomeSide {D : Type 0} (dir : Directory) (sizes : Sizes) (node : ℕ) (headers : List Fields) (memory : List Words) (d : D) (budget : BudgetView) (holders : HoldersView) : Type 0 where
  pub some_lines : 0 < sizes.lines
  pub most_lines : sizes.lines ≤ 4096
  pub most_nodes : sizes.nodes ≤ 64
  pub most_pending : sizes.pending ≤ 64
  pub fields : length headers ≡ sizes.lines
  pub bodies : length memory ≡ sizes.lines
  pub home : IsHome dir (home_view dir sizes node headers memory d)
  pub counted : IsCounted (home_view dir sizes node headers memory d) budget holders
