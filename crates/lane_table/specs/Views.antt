-- What contracts see of a table and of its seats.
use Rattle.std.specs.Prelude.{◌≡◌, ℕ, ◌+◌, ◌<◌, List, [], ◌∷◌, slice_index_or, All}
use Rattle.atomic_table.specs.Seated.{TableId}
use Rattle.atomic_table.specs.Table.{Me}
use Rattle.op_model.specs.Parts.Part.{Part, part_at_start}
use Rattle.lane_table.specs.Setups.{Setup}
use Rattle.lane_table.specs.Rule.{IsPartOf}

-- which table it is, and what it was told
pub record TableView : Type 0 where
  pub id : TableId
  pub setup : Setup

-- a seat of one node: of which table, and its part
pub record SeatView : Type 0 where
  pub id : TableId
  pub part : Part

-- the seats that aren't handed out yet
pub record SeatsView : Type 0 where
  pub id : TableId
  pub parts : List Part

abbrev pub seat_part : SeatView → Part
seat_part seat = seat.part

-- the seat is one of this table
pub record IsSeatOf (table : TableView) (seat : SeatView) : Type 0 where
  pub id : seat.id ≡ table.id
  pub number : seat.part.number < table.setup.sizes.nodes
  pub part : IsPartOf table.setup seat.part.number seat.part

-- each part of a list is of a node of this table
pub record AreSeatsOf (table : TableView) (seats : SeatsView) : Type 0 where
  pub id : seats.id ≡ table.id
  pub parts : All (λ part. (part.number < table.setup.sizes.nodes) × IsPartOf table.setup part.number part) seats.parts

-- the parts of the nodes from this one on, in order
abbrev pub NumberedFrom : ℕ → List Part → Type 0
NumberedFrom node [] = Unit {0}
NumberedFrom node (part ∷ parts) = (part.number ≡ node) × NumberedFrom (node + 1) parts

-- the first part of a seat's view
abbrev pub no_part : Part
no_part = part_at_start (record { nodes = 0; lines = 0; words = 0; links = 0; sets = 0; pending = 0; evicts = 0 }) 0 []

abbrev pub first_of : {S : Type 0} → List Part × S → Part
first_of me = slice_index_or me.0 0 no_part

-- the seat has one part, and holds no slot
abbrev pub HasOne : {S : Type 0} → Me S (List Part) → Type 0
HasOne {S} me = ◌≡◌ {A = Me S (List Part)} me (first_of me ∷ [], [])

abbrev pub heads : List Part → List Part
heads [] = []
heads (part ∷ view) = part ∷ []

abbrev pub tails : List Part → List Part
tails [] = []
tails (part ∷ view) = view
