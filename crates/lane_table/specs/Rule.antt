-- What holds of the shared table between any two atomic steps.
use Rattle.std.specs.Prelude.{◌≡◌, ◌≢◌, ◌⊎◌, ℕ, suc, ◌^◌, ◌<◌, ◌≤◌, List, [], ◌∷◌, length, slice_index, slice_set, Some}
use mathlib.Core.Option.{some}
use lib.ListN.{get_elem?}
use Rattle.atomic_table.specs.Table as table
use Rattle.line_map.specs.Sizes.{Sizes, AreSizes}
use Rattle.op_model.specs.declared.operations.Op.{Op}
use Rattle.op_model.specs.declared.events.Class.{Class}
use Rattle.op_model.specs.declared.events.Event.{Event}
use Rattle.op_model.specs.Events.Step.{put_at}
use Rattle.op_model.specs.Run.Weight.{total}
use Rattle.op_model.specs.Programs.{ArePrograms, programs_of}
use Rattle.op_model.specs.Run.Runs.{Past}
use Rattle.op_model.specs.Parts.Part.{Part, part_at_start}
use Rattle.op_model.specs.Parts.Composition.{compose}
use Rattle.op_model.specs.Parts.Journal.{IsJournal}
use Rattle.lane_table.specs.Layout.{cell_word, word_count}
use Rattle.lane_table.specs.Setups.{Setup, run_in}
use Rattle.lane_table.specs.Cells.{lane_view, AreCounts, IsCell, IsUnused}

-- the part of this node, with the machine and the node's program
pub record IsPartOf (setup : Setup) (node : ℕ) (part : Part) : Type 0 where
  pub number : part.number ≡ node
  pub machine : part.sizes ≡ setup.sizes
  pub program : part.program ≡ programs_of setup.programs node

-- The words and the parts of all nodes. Each lane has its counts and its cell. The ticket word is the number of entries in all logs;
-- these are one journal, and it runs to the state that the parts make
pub record IsTable (setup : Setup) (words : List ℕ) (parts : ℕ → Part) : Type 0 where
  pub machine : AreSizes setup.sizes
  pub programs : ArePrograms setup.sizes setup.programs
  pub count : length words ≡ word_count setup.sizes
  pub about : (node : ℕ) → IsPartOf setup node (parts node)
  pub few : (node : ℕ) → length (parts node).log ≤ 2 ^ 48
  pub counts : (src dst : ℕ) (class : Class) → AreCounts (lane_view (parts src) (parts dst) src dst class)
  pub cells : (src dst : ℕ) (class : Class) → src < setup.sizes.nodes → dst < setup.sizes.nodes
      → IsCell setup.sizes words (cell_word setup.sizes src dst class 0) (lane_view (parts src) (parts dst) src dst class)
  pub unused : (src dst : ℕ) (class : Class) → (setup.sizes.nodes ≤ src) ⊎ (setup.sizes.nodes ≤ dst) → IsUnused (lane_view (parts src) (parts dst) src dst class)
  pub journal : List Event
  pub ticket : slice_index words 0 ≡ length journal
  pub entries : total (λ node. length (parts node).log) setup.sizes.nodes ≡ length journal
  pub numbered : IsJournal setup.sizes.nodes parts journal
  pub past : Past
  pub ran : run_in setup journal ≡ Some past
  pub made : past.state ≡ compose parts

-- no part of this node
abbrev pub NotIn : ℕ → List Part → Type 0
NotIn node [] = Unit {0}
NotIn node (part ∷ view) = (part.number ≢ node) × NotIn node view

abbrev pub IsIn : ℕ → List Part → Type 0
IsIn node [] = ⊥
IsIn node (part ∷ view) = (part.number ≡ node) ⊎ IsIn node view

-- the view of one seat has the parts of nodes that are this seat's, each once
abbrev pub Holds : (nodes : ℕ) (parts : ℕ → Part) (owner : ℕ → ℕ) (seat : ℕ) → List Part → Type 0
Holds nodes parts owner seat [] = Unit {0}
Holds nodes parts owner seat (part ∷ view) =
    ((part.number < nodes) × (part ≡ parts part.number) × (owner part.number ≡ seat) × NotIn part.number view) × Holds nodes parts owner seat view

-- each node of the machine has its part in one view, and no view has a part of any other number
pub record AreSeats (nodes : ℕ) (parts : ℕ → Part) (owner : ℕ → ℕ) (views : List (List Part)) : Type 0 where
  pub held : (seat : ℕ) (view : List Part) → get_elem? views seat ≡ some view → Holds nodes parts owner seat view
  pub there : (node : ℕ) → node < nodes → (view : List Part) × (get_elem? views (owner node) ≡ some view) × IsIn node view

pub record IsKept {S : Type 0} (setup : Setup) (state : table.State S (List Part)) : Type 0 where
  pub parts : ℕ → Part
  pub owner : ℕ → ℕ
  pub seats : AreSeats setup.sizes.nodes parts owner state.views
  pub table : IsTable setup state.words parts

-- the parts at the start, from this node on
abbrev pub parts_from : Sizes → ℕ → List (List Op) → List Part
parts_from sizes node [] = []
parts_from sizes node (program ∷ programs) = part_at_start sizes node program ∷ parts_from sizes (suc node) programs

-- Whatever the words and the parts are when a word becomes f of what it was, all holds where the part becomes `after`, and `tells`
-- holds of the number found
abbrev pub Keeps : Setup → (word : ℕ) (f : ℕ → ℕ) → Part → (after : ℕ → Part) (tells : ℕ → Type 0) → Type 0
Keeps setup word f part after tells =
    (words : List ℕ) (parts : ℕ → Part) → IsTable setup words parts → part ≡ parts part.number → part.number < setup.sizes.nodes → slice_index words word < 2 ^ 64
    → ((after (slice_index words word)).number ≡ part.number)
    × IsTable setup (slice_set words word (f (slice_index words word))) (put_at parts part.number (after (slice_index words word)))
    × tells (slice_index words word)
