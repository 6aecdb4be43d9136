-- What the machine keeps between two events: its run has come to the state of its nodes and its lanes, and no age is above the number of events.
use Rattle.std.specs.Prelude.{◌≡◌, ℕ, List, length, map, slice_get, Option, Some, None}
use Rattle.line_map.specs.Sizes.{Sizes, AreSizes}
use Rattle.op_model.specs.declared.events.Event.{Event}
use Rattle.op_model.specs.declared.operations.Op.{Op}
use Rattle.op_model.specs.Programs.{programs_of, IsProgramOf}
use Rattle.op_model.specs.Run.Counts.{Moment}
use Rattle.op_model.specs.Run.Runs.{start_share}
use Rattle.op_model.specs.Shares.{Share, State}
use Rattle.eager_model.specs.Node.{NodeAges}
use Rattle.eager_model.specs.Runs.{AgedEntry, Past, first_ages, start, run_by}
use Rattle.eager_model.specs.Step.{Ages}
use Rattle.eager_home.specs.Aged.{AreWithin}
use Rattle.eager_home.specs.Views.{EagerView, ages_in}
use Rattle.eager_report.specs.Moments.{moments}
use Rattle.eager_machine.specs.Lanes.{UnderWay, messages_of, lane_ages, AreFresh}

-- the share of a node. There is no node past the last one, and its share is the first one for ever
abbrev pub share_or : Sizes → ℕ → Option EagerView → Share
share_or sizes node None = start_share sizes node
share_or sizes node (Some view) = view.share

abbrev pub share_in : Sizes → List EagerView → ℕ → Share
share_in sizes nodes node = share_or sizes node (slice_get nodes node)

-- and the ages of its words
abbrev pub ages_or : ℕ → Option EagerView → NodeAges
ages_or node None = first_ages.node node
ages_or node (Some view) = ages_in view

abbrev pub node_ages : List EagerView → ℕ → NodeAges
node_ages nodes node = ages_or node (slice_get nodes node)

-- the state of these nodes with what is under way, its ages, and what was served on the way to it
abbrev pub state_of : Sizes → List EagerView → UnderWay → State
state_of sizes nodes way = record { share = share_in sizes nodes; lane = messages_of way }

abbrev pub ages_of : List EagerView → UnderWay → Ages
ages_of nodes way = record { node = node_ages nodes; lane = lane_ages way }

abbrev pub past_of : Sizes → List EagerView → UnderWay → List AgedEntry → Past
past_of sizes nodes way served = record { state = state_of sizes nodes way; ages = ages_of nodes way; served = served }

abbrev pub programs_in : List EagerView → List (List Op)
programs_in nodes = map (λ view. view.program) nodes

-- a node of the machine with this number
pub record IsNodeAt (sizes : Sizes) (node : ℕ) (view : EagerView) : Type 0 where
  pub same_sizes : view.sizes ≡ sizes
  pub number_is : view.number ≡ node
  pub program : IsProgramOf sizes node view.program

-- one node a number
pub record AreNodes (sizes : Sizes) (nodes : List EagerView) : Type 0 where
  pub count : length nodes ≡ sizes.nodes
  pub each : (node : ℕ) (view : EagerView) → slice_get nodes node ≡ Some view → IsNodeAt sizes node view

-- the moments of these events, from the start
abbrev pub moments_in : Sizes → List EagerView → List Event → List Moment
moments_in sizes nodes events = moments sizes (programs_of (programs_in nodes)) (start sizes) events

-- no node has an age above this one
abbrev pub AreYoung : ℕ → List EagerView → Type 0
AreYoung bound nodes = (node : ℕ) (view : EagerView) → slice_get nodes node ≡ Some view → AreWithin bound (ages_in view)

pub record IsKept (sizes : Sizes) (nodes : List EagerView) (way : UnderWay) (events : List Event) (served : List AgedEntry) : Type 0 where
  pub sizes_are : AreSizes sizes
  pub nodes_are : AreNodes sizes nodes
  pub ran : run_by sizes (programs_of (programs_in nodes)) (start sizes) events ≡ Some (past_of sizes nodes way served)
  pub young : AreYoung (length events) nodes
  pub fresh : AreFresh (length events) way
