-- What the machine keeps between two events: the state of its run is that of its nodes and its lanes, and its numbers are those of the run.
use Rattle.std.specs.Prelude.{◌≡◌, ℕ, ◌+◌, ◌-◌, ◌≤◌, List, [], ◌∷◌, length, map, slice_get, sum_by, Option, Some, None}
use Rattle.line_map.specs.Sizes.{Sizes, AreSizes}
use Rattle.op_model.specs.declared.events.Event.{Event}
use Rattle.op_model.specs.declared.operations.Entry.{Entry}
use Rattle.op_model.specs.declared.operations.Op.{Op}
use Rattle.op_model.specs.Shares.{Charge, Linked, Lanes, Share, State}
use Rattle.op_model.specs.Run.Runs.{start_share, start, run_by}
use Rattle.op_model.specs.Run.Bounds.{request_bound, reply_bound}
use Rattle.op_model.specs.Run.Counts.{Moment, moments}
use Rattle.lane_queues.specs.LaneStates.{LaneState}
use Rattle.machine.specs.Faces.{Face}
use Rattle.op_model.specs.Programs.{programs_of, IsProgramOf}
use Rattle.msg_words.specs.SendList.{SendList}
use Rattle.event_tally.specs.Tallies.{tally_of}

-- the share of a node. There is no node past the last one, and its share is the first one for ever
abbrev pub share_or : Sizes → ℕ → Option Face → Share
share_or sizes node None = start_share sizes node
share_or sizes node (Some face) = face.share

abbrev pub share_in : Sizes → List Face → ℕ → Share
share_in sizes faces node = share_or sizes node (slice_get faces node)

-- the state of these nodes with these lanes
abbrev pub state_of : Sizes → List Face → Lanes → State
state_of sizes faces lane = record { share = share_in sizes faces; lane = lane }

abbrev pub programs_in : List Face → List (List Op)
programs_in faces = map (λ face. face.program) faces

-- the charge of the first node, which is that of all
abbrev pub charge_in : List Face → Charge
charge_in [] = Linked
charge_in (face ∷ faces) = face.charge

-- how many operations a node has left, and how many all have
abbrev pub left_at : Face → ℕ
left_at face = length face.program - face.share.place

abbrev pub left_in : List Face → ℕ
left_in faces = sum_by left_at faces

-- a node of the machine with this number
pub record IsNodeAt (sizes : Sizes) (charge : Charge) (node : ℕ) (face : Face) : Type 0 where
  pub same_sizes : face.sizes ≡ sizes
  pub number_is : face.number ≡ node
  pub same_charge : face.charge ≡ charge
  pub program : IsProgramOf sizes node face.program
  pub placed : face.share.place ≤ length face.program

-- one node a number, each at its place
pub record AreNodes (sizes : Sizes) (charge : Charge) (faces : List Face) : Type 0 where
  pub count : length faces ≡ sizes.nodes
  pub each : (node : ℕ) (face : Face) → slice_get faces node ≡ Some face → IsNodeAt sizes charge node face

-- lanes of the machine, which may hold as many messages as a run ever has in one
pub record AreLanesOf (sizes : Sizes) (lanes : LaneState) : Type 0 where
  pub same_sizes : lanes.sizes ≡ sizes
  pub requests : lanes.requests ≡ request_bound sizes
  pub replies : lanes.replies ≡ reply_bound sizes

abbrev pub moments_in : Sizes → List Face → List Event → List Moment
moments_in sizes faces events = moments (charge_in faces) sizes (programs_of (programs_in faces)) (start sizes).state events

-- nothing is sent, and there is room for what an event may send
abbrev pub no_sends : Sizes → SendList
no_sends sizes = record { list = []; room = sizes.nodes + 1 }

pub record IsKept (sizes : Sizes) (faces : List Face) (lanes : LaneState) (events : List Event) (served : List Entry) (tally : List ℕ) (left : ℕ) (out : SendList) : Type 0 where
  pub sizes_are : AreSizes sizes
  pub nodes : AreNodes sizes (charge_in faces) faces
  pub lanes_are : AreLanesOf sizes lanes
  pub ran : run_by (charge_in faces) sizes (programs_of (programs_in faces)) (start sizes) events ≡ Some (record { state = state_of sizes faces lanes.lane; served = served })
  pub tally_is : tally ≡ tally_of sizes (moments_in sizes faces events)
  pub left_is : left ≡ left_in faces
  pub nothing_sent : out ≡ no_sends sizes
