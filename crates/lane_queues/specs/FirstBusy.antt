-- The first lane that isn't empty, in lane order: by sender, then by taker, then requests before replies.
use Rattle.std.specs.Prelude.{◌≡◌, ◌≢◌, ℕ, ◌<◌, Bool, true, false, not, ◌&&◌, [], Option, MatchOption}
use Rattle.op_model.specs.declared.events.Class.{Class}
use Rattle.op_model.specs.declared.events.Class.TheVariants.{Request, Reply}
use Rattle.op_model.specs.Shares.{Lanes}
use Rattle.op_model.specs.Run.Schedules.{Lane, is_no_message, lane_before}
use Rattle.lane_queues.specs.LaneStates.{LaneState}

-- the lane that a call names
abbrev pub lane_named : ℕ × ℕ × Class → Lane
lane_named name = record { src = name.0; dst = name.1; class = name.2 }

-- a lane of the machine that holds a message
pub record IsBusy (state : LaneState) (name : ℕ × ℕ × Class) : Type 0 where
  pub from : name.0 < state.sizes.nodes
  pub to : name.1 < state.sizes.nodes
  pub some : state.lane name.0 name.1 name.2 ≢ []

-- which lanes are marked, and which hold a message
abbrev pub Marks : Type 0
Marks = ℕ → ℕ → Class → Bool

abbrev pub busy_in : Lanes → Marks
busy_in lanes src dst class = not (is_no_message (lanes src dst class))

-- of the lanes from one sender to the nodes below a bound, this is the first marked one
pub record IsFirstFrom (nodes : ℕ) (marks : Marks) (src dst : ℕ) (class : Class) : Type 0 where
  pub to : dst < nodes
  pub marked : marks src dst class ≡ true
  pub before : (other : ℕ) (k : Class) → other < dst → marks src other k ≡ false
  pub requests : class ≡ Reply → marks src dst Request ≡ false

-- of the lanes between the nodes below a bound, this is the first marked one
pub record IsFirst (nodes : ℕ) (marks : Marks) (src dst : ℕ) (class : Class) : Type 0 where
  pub from : src < nodes
  pub first : IsFirstFrom nodes marks src dst class
  pub before : (other dst : ℕ) (k : Class) → other < src → dst < nodes → marks other dst k ≡ false

-- none of them is
abbrev pub IsNowhereFrom : ℕ → Marks → ℕ → Type 0
IsNowhereFrom nodes marks src = (dst : ℕ) (class : Class) → dst < nodes → marks src dst class ≡ false

abbrev pub IsNowhere : ℕ → Marks → Type 0
IsNowhere nodes marks = (src : ℕ) → src < nodes → IsNowhereFrom nodes marks src

-- the answer is the first marked lane, if there is one
abbrev pub AnswersFirstFrom : ℕ → Marks → ℕ → Option (ℕ × Class) → Type 0
AnswersFirstFrom nodes marks src answer = MatchOption answer (IsNowhereFrom nodes marks src) (λ lane. IsFirstFrom nodes marks src lane.0 lane.1)

abbrev pub AnswersFirst : ℕ → Marks → Option (ℕ × ℕ × Class) → Type 0
AnswersFirst nodes marks answer = MatchOption answer (IsNowhere nodes marks) (λ lane. IsFirst nodes marks lane.0 lane.1 lane.2)

-- those marks that stand behind a lane
abbrev pub behind : Lane → Marks → Marks
behind here marks src dst class = lane_before here (lane_named (src, dst, class)) && marks src dst class
