-- What a turn of a processor does.
use Rattle.std.specs.Prelude.{◌≡◌, ◌≢◌, ◌⊎◌, ℕ, ◌==◌, Bool, true, false, not, nat_lt, slice_get, is_some, is_ok, Option, Some, None, Result, Err}
use Rattle.line_map.specs.Sizes.{line_of, home_of}
use Rattle.op_model.specs.declared.operations.Op.{Op}
use Rattle.op_model.specs.declared.events.EvictKind.{EvictKind}
use Rattle.op_model.specs.declared.events.EvictKind.TheVariants.{Wb, Hint, Silent}
use Rattle.op_model.specs.declared.events.Cause.{Cause}
use Rattle.op_model.specs.declared.events.Cause.TheVariants.{Conflict, HeldPending, HeldBudget}
use Rattle.op_model.specs.declared.state.CopyState.{CopyState}
use Rattle.op_model.specs.declared.state.CopyState.TheVariants.{Absent, Shared, Exclusive}
use Rattle.op_model.specs.Lines.{state_of}
use Rattle.op_model.specs.Shares.{copy_of}
use Rattle.op_model.specs.Events.Node.{NodeOutcome, HitNext, IssueNext, is_outstanding}
use Rattle.op_model.specs.Parts.Part.{gate_count}
use Rattle.cpu_cache.specs.Caches.{CacheView, IsResident}
use Rattle.magic_node.specs.declared.acts.LocalEvent.TheVariants as own
use Rattle.node_box.specs.declared.turns.Turn.{Turn}
use Rattle.node_box.specs.declared.turns.Turn.TheVariants.{Did, Idle, Waiting, Held, Ended, NoSpace, Memory}
use Rattle.node_box.specs.declared.turns.HeldCause.{HeldCause}
use Rattle.node_box.specs.declared.turns.HeldCause.TheVariants.{Pending, Budget}
use Rattle.node_box.specs.Boxes.{LinkedNode, BoxView, outcome_at}
use Rattle.node_box.specs.Events.{Acts}
use Rattle.node_box.specs.Gate.{IsCounted, IsLaneFull, Begins}
use Rattle.node_box.specs.Turns.{IsReserved}

-- How a copy leaves, by whether it is at its home, and whether its message has room. An exclusive copy whose message has no room stays
abbrev pub leaving : (at_home room : Bool) → CopyState → Option EvictKind
leaving at_home room Absent = None
leaving true room Shared = Some Silent
leaving false true Shared = Some Hint
leaving false false Shared = Some Silent
leaving true room Exclusive = Some Wb
leaving false true Exclusive = Some Wb
leaving false false Exclusive = None

-- the cache of a node
abbrev pub cache_of : LinkedNode → CacheView
cache_of node = record { sizes = node.sizes; copies = node.share.copies }

-- another line, which stands in the set of the next operation's line
pub record IsInTheWay (node : LinkedNode) (line : ℕ) : Type 0 where
  pub op : Op
  pub next : slice_get node.program node.share.place ≡ Some op
  pub other : line ≢ line_of node.sizes op.word
  pub resident : IsResident (cache_of node) (line_of node.sizes op.word) line

-- A line of the node's own home leaves without a message, and nothing is counted. For another one the node counts what the gate on evictions
-- counts, and there is room where that is less than a lane may have
abbrev pub Counts : (old new : BoxView) (home : ℕ) (room : Bool) → Type 0
Counts old new home room =
    ((home ≡ old.node.number) × (room ≡ true) × (new ≡ old)) ⊎ ((home ≢ old.node.number) × (room ≡ nat_lt (gate_count new.seat.part home) new.seat.part.sizes.evicts) × IsCounted old new home)

-- the copy of this line leaves, once it is known whether its message has room
pub record Evicts (old new : BoxView) (line ticket : ℕ) : Type 0 where
  pub room : Bool
  pub kind : EvictKind
  pub counted : BoxView
  pub counts : Counts old counted (home_of old.node.sizes line) room
  pub leaves : leaving (home_of old.node.sizes line == old.node.number) room (state_of (copy_of old.node.share line)) ≡ Some kind
  pub acts : Acts counted new (own.Evict line kind) room ticket

-- the copy of this line is exclusive and of another home, and its message has no room
pub record LacksSpace (old new : BoxView) (line : ℕ) : Type 0 where
  pub remote : home_of old.node.sizes line ≢ old.node.number
  pub exclusive : state_of (copy_of old.node.share line) ≡ Exclusive
  pub full : nat_lt (gate_count new.seat.part (home_of old.node.sizes line)) new.seat.part.sizes.evicts ≡ false
  pub lane : IsLaneFull old new (home_of old.node.sizes line)

-- what became of a line that is in the way
abbrev pub Leaves : Turn → (old new : BoxView) → (line : ℕ) → Type 0
Leaves (Did ticket) old new line = Evicts old new line ticket
Leaves NoSpace old new line = LacksSpace old new line
Leaves _ old new line = ⊥

-- the next operation isn't done on the cache's copy, and another line that stands in its set is to leave
pub record MakesWay (turn : Turn) (old new : BoxView) : Type 0 where
  pub no_hit : is_ok (outcome_at old.node HitNext) ≡ false
  pub conflict : outcome_at old.node IssueNext ≡ Err Conflict
  pub line : ℕ
  pub in_the_way : IsInTheWay old.node line
  pub leaves : Leaves turn old new line

-- The next operation is done on the cache's copy; or another line makes way for it; or it is begun, or held back, or there is none
abbrev pub Processes : Turn → (old new : BoxView) → Type 0
Processes (Did ticket) old new = Acts old new own.Hit true ticket ⊎ MakesWay (Did ticket) old new ⊎ Acts old new own.Issue true ticket
Processes NoSpace old new = MakesWay NoSpace old new
Processes Idle old new = ⊥
Processes Memory old new = ⊥
Processes turn old new = Begins turn old new

-- A processor's turn made one event, with this ticket; or none, for the reason that it answers; or it lacked memory and changed nothing
abbrev pub IsProcessorTurn : Turn → (old new : BoxView) → Type 0
IsProcessorTurn Memory old new = new ≡ old
IsProcessorTurn turn old new = (reserved : BoxView) × IsReserved old reserved × Processes turn reserved new

-- whether a turn answers that the program is done, whether that an operation is outstanding, and for which cause that one is held back
abbrev pub is_ended : Turn → Bool
is_ended Ended = true
is_ended _ = false

abbrev pub is_waiting : Turn → Bool
is_waiting Waiting = true
is_waiting _ = false

abbrev pub held_for : Turn → Option HeldCause
held_for (Held cause) = Some cause
held_for _ = None

-- the cause for which the next operation is held back, if it is
abbrev pub holds_back : Result NodeOutcome Cause → Option HeldCause
holds_back (Err HeldPending) = Some Pending
holds_back (Err HeldBudget) = Some Budget
holds_back _ = None

-- Ended is answered exactly where the program is done, Waiting exactly where an operation is outstanding, and Held exactly where the next
-- operation is held back
pub record IsReason (turn : Turn) (node : LinkedNode) : Type 0 where
  pub ended : is_ended turn ≡ not (is_some (slice_get node.program node.share.place))
  pub waiting : is_waiting turn ≡ is_outstanding node.share.want
  pub held : held_for turn ≡ holds_back (outcome_at node IssueNext)

-- where memory isn't lacking
abbrev pub HasReason : Turn → LinkedNode → Type 0
HasReason Memory node = Unit {0}
HasReason turn node = IsReason turn node
