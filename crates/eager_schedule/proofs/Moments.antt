-- A moment at rest: no line drains, and each is as a line of the delayed core of which nothing is under way; no home has a pending line, and a processor's next operation is begun at all nodes alike.
use Rattle.std.proofs.Common.{◌≡◌, ℕ, false}
use Rattle.line_map.specs.Sizes.{Sizes, home_of}
use Rattle.op_model.specs.Lines.{is_pending}
use Rattle.op_model.specs.Nodes.{listed}
use Rattle.op_model.specs.Run.Rest.{IsAtRest}
use Rattle.op_model.specs.Shares.{State, Trace, Unlinked, copy_of, header_of, pending_lines, room_of}
use Rattle.one_history.specs.Project.{project}
use Rattle.schedule_laws.proofs.Public.{IsRestLine, IsUsual}
use Rattle.schedule_laws.proofs.Public.{not-full, rest-line}
use Rattle.eager_model.specs.Line.{AgedLine}
use Rattle.eager_model.specs.Runs.{Past}
use Rattle.eager_history.specs.Project.{aged_line}
use Rattle.eager_history.specs.Sound.{IsEagerSound}
use Rattle.eager_history.proofs.Public.{sound-run}
use Rattle.eager_schedule.proofs.Quiet.{good-at, idle, none-under}
use Rattle.eager_schedule.proofs.Runs.{IsReached}

module _ (trace : Trace) (usual : IsUsual trace) (past : Past) (reached : IsReached trace past) (rests : IsAtRest past.state) where
  abbrev sizes : Sizes
  sizes = trace.sizes

  abbrev state : State
  state = past.state

  abbrev sound : IsEagerSound trace past
  sound = sound-run trace reached.0 past usual.words reached.1

  abbrev line_at : ℕ → AgedLine
  line_at x = aged_line sizes past (sound.lines x).top x

  pub rest-at : (x : ℕ) → IsRestLine (home_of sizes x) (header_of sizes (state.share (home_of sizes x)) x) (λ n. copy_of (state.share n) x)
  unfolding aged_line project
  rest-at x = rest-line (home_of sizes x) (line_at x).line (good-at trace past sound rests.lanes x) (none-under trace past sound rests.lanes x)

  pub idle-at : (x : ℕ) → is_pending (header_of sizes (state.share (home_of sizes x)) x) ≡ false
  idle-at x = idle trace past sound rests.lanes x

  pub unlisted-at : (x : ℕ) → listed (header_of sizes (state.share (home_of sizes x)) x).list (home_of sizes x) ≡ false
  unfolding aged_line project
  unlisted-at x = (good-at trace past sound rests.lanes x).unlisted

  pub room-free : (n : ℕ) → (room_of Unlinked sizes (state.share n)).full ≡ false
  room-free n = not-full sizes.pending (pending_lines (state.share n)) (rests.idle n) usual.pending
