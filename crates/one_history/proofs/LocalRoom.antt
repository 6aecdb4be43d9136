-- What a node does where the lane has no room for its message, it does too where there is room: the gate is asked last.
use Rattle.std.proofs.Common.{◌≡◌, ℕ, Bool, true, false, cond, ◌==◌, ◌&&◌, not, List, Result, Ok, Err}
use Rattle.line_map.specs.Sizes.{Sizes, home_of}
use Rattle.op_model.specs.declared.events.Cause.{Cause}
use Rattle.op_model.specs.declared.events.Cause.TheVariants.{LaneGate}
use Rattle.op_model.specs.declared.events.EvictKind.{EvictKind}
use Rattle.op_model.specs.declared.operations.Op.{Op}
use Rattle.op_model.specs.Events.Node.{EvictLine, NodeOutcome, bind, by_row, departs, local}
use Rattle.op_model.specs.Lines.{Outcome}
use Rattle.op_model.specs.Shares.{Charge, Share, line_share, program}
use Rattle.op_model.specs.Tables.Processor.{evict}

pub local_room : (charge : Charge) (sizes : Sizes) (node : ℕ) (program : List Op) (share : Share) (line : ℕ) (kind : EvictKind) (out : NodeOutcome) →
    local charge sizes node program share (EvictLine line kind false) ≡ Ok out → local charge sizes node program share (EvictLine line kind true) ≡ Ok out
unfolding local
local_room charge sizes node program share line kind out e = go (evict node (home_of sizes line) kind (line_share sizes share line)) e
  where
    sends : (c : Bool) (o : NodeOutcome) → ◌≡◌ {A = Result NodeOutcome Cause} (cond (c && not false) (Err LaneGate) (Ok o)) (Ok out) → ◌≡◌ {A = Result NodeOutcome Cause} (cond (c && not true) (Err LaneGate) (Ok o)) (Ok out)
    sends true o e = absurd (let d : ◌≡◌ {A = Result NodeOutcome Cause} (Err LaneGate) (Ok out) = e in cc)
    sends false o e = e

    go : (r : Result Outcome Cause) →
        bind r (λ outcome. cond (departs (node == home_of sizes line) kind && not false) (Err LaneGate) (Ok (by_row sizes node share line outcome))) ≡ Ok out →
        bind r (λ outcome. cond (departs (node == home_of sizes line) kind && not true) (Err LaneGate) (Ok (by_row sizes node share line outcome))) ≡ Ok out
    go (Ok o) e = sends (departs (node == home_of sizes line) kind) (by_row sizes node share line o) e
    go (Err c) e = e
