-- What is asked for: a home for its line, and a line to be called in for its links.
use Rattle.std.proofs.Common.{◌≡◌, ℕ, Bool, false, ◌&&◌, not, arith}
use Rattle.line_map.specs.Sizes.{Sizes}
use Rattle.op_model.specs.declared.messages.Msg.{Msg}
use Rattle.op_model.specs.declared.operations.Op.{Op}
use Rattle.op_model.specs.Events.Node.{asks_victim, is_get, meets_row}
use Rattle.op_model.specs.Lines.{LineShare, is_pending}
use Rattle.op_model.specs.Messages.{msg_content, msg_line}
use Rattle.op_model.specs.Shares.{Share, Unlinked, header_of, room_of}
use Rattle.op_model.specs.Tables.Home.{wants_victim}
use Rattle.op_model.specs.Tables.Processor.{ask}

-- who asks a home for a line isn't done
pub ask-undone : (home : ℕ) (op : Op) (share : LineShare) → (ask home op share).done ≡ false
unfolding ask
ask-undone home op share = grind arith

-- where lists hold no links no message asks for a victim
pub never-asks : (sizes : Sizes) (node : ℕ) (share : Share) (src : ℕ) (m : Msg) → asks_victim Unlinked sizes node share src m ≡ false
unfolding wants_victim
never-asks sizes node share src m = go (meets_row sizes node share src m) (is_get (msg_content m)) (is_pending (header_of sizes share (msg_line m)))
  where
    go : (a b c : Bool) → (a && b && (not c && false && not (room_of Unlinked sizes share).link_pending && not (room_of Unlinked sizes share).full)) ≡ false
    go a b c = grind arith
