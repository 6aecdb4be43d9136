-- A node's place stays within its program: it moves on where an operation ends, which is the one at that place.
use Rattle.std.proofs.Common.{◌≡◌, ◌⊎◌, inl, inr, ℕ, suc, ◌<◌, ◌≤◌, Bool, true, false, cond, List, length, arith, sym, subst, Option, Some, None, Ok}
use Rattle.std.proofs.lemmas.Option.{slice_get_within}
use Rattle.line_map.specs.Sizes.{Sizes, home_of, line_of}
use Rattle.op_model.specs.declared.messages.Msg.{Msg}
use Rattle.op_model.specs.declared.operations.Op.{Op}
use Rattle.op_model.specs.declared.state.Want.{Want}
use Rattle.op_model.specs.Events.Node.{Input, NodeOutcome, by_row, is_outstanding}
use Rattle.op_model.specs.Lines.{Outcome}
use Rattle.op_model.specs.Messages.{msg_content, msg_line}
use Rattle.op_model.specs.OwnPart.{IsOutstanding}
use Rattle.op_model.specs.Shares.{Share, Unlinked, is_set_empty, line_share, put_share, room_of, want_on}
use Rattle.op_model.specs.Tables.Processor.{hit}
use Rattle.eager_model.specs.Node.{local, taking}
use Rattle.eager_part.specs.Part.{IsEagerPart}
use Rattle.eager_part.proofs.Acts.{line-of}
use Rattle.eager_part.proofs.EachAct.{each-act}
use Rattle.eager_part.proofs.Kept.{evict-kept, message-kept}

module _ (sizes : Sizes) (node : ℕ) (program : List Op) (share : Share) (part : IsEagerPart sizes node program share) (placed : share.place ≤ length program) where
  -- a row that ends an operation ends the one at the place
  row-placed : (line : ℕ) (o : Outcome) → (o.done ≡ false) ⊎ (share.place < length program) → (by_row sizes node share line o).share.place ≤ length program
  unfolding put_share
  row-placed line o (inl still) = subst (λ c. cond c (suc share.place) share.place ≤ length program) (sym still) placed
  row-placed line o (inr below) = either o.done
    where
      either : (c : Bool) → cond c (suc share.place) share.place ≤ length program
      either true = omega arith
      either false = placed

  -- an operation that a node waits for on a line is the one at its place
  waits-next : (line : ℕ) (want : Option Want) → IsOutstanding sizes node program share want → is_outstanding (want_on sizes want line) ≡ true → share.place < length program
  waits-next line None is waits = absurd (cc)
  waits-next line (Some want) is waits = slice_get_within program share.place want.op is.0

  taken : (src : ℕ) (m : Msg) → (by_row sizes node share (msg_line m) (taking sizes node share src m)).share.place ≤ length program
  taken src m =
      let line = msg_line m in
      let k = message-kept node (home_of sizes line) (line_share sizes share line) (line-of sizes node program share part line) src (is_set_empty sizes share line) (room_of Unlinked sizes share) (msg_content m) in
      row-placed line (taking sizes node share src m)
      (elim k.1 [ inl quiet ↦ inl quiet.1 | inr other ↦ elim other [ inl mark ↦ inl mark.2 | inr end ↦ inr (waits-next line share.want part.outstanding end.1) ] ])

pub eager_placed : (sizes : Sizes) (node : ℕ) (program : List Op) (share : Share) (input : Input) (out : NodeOutcome) → IsEagerPart sizes node program share → share.place ≤ length program → local sizes node program share input ≡ Ok out → out.share.place ≤ length program
eager_placed sizes node program share input out part placed e =
    each-act sizes node program share (λ _ (x : NodeOutcome). x.share.place ≤ length program)
    (record {
      hits = λ op next _ _. row-placed sizes node program share part placed (line_of sizes op.word) (hit op (line_share sizes share (line_of sizes op.word))) (inr (slice_get_within program share.place op next));
      begins = λ op next _ _ o _. row-placed sizes node program share part placed (line_of sizes op.word) o (inr (slice_get_within program share.place op next));
      evicts = λ line kind _ o is. row-placed sizes node program share part placed line o (inl (evict-kept node (home_of sizes line) (line_share sizes share line) (line-of sizes node program share part line) kind o is).1.1);
      takes = taken sizes node program share part placed;
    }) input out e
