-- The operation that an act of a node ends is the one at its place.
use Rattle.std.proofs.Common.{◌≡◌, ◌⊎◌, inl, inr, ℕ, ◌<◌, true, false, List, length, Option, Some, None, Ok}
use Rattle.std.proofs.lemmas.Option.{slice_get_within}
use Rattle.line_map.specs.Sizes.{Sizes, home_of}
use Rattle.op_model.specs.declared.messages.Msg.{Msg}
use Rattle.op_model.specs.declared.operations.Op.{Op}
use Rattle.op_model.specs.declared.state.Want.{Want}
use Rattle.op_model.specs.Events.Node.{Input, NodeOutcome, is_outstanding}
use Rattle.op_model.specs.Messages.{msg_content, msg_line}
use Rattle.op_model.specs.OwnPart.{IsOutstanding}
use Rattle.op_model.specs.Shares.{Share, Unlinked, is_set_empty, line_share, room_of, want_on}
use Rattle.eager_model.specs.Node.{local, taking}
use Rattle.eager_part.specs.Part.{IsEagerPart}
use Rattle.eager_part.proofs.Public.{each-act, evict-kept, line-of, message-kept}

module _ (sizes : Sizes) (node : ℕ) (program : List Op) (share : Share) (part : IsEagerPart sizes node program share) where
  -- an operation that a node waits for on a line is the one at its place
  waits-next : (line : ℕ) (want : Option Want) → IsOutstanding sizes node program share want → is_outstanding (want_on sizes want line) ≡ true → share.place < length program
  waits-next line None is waits = absurd (cc)
  waits-next line (Some want) is waits = slice_get_within program share.place want.op is.0

  taken-ends : (src : ℕ) (m : Msg) → (taking sizes node share src m).done ≡ true → share.place < length program
  taken-ends src m done =
      let line = msg_line m in
      let k = message-kept node (home_of sizes line) (line_share sizes share line) (line-of sizes node program share part line) src (is_set_empty sizes share line) (room_of Unlinked sizes share) (msg_content m) in
      elim k.1 [ inl quiet ↦ absurd (never quiet.1) | inr other ↦ elim other [ inl mark ↦ absurd (never mark.2) | inr end ↦ waits-next line share.want part.outstanding end.1 ] ]
    where
      never : (taking sizes node share src m).done ≡ false → ⊥
      never still = cc

pub done-within : (sizes : Sizes) (node : ℕ) (program : List Op) (share : Share) (input : Input) (out : NodeOutcome) → IsEagerPart sizes node program share → local sizes node program share input ≡ Ok out → out.done ≡ true → share.place < length program
done-within sizes node program share input out part does =
    each-act sizes node program share (λ _ (o : NodeOutcome). o.done ≡ true → share.place < length program)
    (record {
      hits = λ op next _ _ _. slice_get_within program share.place op next;
      begins = λ op next _ _ _ _ _. slice_get_within program share.place op next;
      evicts = λ line kind _ o is done. let still : o.done ≡ false = (evict-kept node (home_of sizes line) (line_share sizes share line) (line-of sizes node program share part line) kind o is).1.1 in absurd (cc);
      takes = taken-ends sizes node program share part;
    }) input out does
