-- Whatever a node does by itself, and each message that it takes, keeps what holds of its share.
use Rattle.std.proofs.Common.{◌≡◌, ◌≢◌, inl, inr, ℕ, true, false, slice_get, List, refl, sym, subst, ◌∙◌, Some, None, Ok}
use Rattle.line_map.specs.Sizes.{Sizes, home_of, line_of, set_of}
use Rattle.op_model.specs.declared.events.EvictKind.{EvictKind}
use Rattle.op_model.specs.declared.messages.Msg.{Msg}
use Rattle.op_model.specs.declared.operations.Op.{Op}
use Rattle.op_model.specs.Events.Node.{Input, NodeOutcome, by_row}
use Rattle.op_model.specs.Lines.{LineShare, Outcome, Room, is_empty}
use Rattle.op_model.specs.Messages.{msg_content, msg_line}
use Rattle.op_model.specs.Shares.{Share, Unlinked, conflicts, copy_of, is_set_empty, line_share, room_of}
use Rattle.op_model.specs.Tables.Processor.{evict, hit, serves}
use Rattle.op_model.proofs.Public.{none-on, serves-copy}
use Rattle.one_history.proofs.Public.{none-conflicts}
use Rattle.lane_bounds.proofs.Public.{evict-allowed, hit-allowed}
use Rattle.own_part.proofs.Public.{IsPartOf, begun-row, effect-row, free-row, quiet-row}
use Rattle.eager_model.specs.Node.{local, taking}
use Rattle.eager_model.specs.Rows.{begin_op}
use Rattle.eager_part.specs.Part.{IsEagerPart}
use Rattle.eager_part.proofs.Allowed.{eager-begin-allowed, eager-message-allowed}
use Rattle.eager_part.proofs.EachAct.{each-act}
use Rattle.eager_part.proofs.Kept.{begin-kept, evict-kept, hit-kept, message-kept}
use Rattle.eager_part.proofs.Lines.{IsLine}

module _ (sizes : Sizes) (node : ℕ) (program : List Op) (share : Share) (part : IsEagerPart sizes node program share) where
  abbrev Keeps : NodeOutcome → Type 0
  Keeps out = IsEagerPart sizes node program out.share

  abbrev room : Room
  room = room_of Unlinked sizes share

  abbrev at : ℕ → LineShare
  at line = line_share sizes share line

  -- what holds of a line at its home
  pub line-of : (line : ℕ) → node ≡ home_of sizes line → IsLine (home_of sizes line) (at line)
  line-of line here = subst (λ k. IsLine k (at line)) here (part.lines line (sym here))

  whole : IsPartOf IsLine sizes node program share
  whole = record { outstanding = part.outstanding; lines = part.lines; pending = part.pending; sets = part.sets; headers = part.headers }

  as-part : (next : Share) → IsPartOf IsLine sizes node program next → IsEagerPart sizes node program next
  as-part next is = record { outstanding = is.outstanding; lines = is.lines; pending = is.pending; sets = is.sets; headers = is.headers }

  away : (line : ℕ) → conflicts sizes share line ≡ false → (b : ℕ) → b ≢ line → set_of sizes b ≡ set_of sizes line → is_empty (copy_of share b) ≡ true
  away line free b other same = none-conflicts sizes share line b free other same

  hits : (op : Op) → share.want ≡ None → serves op (copy_of share (line_of sizes op.word)) ≡ true → Keeps (by_row sizes node share (line_of sizes op.word) (hit op (at (line_of sizes op.word))))
  unfolding hit
  hits op free serve =
      let line = line_of sizes op.word in
      as-part _ (free-row IsLine Unlinked sizes node program share whole line (hit op (at line))
      (hit-kept node (home_of sizes line) (at line) (line-of line) op) (λ _. hit-allowed room (at line) op)
      free (none-on sizes share.want line free) (inl (λ none. absurd (serves-copy op (copy_of share line) serve none))))

  begins : (op : Op) → slice_get program share.place ≡ Some op → share.want ≡ None → conflicts sizes share (line_of sizes op.word) ≡ false → (o : Outcome) → begin_op node (home_of sizes (line_of sizes op.word)) room op (at (line_of sizes op.word)) ≡ Ok o → Keeps (by_row sizes node share (line_of sizes op.word) o)
  begins op next free alone o e =
      let line = line_of sizes op.word in
      let k = begin-kept node (home_of sizes line) (at line) (line-of line) room op o e in
      as-part _ (elim k.1 [
        | inl none ↦ free-row IsLine Unlinked sizes node program share whole line o k.0 (λ _. eager-begin-allowed room refl (at line) node (home_of sizes line) op o e) free (none ∙ none-on sizes share.want line free) (inr (away line alone))
        | inr b ↦ begun-row IsLine Unlinked sizes node program share whole line o k.0 (λ _. eager-begin-allowed room refl (at line) node (home_of sizes line) op o e) op free next refl b.0 b.1 b.2 (away line alone)
      ])

  evicts : (line : ℕ) (kind : EvictKind) (o : Outcome) → evict node (home_of sizes line) kind (at line) ≡ Ok o → Keeps (by_row sizes node share line o)
  evicts line kind o e =
      let k = evict-kept node (home_of sizes line) (at line) (line-of line) kind o e in
      as-part _ (quiet-row IsLine Unlinked sizes node program share whole line o k.0 (λ _. evict-allowed room (at line) node (home_of sizes line) kind o e) k.1)

  takes : (src : ℕ) (m : Msg) → Keeps (by_row sizes node share (msg_line m) (taking sizes node share src m))
  takes src m =
      let line = msg_line m in
      let k = message-kept node (home_of sizes line) (at line) (line-of line) src (is_set_empty sizes share line) room (msg_content m) in
      as-part _ (effect-row IsLine Unlinked sizes node program share whole line (taking sizes node share src m) k.0 (λ _. eager-message-allowed room refl (at line) node (home_of sizes line) src (is_set_empty sizes share line) (msg_content m)) k.1)

-- whatever a node does keeps what holds of its share
pub eager_act : (sizes : Sizes) (node : ℕ) (program : List Op) (share : Share) (input : Input) (out : NodeOutcome) → IsEagerPart sizes node program share → local sizes node program share input ≡ Ok out → IsEagerPart sizes node program out.share
eager_act sizes node program share input out part e =
    each-act sizes node program share (λ _ (x : NodeOutcome). IsEagerPart sizes node program x.share)
    (record {
      hits = λ op _ free serve. hits sizes node program share part op free serve;
      begins = begins sizes node program share part;
      evicts = λ line kind _ o is. evicts sizes node program share part line kind o is;
      takes = takes sizes node program share part;
    }) input out e
