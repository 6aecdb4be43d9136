-- A row makes a line pending only where its home may have one more. Lists cost no links here.
use Rattle.std.proofs.Common.{◌≡◌, ℕ, Bool, true, false, sym, ◌∙◌, Ok}
use Rattle.op_model.specs.declared.operations.Op.{Op}
use Rattle.op_model.specs.Messages.{Content}
use Rattle.op_model.specs.Lines.{Header, LineShare, Outcome, Room, is_pending}
use Rattle.op_model.specs.Tables.Home.{no_other}
use Rattle.op_model.proofs.Public.{called-pends}
use Rattle.lane_bounds.proofs.Public.{IsAllowed, begin-allowed, message-allowed}
use Rattle.eager_model.specs.Rows.{begin_op, on_message}
use Rattle.eager_part.proofs.Beginnings.{each-beginning}
use Rattle.eager_part.proofs.Rows.{each-row, shared-parts}

module _ (room : Room) (unlinked : room.linked ≡ false) (s : LineShare) where
  abbrev pub Allowed : Outcome → Type 0
  Allowed o = IsAllowed room s.header o.share.header

  -- where one more line may be pending
  left : (new : Header) → room.full ≡ false → IsAllowed room s.header new
  left new free = record { pending = λ _ _. free; links = λ linked. absurd (let d : false ≡ true = sym unlinked ∙ linked in cc) }

  -- where the line was pending before
  pended : (new : Header) → is_pending s.header ≡ true → IsAllowed room s.header new
  pended new was = record { pending = λ calm _. absurd (let d : true ≡ false = sym was ∙ calm in cc); links = λ linked. absurd (let d : false ≡ true = sym unlinked ∙ linked in cc) }

  stays : IsAllowed room s.header s.header
  stays = record { pending = λ calm is. absurd (let d : false ≡ true = sym calm ∙ is in cc); links = λ linked. absurd (let d : false ≡ true = sym unlinked ∙ linked in cc) }

  pub eager-begin-allowed : (me home : ℕ) (op : Op) (o : Outcome) → begin_op me home room op s ≡ Ok o → Allowed o
  eager-begin-allowed me home op = each-beginning me home room op s Allowed (record { writes = λ _ _ _ _ _ free. left _ free; delayed = λ x was _. begin-allowed room s me home op x was })

  pub eager-message-allowed : (me home sender : ℕ) (alone : Bool) (content : Content) → Allowed (on_message me home sender alone room content s)
  eager-message-allowed me home sender alone content =
      each-row me home sender alone room s content Allowed
      (record {
        delayed = λ _. message-allowed room s me home sender alone content;
        gives = λ _ _ asks. left _ (shared-parts (is_pending s.header) s.header.dirty (no_other sender s.header.list) room.full asks).1;
        acknowledges = λ _ called _. pended _ (called-pends s.header.wait called);
        writes_back = λ _ _ _ called _. pended _ (called-pends s.header.wait called);
        refuses = λ _ _ _. stays;
        nothing = stays;
      })
