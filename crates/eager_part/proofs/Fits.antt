-- What a row of an eager node leaves and sends fits the machine. The nodes that the home calls in are listed, and neither the home nor a node that was granted the line is.
use Rattle.std.proofs.Common.{◌≡◌, ◌≢◌, ℕ, ◌+◌, ◌<◌, ◌≤◌, Bool, true, false, nat_le, length, arith, sym, ◌∙◌, subst, Ok}
use Rattle.std.proofs.lemmas.Bool.Decides.{nat_tests}
use Rattle.line_map.specs.Sizes.{Sizes}
use Rattle.op_model.specs.declared.operations.Op.{Op}
use Rattle.op_model.specs.Lines.{LineShare, Outcome, Room, to_listed}
use Rattle.op_model.specs.Messages.{Content}
use Rattle.op_model.specs.Nodes.{Nodes, listed, listings, unlist}
use Rattle.op_model.specs.Operations.{Words}
use Rattle.op_model.specs.Tables.Home.{on_wb}
use Rattle.line_invariant.proofs.Public.{if-either}
use Rattle.message_range.specs.Fitting.{IsContentForOther}
use Rattle.message_range.proofs.Public.{IsFitting, IsWide, IsWideLine, apart-listed, begin-fits, below-others}
use Rattle.message_range.proofs.Public.{length-listed, listed-sends, message-fits, none-few, one-few}
use Rattle.message_range.proofs.Public.{op-width}
use Rattle.eager_model.specs.Rows.{begin_op, give_and_drain, on_inv_ack, on_message, write_and_drain}
use Rattle.eager_part.proofs.Beginnings.{each-beginning}
use Rattle.eager_part.proofs.Kept.{calm-own}
use Rattle.eager_part.proofs.Lines.{IsLine, home-unlisted}
use Rattle.eager_part.proofs.Rows.{each-row}

module _ (sizes : Sizes) (several : 2 ≤ sizes.nodes) (Asked : Type 0) (me home : ℕ) (me_in : me < sizes.nodes) (room : Room) (s : LineShare) (wide : IsWideLine sizes s) (within : (q : ℕ) → listed s.header.list q ≡ true → q < sizes.nodes) (line : me ≡ home → IsLine home s) where
  abbrev Fits : Outcome → Type 0
  Fits = IsFitting sizes Asked me

  -- nodes that are called in, and the home isn't among them
  few : (list : Nodes) → listed list me ≡ false → ((q : ℕ) → listed list q ≡ true → q < sizes.nodes) → length (to_listed list) + 1 ≤ sizes.nodes
  few list off below = let lt = below-others sizes.nodes me list me_in off below in let e = length-listed list in omega arith

  -- E1
  home-drains-fits : (op : Op) → listed s.header.list me ≡ false → Fits (write_and_drain home op s)
  home-drains-fits op off =
      let lt = few s.header.list off within in
      record {
        served = wide.1;
        line = (op-width sizes op s.header.memory wide.1, wide.1);
        sends = listed-sends sizes Asked me s.header.list (λ q is. apart-listed s.header.list q me is off);
        few = omega arith;
      }

  pub eager-begin-fits : (op : Op) (o : Outcome) → begin_op me home room op s ≡ Ok o → Fits o
  eager-begin-fits op =
      each-beginning me home room op s Fits
      (record {
        writes = λ same idle clean store some left. home-drains-fits op (subst (λ k. listed s.header.list k ≡ false) (sym same) (home-unlisted home s.header.wait s (line same)));
        delayed = λ x was calm. begin-fits sizes several Asked me home me_in room s wide within (λ same. calm-own me home s line (calm same).0 same) op x was;
      })

  module _ (sender : ℕ) (alone : Bool) where
    -- E2
    sender-drains-fits : sender ≢ me → listed s.header.list me ≡ false → Fits (give_and_drain sender s)
    sender-drains-fits apart off =
        let lt = few (unlist s.header.list sender) gone (λ q is. within q (still q is)) in
        record {
          served = tt;
          line = (tt, wide.1);
          sends = ((wide.1, tt, λ _. apart), listed-sends sizes Asked me (unlist s.header.list sender) (λ q is. apart-listed s.header.list q me (still q is) off));
          few = omega arith;
        }
      where
        gone : listed (unlist s.header.list sender) me ≡ false
        gone = grind (arith, nat_tests, listings)

        still : (q : ℕ) → listed (unlist s.header.list sender) q ≡ true → listed s.header.list q ≡ true
        still q is = grind (arith, nat_tests, listings)

    ack-fits : Fits (on_inv_ack home sender s)
    unfolding on_inv_ack
    ack-fits = if-either Fits (nat_le s.header.acks 1) _ _ (λ _. record { served = tt; line = wide; sends = tt; few = none-few sizes several }) (λ _. record { served = tt; line = wide; sends = tt; few = none-few sizes several })

    wb-fits : (words : Words) → length words ≡ sizes.words → Fits (on_wb words s)
    unfolding on_wb
    wb-fits words w = record { served = tt; line = (wide.0, w); sends = tt; few = none-few sizes several }

    pub eager-message-fits : (content : Content) → IsWide sizes content → (Asked → IsContentForOther me content) → Fits (on_message me home sender alone room content s)
    eager-message-fits content w asks =
        each-row me home sender alone room s content Fits
        (record {
          delayed = λ calm. message-fits sizes several Asked me home me_in room s wide within (λ same. calm-own me home s line (calm same).0 same) sender alone content w asks;
          gives = λ same apart _. sender-drains-fits (λ e. apart (e ∙ same)) (subst (λ k. listed s.header.list k ≡ false) (sym same) (home-unlisted home s.header.wait s (line same)));
          acknowledges = λ _ _ _. ack-fits;
          writes_back = λ words is _ _ _. wb-fits words (subst (IsWide sizes) is w);
          refuses = λ same apart _. record { served = tt; line = wide; sends = ((tt, tt, λ _ e. apart (e ∙ same)), tt); few = one-few sizes several };
          nothing = record { served = tt; line = wide; sends = tt; few = none-few sizes several };
        })
