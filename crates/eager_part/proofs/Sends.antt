-- Whatever an eager node of a machine does by itself leaves its share fitting the machine, and sends messages of it.
-- Each row is of a line of the machine: an operation is on a word of it, a copy is of a line of it, a message names a line of it.
use Rattle.std.proofs.Common.{◌≡◌, ℕ, ◌<◌, ◌≤◌, true, slice_get, List, arith, sym, subst, Some, Ok}
use Rattle.std.proofs.lemmas.Bool.Decides.{nat_tests}
use Rattle.std.proofs.Math.Nat.{div-lt_iff_lt-mul}
use Rattle.line_map.specs.Sizes.{AreSizes, Sizes, all_lines, home_of, line_of}
use Rattle.op_model.specs.declared.events.EvictKind.{EvictKind}
use Rattle.op_model.specs.declared.messages.Msg.{Msg}
use Rattle.op_model.specs.declared.operations.Op.{Op}
use Rattle.op_model.specs.Events.Node.{Input, NodeOutcome, by_row}
use Rattle.op_model.specs.Lines.{LineShare, Outcome, Room}
use Rattle.op_model.specs.Messages.{msg_content, msg_line}
use Rattle.op_model.specs.MessageWords.{IsMsgOf}
use Rattle.op_model.specs.Shares.{Share, Unlinked, copy_of, header_of, is_set_empty, line_share, room_of}
use Rattle.op_model.specs.Tables.Processor.{evict, hit, serves}
use Rattle.node_range.specs.Range.{IsHeaderIn, IsSentIn}
use Rattle.node_range.proofs.Public.{evict-in}
use Rattle.message_range.specs.Fitting.{AreOnWords, IsInputForOther, IsInputOf, IsMsgForOther, IsShareOf}
use Rattle.message_range.proofs.Public.{IsActed, IsFitting, away-all, content-in, evict-fits, evicts-copy}
use Rattle.message_range.proofs.Public.{hit-fits, length-messages, row-share, sent-all, share-line}
use Rattle.eager_model.specs.Node.{local, taking}
use Rattle.eager_model.specs.Rows.{begin_op}
use Rattle.eager_part.specs.Part.{IsEagerPart}
use Rattle.eager_part.proofs.Acts.{line-of}
use Rattle.eager_part.proofs.EachAct.{each-act}
use Rattle.eager_part.proofs.Fits.{eager-begin-fits, eager-message-fits}
use Rattle.eager_part.proofs.Range.{eager-begin-in, eager-message-in}

module _ (sizes : Sizes) (node : ℕ) (program : List Op) (share : Share) (are : AreSizes sizes) (at : node < sizes.nodes) (ops : AreOnWords sizes program) (part : IsEagerPart sizes node program share) (of : IsShareOf sizes share) where
  several : 2 ≤ sizes.nodes
  several = let n = are.nodes in grind (arith, nat_tests)

  some : 0 < sizes.nodes
  some = let n = several in omega arith

  some_lines : 0 < sizes.lines
  some_lines = let n = are.lines in grind (arith, nat_tests)

  some_words : 0 < sizes.words
  some_words = let n = are.words in grind (arith, nat_tests)

  abbrev room : Room
  room = room_of Unlinked sizes share

  abbrev line_at : ℕ → LineShare
  line_at line = line_share sizes share line

  header-in : (line : ℕ) → IsHeaderIn sizes.nodes (header_of sizes share line)
  header-in line = (of.headers line).nodes

  home-in : (line : ℕ) → line < all_lines sizes → home_of sizes line < sizes.nodes
  home-in line below = (div-lt_iff_lt-mul some_lines).1 below

  op-in : (op : Op) → slice_get program share.place ≡ Some op → line_of sizes op.word < all_lines sizes
  op-in op next = (div-lt_iff_lt-mul some_words).1 (ops share.place op next)

  -- a row of a line
  acted : (Asked : Type 0) (line : ℕ) (o : Outcome) → line < all_lines sizes → IsFitting sizes Asked node o → IsHeaderIn sizes.nodes o.share.header × IsSentIn sizes.nodes o.sends → IsActed sizes node Asked (by_row sizes node share line o)
  acted Asked line o below fits within =
      record {
        served = fits.served;
        share = row-share sizes node share of line o fits.line (λ _. within.0) below;
        sent = sent-all sizes line below Asked node o.sends within.1 fits.sends;
        few = subst (λ n. n ≤ sizes.nodes) (sym (length-messages line o.sends)) fits.few;
        away = λ asked. away-all sizes line Asked node asked o.sends fits.sends;
      }

  hits : (op : Op) → slice_get program share.place ≡ Some op → serves op (copy_of share (line_of sizes op.word)) ≡ true → IsActed sizes node (Unit {0}) (by_row sizes node share (line_of sizes op.word) (hit op (line_at (line_of sizes op.word))))
  unfolding hit
  hits op next serve =
      let line = line_of sizes op.word in
      acted (Unit {0}) line (hit op (line_at line)) (op-in op next) (hit-fits sizes several (Unit {0}) node (home_of sizes line) (line_at line) (share-line sizes share line of) op serve) (header-in line, tt)

  begins : (op : Op) → slice_get program share.place ≡ Some op → (o : Outcome) → begin_op node (home_of sizes (line_of sizes op.word)) room op (line_at (line_of sizes op.word)) ≡ Ok o → IsActed sizes node (Unit {0}) (by_row sizes node share (line_of sizes op.word) o)
  begins op next o e =
      let line = line_of sizes op.word in
      let below = op-in op next in
      acted (Unit {0}) line o below
      (eager-begin-fits sizes several (Unit {0}) node (home_of sizes line) at room (line_at line) (share-line sizes share line of) (header-in line).lists (line-of sizes node program share part line) op o e)
      (eager-begin-in sizes.nodes some room (line_at line) (header-in line) node (home_of sizes line) at (home-in line below) op o e)

  evicts : (line : ℕ) (kind : EvictKind) (o : Outcome) → evict node (home_of sizes line) kind (line_at line) ≡ Ok o → IsActed sizes node (Unit {0}) (by_row sizes node share line o)
  evicts line kind o e =
      let below = of.lines line (evicts-copy node (home_of sizes line) kind (line_at line) o e) in
      acted (Unit {0}) line o below
      (evict-fits sizes several (Unit {0}) node (home_of sizes line) (line_at line) (share-line sizes share line of) kind o e)
      (evict-in sizes.nodes some room (line_at line) (header-in line) node (home_of sizes line) at (home-in line below) kind o e)

  takes : (src : ℕ) (m : Msg) → src < sizes.nodes → IsMsgOf sizes m → IsActed sizes node (IsMsgForOther node m) (by_row sizes node share (msg_line m) (taking sizes node share src m))
  takes src m from of_machine =
      let line = msg_line m in
      let is = content-in sizes (msg_content m) of_machine.1 in
      acted (IsMsgForOther node m) line (taking sizes node share src m) of_machine.0
      (eager-message-fits sizes several (IsMsgForOther node m) node (home_of sizes line) at room (line_at line) (share-line sizes share line of) (header-in line).lists (line-of sizes node program share part line) src (is_set_empty sizes share line) (msg_content m) is.1 (λ asked. asked))
      (eager-message-in sizes.nodes some room (line_at line) (header-in line) node (home_of sizes line) at (home-in line of_machine.0) src from (is_set_empty sizes share line) (msg_content m) is.0)

-- whatever a node of the machine does
pub eager_sends : (sizes : Sizes) (node : ℕ) (program : List Op) (share : Share) (input : Input) (out : NodeOutcome) → AreSizes sizes → node < sizes.nodes → AreOnWords sizes program → IsEagerPart sizes node program share → IsShareOf sizes share → IsInputOf sizes input →
    local sizes node program share input ≡ Ok out → IsActed sizes node (IsInputForOther node input) out
eager_sends sizes node program share input out are at ops part of given e =
    each-act sizes node program share (λ (i : Input) (x : NodeOutcome). IsInputOf sizes i → IsActed sizes node (IsInputForOther node i) x)
    (record {
      hits = λ op next _ serve _. hits sizes node program share are at ops part of op next serve;
      begins = λ op next _ _ o is _. begins sizes node program share are at ops part of op next o is;
      evicts = λ line kind _ o is _. evicts sizes node program share are at ops part of line kind o is;
      takes = λ src m is. takes sizes node program share are at ops part of src m is.0 is.1;
    }) input out e given
