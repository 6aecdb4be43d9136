-- The rows of an eager node list, await and send to nodes of the machine.
use Rattle.std.proofs.Common.{◌≡◌, ℕ, ◌<◌, Bool, true, nat_le, ◌==◌, ◌&&◌, not, arith, Ok}
use Rattle.std.proofs.lemmas.Bool.Decides.{nat_tests}
use Rattle.op_model.specs.declared.operations.Op.{Op}
use Rattle.op_model.specs.declared.state.Grantee.TheVariants.{Me, Nobody, Node}
use Rattle.op_model.specs.declared.state.Wait.{Wait}
use Rattle.op_model.specs.declared.state.Wait.TheVariants.{Idle, Invalidate, ForwardGet, ForwardGetX}
use Rattle.op_model.specs.Lines.{LineShare, Outcome, Room, is_idle, to_listed}
use Rattle.op_model.specs.Messages.{Content}
use Rattle.op_model.specs.Nodes.{Nodes, listed, listings, only, unlist}
use Rattle.op_model.specs.Operations.{Words}
use Rattle.op_model.specs.Tables.Home.{on_wb}
use Rattle.line_invariant.proofs.Public.{if-either}
use Rattle.node_range.specs.Range.{IsContentIn, IsHeaderIn, IsSentIn, IsWaitIn}
use Rattle.node_range.proofs.Public.{begin-in, call-in-in, message-in}
use Rattle.eager_model.specs.Rows.{begin_op, drained_list, on_inv_ack, on_message}
use Rattle.eager_part.proofs.Beginnings.{each-beginning}
use Rattle.eager_part.proofs.Rows.{each-row}

module _ (nodes : ℕ) (some : 0 < nodes) (room : Room) (s : LineShare) (good : IsHeaderIn nodes s.header) (me home : ℕ) (me_in : me < nodes) (home_in : home < nodes) where
  abbrev pub In : Outcome → Type 0
  In o = IsHeaderIn nodes o.share.header × IsSentIn nodes o.sends

  -- what is sent to nodes of the machine
  listed-in : (list : Nodes) → ((q : ℕ) → listed list q ≡ true → q < nodes) → IsSentIn nodes (to_listed list)
  listed-in list within = (call-in-in nodes some room (record s { header = record s.header { list = list } }) (record { lists = within; waits = good.waits }) me home me_in home_in).1

  pub eager-begin-in : (op : Op) (o : Outcome) → begin_op me home room op s ≡ Ok o → In o
  eager-begin-in op =
      each-beginning me home room op s In
      (record {
        writes = λ _ _ _ _ _ _. (record { lists = good.lists; waits = home_in }, listed-in s.header.list good.lists);
        delayed = λ x was _. begin-in nodes some room s good me home me_in home_in op x was;
      })

  module _ (sender : ℕ) (from : sender < nodes) (alone : Bool) where
    rest-in : (q : ℕ) → listed (unlist s.header.list sender) q ≡ true → q < nodes
    rest-in q is = good.lists q (grind (arith, nat_tests, listings))

    only-in : (p : ℕ) → p < nodes → (q : ℕ) → listed (only p) q ≡ true → q < nodes
    only-in p in_it q is = let same : q ≡ p = grind (arith, nat_tests, listings) in omega arith

    -- who is listed once the line has drained
    drained-in : (wait : Wait) → IsWaitIn nodes wait → (q : ℕ) → listed (drained_list home (record s.header { wait = wait }) (unlist s.header.list sender)) q ≡ true → q < nodes
    drained-in Idle w = rest-in
    drained-in (Invalidate Nobody) w = rest-in
    drained-in (Invalidate Me) w = rest-in
    drained-in (Invalidate (Node n)) w = if-either (λ list. (q : ℕ) → listed list q ≡ true → q < nodes) (s.header.dirty && not (n == home)) _ _ (λ _. only-in n w) (λ _. rest-in)
    drained-in (ForwardGet r) w = rest-in
    drained-in (ForwardGetX r) w = rest-in

    ack-in : In (on_inv_ack home sender s)
    unfolding on_inv_ack
    ack-in = if-either In (nat_le s.header.acks 1) _ _ (λ _. (record { lists = drained-in s.header.wait good.waits; waits = tt }, tt)) (λ _. (record { lists = rest-in; waits = good.waits }, tt))

    wb-in : (words : Words) → In (on_wb words s)
    unfolding on_wb
    wb-in words = (record { lists = if-either (λ list. (q : ℕ) → listed list q ≡ true → q < nodes) (is_idle s.header.wait) _ _ (λ _ q is. absurd (grind (arith, listings))) (λ _. good.lists); waits = good.waits }, tt)

    pub eager-message-in : (content : Content) → IsContentIn nodes content → In (on_message me home sender alone room content s)
    eager-message-in content is =
        each-row me home sender alone room s content In
        (record {
          delayed = λ _. message-in nodes some room s good me home me_in home_in sender from alone content is;
          gives = λ _ _ _. (record { lists = rest-in; waits = from }, (from, tt, listed-in (unlist s.header.list sender) rest-in));
          acknowledges = λ _ _ _. ack-in;
          writes_back = λ words _ _ _ _. wb-in words;
          refuses = λ _ _ _. (good, (from, tt, tt));
          nothing = (good, tt);
        })
