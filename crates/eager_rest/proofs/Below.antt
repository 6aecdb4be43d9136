-- What a row of an eager node sends is lighter than the message that is taken. The rows are the delayed core's but for a GetX, an InvAck and a Wb: E2 sends a PutX, and an Inv to each listed node, of which the home is none; and the others send nothing.
use Rattle.std.proofs.Common.{◌≡◌, ℕ, ◌*◌, ◌<◌, Bool, true, false, cond, nat_le, ◌==◌, ◌&&◌, not, [], arith, subst}
use Rattle.std.proofs.lemmas.Bool.{eqb-true}
use Rattle.std.proofs.lemmas.Bool.Decides.{nat_tests}
use Rattle.op_model.specs.Lines.{LineShare, Room, no_message, sending, to_listed}
use Rattle.op_model.specs.Messages.{Content, FAck, FwdGet, FwdGetX, Get, GetX, Inv, InvAck, Nak, Nakc, Put, PutX, Rpl, ShWb, Wb}
use Rattle.op_model.specs.Nodes.{listed, listings, unlist}
use Rattle.op_model.specs.Operations.{Words}
use Rattle.op_model.specs.Run.Weight.{weight_of}
use Rattle.op_model.specs.Tables.Home.{on_wb}
use Rattle.op_model.specs.Tables.Home as delayed_home
use Rattle.op_model.specs.Tables.Remote as delayed
use Rattle.op_model.specs.Tables.Remote.{asks_well}
use Rattle.op_model.proofs.Public.{three_parts}
use Rattle.line_invariant.proofs.Public.{if-either}
use Rattle.rest_laws.proofs.Public.{Below, message-below, sends-cons, sends-listed, sends-none, sends_weight}
use Rattle.eager_model.specs.Rows.{asks_shared, give_and_drain, meets, on_getx, on_inv_ack, on_message, row_of}

module _ (nodes : ℕ) (room : Room) (s : LineShare) (me home src : ℕ) (within : me < nodes) (inside : src < nodes) (off : me ≡ home → listed s.header.list me ≡ false) where
  empty : (n : ℕ) → 0 < n → sends_weight (weight_of nodes) nodes [] < n
  empty n some = let z = sends-none (weight_of nodes) nodes in omega arith

  -- E2
  gives-below : me ≡ home → Below nodes (3 * nodes) (give_and_drain src s)
  gives-below same =
      let gone : listed (unlist s.header.list src) me ≡ false = let none = off same in grind (arith, nat_tests, listings) in
      let first = sends-cons (weight_of nodes) nodes (src, PutX s.header.memory) (to_listed (unlist s.header.list src)) in
      let others = sends-listed (weight_of nodes) nodes (unlist s.header.list src) me within gone in
      omega arith

  at-home : (alone : Bool) → delayed.meets me home src alone GetX s ≡ true → me ≡ home
  unfolding delayed.meets
  at-home alone meet = eqb-true me home (three_parts (me == home) (not (src == home)) (asks_well src s.header) meet).0

  -- a GetX that calls nobody
  getx-below : (alone : Bool) → delayed.meets me home src alone GetX s ≡ true → Below nodes (3 * nodes) (delayed_home.on_getx room src s)
  unfolding delayed.row_of delayed.on_message
  getx-below alone meet = subst (λ b. Below nodes (3 * nodes) (cond b (delayed_home.on_getx room src s) (sending s no_message))) meet (message-below nodes room s me home src within inside off alone GetX)

  ack-below : Below nodes 2 (on_inv_ack home src s)
  unfolding on_inv_ack
  ack-below = if-either (Below nodes 2) (nat_le s.header.acks 1) _ _ (λ _. empty 2 (omega arith)) (λ _. empty 2 (omega arith))

  wb-below : (words : Words) → Below nodes 1 (on_wb words s)
  unfolding on_wb
  wb-below words = empty 1 (omega arith)

  pub eager-message-below : (alone : Bool) (content : Content) → Below nodes (weight_of nodes content) (on_message me home src alone room content s)
  unfolding on_message meets row_of on_getx delayed.on_message delayed.row_of
  eager-message-below alone GetX =
      if-either (Below nodes (3 * nodes)) (delayed.meets me home src alone GetX s) _ _
      (λ meet. if-either (Below nodes (3 * nodes)) (asks_shared room src s.header) _ _ (λ _. gives-below (at-home alone meet)) (λ _. getx-below alone meet))
      (λ _. empty (3 * nodes) (omega arith))
  eager-message-below alone InvAck = if-either (Below nodes 2) (delayed.meets me home src alone InvAck s) _ _ (λ _. ack-below) (λ _. empty 2 (omega arith))
  eager-message-below alone (Wb words) = if-either (Below nodes 1) ((me == home) && s.header.dirty && not s.header.local) _ _ (λ _. wb-below words) (λ _. empty 1 (omega arith))
  eager-message-below alone Get = message-below nodes room s me home src within inside off alone Get
  eager-message-below alone (FwdGet r) = message-below nodes room s me home src within inside off alone (FwdGet r)
  eager-message-below alone (FwdGetX r) = message-below nodes room s me home src within inside off alone (FwdGetX r)
  eager-message-below alone Inv = message-below nodes room s me home src within inside off alone Inv
  eager-message-below alone Rpl = message-below nodes room s me home src within inside off alone Rpl
  eager-message-below alone (Put words) = message-below nodes room s me home src within inside off alone (Put words)
  eager-message-below alone (PutX words) = message-below nodes room s me home src within inside off alone (PutX words)
  eager-message-below alone (Nak cause) = message-below nodes room s me home src within inside off alone (Nak cause)
  eager-message-below alone (ShWb words) = message-below nodes room s me home src within inside off alone (ShWb words)
  eager-message-below alone FAck = message-below nodes room s me home src within inside off alone FAck
  eager-message-below alone Nakc = message-below nodes room s me home src within inside off alone Nakc
