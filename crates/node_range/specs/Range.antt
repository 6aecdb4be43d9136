-- The nodes of a machine: its operations, its lines and its messages are of them, and of no other number.
use Rattle.std.specs.Prelude.{◌≡◌, ℕ, ◌<◌, ◌≤◌, true, List, [], ◌∷◌, ◌⊎◌, slice_get, Some}
use Rattle.line_map.specs.Sizes.{Sizes, all_words, home_of}
use Rattle.op_model.specs.declared.events.Class.{Class}
use Rattle.op_model.specs.declared.messages.Msg.{Msg}
use Rattle.op_model.specs.declared.operations.Op.{Op}
use Rattle.op_model.specs.declared.state.Grantee.{Grantee}
use Rattle.op_model.specs.declared.state.Grantee.TheVariants.{Nobody, Me, Node}
use Rattle.op_model.specs.declared.state.Wait.{Wait}
use Rattle.op_model.specs.declared.state.Wait.TheVariants.{Idle, Invalidate, ForwardGet, ForwardGetX}
use Rattle.op_model.specs.Lines.{Absent, Header}
use Rattle.op_model.specs.Messages.{Content, FwdGet, FwdGetX, msg_line, msg_content}
use Rattle.op_model.specs.Nodes.{listed, count}
use Rattle.op_model.specs.Shares.{Trace, State, copy_of, header_of}

-- the operations of a trace are at nodes of its machine, and on its words
pub record IsOfMachine (trace : Trace) : Type 0 where
  pub nodes : (i : ℕ) (op : Op) → slice_get trace.ops i ≡ Some op → op.node < trace.sizes.nodes
  pub words : (i : ℕ) (op : Op) → slice_get trace.ops i ≡ Some op → op.word < all_words trace.sizes

-- a forward names a requester of the machine
abbrev pub IsContentIn : ℕ → Content → Type 0
IsContentIn nodes (FwdGet requester) = requester < nodes
IsContentIn nodes (FwdGetX requester) = requester < nodes
IsContentIn nodes _ = Unit {0}

-- what is sent goes to nodes of the machine
abbrev pub IsSentIn : ℕ → List (ℕ × Content) → Type 0
IsSentIn nodes [] = Unit {0}
IsSentIn nodes (send ∷ sends) = (send.0 < nodes) × IsContentIn nodes send.1 × IsSentIn nodes sends

abbrev pub IsGranteeIn : ℕ → Grantee → Type 0
IsGranteeIn nodes Nobody = Unit {0}
IsGranteeIn nodes Me = Unit {0}
IsGranteeIn nodes (Node node) = node < nodes

-- a line waits for a grantee or a requester of the machine
abbrev pub IsWaitIn : ℕ → Wait → Type 0
IsWaitIn nodes Idle = Unit {0}
IsWaitIn nodes (Invalidate grantee) = IsGranteeIn nodes grantee
IsWaitIn nodes (ForwardGet requester) = requester < nodes
IsWaitIn nodes (ForwardGetX requester) = requester < nodes

-- a line lists nodes of the machine, and waits for one of them
pub record IsHeaderIn (nodes : ℕ) (header : Header) : Type 0 where
  pub lists : (q : ℕ) → listed header.list q ≡ true → q < nodes
  pub waits : IsWaitIn nodes header.wait

-- each message is of a line of the machine
abbrev pub AreIn : Sizes → List Msg → Type 0
AreIn sizes [] = Unit {0}
AreIn sizes (m ∷ messages) = (home_of sizes (msg_line m) < sizes.nodes) × IsContentIn sizes.nodes (msg_content m) × AreIn sizes messages

-- no other node has a copy or a message, and no line is of another node
pub record IsRanged (sizes : Sizes) (state : State) : Type 0 where
  pub copies : (n line : ℕ) → (sizes.nodes ≤ n) ⊎ (sizes.nodes ≤ home_of sizes line) → copy_of (state.share n) line ≡ Absent
  pub headers : (line : ℕ) → IsHeaderIn sizes.nodes (header_of sizes (state.share (home_of sizes line)) line)
  pub strange : (line : ℕ) → sizes.nodes ≤ home_of sizes line → count (header_of sizes (state.share (home_of sizes line)) line).list ≡ 0
  pub lanes : (a b : ℕ) (class : Class) → (sizes.nodes ≤ a) ⊎ (sizes.nodes ≤ b) → state.lane a b class ≡ []
  pub messages : (a b : ℕ) (class : Class) → AreIn sizes (state.lane a b class)
