-- What fits a machine: words that fill a line of it, lines that it has, and nodes of it.
--     IsShareOf     a node's copies are of its lines and fill them, and its headers list and await its nodes
--     IsInputOf     what a node takes comes from one of its nodes, and is a message of it
--     IsServedOf    the words on which an operation is served fill a line
--     IsSentOf      what is sent goes to one of its nodes, and is a message of it; a forward asks its owner for another node
use Rattle.std.specs.Prelude.{◌≡◌, ◌≢◌, ℕ, ◌<◌, false, List, length, slice_get, Some}
use Rattle.line_map.specs.Sizes.{Sizes, all_lines, all_words}
use Rattle.op_model.specs.declared.messages.Msg.{Msg}
use Rattle.op_model.specs.declared.operations.Op.{Op}
use Rattle.op_model.specs.Lines.{Service, NoService, Own, For, Copy, Absent, Shared, Exclusive, Header, is_empty}
use Rattle.op_model.specs.Messages.{Content, FwdGet, FwdGetX, msg_content}
use Rattle.op_model.specs.MessageWords.{IsMsgOf}
use Rattle.op_model.specs.Shares.{Share, copy_of, header_of}
use Rattle.op_model.specs.Events.Node.{Input, HitNext, IssueNext, EvictLine, TakeFrom, ReclaimLine}
use Rattle.node_range.specs.Range.{IsHeaderIn}

-- the words of a copy fill a line
abbrev pub IsCopyOf : Sizes → Copy → Type 0
IsCopyOf sizes Absent = Unit {0}
IsCopyOf sizes (Shared words) = length words ≡ sizes.words
IsCopyOf sizes (Exclusive words) = length words ≡ sizes.words

-- the words in memory fill a line, and the line lists nodes of the machine and waits for one of them
pub record IsHeaderOf (sizes : Sizes) (header : Header) : Type 0 where
  pub memory : length header.memory ≡ sizes.words
  pub nodes : IsHeaderIn sizes.nodes header

pub record IsShareOf (sizes : Sizes) (share : Share) : Type 0 where
  pub copies : (line : ℕ) → IsCopyOf sizes (copy_of share line)
  pub lines : (line : ℕ) → is_empty (copy_of share line) ≡ false → line < all_lines sizes
  pub headers : (line : ℕ) → IsHeaderOf sizes (header_of sizes share line)

-- each operation of a program is on a word of the machine
abbrev pub AreOnWords : Sizes → List Op → Type 0
AreOnWords sizes program = (i : ℕ) (op : Op) → slice_get program i ≡ Some op → op.word < all_words sizes

abbrev pub IsInputOf : Sizes → Input → Type 0
IsInputOf sizes HitNext = Unit {0}
IsInputOf sizes IssueNext = Unit {0}
IsInputOf sizes (EvictLine line kind room) = Unit {0}
IsInputOf sizes (TakeFrom src m victim) = (src < sizes.nodes) × IsMsgOf sizes m
IsInputOf sizes (ReclaimLine line) = Unit {0}

-- a forward that comes to this node asks for another one
abbrev pub IsContentForOther : ℕ → Content → Type 0
IsContentForOther node (FwdGet requester) = requester ≢ node
IsContentForOther node (FwdGetX requester) = requester ≢ node
IsContentForOther node _ = Unit {0}

abbrev pub IsMsgForOther : ℕ → Msg → Type 0
IsMsgForOther node m = IsContentForOther node (msg_content m)

abbrev pub IsInputForOther : ℕ → Input → Type 0
IsInputForOther node HitNext = Unit {0}
IsInputForOther node IssueNext = Unit {0}
IsInputForOther node (EvictLine line kind room) = Unit {0}
IsInputForOther node (TakeFrom src m victim) = IsMsgForOther node m
IsInputForOther node (ReclaimLine line) = Unit {0}

abbrev pub IsServedOf : Sizes → Service → Type 0
IsServedOf sizes NoService = Unit {0}
IsServedOf sizes (Own op on) = length on ≡ sizes.words
IsServedOf sizes (For node on) = length on ≡ sizes.words

pub record IsSentOf (sizes : Sizes) (send : ℕ × Msg) : Type 0 where
  pub to : send.0 < sizes.nodes
  pub message : IsMsgOf sizes send.1
  pub asks : IsMsgForOther send.0 send.1
