-- One line, seen alone: the copies and wants of all nodes, its header, its messages in each lane, its words in the flat memory, and whether the load that a node has begun was served.
use Rattle.std.specs.Prelude.{◌≡◌, ℕ, Bool, true, false, if◌then◌else◌, ◌&&◌, List, [], ◌∷◌, ◌++◌, ◌==◌, Option, None}
use Rattle.line_invariant.specs.Types.{Want, Class, Idle}
use Rattle.op_model.specs.Nodes.{none}
use Rattle.op_model.specs.Operations.{Words, after_op}
use Rattle.op_model.specs.Messages.{Content, class_of, same_class}
use Rattle.op_model.specs.Lines.{Copy, Absent, Header, LineShare, Room, Service, NoService, Own, For, Outcome, is_empty}
use Rattle.op_model.specs.Tables.Remote.{on_message}
use Rattle.op_model.specs.Events.Step.{put_at}

abbrev pub Lanes : Type 0
Lanes = ℕ → ℕ → Class → List Content

pub record Line : Type 0 where
  pub copy : ℕ → Copy
  pub want : ℕ → Option Want
  pub header : Header
  pub lane : Lanes
  pub words : Words
  pub answered : ℕ → Bool

abbrev pub share_of : Line → ℕ → LineShare
share_of line node = record { copy = line.copy node; want = line.want node; header = line.header }

-- the messages of a class that are sent to a node, in order
abbrev pub addressed : ℕ → Class → List (ℕ × Content) → List Content
addressed node class [] = []
addressed node class (send ∷ sends) =
    if (send.0 == node) && same_class class (class_of send.1) then send.1 ∷ addressed node class sends else addressed node class sends

-- the lanes after a node has sent
abbrev pub sent : ℕ → List (ℕ × Content) → Lanes → Lanes
sent me sends lane a b class = lane a b class ++ (if a == me then addressed b class sends else [])

-- the lanes after the first message of one is taken
abbrev pub taken : ℕ → ℕ → Class → List Content → Lanes → Lanes
taken from to class rest lane a b k = if (a == from) && (b == to) && same_class k class then rest else lane a b k

-- the words in the flat memory after an operation is served
abbrev pub words_after : Service → Words → Words
words_after NoService words = words
words_after (Own op on) words = after_op op words
words_after (For node on) words = words

-- an operation is served on the words of the flat memory
abbrev pub IsServedWell : Service → Words → Type 0
IsServedWell NoService words = Unit {0}
IsServedWell (Own op on) words = on ≡ words
IsServedWell (For node on) words = on ≡ words

-- whose load was served and isn't done, after a row
abbrev pub served_mark : Service → (ℕ → Bool) → ℕ → Bool
served_mark (For node on) answered = put_at answered node true
served_mark _ answered = answered

abbrev pub answered_after : ℕ → Service → Bool → (ℕ → Bool) → ℕ → Bool
answered_after me served done answered node = if done && (node == me) then false else served_mark served answered node

-- the line after a row at a node
abbrev pub after_row : ℕ → ℕ → Outcome → Line → Line
after_row home me outcome line =
    record {
      copy = put_at line.copy me outcome.share.copy;
      want = put_at line.want me outcome.share.want;
      header = (if me == home then outcome.share.header else line.header);
      lane = sent me outcome.sends line.lane;
      words = words_after outcome.served line.words;
      answered = answered_after me outcome.served outcome.done line.answered;
    }

-- The row that is done where a node takes a message. A node has no other line in the set of one that it waits for, so that the set is empty where it has no copy of this line
abbrev pub row_taken : ℕ → ℕ → ℕ → Content → Room → Line → Outcome
row_taken home from to content room line = on_message to home from (is_empty (line.copy to)) room content (share_of line to)

-- the line after a message is taken from the front of its lane, where the rest stays
abbrev pub after_take : ℕ → ℕ → ℕ → Class → Content → List Content → Room → Line → Line
after_take home from to class content rest room line =
    after_row home to (row_taken home from to content room line) (record line { lane = taken from to class rest line.lane })

-- a line at first, with these words in memory: no node has a copy or has begun anything, no node is listed and nothing is under way
abbrev pub first_line : Words → Line
first_line words =
    record {
      copy = λ node. Absent;
      want = λ node. None;
      header = record { local = false; dirty = false; wait = Idle; acks = 0; list = none; memory = words };
      lane = λ a b class. [];
      words = words;
      answered = λ node. false;
    }
