-- One lane as its two nodes know it, and what stands in its cell.
use Rattle.std.specs.Prelude.{◌≡◌, ℕ, ◌+◌, ◌≤◌, ◌<◌, true, false, List, ◌∷◌, length, drop, slice_index}
use Rattle.line_map.specs.Sizes.{Sizes}
use Rattle.op_model.specs.declared.events.Class.{Class}
use Rattle.op_model.specs.declared.messages.Msg.{Msg}
use Rattle.op_model.specs.Messages.{msg_content}
use Rattle.op_model.specs.MessageWords.{header_word, words_behind, IsMsgOf}
use Rattle.op_model.specs.Parts.Part.{Part, Note, sent_to, flushed_to, taken_from, cleared_from, out_note, in_note, notes_empty, notes_full}

-- What is sent on a lane, how much of it is flushed, taken and cleared, and what its sender and its taker have noted of the cell
pub record LaneView : Type 0 where
  pub sent : List Msg
  pub flushed : ℕ
  pub taken : ℕ
  pub cleared : ℕ
  pub sender : Note
  pub taker : Note

-- the lane from src to dst, by the parts of these two
abbrev pub lane_view : Part → Part → (src dst : ℕ) → Class → LaneView
lane_view from to src dst class =
    record {
      sent = sent_to from dst class;
      flushed = flushed_to from dst class;
      taken = taken_from to src class;
      cleared = cleared_from to src class;
      sender = out_note from dst class;
      taker = in_note to src class;
    }

-- messages are sent, flushed, taken and cleared in this order, and the cell has room for one
pub record AreCounts (lane : LaneView) : Type 0 where
  pub cleared : lane.cleared ≤ lane.taken
  pub taken : lane.taken ≤ lane.flushed
  pub flushed : lane.flushed ≤ length lane.sent
  pub one : lane.flushed ≤ lane.cleared + 1

-- these words stand behind the header word
abbrev pub Stand : (words : List ℕ) (header : ℕ) → List ℕ → Type 0
Stand words header behind = (i : ℕ) → i < length behind → slice_index words (header + (1 + i)) ≡ slice_index behind i

-- the cell holds the first message that isn't cleared
pub record InCell (sizes : Sizes) (words : List ℕ) (header cleared : ℕ) (sent : List Msg) : Type 0 where
  pub msg : Msg
  pub rest : List Msg
  pub first : drop cleared sent ≡ msg ∷ rest
  pub of_machine : IsMsgOf sizes msg
  pub head : slice_index words header ≡ header_word msg
  pub body : Stand words header (words_behind (msg_content msg))

-- The cell is empty where all that is flushed is cleared, and else holds one message. A standing note of the sender with the word 0
-- says that the cell is empty, one of the taker with another word that it isn't; and the words that they note stand there
pub record IsCell (sizes : Sizes) (words : List ℕ) (header : ℕ) (lane : LaneView) : Type 0 where
  pub empty : lane.flushed ≡ lane.cleared → slice_index words header ≡ 0
  pub full : lane.flushed ≡ lane.cleared + 1 → InCell sizes words header lane.cleared lane.sent
  pub sender : notes_empty lane.sender ≡ true → (lane.flushed ≡ lane.cleared) × Stand words header lane.sender.body × (length lane.sender.body ≤ sizes.words)
  pub taker : notes_full lane.taker ≡ true
      → (lane.flushed ≡ lane.cleared + 1) × (slice_index words header ≡ lane.taker.word) × Stand words header lane.taker.body × (length lane.taker.body ≤ sizes.words)

-- a lane that the machine doesn't have is never used
pub record IsUnused (lane : LaneView) : Type 0 where
  pub flushed : lane.flushed ≡ 0
  pub sender : lane.sender.stands ≡ false
  pub taker : lane.taker.stands ≡ false
