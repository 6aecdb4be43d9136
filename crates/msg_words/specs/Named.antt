-- Which message a header word and the words behind it name.
--     IsBehind         these are the words that a message brings. One that brings none says nothing of them
--     IsNamedBy        a message of this machine with this header word, and with these words where it brings any
--     NoMsgHas         no message of this machine has this header word
use Rattle.std.specs.Prelude.{◌≡◌, ◌≢◌, ℕ, true}
use Rattle.line_map.specs.Sizes.{Sizes}
use Rattle.op_model.specs.Operations.{Words}
use Rattle.op_model.specs.declared.messages.Msg.{Msg}
use Rattle.op_model.specs.Messages.{msg_content}
use Rattle.op_model.specs.MessageWords.{has_words, words_behind, header_word, IsMsgOf}

abbrev pub IsBehind : Msg → Words → Type 0
IsBehind m words = has_words (msg_content m) ≡ true → words_behind (msg_content m) ≡ words

pub record IsNamedBy (sizes : Sizes) (word : ℕ) (words : Words) (m : Msg) : Type 0 where
  pub of_machine : IsMsgOf sizes m
  pub header : header_word m ≡ word
  pub behind : IsBehind m words

abbrev pub NoMsgHas : Sizes → ℕ → Type 0
NoMsgHas sizes word = (m : Msg) → IsMsgOf sizes m → header_word m ≢ word
