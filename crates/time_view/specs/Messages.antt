-- A message under way as words.
use Rattle.std.specs.Prelude.{ℕ, List, [], ◌∷◌, codes, decimal}
use Rattle.op_model.specs.declared.messages.NakCause.{NakCause}
use Rattle.op_model.specs.declared.messages.NakCause.TheVariants.{Pending, NoLink, Budget, Gone}
use Rattle.op_model.specs.Messages.{Content, Get, GetX, FwdGet, FwdGetX, Inv, Wb, Rpl, Put, PutX, Nak, InvAck, ShWb, FAck, Nakc, msg_line, msg_content}
use Rattle.op_model.specs.declared.messages.Msg.{Msg}
use Rattle.op_model.specs.Run.Schedules.{Lane}
use Rattle.step_journal.specs.Printing.{class_letter}
use Rattle.dir_report.specs.Reports.{nodes_word as numbers_word}

abbrev pub message_name : Content → List ℕ
message_name Get = codes "Get"
message_name GetX = codes "GetX"
message_name (FwdGet requester) = codes "FwdGet"
message_name (FwdGetX requester) = codes "FwdGetX"
message_name Inv = codes "Inv"
message_name (Wb words) = codes "Wb"
message_name Rpl = codes "Rpl"
message_name (Put words) = codes "Put"
message_name (PutX words) = codes "PutX"
message_name (Nak cause) = codes "Nak"
message_name InvAck = codes "InvAck"
message_name (ShWb words) = codes "ShWb"
message_name FAck = codes "FAck"
message_name Nakc = codes "Nakc"

abbrev pub cause_word : NakCause → List ℕ
cause_word Pending = codes "Pending"
cause_word NoLink = codes "NoLink"
cause_word Budget = codes "Budget"
cause_word Gone = codes "Gone"

-- the requester of a forward, the cause of a Nak, or the words that a message brings
abbrev pub rest_words : Content → List (List ℕ)
rest_words Get = []
rest_words GetX = []
rest_words (FwdGet requester) = decimal requester ∷ []
rest_words (FwdGetX requester) = decimal requester ∷ []
rest_words Inv = []
rest_words (Wb words) = numbers_word words ∷ []
rest_words Rpl = []
rest_words (Put words) = numbers_word words ∷ []
rest_words (PutX words) = numbers_word words ∷ []
rest_words (Nak cause) = cause_word cause ∷ []
rest_words InvAck = []
rest_words (ShWb words) = numbers_word words ∷ []
rest_words FAck = []
rest_words Nakc = []

-- <from> <to> q|r <message> <line> <rest>
abbrev pub message_words : Lane → Msg → List (List ℕ)
message_words lane m = decimal lane.src ∷ decimal lane.dst ∷ class_letter lane.class ∷ message_name (msg_content m) ∷ decimal (msg_line m) ∷ rest_words (msg_content m)
