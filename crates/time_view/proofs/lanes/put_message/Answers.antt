use Rattle.std.proofs.Common.{append_assoc, decimal}
use Rattle.op_model.specs.Messages.{msg_line, msg_content}
use Rattle.dir_report.proofs.Public.{on_ok_then}
use Rattle.time_view.specs.Messages.{rest_words}
use Rattle.time_view.proofs.Listed.{word_first}
use Rattle.time_view.proofs.lanes.put_message.Goals as goal

pub returns : goal.returns
returns c =
    on_ok_then c.put_rest.result c.put_rest.ensures
    (λ last. rw (word_first (decimal (msg_line c.args.msg.now)) (rest_words (msg_content c.args.msg.now)), last, c.in_ok-put_decimal-3.ensures.ok, c.from-3.ensures, c.line.ensures, c.in_ok-put_bytes-3.ensures.ok, c.name_part.ensures, c.in_ok-put_bytes-2.ensures.ok, c.class_part.ensures, c.in_ok-put_decimal-2.ensures.ok, c.from-2.ensures, c.in_ok-put_bytes.ensures.ok, c.in_ok-put_decimal.ensures.ok, c.from.ensures) (simp append_assoc))
