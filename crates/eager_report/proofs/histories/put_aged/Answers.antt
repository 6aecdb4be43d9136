use Rattle.std.proofs.Common.{append_assoc}
use Rattle.dir_report.proofs.Public.{on_ok_then}
use Rattle.eager_report.proofs.histories.put_aged.Goals as goal

pub returns : goal.returns
returns c =
    on_ok_then c.put_entry.result c.put_entry.ensures
    (λ last. rw (last, c.in_ok-put_bytes-2.ensures.ok, c.in_ok-put_decimal-2.ensures.ok, c.in_ok-put_bytes.ensures.ok, c.in_ok-put_decimal.ensures.ok, c.from.ensures, c.line_of.ensures) (simp append_assoc))
