use Rattle.std.proofs.Common.{append_assoc}
use Rattle.dir_report.proofs.Appended.{on_ok_then}
use Rattle.dir_report.proofs.lines.put_header.Goals as goal

pub returns : goal.returns
returns g c = on_ok_then c.put_list.result c.put_list.ensures (λ last. rw (last, c.in_ok-put_state.ensures, c.mode.ensures, c.header.ensures) (simp append_assoc))
