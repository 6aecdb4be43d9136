-- The journal is made, and the finishing schedule behind it.
use Rattle.commands.proofs.Followed.{completed-by}
use Rattle.commands.proofs.Played.{on-ok}
use Rattle.commands.proofs.journaled.complete.Goals as goal

pub returns : goal.returns
returns g c =
    let old = g.M.MachineFace.meaning c.args.m.now in
    on-ok c.finish.result c.finish.ensures.ok (completed-by old.charge c.args.trace.now c.args.journal.now old (g.M.MachineFace.meaning c.follow.new.m) (g.M.MachineFace.meaning c.finish.new.m) c.requires.fresh c.in_ok-follow.ensures)
