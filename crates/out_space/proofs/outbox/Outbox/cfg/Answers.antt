use Rattle.out_space.proofs.Lists.{is_box}
use Rattle.out_space.proofs.outbox.Outbox.cfg.Goals as goal

pub returns-clause-kept : goal.returns-clause-kept
returns-clause-kept c = let b = c.self.inside in rw (← c.self.view_is) (is_box b.cfg b.requests.items b.replies.items c.self.invariant.0 c.self.invariant.1)
