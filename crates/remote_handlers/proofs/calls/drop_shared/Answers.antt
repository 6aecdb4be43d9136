-- A copy that isn't shared stays.
use Rattle.std.proofs.Common.{sym, ap, ◌∙◌}
use Rattle.op_model.specs.Shares.{copy_in}
use Rattle.cpu_cache.specs.Caches.{with_copy}
use Rattle.remote_handlers.proofs.Aways.{absent-stays, exclusive-stays, shared-goes, copy-stays}
use Rattle.remote_handlers.proofs.calls.drop_shared.Goals as goal

pub returns-in-Shared : goal.returns-in-Shared
returns-in-Shared c = c.drop_line.ensures.dropped ∙ ap (with_copy c.args.cache.now c.args.line) (sym (shared-goes (copy_in c.args.cache.now.copies c.args.line) (sym c.look.ensures.value ∙ c.in-Shared.is)))

pub returns-in-Absent : goal.returns-in-Absent
returns-in-Absent c = copy-stays c.args.cache.now c.args.line c.look.ensures.kept.held (absent-stays (copy_in c.args.cache.now.copies c.args.line) (sym c.look.ensures.value ∙ c.in-Absent.is))

pub returns-in-Exclusive : goal.returns-in-Exclusive
returns-in-Exclusive c = copy-stays c.args.cache.now c.args.line c.look.ensures.kept.held (exclusive-stays (copy_in c.args.cache.now.copies c.args.line) (sym c.look.ensures.value ∙ c.in-Exclusive.is))
