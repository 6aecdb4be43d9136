-- The node's cache has the words that its share says.
use Rattle.std.proofs.Common.{◌≡◌, ◌≢◌, ap, sym, subst, ◌∙◌}
use Rattle.op_model.specs.declared.state.CopyState.TheVariants as state
use Rattle.op_model.specs.Lines.{Copy, state_of, words_of}
use Rattle.op_model.specs.Shares.{copy_of, copy_in}
use Rattle.cpu_cache.specs.Caches.{CacheView}
use Rattle.machine.specs.Driven.{run_made}
use Rattle.machine.proofs.Others.{copy-is}
use Rattle.machine.proofs.viewed.Machine1Viewed.cached_words.Goals as goal

pub body-requires-clause-copied : goal.body-requires-clause-copied
body-requires-clause-copied g c =
    let share = (run_made c.args.self.now).past.state.share c.args.node in
    let same : copy_of share c.args.line ≡ copy_in c.cache_now.result.now.copies c.args.line =
    copy-is c.args.self.now.sizes share c.args.line ∙ ap (λ (v : CacheView). copy_in v.copies c.args.line) (sym c.cache_now.ensures) in
    subst (λ (copy : Copy). state_of copy ≢ state.Absent) same c.requires.copied

pub returns-clause-value : goal.returns-clause-value
returns-clause-value g c =
    c.body.ensures.value ∙ ap (λ (v : CacheView). words_of (copy_in v.copies c.args.line)) c.cache_now.ensures
    ∙ ap words_of (sym (copy-is c.args.self.now.sizes ((run_made c.args.self.now).past.state.share c.args.node) c.args.line))
