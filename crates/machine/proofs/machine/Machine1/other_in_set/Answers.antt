-- The line that stands in the set is the other one, where it is not the line itself.
use Rattle.std.proofs.Common.{◌≡◌, ◌<◌, true, ap, sym, subst, ◌∙◌}
use Rattle.line_map.specs.Sizes.{Sizes, all_lines}
use Rattle.op_model.proofs.Public.{never_passes}
use Rattle.cpu_cache.specs.Caches.{CacheView, IsResident, is_set_taken}
use Rattle.machine.specs.Faces.{cache_of}
use Rattle.machine.proofs.Others.{other-none, other-some}
use Rattle.machine.proofs.machine.Machine1.other_in_set.Goals as goal

pub returns-in-Some-clause-value : goal.returns-in-Some-clause-value
returns-in-Some-clause-value g c = λ past ran.
    let m = c.args.self.now in
    let same : c.cache.result.now ≡ record { sizes = m.sizes; copies = (past.state.share c.args.n).copies } = c.cache.ensures ∙ ap cache_of (c.node.ensures.node past ran) in
    let taken = subst (λ (v : CacheView). is_set_taken v c.args.line ≡ true) same (c.in-Some.ensures.taken.1 c.if-other-line.true) in
    let resident = subst (λ (v : CacheView). IsResident v c.args.line c.in-Some.other) same c.in-Some.ensures.line in
    sym (other-some m.sizes (past.state.share c.args.n) c.args.line c.in-Some.other taken resident.only)

pub returns-in_default-clause-value : goal.returns-in_default-clause-value
returns-in_default-clause-value g c = λ past ran.
    let m = c.args.self.now in
    let same : c.cache.result.now ≡ record { sizes = m.sizes; copies = (past.state.share c.args.n).copies } = c.cache.ensures ∙ ap cache_of (c.node.ensures.node past ran) in
    sym (other-none m.sizes (past.state.share c.args.n) c.args.line (never_passes _ (λ taken. c.in-Some.ensures.taken.0 (subst (λ (v : CacheView). is_set_taken v c.args.line ≡ true) (sym same) taken) c.if-other-line.false)))

pub returns-in_default-2-clause-value : goal.returns-in_default-2-clause-value
returns-in_default-2-clause-value g c = λ past ran.
    let m = c.args.self.now in
    let same : c.cache.result.now ≡ record { sizes = m.sizes; copies = (past.state.share c.args.n).copies } = c.cache.ensures ∙ ap cache_of (c.node.ensures.node past ran) in
    sym (other-none m.sizes (past.state.share c.args.n) c.args.line (never_passes _ (λ taken. c.in_default.ensures.taken.0 (subst (λ (v : CacheView). is_set_taken v c.args.line ≡ true) (sym same) taken))))

pub returns-in-Some-clause-below : goal.returns-in-Some-clause-below
returns-in-Some-clause-below g c =
    let sizes = ap (λ (v : CacheView). v.sizes) c.cache.ensures ∙ c.node.ensures.sizes in
    subst (λ (s : Sizes). c.in-Some.other < all_lines s) sizes c.in-Some.ensures.line.below
