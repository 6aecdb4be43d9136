-- A hit is that of the node's share.
use Rattle.std.proofs.Common.{◌≡◌, [], Err, sym, ap, ◌∙◌, subst}
use Rattle.std.specs.Prelude.{MatchResult}
use Rattle.std.proofs.lemmas.Result.{MatchResult-weaker}
use Rattle.op_model.specs.Shares.{Unlinked}
use Rattle.op_model.specs.Events.Node.{HitNext}
use Rattle.op_model.specs.Events.Node as delayed
use Rattle.op_model.specs.Programs.{IsProgramOf}
use Rattle.eager_model.specs.Node.{local}
use Rattle.msg_words.specs.SendList.{SendList}
use Rattle.node_share.specs.Parts.{AreHeaders}
use Rattle.node_share.specs.Effects.{Acts}
use Rattle.node_share.proofs.Public.{home-headers}
use Rattle.magic_node.specs.Nodes.{node_share}
use Rattle.eager_home.proofs.Alone.{as-hit}
use Rattle.eager_home.proofs.acting.hit_here.Goals as goal

pub hit-requires : goal.hit-requires
hit-requires g c = (c.args.number, subst (λ z. IsProgramOf z c.args.number c.args.proc.now.program) (sym c.requires.same) c.requires.program)

pub returns-clause-done : goal.returns-clause-done
returns-clause-done g c =
    let home = c.args.home.now in
    let proc = c.args.proc.now in
    let share = node_share proc c.args.cache.now home in
    let program : IsProgramOf c.args.cache.now.sizes c.args.number proc.program = subst (λ z. IsProgramOf z c.args.number proc.program) (sym c.requires.same) c.requires.program in
    let has : AreHeaders c.args.cache.now.sizes c.args.number home.headers = subst (λ z. AreHeaders z c.args.number home.headers) (sym c.requires.same) (subst (λ k. AreHeaders home.sizes k home.headers) c.requires.node (home-headers (g.D.Sharers.directory home.dir) home c.cfg-kept.ensures.kept)) in
    let same : delayed.local Unlinked c.args.cache.now.sizes c.args.number proc.program share HitNext ≡ local home.sizes c.args.number proc.program share HitNext = ap (λ z. delayed.local Unlinked z c.args.number proc.program share HitNext) c.requires.same ∙ as-hit home.sizes c.args.number proc.program share in
    let acts = subst (λ act. MatchResult c.hit.result (λ effect. (out : SendList) → Acts c.args.number proc.program proc.place [] act (node_share c.hit.new.proc c.hit.new.cache home) out out effect) (λ cause. act ≡ Err cause)) same (c.hit.ensures.acts Unlinked c.args.number home.headers program has) in
    MatchResult-weaker c.hit.result acts (λ effect does. does) (λ cause refused. tt)

pub returns-clause-refused : goal.returns-clause-refused
returns-clause-refused g c =
    let home = c.args.home.now in
    let proc = c.args.proc.now in
    let share = node_share proc c.args.cache.now home in
    let program : IsProgramOf c.args.cache.now.sizes c.args.number proc.program = subst (λ z. IsProgramOf z c.args.number proc.program) (sym c.requires.same) c.requires.program in
    let has : AreHeaders c.args.cache.now.sizes c.args.number home.headers = subst (λ z. AreHeaders z c.args.number home.headers) (sym c.requires.same) (subst (λ k. AreHeaders home.sizes k home.headers) c.requires.node (home-headers (g.D.Sharers.directory home.dir) home c.cfg-kept.ensures.kept)) in
    let same : delayed.local Unlinked c.args.cache.now.sizes c.args.number proc.program share HitNext ≡ local home.sizes c.args.number proc.program share HitNext = ap (λ z. delayed.local Unlinked z c.args.number proc.program share HitNext) c.requires.same ∙ as-hit home.sizes c.args.number proc.program share in
    let acts = subst (λ act. MatchResult c.hit.result (λ effect. (out : SendList) → Acts c.args.number proc.program proc.place [] act (node_share c.hit.new.proc c.hit.new.cache home) out out effect) (λ cause. act ≡ Err cause)) same (c.hit.ensures.acts Unlinked c.args.number home.headers program has) in
    MatchResult-weaker c.hit.result acts (λ effect does. tt) (λ cause refused. refused)
