-- A hit is that of the node's share.
use Rattle.std.proofs.Common.{◌≡◌, [], Err, sym, subst}
use Rattle.std.specs.Prelude.{MatchResult}
use Rattle.std.proofs.lemmas.Result.{MatchResult-weaker}
use Rattle.op_model.specs.Events.Node.{HitNext, local}
use Rattle.op_model.specs.Programs.{IsProgramOf}
use Rattle.msg_words.specs.SendList.{SendList}
use Rattle.node_share.specs.Parts.{AreHeaders}
use Rattle.node_share.specs.Effects.{Acts}
use Rattle.node_share.proofs.Public.{home-headers}
use Rattle.magic_node.specs.Nodes.{node_share}
use Rattle.magic_node.proofs.acting.hit_here.Goals as goal

pub hit-requires : goal.hit-requires
hit-requires g c = (c.args.number, subst (λ z. IsProgramOf z c.args.number c.args.proc.now.program) (sym c.requires.same) c.requires.program)

pub returns-clause-done : goal.returns-clause-done
returns-clause-done g c =
    let home = c.args.home.now in
    let program : IsProgramOf c.args.cache.now.sizes c.args.number c.args.proc.now.program = subst (λ z. IsProgramOf z c.args.number c.args.proc.now.program) (sym c.requires.same) c.requires.program in
    let has : AreHeaders c.args.cache.now.sizes c.args.number home.headers = subst (λ z. AreHeaders z c.args.number home.headers) (sym c.requires.same) (subst (λ k. AreHeaders home.sizes k home.headers) c.requires.node (home-headers (g.D.Sharers.directory home.dir) home c.cfg-kept.ensures.kept)) in
    let acts : MatchResult c.hit.result (λ effect. (out : SendList) → Acts c.args.number c.args.proc.now.program c.args.proc.now.place [] (local c.args.home.now.charge home.sizes c.args.number c.args.proc.now.program (node_share c.args.proc.now c.args.cache.now c.args.home.now) HitNext) (node_share c.hit.new.proc c.hit.new.cache c.args.home.now) out out effect) (λ cause. local c.args.home.now.charge home.sizes c.args.number c.args.proc.now.program (node_share c.args.proc.now c.args.cache.now c.args.home.now) HitNext ≡ Err cause) = subst (λ z. MatchResult c.hit.result (λ effect. (out : SendList) → Acts c.args.number c.args.proc.now.program c.args.proc.now.place [] (local c.args.home.now.charge z c.args.number c.args.proc.now.program (node_share c.args.proc.now c.args.cache.now c.args.home.now) HitNext) (node_share c.hit.new.proc c.hit.new.cache c.args.home.now) out out effect) (λ cause. local c.args.home.now.charge z c.args.number c.args.proc.now.program (node_share c.args.proc.now c.args.cache.now c.args.home.now) HitNext ≡ Err cause)) c.requires.same (c.hit.ensures.acts home.charge c.args.number home.headers program has) in
    MatchResult-weaker c.hit.result acts (λ effect does. does) (λ cause refused. tt)

pub returns-clause-refused : goal.returns-clause-refused
returns-clause-refused g c =
    let home = c.args.home.now in
    let program : IsProgramOf c.args.cache.now.sizes c.args.number c.args.proc.now.program = subst (λ z. IsProgramOf z c.args.number c.args.proc.now.program) (sym c.requires.same) c.requires.program in
    let has : AreHeaders c.args.cache.now.sizes c.args.number home.headers = subst (λ z. AreHeaders z c.args.number home.headers) (sym c.requires.same) (subst (λ k. AreHeaders home.sizes k home.headers) c.requires.node (home-headers (g.D.Sharers.directory home.dir) home c.cfg-kept.ensures.kept)) in
    let acts : MatchResult c.hit.result (λ effect. (out : SendList) → Acts c.args.number c.args.proc.now.program c.args.proc.now.place [] (local c.args.home.now.charge home.sizes c.args.number c.args.proc.now.program (node_share c.args.proc.now c.args.cache.now c.args.home.now) HitNext) (node_share c.hit.new.proc c.hit.new.cache c.args.home.now) out out effect) (λ cause. local c.args.home.now.charge home.sizes c.args.number c.args.proc.now.program (node_share c.args.proc.now c.args.cache.now c.args.home.now) HitNext ≡ Err cause) = subst (λ z. MatchResult c.hit.result (λ effect. (out : SendList) → Acts c.args.number c.args.proc.now.program c.args.proc.now.place [] (local c.args.home.now.charge z c.args.number c.args.proc.now.program (node_share c.args.proc.now c.args.cache.now c.args.home.now) HitNext) (node_share c.hit.new.proc c.hit.new.cache c.args.home.now) out out effect) (λ cause. local c.args.home.now.charge z c.args.number c.args.proc.now.program (node_share c.args.proc.now c.args.cache.now c.args.home.now) HitNext ≡ Err cause)) c.requires.same (c.hit.ensures.acts home.charge c.args.number home.headers program has) in
    MatchResult-weaker c.hit.result acts (λ effect does. tt) (λ cause refused. refused)
