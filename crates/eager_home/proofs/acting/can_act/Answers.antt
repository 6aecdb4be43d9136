-- Each event's test is its handler's.
use Rattle.std.proofs.Common.{sym, ap, ◌∙◌, subst}
use Rattle.op_model.specs.Shares.{Unlinked}
use Rattle.op_model.specs.Events.Node.{HitNext, evict_line, permit}
use Rattle.op_model.specs.Events.Node as delayed
use Rattle.op_model.specs.Programs.{IsProgramOf}
use Rattle.eager_model.specs.Node.{local}
use Rattle.magic_node.specs.Nodes.{node_share, input_of}
use Rattle.magic_node.proofs.Public.{leaves-may}
use Rattle.eager_home.proofs.Alone.{as-hit, as-evicted, no-links}
use Rattle.eager_home.proofs.acting.can_act.Goals as goal

pub can_hit-requires : goal.can_hit-requires
can_hit-requires g c = (c.args.number, subst (λ z. IsProgramOf z c.args.number c.args.proc.now.program) (sym c.requires.node.same) c.requires.node.program)

pub returns-in-Hit : goal.returns-in-Hit
returns-in-Hit g c =
    let home = c.args.home.now in
    let share = node_share c.args.proc.now c.args.cache.now home in
    c.can_hit.ensures Unlinked c.args.number home.headers
    ∙ ap (λ z. permit (delayed.local Unlinked z c.args.number c.args.proc.now.program share HitNext)) c.requires.node.same
    ∙ ap permit (as-hit home.sizes c.args.number c.args.proc.now.program share)
    ∙ sym (ap (λ e. permit (local home.sizes c.args.number c.args.proc.now.program share (input_of e c.args.room))) c.in-Hit.is)

pub returns-in-Issue : goal.returns-in-Issue
returns-in-Issue g c =
    let home = c.args.home.now in
    let share = node_share c.args.proc.now c.args.cache.now home in
    c.can_issue.ensures ∙ sym (ap (λ e. permit (local home.sizes c.args.number c.args.proc.now.program share (input_of e c.args.room))) c.in-Issue.is)

pub returns-in-Evict : goal.returns-in-Evict
returns-in-Evict g c =
    let home = c.args.home.now in
    let share = node_share c.args.proc.now c.args.cache.now home in
    c.can_evict.ensures c.args.proc.now home.headers
    ∙ ap (λ z. permit (evict_line z c.args.number share c.in-Evict.line c.in-Evict.kind c.args.room)) c.requires.node.same
    ∙ leaves-may Unlinked home.sizes c.args.number c.args.proc.now.program share c.in-Evict.line c.in-Evict.kind c.args.room
    ∙ ap permit (as-evicted home.sizes c.args.number c.args.proc.now.program share c.in-Evict.line c.in-Evict.kind c.args.room)
    ∙ sym (ap (λ e. permit (local home.sizes c.args.number c.args.proc.now.program share (input_of e c.args.room))) c.in-Evict.is)

pub returns-in-Reclaim : goal.returns-in-Reclaim
returns-in-Reclaim g c =
    let home = c.args.home.now in
    let share = node_share c.args.proc.now c.args.cache.now home in
    sym (ap (λ e. permit (local home.sizes c.args.number c.args.proc.now.program share (input_of e c.args.room))) c.in-Reclaim.is ∙ ap permit (no-links home.sizes c.args.number c.args.proc.now.program share c.in-Reclaim.line))
