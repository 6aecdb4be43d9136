-- Each event's test is its handler's.
use Rattle.std.proofs.Common.{◌≡◌, refl, sym, ap, ◌∙◌, subst}
use Rattle.op_model.specs.Shares.{line_share, header_in}
use Rattle.op_model.specs.Events.Node.{HitNext, evict_line, local, permit}
use Rattle.op_model.specs.Programs.{IsProgramOf}
use Rattle.magic_node.specs.Nodes.{node_share, input_of}
use Rattle.magic_node.proofs.Told.{leaves-may, called-may}
use Rattle.magic_node.proofs.acting.can_act.Goals as goal

pub can_hit-requires : goal.can_hit-requires
can_hit-requires g c = (c.args.number, subst (λ z. IsProgramOf z c.args.number c.args.proc.now.program) (sym c.requires.node.same) c.requires.node.program)

pub returns-in-Hit : goal.returns-in-Hit
returns-in-Hit g c =
    let home = c.args.home.now in
    let share = node_share c.args.proc.now c.args.cache.now home in
    c.can_hit.ensures home.charge c.args.number home.headers
    ∙ ap (λ z. permit (local home.charge z c.args.number c.args.proc.now.program share HitNext)) c.requires.node.same
    ∙ sym (ap (λ e. permit (local home.charge home.sizes c.args.number c.args.proc.now.program share (input_of e c.args.room))) c.in-Hit.is)

pub returns-in-Issue : goal.returns-in-Issue
returns-in-Issue g c =
    let home = c.args.home.now in
    let share = node_share c.args.proc.now c.args.cache.now home in
    c.can_issue.ensures ∙ sym (ap (λ e. permit (local home.charge home.sizes c.args.number c.args.proc.now.program share (input_of e c.args.room))) c.in-Issue.is)

pub returns-in-Evict : goal.returns-in-Evict
returns-in-Evict g c =
    let home = c.args.home.now in
    let share = node_share c.args.proc.now c.args.cache.now home in
    c.can_evict.ensures c.args.proc.now home.headers
    ∙ ap (λ z. permit (evict_line z c.args.number share c.in-Evict.line c.in-Evict.kind c.args.room)) c.requires.node.same
    ∙ leaves-may home.charge home.sizes c.args.number c.args.proc.now.program share c.in-Evict.line c.in-Evict.kind c.args.room
    ∙ sym (ap (λ e. permit (local home.charge home.sizes c.args.number c.args.proc.now.program share (input_of e c.args.room))) c.in-Evict.is)

pub returns-in-Reclaim : goal.returns-in-Reclaim
returns-in-Reclaim g c =
    let home = c.args.home.now in
    let share = node_share c.args.proc.now c.args.cache.now home in
    c.can_begin.ensures (line_share home.sizes share c.in-Reclaim.line) refl
    ∙ called-may home.charge home.sizes c.args.number c.args.proc.now.program share c.in-Reclaim.line
    ∙ sym (ap (λ e. permit (local home.charge home.sizes c.args.number c.args.proc.now.program share (input_of e c.args.room))) c.in-Reclaim.is)
