use Rattle.std.proofs.Common.{refl}
use Rattle.node_box.specs.Boxes.{BoxView}
use Rattle.node_box.specs.declared.turns.Turn.TheVariants.{Did, Idle}
use Rattle.node_box.proofs.Ending.{did_turn, idle_turn}
use Rattle.node_box.proofs.Logging.{controlled_log, idle_log, relog}
use Rattle.node_box.proofs.open_box.OpenBox.controller_turn.Goals as goal

pub returns-in_default-clause-turn : goal.returns-in_default-clause-turn
returns-in_default-clause-turn c =
    let d = c.self.inside in
    let seen : BoxView = record { node = d.node; out = d.out; departed = d.departed.items; sends = d.sends; log = d.log; seat = d.seat } in
    idle_turn c.args.t.now c.args.t.now seen c.args.self.now c.control.new.self c.reserve_one.new.self c.args.link refl c.self.view_is c.reserve_one.ensures.same c.in_default.ensures.idle

pub returns-clause-turn : goal.returns-clause-turn
returns-clause-turn c =
    let d = c.self.inside in
    let seen : BoxView = record { node = d.node; out = d.out; departed = d.departed.items; sends = d.sends; log = d.log; seat = d.seat } in
    did_turn c.args.t.now c.args.t.now seen c.args.self.now c.control.new.self c.reserve_one.new.self c.args.link c.in-Some.ticket refl c.self.view_is c.reserve_one.ensures.same c.in-Some.ensures.did

pub returns-in_default-clause-log : goal.returns-in_default-clause-log
returns-in_default-clause-log c =
    let d = c.self.inside in
    let seen : BoxView = record { node = d.node; out = d.out; departed = d.departed.items; sends = d.sends; log = d.log; seat = d.seat } in
    relog Idle seen c.args.self.now c.control.new.self c.reserve_one.new.self c.self.view_is c.reserve_one.ensures.same
    (idle_log c.args.t.now.setup.sizes.nodes (record seen { log = c.reserve_one.new.self }) c.control.new.self c.args.link c.in_default.ensures.idle)

pub returns-clause-log : goal.returns-clause-log
returns-clause-log c =
    let d = c.self.inside in
    let seen : BoxView = record { node = d.node; out = d.out; departed = d.departed.items; sends = d.sends; log = d.log; seat = d.seat } in
    relog (Did c.in-Some.ticket) seen c.args.self.now c.control.new.self c.reserve_one.new.self c.self.view_is c.reserve_one.ensures.same
    (controlled_log c.args.t.now.setup.sizes.nodes (record seen { log = c.reserve_one.new.self }) c.control.new.self c.args.link c.in-Some.ticket c.in-Some.ensures.did)
