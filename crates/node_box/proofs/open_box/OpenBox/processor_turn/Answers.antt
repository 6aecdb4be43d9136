use Rattle.std.proofs.Common.{subst}
use Rattle.node_box.specs.Processing.{HasReason}
use Rattle.node_box.proofs.Issuing.{reason}
use Rattle.node_box.specs.Boxes.{BoxView}
use Rattle.node_box.proofs.Leaving.{whole_turn}
use Rattle.node_box.proofs.Logging.{processed_log, relog}
use Rattle.node_box.proofs.open_box.OpenBox.processor_turn.Goals as goal

pub returns-clause-turn : goal.returns-clause-turn
returns-clause-turn c =
    let d = c.self.inside in
    let seen : BoxView = record { node = d.node; out = d.out; departed = d.departed.items; sends = d.sends; log = d.log; seat = d.seat } in
    whole_turn seen c.args.self.now c.process.new.self c.reserve_one.new.self c.process.result c.self.view_is c.reserve_one.ensures.same c.process.ensures.turn

pub returns-clause-log : goal.returns-clause-log
returns-clause-log c =
    let d = c.self.inside in
    let seen : BoxView = record { node = d.node; out = d.out; departed = d.departed.items; sends = d.sends; log = d.log; seat = d.seat } in
    relog c.process.result seen c.args.self.now c.process.new.self c.reserve_one.new.self c.self.view_is c.reserve_one.ensures.same
    (processed_log c.process.result (record seen { log = c.reserve_one.new.self }) c.process.new.self c.process.ensures.turn)

pub returns-clause-reason : goal.returns-clause-reason
returns-clause-reason c =
    let d = c.self.inside in
    let seen : BoxView = record { node = d.node; out = d.out; departed = d.departed.items; sends = d.sends; log = d.log; seat = d.seat } in
    subst (λ (x : BoxView). HasReason c.process.result x.node) c.self.view_is (reason c.process.result (record seen { log = c.reserve_one.new.self }) c.process.new.self c.number-kept.ensures.kept.outstanding c.process.ensures.turn)
