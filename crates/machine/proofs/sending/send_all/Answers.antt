-- Each turn pushes one message more, which finds room.
use Rattle.std.proofs.Common.{◌<◌, sym, subst, ap, refl}
use Rattle.op_model.specs.MessageWords.{IsMsgOf}
use Rattle.lane_queues.specs.LaneStates.{LaneState}
use Rattle.message_range.specs.Fitting.{IsSentOf}
use Rattle.machine.proofs.Sendings.{with_lanes, sent_from-none, pushed-next, push-fits, All-at}
use Rattle.machine.proofs.sending.send_all.Goals as goal

pub loop-i-init : goal.loop-i-init
loop-i-init g c =
    let first = g.Q.Lanes.meaning c.args.lanes.now in
    ap (with_lanes first) (sym (sent_from-none c.args.node first.lane))

pub loop-i-preserved : goal.loop-i-preserved
loop-i-preserved g c =
    let first = g.Q.Lanes.meaning c.args.lanes.now in
    let now = g.Q.Lanes.meaning c.loop-i.lanes in
    let new = g.Q.Lanes.meaning c.push.new.self in
    pushed-next first now new c.args.node c.args.sends.now.list c.loop-i.i c.at-dst.result c.at-dst.ensures c.loop-i.invariant c.in-Ok.ensures.ok

pub push-requires-clause-from : goal.push-requires-clause-from
push-requires-clause-from g c = subst (λ (s : LaneState). c.args.node < s.sizes.nodes) (sym c.loop-i.invariant) c.requires.node

pub push-requires-clause-to : goal.push-requires-clause-to
push-requires-clause-to g c =
    let first = g.Q.Lanes.meaning c.args.lanes.now in
    let its = All-at (IsSentOf first.sizes) c.args.sends.now.list c.loop-i.i c.at-dst.result c.requires.sent c.at-dst.ensures in
    subst (λ (s : LaneState). c.at-dst.result.0 < s.sizes.nodes) (sym c.loop-i.invariant) its.to

pub push-requires-clause-message : goal.push-requires-clause-message
push-requires-clause-message g c =
    let first = g.Q.Lanes.meaning c.args.lanes.now in
    let its = All-at (IsSentOf first.sizes) c.args.sends.now.list c.loop-i.i c.at-dst.result c.requires.sent c.at-dst.ensures in
    subst (λ (s : LaneState). IsMsgOf s.sizes c.at-dst.result.1) (sym c.loop-i.invariant) its.message

pub unreachable-requires : goal.unreachable-requires
unreachable-requires g c =
    let first = g.Q.Lanes.meaning c.args.lanes.now in
    let now = g.Q.Lanes.meaning c.loop-i.lanes in
    push-fits first now c.args.node c.args.sends.now.list c.loop-i.i c.at-dst.result c.requires.room c.at-dst.ensures c.loop-i.invariant (c.in_default.ensures.full.0 refl)
