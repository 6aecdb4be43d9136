use Rattle.std.proofs.Common.{arith}
use Rattle.run_chart.proofs.Posted.{sent-none, sent-more, sent-all}
use Rattle.run_chart.proofs.posting.post.Goals as goal

pub loop-i-init : goal.loop-i-init
loop-i-init g c =
    let m = g.M.Reported.meaning c.args.m.now in
    sent-none c.args.number c.args.src c.args.dst c.count_in-known.result (m.past.state.lane c.args.src c.args.dst c.args.class) c.args.letters.now.items

pub loop-i-preserved : goal.loop-i-preserved
loop-i-preserved g c =
    let m = g.M.Reported.meaning c.args.m.now in
    sent-more c.args.number c.args.src c.args.dst c.count_in-known.result c.loop-i.i (m.past.state.lane c.args.src c.args.dst c.args.class) c.lane_at-msg.result c.args.letters.now.items c.loop-i.letters.items c.push.new.self.items
    c.loop-i.auto.i c.lane_at-msg.ensures.value c.loop-i.invariant c.in-Ok.ensures.items

pub returns : goal.returns
returns g c =
    let m = g.M.Reported.meaning c.args.m.now in
    sent-all c.args.number c.args.src c.args.dst c.args.class c.count_in-known.result c.loop-i.i (m.past.state.lane c.args.src c.args.dst c.args.class) c.deref.result.now c.args.letters.now.items c.loop-i.letters.items c.count_in-known.ensures c.deref.ensures.value
    (omega (arith, c.lane_len-i-end.ensures)) c.loop-i.invariant
