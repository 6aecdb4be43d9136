-- With each line one Take more is told and one less is left, and in the end none is.
use Rattle.std.proofs.Common.{◌++◌, length, arith, ap, ◌∙◌}
use Rattle.schedule.specs.Candidates.{enabled_of, takes_with}
use Rattle.schedule.proofs.Victims.{takes-more, takes-all}
use Rattle.schedule.proofs.candidates.takes.offer_victims.Goals as goal

pub loop-line-init : goal.loop-line-init
loop-line-init g c =
    let m = g.M.MachineFace.meaning c.args.m.now in
    ap (λ lines. c.args.list.now.items ++ enabled_of m (takes_with c.args.src c.args.dst c.args.class lines)) c.victims-victims.ensures

pub offer-requires : goal.offer-requires
offer-requires g c = (c.requires.from, c.requires.to)

pub loop-line-smaller : goal.loop-line-smaller
loop-line-smaller g c = let some = ap length c.in-Some.ensures in omega (arith, some)

pub loop-line-preserved : goal.loop-line-preserved
loop-line-preserved g c =
    let m = g.M.MachineFace.meaning c.args.m.now in
    takes-more m c.args.src c.args.dst c.args.class c.loop-line.list.items c.offer.new.list.items c.in-Some.line c.loop-line.victims c.next.new.self c.in-Some.ensures c.in_ok-offer.ensures ∙ c.loop-line.invariant

pub returns : goal.returns
returns g c =
    let m = g.M.MachineFace.meaning c.args.m.now in
    takes-all m c.args.src c.args.dst c.args.class c.loop-line.list.items c.loop-line.victims c.in_default.ensures ∙ c.loop-line.invariant
