use Rattle.std.proofs.Common.{◌≡◌, ℕ, ap, subst, arith}
use Rattle.line_map.specs.Sizes.{Sizes}
use Rattle.run_chart.specs.Lettered.{AreOfClass, ArePosted}
use Rattle.run_chart.proofs.Posted.{posted-none, posted-more}
use Rattle.run_chart.proofs.posting.post_all.Goals as goal

pub loop-dst-init : goal.loop-dst-init
loop-dst-init g c all = posted-none c.args.number c.args.src (g.M.Reported.meaning c.args.m.now).past.state.lane c.args.letters.now.items

pub loop-dst-preserved : goal.loop-dst-preserved
loop-dst-preserved g c all =
    let m = g.M.Reported.meaning c.args.m.now in
    posted-more c.args.number c.args.src c.loop-dst.dst m.past.state.lane c.args.letters.now.items c.loop-dst.letters.items c.post.new.letters.items c.post-in-loop-dst.new.letters.items
    (c.loop-dst.invariant (λ b k lt. all b k (omega arith))) all c.in_ok-post.ensures c.in_ok-post-2.ensures

pub returns : goal.returns
returns g c =
    let m = g.M.Reported.meaning c.args.m.now in
    let same : c.cfg.result.nodes ≡ m.sizes.nodes = ap (λ (s : Sizes). s.nodes) c.cfg.ensures.value in
    let all : c.loop-dst.dst ≡ m.sizes.nodes = omega (arith, c.nodes-dst-end.ensures.value) in
    subst (λ (n : ℕ). AreOfClass c.args.src n m.past.state.lane → ArePosted c.args.number c.args.src n m.past.state.lane c.args.letters.now.items c.loop-dst.letters.items) all (λ of_class. (c.loop-dst.invariant of_class).posted)
