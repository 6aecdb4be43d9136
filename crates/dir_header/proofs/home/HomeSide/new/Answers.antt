-- The parts of a home at the start of a run.
use Rattle.std.proofs.Common.{◌<◌, ◌≤◌, ap, ◌∙◌, replicate, arith}
use Rattle.dir_header.specs.HomeParts.{blank}
use Rattle.dir_header.proofs.Start.{start-returns, start-kept}
use Rattle.dir_header.proofs.home.HomeSide.new.Goals as goal

pub invariant_of-result : goal.invariant_of-result
invariant_of-result g c =
    let lines = c.lines-lines.ensures.value in
    let headers = c.in-Ok.ensures.items_if_clones_equal (λ y h. h) ∙ ap (λ n. replicate n blank) lines in
    let memory = c.in-Ok-vec.ensures.items_if_clones_equal (λ y h. h) ∙ (λ i. replicate (lines i) ((c.zeros-zeros.ensures ∙ ap (λ n. replicate n 0) c.words.ensures.value) i)) in
    let some : 0 < c.args.cfg.lines = let s = c.lines-lines.ensures.small in omega (arith, lines) in
    let most_lines : c.args.cfg.lines ≤ 4096 = let s = c.lines-lines.ensures.small in omega (arith, lines) in
    let most_nodes : c.args.cfg.nodes ≤ 64 = let s = c.nodes.ensures.small in omega (arith, c.nodes.ensures.value) in
    let most_pending : c.args.cfg.pending ≤ 64 = let s = c.pending.ensures.small in omega (arith, c.pending.ensures.value) in
    start-kept c.args.cfg c.args.node (g.D.Sharers.directory c.args.dir) c.args.dir c.in-Ok.headers.items c.in-Ok-vec.memory.items c.requires.numbered c.requires.fresh headers memory some
    c.new.result c.new-2.result (c.new.ensures ∙ ap (λ n. record { used = 0; limit = n }) c.pending.ensures.value) c.new-2.ensures most_lines most_nodes most_pending

pub returns : goal.returns
returns g c =
    let lines = c.lines-lines.ensures.value in
    let headers = c.in-Ok.ensures.items_if_clones_equal (λ y h. h) ∙ ap (λ n. replicate n blank) lines in
    let memory = c.in-Ok-vec.ensures.items_if_clones_equal (λ y h. h) ∙ (λ i. replicate (lines i) ((c.zeros-zeros.ensures ∙ ap (λ n. replicate n 0) c.words.ensures.value) i)) in
    let some : 0 < c.args.cfg.lines = let s = c.lines-lines.ensures.small in omega (arith, lines) in
    start-returns c.args.cfg c.args.node (g.D.Sharers.directory c.args.dir) c.args.dir c.in-Ok.headers.items c.in-Ok-vec.memory.items c.requires.numbered c.requires.fresh headers memory some
