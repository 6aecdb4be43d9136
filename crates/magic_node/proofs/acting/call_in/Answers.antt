-- Nothing is served where a line is called in.
use Rattle.std.proofs.Common.{[], refl, sym, subst}
use Rattle.op_model.specs.Shares.{header_of, line_share, header_in}
use Rattle.op_model.specs.Events.Node.{ReclaimLine, local}
use Rattle.op_model.specs.Tables.Processor.{call_in}
use Rattle.node_share.specs.Parts.{DoesRow}
use Rattle.node_share.specs.Effects.{Acts}
use Rattle.magic_node.specs.Nodes.{node_share}
use Rattle.magic_node.proofs.Told.{calls, refuses}
use Rattle.magic_node.proofs.acting.call_in.Goals as goal

pub returns-in-Ok-clause-done : goal.returns-in-Ok-clause-done
unfolding header_in
returns-in-Ok-clause-done g c = λ proc.
    let home = c.args.home.now in
    let row : DoesRow home.sizes c.args.number (node_share proc c.args.cache.now home) (node_share proc c.args.cache.now c.begin.new.home) c.args.out.now c.begin.new.out c.args.line call_in =
    subst (λ k. DoesRow home.sizes k (node_share proc c.args.cache.now home) (node_share proc c.args.cache.now c.begin.new.home) c.args.out.now c.begin.new.out c.args.line call_in) c.requires.node (c.in-Ok.ensures.done proc c.args.cache.now.copies c.cfg-kept.ensures.kept.held) in
    subst (λ e. Acts c.args.number proc.program proc.place [] (local home.charge home.sizes c.args.number proc.program (node_share proc c.args.cache.now home) (ReclaimLine c.args.line)) (node_share proc c.args.cache.now c.begin.new.home) c.args.out.now c.begin.new.out e) (sym c.no_effect.ensures)
    (calls c.args.home.now.charge c.args.home.now.sizes c.args.number proc.program proc.place (node_share proc c.args.cache.now c.args.home.now) c.args.line (node_share proc c.args.cache.now c.begin.new.home) c.args.out.now c.begin.new.out row (c.in-Ok.ensures.allowed (line_share home.sizes (node_share proc c.args.cache.now home) c.args.line) refl))

pub returns-in-Err-clause-refused : goal.returns-in-Err-clause-refused
unfolding header_in
returns-in-Err-clause-refused g c = λ proc. refuses c.args.home.now.charge c.args.home.now.sizes c.args.number proc.program proc.place (node_share proc c.args.cache.now c.args.home.now) c.args.line c.in-Err.cause (c.in-Err.ensures.allowed (line_share c.args.home.now.sizes (node_share proc c.args.cache.now c.args.home.now) c.args.line) refl)
