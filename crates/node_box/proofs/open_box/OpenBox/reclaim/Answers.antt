use Rattle.std.proofs.Common.{rules, ◌≡◌, true, false, sym, ap, ◌∙◌, subst}
use Rattle.std.specs.Prelude.{is_err, IsOk}
use Rattle.line_map.specs.Sizes.{home_of}
use Rattle.op_model.specs.Events.Node.{ReclaimLine, permit}
use Rattle.dir_header.specs.HomeSides.{HomeView}
use Rattle.sharer_dir.specs.Linked.{LinkedView}
use Rattle.node_box.specs.Boxes.{LinkedNode, BoxView, outcome_at}
use Rattle.node_box.proofs.Calling.{found_line, permits, same_some, not_both}
use Rattle.node_box.proofs.open_box.OpenBox.reclaim.Goals as goal

pub can_do-requires : goal.can_do-requires
can_do-requires c = subst (λ (h : HomeView LinkedView). home_of h.sizes c.in_ok-line.line ≡ h.node) c.home.ensures c.in_ok-line.ensures.line.0

pub act-requires-clause-fits : goal.act-requires-clause-fits
act-requires-clause-fits c =
    let at : home_of c.self.inside.node.sizes c.in_ok-line.line ≡ c.self.inside.node.number = subst (λ (h : HomeView LinkedView). home_of h.sizes c.in_ok-line.line ≡ h.node) c.home.ensures c.in_ok-line.ensures.line.0 in
    subst (λ (x : BoxView). home_of x.node.sizes c.in_ok-line.line ≡ x.node.number) c.self.view_is at

pub returns-in_err-line-clause-due : goal.returns-in_err-line-clause-due
returns-in_err-line-clause-due c none line due =
    let found = found_line c.self.inside.node c.args.self.now.node c.home.result.now c.args.link c.by_link.result c.home.ensures (ap (λ (x : BoxView). x.node) c.self.view_is) c.by_link.ensures.found in
    not_both c.by_link.result line c.in_err-line.was (found ∙ due.line_of)

pub returns-then-is_err-clause-due : goal.returns-then-is_err-clause-due
returns-then-is_err-clause-due c none line due =
    let node : LinkedNode = c.args.self.now.node in
    let found = found_line c.self.inside.node node c.home.result.now c.args.link c.by_link.result c.home.ensures (ap (λ (x : BoxView). x.node) c.self.view_is) c.by_link.ensures.found in
    let same = same_some c.by_link.result c.in_ok-line.line line c.in_ok-line.was (found ∙ due.line_of) in
    let goes : IsOk (outcome_at node (ReclaimLine c.in_ok-line.line)) = subst (λ l. IsOk (outcome_at node (ReclaimLine l))) (sym same) due.goes in
    let says = c.can_do.ensures ∙ ap (λ (x : BoxView). permit (outcome_at x.node (ReclaimLine c.in_ok-line.line))) c.self.view_is in
    let no_error : is_err c.can_do.result ≡ false = ap is_err says ∙ permits (outcome_at node (ReclaimLine c.in_ok-line.line)) goes in
    let error : is_err c.can_do.result ≡ true = sym c.is_err.ensures.value ∙ (search rules) in
    let both : true ≡ false = sym error ∙ no_error in
    cc
