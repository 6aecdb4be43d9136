use Rattle.std.proofs.Common.{◌≡◌, ◌<◌, sym, ap, ◌∙◌, subst, Some}
use Rattle.std.specs.Prelude.{slice_get}
use Rattle.line_map.specs.Sizes.{all_words, line_of}
use Rattle.op_model.specs.Shares.{conflicts}
use Rattle.cpu_cache.specs.Caches.{CacheView}
use Rattle.cpu_cache.specs.Processors.{next_of}
use Rattle.op_model.specs.Programs.{IsProgramOf}
use Rattle.node_box.specs.Boxes.{LinkedNode, BoxView}
use Rattle.node_box.proofs.Leaving.{alone, none_and, same_and}
use Rattle.node_box.proofs.open_box.OpenBox.in_the_way.Goals as goal

pub addr_of-requires : goal.addr_of-requires
addr_of-requires c =
    let node : LinkedNode = c.self.inside.node in
    let same : node ≡ c.args.self.now.node = ap (λ (x : BoxView). x.node) c.self.view_is in
    let program : IsProgramOf node.sizes node.number node.program = subst (λ (f : LinkedNode). IsProgramOf f.sizes f.number f.program) (sym same) c.requires in
    let next : slice_get node.program node.share.place ≡ Some c.in_ok-op.op = sym (c.next_op.ensures ∙ ap next_of c.proc.ensures) ∙ c.in_ok-op.was in
    let sizes = c.cfg-cfg.ensures.value ∙ ap (λ (v : CacheView). v.sizes) c.cache-cache.ensures in
    subst (λ z. c.in_ok-op.op.word < all_words z) (sym sizes) (program node.share.place c.in_ok-op.op next).word

pub line_of-line-requires : goal.line_of-line-requires
line_of-line-requires c =
    let node : LinkedNode = c.self.inside.node in
    let same : node ≡ c.args.self.now.node = ap (λ (x : BoxView). x.node) c.self.view_is in
    let program : IsProgramOf node.sizes node.number node.program = subst (λ (f : LinkedNode). IsProgramOf f.sizes f.number f.program) (sym same) c.requires in
    let next : slice_get node.program node.share.place ≡ Some c.in_ok-op.op = sym (c.next_op.ensures ∙ ap next_of c.proc.ensures) ∙ c.in_ok-op.was in
    let sizes = c.cfg-cfg.ensures.value ∙ ap (λ (v : CacheView). v.sizes) c.cache-cache.ensures in
    subst (λ a. a < all_words c.cfg-cfg.result) (sym c.addr_of.ensures) (subst (λ z. c.in_ok-op.op.word < all_words z) (sym sizes) (program node.share.place c.in_ok-op.op next).word)

pub returns-in_err-other-clause-none : goal.returns-in_err-other-clause-none
returns-in_err-other-clause-none c none op at =
    let node : LinkedNode = c.self.inside.node in
    let same : node ≡ c.args.self.now.node = ap (λ (x : BoxView). x.node) c.self.view_is in
    let next : slice_get node.program node.share.place ≡ Some c.in_ok-op.op = sym (c.next_op.ensures ∙ ap next_of c.proc.ensures) ∙ c.in_ok-op.was in
    let sizes = c.cfg-cfg.ensures.value ∙ ap (λ (v : CacheView). v.sizes) c.cache-cache.ensures in
    let line = c.line_of-line.ensures.value ∙ (λ i. line_of (sizes i) (c.addr_of.ensures i)) in
    let at_node : slice_get node.program node.share.place ≡ Some op = ap (λ (f : LinkedNode). slice_get f.program f.share.place) same ∙ at in
    ap (λ (f : LinkedNode). conflicts f.sizes f.share (line_of f.sizes op.word)) (sym same)
    ∙ alone node c.cache-cache.result.now c.in_ok-op.op op c.line_of-line.result c.resident.result c.cache-cache.ensures next at_node line c.resident.ensures.taken.0 (none_and _ c.resident.result c.in_err-other.was)

pub returns-then-other-line-clause-none : goal.returns-then-other-line-clause-none
returns-then-other-line-clause-none c none op at =
    let node : LinkedNode = c.self.inside.node in
    let same : node ≡ c.args.self.now.node = ap (λ (x : BoxView). x.node) c.self.view_is in
    let next : slice_get node.program node.share.place ≡ Some c.in_ok-op.op = sym (c.next_op.ensures ∙ ap next_of c.proc.ensures) ∙ c.in_ok-op.was in
    let sizes = c.cfg-cfg.ensures.value ∙ ap (λ (v : CacheView). v.sizes) c.cache-cache.ensures in
    let line = c.line_of-line.ensures.value ∙ (λ i. line_of (sizes i) (c.addr_of.ensures i)) in
    let at_node : slice_get node.program node.share.place ≡ Some op = ap (λ (f : LinkedNode). slice_get f.program f.share.place) same ∙ at in
    ap (λ (f : LinkedNode). conflicts f.sizes f.share (line_of f.sizes op.word)) (sym same)
    ∙ alone node c.cache-cache.result.now c.in_ok-op.op op c.line_of-line.result c.resident.result c.cache-cache.ensures next at_node line c.resident.ensures.taken.0 (same_and c.resident.result c.in_ok-other.other c.line_of-line.result c.in_ok-other.was c.if-other-line.true)
