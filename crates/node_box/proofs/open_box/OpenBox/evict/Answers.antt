use Rattle.std.proofs.Common.{◌≡◌, ◌==◌, sym, ap, ◌∙◌, subst, Some, None}
use Rattle.std.specs.Prelude.{IsOk}
use Rattle.line_map.specs.Sizes.{home_of}
use Rattle.op_model.specs.Lines.{state_of}
use Rattle.op_model.specs.Shares.{copy_of}
use Rattle.op_model.specs.Events.Node.{EvictLine}
use Rattle.node_box.specs.Boxes.{LinkedNode, BoxView, outcome_at}
use Rattle.node_box.specs.Processing.{cache_of, leaving, Counts}
use Rattle.node_box.proofs.Issuing.{evicts}
use Rattle.node_box.proofs.Leaving.{look_is, home_is, counted_node, gate_of, lacks}
use Rattle.node_box.proofs.open_box.OpenBox.evict.Goals as goal

pub returns-in_default-clause-leaves : goal.returns-in_default-clause-leaves
returns-in_default-clause-leaves c =
    let node : LinkedNode = c.args.self.now.node in
    let same = ap (λ (x : BoxView). x.node) c.self.view_is in
    let cache = c.cache-cache.ensures ∙ ap cache_of same in
    let home = home_is node c.cache-cache.result.now cache c.args.line c.cfg.result c.home_of-home.result c.cfg.ensures.value c.home_of-home.ensures.value in
    let found = look_is node c.cache-cache.result.now cache c.args.line c.look-state.result c.look-state.ensures.value in
    let number = c.number.ensures.value ∙ ap (λ (f : LinkedNode). f.number) same in
    let room = c.count_for-room.result in
    let counts : Counts c.args.self.now c.count_for-room.new.self (home_of node.sizes c.args.line) room = subst (λ h. Counts c.args.self.now c.count_for-room.new.self h room) home c.count_for-room.ensures.counts in
    let none : leaving (home_of node.sizes c.args.line == node.number) room (state_of (copy_of node.share c.args.line)) ≡ None = (λ i. leaving (sym home i == sym number i) room (sym found i)) ∙ (sym c.leaving.ensures ∙ c.in_default.is) in
    lacks c.args.self.now c.count_for-room.new.self c.args.line room c.requires.line counts none

pub act-requires-clause-goes : goal.act-requires-clause-goes
act-requires-clause-goes c =
    let node : LinkedNode = c.args.self.now.node in
    let same = ap (λ (x : BoxView). x.node) c.self.view_is in
    let cache = c.cache-cache.ensures ∙ ap cache_of same in
    let home = home_is node c.cache-cache.result.now cache c.args.line c.cfg.result c.home_of-home.result c.cfg.ensures.value c.home_of-home.ensures.value in
    let found = look_is node c.cache-cache.result.now cache c.args.line c.look-state.result c.look-state.ensures.value in
    let number = c.number.ensures.value ∙ ap (λ (f : LinkedNode). f.number) same in
    let room = c.count_for-room.result in
    let some : leaving (home_of node.sizes c.args.line == node.number) room (state_of (copy_of node.share c.args.line)) ≡ Some c.in-Some.kind = (λ i. leaving (sym home i == sym number i) room (sym found i)) ∙ (sym c.leaving.ensures ∙ c.in-Some.is) in
    subst (λ (f : LinkedNode). IsOk (outcome_at f (EvictLine c.args.line c.in-Some.kind room))) (sym (counted_node c.args.self.now c.count_for-room.new.self c.home_of-home.result room c.count_for-room.ensures.counts)) (evicts node c.args.line c.in-Some.kind room some)

pub act-requires-clause-gate : goal.act-requires-clause-gate
act-requires-clause-gate c =
    let node : LinkedNode = c.args.self.now.node in
    let same = ap (λ (x : BoxView). x.node) c.self.view_is in
    let cache = c.cache-cache.ensures ∙ ap cache_of same in
    let home = home_is node c.cache-cache.result.now cache c.args.line c.cfg.result c.home_of-home.result c.cfg.ensures.value c.home_of-home.ensures.value in
    let room = c.count_for-room.result in
    let counts : Counts c.args.self.now c.count_for-room.new.self (home_of node.sizes c.args.line) room = subst (λ h. Counts c.args.self.now c.count_for-room.new.self h room) home c.count_for-room.ensures.counts in
    gate_of c.args.self.now c.count_for-room.new.self c.args.line room c.count_for-room.ensures.kept.node counts

pub returns-clause-leaves : goal.returns-clause-leaves
returns-clause-leaves c =
    let node : LinkedNode = c.args.self.now.node in
    let same = ap (λ (x : BoxView). x.node) c.self.view_is in
    let cache = c.cache-cache.ensures ∙ ap cache_of same in
    let home = home_is node c.cache-cache.result.now cache c.args.line c.cfg.result c.home_of-home.result c.cfg.ensures.value c.home_of-home.ensures.value in
    let found = look_is node c.cache-cache.result.now cache c.args.line c.look-state.result c.look-state.ensures.value in
    let number = c.number.ensures.value ∙ ap (λ (f : LinkedNode). f.number) same in
    let room = c.count_for-room.result in
    let counts : Counts c.args.self.now c.count_for-room.new.self (home_of node.sizes c.args.line) room = subst (λ h. Counts c.args.self.now c.count_for-room.new.self h room) home c.count_for-room.ensures.counts in
    let some : leaving (home_of node.sizes c.args.line == node.number) room (state_of (copy_of node.share c.args.line)) ≡ Some c.in-Some.kind = (λ i. leaving (sym home i == sym number i) room (sym found i)) ∙ (sym c.leaving.ensures ∙ c.in-Some.is) in
    record { room = room; kind = c.in-Some.kind; counted = c.count_for-room.new.self; counts = counts; leaves = some; acts = c.act.ensures.acts }
