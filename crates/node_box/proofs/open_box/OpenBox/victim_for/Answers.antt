use Rattle.std.proofs.Common.{rules, ◌≡◌, ◌<◌, ◌⊎◌, true, false, sym, ap, ◌∙◌, subst, None}
use Rattle.std.specs.Prelude.{is_ok, IfSome, IsNone}
use Rattle.op_model.specs.Events.Node.{TakeFrom, permit}
use Rattle.op_model.specs.Tables.Processor.{holds_link}
use Rattle.op_model.specs.Shares.{Unlinked}
use Rattle.line_map.specs.Sizes.{home_of}
use Rattle.dir_header.specs.Sharers.{free_in}
use Rattle.dir_header.specs.HomeSides.{HomeView, IsHome, room_in, header_at}
use Rattle.sharer_dir.specs.Linked.{LinkedView, linked_directory}
use Rattle.node_box.specs.Boxes.{LinkedNode, BoxView, outcome_at}
use Rattle.node_box.proofs.Calling.{home_side, no_victim, its_victim, victim_goes, found_line}
use Rattle.node_box.proofs.open_box.OpenBox.victim_for.Goals as goal

pub returns-then-is_ok-clause-by_link : goal.returns-then-is_ok-clause-by_link
returns-then-is_ok-clause-by_link c =
    let node : LinkedNode = c.args.self.now.node in
    let says = c.can_take.ensures ∙ ap (λ (x : BoxView). permit (outcome_at x.node (TakeFrom c.args.src c.args.msg.now None))) c.self.view_is in
    let ok : is_ok c.can_take.result ≡ true = sym c.is_ok.ensures.value ∙ (search rules) in
    no_victim node c.requires.linked c.args.src c.args.msg.now c.args.link (ap is_ok (sym says) ∙ ok)

pub returns-clause-by_link : goal.returns-clause-by_link
returns-clause-by_link c =
    let node : LinkedNode = c.args.self.now.node in
    let says = c.can_take.ensures ∙ ap (λ (x : BoxView). permit (outcome_at x.node (TakeFrom c.args.src c.args.msg.now None))) c.self.view_is in
    let no : is_ok c.can_take.result ≡ false = sym c.is_ok.ensures.value ∙ (search rules) in
    let found = found_line c.self.inside.node node c.home-home.result.now c.args.link c.by_link.result c.home-home.ensures (ap (λ (x : BoxView). x.node) c.self.view_is) c.by_link.ensures.found in
    its_victim node c.requires.linked c.args.src c.args.msg.now c.args.link c.by_link.result (ap is_ok (sym says) ∙ no) found

pub returns-clause-goes : goal.returns-clause-goes
returns-clause-goes c =
    let node : LinkedNode = c.args.self.now.node in
    let says = c.can_take.ensures ∙ ap (λ (x : BoxView). permit (outcome_at x.node (TakeFrom c.args.src c.args.msg.now None))) c.self.view_is in
    let no : is_ok c.can_take.result ≡ false = sym c.is_ok.ensures.value ∙ (search rules) in
    let home : c.home-home.result.now ≡ home_side node = c.home-home.ensures ∙ ap (λ (x : BoxView). home_side x.node) c.self.view_is in
    let kept : IsHome (linked_directory node.dir) (home_side node) = subst (λ (h : HomeView LinkedView). IsHome (linked_directory h.dir) h) home c.cfg-kept.ensures.kept in
    let free : IsNone c.by_link.result → (0 < free_in (linked_directory node.dir)) ⊎ (node.charge ≡ Unlinked) = subst (λ (h : HomeView LinkedView). IsNone c.by_link.result → (0 < free_in (linked_directory h.dir)) ⊎ (h.charge ≡ Unlinked)) home c.by_link.ensures.free in
    let P : HomeView LinkedView → Type 0 = λ h. IfSome c.by_link.result (λ line. (home_of h.sizes line ≡ h.node) × (holds_link (room_in h) (header_at h line) ≡ true)) in
    let line : P (home_side node) = subst P home c.by_link.ensures.line in
    victim_goes node c.requires.linked c.args.src c.args.msg.now c.by_link.result kept (ap is_ok (sym says) ∙ no) free line
