use Rattle.std.proofs.Common.{◌≡◌, true, false, refl, sym, ◌∙◌}
use Rattle.node_box.proofs.Issuing.{in_conflict}
use Rattle.node_box.proofs.open_box.OpenBox.make_way.Goals as goal

pub unreachable-requires : goal.unreachable-requires
unreachable-requires c =
    let conflict = in_conflict c.args.self.now.node c.requires.conflict in
    let both : true ≡ false = sym conflict.taken ∙ c.in_default.ensures.none refl conflict.op conflict.next in
    absurd (cc)
