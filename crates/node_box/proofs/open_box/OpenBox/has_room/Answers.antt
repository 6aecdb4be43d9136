use Rattle.std.proofs.Common.{sym, subst, refl}
use Rattle.node_box.specs.Boxes.{BoxView, IsBox}
use Rattle.node_box.proofs.Flushing.{noted_box}
use Rattle.node_box.proofs.open_box.OpenBox.has_room.Goals as goal

pub returns-then-space-clause-kept : goal.returns-then-space-clause-kept
returns-then-space-clause-kept c =
    let box : BoxView = record { node = c.self.inside.node; out = c.self.inside.out; departed = c.self.inside.departed.items; sends = c.self.inside.sends; log = c.self.inside.log; seat = c.self.inside.seat } in
    let kept : IsBox c.args.t.now box = subst (IsBox c.args.t.now) (sym c.self.view_is) c.requires.kept in
    let seen = c.space.ensures.part in
    noted_box c.args.t.now box (record box { seat = c.space.new.self }) _ box.seat.part.in_notes kept seen.2 c.space.ensures.seat refl refl refl refl refl

pub returns-clause-kept : goal.returns-clause-kept
returns-clause-kept c =
    let box : BoxView = record { node = c.self.inside.node; out = c.self.inside.out; departed = c.self.inside.departed.items; sends = c.self.inside.sends; log = c.self.inside.log; seat = c.self.inside.seat } in
    let kept : IsBox c.args.t.now box = subst (IsBox c.args.t.now) (sym c.self.view_is) c.requires.kept in
    let seen = c.space.ensures.part in
    noted_box c.args.t.now box (record box { seat = c.space.new.self }) _ box.seat.part.in_notes kept seen.2 c.space.ensures.seat refl refl refl refl refl
