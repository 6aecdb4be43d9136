use Rattle.std.proofs.Common.{sym, subst, refl}
use Rattle.lane_table.proofs.Public.{only_notes}
use Rattle.node_box.specs.Boxes.{BoxView, IsBox}
use Rattle.node_box.proofs.Flushing.{noted_box}
use Rattle.node_box.proofs.open_box.OpenBox.look.Goals as goal

pub returns-clause-kept : goal.returns-clause-kept
returns-clause-kept c =
    let box : BoxView = record { node = c.self.inside.node; out = c.self.inside.out; departed = c.self.inside.departed.items; sends = c.self.inside.sends; log = c.self.inside.log; seat = c.self.inside.seat } in
    let kept : IsBox c.args.t.now box = subst (IsBox c.args.t.now) (sym c.self.view_is) c.requires.kept in
    let same = only_notes box.seat.part c.look.new.self.part c.args.src c.args.class c.look.result c.look.ensures.none c.look.ensures.some in
    noted_box c.args.t.now box (record box { seat = c.look.new.self }) box.seat.part.out_notes same.0 kept same.1 c.look.ensures.seat refl refl refl refl refl
