-- The event that the node did is the run's next one, and its messages find room.
use Rattle.std.proofs.Common.{map, sym, ap, subst, ◌∙◌}
use Rattle.std.specs.Prelude.{All}
use Rattle.line_map.specs.Sizes.{Sizes}
use Rattle.message_range.specs.Fitting.{IsSentOf}
use Rattle.event_tally.specs.Marks.{marked_up, marks_of}
use Rattle.machine.proofs.Kept.{kept-same, cleared}
use Rattle.op_model.specs.Run.Counts.{taken_by}
use Rattle.machine.specs.Kept.{state_of}
use Rattle.machine.proofs.Laws.{fronts-met}
use Rattle.machine.specs.Faces.{face_of}
use Rattle.machine.proofs.After.{counts-few, sends-in, sends-fit, some-left, programs-kept, kept-after}
use Rattle.machine.proofs.run.Run.apply.Goals as goal

pub do_event-requires-clause-fronts : goal.do_event-requires-clause-fronts
do_event-requires-clause-fronts g c =
    let face = face_of {D = g.row.D.Denot} in
    let faces = map face c.args.self.now.nodes.items in
    let lanes = g.Q.Lanes.meaning c.args.self.now.lanes in
    let sizes = c.args.self.now.cfg in
    let journal = c.args.self.now.journal in
    fronts-met sizes faces lanes journal.events.items journal.served.items journal.counts journal.left c.args.self.now.out c.requires.kept

pub move_messages-requires-clause-front : goal.move_messages-requires-clause-front
move_messages-requires-clause-front g c = c.in-Ok.ensures.ok.front

pub move_messages-requires-clause-sent : goal.move_messages-requires-clause-sent
move_messages-requires-clause-sent g c =
    let face = face_of {D = g.row.D.Denot} in
    let faces = map face c.args.self.now.nodes.items in
    let faces' = map face c.do_event.new.nodes.items in
    let lanes = g.Q.Lanes.meaning c.args.self.now.lanes in
    let sizes = c.args.self.now.cfg in
    let journal = c.reserve.new.self in
    let out = c.args.self.now.out in
    let kept = kept-same sizes faces lanes c.args.self.now.journal journal out c.reserve.ensures.same c.requires.kept in
    let sends = c.do_event.new.out.list in
    let is = c.in-Ok.ensures.ok in
    subst (λ (s : Sizes). All (IsSentOf s) sends) (sym kept.lanes_are.same_sizes) (sends-in sizes faces faces' lanes journal.events.items journal.served.items journal.counts journal.left out c.args.event sends c.in-Ok.act kept is)

pub move_messages-requires-clause-room : goal.move_messages-requires-clause-room
move_messages-requires-clause-room g c =
    let face = face_of {D = g.row.D.Denot} in
    let faces = map face c.args.self.now.nodes.items in
    let faces' = map face c.do_event.new.nodes.items in
    let lanes = g.Q.Lanes.meaning c.args.self.now.lanes in
    let sizes = c.args.self.now.cfg in
    let journal = c.reserve.new.self in
    let out = c.args.self.now.out in
    let kept = kept-same sizes faces lanes c.args.self.now.journal journal out c.reserve.ensures.same c.requires.kept in
    let sends = c.do_event.new.out.list in
    let is = c.in-Ok.ensures.ok in
    sends-fit sizes faces faces' lanes journal.events.items journal.served.items journal.counts journal.left out c.args.event sends c.in-Ok.act kept is

pub note-requires-clause-counts : goal.note-requires-clause-counts
note-requires-clause-counts g c =
    let face = face_of {D = g.row.D.Denot} in
    let faces = map face c.args.self.now.nodes.items in
    let lanes = g.Q.Lanes.meaning c.args.self.now.lanes in
    let sizes = c.args.self.now.cfg in
    let journal = c.reserve.new.self in
    let out = c.args.self.now.out in
    let kept = kept-same sizes faces lanes c.args.self.now.journal journal out c.reserve.ensures.same c.requires.kept in
    counts-few sizes faces lanes journal.events.items journal.served.items journal.counts journal.left out kept

pub note-requires-clause-takes : goal.note-requires-clause-takes
note-requires-clause-takes g c = (taken_by (state_of c.args.self.now.cfg (map (face_of {D = g.row.D.Denot}) c.args.self.now.nodes.items) (g.Q.Lanes.meaning c.args.self.now.lanes).lane) c.args.event, c.in-Ok.ensures.ok.takes_is)

pub note-requires-clause-left : goal.note-requires-clause-left
note-requires-clause-left g c =
    let face = face_of {D = g.row.D.Denot} in
    let faces = map face c.args.self.now.nodes.items in
    let faces' = map face c.do_event.new.nodes.items in
    let lanes = g.Q.Lanes.meaning c.args.self.now.lanes in
    let sizes = c.args.self.now.cfg in
    let journal = c.reserve.new.self in
    let out = c.args.self.now.out in
    let kept = kept-same sizes faces lanes c.args.self.now.journal journal out c.reserve.ensures.same c.requires.kept in
    let sends = c.do_event.new.out.list in
    let is = c.in-Ok.ensures.ok in
    some-left sizes faces faces' lanes journal.events.items journal.served.items journal.counts journal.left out c.args.event sends c.in-Ok.act kept is

pub returns-clause-kept : goal.returns-clause-kept
returns-clause-kept g c =
    let face = face_of {D = g.row.D.Denot} in
    let faces = map face c.args.self.now.nodes.items in
    let faces' = map face c.do_event.new.nodes.items in
    let lanes = g.Q.Lanes.meaning c.args.self.now.lanes in
    let sizes = c.args.self.now.cfg in
    let journal = c.reserve.new.self in
    let out = c.args.self.now.out in
    let kept = kept-same sizes faces lanes c.args.self.now.journal journal out c.reserve.ensures.same c.requires.kept in
    let sends = c.do_event.new.out.list in
    let is = c.in-Ok.ensures.ok in
    let new = c.note.new.self in
    kept-after sizes faces faces' lanes journal.events.items journal.served.items journal.counts journal.left out c.args.event sends c.in-Ok.act kept is (g.Q.Lanes.meaning c.move_messages.new.lanes) new.events.items new.served.items new.counts new.left c.clear.new.self
    c.move_messages.ensures c.note.ensures.events c.note.ensures.served
    (c.note.ensures.counts ∙ ap (λ ns. marked_up journal.counts (marks_of c.args.event c.in-Ok.act.takes c.in-Ok.act.done ns c.in-Ok.act.marked)) c.naks_of-naks.ensures) c.note.ensures.left
    (cleared sizes out c.do_event.new.out c.clear.new.self c.requires.kept.nothing_sent c.do_event.ensures.room c.clear.ensures)

pub returns-clause-programs : goal.returns-clause-programs
returns-clause-programs g c =
    let face = face_of {D = g.row.D.Denot} in
    let faces = map face c.args.self.now.nodes.items in
    let faces' = map face c.do_event.new.nodes.items in
    let lanes = g.Q.Lanes.meaning c.args.self.now.lanes in
    let sizes = c.args.self.now.cfg in
    let journal = c.reserve.new.self in
    let out = c.args.self.now.out in
    let kept = kept-same sizes faces lanes c.args.self.now.journal journal out c.reserve.ensures.same c.requires.kept in
    let sends = c.do_event.new.out.list in
    let is = c.in-Ok.ensures.ok in
    programs-kept sizes faces faces' lanes journal.events.items journal.served.items journal.counts journal.left out c.args.event sends c.in-Ok.act kept is
