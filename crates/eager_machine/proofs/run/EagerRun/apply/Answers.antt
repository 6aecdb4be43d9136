-- The event that the node did is the run's next one.
use Rattle.std.proofs.Common.{◌+◌, ◌≤◌, ◌∙◌, ap, arith, length, refl, sym, subst}
use Rattle.std.specs.Prelude.{List}
use Rattle.op_model.specs.declared.events.Event.{Event}
use Rattle.eager_machine.specs.Acts.{IsRefusedIn}
use Rattle.op_model.specs.Run.Counts.{taken_by}
use Rattle.msg_words.specs.SendList.{SendList}
use Rattle.event_tally.specs.Marks.{marks_of, marked_up}
use Rattle.eager_home.specs.Views.{EagerView}
use Rattle.eager_machine.specs.Kept.{state_of}
use Rattle.eager_machine.specs.Lanes.{lane_in}
use Rattle.eager_machine.specs.Runs.{IsRunKept}
use Rattle.eager_machine.proofs.Applied.{few, fronts-settled, young-here, kept-reserved, kept-moved, kept-next}
use Rattle.eager_machine.proofs.run.EagerRun.apply.Goals as goal

pub do_event-requires-clause-young : goal.do_event-requires-clause-young
do_event-requires-clause-young c =
    let run = c.args.self.now in
    let journal = c.reserve.new.self in
    let few : length run.journal.events.items ≤ 18446744073709551614 =
    (let same = ap (λ (es : List Event). length es) c.reserve.ensures.same.events in let room = c.in-Ok.ensures.room.event in omega (arith, same, room, journal.events.ok.0)) in
    young-here run.cfg run.nodes.items run.lanes run.out run.journal c.requires.kept 18446744073709551614 few

pub do_event-requires-clause-fronts : goal.do_event-requires-clause-fronts
do_event-requires-clause-fronts c =
    let run = c.args.self.now in
    fronts-settled run.cfg run.nodes.items run.lanes run.out run.journal c.requires.kept c.send_all.new.lanes c.in-Ok-send_all.ensures.ok.0

pub note-requires-clause-counts : goal.note-requires-clause-counts
note-requires-clause-counts c =
    let run = c.args.self.now in
    let journal = c.reserve.new.self in
    few run.cfg run.nodes.items run.lanes run.out journal (kept-reserved run.cfg run.nodes.items run.lanes run.out run.journal c.requires.kept journal c.reserve.ensures.same)

pub note-requires-clause-takes : goal.note-requires-clause-takes
note-requires-clause-takes c =
    let run = c.args.self.now in
    (taken_by (state_of run.cfg run.nodes.items (lane_in c.send_all.new.lanes)) c.args.event, c.in-Ok-do_event.ensures.ok.tells.takes_is)

pub returns-in_default-clause-kept : goal.returns-in_default-clause-kept
returns-in_default-clause-kept c =
    let run = c.args.self.now in
    kept-reserved run.cfg run.nodes.items run.lanes run.out run.journal c.requires.kept c.reserve.new.self c.reserve.ensures.same

pub returns-in_default-send_all-clause-kept : goal.returns-in_default-send_all-clause-kept
returns-in_default-send_all-clause-kept c =
    let run = c.args.self.now in
    kept-moved run.cfg run.nodes.items run.lanes run.out run.journal c.requires.kept c.send_all.new.lanes c.send_all.new.out c.reserve.new.self c.reserve.ensures.same c.send_all.ensures.sizes c.send_all.ensures.way c.send_all.ensures.out c.send_all.ensures.same

pub returns-in-Err-clause-kept : goal.returns-in-Err-clause-kept
returns-in-Err-clause-kept c =
    let run = c.args.self.now in
    let lanes = c.send_all.new.lanes in
    let out = c.send_all.new.out in
    let journal = c.reserve.new.self in
    let kept = kept-moved run.cfg run.nodes.items run.lanes run.out run.journal c.requires.kept lanes out journal c.reserve.ensures.same c.send_all.ensures.sizes c.send_all.ensures.way c.send_all.ensures.out c.send_all.ensures.same in
    subst (λ (nodes : List EagerView). IsRunKept run.cfg nodes lanes (record { sends = c.do_event.new.out; moved = out.moved; node = out.node; given = out.given }) journal) (sym c.in-Err.ensures.same.0)
    (subst (λ (sends : SendList). IsRunKept run.cfg run.nodes.items lanes (record { sends = sends; moved = out.moved; node = out.node; given = out.given }) journal) (sym c.in-Err.ensures.same.1) kept)

pub returns-in-Err-clause-cause : goal.returns-in-Err-clause-cause
returns-in-Err-clause-cause c =
    let run = c.args.self.now in
    subst (λ w. IsRefusedIn run.cfg run.nodes.items w c.args.event c.in-Err.cause) c.in-Ok-send_all.ensures.ok.0 c.in-Err.ensures.err

pub returns-clause-kept : goal.returns-clause-kept
returns-clause-kept c =
    let run = c.args.self.now in
    let journal = c.reserve.new.self in
    let kept = kept-reserved run.cfg run.nodes.items run.lanes run.out run.journal c.requires.kept journal c.reserve.ensures.same in
    let settled = c.in-Ok-send_all.ensures.ok in
    kept-next run.cfg run.nodes.items run.lanes run.out journal kept c.send_all.new.lanes c.take_off.new.lanes c.do_event.new.nodes.items c.args.event c.do_event.new.out c.in-Ok-do_event.act
    (record { sends = c.do_event.new.out; moved = c.send_all.new.out.moved; node = c.in-Ok-do_event.act.node; given = c.in-Ok-do_event.act.given }) c.note.new.self c.send_all.ensures.sizes settled.0 c.in-Ok-do_event.ensures.ok
    (c.do_event.ensures.room ∙ c.send_all.ensures.out.room ∙ ap (λ s. s.nodes + 1) c.requires.kept.same_sizes) c.take_off.ensures.sizes c.take_off.ensures.lanes refl settled.2 refl refl c.note.ensures.events c.note.ensures.served
    (c.note.ensures.counts ∙ ap (λ ns. marked_up journal.counts (marks_of c.args.event c.in-Ok-do_event.act.takes c.in-Ok-do_event.act.done ns c.in-Ok-do_event.act.marked)) c.naks_of-naks.ensures)
