-- The event goes on by node 1's part, and its message is the request.
use Rattle.std.proofs.Common.{[], ◌∷◌, ◌++◌, sym, ap, ◌∙◌}
use Rattle.op_model.specs.declared.events.Class.TheVariants.{Request}
use Rattle.op_model.specs.declared.events.Event.TheVariants.{Issue}
use Rattle.op_model.specs.declared.messages.Msg.TheVariants as msg
use Rattle.op_model.specs.Shares.{Linked}
use Rattle.op_model.specs.Parts.Part.{Part}
use Rattle.op_model.specs.Parts.OwnStep.{own_step}
use Rattle.out_space.specs.Boxes.{BoxState, waiting, with_waiting}
use Rattle.lane_table.proofs.Public.{asking, asking_waits, drew, goes, has_asked, issue_is}
use Rattle.seat_rows.proofs.seats.ask.Goals as goal

pub ticket-requires-clause-goes : goal.ticket-requires-clause-goes
ticket-requires-clause-goes g c = goes (own_step Linked c.args.one.now.part (Issue 1)) asking (issue_is c.args.one.now.part c.requires.part)

pub flush-requires-clause-holds : goal.flush-requires-clause-holds
flush-requires-clause-holds g c =
    let p : Part = c.args.one.now.part in
    let new = drew (own_step Linked p (Issue 1)) asking c.ticket.new.self.part (record { ticket = c.ticket.result; event = Issue 1 }) (issue_is p c.requires.part) c.ticket.ensures.part in
    ap (λ (box : BoxState). waiting box 0 Request) (c.put_out.ensures ∙ ap (λ (box : BoxState). with_waiting box 0 Request (waiting box 0 Request ++ msg.Get 0 ∷ [])) c.requires.out)
    ∙ sym (asking_waits c.ticket.new.self.part (record { ticket = c.ticket.result; event = Issue 1 }) new)

pub returns-clause-asked : goal.returns-clause-asked
returns-clause-asked g c =
    let p : Part = c.args.one.now.part in
    let new = drew (own_step Linked p (Issue 1)) asking c.ticket.new.self.part (record { ticket = c.ticket.result; event = Issue 1 }) (issue_is p c.requires.part) c.ticket.ensures.part in
    has_asked c.ticket.new.self.part c.flush.new.self.part (record { ticket = c.ticket.result; event = Issue 1 }) new (c.flush.ensures.moved c.one_moved.ensures).0
