-- The message that was looked at is the request, and node 0 takes it by its part.
use Rattle.std.proofs.Common.{◌≡◌, None}
use Rattle.op_model.specs.declared.events.Class.TheVariants.{Request}
use Rattle.op_model.specs.declared.events.Event.TheVariants.{Take}
use Rattle.op_model.specs.declared.events.Numbered.{Numbered}
use Rattle.op_model.specs.Shares.{Linked}
use Rattle.op_model.specs.Parts.OwnStep.{own_step}
use Rattle.lane_table.specs.Calls.{Finds}
use Rattle.lane_table.specs.Steps.{looked_in}
use Rattle.lane_table.proofs.Public.{answering, answering_clears, answers, at_none, at_some, cleared_again}
use Rattle.lane_table.proofs.Public.{drew, get_is, goes}
use Rattle.seat_rows.proofs.seats.take_request.Goals as goal

pub ticket-requires-clause-goes : goal.ticket-requires-clause-goes
ticket-requires-clause-goes g c =
    let found = at_some (Finds c.args.zero.now.part c.look.new.self.part 1 Request) c.look.result c.the_get.result c.the_get.ensures.found c.look.ensures.some in
    let is = get_is c.args.zero.now.part c.look.new.self.part c.the_get.result c.requires.part c.the_get.ensures.get found in
    goes (own_step Linked c.look.new.self.part (Take 1 0 Request None)) (answering is.0) is.1

pub clear-requires-clause-made : goal.clear-requires-clause-made
clear-requires-clause-made g c =
    let found = at_some (Finds c.args.zero.now.part c.look.new.self.part 1 Request) c.look.result c.the_get.result c.the_get.ensures.found c.look.ensures.some in
    let is = get_is c.args.zero.now.part c.look.new.self.part c.the_get.result c.requires.part c.the_get.ensures.get found in
    let entry : Numbered = record { ticket = c.ticket.result; event = Take 1 0 Request None } in
    answering_clears is.0 c.ticket.new.self.part entry (drew (own_step Linked c.look.new.self.part (Take 1 0 Request None)) (answering is.0) c.ticket.new.self.part entry is.1 c.ticket.ensures.part)

pub look-requires-2-clause-cleared : goal.look-requires-2-clause-cleared
look-requires-2-clause-cleared g c =
    let found = at_some (Finds c.args.zero.now.part c.look.new.self.part 1 Request) c.look.result c.the_get.result c.the_get.ensures.found c.look.ensures.some in
    let is = get_is c.args.zero.now.part c.look.new.self.part c.the_get.result c.requires.part c.the_get.ensures.get found in
    let entry : Numbered = record { ticket = c.ticket.result; event = Take 1 0 Request None } in
    cleared_again is.0 c.ticket.new.self.part c.clear.new.self.part entry (drew (own_step Linked c.look.new.self.part (Take 1 0 Request None)) (answering is.0) c.ticket.new.self.part entry is.1 c.ticket.ensures.part) c.clear.ensures.part

pub returns-clause-answers : goal.returns-clause-answers
returns-clause-answers g c =
    let found = at_some (Finds c.args.zero.now.part c.look.new.self.part 1 Request) c.look.result c.the_get.result c.the_get.ensures.found c.look.ensures.some in
    let is = get_is c.args.zero.now.part c.look.new.self.part c.the_get.result c.requires.part c.the_get.ensures.get found in
    let entry : Numbered = record { ticket = c.ticket.result; event = Take 1 0 Request None } in
    answers is.0 c.ticket.new.self.part c.clear.new.self.part c.look-2.new.self.part entry
    (drew (own_step Linked c.look.new.self.part (Take 1 0 Request None)) (answering is.0) c.ticket.new.self.part entry is.1 c.ticket.ensures.part)
    c.clear.ensures.part
    (at_none (c.look-2.new.self.part ≡ looked_in c.clear.new.self.part 1 Request 0) c.look-2.result c.no_more.ensures c.look-2.ensures.none)
