-- The message that was looked at brings words, so that node 1 takes it whatever its share is.
use Rattle.std.proofs.Common.{◌+◌, sym, ap, ◌∙◌, None}
use Rattle.op_model.specs.declared.events.Class.TheVariants.{Reply}
use Rattle.op_model.specs.declared.events.Event.TheVariants.{Take}
use Rattle.op_model.specs.declared.events.Numbered.{Numbered}
use Rattle.op_model.specs.Shares.{Linked}
use Rattle.op_model.specs.Parts.Part.{Part, taken_from, cleared_from}
use Rattle.op_model.specs.Parts.OwnStep.{own_step}
use Rattle.lane_table.specs.Calls.{Finds}
use Rattle.lane_table.proofs.Public.{at_some, drew, goes, put_is}
use Rattle.seat_rows.proofs.seats.load.Goals as goal

pub ticket-requires-clause-goes : goal.ticket-requires-clause-goes
ticket-requires-clause-goes g c =
    let found = at_some (Finds c.args.one.now.part c.look.new.self.part 0 Reply) c.look.result c.the_put.result c.the_put.ensures.found c.look.ensures.some in
    let is = put_is c.args.one.now.part c.look.new.self.part c.the_put.result c.requires.asked c.the_put.ensures.put found in
    goes (own_step Linked c.look.new.self.part (Take 0 1 Reply None)) is.after is.is

pub clear-requires-clause-made : goal.clear-requires-clause-made
clear-requires-clause-made g c =
    let found = at_some (Finds c.args.one.now.part c.look.new.self.part 0 Reply) c.look.result c.the_put.result c.the_put.ensures.found c.look.ensures.some in
    let is = put_is c.args.one.now.part c.look.new.self.part c.the_put.result c.requires.asked c.the_put.ensures.put found in
    let entry : Numbered = record { ticket = c.ticket.result; event = Take 0 1 Reply None } in
    let new = drew (own_step Linked c.look.new.self.part (Take 0 1 Reply None)) is.after c.ticket.new.self.part entry is.is c.ticket.ensures.part in
    ap (λ (x : Part). taken_from x 0 Reply) new ∙ (is.more ∙ sym (ap (λ (x : Part). cleared_from x 0 Reply + 1) new))
