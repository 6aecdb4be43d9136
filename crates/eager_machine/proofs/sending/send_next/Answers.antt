-- The message is the first of those that are left.
use Rattle.std.proofs.Common.{ap}
use Rattle.message_range.specs.Fitting.{IsSentOf}
use Rattle.machine.proofs.Public.{All-at}
use Rattle.eager_machine.specs.Lanes.{lane_in, sent_from}
use Rattle.eager_machine.specs.Outboxes.{left_in}
use Rattle.eager_machine.proofs.Ways.{moved-one}
use Rattle.eager_machine.proofs.sending.send_next.Goals as goal

pub push-requires-clause-to : goal.push-requires-clause-to
push-requires-clause-to c = (All-at (IsSentOf c.args.lanes.now.sizes) c.args.out.now.sends.list c.args.out.now.moved c.at-dst.result c.requires.out.sent c.at-dst.ensures).to

pub returns-in_err-push-clause-way : goal.returns-in_err-push-clause-way
returns-in_err-push-clause-way c = ap (sent_from c.args.out.now.node c.args.out.now.given (left_in c.args.out.now)) c.in_err-push.ensures.err

pub returns-clause-way : goal.returns-clause-way
returns-clause-way c =
    moved-one c.args.out.now.node c.args.out.now.given c.args.out.now.sends.list c.args.out.now.moved c.at-dst.result c.age_sent-age.result (lane_in c.args.lanes.now) (lane_in c.push.new.self) c.at-dst.ensures c.age_sent-age.ensures c.in_ok-push.ensures.ok
