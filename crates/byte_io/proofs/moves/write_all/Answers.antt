use Rattle.std.proofs.Common.{rules}
use Rattle.byte_io.proofs.Joined.{sent_more}
use Rattle.byte_io.proofs.moves.write_all.Goals as goal

pub loop-sent-preserved : goal.loop-sent-preserved
loop-sent-preserved g c = record {
  went = sent_more _ _ _ c.args.bytes.now c.loop-sent.sent c.in_ok-sent.field-0 c.loop-sent.invariant.went c.in_ok-sent.ensures.appends;
  quiet = search rules;
  few = search rules;
}
