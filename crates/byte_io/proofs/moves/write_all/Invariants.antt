use Rattle.std.proofs.Common.{◌≡◌, ◌≤◌, ◌-◌, length, take}
use Rattle.std.specs.Io.KnownBytes.{Appends}
use Rattle.byte_io.proofs.moves.write_all.Given as goal

abbrev pub invariant-loop-sent : goal.invariant-loop-sent
invariant-loop-sent g l = record {
  went : Appends (g.K.Sink.written l.fn.sink) (g.K.Sink.written l.sink) (take l.sent l.bytes);
  quiet : g.K.Sink.faults l.sink ≡ g.K.Sink.faults l.fn.sink;
  few : l.sent ≤ length l.bytes;
}

abbrev pub decreases-loop-sent : goal.decreases-loop-sent
decreases-loop-sent g l = length l.bytes - l.sent
