use Rattle.std.proofs.Common.{◌≡◌, ◌++◌, length}
use Rattle.lane_table.specs.Rule.{parts_from}
use Rattle.lane_table.specs.Views.{AreSeatsOf}
use Rattle.thread_run.proofs.start.boxes_at_start.Given as goal

abbrev pub invariant-loop-program : goal.invariant-loop-program
invariant-loop-program g l = record {
  split : l.fn.programs.items ≡ l.yielded ++ l.program-iterator.rest.items;
  count : length l.yielded ≡ l.number;
  made : length l.boxes.items ≡ l.number;
  parts : l.seats.parts ≡ parts_from l.t.setup.sizes l.number l.program-iterator.rest.items;
  seats : AreSeatsOf l.t l.seats;
}
