use Rattle.std.proofs.Common.{◌≡◌, ◌++◌}
use Rattle.std.specs.Prelude.{All, map}
use Rattle.step_journal.specs.Logs.{entries_of}
use Rattle.node_box.specs.Boxes.{BoxView}
use Rattle.thread_run.specs.Closed.{IsDone, IsClosed, box_node, box_entries, box_seat}
use Rattle.thread_run.proofs.ending.taken_apart.Given as goal

abbrev pub invariant-loop-one : goal.invariant-loop-one
invariant-loop-one g l = record {
  split : l.fn.boxes.items ≡ l.yielded ++ l.one-iterator.rest.items;
  nodes : l.nodes.items ≡ map box_node l.yielded;
  logs : entries_of l.logs.items ≡ map box_entries l.yielded;
  seats : l.seats.items ≡ map box_seat l.yielded;
  closed : All (IsClosed g.K.Named.table) l.yielded;
  left : All (λ (b : BoxView). IsDone b.node) l.one-iterator.rest.items;
}
