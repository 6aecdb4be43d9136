use Rattle.std.proofs.Common.{◌≡◌, length, take}
use Rattle.op_model.specs.Parts.Part.{in_note}
use Rattle.lane_table.specs.Steps.{read_in}
use Rattle.lane_table.specs.Views.{first_of, HasOne}
use Rattle.lane_table.specs.Told.{Fronts}
use Rattle.lane_table.specs.Calls.{NotesIn}
use Rattle.lane_table.proofs.bodies.read_body.Given as goal

abbrev pub ghosts-load_of : goal.ghosts-load_of
ghosts-load_of a = record { after = λ p n. read_in p a._peer a._class n; tells = λ p n. Unit {0} × Fronts a.t.now.setup (read_in p a._peer a._class n) a._peer a._class }

abbrev pub invariant-loop-i : goal.invariant-loop-i
invariant-loop-i l = record {
  table : l.seat.table_id ≡ l.t.id;
  one : HasOne l.seat.me;
  length : length l.body ≡ l.words;
  note : NotesIn (first_of l.fn.seat.me) (first_of l.seat.me) l.src l.class (record (in_note (first_of l.fn.seat.me) l.src l.class) { body = take l.i l.body });
  front : Fronts l.t.setup (first_of l.seat.me) l.src l.class;
}
