-- The numbers of all counts of a run, from its moments, and what marks a moment for each count.
use Rattle.std.specs.Prelude.{◌≡◌, ℕ, Bool, List, map}
use Rattle.line_map.specs.Sizes.{Sizes}
use Rattle.op_model.specs.declared.messages.Msg.{Msg}
use Rattle.op_model.specs.Run.Counts.{Moment, all_counts, counted, taken_by, takes_marked}
use Rattle.event_tally.specs.Marks.{naks_in, take_marks_of, marks_of}

-- the numbers of all counts
abbrev pub tally_of : Sizes → List Moment → List ℕ
tally_of sizes moments = map (counted moments) (all_counts sizes)

-- What is known of a moment when its event is done, and marks it: by which counts of messages the one that it took is counted, whether its node's own operation was done, what it sent, and whether it took the Put of a marked load
pub record TellsMarks (sizes : Sizes) (moment : Moment) (takes : List Bool) (done : Bool) (sends : List (ℕ × Msg)) (marked : Bool) : Type 0 where
  pub takes_is : takes ≡ take_marks_of (taken_by moment.before moment.event)
  pub done_is : done ≡ moment.done.out.done
  pub sends_are : sends ≡ moment.done.out.sends
  pub marked_is : marked ≡ takes_marked sizes moment.before moment.event (taken_by moment.before moment.event)
