use Rattle.std.proofs.Common.{◌≡◌, ◌++◌, take}
use Rattle.std.specs.List.{flat_map}
use Rattle.text_lines.specs.Printing.{line_text}
use Rattle.time_view.specs.Messages.{message_words}
use Rattle.time_view.proofs.lanes.put_lane.Given as goal

abbrev pub invariant-loop-i : goal.invariant-loop-i
invariant-loop-i g l =
    let m = g.M.Reported.meaning l.m in
    l.out.items ≡ l.fn.out.items ++ flat_map (λ y. line_text (message_words (record { src = l.src; dst = l.dst; class = l.class }) y)) (take l.i (m.past.state.lane l.src l.dst l.class))
