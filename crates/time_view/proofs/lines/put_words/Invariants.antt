use Rattle.std.proofs.Common.{◌≡◌, ◌++◌, take}
use Rattle.time_view.specs.States.{numbers_word}
use Rattle.time_view.proofs.lines.put_words.Given as goal

abbrev pub invariant-loop-i : goal.invariant-loop-i
invariant-loop-i l = l.out.items ≡ l.fn.out.items ++ numbers_word (take l.i l.body)
