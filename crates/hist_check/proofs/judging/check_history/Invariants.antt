use Rattle.std.proofs.Common.{◌≡◌, ◌<◌, ℕ, length, get_or, take}
use Rattle.std.specs.FinMap as fin
use Rattle.op_model.specs.Flat.{after_from}
use Rattle.op_model.specs.Run.History.{entries_by}
use Rattle.op_model.specs.Programs.{programs_of}
use Rattle.hist_check.specs.Good.{IsGood}
use Rattle.hist_check.proofs.judging.check_history.Given as goal

abbrev pub invariant-loop-i : goal.invariant-loop-i
invariant-loop-i l = record {
  good : IsGood (programs_of l.programs) (take l.i l.h);
  flat : l.flat ≡ after_from fin.empty (take l.i l.h);
  wide : length l.counts ≡ 64;
  counted : (n : ℕ) → n < 64 → get_or l.counts n 0 ≡ length (entries_by n (take l.i l.h));
}
