-- The run computes event by event, and what is said of its end computes from there. That no order explains it is told of lists alone.
use Rattle.eager_run.proofs.TheRun.{ran}
use Rattle.eager_run.proofs.Histories.{served-by, first-history, second-history, first-owned, second-owned}
use Rattle.eager_run.proofs.Unordered.{no-one-order}
use Rattle.eager_run.proofs.a_run_without_one_order.Goals as goal

pub returns : goal.returns
returns c =
    record {
      ran = ran;
      served = served-by;
      first = first-history;
      second = second-history;
      first_owned = first-owned;
      second_owned = second-owned;
      unordered = no-one-order;
    }
