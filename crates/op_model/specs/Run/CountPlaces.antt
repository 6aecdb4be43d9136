-- The place of each count among all counts.
use Rattle.std.specs.Prelude.{ℕ}
use Rattle.op_model.specs.declared.counts.Count.{Count}
use Rattle.op_model.specs.declared.counts.Count.TheVariants.{Events, Hits, Issues, Local, EvictWb, EvictHint, EvictSilent, TakeGet, TakeGetX, TakeFwdGet, TakeFwdGetX, TakeInv, TakeWb, TakeRpl, TakePut, TakePutX, TakeNak, TakeInvAck, TakeShWb, TakeFAck, TakeNakc, NakPending, NakNoLink, NakBudget, NakGone, Reclaims, Marked}

abbrev pub place_of : Count → ℕ
place_of Events = 0
place_of Hits = 1
place_of Issues = 2
place_of Local = 3
place_of EvictWb = 4
place_of EvictHint = 5
place_of EvictSilent = 6
place_of TakeGet = 7
place_of TakeGetX = 8
place_of TakeFwdGet = 9
place_of TakeFwdGetX = 10
place_of TakeInv = 11
place_of TakeWb = 12
place_of TakeRpl = 13
place_of TakePut = 14
place_of TakePutX = 15
place_of TakeNak = 16
place_of TakeInvAck = 17
place_of TakeShWb = 18
place_of TakeFAck = 19
place_of TakeNakc = 20
place_of NakPending = 21
place_of NakNoLink = 22
place_of NakBudget = 23
place_of NakGone = 24
place_of Reclaims = 25
place_of Marked = 26
