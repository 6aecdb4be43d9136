-- The lanes after the rows of a node that isn't the home.
-- What is taken and what is sent is the change of that node's own status, lane by lane.
use Rattle.std.proofs.Common.{◌≡◌, ◌≢◌, ℕ, Bool, cond, List, [], arith}
use Rattle.std.proofs.lemmas.Bool.Decides.{nat_tests}
use Rattle.line_invariant.specs.Types.{Class, Request, Reply}
use Rattle.op_model.specs.Messages.{Content, Get, GetX, InvAck}
use Rattle.op_model.specs.Lines.{no_message, one_to}
use Rattle.op_model.specs.Events.Step.{put_at}
use Rattle.line_invariant.specs.Line.{Lanes, sent, taken, addressed}
use Rattle.line_invariant.specs.Good.{Status, Resting, Asking, AskingX, Answered, Leaving, NotLeaving, Told, Acked, expected, leaving_part}

module _ (home p : ℕ) (lane : Lanes) (status : ℕ → Status) (apart : p ≢ home) (lanes : (a b : ℕ) (class : Class) → lane a b class ≡ expected home status a b class) where
  -- an Inv is acknowledged
  pub lanes-inv : (rest : List Content) → rest ≡ [] → (status p).duty ≡ Told → (a b : ℕ) (class : Class) →
      sent p (one_to home InvAck) (taken home p Request rest lane) a b class ≡ expected home (put_at status p (record (status p) { duty = Acked })) a b class
  lanes-inv rest empty told a b Request = grind (arith, nat_tests, lanes a b Request)
  lanes-inv rest empty told a b Reply = grind (arith, nat_tests, lanes a b Reply)

  -- an answer is taken
  pub lanes-answer : (from : ℕ) (content : Content) (rest : List Content) → rest ≡ [] → (status p).carrier ≡ Answered from content → (a b : ℕ) (class : Class) →
      sent p no_message (taken from p Reply rest lane) a b class ≡ expected home (put_at status p (record (status p) { carrier = Resting })) a b class
  lanes-answer from content rest empty answered a b Request = grind (arith, nat_tests, lanes a b Request)
  lanes-answer from content rest empty answered a b Reply = grind (arith, nat_tests, lanes a b Reply)

  -- an operation is begun
  pub lanes-ask : (load : Bool) → (status p).carrier ≡ Resting → (a b : ℕ) (class : Class) →
      sent p (one_to home (cond load Get GetX)) lane a b class ≡ expected home (put_at status p (record (status p) { carrier = cond load Asking AskingX })) a b class
  lanes-ask load rests a b Request = grind (arith, nat_tests, lanes a b Request)
  lanes-ask load rests a b Reply = grind (arith, nat_tests, lanes a b Reply)

  -- a copy leaves
  pub lanes-leave : (leaving : Leaving) → (status p).carrier ≡ Resting → (status p).leaving ≡ NotLeaving → (sends : List (ℕ × Content)) →
      addressed home Request sends ≡ leaving_part leaving → ((b : ℕ) → addressed b Reply sends ≡ []) → ((b : ℕ) → b ≢ home → addressed b Request sends ≡ []) → (a b : ℕ) (class : Class) →
      sent p sends lane a b class ≡ expected home (put_at status p (record (status p) { leaving = leaving })) a b class
  lanes-leave leaving rests stays sends here reply others a b Request = grind (arith, nat_tests, lanes a b Request, others b)
  lanes-leave leaving rests stays sends here reply others a b Reply = grind (arith, nat_tests, lanes a b Reply, reply b)
