-- The lanes after the rows of the home.
-- A row sends at most one message to a node, or an Inv to each listed one, who stands once in the list.
use Rattle.std.proofs.Common.{◌≡◌, ◌≢◌, ℕ, zero, suc, Bool, true, false, cond, ◌==◌, List, [], ◌∷◌, refl, arith, ap, ◌∙◌}
use Rattle.std.proofs.lemmas.Bool.Decides.{nat_tests}
use Rattle.line_invariant.specs.Types.{Class, Request, Reply}
use Rattle.op_model.specs.Nodes.{Nodes, listed, in_order, times, in_order-once}
use Rattle.op_model.specs.Operations.{Words}
use Rattle.op_model.specs.Messages.{Content, FwdGet, FwdGetX, Inv, PutX, class_of}
use Rattle.op_model.specs.Lines.{no_message, one_to, to_each, to_listed}
use Rattle.op_model.specs.Events.Step.{put_at}
use Rattle.line_invariant.specs.Line.{Lanes, sent, taken, addressed}
use Rattle.line_invariant.specs.Good.{Status, Resting, Asking, AskingX, Granted, Forwarded, Answered, NotLeaving, NoDuty, Told, Acked, ToGive, expected, answer_part}

abbrev invs : ℕ → List Content
invs zero = []
invs (suc n) = Inv ∷ invs n

addressed-each : (b : ℕ) (xs : List ℕ) → addressed b Request (to_each xs) ≡ invs (times b xs)
addressed-each b [] = refl
addressed-each b (x ∷ xs) = let e = addressed-each b xs in grind (arith, nat_tests)

pub no-replies : (b : ℕ) (xs : List ℕ) → addressed b Reply (to_each xs) ≡ []
no-replies b [] = refl
no-replies b (x ∷ xs) = let e = no-replies b xs in grind (arith, nat_tests)

pub addressed-listed : (b : ℕ) (list : Nodes) → addressed b Request (to_listed list) ≡ cond (listed list b) (Inv ∷ []) []
addressed-listed b list = addressed-each b _ ∙ ap invs (in_order-once list b) ∙ go (listed list b)
  where
    go : (c : Bool) → invs (cond c 1 0) ≡ cond c (Inv ∷ []) []
    go true = refl
    go false = refl

-- what is under way after all listed nodes are told
abbrev pub all_told : Nodes → (ℕ → Status) → ℕ → Status
all_told list status node = record (status node) { duty = cond (listed list node) Told (status node).duty }

-- what is under way after a request is forwarded to the owner
abbrev pub forwarded : ℕ → ℕ → Bool → (ℕ → Status) → ℕ → Status
forwarded p o write status node = record { carrier = cond (node == p) (Forwarded write) (status node).carrier; leaving = (status node).leaving; duty = cond (node == o) (ToGive write p) (status node).duty }

-- what is under way after the last acknowledgement: the home's own operation is done
abbrev pub all_in : ℕ → ℕ → (ℕ → Status) → ℕ → Status
all_in home p status node = record { carrier = cond (node == home) Resting (status node).carrier; leaving = (status node).leaving; duty = cond (node == p) NoDuty (status node).duty }

-- or a node gets the line
abbrev pub handed_to : ℕ → ℕ → ℕ → Words → (ℕ → Status) → ℕ → Status
handed_to home p n words status node = record { carrier = cond (node == n) (Answered home (PutX words)) (status node).carrier; leaving = (status node).leaving; duty = cond (node == p) NoDuty (status node).duty }

module _ (home : ℕ) (lane : Lanes) (status : ℕ → Status) (lanes : (a b : ℕ) (class : Class) → lane a b class ≡ expected home status a b class) where
  -- all listed nodes are told
  pub lanes-call : (list : Nodes) → listed list home ≡ false → ((node : ℕ) → node ≢ home → (status node).duty ≡ NoDuty) → (status home).duty ≡ NoDuty → (a b : ℕ) (class : Class) →
      sent home (to_listed list) lane a b class ≡ expected home (all_told list status) a b class
  lanes-call list unlisted off here a b Request =
      let e = addressed-listed b list in
      let o = off b in
      grind (arith, nat_tests, lanes a b Request)
  lanes-call list unlisted off here a b Reply =
      let e = no-replies b (in_order list) in
      let o = off a in
      grind (arith, nat_tests, lanes a b Reply)

module _ (home p : ℕ) (lane : Lanes) (status : ℕ → Status) (apart : p ≢ home) (lanes : (a b : ℕ) (class : Class) → lane a b class ≡ expected home status a b class) where
  -- a Get or a GetX is answered
  pub lanes-reply : (load : Bool) (rest : List Content) (content : Content) → class_of content ≡ Reply → rest ≡ [] → (status p).carrier ≡ cond load Asking AskingX → (status p).leaving ≡ NotLeaving →
      (a b : ℕ) (class : Class) → sent home (one_to p content) (taken p home Request rest lane) a b class ≡ expected home (put_at status p (record (status p) { carrier = Answered home content })) a b class
  lanes-reply load rest content reply empty asking stays a b Request = grind (arith, nat_tests, lanes a b Request)
  lanes-reply load rest content reply empty asking stays a b Reply = grind (arith, nat_tests, lanes a b Reply)

  -- an acknowledgement is taken
  pub lanes-ack : (rest : List Content) → rest ≡ [] → (status p).duty ≡ Acked → answer_part p (status home).carrier ≡ [] →
      (a b : ℕ) (class : Class) → sent home no_message (taken p home Reply rest lane) a b class ≡ expected home (put_at status p (record (status p) { duty = NoDuty })) a b class
  lanes-ack rest empty acked quiet a b Request = grind (arith, nat_tests, lanes a b Request)
  lanes-ack rest empty acked quiet a b Reply = grind (arith, nat_tests, lanes a b Reply)

  -- a Get or a GetX is forwarded
  pub lanes-forward : (write : Bool) (o : ℕ) (rest : List Content) → rest ≡ [] → p ≢ o → o ≢ home → (status p).carrier ≡ cond write AskingX Asking → (status p).leaving ≡ NotLeaving → (status o).duty ≡ NoDuty →
      (a b : ℕ) (class : Class) → sent home (one_to o (cond write (FwdGetX p) (FwdGet p))) (taken p home Request rest lane) a b class ≡ expected home (forwarded p o write status) a b class
  lanes-forward true o rest empty other far asking stays off a b Request = grind (arith, nat_tests, lanes a b Request)
  lanes-forward true o rest empty other far asking stays off a b Reply = grind (arith, nat_tests, lanes a b Reply)
  lanes-forward false o rest empty other far asking stays off a b Request = grind (arith, nat_tests, lanes a b Request)
  lanes-forward false o rest empty other far asking stays off a b Reply = grind (arith, nat_tests, lanes a b Reply)

  pub lanes-all-in : (rest : List Content) → rest ≡ [] → (status p).duty ≡ Acked → (status home).carrier ≡ Granted →
      (a b : ℕ) (class : Class) → sent home no_message (taken p home Reply rest lane) a b class ≡ expected home (all_in home p status) a b class
  lanes-all-in rest empty acked granted a b Request = grind (arith, nat_tests, lanes a b Request)
  lanes-all-in rest empty acked granted a b Reply = grind (arith, nat_tests, lanes a b Reply)

  pub lanes-handed : (n : ℕ) (words : Words) (rest : List Content) → n ≢ home → rest ≡ [] → (status p).duty ≡ Acked → answer_part p (status home).carrier ≡ [] → (status n).carrier ≡ Granted →
      (a b : ℕ) (class : Class) → sent home (one_to n (PutX words)) (taken p home Reply rest lane) a b class ≡ expected home (handed_to home p n words status) a b class
  lanes-handed n words rest far empty acked quiet granted a b Request = grind (arith, nat_tests, lanes a b Request)
  lanes-handed n words rest far empty acked quiet granted a b Reply = grind (arith, nat_tests, lanes a b Reply)

-- what is under way after all listed nodes are told for the home's own write
abbrev pub all_told_home : ℕ → Nodes → (ℕ → Status) → ℕ → Status
all_told_home home list status node = record { carrier = cond (node == home) Granted (status node).carrier; leaving = (status node).leaving; duty = cond (listed list node) Told (status node).duty }

module _ (home : ℕ) (lane : Lanes) (status : ℕ → Status) (lanes : (a b : ℕ) (class : Class) → lane a b class ≡ expected home status a b class) where
  pub lanes-call-home : (list : Nodes) → listed list home ≡ false → ((node : ℕ) → node ≢ home → (status node).duty ≡ NoDuty) → (status home).duty ≡ NoDuty → (status home).carrier ≡ Resting → (a b : ℕ) (class : Class) →
      sent home (to_listed list) lane a b class ≡ expected home (all_told_home home list status) a b class
  lanes-call-home list unlisted off here rests a b Request =
      let e = addressed-listed b list in
      let o = off b in
      grind (arith, nat_tests, lanes a b Request)
  lanes-call-home list unlisted off here rests a b Reply =
      let e = no-replies b (in_order list) in
      let o = off a in
      grind (arith, nat_tests, lanes a b Reply)

  -- nothing is sent
  pub lanes-quiet : (me : ℕ) (a b : ℕ) (class : Class) → sent me no_message lane a b class ≡ expected home status a b class
  lanes-quiet me a b Request = grind (arith, nat_tests, lanes a b Request)
  lanes-quiet me a b Reply = grind (arith, nat_tests, lanes a b Reply)

  pub lanes-same : (p : ℕ) (a b : ℕ) (class : Class) → sent p no_message lane a b class ≡ expected home (put_at status p (status p)) a b class
  lanes-same p a b Request = grind (arith, nat_tests, lanes a b Request)
  lanes-same p a b Reply = grind (arith, nat_tests, lanes a b Reply)

-- what is under way after the other listed nodes are told for a node's write
abbrev pub all_told_for : ℕ → Nodes → (ℕ → Status) → ℕ → Status
all_told_for p list status node = record { carrier = cond (node == p) Granted (status node).carrier; leaving = (status node).leaving; duty = cond (listed list node) Told (status node).duty }

-- or after the home's own operation is forwarded
abbrev pub forwarded_home : ℕ → ℕ → Bool → (ℕ → Status) → ℕ → Status
forwarded_home home o write status node = record { carrier = cond (node == home) (Forwarded write) (status node).carrier; leaving = (status node).leaving; duty = cond (node == o) (ToGive write home) (status node).duty }

module _ (home p : ℕ) (lane : Lanes) (status : ℕ → Status) (apart : p ≢ home) (lanes : (a b : ℕ) (class : Class) → lane a b class ≡ expected home status a b class) where
  pub lanes-call-for : (list : Nodes) → listed list home ≡ false → ((node : ℕ) → node ≢ home → (status node).duty ≡ NoDuty) → (status home).duty ≡ NoDuty → (rest : List Content) → rest ≡ [] → (status p).carrier ≡ AskingX → (status p).leaving ≡ NotLeaving → (a b : ℕ) (class : Class) →
      sent home (to_listed list) (taken p home Request rest lane) a b class ≡ expected home (all_told_for p list status) a b class
  lanes-call-for list unlisted off here rest empty asking stays a b Request =
      let e = addressed-listed b list in
      let o = off b in
      grind (arith, nat_tests, lanes a b Request)
  lanes-call-for list unlisted off here rest empty asking stays a b Reply =
      let e = no-replies b (in_order list) in
      let o = off a in
      grind (arith, nat_tests, lanes a b Reply)

module _ (home o : ℕ) (lane : Lanes) (status : ℕ → Status) (apart : o ≢ home) (lanes : (a b : ℕ) (class : Class) → lane a b class ≡ expected home status a b class) where
  pub lanes-forward-home : (write : Bool) → (status home).carrier ≡ Resting → (status o).duty ≡ NoDuty →
      (a b : ℕ) (class : Class) → sent home (one_to o (cond write (FwdGetX home) (FwdGet home))) lane a b class ≡ expected home (forwarded_home home o write status) a b class
  lanes-forward-home true rests off a b Request = grind (arith, nat_tests, lanes a b Request)
  lanes-forward-home true rests off a b Reply = grind (arith, nat_tests, lanes a b Reply)
  lanes-forward-home false rests off a b Request = grind (arith, nat_tests, lanes a b Request)
  lanes-forward-home false rests off a b Reply = grind (arith, nat_tests, lanes a b Reply)

-- the last acknowledgement is in, and the home waits for nothing
module _ (home p : ℕ) (lane : Lanes) (status : ℕ → Status) (apart : p ≢ home) (lanes : (a b : ℕ) (class : Class) → lane a b class ≡ expected home status a b class) where
  pub lanes-all-quiet : (rest : List Content) → rest ≡ [] → (status p).duty ≡ Acked → (status home).carrier ≡ Resting →
      (a b : ℕ) (class : Class) → sent home no_message (taken p home Reply rest lane) a b class ≡ expected home (all_in home p status) a b class
  lanes-all-quiet rest empty acked rests a b Request = grind (arith, nat_tests, lanes a b Request)
  lanes-all-quiet rest empty acked rests a b Reply = grind (arith, nat_tests, lanes a b Reply)
