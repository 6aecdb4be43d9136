-- The weight of the lanes after a message is taken, and after a row has sent, by any weight of a message.
-- The weight is a sum over pairs of nodes. A row adds to the pairs of its node what it sends there; a message that is taken has stood in
-- the lane of one pair.
use Rattle.std.proofs.Common.{◌≡◌, ℕ, ◌+◌, ◌<◌, ◌≤◌, Bool, true, false, cond, ◌==◌, ◌&&◌, List, ◌∷◌, refl, arith, ap, ◌∙◌}
use Rattle.std.proofs.lemmas.Bool.Decides.{nat_tests}
use Rattle.std.specs.List.{sum_by}
use Rattle.op_model.specs.declared.events.Class.{Class}
use Rattle.op_model.specs.declared.events.Class.TheVariants.{Reply, Request}
use Rattle.op_model.specs.declared.messages.Msg.{Msg}
use Rattle.op_model.specs.Messages.{Content, msg_content, same_class}
use Rattle.op_model.specs.Run.Weight.{total}
use Rattle.op_model.specs.Shares.{Lanes}
use Rattle.op_model.proofs.Public.{eqb-self, same_class-is, total-add, total-zero}
use Rattle.line_invariant.specs.Line.{addressed}
use Rattle.lane_bounds.proofs.Public.{sent_of, taken_of, weighed, weighed-cons, weighed-sent}
use Rattle.rest_laws.proofs.Sends.{sends_weight, sent_to}
use Rattle.rest_laws.proofs.Totals.{total-at, total-le, total-one, total-same}

-- the sum over all pairs
abbrev pairs : (ℕ → ℕ → ℕ) → ℕ → ℕ
pairs f n = total (λ a. total (f a) n) n

pairs-le : (f g : ℕ → ℕ → ℕ) (n : ℕ) → ((a b : ℕ) → f a b ≤ g a b) → pairs f n ≤ pairs g n
pairs-le f g n h = total-le (λ a. total (f a) n) (λ a. total (g a) n) n (λ a. total-le (f a) (g a) n (h a))

pairs-add : (f g : ℕ → ℕ → ℕ) (n : ℕ) → pairs (λ a b. f a b + g a b) n ≡ pairs f n + pairs g n
pairs-add f g n = total-same (λ a. total (λ b. f a b + g a b) n) (λ a. total (f a) n + total (g a) n) n (λ a. total-add (f a) (g a) n) ∙ total-add (λ a. total (f a) n) (λ a. total (g a) n) n

pairs-at : (f : ℕ → ℕ → ℕ) (n a b : ℕ) → a < n → b < n → f a b ≤ pairs f n
pairs-at f n a b x y = let p = total-at (λ k. total (f k) n) n a x in let q = total-at (f a) n b y in omega arith

-- the weight of all lanes between the nodes of the machine
abbrev pub weight_by : (Content → ℕ) → ℕ → Lanes → ℕ
weight_by w nodes lanes = pairs (λ a b. weighed w (lanes a b Request) + weighed w (lanes a b Reply)) nodes

module _ (w : Content → ℕ) (nodes : ℕ) (lane : Lanes) where
  abbrev cell : Lanes → ℕ → ℕ → ℕ
  cell lanes a b = weighed w (lanes a b Request) + weighed w (lanes a b Reply)

  -- a row adds what it sends
  pub weight-sent : (me line : ℕ) (sends : List (ℕ × Content)) → weight_by w nodes (sent_of me line sends lane) ≤ weight_by w nodes lane + sends_weight w nodes sends
  weight-sent me line sends =
      let a = pairs-le (cell (sent_of me line sends lane)) (λ a b. cell lane a b + cond (a == me) (sent_to w nodes sends b) 0) nodes each in
      let b = pairs-add (cell lane) (λ a b. cond (a == me) (sent_to w nodes sends b) 0) nodes in
      let c = total-le (λ a. total (λ b. cond (a == me) (sent_to w nodes sends b) 0) nodes) (λ a. cond (a == me) (sends_weight w nodes sends) 0) nodes (λ a. row (a == me)) in
      let d = total-one me (sends_weight w nodes sends) nodes in
      omega arith
    where
      row : (c : Bool) → total (λ b. cond c (sent_to w nodes sends b) 0) nodes ≤ cond c (sends_weight w nodes sends) 0
      row true = omega arith
      row false = let z = total-zero nodes in omega arith

      each : (a b : ℕ) → cell (sent_of me line sends lane) a b ≤ cell lane a b + cond (a == me) (sent_to w nodes sends b) 0
      each a b = go (a == me) (weighed-sent w me line sends lane a b Request) (weighed-sent w me line sends lane a b Reply)
        where
          go : (c : Bool) → weighed w (sent_of me line sends lane a b Request) ≡ weighed w (lane a b Request) + cond c (sum_by w (addressed b Request sends)) 0 →
              weighed w (sent_of me line sends lane a b Reply) ≡ weighed w (lane a b Reply) + cond c (sum_by w (addressed b Reply sends)) 0 →
              cell (sent_of me line sends lane) a b ≤ cell lane a b + cond c (sent_to w nodes sends b) 0
          go true e f = omega arith
          go false e f = omega arith

  module _ (src dst : ℕ) (class : Class) (m : Msg) (rest : List Msg) (front : lane src dst class ≡ m ∷ rest) where
    abbrev content : Content
    content = msg_content m

    -- a lane with the message that was taken is as it was
    lane-taken : (a b : ℕ) (k : Class) → weighed w (taken_of src dst class rest lane a b k) + cond ((a == src) && (b == dst) && same_class k class) (w content) 0 ≡ weighed w (lane a b k)
    lane-taken a b k = go (a == src) (b == dst) (same_class k class) refl refl refl
      where
        go : (c d e : Bool) → (a == src) ≡ c → (b == dst) ≡ d → same_class k class ≡ e → weighed w (cond (c && d && e) rest (lane a b k)) + cond (c && d && e) (w content) 0 ≡ weighed w (lane a b k)
        go true true true x y z =
            let is_src : a ≡ src = grind (arith, nat_tests) in
            let is_dst : b ≡ dst = grind (arith, nat_tests) in
            let is_class : k ≡ class = same_class-is k class z in
            let same : lane a b k ≡ m ∷ rest = cc in
            let whole : weighed w (lane a b k) ≡ weighed w (m ∷ rest) = ap (weighed w) same in
            let c = weighed-cons w m rest in
            omega arith
        go true true false x y z = omega arith
        go true false e x y z = omega arith
        go false d e x y z = omega arith

    -- the weight of the message, at its place
    at-place : (a b : ℕ) → ℕ
    at-place a b = cond ((a == src) && (b == dst)) (w content) 0

    pub weight-taken : src < nodes → dst < nodes → weight_by w nodes (taken_of src dst class rest lane) + w content ≤ weight_by w nodes lane
    unfolding at-place
    weight-taken src_in dst_in =
        let a = pairs-le (λ a b. cell (taken_of src dst class rest lane) a b + at-place a b) (cell lane) nodes (λ a b. each a b class (lane-taken a b Request) (lane-taken a b Reply)) in
        let b = pairs-add (cell (taken_of src dst class rest lane)) at-place nodes in
        let c = pairs-at at-place nodes src dst src_in dst_in in
        let d : w content ≤ pairs at-place nodes = rw (eqb-self src, eqb-self dst) at c in
        omega arith
      where
        each : (a b : ℕ) (k : Class) → weighed w (taken_of src dst class rest lane a b Request) + cond ((a == src) && (b == dst) && same_class Request k) (w content) 0 ≡ weighed w (lane a b Request) →
            weighed w (taken_of src dst class rest lane a b Reply) + cond ((a == src) && (b == dst) && same_class Reply k) (w content) 0 ≡ weighed w (lane a b Reply) →
            cell (taken_of src dst class rest lane) a b + cond ((a == src) && (b == dst)) (w content) 0 ≤ cell lane a b
        each a b k e f = go ((a == src) && (b == dst)) k e f
          where
            go : (c : Bool) (k : Class) → weighed w (taken_of src dst class rest lane a b Request) + cond (c && same_class Request k) (w content) 0 ≡ weighed w (lane a b Request) →
                weighed w (taken_of src dst class rest lane a b Reply) + cond (c && same_class Reply k) (w content) 0 ≡ weighed w (lane a b Reply) →
                cell (taken_of src dst class rest lane) a b + cond c (w content) 0 ≤ cell lane a b
            go true Request e f = omega arith
            go true Reply e f = omega arith
            go false k e f = omega arith
