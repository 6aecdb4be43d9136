-- How many messages of each kind a line has in a lane: at most one, told from what is under way for the nodes at its ends. A request
-- or an answer is of the operation that a node has begun, and what a home has set going is there only while the line is pending.
use Rattle.std.proofs.Common.{◌≡◌, ◌≢◌, ℕ, ◌≤◌, Bool, true, false, cond, ◌==◌, List, [], ◌++◌, refl, arith, subst, Option}
use Rattle.std.proofs.lemmas.Bool.Decides.{nat_tests}
use Rattle.std.specs.List.{sum_by}
use Rattle.op_model.specs.Events.Step.{is_departure}
use Rattle.op_model.specs.Lines.{Copy, Header, is_pending, is_outstanding}
use Rattle.op_model.specs.Messages.{Content, FAck, FwdGet, FwdGetX, Get, GetX, Inv, InvAck, Nak, Nakc, Put, PutX, ShWb}
use Rattle.op_model.specs.Operations.{Words}
use Rattle.op_model.specs.declared.events.Class.TheVariants.{Reply, Request}
use Rattle.op_model.specs.declared.state.Want.{Want}
use Rattle.line_invariant.specs.Good.{Asked, Called, Carrier, Clean, Duty, HandedOn, HomeOwns, IsCarried, IsGood, IsGoodHeader, IsOnDuty, Leaving, NoDuty, Owned, Phase, SharedOut, answer_part, asking_part, leaving_part, reply_part, role_in, told_part}
use Rattle.line_invariant.specs.Line.{Line}
use Rattle.lane_bounds.proofs.Homes.{one_if}

-- the kinds of message: a request of a node, a request of a home, an answer, and a reply to a home
abbrev pub is_ask : Content → Bool
is_ask Get = true
is_ask GetX = true
is_ask _ = false

abbrev pub is_told : Content → Bool
is_told (FwdGet requester) = true
is_told (FwdGetX requester) = true
is_told Inv = true
is_told _ = false

abbrev pub is_answer : Content → Bool
is_answer (Put words) = true
is_answer (PutX words) = true
is_answer (Nak cause) = true
is_answer _ = false

abbrev pub is_back : Content → Bool
is_back InvAck = true
is_back (ShWb words) = true
is_back FAck = true
is_back Nakc = true
is_back _ = false

abbrev pub many : (Content → Bool) → List Content → ℕ
many test contents = sum_by (λ m. one_if (test m)) contents

pub asks-few : (leaving : Leaving) (want : Option Want) (copy : Copy) (carries : Carrier) → IsCarried want copy carries → many is_ask (leaving_part leaving ++ asking_part carries) ≤ one_if (is_outstanding want)
asks-few leaving want copy carries is = grind arith

pub no-told : (leaving : Leaving) (carries : Carrier) → (many is_told (leaving_part leaving ++ asking_part carries) ≡ 0) × (many is_answer (leaving_part leaving ++ asking_part carries) ≡ 0) × (many is_back (leaving_part leaving ++ asking_part carries) ≡ 0)
no-told leaving carries = (grind arith, grind arith, grind arith)

pub told-few : (duty : Duty) (pending : Bool) → (pending ≡ false → duty ≡ NoDuty) → (many is_told (told_part duty) ≤ one_if pending) × (many is_ask (told_part duty) ≡ 0) × (many is_answer (told_part duty) ≡ 0) × (many is_back (told_part duty) ≡ 0)
told-few duty pending h = (grind arith, grind arith, grind arith, grind arith)

duty-pending : (home : ℕ) (words : Words) (phase : Phase) (p : ℕ) (lists : Bool) (duty : Duty) (header : Header) (copy : Copy) → IsGoodHeader home phase words header copy → IsOnDuty (role_in home words phase p) lists duty → is_pending header ≡ false → duty ≡ NoDuty
duty-pending home words Clean p lists duty header copy is on idle = grind arith
duty-pending home words HomeOwns p lists duty header copy is on idle = grind arith
duty-pending home words (Owned o) p lists duty header copy is on idle = grind arith
duty-pending home words (Called g) p lists duty header copy is on idle = absurd (grind arith)
duty-pending home words (Asked true r o f h) p lists duty header copy is on idle = absurd (grind arith)
duty-pending home words (Asked false r o f h) p lists duty header copy is on idle = absurd (grind arith)
duty-pending home words (SharedOut r o) p lists duty header copy is on idle = absurd (grind arith)
duty-pending home words (HandedOn r o h) p lists duty header copy is on idle = absurd (grind arith)

pub replies-few : (src : ℕ) (want : Option Want) (copy : Copy) (carries : Carrier) (duty : Duty) (pending : Bool) → IsCarried want copy carries → (pending ≡ false → duty ≡ NoDuty) →
    (many is_answer (answer_part src carries ++ reply_part duty) ≤ one_if (is_outstanding want)) × (many is_back (answer_part src carries ++ reply_part duty) ≤ one_if pending)
    × (many is_ask (answer_part src carries ++ reply_part duty) ≡ 0) × (many is_told (answer_part src carries ++ reply_part duty) ≡ 0) × (many is_departure (answer_part src carries ++ reply_part duty) ≡ 0)
replies-few src want copy carries duty pending is h = (grind (arith, nat_tests), grind (arith, nat_tests), grind (arith, nat_tests), grind (arith, nat_tests), grind (arith, nat_tests))

module _ (home : ℕ) (line : Line) (good : IsGood home line) where
  pub carried-of : (n : ℕ) → IsCarried (line.want n) (line.copy n) (good.status n).carrier
  carried-of n = go (n == home) refl
    where
      go : (c : Bool) → (n == home) ≡ c → IsCarried (line.want n) (line.copy n) (good.status n).carrier
      go true e = let same : home ≡ n = grind (arith, nat_tests) in subst (λ k. IsCarried (line.want k) (line.copy k) (good.status k).carrier) same good.at_home.carried
      go false e = let far : n ≢ home = grind (arith, nat_tests) in (good.nodes n far).carried

  -- what a home has set going is under way only while the line is pending
  pub duty-of : (n : ℕ) → is_pending line.header ≡ false → (good.status n).duty ≡ NoDuty
  duty-of n idle = go (n == home) refl
    where
      go : (c : Bool) → (n == home) ≡ c → (good.status n).duty ≡ NoDuty
      go true e = let same : home ≡ n = grind (arith, nat_tests) in subst (λ k. (good.status k).duty ≡ NoDuty) same good.at_home.off_duty
      go false e = let far : n ≢ home = grind (arith, nat_tests) in duty-pending home line.words good.phase n _ _ line.header (line.copy home) good.header (good.nodes n far).duty idle

  pub request-kinds : (a b : ℕ) →
      (many is_ask (line.lane a b Request) ≤ one_if (is_outstanding (line.want a))) × (many is_told (line.lane a b Request) ≤ cond (a == home) (one_if (is_pending line.header)) 0)
      × (many is_answer (line.lane a b Request) ≡ 0) × (many is_back (line.lane a b Request) ≡ 0)
  request-kinds a b = rw (good.lanes a b Request) (go (b == home) (a == home))
    where
      Few : List Content → Bool → Type 0
      Few contents c = (many is_ask contents ≤ one_if (is_outstanding (line.want a))) × (many is_told contents ≤ cond c (one_if (is_pending line.header)) 0) × (many is_answer contents ≡ 0) × (many is_back contents ≡ 0)

      go : (c d : Bool) → Few (cond c (leaving_part (good.status a).leaving ++ asking_part (good.status a).carrier) (cond d (told_part (good.status b).duty) [])) d
      go true d = let few = asks-few (good.status a).leaving (line.want a) (line.copy a) (good.status a).carrier (carried-of a) in let none = no-told (good.status a).leaving (good.status a).carrier in (few, omega (arith, none.0), none.1, none.2)
      go false true = let few = told-few (good.status b).duty (is_pending line.header) (duty-of b) in (omega (arith, few.1), few.0, few.2, few.3)
      go false false = (omega arith, omega arith, refl, refl)

  pub reply-kinds : (a b : ℕ) →
      (many is_answer (line.lane a b Reply) ≤ one_if (is_outstanding (line.want b))) × (many is_back (line.lane a b Reply) ≤ cond (b == home) (one_if (is_pending line.header)) 0)
      × (many is_ask (line.lane a b Reply) ≡ 0) × (many is_told (line.lane a b Reply) ≡ 0) × (many is_departure (line.lane a b Reply) ≡ 0)
  reply-kinds a b = rw (good.lanes a b Reply) (go (b == home))
    where
      Few : List Content → Bool → Type 0
      Few contents c = (many is_answer contents ≤ one_if (is_outstanding (line.want b))) × (many is_back contents ≤ cond c (one_if (is_pending line.header)) 0) × (many is_ask contents ≡ 0) × (many is_told contents ≡ 0) × (many is_departure contents ≡ 0)

      go : (c : Bool) → Few (answer_part a (good.status b).carrier ++ cond c (reply_part (good.status a).duty) []) c
      go true = replies-few a (line.want b) (line.copy b) (good.status b).carrier (good.status a).duty (is_pending line.header) (carried-of b) (duty-of a)
      go false = replies-few a (line.want b) (line.copy b) (good.status b).carrier NoDuty false (carried-of b) (λ e. refl)
