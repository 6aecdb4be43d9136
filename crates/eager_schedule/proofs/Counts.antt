-- How many messages of each kind a line has in a lane: at most one, told from what is under way for the nodes at its ends, whether it drains or not.
use Rattle.std.proofs.Common.{◌≡◌, ◌≢◌, ℕ, ◌≤◌, Bool, true, false, cond, ◌==◌, not, List, [], ◌++◌, inl, inr, refl, arith, ap, sym, ◌∙◌, subst}
use Rattle.std.proofs.lemmas.Bool.Decides.{nat_tests}
use Rattle.op_model.specs.declared.events.Class.TheVariants.{Reply, Request}
use Rattle.op_model.specs.Events.Step.{is_departure}
use Rattle.op_model.specs.Lines.{is_idle, is_pending, is_outstanding}
use Rattle.op_model.specs.Messages.{Content}
use Rattle.line_invariant.specs.Good.{IsCarried, NoDuty, answer_part, asking_part, leaving_part, reply_part, told_part}
use Rattle.line_invariant.specs.Line.{Line}
use Rattle.lane_bounds.proofs.Public.{asks-few, is_answer, is_ask, is_back, is_told, many, no-told, one_if}
use Rattle.lane_bounds.proofs.Public.{replies-few, reply-kinds, request-kinds, told-few}
use Rattle.eager_model.specs.Good.{IsDraining, IsEagerGood}
use Rattle.eager_model.specs.Line.{AgedLine}

module _ (home : ℕ) (line : AgedLine) where
  abbrev its : Line
  its = line.line

  -- a lane of requests: one request of the node that has begun an operation, and one message of the home while the line is pending
  abbrev pub FewRequests : (a b : ℕ) → Type 0
  FewRequests a b =
      (many is_ask (its.lane a b Request) ≤ one_if (is_outstanding (its.want a))) × (many is_told (its.lane a b Request) ≤ cond (a == home) (one_if (is_pending its.header)) 0)
      × (many is_answer (its.lane a b Request) ≡ 0) × (many is_back (its.lane a b Request) ≡ 0)

  -- a lane of replies: one answer, and one message that is due to the home
  abbrev pub FewReplies : (a b : ℕ) → Type 0
  FewReplies a b =
      (many is_answer (its.lane a b Reply) ≤ one_if (is_outstanding (its.want b))) × (many is_back (its.lane a b Reply) ≤ cond (b == home) (one_if (is_pending its.header)) 0)
      × (many is_ask (its.lane a b Reply) ≡ 0) × (many is_told (its.lane a b Reply) ≡ 0) × (many is_departure (its.lane a b Reply) ≡ 0)

  module _ (drains : IsDraining home line) where
    carried-of : (n : ℕ) → IsCarried (its.want n) (its.copy n) (drains.status n).carrier
    carried-of n = go (n == home) refl
      where
        go : (c : Bool) → (n == home) ≡ c → IsCarried (its.want n) (its.copy n) (drains.status n).carrier
        go true e = let same : home ≡ n = grind (arith, nat_tests) in subst (λ k. IsCarried (its.want k) (its.copy k) (drains.status k).carrier) same drains.at_home.carried
        go false e = let far : n ≢ home = grind (arith, nat_tests) in (drains.nodes n far).carried

    -- a line that drains is pending
    waits : (n : ℕ) → is_pending its.header ≡ false → (drains.status n).duty ≡ NoDuty
    waits n idle = absurd (let d : true ≡ false = sym (ap (λ w. not (is_idle w)) drains.header.waits) ∙ idle in cc)

    draining-requests : (a b : ℕ) → FewRequests a b
    draining-requests a b = rw (drains.lanes a b Request) (go (b == home) (a == home))
      where
        Few : List Content → Bool → Type 0
        Few contents c = (many is_ask contents ≤ one_if (is_outstanding (its.want a))) × (many is_told contents ≤ cond c (one_if (is_pending its.header)) 0) × (many is_answer contents ≡ 0) × (many is_back contents ≡ 0)

        go : (c d : Bool) → Few (cond c (leaving_part (drains.status a).leaving ++ asking_part (drains.status a).carrier) (cond d (told_part (drains.status b).duty) [])) d
        go true d = let few = asks-few (drains.status a).leaving (its.want a) (its.copy a) (drains.status a).carrier (carried-of a) in let none = no-told (drains.status a).leaving (drains.status a).carrier in (few, omega (arith, none.0), none.1, none.2)
        go false true = let few = told-few (drains.status b).duty (is_pending its.header) (waits b) in (omega (arith, few.1), few.0, few.2, few.3)
        go false false = (omega arith, omega arith, refl, refl)

    draining-replies : (a b : ℕ) → FewReplies a b
    draining-replies a b = rw (drains.lanes a b Reply) (go (b == home))
      where
        Few : List Content → Bool → Type 0
        Few contents c = (many is_answer contents ≤ one_if (is_outstanding (its.want b))) × (many is_back contents ≤ cond c (one_if (is_pending its.header)) 0) × (many is_ask contents ≡ 0) × (many is_told contents ≡ 0) × (many is_departure contents ≡ 0)

        go : (c : Bool) → Few (answer_part a (drains.status b).carrier ++ cond c (reply_part (drains.status a).duty) []) c
        go true = replies-few a (its.want b) (its.copy b) (drains.status b).carrier (drains.status a).duty (is_pending its.header) (carried-of b) (waits a)
        go false = replies-few a (its.want b) (its.copy b) (drains.status b).carrier NoDuty false (carried-of b) (λ e. refl)

  module _ (good : IsEagerGood home line) where
    pub few-requests : (a b : ℕ) → FewRequests a b
    few-requests a b = elim good.stands [ inl settled ↦ request-kinds home its settled.good a b | inr drains ↦ draining-requests drains a b ]

    pub few-replies : (a b : ℕ) → FewReplies a b
    few-replies a b = elim good.stands [ inl settled ↦ reply-kinds home its settled.good a b | inr drains ↦ draining-replies drains a b ]
