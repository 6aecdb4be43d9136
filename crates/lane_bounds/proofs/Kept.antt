-- What is bounded in the whole machine, and that a row keeps it: the pending lines and the links of each home, the write-backs and
-- hints in each lane; and no home has the header of another's line or sends of it to itself.
use Rattle.std.proofs.Common.{◌≡◌, ◌≢◌, ℕ, ◌+◌, ◌≤◌, Bool, true, false, cond, ◌==◌, ◌⊎◌, inl, inr, List, [], refl, arith, ap, sym, ◌∙◌, subst, None}
use Rattle.std.proofs.lemmas.Bool.Decides.{nat_tests}
use Rattle.std.specs.List.{sum_by}
use Rattle.std.specs.FinMap as fin
use Rattle.line_map.specs.Sizes.{Sizes, home_of}
use Rattle.op_model.specs.Events.Step.{departures, put_at}
use Rattle.op_model.specs.Lines.{Outcome}
use Rattle.op_model.specs.Messages.{Content}
use Rattle.op_model.specs.Shares.{Charge, Linked, Unlinked, Lanes, Share, State, header_of, held_links, links_among, is_linked, pending_lines, put_share, room_of}
use Rattle.op_model.specs.declared.events.Class.TheVariants.{Request}
use Rattle.op_model.specs.declared.events.Class.{Class}
use Rattle.line_invariant.specs.Line.{addressed}
use Rattle.one_history.specs.Project.{of_line}
use Rattle.lane_bounds.proofs.Acts.{after_row_of, sent_of}
use Rattle.lane_bounds.proofs.Allowed.{IsAllowed}
use Rattle.lane_bounds.proofs.Homes.{links-bound, own-after, pending-bound}
use Rattle.lane_bounds.proofs.Lanes.{departing, departs-weighed, line-sent, quiet-sends, weighed-sent}
use Rattle.lane_bounds.proofs.Sends.{Elsewhere, Quiet, addressed-none}

-- A home has no more pending lines and links than it may have, and no header of a line of another home. A lane has no more write-backs
-- and hints than the gate lets through, and a node sends itself nothing of a line of another home
pub record IsBounded (charge : Charge) (sizes : Sizes) (state : State) : Type 0 where
  pub pending : (n : ℕ) → pending_lines (state.share n) ≤ sizes.pending
  pub links : is_linked charge ≡ true → (n : ℕ) → links_among (state.share n).headers ≤ sizes.links
  pub own : (n line : ℕ) → home_of sizes line ≢ n → fin.get (state.share n).headers line ≡ None
  pub departs : (a b : ℕ) → departures (state.lane a b Request) ≤ sizes.evicts
  pub apart : (line a : ℕ) (class : Class) → home_of sizes line ≢ a → of_line line (state.lane a a class) ≡ []

-- the links that a home holds are within a number where those of its lists are, wherever lists cost links
pub held-within : (charge : Charge) (share : Share) (n : ℕ) → (is_linked charge ≡ true → links_among share.headers ≤ n) → held_links charge share ≤ n
held-within Linked share n within = within refl
held-within Unlinked share n within = omega arith

pub within-held : (charge : Charge) (share : Share) (n : ℕ) → held_links charge share ≤ n → is_linked charge ≡ true → links_among share.headers ≤ n
within-held Linked share n within linked = within
within-held Unlinked share n within linked = cc

-- what a row sends fits the lanes that it goes into, and none of it goes to its own node where that isn't the home
pub record IsMeasured (sizes : Sizes) (lane : Lanes) (node line : ℕ) (sends : List (ℕ × Content)) : Type 0 where
  pub departs : (b : ℕ) → departures (lane node b Request) + sum_by departing (addressed b Request sends) ≤ sizes.evicts
  pub apart : (class : Class) → home_of sizes line ≢ node → addressed node class sends ≡ []

module _ (charge : Charge) (sizes : Sizes) (state : State) (bounded : IsBounded charge sizes state) (node line : ℕ) (outcome : Outcome) (lane : Lanes) where
  pub bounded-row :
      (node ≡ home_of sizes line → IsAllowed (room_of charge sizes (state.share node)) (header_of sizes (state.share node) line) outcome.share.header) →
      ((a b : ℕ) → departures (lane a b Request) ≤ sizes.evicts) →
      ((q a : ℕ) (class : Class) → home_of sizes q ≢ a → of_line q (lane a a class) ≡ []) →
      IsMeasured sizes lane node line outcome.sends →
      IsBounded charge sizes (after_row_of sizes node line outcome (record state { lane = lane }))
  bounded-row allowed departs apart measured =
      record {
        pending = λ n. share-at (λ p. pending_lines p ≤ sizes.pending) n (bounded.pending n) (λ _. pending-bound charge sizes (state.share node) (node == home_of sizes line) line outcome.done outcome.share allowed' (bounded.pending node));
        links = λ linked n. share-at (λ p. links_among p.headers ≤ sizes.links) n (bounded.links linked n) (λ _. links-bound charge sizes (state.share node) (node == home_of sizes line) line outcome.done outcome.share allowed' linked (bounded.links linked node));
        own = λ n q far. share-at (λ p. fin.get p.headers q ≡ None) n (bounded.own n q far) (λ same. own-after charge sizes (state.share node) (node == home_of sizes line) line outcome.done outcome.share q (bounded.own node q (λ e. far (e ∙ sym same))) (which q (λ e. far (e ∙ sym same))));
        departs = λ a b. sent-at a b;
        apart = λ q a class far. line-sent q node line outcome.sends lane a a class (apart q a class far) (λ is same. ap (λ k. addressed k class outcome.sends) is ∙ measured.apart class (λ e. far (ap (home_of sizes) same ∙ e ∙ sym is)));
      }
    where
      allowed' : (node == home_of sizes line) ≡ true → IsAllowed (room_of charge sizes (state.share node)) (header_of sizes (state.share node) line) outcome.share.header
      allowed' e = allowed (grind (arith, nat_tests))

      share-at : (P : Share → Type 0) (n : ℕ) → P (state.share n) → (n ≡ node → P (put_share sizes (node == home_of sizes line) line outcome.done outcome.share (state.share node))) → P (put_at state.share node (put_share sizes (node == home_of sizes line) line outcome.done outcome.share (state.share node)) n)
      share-at P n was is = go (n == node) refl
        where
          go : (c : Bool) → (n == node) ≡ c → P (cond c (put_share sizes (node == home_of sizes line) line outcome.done outcome.share (state.share node)) (state.share n))
          go true e = is (grind (arith, nat_tests))
          go false e = was

      which : (q : ℕ) → home_of sizes q ≢ node → ((node == home_of sizes line) ≡ false) ⊎ (q ≢ line)
      which q far = go (node == home_of sizes line) refl
        where
          go : (c : Bool) → (node == home_of sizes line) ≡ c → (c ≡ false) ⊎ (q ≢ line)
          go false e = inl refl
          go true e = inr (λ same. far (ap (home_of sizes) same ∙ sym (home e)))
            where
              home : (node == home_of sizes line) ≡ true → node ≡ home_of sizes line
              home e = grind (arith, nat_tests)

      sent-at : (a b : ℕ) → departures (sent_of node line outcome.sends lane a b Request) ≤ sizes.evicts
      sent-at a b =
          let before = departs-weighed (lane a b Request) in
          let after = departs-weighed (sent_of node line outcome.sends lane a b Request) in
          let sent = weighed-sent departing node line outcome.sends lane a b Request in
          go (a == node) refl (after ∙ sent ∙ ap (λ n. n + cond (a == node) (sum_by departing (addressed b Request outcome.sends)) 0) (sym before))
        where
          go : (c : Bool) → (a == node) ≡ c → departures (sent_of node line outcome.sends lane a b Request) ≡ departures (lane a b Request) + cond c (sum_by departing (addressed b Request outcome.sends)) 0 → departures (sent_of node line outcome.sends lane a b Request) ≤ sizes.evicts
          go true e is = let same : node ≡ a = grind (arith, nat_tests) in let m = subst (λ k. departures (lane k b Request) + sum_by departing (addressed b Request outcome.sends) ≤ sizes.evicts) same (measured.departs b) in omega (arith, is, m)
          go false e is = let d = departs a b in omega (arith, is, d)

-- a row that sends no write-back and no hint, and nothing to its own node where that isn't the home
pub measured-quiet : (sizes : Sizes) (lane : Lanes) (node line : ℕ) (outcome : Outcome) → ((a b : ℕ) → departures (lane a b Request) ≤ sizes.evicts) → Quiet outcome → (node ≢ home_of sizes line → Elsewhere node outcome) → IsMeasured sizes lane node line outcome.sends
measured-quiet sizes lane node line outcome departs quiet elsewhere =
    record {
      departs = λ b. let d = departs node b in let z = quiet-sends b Request outcome.sends quiet in omega arith;
      apart = λ class far. addressed-none node class outcome.sends (elsewhere (λ e. far (sym e)));
    }
