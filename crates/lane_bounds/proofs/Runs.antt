-- What each event keeps holds after every run; and so do the bounds: at the start no line is pending, no link is held and all lanes
-- are empty, and each node has the headers of its own lines.
use Rattle.std.proofs.Common.{◌≡◌, ℕ, zero, suc, ◌+◌, ◌*◌, ◌-◌, ◌/◌, ◌≤◌, ◌<◌, ◌≢◌, ◌⊎◌, inl, inr, Bool, true, false, nat_le, nat_lt, List, [], ◌∷◌, refl, arith, ap, sym, ◌∙◌, subst, Option, Some, None, Result, Ok, Err}
use Rattle.std.proofs.lemmas.Bool.Decides.{nat_tests}
use Rattle.std.proofs.lemmas.List.{nil_from_length}
use Rattle.std.proofs.lemmas.Nat.{div-mul-add}
use Rattle.std.specs.List.{range_with_len}
use Rattle.std.specs.Ordering.{nat_cmp}
use Rattle.std.specs.FinMap as fin
use Rattle.std.specs.FinMap.{gets}
use Rattle.line_map.specs.Sizes.{Sizes}
use Rattle.op_model.specs.Events.Step.{Done, and_then, effect}
use Rattle.op_model.specs.Lines.{Header, is_pending}
use Rattle.op_model.specs.Nodes.{listings}
use Rattle.op_model.specs.Run.Runs.{Past, past_after, run, run_from, start, start_share}
use Rattle.op_model.specs.Shares.{Charge, Trace, first_header, first_headers, held_links, links_among, links_in, pending_lines, program}
use Rattle.op_model.specs.declared.events.Cause.{Cause}
use Rattle.op_model.specs.declared.events.Event.{Event}
use Rattle.one_history.specs.Sound.{IsSound}
use Rattle.one_history.proofs.Public.{keeps-event, sound-start}
use Rattle.lane_bounds.proofs.Events.{bounded-event}
use Rattle.lane_bounds.proofs.Homes.{one_if}
use Rattle.lane_bounds.proofs.Kept.{IsBounded, held-within}
use Rattle.lane_bounds.proofs.Sums.{over, over-insert}

module _ (charge : Charge) (trace : Trace) (positive : 0 < trace.sizes.words) (P : Past → Type 0) (keeps : (past : Past) → IsSound trace past → P past → (event : Event) (d : Done) → effect charge trace.sizes (program trace) past.state event ≡ Ok d → P (past_after trace.sizes past d)) where
  -- one event, and what comes after it
  go-on : (past past' : Past) (events : List Event) (r : Result Done Cause) →
      ((d : Done) → r ≡ Ok d → IsSound trace (past_after trace.sizes past d) × P (past_after trace.sizes past d)) →
      ((next : Past) → IsSound trace next → P next → run_from charge trace next events ≡ Some past' → IsSound trace past' × P past') →
      and_then r (λ done. run_from charge trace (past_after trace.sizes past done) events) ≡ Some past' → IsSound trace past' × P past'
  go-on past past' events (Ok done) both rest e = let b = both done refl in rest (past_after trace.sizes past done) b.0 b.1 e
  go-on past past' events (Err cause) both rest e = absurd (let d : ◌≡◌ {A = Option Past} None (Some past') = e in cc)

  keeps-from : (past past' : Past) (events : List Event) → IsSound trace past → P past → run_from charge trace past events ≡ Some past' → IsSound trace past' × P past'
  keeps-from past past' [] sound it e = let is : past ≡ past' = cc in subst (λ p. IsSound trace p × P p) is (sound, it)
  keeps-from past past' (event ∷ events) sound it e =
      go-on past past' events (effect charge trace.sizes (program trace) past.state event) (λ d is. (keeps-event charge trace positive past sound event d is, keeps past sound it event d is)) (λ next s n. keeps-from next past' events s n) e

  pub keeps-run : P (start trace.sizes) → (events : List Event) (past : Past) → run charge trace events ≡ Some past → IsSound trace past × P past
  keeps-run first events past e = keeps-from (start trace.sizes) past events (sound-start trace) first e

no-header : fin.entries {X = Header} {R = nat_cmp} fin.empty ≡ []
no-header = nil_from_length _ (sym (fin.len-entries fin.empty) ∙ fin.len-empty nat_cmp Header)

-- the first headers hold nothing
first-over : (sizes : Sizes) (f : Header → ℕ) → f (first_header sizes) ≡ 0 → (lines : List ℕ) → over f (fin.entries (first_headers sizes lines)) ≡ 0
first-over sizes f none [] = ap (over f) no-header
first-over sizes f none (l ∷ ls) =
    let ih = first-over sizes f none ls in
    let e = over-insert f (first_headers sizes ls) l (first_header sizes) in
    omega (arith, none)

first-links : (sizes : Sizes) → links_in (first_header sizes) ≡ 0
first-links sizes = grind (arith, nat_tests, listings)

insert-other : (m : fin.FinMap nat_cmp Header) (k q : ℕ) (x : Header) → q ≢ k → fin.get m q ≡ None → fin.get (fin.insert m k x) q ≡ None
insert-other m k q x other none = grind (arith, nat_tests, gets)

-- a node has the headers of its own lines
first-own : (sizes : Sizes) (line a k : ℕ) → (line < a) ⊎ (a + k ≤ line) → fin.get (first_headers sizes (range_with_len a k)) line ≡ None
first-own sizes line a zero out = fin.get-empty nat_cmp line
first-own sizes line a (suc k) out =
    let ih = first-own sizes line (a + 1) k (further out) in
    let off : line ≢ a = apart out in
    insert-other (first_headers sizes (range_with_len (a + 1) k)) a line (first_header sizes) off ih
  where
    further : (line < a) ⊎ (a + suc k ≤ line) → (line < a + 1) ⊎ (a + 1 + k ≤ line)
    further (inl l) = inl (omega arith)
    further (inr l) = inr (omega arith)

    apart : (line < a) ⊎ (a + suc k ≤ line) → line ≢ a
    apart (inl l) = λ e. absurd (omega arith)
    apart (inr l) = λ e. absurd (omega arith)

outside : (line n lines : ℕ) → line / lines ≢ n → (line < n * lines) ⊎ (n * lines + lines ≤ line)
outside line n lines far = go (nat_lt line (n * lines)) refl (nat_le (n * lines + lines) line) refl
  where
    go : (c : Bool) → nat_lt line (n * lines) ≡ c → (d : Bool) → nat_le (n * lines + lines) line ≡ d → (line < n * lines) ⊎ (n * lines + lines ≤ line)
    go true e d f = inl (grind (arith, nat_tests))
    go false e true f = inr (grind (arith, nat_tests))
    go false e false f =
        let src : n * lines ≤ line = grind (arith, nat_tests) in
        let below : line < n * lines + lines = grind (arith, nat_tests) in
        let small : line - n * lines < lines = omega arith in
        let is : n * lines + (line - n * lines) ≡ line = omega arith in
        absurd (far (ap (λ x. x / lines) (sym is) ∙ div-mul-add n lines (line - n * lines) small))

pub bounded-start : (charge : Charge) (sizes : Sizes) → IsBounded charge sizes (start sizes).state
bounded-start charge sizes =
    record {
      pending = λ n. let e : pending_lines (start_share sizes n) ≡ 0 = first-over sizes (λ h. one_if (is_pending h)) refl (range_with_len (n * sizes.lines) sizes.lines) in omega (arith, e);
      links = λ linked n. let e : links_among (start_share sizes n).headers ≡ 0 = first-over sizes links_in (first-links sizes) (range_with_len (n * sizes.lines) sizes.lines) in omega (arith, e);
      own = λ n line far. first-own sizes line (n * sizes.lines) sizes.lines (outside line n sizes.lines far);
      departs = λ a b. omega arith;
      apart = λ line a class far. refl;
    }

-- every run is sound, and keeps the bounds
pub bounded-run : (charge : Charge) (trace : Trace) (events : List Event) (past : Past) → 0 < trace.sizes.words → run charge trace events ≡ Some past → IsSound trace past × IsBounded charge trace.sizes past.state
bounded-run charge trace events past positive e =
    keeps-run charge trace positive (λ p. IsBounded charge trace.sizes p.state) (λ p sound it event d is. bounded-event charge trace positive p sound it event d is) (bounded-start charge trace.sizes) events past e

module _ (trace : Trace) (events : List Event) (past : Past) (n : ℕ) (positive : 0 < trace.sizes.words) where
  pub bounded_pending : (charge : Charge) → run charge trace events ≡ Some past → pending_lines (past.state.share n) ≤ trace.sizes.pending
  bounded_pending charge runs = (bounded-run charge trace events past positive runs).1.pending n

  pub bounded_links : (charge : Charge) → run charge trace events ≡ Some past → held_links charge (past.state.share n) ≤ trace.sizes.links
  bounded_links charge runs = held-within charge (past.state.share n) trace.sizes.links (λ linked. (bounded-run charge trace events past positive runs).1.links linked n)
