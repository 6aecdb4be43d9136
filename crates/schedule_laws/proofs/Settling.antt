-- While what was set going by one operation settles: each Take leaves less to come, and no node but that of the operation has begun
-- anything, so that no other operation is done.
use Rattle.std.proofs.Common.{◌≡◌, ◌≢◌, ℕ, suc, ◌+◌, ◌<◌, ◌≤◌, ◌⊎◌, inl, inr, Bool, true, false, cond, ◌==◌, List, [], ◌∷◌, refl, arith, ap, sym, ◌∙◌, subst, Option, Some, None, is_some}
use Rattle.std.proofs.lemmas.Bool.Decides.{nat_tests}
use Rattle.line_map.specs.Sizes.{Sizes, home_of, line_of}
use Rattle.op_model.specs.declared.events.Class.{Class}
use Rattle.op_model.specs.declared.messages.Msg.{Msg}
use Rattle.op_model.specs.declared.state.Want.{Want}
use Rattle.op_model.specs.Messages.{Content, msg_content, msg_line}
use Rattle.op_model.specs.Lines.{Header, Outcome}
use Rattle.op_model.specs.Shares.{Lanes, Share, State, header_of, put_share, share_at, want_after, want_on}
use Rattle.op_model.specs.Events.Step.{put_at}
use Rattle.one_history.proofs.Public.{header-other, header-same}
use Rattle.lane_bounds.proofs.Public.{after_row_of, sent_of, taken_of}
use Rattle.rest_laws.proofs.Public.{sends-cons, sends-none, sends_weight, weight-sent, weight-taken}
use Rattle.rest_laws.proofs.Public.{weight_by}
use Rattle.schedule_laws.specs.Courses.{is_any_nak}
use Rattle.schedule_laws.proofs.Settled.{AllSettle, IsSettling, grants, settles, still, still_sent}
use Rattle.schedule_laws.proofs.Under.{AllSent, AllUnder, under-front, under-sent, under-taken}

-- a message that settles and is no Nak
abbrev pub Settles : Content → Type 0
Settles content = (settles content ≡ true) × (is_any_nak content ≡ false)

-- the grant that a line waits for
abbrev pub grants_at : Sizes → State → ℕ → ℕ
grants_at sizes state line = grants (header_of sizes (state.share (home_of sizes line)) line).wait

-- how many messages are still taken, where this line alone may wait for a grant
abbrev pub left_over : Sizes → ℕ → State → ℕ
left_over sizes line state = weight_by still sizes.nodes state.lane + grants_at sizes state line

-- the operation that a node has begun at this place is outstanding or done
abbrev pub IsUnderway : ℕ → Share → Type 0
IsUnderway place share = ((is_some share.want ≡ true) × (share.place ≡ place)) ⊎ ((share.want ≡ None) × (share.place ≡ suc place))

pub all-settle : (sends : List (ℕ × Content)) → AllSettle sends → AllSent Settles sends
all-settle [] all = tt
all-settle (send ∷ sends) all = ((all.0, all.1), all-settle sends all.2)

pub still-weight : (nodes : ℕ) (sends : List (ℕ × Content)) → sends_weight still nodes sends ≤ still_sent sends
still-weight nodes [] = let z = sends-none still nodes in omega arith
still-weight nodes (send ∷ sends) = let ih = still-weight nodes sends in let c = sends-cons still nodes send sends in omega arith

-- what a row leaves of an operation that is begun on its line: done, or still begun
abbrev pub GoesOn : Outcome → Type 0
GoesOn outcome = ((outcome.done ≡ true) × (outcome.share.want ≡ None)) ⊎ ((outcome.done ≡ false) × (is_some outcome.share.want ≡ true))

-- what a node has begun, after a row of this line that begins nothing
module _ (sizes : Sizes) (line : ℕ) (share : Share) (outcome : Outcome) (at_home : Bool) (unwanted : want_on sizes share.want line ≡ None → (outcome.share.want ≡ None) × (outcome.done ≡ false)) where
  abbrev next : Share
  next = put_share sizes at_home line outcome.done outcome.share share

  pub idle-after : share.want ≡ None → (next.want ≡ None) × (next.place ≡ share.place)
  unfolding put_share
  idle-after none =
      let row = unwanted (ap (λ w. want_on sizes w line) none) in
      (ap (λ w. want_after sizes w line outcome.share.want) none ∙ row.0, ap (λ d. cond d (suc share.place) share.place) row.1)

  pub underway-after : (place : ℕ) → (is_some (want_on sizes share.want line) ≡ true → GoesOn outcome) → IsUnderway place share → IsUnderway place next
  unfolding put_share
  underway-after place wanted (inr done) = let kept = idle-after done.0 in inr (kept.0, kept.1 ∙ done.1)
  underway-after place wanted (inl waits) = by-want share.want refl waits.0
    where
      Result : Option Want → Bool → Type 0
      Result want done = ((is_some want ≡ true) × (cond done (suc share.place) share.place ≡ place)) ⊎ ((want ≡ None) × (cond done (suc share.place) share.place ≡ suc place))

      by-want : (want : Option Want) → share.want ≡ want → is_some want ≡ true → Result (want_after sizes want line outcome.share.want) outcome.done
      by-want None e some = cc
      by-want (Some want) e some = go (line_of sizes want.op.word == line) refl
        where
          on : Bool → Option Want
          on c = cond c (Some want) None

          go : (c : Bool) → (line_of sizes want.op.word == line) ≡ c → Result (cond c outcome.share.want (Some want)) outcome.done
          go true at = here (wanted (ap is_some (ap (λ w. want_on sizes w line) e ∙ ap on at)))
            where
              here : GoesOn outcome → Result outcome.share.want outcome.done
              here (inl fin) = inr (fin.1, ap (λ d. cond d (suc share.place) share.place) fin.0 ∙ ap suc waits.1)
              here (inr not) = inl (not.1, ap (λ d. cond d (suc share.place) share.place) not.0 ∙ waits.1)
          go false at =
              let row = unwanted (ap (λ w. want_on sizes w line) e ∙ ap on at) in
              inl (refl, ap (λ d. cond d (suc share.place) share.place) row.1 ∙ waits.1)

-- no node but p has begun anything or goes on, and the operation of p at its place is outstanding or done
pub record IsTracked (p : ℕ) (places : ℕ → ℕ) (state : State) : Type 0 where
  pub others : (n : ℕ) → n ≢ p → ((state.share n).want ≡ None) × ((state.share n).place ≡ places n)
  pub own : IsUnderway (places p) (state.share p)

-- While the operation of node p on this line, begun at these places, settles: every message under way settles, and this line alone may
-- wait for a grant
pub record IsCompleting (sizes : Sizes) (line p : ℕ) (places : ℕ → ℕ) (state : State) : Type 0 where
  pub under : AllUnder Settles state.lane
  pub granted : (g : ℕ) → g ≢ line → grants_at sizes state g ≡ 0
  pub tracked : IsTracked p places state

module _ (sizes : Sizes) (state : State) (lane : Lanes) (dst line : ℕ) (outcome : Outcome) where
  abbrev then : State
  then = after_row_of sizes dst line outcome (record state { lane = lane })

  abbrev after_share : Share
  after_share = put_share sizes (dst == home_of sizes line) line outcome.done outcome.share (state.share dst)

  -- what is so of the share of each node
  pub at-share : (P : Share → Type 0) (n : ℕ) → (n ≢ dst → P (state.share n)) → (n ≡ dst → P after_share) → P (put_at state.share dst after_share n)
  at-share P n was is = go (n == dst) refl
    where
      go : (c : Bool) → (n == dst) ≡ c → P (cond c after_share (state.share n))
      go true e = is (grind (arith, nat_tests))
      go false e = was (grind (arith, nat_tests))

  -- the wait of another line stays
  pub wait-other : (g : ℕ) → g ≢ line → header_of sizes (then.share (home_of sizes g)) g ≡ header_of sizes (state.share (home_of sizes g)) g
  wait-other g apart = at-share (λ s. header_of sizes s g ≡ header_of sizes (state.share (home_of sizes g)) g) (home_of sizes g) (λ e. refl)
      (λ same. header-other sizes (dst == home_of sizes line) line outcome.done outcome.share (state.share dst) g (inl apart) ∙ ap (λ n. header_of sizes (state.share n) g) (sym same))

  -- the header of the line is the row's where it is done at the home
  pub header-there : header_of sizes (then.share (home_of sizes line)) line ≡ cond (dst == home_of sizes line) outcome.share.header (header_of sizes (state.share (home_of sizes line)) line)
  header-there = at (dst == home_of sizes line) refl
    where
      at : (c : Bool) → (dst == home_of sizes line) ≡ c → header_of sizes (then.share (home_of sizes line)) line ≡ cond c outcome.share.header (header_of sizes (state.share (home_of sizes line)) line)
      at true e =
          let here : home_of sizes line ≡ dst = grind (arith, nat_tests) in
          at-share (λ s. header_of sizes s line ≡ outcome.share.header) (home_of sizes line) (λ other. absurd (other here))
          (λ same. header-same sizes (dst == home_of sizes line) line outcome.done outcome.share (state.share dst) e)
      at false e =
          let there : home_of sizes line ≢ dst = grind (arith, nat_tests) in
          at-share (λ s. header_of sizes s line ≡ header_of sizes (state.share (home_of sizes line)) line) (home_of sizes line) (λ other. refl) (λ same. absurd (there same))

  -- a row that begins nothing, at any node
  pub tracked-after : (p : ℕ) (places : ℕ → ℕ) → (want_on sizes (state.share dst).want line ≡ None → (outcome.share.want ≡ None) × (outcome.done ≡ false)) →
      (is_some (want_on sizes (state.share dst).want line) ≡ true → GoesOn outcome) → IsTracked p places state → IsTracked p places then
  tracked-after p places unwanted wanted now =
      record {
        others = λ n apart. at-share (λ s. (s.want ≡ None) × (s.place ≡ places n)) n (λ e. now.others n apart)
            (λ same. let was : ((state.share dst).want ≡ None) × ((state.share dst).place ≡ places n) = subst (λ k. ((state.share k).want ≡ None) × ((state.share k).place ≡ places n)) same (now.others n apart) in
            let kept = idle-after sizes line (state.share dst) outcome (dst == home_of sizes line) unwanted was.0 in (kept.0, kept.1 ∙ was.1));
        own = at-share (IsUnderway (places p)) p (λ e. now.own)
            (λ same. underway-after sizes line (state.share dst) outcome (dst == home_of sizes line) unwanted (places p) wanted (subst (λ k. IsUnderway (places p) (state.share k)) same now.own));
      }

pick : (c : Bool) (f : Header → ℕ) (x y : Header) → f (cond c x y) ≡ cond c (f x) (f y)
pick true f x y = refl
pick false f x y = refl

-- one Take of a message that settles
module _ (sizes : Sizes) (state : State) (src dst : ℕ) (class : Class) (m : Msg) (rest : List Msg) (front : state.lane src dst class ≡ m ∷ rest) (outcome : Outcome)
    (settling : IsSettling (dst == home_of sizes (msg_line m)) (msg_content m) (share_at sizes state dst (msg_line m)) outcome) where
  abbrev taken : Lanes
  taken = taken_of src dst class rest state.lane

  abbrev next_state : State
  next_state = after_row_of sizes dst (msg_line m) outcome (record state { lane = taken })

  grants-there : grants_at sizes next_state (msg_line m) ≡ cond (dst == home_of sizes (msg_line m)) (grants outcome.share.header.wait) (grants_at sizes state (msg_line m))
  grants-there = ap (λ h. grants h.wait) (header-there sizes state taken dst (msg_line m) outcome) ∙ pick (dst == home_of sizes (msg_line m)) (λ h. grants h.wait) _ _

  grants-other : (g : ℕ) → g ≢ msg_line m → grants_at sizes next_state g ≡ grants_at sizes state g
  grants-other g apart = ap (λ h. grants h.wait) (wait-other sizes state taken dst (msg_line m) outcome g apart)

  -- less is left over
  pub less-left : (line : ℕ) → ((g : ℕ) → g ≢ line → grants_at sizes state g ≡ 0) → src < sizes.nodes → dst < sizes.nodes → left_over sizes line next_state < left_over sizes line state
  less-left line granted src_in dst_in =
      let a = weight-sent still sizes.nodes taken dst (msg_line m) outcome.sends in
      let b = weight-taken still sizes.nodes state.lane src dst class m rest front src_in dst_in in
      let c = still-weight sizes.nodes outcome.sends in
      let d = settling.lighter in
      go (msg_line m == line) refl a b c d
    where
      go : (t : Bool) → (msg_line m == line) ≡ t →
          weight_by still sizes.nodes (sent_of dst (msg_line m) outcome.sends taken) ≤ weight_by still sizes.nodes taken + sends_weight still sizes.nodes outcome.sends →
          weight_by still sizes.nodes taken + still (msg_content m) ≤ weight_by still sizes.nodes state.lane →
          sends_weight still sizes.nodes outcome.sends ≤ still_sent outcome.sends →
          still_sent outcome.sends + cond (dst == home_of sizes (msg_line m)) (grants outcome.share.header.wait) (grants_at sizes state (msg_line m)) < still (msg_content m) + grants_at sizes state (msg_line m) →
          left_over sizes line next_state < left_over sizes line state
      go true e a b c d =
          let same : msg_line m ≡ line = grind (arith, nat_tests) in
          let there = grants-there in
          let x : grants_at sizes next_state line ≡ grants_at sizes next_state (msg_line m) = ap (grants_at sizes next_state) (sym same) in
          let y : grants_at sizes state line ≡ grants_at sizes state (msg_line m) = ap (grants_at sizes state) (sym same) in
          omega arith
      go false e a b c d =
          let apart : line ≢ msg_line m = grind (arith, nat_tests) in
          let apart' : msg_line m ≢ line = λ same. apart (sym same) in
          let kept = grants-other line apart in
          let none = granted (msg_line m) apart' in
          omega arith

  -- no other line comes to wait for a grant
  pub still-granted : (line : ℕ) → ((g : ℕ) → g ≢ line → grants_at sizes state g ≡ 0) → (g : ℕ) → g ≢ line → grants_at sizes next_state g ≡ 0
  still-granted line granted g apart = go (g == msg_line m) refl
    where
      go : (t : Bool) → (g == msg_line m) ≡ t → grants_at sizes next_state g ≡ 0
      go true e =
          let same : g ≡ msg_line m = grind (arith, nat_tests) in
          let none = granted g apart in
          let was : grants_at sizes state (msg_line m) ≡ 0 = ap (grants_at sizes state) (sym same) ∙ none in
          let there = grants-there in
          let fewer = settling.fewer in
          let x : grants_at sizes next_state g ≡ grants_at sizes next_state (msg_line m) = ap (grants_at sizes next_state) same in
          at (dst == home_of sizes (msg_line m)) there was fewer x
        where
          at : (c : Bool) → grants_at sizes next_state (msg_line m) ≡ cond c (grants outcome.share.header.wait) (grants_at sizes state (msg_line m)) → grants_at sizes state (msg_line m) ≡ 0 →
              grants outcome.share.header.wait ≤ grants_at sizes state (msg_line m) → grants_at sizes next_state g ≡ grants_at sizes next_state (msg_line m) → grants_at sizes next_state g ≡ 0
          at true there was fewer x = omega arith
          at false there was fewer x = omega arith
      go false e = let other : g ≢ msg_line m = grind (arith, nat_tests) in grants-other g other ∙ granted g apart

  pub completing-after : (line p : ℕ) (places : ℕ → ℕ) → IsCompleting sizes line p places state → IsCompleting sizes line p places next_state
  completing-after line p places now =
      record {
        under = under-sent Settles dst (msg_line m) outcome.sends taken (under-taken Settles src dst class m rest state.lane front now.under) (all-settle outcome.sends settling.sends);
        granted = still-granted line now.granted;
        tracked = tracked-after sizes state taken dst (msg_line m) outcome p places settling.unwanted (settling.wanted front-is.1) now.tracked;
      }
    where
      front-is : Settles (msg_content m)
      front-is = under-front Settles src dst class m rest state.lane front now.under
