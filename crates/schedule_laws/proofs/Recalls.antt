-- While a line is called in for its links: delivery ends within what is left over, with no further Nak. No operation is done on the way,
-- no copy comes to the node that was refused, no other header changes, and at the end the line's links are free.
use Rattle.std.proofs.Common.{◌≡◌, ◌≢◌, ℕ, suc, ◌+◌, ◌<◌, ◌≤◌, ◌⊎◌, inl, inr, Bool, true, false, cond, not, ◌==◌, List, ◌∷◌, refl, arith, ap, sym, ◌∙◌, subst, Option, Some, None, Ok}
use Rattle.std.proofs.lemmas.Bool.Decides.{nat_tests}
use Rattle.line_map.specs.Sizes.{Sizes, home_of}
use Rattle.op_model.specs.declared.events.Class.{Class}
use Rattle.op_model.specs.declared.events.Event.{Event}
use Rattle.op_model.specs.declared.messages.Msg.{Msg}
use Rattle.op_model.specs.declared.state.Wait.{Wait}
use Rattle.op_model.specs.declared.state.Wait.TheVariants.{Idle, Invalidate, ForwardGet, ForwardGetX}
use Rattle.op_model.specs.Events.Step.{Done, effect, after}
use Rattle.op_model.specs.Lines.{Absent, Header, Outcome, is_empty, is_idle, is_pending}
use Rattle.op_model.specs.Messages.{msg_content, msg_line}
use Rattle.op_model.specs.Run.Runs.{Past}
use Rattle.op_model.specs.Run.Schedules.{Lane, first_busy, delivery}
use Rattle.op_model.specs.Shares.{Charge, Linked, Lanes, Share, State, Trace, copy_of, header_of, links_among, links_in, program, put_share, room_of, share_at}
use Rattle.one_history.proofs.Public.{copy-other, copy-same}
use Rattle.lane_bounds.proofs.Public.{after_row_of, headers-stay, links-after, taken_of}
use Rattle.rest_laws.proofs.Public.{first-some}
use Rattle.schedule_laws.specs.Courses.{naks_sent}
use Rattle.schedule_laws.proofs.Settled.{IsSettling, grants}
use Rattle.schedule_laws.proofs.Settling.{at-share, header-there, idle-after, left_over, less-left, wait-other}
use Rattle.schedule_laws.proofs.Under.{AllUnder, under-front, under-sent, under-taken}
use Rattle.schedule_laws.proofs.Known.{Delivers, IsKnown, IsSettled, IsUsual, settle}
use Rattle.schedule_laws.proofs.Completes.{row-settling, taken-settles}
use Rattle.schedule_laws.proofs.Recalled.{IsCalledIn, IsRecall, IsRecalling, message-recalls, recall-settles}

-- the header that a line has at its home
abbrev pub header_at : Sizes → State → ℕ → Header
header_at sizes state line = header_of sizes (state.share (home_of sizes line)) line

-- While line v is called in, for a Get of node p that was refused: first is the state at rest before
pub record IsRecalled (sizes : Sizes) (v p : ℕ) (first state : State) : Type 0 where
  pub under : AllUnder IsRecall state.lane
  pub others : (n : ℕ) → n ≢ p → ((state.share n).want ≡ None) × ((state.share n).place ≡ (first.share n).place)
  pub place : (state.share p).place ≡ (first.share p).place
  pub absent : (line : ℕ) → copy_of (first.share p) line ≡ Absent → copy_of (state.share p) line ≡ Absent
  pub headers : (line : ℕ) → line ≢ v → header_at sizes state line ≡ header_at sizes first line
  pub called : IsCalledIn (header_at sizes state v)
  pub links : links_among (state.share (home_of sizes v)).headers + links_in (header_at sizes first v) ≡ links_among (first.share (home_of sizes v)).headers + links_in (header_at sizes state v)

idle-grants : (wait : Wait) → not (is_idle wait) ≡ false → grants wait ≡ 0
idle-grants Idle e = refl
idle-grants (Invalidate g) e = cc
idle-grants (ForwardGet r) e = cc
idle-grants (ForwardGetX r) e = cc

pub calm-grants : (header : Header) → (is_pending header ≡ false) ⊎ IsCalledIn header → grants header.wait ≡ 0
calm-grants header (inl idle) = idle-grants header.wait idle
calm-grants header (inr (inl called)) = ap grants called.0
calm-grants header (inr (inr over)) = idle-grants header.wait over.0

module _ (sizes : Sizes) (v p : ℕ) (first : State) (idle : (line : ℕ) → is_pending (header_at sizes first line) ≡ false) where
  -- each line waits for nothing or is called in
  pub calm : (state : State) → IsRecalled sizes v p first state → (line : ℕ) → (is_pending (header_at sizes state line) ≡ false) ⊎ IsCalledIn (header_at sizes state line)
  calm state now line = go (line == v) refl
    where
      go : (c : Bool) → (line == v) ≡ c → (is_pending (header_at sizes state line) ≡ false) ⊎ IsCalledIn (header_at sizes state line)
      go true e = let same : v ≡ line = grind (arith, nat_tests) in inr (subst (λ l. IsCalledIn (header_at sizes state l)) same now.called)
      go false e = let apart : line ≢ v = grind (arith, nat_tests) in inl (ap is_pending (now.headers line apart) ∙ idle line)

  module _ (state : State) (now : IsRecalled sizes v p first state) (src dst : ℕ) (class : Class) (m : Msg) (rest : List Msg) (front : state.lane src dst class ≡ m ∷ rest) (outcome : Outcome)
      (settling : IsSettling (dst == home_of sizes (msg_line m)) (msg_content m) (share_at sizes state dst (msg_line m)) outcome)
      (recalling : IsRecalling dst (home_of sizes (msg_line m)) (share_at sizes state dst (msg_line m)) outcome) where
    abbrev line : ℕ
    line = msg_line m

    abbrev taken : Lanes
    taken = taken_of src dst class rest state.lane

    abbrev then : State
    then = after_row_of sizes dst line outcome (record state { lane = taken })

    abbrev own : Share
    own = put_share sizes (dst == home_of sizes line) line outcome.done outcome.share (state.share dst)

    place-kept : own.place ≡ (state.share dst).place
    unfolding put_share
    place-kept = ap (λ d. cond d (suc (state.share dst).place) (state.share dst).place) recalling.undone

    absent-kept : (x : ℕ) → copy_of (state.share dst) x ≡ Absent → copy_of own x ≡ Absent
    absent-kept x none = go (x == line) refl
      where
        go : (c : Bool) → (x == line) ≡ c → copy_of own x ≡ Absent
        go true e =
            let same : x ≡ line = grind (arith, nat_tests) in
            ap (copy_of own) same ∙ copy-same sizes (dst == home_of sizes line) line outcome.done outcome.share (state.share dst) ∙ recalling.absent (ap (copy_of (state.share dst)) (sym same) ∙ none)
        go false e =
            let apart : x ≢ line = grind (arith, nat_tests) in
            copy-other sizes (dst == home_of sizes line) line outcome.done outcome.share (state.share dst) x apart ∙ none

    -- the header of the line is as it was, or that of the row
    there : header_at sizes then line ≡ cond (dst == home_of sizes line) outcome.share.header (header_at sizes state line)
    there = header-there sizes state taken dst line outcome

    header-kept : (x : ℕ) → x ≢ v → header_at sizes then x ≡ header_at sizes state x
    header-kept x apart = go (x == line) refl
      where
        go : (c : Bool) → (x == line) ≡ c → header_at sizes then x ≡ header_at sizes state x
        go true e =
            let same : line ≡ x = grind (arith, nat_tests) in
            let still : is_pending (header_at sizes state line) ≡ false = ap (λ l. is_pending (header_at sizes state l)) same ∙ ap is_pending (now.headers x apart) ∙ idle x in
            subst (λ l. header_at sizes then l ≡ header_at sizes state l) same (there ∙ pick (dst == home_of sizes line) (recalling.idle still))
          where
            pick : (c : Bool) → outcome.share.header ≡ header_at sizes state line → cond c outcome.share.header (header_at sizes state line) ≡ header_at sizes state line
            pick true e = e
            pick false e = refl
        go false e = let other : x ≢ line = grind (arith, nat_tests) in wait-other sizes state taken dst line outcome x other

    called-kept : IsCalledIn (header_at sizes then v)
    called-kept = go (v == line) refl
      where
        go : (c : Bool) → (v == line) ≡ c → IsCalledIn (header_at sizes then v)
        go true e =
            let same : line ≡ v = grind (arith, nat_tests) in
            let was : IsCalledIn (header_at sizes state line) = subst (λ l. IsCalledIn (header_at sizes state l)) (sym same) now.called in
            subst (λ l. IsCalledIn (header_at sizes then l)) same (subst IsCalledIn (sym there) (pick (dst == home_of sizes line) was))
          where
            pick : (c : Bool) → IsCalledIn (header_at sizes state line) → IsCalledIn (cond c outcome.share.header (header_at sizes state line))
            pick true was = recalling.called was
            pick false was = was
        go false e =
            let other : v ≢ line = grind (arith, nat_tests) in
            subst IsCalledIn (sym (wait-other sizes state taken dst line outcome v other)) now.called

    -- at the taker the links change as the header of the line does
    links-own : links_among own.headers + links_in (header_at sizes state line) ≡ links_among (state.share dst).headers + links_in (header_at sizes then line)
    links-own = go (dst == home_of sizes line) refl
      where
        go : (c : Bool) → (dst == home_of sizes line) ≡ c → links_among own.headers + links_in (header_at sizes state line) ≡ links_among (state.share dst).headers + links_in (header_at sizes then line)
        go true e =
            let here : home_of sizes line ≡ dst = grind (arith, nat_tests) in
            let a = links-after Linked sizes (state.share dst) (dst == home_of sizes line) line outcome.done outcome.share e in
            let b : header_at sizes then line ≡ outcome.share.header = there ∙ ap (λ c. cond c outcome.share.header (header_at sizes state line)) e in
            let c : links_in (header_at sizes then line) ≡ links_in outcome.share.header = ap links_in b in
            let d : links_in (header_at sizes state line) ≡ links_in (header_of sizes (state.share dst) line) = ap (λ n. links_in (header_of sizes (state.share n) line)) here in
            omega arith
        go false e =
            let a = (headers-stay Linked sizes (state.share dst) (dst == home_of sizes line) line outcome.done outcome.share e).1 in
            let b : links_in (header_at sizes then line) ≡ links_in (header_at sizes state line) = ap links_in (there ∙ ap (λ c. cond c outcome.share.header (header_at sizes state line)) e) in
            omega arith

    links-kept : links_among (then.share (home_of sizes v)).headers + links_in (header_at sizes first v) ≡ links_among (first.share (home_of sizes v)).headers + links_in (header_at sizes then v)
    links-kept = at-share sizes state taken dst line outcome (λ s. links_among s.headers + links_in (header_at sizes first v) ≡ links_among (first.share (home_of sizes v)).headers + links_in (header_at sizes then v)) (home_of sizes v)
        (λ far. away far) (λ near. home near)
      where
        -- at another node than the home of v, v's header stays
        away : home_of sizes v ≢ dst → links_among (state.share (home_of sizes v)).headers + links_in (header_at sizes first v) ≡ links_among (first.share (home_of sizes v)).headers + links_in (header_at sizes then v)
        away far =
            let same : header_at sizes then v ≡ header_at sizes state v = at-share sizes state taken dst line outcome (λ s. header_of sizes s v ≡ header_at sizes state v) (home_of sizes v) (λ _. refl) (λ near. absurd (far near)) in
            let a : links_in (header_at sizes then v) ≡ links_in (header_at sizes state v) = ap links_in same in
            let b = now.links in
            omega arith

        home : home_of sizes v ≡ dst → links_among own.headers + links_in (header_at sizes first v) ≡ links_among (first.share (home_of sizes v)).headers + links_in (header_at sizes then v)
        home near = go (v == line) refl
          where
            held : links_among (state.share (home_of sizes v)).headers ≡ links_among (state.share dst).headers
            held = ap (λ n. links_among (state.share n).headers) near

            go : (c : Bool) → (v == line) ≡ c → links_among own.headers + links_in (header_at sizes first v) ≡ links_among (first.share (home_of sizes v)).headers + links_in (header_at sizes then v)
            go true e =
                let same : line ≡ v = grind (arith, nat_tests) in
                let a = links-own in
                let b : links_in (header_at sizes then line) ≡ links_in (header_at sizes then v) = ap (λ l. links_in (header_at sizes then l)) same in
                let c : links_in (header_at sizes state line) ≡ links_in (header_at sizes state v) = ap (λ l. links_in (header_at sizes state l)) same in
                let d = now.links in
                let f = held in
                omega arith
            go false e =
                let other : line ≢ v = grind (arith, nat_tests) in
                let mine : v ≢ line = λ s. other (sym s) in
                let a = links-own in
                let b : links_in (header_at sizes then line) ≡ links_in (header_at sizes state line) = ap links_in (header-kept line other) in
                let c : links_in (header_at sizes then v) ≡ links_in (header_at sizes state v) = ap links_in (wait-other sizes state taken dst line outcome v mine) in
                let d = now.links in
                let f = held in
                omega arith

    pub recalled-after : IsRecalled sizes v p first then
    recalled-after =
        record {
          under = under-sent IsRecall dst line outcome.sends taken (under-taken IsRecall src dst class m rest state.lane front now.under) recalling.sends;
          others = λ n apart. at-share sizes state taken dst line outcome (λ s. (s.want ≡ None) × (s.place ≡ (first.share n).place)) n (λ e. now.others n apart)
              (λ same. let was : ((state.share dst).want ≡ None) × ((state.share dst).place ≡ (first.share n).place) = subst (λ k. ((state.share k).want ≡ None) × ((state.share k).place ≡ (first.share n).place)) same (now.others n apart) in
              let kept = idle-after sizes line (state.share dst) outcome (dst == home_of sizes line) settling.unwanted was.0 in (kept.0, kept.1 ∙ was.1));
          place = at-share sizes state taken dst line outcome (λ s. s.place ≡ (first.share p).place) p (λ e. now.place) (λ same. place-kept ∙ ap (λ n. (state.share n).place) (sym same) ∙ now.place);
          absent = λ x none. at-share sizes state taken dst line outcome (λ s. copy_of s x ≡ Absent) p (λ e. now.absent x none) (λ same. absent-kept x (ap (λ n. copy_of (state.share n) x) (sym same) ∙ now.absent x none));
          headers = λ x apart. header-kept x apart ∙ now.headers x apart;
          called = called-kept;
          links = links-kept;
        }

module _ (charge : Charge) (trace : Trace) (usual : IsUsual trace) (next : State → Option Event) (delivers : Delivers charge trace usual next) (v p : ℕ) (first : State) (idle : (line : ℕ) → is_pending (header_at trace.sizes first line) ≡ false) where
  abbrev Recalled : Past → Type 0
  Recalled past = IsRecalled trace.sizes v p first past.state

  step : (past : Past) → IsKnown charge trace past → Recalled past → (lane : Lane) → first_busy trace.sizes past.state ≡ Some lane → (done : Done) → effect charge trace.sizes (program trace) past.state (delivery charge trace.sizes past.state lane) ≡ Ok done →
      IsRecalled trace.sizes v p first (after past.state done) × (left_over trace.sizes v (after past.state done) < left_over trace.sizes v past.state) × (naks_sent done ≡ 0)
  step past known now lane busy done is =
      let inside = first-some trace.sizes past.state lane busy in
      let recall = λ (m : Msg) (rest : List Msg) (front : past.state.lane lane.src lane.dst lane.class ≡ m ∷ rest). under-front IsRecall lane.src lane.dst lane.class m rest past.state.lane front now.under in
      let kinds = λ (m : Msg) (rest : List Msg) (front : past.state.lane lane.src lane.dst lane.class ≡ m ∷ rest). recall-settles (msg_content m) (recall m rest front) in
      let both = taken-settles charge trace usual past known lane.src lane.dst lane.class _ done is kinds
      (λ s. IsRecalled trace.sizes v p first s × (left_over trace.sizes v s < left_over trace.sizes v past.state))
      (λ m rest front.
      let row = row-settling charge trace usual past known lane.src lane.dst lane.class _ done is kinds m rest front in
      let recalling = message-recalls lane.dst (home_of trace.sizes (msg_line m)) lane.src (room_of charge trace.sizes (past.state.share lane.dst)) (share_at trace.sizes past.state lane.dst (msg_line m)) (calm trace.sizes v p first idle past.state now (msg_line m)) (is_empty (copy_of (past.state.share lane.dst) (msg_line m))) (msg_content m) (recall m rest front) in (
        recalled-after trace.sizes v p first idle past.state now lane.src lane.dst lane.class m rest front _ row recalling,
        less-left trace.sizes past.state lane.src lane.dst lane.class m rest front _ row v (λ g apart. calm-grants (header_at trace.sizes past.state g) (calm trace.sizes v p first idle past.state now g)) inside.0.0 inside.0.1,
      )) in
      (both.0.0, both.0.1, both.1)

  pub recalls-end : (past : Past) → IsKnown charge trace past → Recalled past → (most : ℕ) → left_over trace.sizes v past.state ≤ most → IsSettled charge trace usual next Recalled past most
  recalls-end past known now most light = settle charge trace usual next delivers Recalled (left_over trace.sizes v) step most past known now light
