-- A Get that wants a link where none is free: it is refused, and a line of the home is called in. When that has settled the machine is at
-- rest as before, but that the line's links are free, so that the Get that comes again wants none or finds one.
use Rattle.std.proofs.Common.{◌≡◌, ◌≢◌, ℕ, ◌+◌, ◌*◌, ◌<◌, ◌≤◌, inl, Bool, true, false, cond, ◌==◌, List, [], ◌∷◌, refl, arith, ap, sym, ◌∙◌, subst, None}
use Rattle.std.proofs.lemmas.Bool.Decides.{nat_tests}
use Rattle.line_map.specs.Sizes.{Sizes, home_of}
use Rattle.op_model.specs.declared.messages.NakCause.TheVariants.{NoLink}
use Rattle.op_model.specs.Lines.{Absent, Header, Outcome, to_each}
use Rattle.op_model.specs.Messages.{Content, Nak}
use Rattle.op_model.specs.Nodes.{Nodes, count, in_order, listed}
use Rattle.op_model.specs.Shares.{Charge, Lanes, Share, State, Trace, copy_of, header_of, links_among, is_linked, links_in, put_share, room_of, share_at, want_after, want_on}
use Rattle.op_model.specs.Tables.Processor.{call_in}
use Rattle.lane_bounds.proofs.Public.{after_row_of, links-after, row-kept}
use Rattle.rest_laws.proofs.Public.{sends_weight, weight-sent}
use Rattle.schedule_laws.proofs.Gets.{listed-weight}
use Rattle.schedule_laws.proofs.Recalled.{IsRecall}
use Rattle.schedule_laws.proofs.Recalls.{IsRecalled, header_at}
use Rattle.schedule_laws.proofs.Requests.{IsPassive}
use Rattle.schedule_laws.proofs.Settled.{grants, still}
use Rattle.schedule_laws.proofs.Settling.{at-share, header-there, idle-after, left_over, still-weight, wait-other}
use Rattle.schedule_laws.proofs.Single.{AreEmpty, sent-weight, under-empty}
use Rattle.schedule_laws.proofs.Under.{AllSent, under-sent}

each-recalls : (nodes : List ℕ) → AllSent IsRecall (to_each nodes)
each-recalls [] = tt
each-recalls (n ∷ ns) = (refl, each-recalls ns)

-- a passive row of a node that has begun nothing
module _ (sizes : Sizes) (state : State) (dst line : ℕ) (outcome : Outcome) (passive : IsPassive (share_at sizes state dst line) outcome) (none : (state.share dst).want ≡ None) where
  pub passive-idle : ((put_share sizes (dst == home_of sizes line) line outcome.done outcome.share (state.share dst)).want ≡ None) × ((put_share sizes (dst == home_of sizes line) line outcome.done outcome.share (state.share dst)).place ≡ (state.share dst).place)
  passive-idle = idle-after sizes line (state.share dst) outcome (dst == home_of sizes line) (λ off. (passive.0 ∙ off, passive.1)) none

-- Two rows of one home: a Get that is refused, and the call of line v. Before them all lanes are empty but for the Get, which is taken
module _ (sizes : Sizes) (first state : State) (lane : Lanes) (empty : AreEmpty lane) (p home line v : ℕ) (apart : p ≢ home) (at : home_of sizes line ≡ home) (of_home : home_of sizes v ≡ home)
    (shares : (n : ℕ) → n ≢ p → state.share n ≡ first.share n) (headers : (x : ℕ) → header_at sizes state x ≡ header_at sizes first x) (free : (n : ℕ) → (first.share n).want ≡ None)
    (place : (state.share p).place ≡ (first.share p).place) (absent : (x : ℕ) → copy_of (first.share p) x ≡ Absent → copy_of (state.share p) x ≡ Absent)
    (refused : Outcome) (same : refused.share ≡ share_at sizes state home line) (undone : refused.done ≡ false) (nak : refused.sends ≡ (p, Nak NoLink) ∷ []) where
  abbrev mid : State
  mid = after_row_of sizes home line refused (record state { lane = lane })

  abbrev called : Outcome
  called = call_in (share_at sizes mid home v)

  abbrev last : State
  last = after_row_of sizes home v called mid

  abbrev mid_home : Share
  mid_home = put_share sizes (home == home_of sizes line) line refused.done refused.share (state.share home)

  there : (home == home_of sizes line) ≡ true
  there = grind (arith, nat_tests)

  there_v : (home == home_of sizes v) ≡ true
  there_v = grind (arith, nat_tests)

  back_v : (home_of sizes v == home) ≡ true
  back_v = grind (arith, nat_tests)

  home-apart : home ≢ p
  home-apart = λ e. apart (sym e)

  -- shares of other nodes than the home stay
  mid-away : (n : ℕ) → n ≢ home → mid.share n ≡ state.share n
  mid-away n far = at-share sizes state lane home line refused (λ s. s ≡ state.share n) n (λ _. refl) (λ near. absurd (far near))

  mid-there : mid.share home ≡ mid_home
  mid-there = at-share sizes state lane home line refused (λ s. s ≡ mid_home) home (λ far. absurd (far refl)) (λ _. refl)

  last-away : (n : ℕ) → n ≢ home → last.share n ≡ state.share n
  last-away n far = at-share sizes mid mid.lane home v called (λ s. s ≡ mid.share n) n (λ _. refl) (λ near. absurd (far near)) ∙ mid-away n far

  -- the refusal leaves all headers
  mid-header : (x : ℕ) → header_at sizes mid x ≡ header_at sizes state x
  mid-header x = go (home_of sizes x == home) refl
    where
      go : (c : Bool) → (home_of sizes x == home) ≡ c → header_at sizes mid x ≡ header_at sizes state x
      go true e = row-kept sizes state lane home line x refused e same there
      go false e = let far : home_of sizes x ≢ home = grind (arith, nat_tests) in ap (λ s. header_of sizes s x) (mid-away (home_of sizes x) far)

  -- the call changes the header of v alone
  last-header : (x : ℕ) → x ≢ v → header_at sizes last x ≡ header_at sizes first x
  last-header x other = wait-other sizes mid mid.lane home v called x other ∙ mid-header x ∙ headers x

  called-header : header_at sizes last v ≡ called.share.header
  called-header = header-there sizes mid mid.lane home v called ∙ ap (λ c. cond c called.share.header (header_at sizes mid v)) there_v

  v-share : (share_at sizes mid home v).header ≡ header_at sizes first v
  v-share = mid-header v ∙ headers v

  idle-home : ((mid.share home).want ≡ None) × ((mid.share home).place ≡ (first.share home).place)
  idle-home =
      let was : state.share home ≡ first.share home = shares home home-apart in
      let kept = passive-idle sizes state home line refused (ap (λ s. s.want) same, undone) (ap (λ s. s.want) was ∙ free home) in
      (ap (λ s. s.want) mid-there ∙ kept.0, ap (λ s. s.place) mid-there ∙ kept.1 ∙ ap (λ s. s.place) was)

  idle-last : (n : ℕ) → n ≢ p → ((last.share n).want ≡ None) × ((last.share n).place ≡ (first.share n).place)
  idle-last n far = go (n == home) refl
    where
      go : (c : Bool) → (n == home) ≡ c → ((last.share n).want ≡ None) × ((last.share n).place ≡ (first.share n).place)
      go true e =
          let near : home ≡ n = grind (arith, nat_tests) in
          subst (λ k. ((last.share k).want ≡ None) × ((last.share k).place ≡ (first.share k).place)) near
          (at-share sizes mid mid.lane home v called (λ s. (s.want ≡ None) × (s.place ≡ (first.share home).place)) home (λ f. absurd (f refl))
          (λ _. let kept = passive-idle sizes mid home v called (refl, refl) idle-home.0 in (kept.0, kept.1 ∙ idle-home.1)))
      go false e =
          let off : n ≢ home = grind (arith, nat_tests) in
          let is = last-away n off ∙ shares n far in
          (ap (λ s. s.want) is ∙ free n, ap (λ s. s.place) is)

  -- the home's lists hold as many links as before
  held-same : links_among (last.share home).headers ≡ links_among (first.share home).headers
  held-same =
      let a = links-after Rattle.op_model.specs.Shares.Linked sizes (state.share home) (home == home_of sizes line) line refused.done refused.share there in
      let b = links-after Rattle.op_model.specs.Shares.Linked sizes (mid.share home) (home == home_of sizes v) v called.done called.share there_v in
      let c : links_among (mid.share home).headers ≡ links_among mid_home.headers = ap (λ s. links_among s.headers) mid-there in
      let d : links_in refused.share.header ≡ links_in (header_of sizes (state.share home) line) = ap (λ s. links_in s.header) same ∙ ap (λ n. links_in (header_of sizes (state.share n) line)) at in
      let e : links_in called.share.header ≡ links_in (header_of sizes (mid.share home) v) = ap (λ n. links_in (header_of sizes (mid.share n) v)) of_home in
      let f : links_among (last.share home).headers ≡ links_among (put_share sizes (home == home_of sizes v) v called.done called.share (mid.share home)).headers =
      at-share sizes mid mid.lane home v called (λ s. links_among s.headers ≡ links_among (put_share sizes (home == home_of sizes v) v called.done called.share (mid.share home)).headers) home (λ far. absurd (far refl)) (λ _. refl) in
      let g : links_among (state.share home).headers ≡ links_among (first.share home).headers = ap (λ s. links_among s.headers) (shares home home-apart) in
      omega arith

  abbrev nak_sent : List (ℕ × Content)
  nak_sent = (p, Nak NoLink) ∷ []

  pub recalled-first : IsRecalled sizes v p first last
  recalled-first =
      record {
        under = under-sent IsRecall home v called.sends mid.lane (under-sent IsRecall home line refused.sends lane (under-empty IsRecall lane empty) (subst (AllSent IsRecall) (sym nak) (refl, tt))) (each-recalls (in_order (share_at sizes mid home v).header.list));
        others = idle-last;
        place = ap (λ s. s.place) (last-away p apart) ∙ place;
        absent = λ x none. ap (λ s. copy_of s x) (last-away p apart) ∙ absent x none;
        headers = last-header;
        called = inl (ap (λ (h : Header). h.wait) called-header, ap (λ (h : Header). h.acks) called-header ∙ ap (λ (h : Header). count h.list) (sym called-header));
        links = held;
      }
    where
      held : links_among (last.share (home_of sizes v)).headers + links_in (header_at sizes first v) ≡ links_among (first.share (home_of sizes v)).headers + links_in (header_at sizes last v)
      held =
          let a : links_among (last.share (home_of sizes v)).headers ≡ links_among (last.share home).headers = ap (λ n. links_among (last.share n).headers) of_home in
          let b : links_among (first.share (home_of sizes v)).headers ≡ links_among (first.share home).headers = ap (λ n. links_among (first.share n).headers) of_home in
          let c : links_in (header_at sizes last v) ≡ links_in (header_at sizes first v) = ap links_in called-header ∙ ap (λ (h : Header). links_in h) v-share in
          let d = held-same in
          omega arith

  -- what is under way are the Nak and an Inv to each listed node
  pub recalled-weight : home < sizes.nodes → listed (header_at sizes first v).list home ≡ false → left_over sizes v last + 1 ≤ 2 * sizes.nodes
  recalled-weight within off =
      let list : Nodes = (share_at sizes mid home v).header.list in
      let unlisted : listed list home ≡ false = ap (λ (h : Header). listed h.list home) v-share ∙ off in
      let a = weight-sent still sizes.nodes mid.lane home v called.sends in
      let b = sent-weight sizes.nodes home line refused.sends lane empty in
      let c : sends_weight still sizes.nodes refused.sends ≡ sends_weight still sizes.nodes nak_sent = ap (sends_weight still sizes.nodes) nak in
      let d = still-weight sizes.nodes nak_sent in
      let e = listed-weight sizes.nodes home list within unlisted in
      let f : grants (header_at sizes last v).wait ≡ 0 = ap (λ (h : Header). grants h.wait) called-header in
      omega arith
