-- The pending lines and the links of a home after a row.
-- A row changes one header, so that each count changes by one term; it grows only where the row was allowed to.
use Rattle.std.proofs.Common.{◌≡◌, ◌≢◌, ℕ, ◌+◌, ◌≤◌, Bool, true, false, cond, nat_le, nat_lt, ◌⊎◌, inl, inr, refl, arith, ap, sym, Option, Some, None, unwrap_or}
use Rattle.std.proofs.lemmas.Bool.Decides.{nat_tests}
use Rattle.std.specs.FinMap as fin
use Rattle.std.specs.FinMap.{gets}
use Rattle.line_map.specs.Sizes.{Sizes}
use Rattle.op_model.specs.Lines.{Header, LineShare, is_pending}
use Rattle.op_model.specs.Nodes.{listings}
use Rattle.op_model.specs.Shares.{Charge, Share, first_header, header_of, links_among, is_linked, links_in, pending_lines, put_share, room_of, header_in}
use Rattle.lane_bounds.proofs.Allowed.{IsAllowed}
use Rattle.lane_bounds.proofs.Sums.{amount, over-insert}

abbrev pub one_if : Bool → ℕ
one_if b = cond b 1 0

count-bound : (old new : Bool) (limit after before : ℕ) → (old ≡ false → new ≡ true → nat_le limit before ≡ false) → after + one_if old ≡ before + one_if new → before ≤ limit → after ≤ limit
count-bound true true limit after before h e le = omega arith
count-bound true false limit after before h e le = omega arith
count-bound false false limit after before h e le = omega arith
count-bound false true limit after before h e le = let free = h refl refl in grind (arith, nat_tests)

taken-bound : (new old limit after before : ℕ) → (new ≤ old) ⊎ ((new ≤ old + 1) × (nat_lt before limit ≡ true)) → after + old ≡ before + new → before ≤ limit → after ≤ limit
taken-bound new old limit after before (inl h) e le = omega arith
taken-bound new old limit after before (inr h) e le = let free = h.1 in let more = h.0 in grind (arith, nat_tests)

module _ (charge : Charge) (sizes : Sizes) (share : Share) where
  pub amount-header : (f : Header → ℕ) (line : ℕ) → f (first_header sizes) ≡ 0 → amount f (fin.get share.headers line) ≡ f (header_of sizes share line)
  unfolding header_in
  amount-header f line none = go (fin.get share.headers line)
    where
      go : (o : Option Header) → amount f o ≡ f (unwrap_or o (first_header sizes))
      go None = sym none
      go (Some h) = refl

  first-links : links_in (first_header sizes) ≡ 0
  first-links = grind (arith, nat_tests, listings)

  module _ (at_home : Bool) (line : ℕ) (done : Bool) (row : LineShare) where
    abbrev next : Share
    next = put_share sizes at_home line done row share

    pub pending-after : at_home ≡ true → pending_lines next + one_if (is_pending (header_of sizes share line)) ≡ pending_lines share + one_if (is_pending row.header)
    unfolding put_share
    pending-after home = rw home (rw (amount-header (λ h. one_if (is_pending h)) line refl) at (over-insert (λ h. one_if (is_pending h)) share.headers line row.header))

    pub links-after : at_home ≡ true → links_among next.headers + links_in (header_of sizes share line) ≡ links_among share.headers + links_in row.header
    unfolding put_share
    links-after home = rw home (rw (amount-header links_in line first-links) at (over-insert links_in share.headers line row.header))

    pub headers-stay : at_home ≡ false → (pending_lines next ≡ pending_lines share) × (links_among next.headers ≡ links_among share.headers)
    unfolding put_share
    headers-stay away = rw away (refl, refl)

    -- a home keeps its headers for lines of its own
    pub own-after : (q : ℕ) → fin.get share.headers q ≡ None → (at_home ≡ false) ⊎ (q ≢ line) → fin.get next.headers q ≡ None
    unfolding put_share
    own-after q none (inl away) = rw away none
    own-after q none (inr other) = go at_home
      where
        go : (c : Bool) → fin.get (cond c (fin.insert share.headers line row.header) share.headers) q ≡ None
        go true = grind (arith, nat_tests, gets)
        go false = none

    pub pending-bound : (at_home ≡ true → IsAllowed (room_of charge sizes share) (header_of sizes share line) row.header) → pending_lines share ≤ sizes.pending → pending_lines next ≤ sizes.pending
    pending-bound allowed le = go at_home refl
      where
        go : (c : Bool) → at_home ≡ c → pending_lines next ≤ sizes.pending
        go true e = count-bound (is_pending (header_of sizes share line)) (is_pending row.header) sizes.pending (pending_lines next) (pending_lines share) (allowed e).pending (pending-after e) le
        go false e = let s = headers-stay e in omega (arith, s.0)

    pub links-bound : (at_home ≡ true → IsAllowed (room_of charge sizes share) (header_of sizes share line) row.header) → is_linked charge ≡ true → links_among share.headers ≤ sizes.links → links_among next.headers ≤ sizes.links
    links-bound allowed linked le = go at_home refl
      where
        go : (c : Bool) → at_home ≡ c → links_among next.headers ≤ sizes.links
        go true e = taken-bound (links_in row.header) (links_in (header_of sizes share line)) sizes.links (links_among next.headers) (links_among share.headers) ((allowed e).links linked) (links-after e) le
        go false e = let s = headers-stay e in omega (arith, s.1)

    -- the header is as it was
    pub pending-stays : (at_home ≡ true → row.header ≡ header_of sizes share line) → pending_lines next ≡ pending_lines share
    pending-stays same = go at_home refl
      where
        go : (c : Bool) → at_home ≡ c → pending_lines next ≡ pending_lines share
        go true e = let a = pending-after e in let h : one_if (is_pending row.header) ≡ one_if (is_pending (header_of sizes share line)) = ap (λ k. one_if (is_pending k)) (same e) in omega arith
        go false e = (headers-stay e).0
