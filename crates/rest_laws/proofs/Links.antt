-- Where a Get asks for a line to be called in, its home has one that may be.
-- No link is free, so the lists of the home's lines hold as many as it has. So some list holds a link, and its line isn't pending,
-- since a pending line with a link would have been named in the refusal. A home keeps headers of its own lines alone.
use Rattle.std.proofs.Common.{◌≡◌, ◌≢◌, ℕ, ◌<◌, ◌≤◌, Bool, true, false, cond, nat_lt, ◌==◌, ◌&&◌, not, List, [], ◌∷◌, refl, arith, ap, sym, ◌∙◌, subst, Option, Some, None, unwrap_or}
use Rattle.std.proofs.lemmas.Bool.{ltb-false}
use Rattle.std.proofs.lemmas.Bool.Decides.{nat_tests}
use Rattle.std.specs.List.{list_any}
use Rattle.std.specs.Ordering.{nat_cmp, eq_by_cmp}
use Rattle.std.specs.FinMap as fin
use Rattle.std.specs.FinMap.{find}
use Rattle.line_map.specs.Sizes.{Sizes, home_of}
use Rattle.op_model.specs.declared.messages.Msg.{Msg}
use Rattle.op_model.specs.Events.Node.{meets_row, is_get, asks_victim, fits_victim}
use Rattle.op_model.specs.Lines.{Header, Room, is_pending, nobody_listed}
use Rattle.op_model.specs.Messages.{msg_content, msg_line}
use Rattle.op_model.specs.Nodes.{listed, count}
use Rattle.op_model.specs.Shares.{Charge, is_linked, Share, header_of, first_header, line_share, room_of, links_in, links_among, header_in}
use Rattle.op_model.specs.Tables.Home.{wants_victim}
use Rattle.op_model.specs.Tables.Processor.{holds_link}
use Rattle.lane_bounds.proofs.Public.{over, over-cons}
use Rattle.link_refusals.proofs.Public.{Found, found}

-- an entry with something, where the sum isn't 0
some-entry : {X : Type 0} (f : X → ℕ) (es : List (ℕ × X)) → 0 < over f es → list_any (λ e. nat_lt 0 (f e.1)) es ≡ true
some-entry f [] h = absurd (omega arith)
some-entry f (e ∷ es) h = let ih = some-entry f es in let c = over-cons f e es in grind (arith, nat_tests)

-- the entry at a key passes no test that no entry passes
none-found : {X : Type 0} (test : X → Bool) (es : List (ℕ × X)) (k : ℕ) (x : X) → list_any (λ e. test e.1) es ≡ false → find nat_cmp k es ≡ Some x → test x ≡ false
none-found {X = X} test [] k x none is = absurd (let n : ◌≡◌ {A = Option X} None (Some x) = is in cc)
none-found {X = X} test (e ∷ es) k x none is = go (eq_by_cmp nat_cmp k e.0) is (none-found test es k x)
  where
    go : (c : Bool) → ◌≡◌ {A = Option X} (cond c (Some e.1) (find nat_cmp k es)) (Some x) → (list_any (λ d. test d.1) es ≡ false → find nat_cmp k es ≡ Some x → test x ≡ false) → test x ≡ false
    go true i rest = let same : e.1 ≡ x = cc in ap test (sym same) ∙ (let f : test e.1 ≡ false = grind arith in f)
    go false i rest = rest (grind arith) i

-- a home has headers of its own lines alone
abbrev pub KeepsOwn : Sizes → Share → ℕ → Type 0
KeepsOwn sizes share home = (line : ℕ) → home_of sizes line ≢ home → fin.get share.headers line ≡ None

-- the line of an entry of a home is one of its own
pub entry-own : (sizes : Sizes) (share : Share) (home : ℕ) → KeepsOwn sizes share home → (line : ℕ) (header : Header) → fin.get share.headers line ≡ Some header → home_of sizes line ≡ home
entry-own sizes share home own line header is = go (home_of sizes line == home) refl
  where
    go : (c : Bool) → (home_of sizes line == home) ≡ c → home_of sizes line ≡ home
    go true e = grind (arith, nat_tests)
    go false e = absurd (let far : home_of sizes line ≢ home = grind (arith, nat_tests) in let n : ◌≡◌ {A = Option Header} None (Some header) = sym (own line far) ∙ is in cc)

pub header-found : (sizes : Sizes) (share : Share) (line : ℕ) (header : Header) → fin.get share.headers line ≡ Some header → header_of sizes share line ≡ header
unfolding header_in
header-found sizes share line header is = ap (λ o. unwrap_or o (first_header sizes)) is

-- a line is asked for only where links are counted, none is free, and no pending line holds one
asked-link : (room : Room) (src : ℕ) (header : Header) → wants_victim room src header ≡ true → (room.linked ≡ true) × (room.link_free ≡ false) × (room.link_pending ≡ false)
unfolding wants_victim
asked-link room src header e = go (is_pending header) room.linked (listed header.list src) (nobody_listed header.list) room.link_free room.link_pending room.full e
  where
    go : (a l n m c d f : Bool) → (not a && ((l && not n && not m) && not c) && not d && not f) ≡ true → (l ≡ true) × (c ≡ false) × (d ≡ false)
    go a l n m c d f e = (grind arith, grind arith, grind arith)

module _ (charge : Charge) (sizes : Sizes) (share : Share) (home : ℕ) (own : KeepsOwn sizes share home) where
  -- a line of this home that may be called in
  fit-line : is_linked charge ≡ true → 0 < sizes.links → (room_of charge sizes share).link_free ≡ false → (room_of charge sizes share).link_pending ≡ false → (g : ℕ) × (fits_victim charge sizes home share g ≡ true)
  fit-line linked some full calm =
      let all : sizes.links ≤ links_among share.headers = ltb-false (links_among share.headers) sizes.links full in
      let held : 0 < over links_in (fin.entries share.headers) = omega arith in
      let f : Found (λ h. nat_lt 0 (links_in h)) (fin.entries share.headers) = found (λ h. nat_lt 0 (links_in h)) (fin.entries share.headers) (fin.entries_sorted share.headers) (some-entry links_in (fin.entries share.headers) held) in
      let quiet : (is_pending f.1 && nat_lt 1 (count f.1.list)) ≡ false = none-found (λ h. is_pending h && nat_lt 1 (count h.list)) (fin.entries share.headers) f.0 f.1 calm f.2 in
      let at : fin.get share.headers f.0 ≡ Some f.1 = fin.get-entries share.headers f.0 ∙ f.2 in
      let here = entry-own sizes share home own f.0 f.1 at in
      let has : header_of sizes share f.0 ≡ f.1 = header-found sizes share f.0 f.1 at in
      (f.0, subst (λ h. ((home_of sizes f.0 == home) && holds_link (room_of charge sizes share) h && not (is_pending h)) ≡ true) (sym has) (fits f.1 (home_of sizes f.0 == home) (let e = here in grind (arith, nat_tests)) f.3 quiet))
    where
      fits : (h : Header) (c : Bool) → c ≡ true → nat_lt 0 (links_in h) ≡ true → (is_pending h && nat_lt 1 (count h.list)) ≡ false → (c && holds_link (room_of charge sizes share) h && not (is_pending h)) ≡ true
      fits h c e links quiet = subst (λ l. (c && (l && not (count h.list == 0) && not (count h.list == 1)) && not (is_pending h)) ≡ true) (sym linked) (go c (count h.list) (is_pending h) e links quiet)
        where
          go : (c : Bool) (n : ℕ) (p : Bool) → c ≡ true → nat_lt 0 (cond (n == 0) 0 (Prim.Native.Nat.pred n)) ≡ true → (p && nat_lt 1 n) ≡ false → (c && (true && not (n == 0) && not (n == 1)) && not p) ≡ true
          go c n p e l q = grind (arith, nat_tests)

  -- where a message asks for a line to be called in there is one
  pub victim-there : 0 < sizes.links → (src : ℕ) (m : Msg) → asks_victim charge sizes home share src m ≡ true → (g : ℕ) × (fits_victim charge sizes home share g ≡ true)
  victim-there some src m asks =
      let wants : wants_victim (room_of charge sizes share) src (line_share sizes share (msg_line m)).header ≡ true = last (meets_row sizes home share src m) (is_get (msg_content m)) _ asks in
      let link = asked-link (room_of charge sizes share) src (line_share sizes share (msg_line m)).header wants in
      fit-line link.0 some link.1 link.2
    where
      last : (a b c : Bool) → (a && b && c) ≡ true → c ≡ true
      last a b c e = grind arith
