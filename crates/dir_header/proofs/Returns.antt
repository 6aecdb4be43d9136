-- What each call of a home says of it, from what the call leaves of the parts: in each case the header that is put in is the old one
-- of the line with the fields, the list or the words that the call names.
use Rattle.std.proofs.Common.{◌≡◌, ℕ, ◌-◌, ◌%◌, ◌<◌, Bool, true, false, not, ◌&&◌, ◌==◌, ◌↔◌, IsTrue, IfSome, Option, Some, None, List, [], length, refl, sym, ap, ◌∙◌, arith, get_or}
use Rattle.std.specs.Prelude.{nat_lt}
use Rattle.std.proofs.lemmas.Bool.{and_from, and_parts, eq-eqb, eqb-true, true≢false}
use Rattle.std.proofs.lemmas.Bool.Decides.{nat_tests}
use Rattle.std.specs.FinMap as fin
use Rattle.line_map.specs.Sizes.{Sizes, home_of}
use Rattle.op_model.specs.Nodes.{Nodes, listed, count, listed-none, none_of_count}
use Rattle.op_model.specs.Operations.{Words}
use Rattle.op_model.specs.Lines.{Header, nobody_listed}
use Rattle.op_model.specs.Shares.{links_among}
use Rattle.op_model.specs.Tables.Home.{lacks_link}
use Rattle.op_model.specs.Tables.Remote.{is_invalidate}
use Rattle.dir_header.specs.Sharers.{Directory, Charge, Linked, Unlinked, is_linked, list_at, held_in, free_in, needs_link, with_list}
use Rattle.dir_header.specs.Budgets.{BudgetView}
use Rattle.dir_header.specs.HomeSides.{HomeView, Fields, header_at, room_in, relisted}
use Rattle.dir_header.specs.Standings.{HoldersView}
use Rattle.dir_header.specs.HomeParts.{blank, joined, line_header, home_view, IsHomeSide}
use Rattle.dir_header.proofs.Calls.{here-is, m_in, acks-old, relist-view}

-- a list with a listed node isn't empty
pub some-listed : (s : Nodes) (q : ℕ) → listed s q ≡ true → 0 < count s
some-listed s q there = by_count (count s == 0) refl
  where
    by_count : (b : Bool) → (count s == 0) ≡ b → 0 < count s
    by_count true e =
        let zero : count s ≡ 0 = grind (arith, nat_tests) in
        absurd (true≢false (sym there ∙ ap (λ t. listed t q) (none_of_count s zero) ∙ listed-none q))
    by_count false e = grind (arith, nat_tests)

linked-is : (charge : Charge) → is_linked charge ≡ true → charge ≡ Linked
linked-is Linked e = refl
linked-is Unlinked e = cc

grouped : (a b c d e : Bool) → (a ≡ true → d ≡ e) → ((a && (b && c)) && d) ≡ (a && b && c && e)
grouped true b c d e same = ap (λ t. (b && c) && t) (same refl)
grouped false b c d e same = refl

none_free : (held links held' links' : ℕ) → held' ≡ held → links ≡ links' → (links - held == 0) ≡ not (nat_lt held' links')
none_free held links held' links' a b = grind (arith, nat_tests)

module _ {D : Type 0} (dir : Directory) (sizes : Sizes) (node : ℕ) (headers : List Fields) (memory : List Words) (d : D) (budget : BudgetView) (holders : HoldersView)
    (is : IsHomeSide dir sizes node headers memory d budget holders) (line : ℕ) (own : home_of sizes line ≡ node) (p : ℕ) (p-is : p ≡ line % sizes.lines) where
  abbrev view : HomeView D
  view = home_view dir sizes node headers memory d

  abbrev m : ℕ
  m = line % sizes.lines

  abbrev old : Header
  old = line_header headers memory dir.lists m

  old-is : header_at view line ≡ old
  old-is = here-is dir sizes node headers memory d budget holders is line own p p-is

  pub place-within : p < length dir.lists
  place-within = let b = m_in dir sizes node headers memory d budget holders is line own p p-is in omega arith

  pub bound-at : (n : ℕ) → n < sizes.nodes → n < dir.nodes
  bound-at n below = let b = is.home.bound in omega arith

  pub some-bound : (only : Option ℕ) → IfSome only (λ n. n < sizes.nodes) → IfSome only (λ n. n < dir.nodes)
  some-bound None below = tt
  some-bound (Some n) below = bound-at n below

  pub calm-old : is_invalidate (header_at view line).wait ≡ false → is_invalidate old.wait ≡ false
  calm-old calm = ap (λ h. is_invalidate h.wait) (sym old-is) ∙ calm

  pub list-old : (header_at view line).list ≡ list_at dir p
  list-old = ap (λ h. h.list) old-is ∙ ap (list_at dir) (sym p-is)

  -- the calls that change a list, by what they make of it
  module _ (change : Nodes → Nodes) (dir' : Directory) (d' : D) (dir-was : dir' ≡ with_list dir p (change (list_at dir p))) where
    pub relist-returns : home_view dir' sizes node headers memory d' ≡ relisted view d' line (change (header_at view line).list)
    relist-returns =
        relist-view dir sizes node headers memory d budget holders is line own p p-is dir' d' (change (list_at dir p)) dir-was
        ∙ ap put (ap (λ k. joined (get_or headers m blank) (change (list_at dir k)) (get_or memory m [])) p-is ∙ ap (λ (h : Header). record h { list = change h.list }) (sym old-is))
      where
        put : Header → HomeView D
        put h = record view { dir = d'; headers = fin.insert view.headers line h }

    pub dir-returns : dir' ≡ with_list dir m (change (header_at view line).list)
    dir-returns = dir-was ∙ (λ i. with_list dir (p-is i) (change (sym list-old i)))

  -- a link is lacked where one is needed and none is free
  lacks-is : (n : ℕ) → (needs_link dir p n && (free_in dir == 0)) ≡ lacks_link (room_in view) n (header_at view line)
  lacks-is n =
      ap (λ k. needs_link dir k n && (free_in dir == 0)) p-is
      ∙ grouped (is_linked dir.charge) (not (listed old.list n)) (not (nobody_listed old.list)) (free_in dir == 0) (not (nat_lt (links_among view.headers) sizes.links))
      (λ linked. none_free (held_in dir) dir.links (links_among view.headers) sizes.links (is.home.held (linked-is dir.charge linked)) is.home.links)
      ∙ ap (lacks_link (room_in view) n) (sym old-is)

  -- a refusal, in the words of the directory and in those of the tables
  pub room-returns : (n : ℕ) (refused : Bool) → (refused ≡ true ↔ (IsTrue (needs_link dir p n) × (free_in dir ≡ 0))) → (refused ≡ true ↔ (lacks_link (room_in view) n (header_at view line) ≡ true))
  room-returns n refused is_room = (
    (λ e. sym (lacks-is n) ∙ and_from (needs_link dir p n) (free_in dir == 0) (is_room.0 e).0 (eq-eqb (free_in dir) 0 (is_room.0 e).1)),
    (λ lacks. let parts = and_parts (needs_link dir p n) (free_in dir == 0) (lacks-is n ∙ lacks) in is_room.1 (parts.0, eqb-true (free_in dir) 0 parts.1)),
  )

  pub acks-some : (n : ℕ) → (is_invalidate old.wait && listed (list_at dir p) n) ≡ true → 0 < old.acks
  acks-some n both =
      let waits : is_invalidate old.wait ≡ true = grind (arith, nat_tests) in
      let there : listed (list_at dir p) n ≡ true = grind (arith, nat_tests) in
      let some = some-listed old.list n (ap (λ k. listed (list_at dir k) n) (sym p-is) ∙ there) in
      let due = acks-old dir sizes node headers memory d budget holders is line own p p-is waits in
      omega arith
