-- One line of a home has another header: the home's view is the old one with that header put in, and what each home keeps stays, if
-- the new header keeps it, the directory has its list, and the places of the budget and the lines that hold links follow it.
use Rattle.std.proofs.Common.{◌≡◌, ◌≢◌, ℕ, ◌+◌, ◌*◌, ◌%◌, ◌<◌, ◌≤◌, Bool, true, false, cond, ◌==◌, ◌↔◌, List, length, Some, refl, sym, ap, ◌∙◌, subst, arith, unwrap_or}
use Rattle.std.specs.Prelude.{is_some}
use Rattle.std.proofs.lemmas.Bool.Decides.{nat_tests}
use Rattle.std.proofs.lemmas.List.{length-set}
use Rattle.std.specs.FinMap as fin
use Rattle.line_map.specs.Sizes.{Sizes, home_of}
use Rattle.op_model.specs.Nodes.{Nodes, listed, count, listed-enlist, listed-unlist}
use Rattle.op_model.specs.Operations.{Words}
use Rattle.op_model.specs.Lines.{Header, is_pending}
use Rattle.op_model.specs.Shares.{first_header, links_in, header_in, links_among}
use Rattle.op_model.specs.Tables.Remote.{is_invalidate}
use Rattle.op_model.proofs.Public.{get-put}
use Rattle.dir_header.specs.Sharers.{Directory, Linked, IsDirectory, list_at, held_by, held_in, with_list}
use Rattle.dir_header.specs.Budgets.{BudgetView}
use Rattle.dir_header.specs.HomeSides.{HomeView, Fields, header_at, pending_in, IsHome}
use Rattle.dir_header.specs.Standings.{HoldersView, standing_in, stands_victim, put_in, counted, moved}
use Rattle.dir_header.specs.declared.header.Standing.{Standing}
use Rattle.dir_header.specs.declared.header.Standing.TheVariants.{Linkless, Victim, Pending}
use Rattle.dir_header.specs.HomeParts.{line_header, home_view, IsCounted, IsHomeSide}
use Rattle.dir_header.proofs.Directories.{held-set, list-set_same, list-set_other}
use Rattle.dir_header.proofs.Tables.{get-within, table-put, line_is, line_from, line_to, line_own}
use Rattle.dir_header.proofs.Sums.{sum-insert, sum-at-least}

pub put_in-own : (victims : Nodes) (m : ℕ) (s : Standing) → listed (put_in victims m s) m ≡ stands_victim s
put_in-own victims m Linkless = let l = listed-unlist victims m m in let e : (m == m) ≡ true = grind (arith, nat_tests) in grind (arith, nat_tests)
put_in-own victims m Victim = let l = listed-enlist victims m m in let e : (m == m) ≡ true = grind (arith, nat_tests) in grind (arith, nat_tests)
put_in-own victims m Pending = let l = listed-unlist victims m m in let e : (m == m) ≡ true = grind (arith, nat_tests) in grind (arith, nat_tests)

pub put_in-other : (victims : Nodes) (m : ℕ) (s : Standing) (k : ℕ) → (k == m) ≡ false → listed (put_in victims m s) k ≡ listed victims k
put_in-other victims m Linkless k e = let l = listed-unlist victims m k in grind (arith, nat_tests)
put_in-other victims m Victim k e = let l = listed-enlist victims m k in grind (arith, nat_tests)
put_in-other victims m Pending k e = let l = listed-unlist victims m k in grind (arith, nat_tests)

abbrev pub pend : Header → ℕ
pend header = cond (is_pending header) 1 0

module _ {D : Type 0} (dir : Directory) (sizes : Sizes) (node : ℕ) (headers : List Fields) (memory : List Words) (d : D) (budget : BudgetView) (holders : HoldersView)
    (is : IsHomeSide dir sizes node headers memory d budget holders) (line : ℕ) (own : home_of sizes line ≡ node) where
  abbrev view : HomeView D
  view = home_view dir sizes node headers memory d

  abbrev m : ℕ
  m = line % sizes.lines

  abbrev old : Header
  old = line_header headers memory dir.lists m

  pub m_below : m < sizes.lines
  m_below = let s = is.some_lines in omega arith

  pub m_listed : m < length dir.lists
  m_listed = let n = is.home.lines in let b = m_below in omega arith

  pub has : fin.get view.headers line ≡ Some old
  has = get-within (λ l. line_header headers memory dir.lists (l % sizes.lines)) (node * sizes.lines) sizes.lines line (line_from sizes node is.some_lines line own) (line_to sizes node is.some_lines line own)

  pub header-is : header_at view line ≡ old
  unfolding header_in
  header-is = ap (λ o. unwrap_or o (first_header sizes)) has

  -- two lines of this home have two places
  apart : (q : ℕ) → home_of sizes q ≡ node → (q == line) ≡ false → (q % sizes.lines == m) ≡ false
  apart q own' e =
      let a = line_is sizes node is.some_lines q own' in
      let b = line_is sizes node is.some_lines line own in
      let other : q % sizes.lines ≢ m = λ same. absurd (let l : q ≡ line = omega arith in grind (arith, nat_tests)) in
      grind (arith, nat_tests)

  module _ (dir' : Directory) (headers' : List Fields) (memory' : List Words) (d' : D) (header' : Header) (dir-is : dir' ≡ with_list dir m header'.list)
      (here : line_header headers' memory' dir'.lists m ≡ header')
      (others : (k : ℕ) → k < sizes.lines → k ≢ m → line_header headers' memory' dir'.lists k ≡ line_header headers memory dir.lists k) where
    abbrev changed : HomeView D
    changed = record { sizes = sizes; node = node; charge = dir.charge; dir = d'; headers = fin.insert view.headers line header' }

    headers-are : (home_view dir' sizes node headers' memory' d').headers ≡ fin.insert view.headers line header'
    headers-are =
        table-put (λ l. line_header headers memory dir.lists (l % sizes.lines)) (λ l. line_header headers' memory' dir'.lists (l % sizes.lines)) (node * sizes.lines) sizes.lines line
        (line_from sizes node is.some_lines line own) (line_to sizes node is.some_lines line own)
        (λ q from to other. others (q % sizes.lines) (let s = is.some_lines in omega arith)
        (let e = apart q (line_own sizes node is.some_lines q from to) (let o : q ≢ line = other in grind (arith, nat_tests)) in grind (arith, nat_tests)))
        ∙ ap (λ h. fin.insert view.headers line h) here

    pub view-is : home_view dir' sizes node headers' memory' d' ≡ changed
    view-is = let charge = ap (λ x. x.charge) dir-is in λ i. record { sizes = sizes; node = node; charge = charge i; dir = d'; headers = headers-are i }

    own-header : header_at changed line ≡ header'
    unfolding header_in
    own-header = ap (λ o. unwrap_or o (first_header sizes)) (get-put view.headers line header' line ∙ ap (λ b. cond b (Some header') (fin.get view.headers line)) (let e : (line == line) ≡ true = grind (arith, nat_tests) in e))

    other-header : (q : ℕ) → (q == line) ≡ false → header_at changed q ≡ header_at view q
    unfolding header_in
    other-header q e = ap (λ o. unwrap_or o (first_header sizes)) (get-put view.headers line header' q ∙ ap (λ b. cond b (Some header') (fin.get view.headers q)) e)

    -- what is so of the new header, and of each old one, is so of each
    each : (P : ℕ → Header → Type 0) → P line header' → ((q : ℕ) → (q == line) ≡ false → P q (header_at view q)) → (q : ℕ) → P q (header_at changed q)
    each P new olds q = by_line (q == line) refl
      where
        by_line : (b : Bool) → (q == line) ≡ b → P q (header_at changed q)
        by_line true e = let same : line ≡ q = grind (arith, nat_tests) in subst (λ l. P l (header_at changed l)) same (subst (λ h. P line h) (sym own-header) new)
        by_line false e = subst (λ h. P q h) (sym (other-header q e)) (olds q e)

    same_own : (q : ℕ) → is_some (fin.get (fin.insert view.headers line header') q) ≡ is_some (fin.get view.headers q)
    same_own q = by_line (q == line) refl
      where
        by_line : (b : Bool) → (q == line) ≡ b → is_some (fin.get (fin.insert view.headers line header') q) ≡ is_some (fin.get view.headers q)
        by_line true e =
            let same : q ≡ line = grind (arith, nat_tests) in
            ap is_some (get-put view.headers line header' q ∙ ap (λ b. cond b (Some header') (fin.get view.headers q)) e) ∙ sym (ap is_some (ap (fin.get view.headers) same ∙ has))
        by_line false e = ap is_some (get-put view.headers line header' q ∙ ap (λ b. cond b (Some header') (fin.get view.headers q)) e)

    list_there : list_at dir' m ≡ header'.list
    list_there = ap (λ x. list_at x m) dir-is ∙ list-set_same dir m header'.list m_listed

    lists_other : (k : ℕ) → (k == m) ≡ false → list_at dir' k ≡ list_at dir k
    lists_other k e = ap (λ x. list_at x k) dir-is ∙ list-set_other dir m k header'.list (let other : k ≢ m = grind (arith, nat_tests) in other)

    held-is : dir.charge ≡ Linked → links_among changed.headers ≡ held_in dir'
    held-is linked =
        let sum = sum-insert links_in line header' old view.headers has in
        let all = held-set dir m header'.list m_listed in
        let one = ap (λ c. held_by c header'.list) linked in
        let other = ap (λ c. held_by c (list_at dir m)) linked in
        let before = is.home.held linked in
        let after = ap held_in dir-is in
        omega arith

    module _ (budget' : BudgetView) (holders' : HoldersView) (kept : IsDirectory dir') (below : (q : ℕ) → listed header'.list q ≡ true → q < sizes.nodes)
        (acks : is_invalidate header'.wait ≡ true → header'.acks ≡ count header'.list) (width : length header'.memory ≡ sizes.words)
        (used : budget'.used + pend old ≡ budget.used + pend header') (limit : budget'.limit ≡ budget.limit) (room : budget'.used ≤ budget'.limit)
        (moves : holders' ≡ moved holders m (standing_in dir.charge old) (standing_in dir.charge header')) where
      used_is : budget'.used ≡ pending_in changed
      used_is = let sum = sum-insert pend line header' old view.headers has in let before = is.counted.used in omega arith

      home-kept : IsHome dir' changed
      home-kept = record {
        numbered = is.home.numbered;
        charge = ap (λ x. x.charge) dir-is;
        links = ap (λ x. x.links) dir-is ∙ is.home.links;
        bound = subst (λ n. sizes.nodes ≤ n) (sym (ap (λ x. x.nodes) dir-is)) is.home.bound;
        lines = ap (λ x. length x.lists) dir-is ∙ length-set dir.lists m header'.list ∙ is.home.lines;
        dir_kept = kept;
        own = λ q. subst (λ b. b ≡ true ↔ home_of sizes q ≡ node) (sym (same_own q)) (is.home.own q);
        lists = each (λ q h. home_of sizes q ≡ node → h.list ≡ list_at dir' (q % sizes.lines)) (λ o. sym list_there)
            (λ q e o. is.home.lists q o ∙ sym (lists_other (q % sizes.lines) (apart q o e)));
        below = λ q n. each (λ q h. home_of sizes q ≡ node → listed h.list n ≡ true → n < sizes.nodes) (λ o. below n) (λ q e. is.home.below q n) q;
        acks = each (λ q h. home_of sizes q ≡ node → is_invalidate h.wait ≡ true → h.acks ≡ count h.list) (λ o. acks) (λ q e. is.home.acks q);
        width = each (λ q h. home_of sizes q ≡ node → length h.memory ≡ sizes.words) (λ o. width) (λ q e. is.home.width q);
        few = let u = used_is in let l = is.counted.limit in omega arith;
        held = held-is;
      }

      counted-kept : IsCounted changed budget' holders'
      counted-kept = record {
        used = used_is;
        limit = limit ∙ is.counted.limit;
        victims = each (λ q h. home_of sizes q ≡ node → listed holders'.victims (q % sizes.lines) ≡ stands_victim (standing_in dir.charge h))
            (λ o. ap (λ x. listed x.victims m) moves ∙ put_in-own holders.victims m (standing_in dir.charge header'))
            (λ q e o. ap (λ x. listed x.victims (q % sizes.lines)) moves ∙ put_in-other holders.victims m (standing_in dir.charge header') (q % sizes.lines) (apart q o e) ∙ is.counted.victims q o);
        few = λ k there. low k (ap (λ x. listed x.victims k) (sym moves) ∙ there) (k == m) refl;
        pending =
            let sum = sum-insert (λ h. counted (standing_in dir.charge h)) line header' old view.headers has in
            let least = sum-at-least (λ h. counted (standing_in dir.charge h)) line header' old view.headers has in
            let before = is.counted.pending in
            let after = ap (λ x. x.pending) moves in
            omega arith;
      }
        where
          low : (k : ℕ) → listed (put_in holders.victims m (standing_in dir.charge header')) k ≡ true → (b : Bool) → (k == m) ≡ b → k < sizes.lines
          low k there true e = let same : k ≡ m = grind (arith, nat_tests) in let b = m_below in omega arith
          low k there false e = is.counted.few k (sym (put_in-other holders.victims m (standing_in dir.charge header') k e) ∙ there)

      pub side-kept : length headers' ≡ length headers → length memory' ≡ length memory → IsHomeSide dir' sizes node headers' memory' d' budget' holders'
      side-kept fields bodies = record {
        some_lines = is.some_lines;
        most_lines = is.most_lines;
        most_nodes = is.most_nodes;
        most_pending = is.most_pending;
        fields = fields ∙ is.fields;
        bodies = bodies ∙ is.bodies;
        home = subst (IsHome dir') (sym view-is) home-kept;
        counted = subst (λ v. IsCounted v budget' holders') (sym view-is) counted-kept;
      }
