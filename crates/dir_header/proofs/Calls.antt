-- What a call leaves of a home's parts: the lists of the directory changed at one line, with the fields of that line's header written
-- or not, or its words in memory. Each is a change of one header.
use Rattle.std.proofs.Common.{◌≡◌, ◌≢◌, ℕ, ◌+◌, ◌-◌, ◌%◌, ◌<◌, ◌≤◌, Bool, true, false, cond, not, ◌==◌, List, [], length, refl, sym, ap, ◌∙◌, arith, get_or, set}
use Rattle.std.proofs.lemmas.Bool.{true≢false}
use Rattle.std.proofs.lemmas.Bool.Decides.{nat_tests}
use Rattle.std.proofs.lemmas.List.Sums.{sum_by-le-sum_by}
use Rattle.std.proofs.lemmas.List.{get_or-set_same, get_or-set_other, get_or_read_under, set-get_or, length-set}
use Rattle.std.specs.FinMap as fin
use Rattle.line_map.specs.Sizes.{Sizes, home_of}
use Rattle.op_model.specs.Nodes.{Nodes, none, listed, count, same_nodes}
use Rattle.op_model.specs.Operations.{Words}
use Rattle.op_model.specs.declared.state.Wait.{Wait}
use Rattle.op_model.specs.Lines.{Header, is_idle}
use Rattle.op_model.specs.Tables.Remote.{is_invalidate}
use Rattle.dir_header.specs.Sharers.{Directory, IsDirectory, list_at, held_by, with_list}
use Rattle.dir_header.specs.Budgets.{BudgetView}
use Rattle.dir_header.specs.HomeSides.{HomeView, Fields, header_at, with_header}
use Rattle.dir_header.specs.Standings.{HoldersView, standing_of, standing_in, stands_victim, counted, moved, put_in}
use Rattle.dir_header.specs.declared.header.Standing.{Standing}
use Rattle.dir_header.specs.declared.header.Standing.TheVariants.{Linkless, Victim, Pending}
use Rattle.dir_header.specs.HomeParts.{blank, joined, line_header, home_view, IsHomeSide}
use Rattle.dir_header.proofs.Directories.{list-set_same, list-set_other}
use Rattle.dir_header.proofs.Sums.{sum-at-least}
use Rattle.dir_header.proofs.Changes.{pend, m_below, m_listed, has, header-is, view-is, side-kept, put_in-own, put_in-other}

module _ {D : Type 0} (dir : Directory) (sizes : Sizes) (node : ℕ) (headers : List Fields) (memory : List Words) (d : D) (budget : BudgetView) (holders : HoldersView)
    (is : IsHomeSide dir sizes node headers memory d budget holders) (line : ℕ) (own : home_of sizes line ≡ node) (p : ℕ) (p-is : p ≡ line % sizes.lines) where
  abbrev view : HomeView D
  view = home_view dir sizes node headers memory d

  abbrev m : ℕ
  m = line % sizes.lines

  abbrev old : Header
  old = line_header headers memory dir.lists m

  abbrev stood : Standing
  stood = standing_in dir.charge old

  p_below : p < sizes.lines
  p_below = let b = m_below dir sizes node headers memory d budget holders is line own in omega arith

  pub fields-read : (h : Fields) → h ≡ get_or headers p h → h ≡ get_or headers m blank
  fields-read h e = get_or_read_under headers p sizes.lines h blank e p_below (sym is.fields) ∙ ap (λ i. get_or headers i blank) p-is

  pub memory-read : (ws : Words) → ws ≡ get_or memory p ws → ws ≡ get_or memory m []
  memory-read ws e = get_or_read_under memory p sizes.lines ws [] e p_below (sym is.bodies) ∙ ap (λ i. get_or memory i []) p-is

  -- how the line stands, as read
  pub stands : (h : Fields) (links : ℕ) (s : Standing) → h ≡ get_or headers p h → links ≡ held_by dir.charge (list_at dir p) → s ≡ standing_of h.wait links → s ≡ stood
  stands h links s read held e =
      let here = held ∙ ap (λ k. held_by dir.charge (list_at dir k)) p-is in
      let fields = fields-read h read in
      e ∙ (λ i. standing_of ((fields i).wait) (here i))

  pub counted-least : counted stood ≤ holders.pending
  counted-least =
      let least = sum-at-least (λ h. counted (standing_in dir.charge h)) line old old view.headers (has dir sizes node headers memory d budget holders is line own) in
      let e = is.counted.pending in omega arith

  pub used-least : pend old ≤ budget.used
  used-least =
      let least = sum-at-least pend line old old view.headers (has dir sizes node headers memory d budget holders is line own) in
      let e = is.counted.used in omega arith

  same_standing : holders ≡ moved holders m stood stood
  same_standing = λ i. record { victims = victims i; pending = number i }
    where
      victims : holders.victims ≡ put_in holders.victims m stood
      victims = same_nodes _ _ (λ q. by_line q (q == m) refl)
        where
          by_line : (q : ℕ) (b : Bool) → (q == m) ≡ b → listed holders.victims q ≡ listed (put_in holders.victims m stood) q
          by_line q true e =
              let same : q ≡ m = grind (arith, nat_tests) in
              ap (listed holders.victims) same ∙ is.counted.victims line own ∙ ap (λ h. stands_victim (standing_in dir.charge h)) (header-is dir sizes node headers memory d budget holders is line own)
              ∙ sym (ap (listed (put_in holders.victims m stood)) same ∙ put_in-own holders.victims m stood)
          by_line q false e = sym (put_in-other holders.victims m stood q e)

      number : holders.pending ≡ (holders.pending - counted stood) + counted stood
      number = let l = counted-least in omega arith

  pub same_list : dir ≡ with_list dir m old.list
  same_list = λ i. record { lists = lists i; charge = dir.charge; links = dir.links; nodes = dir.nodes }
    where
      lists : dir.lists ≡ set dir.lists m (get_or dir.lists m none)
      lists = sym (set-get_or dir.lists m none)

  pub m_in : m < length dir.lists
  m_in = m_listed dir sizes node headers memory d budget holders is line own

  pub here-is : header_at view line ≡ old
  here-is = header-is dir sizes node headers memory d budget holders is line own

  pub below-at : (q : ℕ) → listed (list_at dir p) q ≡ true → q < sizes.nodes
  below-at q there = is.home.below line q own (ap (λ h. listed h.list q) here-is ∙ ap (λ k. listed (list_at dir k) q) (sym p-is) ∙ there)

  pub below-old : (q : ℕ) → listed old.list q ≡ true → q < sizes.nodes
  below-old q there = is.home.below line q own (ap (λ h. listed h.list q) here-is ∙ there)

  pub acks-old : is_invalidate old.wait ≡ true → old.acks ≡ count old.list
  acks-old waits = sym (ap (λ h. h.acks) here-is) ∙ is.home.acks line own (ap (λ h. is_invalidate h.wait) here-is ∙ waits) ∙ ap (λ h. count h.list) here-is

  pub room-old : budget.used ≤ budget.limit
  room-old = let u = is.counted.used in let l = is.counted.limit in let f = is.home.few in omega arith

  pub few-least : holders.pending < 4096
  few-least =
      let most = sum_by-le-sum_by (λ e. counted (standing_in dir.charge e.1)) (λ e. pend e.1) (fin.entries view.headers) (λ e. at_most (e.1).wait (held_by dir.charge (e.1).list)) in
      let e = is.counted.pending in let f = is.home.few in let n = is.most_pending in omega arith
    where
      at_most : (wait : Wait) (links : ℕ) → counted (standing_of wait links) ≤ cond (not (is_idle wait)) 1 0
      at_most wait links = by_tests (links == 0) (is_idle wait)
        where
          by_tests : (a b : Bool) → counted (cond a Linkless (cond b Victim Pending)) ≤ cond (not b) 1 0
          by_tests true true = omega arith
          by_tests true false = omega arith
          by_tests false true = omega arith
          by_tests false false = omega arith

  -- the lines that hold links, after a change that was made at the line's place
  pub moves-at : (holders' : HoldersView) (before after after' : Standing) → holders' ≡ moved holders p before after → before ≡ stood → after ≡ after' → holders' ≡ moved holders m stood after'
  moves-at holders' before after after' e was now = e ∙ (λ i. moved holders (p-is i) (was i) (now i))

  pub same_list-at : dir ≡ with_list dir p old.list
  same_list-at = same_list ∙ ap (λ k. with_list dir k old.list) (sym p-is)

  -- a list is changed
  module _ (dir' : Directory) (d' : D) (list : Nodes) (dir-was : dir' ≡ with_list dir p list) where
    pub dir-is : dir' ≡ with_list dir m list
    dir-is = dir-was ∙ ap (λ k. with_list dir k list) p-is

    list-here : list_at dir' m ≡ list
    list-here = ap (λ x. list_at x m) dir-is ∙ list-set_same dir m list m_in

    list-other : (k : ℕ) → k ≢ m → list_at dir' k ≡ list_at dir k
    list-other k other = ap (λ x. list_at x k) dir-is ∙ list-set_other dir m k list other

    -- how the line stands then
    pub stands-after : (wait : Wait) (links : ℕ) (s : Standing) → wait ≡ old.wait → links ≡ held_by dir'.charge (list_at dir' p) → s ≡ standing_of wait links → s ≡ standing_of old.wait (held_by dir.charge list)
    stands-after wait links s same held e =
        let charge = ap (λ x. x.charge) dir-is in
        let there = held ∙ ap (λ k. held_by dir'.charge (list_at dir' k)) p-is ∙ (λ i. held_by (charge i) (list-here i)) in
        e ∙ (λ i. standing_of (same i) (there i))

    abbrev relisted-header : Header
    relisted-header = joined (get_or headers m blank) list (get_or memory m [])

    relist-here : line_header headers memory dir'.lists m ≡ relisted-header
    relist-here = ap (λ l. joined (get_or headers m blank) l (get_or memory m [])) list-here

    relist-others : (k : ℕ) → k < sizes.lines → k ≢ m → line_header headers memory dir'.lists k ≡ line_header headers memory dir.lists k
    relist-others k below other = ap (λ l. joined (get_or headers k blank) l (get_or memory k [])) (list-other k other)

    pub relist-view : home_view dir' sizes node headers memory d' ≡ record { sizes = sizes; node = node; charge = dir.charge; dir = d'; headers = fin.insert view.headers line relisted-header }
    relist-view = view-is dir sizes node headers memory d budget holders is line own dir' headers memory d' relisted-header dir-is relist-here relist-others

    pub relist-kept : (holders' : HoldersView) → IsDirectory dir' → ((q : ℕ) → listed list q ≡ true → q < sizes.nodes) → is_invalidate old.wait ≡ false →
        holders' ≡ moved holders m stood (standing_of old.wait (held_by dir.charge list)) → IsHomeSide dir' sizes node headers memory d' budget holders'
    relist-kept holders' kept below calm moves =
        side-kept dir sizes node headers memory d budget holders is line own dir' headers memory d' relisted-header dir-is relist-here relist-others
        budget holders' kept below (λ waits. absurd (true≢false (sym waits ∙ calm))) (width-old) refl refl room-old moves refl refl
      where
        width-old : length old.memory ≡ sizes.words
        width-old = sym (ap (λ h. length h.memory) (header-is dir sizes node headers memory d budget holders is line own)) ∙ is.home.width line own

    -- and the fields of the header are written
    module _ (h : Fields) where
      abbrev refielded : Header
      refielded = joined h list (get_or memory m [])

      refield-here : line_header (set headers p h) memory dir'.lists m ≡ refielded
      refield-here = λ i. joined (fields i) (list-here i) (get_or memory m [])
        where
          fields : get_or (set headers p h) m blank ≡ h
          fields = ap (λ k. get_or (set headers k h) m blank) p-is ∙ get_or-set_same headers m h blank (let b = m_below dir sizes node headers memory d budget holders is line own in let l = is.fields in omega arith)

      refield-others : (k : ℕ) → k < sizes.lines → k ≢ m → line_header (set headers p h) memory dir'.lists k ≡ line_header headers memory dir.lists k
      refield-others k below other = λ i. joined (fields i) (list-other k other i) (get_or memory k [])
        where
          fields : get_or (set headers p h) k blank ≡ get_or headers k blank
          fields = ap (λ j. get_or (set headers j h) k blank) p-is ∙ get_or-set_other headers m k h blank other

      pub refield-view : home_view dir' sizes node (set headers p h) memory d' ≡ record { sizes = sizes; node = node; charge = dir.charge; dir = d'; headers = fin.insert view.headers line refielded }
      refield-view = view-is dir sizes node headers memory d budget holders is line own dir' (set headers p h) memory d' refielded dir-is refield-here refield-others

      pub refield-kept : (budget' : BudgetView) (holders' : HoldersView) → IsDirectory dir' → ((q : ℕ) → listed list q ≡ true → q < sizes.nodes) →
          (is_invalidate h.wait ≡ true → h.acks ≡ count list) → budget'.used + pend old ≡ budget.used + pend refielded → budget'.limit ≡ budget.limit → budget'.used ≤ budget'.limit →
          holders' ≡ moved holders m stood (standing_of h.wait (held_by dir.charge list)) → IsHomeSide dir' sizes node (set headers p h) memory d' budget' holders'
      refield-kept budget' holders' kept below acks used limit room moves =
          side-kept dir sizes node headers memory d budget holders is line own dir' (set headers p h) memory d' refielded dir-is refield-here refield-others
          budget' holders' kept below acks width-old used limit room moves (length-set headers p h) refl
        where
          width-old : length old.memory ≡ sizes.words
          width-old = sym (ap (λ x. length x.memory) (header-is dir sizes node headers memory d budget holders is line own)) ∙ is.home.width line own

  -- the words in memory are changed
  module _ (ws : Words) where
    abbrev rewritten : Header
    rewritten = joined (get_or headers m blank) (list_at dir m) ws

    rewrite-here : line_header headers (set memory p ws) dir.lists m ≡ rewritten
    rewrite-here = ap (joined (get_or headers m blank) (list_at dir m))
        (ap (λ k. get_or (set memory k ws) m []) p-is ∙ get_or-set_same memory m ws [] (let b = m_below dir sizes node headers memory d budget holders is line own in let l = is.bodies in omega arith))

    rewrite-others : (k : ℕ) → k < sizes.lines → k ≢ m → line_header headers (set memory p ws) dir.lists k ≡ line_header headers memory dir.lists k
    rewrite-others k below other = ap (joined (get_or headers k blank) (list_at dir k)) (ap (λ j. get_or (set memory j ws) k []) p-is ∙ get_or-set_other memory m k ws [] other)

    pub rewrite-view : home_view dir sizes node headers (set memory p ws) d ≡ with_header view line rewritten
    rewrite-view = view-is dir sizes node headers memory d budget holders is line own dir headers (set memory p ws) d rewritten same_list rewrite-here rewrite-others

    pub rewrite-kept : length ws ≡ sizes.words → IsHomeSide dir sizes node headers (set memory p ws) d budget holders
    rewrite-kept width =
        side-kept dir sizes node headers memory d budget holders is line own dir headers (set memory p ws) d rewritten same_list rewrite-here rewrite-others
        budget holders is.home.dir_kept below-old acks-old width refl refl room-old same_standing refl (length-set memory p ws)

  -- the flags of the header are changed
  pub flags-kept : (h : Fields) → h.wait ≡ old.wait → h.acks ≡ old.acks → IsHomeSide dir sizes node (set headers p h) memory d budget holders
  flags-kept h wait acks =
      refield-kept dir d old.list same_list-at h budget holders is.home.dir_kept below-old
      (λ waits. acks ∙ acks-old (ap is_invalidate (sym wait) ∙ waits)) (ap (λ w. budget.used + pend (record old { wait = w })) (sym wait)) refl room-old
      (same_standing ∙ ap (λ w. moved holders m stood (standing_of w (held_by dir.charge old.list))) (sym wait))

  pub flags-view : (h : Fields) → home_view dir sizes node (set headers p h) memory d ≡ with_header view line (joined h old.list old.memory)
  flags-view h = refield-view dir d old.list same_list-at h
