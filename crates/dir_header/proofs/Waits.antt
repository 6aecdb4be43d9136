-- The calls that change what a line waits for, or which acknowledgements it waits for: a node that goes takes its own with it; a line
-- that begins to wait takes a place in the budget, and one that ends gives it back.
use Rattle.std.proofs.Common.{◌≡◌, ℕ, ◌+◌, ◌-◌, ◌%◌, ◌<◌, ◌≤◌, Bool, true, false, cond, not, ◌&&◌, ◌↔◌, List, refl, sym, ap, ◌∙◌, subst, arith, get_or, set, true≢false}
use Rattle.std.specs.Prelude.{nat_le, if◌then◌else◌}
use Rattle.std.proofs.lemmas.Bool.Decides.{nat_tests}
use Rattle.std.specs.FinMap as fin
use Rattle.line_map.specs.Sizes.{Sizes, home_of}
use Rattle.op_model.specs.declared.state.Wait.{Wait}
use Rattle.op_model.specs.declared.state.Wait.TheVariants.{Idle}
use Rattle.op_model.specs.Nodes.{listed, unlist, count, count-unlist}
use Rattle.op_model.specs.Operations.{Words}
use Rattle.op_model.specs.Lines.{Header, is_pending, is_idle}
use Rattle.op_model.specs.Tables.Remote.{is_invalidate}
use Rattle.dir_header.specs.Sharers.{Directory, IsDirectory, list_at, held_by, with_list}
use Rattle.dir_header.specs.Budgets.{BudgetView}
use Rattle.dir_header.specs.HomeSides.{HomeView, Fields, header_at, room_in, with_header, unlisted, made_pending}
use Rattle.dir_header.specs.Standings.{HoldersView, standing_of, standing_in, moved}
use Rattle.dir_header.specs.declared.header.Standing.{Standing}
use Rattle.dir_header.specs.HomeParts.{blank, joined, line_header, home_view, IsHomeSide}
use Rattle.dir_header.proofs.Changes.{pend}
use Rattle.dir_header.proofs.Calls.{here-is, acks-old, below-at, below-old, room-old, used-least, moves-at, same_list-at, refield-view, refield-kept, flags-view}
use Rattle.dir_header.proofs.Directories.{unlist-below, unlisted-keeps}
use Rattle.dir_header.proofs.Returns.{place-within, acks-some}

module _ {D : Type 0} (dir : Directory) (sizes : Sizes) (node : ℕ) (headers : List Fields) (memory : List Words) (d : D) (budget : BudgetView) (holders : HoldersView)
    (is : IsHomeSide dir sizes node headers memory d budget holders) (line : ℕ) (own : home_of sizes line ≡ node) (p : ℕ) (p-is : p ≡ line % sizes.lines) where
  abbrev view : HomeView D
  view = home_view dir sizes node headers memory d

  abbrev m : ℕ
  m = line % sizes.lines

  abbrev old : Header
  old = line_header headers memory dir.lists m

  abbrev f : Fields
  f = get_or headers m blank

  abbrev stood : Standing
  stood = standing_in dir.charge old

  old-is : header_at view line ≡ old
  old-is = here-is dir sizes node headers memory d budget holders is line own p p-is

  -- a node goes
  module _ (n : ℕ) (was : Bool) (h1 h2 : Fields) (was-is : was ≡ listed (list_at dir p) n) (read1 : h1 ≡ f) (read2 : h2 ≡ f) where
    pub acks-asked : (is_invalidate h1.wait && was) ≡ true → 0 < h2.acks
    acks-asked e = subst (λ h. 0 < h.acks) (sym read2) (acks-some dir sizes node headers memory d budget holders is line own p p-is n ((λ i. is_invalidate ((sym read1) i).wait && (sym was-is) i) ∙ e))

    pub was-returns : was ≡ listed (header_at view line).list n
    was-returns = was-is ∙ ap (λ k. listed (list_at dir k) n) p-is ∙ ap (λ h. listed h.list n) (sym old-is)

    module _ (acks : ℕ) (h3 : Fields) (acks-is : acks ≡ (if is_invalidate h1.wait && was then h2.acks - 1 else h2.acks)) (read3 : h3 ≡ f)
        (dir' : Directory) (d' : D) (dir-was : dir' ≡ with_list dir p (unlist (list_at dir p) n)) where
      abbrev gone : Fields
      gone = record h3 { acks = acks }

      acks_are : acks ≡ (if is_invalidate f.wait && listed old.list n then f.acks - 1 else f.acks)
      acks_are = acks-is ∙ (λ i. if is_invalidate (read1 i).wait && (was-is ∙ ap (λ k. listed (list_at dir k) n) p-is) i then (read2 i).acks - 1 else (read2 i).acks)

      due : is_invalidate h3.wait ≡ true → acks ≡ count (unlist (list_at dir p) n)
      due waits =
          let waits' : is_invalidate f.wait ≡ true = ap (λ h. is_invalidate h.wait) (sym read3) ∙ waits in
          let all = acks-old dir sizes node headers memory d budget holders is line own p p-is waits' in
          acks_are ∙ ap (λ b. if b && listed old.list n then f.acks - 1 else f.acks) waits' ∙ fewer (listed old.list n) f.acks (count old.list) all ∙ sym (count-unlist old.list n)
          ∙ ap (λ k. count (unlist (list_at dir k) n)) (sym p-is)
        where
          fewer : (l : Bool) (a k : ℕ) → a ≡ k → cond l (a - 1) a ≡ cond l (k - 1) k
          fewer l a k e = ap (λ x. cond l (x - 1) x) e

      pub gone-kept : (holders' : HoldersView) (before after : Standing) → holders' ≡ moved holders p before after → before ≡ stood → after ≡ standing_of old.wait (held_by dir.charge (unlist (list_at dir p) n)) →
          IsHomeSide dir' sizes node (set headers p gone) memory d' budget holders'
      gone-kept holders' before after moves stands stands' =
          refield-kept dir sizes node headers memory d budget holders is line own p p-is dir' d' (unlist (list_at dir p) n) dir-was gone budget holders'
          (subst IsDirectory (sym dir-was) (unlisted-keeps dir p is.home.dir_kept (place-within dir sizes node headers memory d budget holders is line own p p-is) n))
          (λ q. unlist-below (list_at dir p) n sizes.nodes q (below-at dir sizes node headers memory d budget holders is line own p p-is q)) due
          (ap (λ h. budget.used + pend (record old { wait = h.wait })) (sym read3)) refl (room-old dir sizes node headers memory d budget holders is line own p p-is)
          (moves-at dir sizes node headers memory d budget holders is line own p p-is holders' before after _ moves stands (stands' ∙ ap (λ h. standing_of h.wait (held_by dir.charge (unlist (list_at dir p) n))) (sym read3)))

      pub gone-returns : home_view dir' sizes node (set headers p gone) memory d' ≡ record (with_header view line (unlisted (header_at view line) n)) { dir = d' }
      gone-returns =
          refield-view dir sizes node headers memory d budget holders is line own p p-is dir' d' (unlist (list_at dir p) n) dir-was gone
          ∙ ap put ((λ i. joined (record (read3 i) { acks = acks_are i }) (unlist (list_at dir (p-is i)) n) old.memory) ∙ ap (λ (h : Header). unlisted h n) (sym old-is))
        where
          put : Header → HomeView D
          put h = record view { dir = d'; headers = fin.insert view.headers line h }

  -- a line begins to wait, or ends to
  pub full-returns : (refused : Bool) → (refused ≡ true ↔ (budget.used ≡ budget.limit)) → (refused ≡ true ↔ ((room_in view).full ≡ true))
  full-returns refused is_full =
      let used = is.counted.used in
      let limit = is.counted.limit in
      let few = is.home.few in
      ((λ e. full budget.used budget.limit _ sizes.pending used limit (is_full.0 e)), (λ e. is_full.1 (at_limit budget.used budget.limit _ sizes.pending used limit few e)))
    where
      full : (used limit pending most : ℕ) → used ≡ pending → limit ≡ most → used ≡ limit → nat_le most pending ≡ true
      full used limit pending most a b e = grind (arith, nat_tests)

      at_limit : (used limit pending most : ℕ) → used ≡ pending → limit ≡ most → pending ≤ most → nat_le most pending ≡ true → used ≡ limit
      at_limit used limit pending most a b few e = grind (arith, nat_tests)

  pend-of : (b : Bool) → is_pending (header_at view line) ≡ b → pend old ≡ cond b 1 0
  pend-of b e = ap (λ t. cond t 1 0) (ap is_pending (sym old-is) ∙ e)

  pub place-used : is_pending (header_at view line) ≡ true → 0 < budget.used
  place-used pending = let a = pend-of true pending in let b = used-least dir sizes node headers memory d budget holders is line own p p-is in omega arith

  module _ (h : Fields) (read : h ≡ f) (budget' : BudgetView) (holders' : HoldersView) (before after : Standing) (links : ℕ)
      (moves : holders' ≡ moved holders p before after) (stands : before ≡ stood) (held : links ≡ held_by dir.charge (list_at dir p)) where
    held_here : links ≡ held_by dir.charge old.list
    held_here = held ∙ ap (λ k. held_by dir.charge (list_at dir k)) p-is

    module _ (wait : Wait) (listed_count acks : ℕ) (count-is : listed_count ≡ count (list_at dir p)) (acks-is : acks ≡ (if is_invalidate wait then listed_count else 0)) where
      abbrev waiting : Fields
      waiting = record { local = h.local; dirty = h.dirty; wait = wait; acks = acks }

      acks_here : acks ≡ (if is_invalidate wait then count old.list else 0)
      acks_here = acks-is ∙ ap (λ k. if is_invalidate wait then k else 0) (count-is ∙ ap (λ k. count (list_at dir k)) p-is)

      pub waits-kept : is_pending (header_at view line) ≡ false → is_idle wait ≡ false → budget' ≡ record budget { used = budget.used + 1 } → (false ≡ true ↔ (budget.used ≡ budget.limit)) → after ≡ standing_of wait links →
          IsHomeSide dir sizes node (set headers p waiting) memory d budget' holders'
      waits-kept idle waits takes is_full stands' =
          refield-kept dir sizes node headers memory d budget holders is line own p p-is dir d old.list (same_list-at dir sizes node headers memory d budget holders is line own p p-is) waiting budget' holders'
          is.home.dir_kept (below-old dir sizes node headers memory d budget holders is line own p p-is)
          (λ w. acks_here ∙ ap (λ b. if b then count old.list else 0) w)
          (let a = pend-of false idle in let b : pend (record old { wait = wait }) ≡ 1 = ap (λ t. cond (not t) 1 0) waits in let t = ap (λ x. x.used) takes in omega arith)
          (ap (λ x. x.limit) takes)
          (let t = ap (λ x. x.used) takes in let l = ap (λ x. x.limit) takes in let r = room-old dir sizes node headers memory d budget holders is line own p p-is in let room : budget.used ≡ budget.limit → ⊥ = λ e. true≢false (sym (is_full.1 e)) in omega arith)
          (moves-at dir sizes node headers memory d budget holders is line own p p-is holders' before after _ moves stands (stands' ∙ ap (standing_of wait) held_here))

      pub waits-returns : home_view dir sizes node (set headers p waiting) memory d ≡ with_header view line (made_pending (header_at view line) wait)
      waits-returns =
          flags-view dir sizes node headers memory d budget holders is line own p p-is waiting
          ∙ ap (with_header view line) ((λ i. joined (record { local = (read i).local; dirty = (read i).dirty; wait = wait; acks = acks_here i }) old.list old.memory) ∙ ap (λ (x : Header). made_pending x wait) (sym old-is))

    pub ends-kept : is_pending (header_at view line) ≡ true → budget' ≡ record budget { used = budget.used - 1 } → after ≡ standing_of Idle links → IsHomeSide dir sizes node (set headers p (record h { wait = Idle })) memory d budget' holders'
    ends-kept pending gives stands' =
        refield-kept dir sizes node headers memory d budget holders is line own p p-is dir d old.list (same_list-at dir sizes node headers memory d budget holders is line own p p-is) (record h { wait = Idle }) budget' holders'
        is.home.dir_kept (below-old dir sizes node headers memory d budget holders is line own p p-is) (λ w. absurd (true≢false (sym w)))
        (let a = pend-of true pending in let u = place-used pending in let t = ap (λ x. x.used) gives in omega arith)
        (ap (λ x. x.limit) gives)
        (let t = ap (λ x. x.used) gives in let l = ap (λ x. x.limit) gives in let r = room-old dir sizes node headers memory d budget holders is line own p p-is in omega arith)
        (moves-at dir sizes node headers memory d budget holders is line own p p-is holders' before after _ moves stands (stands' ∙ ap (standing_of Idle) held_here))

    pub ends-returns : home_view dir sizes node (set headers p (record h { wait = Idle })) memory d ≡ with_header view line (record (header_at view line) { wait = Idle })
    ends-returns =
        flags-view dir sizes node headers memory d budget holders is line own p p-is (record h { wait = Idle })
        ∙ ap (with_header view line) (ap (λ (x : Fields). joined (record x { wait = Idle }) old.list old.memory) read ∙ ap (λ (x : Header). record x { wait = Idle }) (sym old-is))
