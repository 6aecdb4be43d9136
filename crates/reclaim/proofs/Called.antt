-- A line is called in, or why not.
use Rattle.std.proofs.Common.{◌≡◌, ◌⊎◌, inl, inr, ℕ, ◌+◌, ◌*◌, ◌%◌, ◌-◌, ◌<◌, ◌==◌, ◌&&◌, Bool, true, false, cond, not, subst, Result, Ok, Err, refl, sym, ap, ◌∙◌, arith, length}
use Rattle.std.specs.Prelude.{is_err, OnOk}
use Rattle.std.proofs.lemmas.Bool.{cond-true, cond-false, both_ways}
use Rattle.std.proofs.lemmas.Bool.Decides.{nat_tests}
use Rattle.std.proofs.lemmas.Nat.{div-mul-add, mod-mul-add}
use Rattle.line_map.specs.Sizes.{home_of}
use Rattle.op_model.specs.declared.events.Cause.TheVariants.{NoLinks, LinePending, BudgetFull}
use Rattle.op_model.specs.declared.errors.Full.{Full}
use Rattle.op_model.specs.declared.state.Grantee.TheVariants.{Nobody}
use Rattle.op_model.specs.declared.state.Wait.TheVariants.{Invalidate}
use Rattle.op_model.specs.Nodes.{Nodes, count}
use Rattle.op_model.specs.Lines.{Header, LineShare, Outcome, Room, NoService, is_idle, is_pending, to_listed}
use Rattle.op_model.specs.declared.events.Cause.{Cause}
use Rattle.op_model.specs.Events.Node.{messages, permit}
use Rattle.op_model.specs.Tables.Processor.{reclaim, call_in, holds_link}
use Rattle.cpu_cache.specs.Processors.{ProcView}
use Rattle.op_model.specs.Shares.{is_linked, Copies, copy_in}
use Rattle.dir_header.specs.Sharers.{Directory, Charge, Linked, Unlinked, free_in, list_at, held_by}
use Rattle.dir_header.proofs.Public.{held-linked}
use Rattle.dir_header.specs.HomeSides.{HomeView, IsHome, room_in, header_at, with_header, made_pending}
use Rattle.msg_words.specs.SendList.{SendList}
use Rattle.node_share.specs.Parts.{share_of, AreCopies, DoesRow, sent}
use Rattle.node_share.proofs.Public.{Puts, copy-kept, home-row, on-ok, puts-once, puts-read}

module _ (room : Room) (share : LineShare) where
  pub no-links : holds_link room share.header ≡ false → reclaim room share ≡ Err NoLinks
  unfolding reclaim
  no-links e = cond-true (not (holds_link room share.header)) _ _ (ap not e)

  module _ (holds : holds_link room share.header ≡ true) where
    pub line-pending : is_idle share.header.wait ≡ false → reclaim room share ≡ Err LinePending
    unfolding reclaim
    line-pending e = cond-false (not (holds_link room share.header)) _ _ (ap not holds) ∙ cond-true (is_pending share.header) _ _ (ap not e)

    module _ (idle : is_idle share.header.wait ≡ true) where
      pub budget-full : room.full ≡ true → reclaim room share ≡ Err BudgetFull
      unfolding reclaim
      budget-full e = cond-false (not (holds_link room share.header)) _ _ (ap not holds) ∙ cond-false (is_pending share.header) _ _ (ap not idle) ∙ cond-true room.full _ _ e

      pub calls-in : room.full ≡ false → reclaim room share ≡ Ok (call_in share)
      unfolding reclaim
      calls-in e = cond-false (not (holds_link room share.header)) _ _ (ap not holds) ∙ cond-false (is_pending share.header) _ _ (ap not idle) ∙ cond-false room.full _ _ e

-- and a line that can be called in is idle, has room, and is called in
pub allows : (room : Room) (share : LineShare) → Ok tt ≡ permit (reclaim room share) → (is_idle share.header.wait ≡ true) × (room.full ≡ false) × (reclaim room share ≡ Ok (call_in share))
unfolding reclaim
allows room share e = by (holds_link room share.header) (is_idle share.header.wait) room.full e
  where
    row : Bool → Bool → Bool → Result Outcome Cause
    row holds idle full = cond (not holds) (Err NoLinks) (cond (not idle) (Err LinePending) (cond full (Err BudgetFull) (Ok (call_in share))))

    by : (holds idle full : Bool) → Ok tt ≡ permit (row holds idle full) → (idle ≡ true) × (full ≡ false) × (row holds idle full ≡ Ok (call_in share))
    by true true false e = (refl, refl, refl)
    by true true true e = cc
    by true false full e = cc
    by false idle full e = cc

-- where there is room, a line does begin to wait
pub begun : {P : Type 0} (r : Result (Unit {0}) Full) (full : Bool) → full ≡ false → (is_err r ≡ true → full ≡ true) → OnOk r P → P
begun r full room refused done = on-ok r (λ e. both_ways full room (refused e)) done

module _ {D : Type 0} (home h1 : HomeView D) (line : ℕ) (out out' : SendList) (own : home_of home.sizes line ≡ home.node) (first : h1 ≡ with_header home line (made_pending (header_at home line) (Invalidate Nobody))) where
  abbrev h : Header
  h = header_at home line

  pub called : Puts home h1 line (record h { wait = Invalidate Nobody; acks = count h.list })
  called = puts-once home h1 line (record h { wait = Invalidate Nobody; acks = count h.list }) home.dir first

  pub call-does : out' ≡ sent out (messages line (to_listed (header_at h1 line).list)) → (proc : ProcView) (copies : Copies) → AreCopies copies → DoesRow home.sizes home.node (share_of proc copies home.headers) (share_of proc copies h1.headers) out out' line call_in
  call-does pushed proc copies held =
      home-row home h1 copies copies line (record h { wait = Invalidate Nobody; acks = count h.list }) (copy_in copies line) out out' (to_listed h.list) NoService call_in own called (sym (copy-kept copies line held))
      (pushed ∙ ap (λ k. sent out (messages line (to_listed k.list))) (puts-read called)) (λ want. refl) proc

some-link : (charge : Charge) (list : Nodes) → 0 < held_by charge list → (is_linked charge && not (count list == 0) && not (count list == 1)) ≡ true
some-link Linked list some = let e = held-linked list in by (count list) (held_by Linked list) e some
  where
    by : (n k : ℕ) → k ≡ n - 1 → 0 < k → (not (n == 0) && not (n == 1)) ≡ true
    by n k e s = let a : (n == 0) ≡ false = grind (arith, nat_tests) in let b : (n == 1) ≡ false = grind (arith, nat_tests) in λ i. not (a i) && not (b i)
some-link Unlinked list some = absurd (omega arith)

-- a line whose list holds a link, by its number at its home
pub found : {D : Type 0} (dir : Directory) (home : HomeView D) (m line : ℕ) → IsHome dir home → m < length dir.lists → 0 < held_by dir.charge (list_at dir m) → line ≡ home.node * home.sizes.lines + m → (home_of home.sizes line ≡ home.node) × (holds_link (room_in home) (header_at home line) ≡ true)
found dir home m line is within some at = (own, ap (λ c. is_linked c && not (count (header_at home line).list == 0) && not (count (header_at home line).list == 1)) (sym is.charge) ∙ some-link dir.charge (header_at home line).list (subst (λ l. 0 < held_by dir.charge l) same some))
  where
    below : m < home.sizes.lines
    below = subst (λ n. m < n) is.lines within

    own : home_of home.sizes line ≡ home.node
    own = ap (home_of home.sizes) at ∙ div-mul-add home.node home.sizes.lines m below

    same : list_at dir m ≡ (header_at home line).list
    same = sym (is.lists line own ∙ ap (list_at dir) (ap (λ g. g % home.sizes.lines) at ∙ mod-mul-add home.node home.sizes.lines m below))

-- where no line has the link, one is free, or lists cost none
pub no-link : {D : Type 0} (dir : Directory) (home : HomeView D) → IsHome dir home → (0 < free_in dir) ⊎ (dir.charge ≡ Unlinked) → (0 < free_in dir) ⊎ (home.charge ≡ Unlinked)
no-link dir home is (inl some) = inl some
no-link dir home is (inr unlinked) = inr (sym is.charge ∙ unlinked)
