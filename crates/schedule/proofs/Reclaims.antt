-- The least line of a home that may be called in is the least one for which a Reclaim is enabled, where any is.
use Rattle.std.proofs.Common.{◌≡◌, ℕ, ◌+◌, ◌*◌, ◌-◌, ◌<◌, ◌≤◌, Bool, true, false, cond, not, ◌&&◌, ◌==◌, List, [], ◌∷◌, refl, arith, ap, sym, ◌∙◌, IfSome, Option, Some, None, Result, Ok, Err}
use Rattle.std.specs.Prelude.{find, is_ok, nat_lt}
use Rattle.std.specs.List.{range_with_len}
use Rattle.std.proofs.Math.Bool.{and-true, and-false}
use Rattle.std.proofs.lemmas.Bool.Decides.{nat_tests}
use Rattle.std.proofs.lemmas.Nat.{div-mul-add}
use Rattle.line_map.specs.Sizes.{Sizes, home_of}
use Rattle.op_model.specs.declared.events.Cause.{Cause}
use Rattle.op_model.specs.declared.events.Cause.TheVariants.{BudgetFull, LinePending, NoLinks}
use Rattle.op_model.specs.declared.events.Event.TheVariants.{Reclaim}
use Rattle.op_model.specs.declared.operations.Op.{Op}
use Rattle.op_model.specs.Events.Node.{ReclaimLine, by_row, fits_victim, local, map_ok}
use Rattle.op_model.specs.Lines.{LineShare, Room, is_pending}
use Rattle.op_model.specs.Run.Schedules.{least_victim}
use Rattle.op_model.specs.Run.Seeded.{free_links, is_enabled, lines_of, low_water, reclaim_of, reclaims_of}
use Rattle.op_model.specs.Shares.{Charge, Share, line_share, room_of}
use Rattle.op_model.specs.Tables.Processor.{call_in, holds_link, reclaim}
use Rattle.op_model.specs.Run.Machines.{MachineRun}
use Rattle.schedule.specs.Candidates.{enabled_of}
use Rattle.schedule.proofs.Ranges.{find-range-same, find-range-in, find-range-none}

mapped-ok : {A B : Type 0} (f : A → B) (r : Result A Cause) → is_ok (map_ok f r) ≡ is_ok r
mapped-ok f (Ok a) = refl
mapped-ok f (Err e) = refl

reclaim-ok : (room : Room) (share : LineShare) → is_ok (reclaim room share) ≡ (holds_link room share.header && not (is_pending share.header)) && not room.full
unfolding reclaim
reclaim-ok room share = go (holds_link room share.header) (is_pending share.header) room.full
  where
    go : (h p f : Bool) → ◌≡◌ {A = Bool} (is_ok (cond (not h) (Err NoLinks) (cond p (Err LinePending) (cond f (Err BudgetFull) (Ok (call_in share)))))) ((h && not p) && not f)
    go false p f = refl
    go true true f = refl
    go true false true = refl
    go true false false = refl

local-ok : (charge : Charge) (sizes : Sizes) (me : ℕ) (program : List Op) (share : Share) (line : ℕ) → is_ok (local charge sizes me program share (ReclaimLine line)) ≡ is_ok (reclaim (room_of charge sizes share) (line_share sizes share line))
unfolding local
local-ok charge sizes me program share line = mapped-ok (by_row sizes me share line) (reclaim (room_of charge sizes share) (line_share sizes share line))

module _ (m : MachineRun) (home : ℕ) where
  share : Share
  share = m.past.state.share home

  full : Bool
  full = (room_of m.charge m.sizes share).full

  abbrev enabled : ℕ → Bool
  enabled line = is_enabled m.charge m.sizes m.programs m.past.state (Reclaim line)

  abbrev fits : ℕ → Bool
  fits line = fits_victim m.charge m.sizes home (m.past.state.share home) line

  own-line : (line : ℕ) → home * m.sizes.lines ≤ line → line < home * m.sizes.lines + m.sizes.lines → home_of m.sizes line ≡ home
  own-line line low high =
      let place : line ≡ home * m.sizes.lines + (line - home * m.sizes.lines) = omega arith in
      ap (λ l. home_of m.sizes l) place ∙ div-mul-add home m.sizes.lines (line - home * m.sizes.lines) (omega arith)

  enabled-own : (line : ℕ) → home_of m.sizes line ≡ home → enabled line ≡ (fits line && not full)
  unfolding share full
  enabled-own line own =
      mapped-ok _ (local m.charge m.sizes (home_of m.sizes line) (m.programs (home_of m.sizes line)) (m.past.state.share (home_of m.sizes line)) (ReclaimLine line))
      ∙ (local-ok m.charge m.sizes (home_of m.sizes line) (m.programs (home_of m.sizes line)) (m.past.state.share (home_of m.sizes line)) line
      ∙ (reclaim-ok (room_of m.charge m.sizes (m.past.state.share (home_of m.sizes line))) (line_share m.sizes (m.past.state.share (home_of m.sizes line)) line) ∙ tested))
    where
      here : (home_of m.sizes line == home) ≡ true
      here = grind (arith, nat_tests, own)

      tested : ((holds_link (room_of m.charge m.sizes (m.past.state.share (home_of m.sizes line))) (line_share m.sizes (m.past.state.share (home_of m.sizes line)) line).header && not (is_pending (line_share m.sizes (m.past.state.share (home_of m.sizes line)) line).header)) && not (room_of m.charge m.sizes (m.past.state.share (home_of m.sizes line))).full)
          ≡ (fits line && not (room_of m.charge m.sizes (m.past.state.share home)).full)
      tested = rw (here, own) refl

  abbrev of_home : (ℕ → Bool) → Option ℕ
  of_home p = find p (range_with_len (home * m.sizes.lines) m.sizes.lines)

  keeps-same : full ≡ false → of_home enabled ≡ of_home fits
  keeps-same room = find-range-same enabled fits (home * m.sizes.lines) m.sizes.lines (λ line low high.
      enabled-own line (own-line line low high) ∙ (ap (λ b. fits line && not b) room ∙ and-true (fits line)))

  none-enabled : full ≡ true → (line : ℕ) → home * m.sizes.lines ≤ line → line < home * m.sizes.lines + m.sizes.lines → enabled line ≡ false
  none-enabled room line low high = enabled-own line (own-line line low high) ∙ (ap (λ b. fits line && not b) room ∙ and-false (fits line))

  pub least-reclaim : enabled_of m (reclaim_of (least_victim m.charge m.sizes m.past.state home)) ≡ enabled_of m (reclaim_of (find enabled (lines_of m.sizes home)))
  least-reclaim = go full refl
    where
      dropped : (o : Option ℕ) → IfSome o (λ line. enabled line ≡ false) → enabled_of m (reclaim_of o) ≡ []
      dropped None none = refl
      dropped (Some line) off = ap (λ b. cond b (Reclaim line ∷ []) []) off

      go : (b : Bool) → full ≡ b → enabled_of m (reclaim_of (of_home fits)) ≡ enabled_of m (reclaim_of (of_home enabled))
      go false room = ap (λ o. enabled_of m (reclaim_of o)) (sym (keeps-same room))
      go true room =
          dropped (of_home fits) (find-range-in fits (λ line. enabled line ≡ false) (home * m.sizes.lines) m.sizes.lines (none-enabled room))
          ∙ sym (ap (λ o. enabled_of m (reclaim_of o)) (find-range-none enabled (home * m.sizes.lines) m.sizes.lines (none-enabled room)))

-- so where free links are few it is the candidate of its home
pub low-reclaims : (m : MachineRun) (home : ℕ) (o : Option ℕ) → nat_lt (free_links m.charge m.sizes (m.past.state.share home)) (low_water m.sizes.links) ≡ true → o ≡ least_victim m.charge m.sizes m.past.state home →
    enabled_of m (reclaim_of o) ≡ enabled_of m (reclaims_of m.charge m.sizes m.programs m.past.state home)
low-reclaims m home o low is =
    ap (λ v. enabled_of m (reclaim_of v)) is
    ∙ (least-reclaim m home ∙ ap (λ b. enabled_of m (cond b (reclaim_of (find (λ line. is_enabled m.charge m.sizes m.programs m.past.state (Reclaim line)) (lines_of m.sizes home))) [])) (sym low))
