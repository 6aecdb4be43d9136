-- An eviction sends one message at most, and only where the lane to the home has room for it.
-- The gate found fewer of these messages in that lane than it may hold; no other lane gets one.
use Rattle.std.proofs.Common.{◌≡◌, ℕ, ◌+◌, ◌≤◌, ◌<◌, Bool, true, false, cond, nat_lt, ◌==◌, ◌&&◌, not, List, [], ◌∷◌, refl, arith, subst, Result, Ok, Err}
use Rattle.std.proofs.lemmas.Bool.Decides.{nat_tests}
use Rattle.std.specs.List.{sum_by}
use Rattle.op_model.specs.Events.Node.{is_silent}
use Rattle.op_model.specs.Events.Step.{is_departure}
use Rattle.op_model.specs.Lines.{Absent, Copy, Exclusive, LineShare, Outcome, Shared, words_of}
use Rattle.op_model.specs.Messages.{Content, Rpl, Wb, class_of, same_class}
use Rattle.op_model.specs.Tables.Processor.{evict, fits, leave_home, leave_remote}
use Rattle.op_model.specs.declared.events.Cause.TheVariants.{NoCopy, WrongKind}
use Rattle.op_model.specs.declared.events.Cause.{Cause}
use Rattle.op_model.specs.declared.events.Class.TheVariants.{Request}
use Rattle.op_model.specs.declared.events.EvictKind.TheVariants as way
use Rattle.op_model.specs.declared.events.EvictKind.{EvictKind}
use Rattle.line_invariant.specs.Line.{addressed}
use Rattle.lane_bounds.proofs.Lanes.{departing}

abbrev pub leaving_to : ℕ → List (ℕ × Content) → ℕ
leaving_to b sends = sum_by departing (addressed b Request sends)

leaving-one : (home b : ℕ) (content : Content) → leaving_to b ((home, content) ∷ []) ≤ cond (home == b) 1 0
leaving-one home b content = go (home == b) (same_class Request (class_of content)) (is_departure content)
  where
    go : (c d e : Bool) → sum_by departing (cond (c && d) (content ∷ []) []) ≤ cond c 1 0
    go true true e = one (is_departure content)
      where
        one : (f : Bool) → 0 + cond f 1 0 ≤ 1
        one true = omega arith
        one false = omega arith
    go true false e = omega arith
    go false d e = omega arith

module _ (row : LineShare) (home limit : ℕ) (before : ℕ → ℕ) (within : (b : ℕ) → before b ≤ limit) where
  abbrev Fits : Outcome → Type 0
  Fits x = (b : ℕ) → before b + leaving_to b x.sends ≤ limit

  none : (b : ℕ) → before b + leaving_to b [] ≤ limit
  none b = let w = within b in omega arith

  one : (content : Content) → nat_lt (before home) limit ≡ true → (b : ℕ) → before b + leaving_to b ((home, content) ∷ []) ≤ limit
  one content free b = go (home == b) refl (leaving-one home b content)
    where
      go : (c : Bool) → (home == b) ≡ c → leaving_to b ((home, content) ∷ []) ≤ cond c 1 0 → before b + leaving_to b ((home, content) ∷ []) ≤ limit
      go true e le =
          let same : home ≡ b = grind (arith, nat_tests) in
          let below : before home < limit = grind (arith, nat_tests) in
          let moved : before b < limit = subst (λ k. before k < limit) same below in
          omega arith
      go false e le = let w = within b in omega arith

  here : (copy : Copy) → Fits (leave_home copy row)
  here Absent = none
  here (Shared words) = none
  here (Exclusive words) = none

  has : not (nat_lt (before home) limit) ≡ false → nat_lt (before home) limit ≡ true
  has free = grind arith

  there : (kind : EvictKind) → (not (is_silent kind) && not (nat_lt (before home) limit)) ≡ false → Fits (leave_remote home kind row)
  there way.Wb free = one (Wb (words_of row.copy)) (has free)
  there way.Hint free = one Rpl (has free)
  there way.Silent free = none

  pub evict-fits : (me : ℕ) (kind : EvictKind) (o : Outcome) → evict me home kind row ≡ Ok o → (not (me == home) && not (is_silent kind) && not (nat_lt (before home) limit)) ≡ false → Fits o
  unfolding evict
  evict-fits me kind o e free = either (fits (me == home) kind row.copy) e
    where
      bad : (c : Cause) → ◌≡◌ {A = Result Outcome Cause} (Err c) (Ok o) → Fits o
      bad c e = absurd (cc)

      fine : (x : Outcome) → Fits x → ◌≡◌ {A = Result Outcome Cause} (Ok x) (Ok o) → Fits o
      fine x fit e = let is : x ≡ o = cc in subst Fits is fit

      leaves : (c : Bool) → (not c && not (is_silent kind) && not (nat_lt (before home) limit)) ≡ false → Fits (cond c (leave_home row.copy row) (leave_remote home kind row))
      leaves true free = here row.copy
      leaves false free = there kind free

      either : (c : Bool) → ◌≡◌ {A = Result Outcome Cause} (cond c (Ok (cond (me == home) (leave_home row.copy row) (leave_remote home kind row))) (Err (elim row.copy [ Absent ↦ NoCopy | _ ↦ WrongKind ]))) (Ok o) → Fits o
      either true e = fine _ (leaves (me == home) free) e
      either false e = bad _ e
