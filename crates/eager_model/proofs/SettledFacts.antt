-- What a row leaves as it was on a line that doesn't drain: its wait, memory's age and the age of a copy.
use Rattle.std.proofs.Common.{◌≡◌, ℕ, Bool, true, false, cond, ◌==◌, refl, arith}
use Rattle.op_model.specs.Lines.{Copy, is_empty}
use Rattle.op_model.specs.Tables.Remote.{is_invalidate}
use Rattle.eager_model.specs.Line.{AgedLine}
use Rattle.eager_model.specs.Good.{IsSettled}
use Rattle.eager_model.proofs.NewestRows.{home-waits, home-memory, kept-copy, full-copy}

module _ (home : ℕ) (line : AgedLine) (settled : IsSettled home line) (me : ℕ) where
  pub same-waits : is_invalidate (cond (me == home) line.line.header line.line.header).wait ≡ false
  same-waits = home-waits line line.line.header line.memory_age (me == home) settled.settled settled.settled

  pub same-memory : (cond (me == home) line.line.header line.line.header).dirty ≡ false → cond (me == home) line.memory_age line.memory_age ≡ line.top
  same-memory = home-memory line line.line.header line.memory_age home settled.ages (me == home) settled.ages.memory

  pub copy-same : (c : Copy) → (is_empty c ≡ false → is_empty (line.line.copy me) ≡ false) → cond (is_empty c) 0 (line.copy_age me) ≡ cond (is_empty c) 0 line.top
  copy-same c full = kept-copy (is_empty (line.line.copy me)) (is_empty c) (line.copy_age me) line.top (settled.ages.copies me) full

  pub copy-newest : is_empty (line.line.copy me) ≡ false → line.copy_age me ≡ line.top
  copy-newest full = full-copy (is_empty (line.line.copy me)) (line.copy_age me) line.top (settled.ages.copies me) full

-- a test that holds
pub at-self : (b : Bool) → b ≡ true → (given last : ℕ) → given ≡ cond b given last
at-self true e given last = refl
at-self false e given last = absurd (grind arith)
