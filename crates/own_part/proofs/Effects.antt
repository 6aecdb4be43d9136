-- What a row does to the operation and the copy of its node: it leaves the operation, marks a load, or ends it; and a node that has no copy gets none but with the end of its operation.
use Rattle.std.proofs.Common.{◌≡◌, ◌≢◌, ◌⊎◌, ℕ, true, false, ◌&&◌, ap, subst, ◌∙◌, None}
use Rattle.op_model.specs.Lines.{Absent, LineShare, Outcome, is_idle, is_exclusive, marked_load, is_outstanding}
use Rattle.op_model.specs.OwnPart.{IsOwnLine, IsOwnWait}
use Rattle.op_model.specs.declared.state.Wait.{Wait}
use Rattle.op_model.specs.declared.state.Wait.TheVariants.{Idle}

-- the operation stays, and no copy comes
abbrev pub IsQuiet : LineShare → Outcome → Type 0
IsQuiet s o = (o.share.want ≡ s.want) × (o.done ≡ false) × (s.copy ≡ Absent → o.share.copy ≡ Absent)

-- elsewhere than at the home a load that waits is marked
abbrev pub IsMark : ℕ → ℕ → LineShare → Outcome → Type 0
IsMark me home s o = (me ≢ home) × (o.share.want ≡ marked_load s.want) × (o.done ≡ false) × (s.copy ≡ Absent → o.share.copy ≡ Absent)

-- an operation that was begun ends
abbrev pub IsEnd : LineShare → Outcome → Type 0
IsEnd s o = (o.share.want ≡ None) × (is_outstanding s.want ≡ true)

abbrev pub IsEffect : ℕ → ℕ → LineShare → Outcome → Type 0
IsEffect me home s o = IsQuiet s o ⊎ (IsMark me home s o ⊎ IsEnd s o)

-- what a row leaves at a node, and that it keeps what holds of a line at its home
abbrev pub IsKept : ℕ → ℕ → LineShare → Outcome → Type 0
IsKept me home s o = (me ≡ home → IsOwnLine home o.share) × IsEffect me home s o

-- what holds while a line waits for this
pub waits-so : (home : ℕ) (wait : Wait) (s : LineShare) → s.header.wait ≡ wait → IsOwnLine home s → IsOwnWait home wait s
waits-so home wait s e own = subst (λ k. IsOwnWait home k s) e own.waiting

-- an idle line: its copy is exclusive where it is dirty and local
pub idle-exclusive : (home : ℕ) (s : LineShare) → s.header.wait ≡ Idle → IsOwnLine home s → is_exclusive s.copy ≡ (s.header.dirty && s.header.local)
idle-exclusive home s e own = own.exclusive ∙ ap (λ k. is_idle k && s.header.dirty && s.header.local) e
