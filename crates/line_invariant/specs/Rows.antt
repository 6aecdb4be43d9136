-- What a row serves, what it leaves begun at its node, and a row beside another header.
use Rattle.std.specs.Prelude.{◌≡◌, ◌≢◌, ◌⊎◌, ℕ, Bool, true, false, Option, Some, None, Result, Ok, Err}
use Rattle.line_invariant.specs.Types.{Op, Want, Cause}
use Rattle.op_model.specs.Operations.{Words, is_load}
use Rattle.op_model.specs.Messages.{Content, Put}
use Rattle.op_model.specs.Lines.{Header, Service, NoService, Own, For, Outcome}

-- an operation that is begun, marked or not
abbrev pub wanting : Op → Bool → Option Want
wanting op marked = Some (record { op = op; marked = marked })

abbrev pub IsLoadWanted : Option Want → Type 0
IsLoadWanted None = ⊥
IsLoadWanted (Some want) = is_load want.op.kind ≡ true

-- What a message serves, it serves on the line's words: a write that the taker has begun, or the load of another node that waits for it and was not served before
abbrev pub IsServedFor : (ℕ → Option Want) → (ℕ → Bool) → ℕ → Words → Service → Type 0
IsServedFor want answered me words NoService = Unit {0}
IsServedFor want answered me words (Own op on) = (on ≡ words) × ((marked : Bool) × (want me ≡ wanting op marked)) × (is_load op.kind ≡ false)
IsServedFor want answered me words (For node on) = (on ≡ words) × IsLoadWanted (want node) × (answered node ≡ false) × (node ≢ me)

-- a row serves no operation but this one, and that on these words
abbrev pub IsOwnServed : Op → Words → Service → Type 0
IsOwnServed op words NoService = Unit {0}
IsOwnServed op words (Own served on) = (on ≡ words) × (served ≡ op)
IsOwnServed op words (For node on) = ⊥

-- nothing is begun but this operation
abbrev pub IsOwnWant : Op → Option Want → Type 0
IsOwnWant op None = Unit {0}
IsOwnWant op (Some want) = want.op ≡ op

-- what was begun is still begun, perhaps marked now, or isn't any more, and nothing else is begun
abbrev pub IsWantKept : Option Want → Option Want → Type 0
IsWantKept None next = next ≡ None
IsWantKept (Some want) next = (next ≡ None) ⊎ ((again : Bool) × (next ≡ wanting want.op again))

-- An operation of the node that a row serves is done by it; the load of another node isn't. Where a row that serves nothing ends an operation, Known holds: it was served before
abbrev pub IsDoneRight : Type 0 → Service → Bool → Option Want → Type 0
IsDoneRight Known NoService true want = (want ≡ None) × Known
IsDoneRight Known NoService false want = Unit {0}
IsDoneRight Known (Own op on) done want = (want ≡ None) × (done ≡ true)
IsDoneRight Known (For node on) done want = done ≡ false

abbrev pub EndsRight : Type 0 → Outcome → Type 0
EndsRight Known outcome = IsDoneRight Known outcome.served outcome.done outcome.share.want

abbrev pub IsPut : Content → Type 0
IsPut (Put words) = Unit {0}
IsPut _ = ⊥

-- what a row does, beside another header
abbrev pub with_header : Header → Outcome → Outcome
with_header header outcome = record outcome { share = record outcome.share { header = header } }

abbrev pub with_header_ok : Header → Result Outcome Cause → Result Outcome Cause
with_header_ok header (Ok outcome) = Ok (with_header header outcome)
with_header_ok header (Err cause) = Err cause
