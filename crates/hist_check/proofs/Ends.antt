-- What stands behind the line `end` makes no difference before it: each phase of reading a trace comes to the same fault, or to the same value before the same lines.
use Rattle.std.proofs.Common.{◌≡◌, ℕ, Bool, true, false, List, [], ◌∷◌, ◌++◌, length, Result, Ok, Err, refl, ◌⊎◌, inl, inr}
use Rattle.std.specs.Prelude.{codes, nat_lt, if◌then◌else◌}
use Rattle.std.specs.Str.{bytes_eq}
use Rattle.std.proofs.lemmas.Bool.{cases_Bool}
use Rattle.line_map.specs.Sizes.{Sizes, ◌>>=◌}
use Rattle.line_map.specs.declared.machine.Field.{Field}
use Rattle.line_map.specs.declared.machine.Field.TheVariants as field
use Rattle.op_model.specs.declared.operations.Op.{Op}
use Rattle.op_model.specs.declared.events.Event.{Event}
use Rattle.op_model.specs.Shares.{Trace}
use Rattle.text_lines.specs.Lines.{Line, Input, words_of}
use Rattle.step_journal.specs.declared.fault.StepCause.{StepCause}
use Rattle.step_journal.specs.declared.fault.StepError.{StepError}
use Rattle.step_journal.specs.declared.fault.StepError.TheVariants as steps
use Rattle.step_journal.specs.declared.reading.Stop.{Stop}
use Rattle.step_journal.specs.Forms.{step}
use Rattle.step_journal.specs.Reading.{section_from, of_line as of_step_line}
use Rattle.trace_text.specs.declared.fault.TraceCause.{TraceCause}
use Rattle.trace_text.specs.declared.fault.TraceCause.TheVariants.{Shape}
use Rattle.trace_text.specs.declared.fault.TraceError.{TraceError}
use Rattle.trace_text.specs.declared.fault.TraceError.TheVariants.{Bad, TooManyOps}
use Rattle.trace_text.specs.declared.forms.Access.{Access}
use Rattle.trace_text.specs.Forms.{named, version_line, header_line, access}
use Rattle.trace_text.specs.Reading.{of_line, next_of, version_of, header_of, sizes_lines, placed, ops_from, of_steps, ended, steps_of, nothing_more, trace_in}

-- none of these lines is `end`
abbrev pub NoneEnds : List Line → Type 0
NoneEnds [] = Unit {0}
NoneEnds (line ∷ lines) = (bytes_eq line.text (codes "end") ≡ false) × NoneEnds lines

-- the line `end` is no line of the header
no_version : version_line (words_of (codes "end")) ≡ Err Shape
unfolding version_line named
no_version = refl

no_header : (f : Field) (name : List ℕ) → header_line f name (words_of (codes "end")) ≡ Err Shape
unfolding header_line named
no_header f name = refl

module _ (number : ℕ) (later : List Line) (near_end far_end : ℕ) where
  abbrev last : Line
  last = record { number = number; text = codes "end" }

  -- the input up to the line `end`, and with what stands behind it
  abbrev near : List Line → Input
  near lines = record { lines = lines ++ last ∷ []; end = near_end }

  abbrev far : List Line → Input
  far lines = record { lines = lines ++ last ∷ later; end = far_end }

  -- the same fault, or the same value before the same lines
  abbrev Alike : {A : Type 0} → Result (A × Input) TraceError → Result (A × Input) TraceError → Type 0
  Alike {A = A} n f = ((e : TraceError) × (n ≡ Err e) × (f ≡ Err e)) ⊎ ((x : A) × (lines : List Line) × NoneEnds lines × (n ≡ Ok (x, near lines)) × (f ≡ Ok (x, far lines)))

  -- the whole with what stands behind it
  abbrev Whole : Result Trace TraceError → Result Trace TraceError → Type 0
  Whole n f = f ≡ (n >>= λ trace. nothing_more (record { lines = later; end = far_end }) >>= λ over. Ok trace)

  alike_then : {A B : Type 0} (n f : Result (A × Input) TraceError) (go : A × Input → Result (B × Input) TraceError) → Alike n f
      → ((x : A) (lines : List Line) → NoneEnds lines → Alike (go (x, near lines)) (go (x, far lines))) → Alike (n >>= go) (f >>= go)
  alike_then n f go (inl (e, p, q)) then_alike = rw (p, q) (inl (e, refl, refl))
  alike_then n f go (inr (x, lines, none, p, q)) then_alike = rw (p, q) (then_alike x lines none)

  whole_then : {A : Type 0} (n f : Result (A × Input) TraceError) (go : A × Input → Result Trace TraceError) → Alike n f
      → ((x : A) (lines : List Line) → NoneEnds lines → Whole (go (x, near lines)) (go (x, far lines))) → Whole (n >>= go) (f >>= go)
  whole_then n f go (inl (e, p, q)) then_whole = rw (p, q) refl
  whole_then n f go (inr (x, lines, none, p, q)) then_whole = rw (p, q) (then_whole x lines none)

  -- ---- the header

  one_alike : {A : Type 0} (line : Line) (lines : List Line) (r : Result A TraceCause) → NoneEnds lines
      → Alike (of_line line.number r >>= λ a. Ok (a, near lines)) (of_line line.number r >>= λ a. Ok (a, far lines))
  one_alike line lines (Ok a) none = inr (a, lines, none, refl, refl)
  one_alike line lines (Err cause) none = inl (Bad line.number cause, refl, refl)

  next_alike : {A : Type 0} (says : Line → Result A TraceCause) → says last ≡ Err Shape → (lines : List Line) → NoneEnds lines
      → Alike (next_of (near lines) >>= λ next. of_line next.0.number (says next.0) >>= λ a. Ok (a, next.1)) (next_of (far lines) >>= λ next. of_line next.0.number (says next.0) >>= λ a. Ok (a, next.1))
  next_alike says refused [] none = rw refused (inl (Bad number Shape, refl, refl))
  next_alike says refused (line ∷ lines) none = one_alike line lines (says line) none.1

  version_alike : (lines : List Line) → NoneEnds lines → Alike (version_of (near lines)) (version_of (far lines))
  unfolding version_of
  version_alike lines none = next_alike (λ line. version_line (words_of line.text)) no_version lines none

  header_alike : (f : Field) (name : List ℕ) (lines : List Line) → NoneEnds lines → Alike (header_of f name (near lines)) (header_of f name (far lines))
  unfolding header_of
  header_alike f name lines none = next_alike (λ line. header_line f name (words_of line.text)) (no_header f name) lines none

  sizes_alike : (lines : List Line) → NoneEnds lines → Alike (sizes_lines (near lines)) (sizes_lines (far lines))
  unfolding sizes_lines
  sizes_alike lines none =
      alike_then (header_of field.Nodes (codes "nodes") (near lines)) _ _ (header_alike field.Nodes (codes "nodes") lines none) (λ n ls none.
      alike_then (header_of field.Lines (codes "lines") (near ls)) _ _ (header_alike field.Lines (codes "lines") ls none) (λ l ls none.
      alike_then (header_of field.Words (codes "words") (near ls)) _ _ (header_alike field.Words (codes "words") ls none) (λ w ls none.
      alike_then (header_of field.Links (codes "links") (near ls)) _ _ (header_alike field.Links (codes "links") ls none) (λ k ls none.
      alike_then (header_of field.Sets (codes "sets") (near ls)) _ _ (header_alike field.Sets (codes "sets") ls none) (λ s ls none.
      alike_then (header_of field.Pending (codes "pending") (near ls)) _ _ (header_alike field.Pending (codes "pending") ls none) (λ p ls none.
      alike_then (header_of field.Evicts (codes "evicts") (near ls)) _ _ (header_alike field.Evicts (codes "evicts") ls none) (λ e ls none.
      inr (_, ls, none, refl, refl))))))))

  -- ---- operations and steps

  module _ (version : ℕ) (sizes : Sizes) where
    abbrev made : List Op → List Event × Input → Result Trace TraceError
    made ops steps = nothing_more steps.1 >>= λ over. Ok (record { version = version; sizes = sizes; ops = ops; steps = steps.0 })

    abbrev section : List Event → List Line → ℕ → Result (List Event × Input) TraceError
    section before lines end = of_steps (section_from sizes before lines end) >>= ended

    section_room : (ops : List Op) (room : Bool) (n f : Result ((List Event × Stop) × Input) StepError) → Whole ((of_steps n >>= ended) >>= made ops) ((of_steps f >>= ended) >>= made ops)
        → Whole ((of_steps (if room then n else Err steps.TooMany) >>= ended) >>= made ops) ((of_steps (if room then f else Err steps.TooMany) >>= ended) >>= made ops)
    section_room ops true n f whole = whole
    section_room ops false n f whole = refl

    section_step : (ops : List Op) (at : ℕ) (room : Bool) (r : Result Event StepCause) (n f : Event → Result ((List Event × Stop) × Input) StepError)
        → ((event : Event) → Whole ((of_steps (n event) >>= ended) >>= made ops) ((of_steps (f event) >>= ended) >>= made ops))
        → Whole ((of_steps (of_step_line at r >>= λ event. if room then n event else Err steps.TooMany) >>= ended) >>= made ops) ((of_steps (of_step_line at r >>= λ event. if room then f event else Err steps.TooMany) >>= ended) >>= made ops)
    section_step ops at room (Ok event) n f whole = section_room ops room (n event) (f event) (whole event)
    section_step ops at room (Err cause) n f whole = refl

    section_whole : (ops : List Op) (before : List Event) (lines : List Line) → NoneEnds lines
        → Whole (section before (lines ++ last ∷ []) near_end >>= made ops) (section before (lines ++ last ∷ later) far_end >>= made ops)
    unfolding section_from
    section_whole ops before [] none = refl
    section_whole ops before (line ∷ lines) none =
        rw none.0 (section_step ops line.number (nat_lt (length before) 1000000) (step sizes (words_of line.text))
        (λ event. section_from sizes (before ++ event ∷ []) (lines ++ last ∷ []) near_end) (λ event. section_from sizes (before ++ event ∷ []) (lines ++ last ∷ later) far_end)
        (λ event. section_whole ops (before ++ event ∷ []) lines none.1))

    abbrev finish : (List Op × Bool) × Input → Result Trace TraceError
    finish ops = steps_of sizes ops.0.1 ops.1 >>= λ steps. nothing_more steps.1 >>= λ over. Ok (record { version = version; sizes = sizes; ops = ops.0.0; steps = steps.0 })

    op_room : (room : Bool) (n f : Result ((List Op × Bool) × Input) TraceError) → Whole (n >>= finish) (f >>= finish)
        → Whole ((if room then n else Err TooManyOps) >>= finish) ((if room then f else Err TooManyOps) >>= finish)
    op_room true n f whole = whole
    op_room false n f whole = refl

    op_step : (at : ℕ) (room : Bool) (r : Result Access TraceCause) (n f : Access → Result ((List Op × Bool) × Input) TraceError)
        → ((a : Access) → Whole (n a >>= finish) (f a >>= finish))
        → Whole ((of_line at r >>= λ a. if room then n a else Err TooManyOps) >>= finish) ((of_line at r >>= λ a. if room then f a else Err TooManyOps) >>= finish)
    op_step at room (Ok a) n f whole = op_room room (n a) (f a) (whole a)
    op_step at room (Err cause) n f whole = refl

    ops_whole : (before : List Op) (lines : List Line) → NoneEnds lines
        → Whole (ops_from sizes version before (lines ++ last ∷ []) near_end >>= finish) (ops_from sizes version before (lines ++ last ∷ later) far_end >>= finish)
    unfolding ops_from
    ops_whole before [] none = refl
    ops_whole before (line ∷ lines) none = rw none.0 (elim (cases_Bool (bytes_eq line.text (codes "steps"))) [
      | inl mark ↦ rw mark (section_whole before [] lines none.1)
      | inr other ↦ rw other (op_step line.number (nat_lt (length before) 100000) (access sizes version (words_of line.text))
          (λ a. ops_from sizes version (before ++ placed before a ∷ []) (lines ++ last ∷ []) near_end) (λ a. ops_from sizes version (before ++ placed before a ∷ []) (lines ++ last ∷ later) far_end)
          (λ a. ops_whole (before ++ placed before a ∷ []) lines none.1))
    ])

  -- ---- the whole

  pub trace_whole : (lines : List Line) → NoneEnds lines → Whole (trace_in (near lines)) (trace_in (far lines))
  unfolding trace_in
  trace_whole lines none =
      whole_then (version_of (near lines)) (version_of (far lines)) _ (version_alike lines none) (λ version ls none.
      whole_then (sizes_lines (near ls)) (sizes_lines (far ls)) _ (sizes_alike ls none) (λ sizes ls none.
      ops_whole version sizes [] ls none))
