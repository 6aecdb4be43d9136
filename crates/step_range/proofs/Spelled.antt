-- The text of one step is read as that step, so steps with one line are one step.
use Rattle.std.proofs.Common.{◌≡◌, List, [], ◌∷◌, ◌++◌, ap, sym, ◌∙◌, Result, Ok, Err, arith}
use Rattle.std.proofs.lemmas.List.Concat.{flat_map-cons}
use Rattle.std.proofs.lemmas.List.Elements.{All-nil, All-cons}
use Rattle.std.specs.Prelude.{ℕ}
use Rattle.line_map.specs.Sizes.{Sizes, AreSizes}
use Rattle.op_model.specs.declared.events.Event.{Event}
use Rattle.text_lines.specs.Lines.{kept, lines_of}
use Rattle.text_lines.specs.Printing.{line_text}
use Rattle.step_journal.specs.declared.fault.StepError.{StepError}
use Rattle.step_journal.specs.Printing.{step_words, steps_text}
use Rattle.step_journal.specs.Reading.{steps_of}
use Rattle.step_journal.specs.Steps.{IsStep}
use Rattle.step_journal.proofs.Public.{text_again}

abbrev first_or : Event → Result (List Event) StepError → Event
first_or other (Ok (event ∷ events)) = event
first_or other (Ok []) = other
first_or other (Err error) = other

read_alone : (sizes : Sizes) (event : Event) → AreSizes sizes → IsStep sizes event → steps_of sizes (kept 1 (lines_of (steps_text (event ∷ [])))) ≡ Ok (event ∷ [])
read_alone sizes event good is = text_again sizes 1 (event ∷ []) good (All-cons (IsStep sizes) event [] is (All-nil (IsStep sizes))) (omega arith)

alone : (event : Event) → steps_text (event ∷ []) ≡ line_text (step_words event) ++ []
alone event = flat_map-cons (λ (e : Event). line_text (step_words e)) event []

pub same-line : (sizes : Sizes) (step other : Event) → AreSizes sizes → IsStep sizes step → IsStep sizes other → line_text (step_words step) ≡ line_text (step_words other) → step ≡ other
same-line sizes step other good is also same =
    let text : steps_text (step ∷ []) ≡ steps_text (other ∷ []) = alone step ∙ ap (λ (line : List ℕ). line ++ []) same ∙ sym (alone other) in
    let read = sym (read_alone sizes step good is) ∙ ap (λ (t : List ℕ). steps_of sizes (kept 1 (lines_of t))) text ∙ read_alone sizes other good also in
    ap (first_or step) read
