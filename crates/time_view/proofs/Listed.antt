-- The line that stands for a copy, and the words behind the first one of a line.
use Rattle.std.proofs.Common.{◌≡◌, ◌≢◌, ℕ, false, List, [], ◌∷◌, ◌++◌, codes, refl, append_assoc}
use denote.Enum.Bare.{sameb}
use Rattle.text_lines.specs.Printing.{line_text}
use Rattle.op_model.specs.contracts.state.CopyState.{the_type as copy_state_type}
use Rattle.op_model.specs.declared.state.CopyState.{CopyState}
use Rattle.op_model.specs.declared.state.CopyState.TheVariants as state
use Rattle.op_model.specs.Lines.{Copy, Absent, Shared, Exclusive, state_of, words_of}
use Rattle.time_view.specs.States.{copy_lines, copy_words}

pub word_first : (w : List ℕ) (ws : List (List ℕ)) → line_text (w ∷ ws) ≡ w ++ line_text ([] ∷ ws)
word_first w [] = refl
word_first w (v ∷ ws) = append_assoc w (codes " ") (line_text (v ∷ ws))

pub absent_test : (s : CopyState) → sameb copy_state_type s state.Absent ≡ false → s ≢ state.Absent
absent_test state.Absent is = absurd cc
absent_test state.Shared is = λ e. cc
absent_test state.Exclusive is = λ e. cc

pub one_copy : (node line : ℕ) (copy : Copy) → state_of copy ≢ state.Absent → copy_lines node line copy ≡ copy_words node line (state_of copy) (words_of copy) ∷ []
one_copy node line Absent isnt = absurd (isnt refl)
one_copy node line (Shared words) isnt = refl
one_copy node line (Exclusive words) isnt = refl
