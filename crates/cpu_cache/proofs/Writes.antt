-- What a write leaves of its line, where the line's width is that of the machine.
use Rattle.std.specs.Prelude.{◌≡◌, ◌%◌, ℕ, false, cond, List, length, slice_index, slice_set}
use Rattle.std.proofs.Common.{ap, ◌∙◌}
use Rattle.line_map.specs.Sizes.{Sizes, place_of}
use Rattle.op_model.specs.declared.Op.{Op}
use Rattle.op_model.specs.Operations.{is_load, written, after_op}

pub after_write : (sizes : Sizes) (op : Op) (words : List ℕ) → is_load op.kind ≡ false → length words ≡ sizes.words → after_op op words ≡ slice_set words (place_of sizes op.word) (written op.kind (slice_index words (place_of sizes op.word)) op.value)
unfolding after_op
after_write sizes op words write width =
    ap (λ b. cond b words (slice_set words (op.word % length words) (written op.kind (slice_index words (op.word % length words)) op.value))) write
    ∙ ap (λ n. slice_set words (op.word % n) (written op.kind (slice_index words (op.word % n)) op.value)) width
