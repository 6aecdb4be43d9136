-- The seats that are left for the programs that are left: for tests.
use Rattle.std.proofs.Common.{◌≡◌, ℕ, suc, ◌+◌, ◌<◌, List, [], ◌∷◌, length, remove, slice_get, sym, ap, ◌∙◌, subst, arith, Some}
use Rattle.std.specs.Prelude.{slice_index_or}
use Rattle.line_map.specs.Sizes.{Sizes}
use Rattle.op_model.specs.declared.operations.Op.{Op}
use Rattle.op_model.specs.Programs.{IsProgramOf}
use Rattle.op_model.specs.Parts.Part.{Part}
use Rattle.lane_table.specs.Rule.{parts_from}

-- the first of a list that isn't empty, and the rest
pub first_taken : {A : Type 0} (xs rest : List A) (x : A) → 0 < length xs → x ≡ slice_index_or xs 0 x → rest ≡ remove xs 0 → xs ≡ x ∷ rest
first_taken [] rest x some at is = absurd (omega arith)
first_taken (y ∷ ys) rest x some at is = λ i. sym at i ∷ sym is i

-- when a program and its seat are taken, the others are those of the next nodes
module _ (sizes : Sizes) (node : ℕ) (programs rest : List (List Op)) (program : List Op) (cut : programs ≡ program ∷ rest) where
  pub left_parts : (parts left : List Part) (part : Part) → parts ≡ parts_from sizes node programs → parts ≡ part ∷ left → left ≡ parts_from sizes (node + 1) rest
  left_parts parts left part from next =
      let both : ◌≡◌ {A = List Part} (part ∷ left) (parts_from sizes node (program ∷ rest)) = sym next ∙ (from ∙ ap (parts_from sizes node) cut) in
      let tail : left ≡ parts_from sizes (suc node) rest = cc in
      let one : suc node ≡ node + 1 = omega arith in
      tail ∙ ap (λ n. parts_from sizes n rest) one

  pub its_program : ((i : ℕ) (other : List Op) → slice_get programs i ≡ Some other → IsProgramOf sizes (node + i) other) → IsProgramOf sizes node program
  its_program each =
      let same : node + 0 ≡ node = omega arith in
      subst (λ n. IsProgramOf sizes n program) same (each 0 program (ap (λ xs. slice_get xs 0) cut))

  pub left_programs : ((i : ℕ) (other : List Op) → slice_get programs i ≡ Some other → IsProgramOf sizes (node + i) other) → (i : ℕ) (other : List Op) → slice_get rest i ≡ Some other → IsProgramOf sizes (node + 1 + i) other
  left_programs each i other got =
      let same : node + suc i ≡ node + 1 + i = omega arith in
      subst (λ n. IsProgramOf sizes n other) same (each (suc i) other (ap (λ xs. slice_get xs (suc i)) cut ∙ got))

  pub left_count : node + length programs ≡ sizes.nodes → node + 1 + length rest ≡ sizes.nodes
  left_count count = let l = ap length cut in omega (arith, l, count)
