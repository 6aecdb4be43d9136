-- The ages of one line are put into those of its node.
use Rattle.std.proofs.Common.{◌≡◌, ◌≢◌, ℕ, ◌+◌, ◌*◌, ◌/◌, ◌%◌, ◌<◌, Bool, true, false, cond, ◌==◌, List, length, refl, sym, ap, ◌∙◌, arith, subst}
use Rattle.std.specs.Prelude.{slice_index, slice_set}
use Rattle.std.proofs.lemmas.Bool.{eqb-true}
use Rattle.std.proofs.lemmas.Bool.Decides.{nat_tests}
use Rattle.std.proofs.lemmas.List.{get_or-set_same, get_or-set_other}
use Rattle.std.proofs.Math.Nat.{mod-lt, div-add-mod}
use Rattle.line_map.specs.Sizes.{AreSizes, Sizes, home_of, set_of}
use Rattle.op_model.specs.Lines.{is_empty}
use Rattle.op_model.specs.Shares.{Copies, copy_in}
use Rattle.op_model.specs.Events.Step.{put_at}
use Rattle.eager_model.specs.Ages.{LineAges, with_copy}
use Rattle.eager_model.specs.Node.{NodeAges, put_ages}
use Rattle.eager_home.specs.Ages.{AgeLists, AreAgeLists, ages_of, with_line}

-- two lines of one home at one place are one
same-line : (lines a b : ℕ) → a / lines ≡ b / lines → a % lines ≡ b % lines → a ≡ b
same-line lines a b home place = sym (div-add-mod a lines) ∙ (λ i. lines * home i + place i) ∙ div-add-mod b lines

module _ (sizes : Sizes) (node : ℕ) (are : AreSizes sizes) (old new : Copies) (line : ℕ) (row : LineAges) (lists : AgeLists) (of : AreAgeLists sizes lists) where
  abbrev here : Bool
  here = node == home_of sizes line

  abbrev empty : ℕ → Bool
  empty k = is_empty (copy_in new k)

  abbrev C : List ℕ
  C = lists.copies

  abbrev M : List ℕ
  M = lists.memory

  in-set : set_of sizes line < length C
  in-set = let n = are.sets in let some : 0 < sizes.sets = grind (arith, nat_tests) in subst (λ k. set_of sizes line < k) (sym of.copies) (mod-lt line some)

  in-home : line % sizes.lines < length M
  in-home = let n = are.lines in let some : 0 < sizes.lines = grind (arith, nat_tests) in subst (λ k. line % sizes.lines < k) (sym of.memory) (mod-lt line some)

  module _ (others : (k : ℕ) → k ≢ line → copy_in new k ≡ copy_in old k) (sets : (a b : ℕ) → empty a ≡ false → empty b ≡ false → set_of sizes a ≡ set_of sizes b → a ≡ b) (away : here ≡ false → row.memory ≡ 0) where
    abbrev before : NodeAges
    before = ages_of sizes node old lists

    copy-here : (e : Bool) → cond e 0 (slice_index (cond e C (slice_set C (set_of sizes line) row.copy)) (set_of sizes line)) ≡ cond e 0 row.copy
    copy-here true = refl
    copy-here false = get_or-set_same C (set_of sizes line) row.copy 0 in-set

    copy-other : (k : ℕ) → k ≢ line → cond (empty k) 0 (slice_index (cond (empty line) C (slice_set C (set_of sizes line) row.copy)) (set_of sizes k)) ≡ before.copy k
    copy-other k other = by (empty line) (empty k) refl refl ∙ ap (λ c. cond (is_empty c) 0 (slice_index C (set_of sizes k))) (others k other)
      where
        by : (l e : Bool) → empty line ≡ l → empty k ≡ e → cond (empty k) 0 (slice_index (cond (empty line) C (slice_set C (set_of sizes line) row.copy)) (set_of sizes k)) ≡ cond (empty k) 0 (slice_index C (set_of sizes k))
        by true e a b = ap (λ l. cond (empty k) 0 (slice_index (cond l C (slice_set C (set_of sizes line) row.copy)) (set_of sizes k))) a
        by false true a b = ap (λ e. cond e 0 (slice_index (cond (empty line) C (slice_set C (set_of sizes line) row.copy)) (set_of sizes k))) b ∙ sym (ap (λ e. cond e 0 (slice_index C (set_of sizes k))) b)
        by false false a b =
            ap (λ l. cond (empty k) 0 (slice_index (cond l C (slice_set C (set_of sizes line) row.copy)) (set_of sizes k))) a
            ∙ ap (cond (empty k) 0) (get_or-set_other C (set_of sizes line) (set_of sizes k) row.copy 0 (λ same. other (sets k line b a same)))

    memory-here : (h : Bool) → here ≡ h → cond h (slice_index (cond h (slice_set M (line % sizes.lines) row.memory) M) (line % sizes.lines)) 0 ≡ row.memory
    memory-here true e = get_or-set_same M (line % sizes.lines) row.memory 0 in-home
    memory-here false e = sym (away e)

    memory-other : (k : ℕ) → k ≢ line → cond (node == home_of sizes k) (slice_index (cond here (slice_set M (line % sizes.lines) row.memory) M) (k % sizes.lines)) 0 ≡ before.memory k
    memory-other k other = by here (node == home_of sizes k) refl refl
      where
        by : (l h : Bool) → here ≡ l → (node == home_of sizes k) ≡ h → cond h (slice_index (cond l (slice_set M (line % sizes.lines) row.memory) M) (k % sizes.lines)) 0 ≡ cond h (slice_index M (k % sizes.lines)) 0
        by l false a b = refl
        by false true a b = refl
        by true true a b =
            let home : home_of sizes k ≡ home_of sizes line = sym (eqb-true node (home_of sizes k) b) ∙ eqb-true node (home_of sizes line) a in
            get_or-set_other M (line % sizes.lines) (k % sizes.lines) row.memory 0 (λ place. other (same-line sizes.lines k line home place))

    copy-at : (k : ℕ) → (ages_of sizes node new (with_line sizes node new line row lists)).copy k ≡ put_at before.copy line (with_copy (copy_in new line) row).copy k
    copy-at k = by (k == line) refl
      where
        by : (b : Bool) → (k == line) ≡ b → cond (empty k) 0 (slice_index (cond (empty line) C (slice_set C (set_of sizes line) row.copy)) (set_of sizes k)) ≡ cond b (cond (empty line) 0 row.copy) (before.copy k)
        by true e =
            ap (λ n. cond (empty n) 0 (slice_index (cond (empty line) C (slice_set C (set_of sizes line) row.copy)) (set_of sizes n))) (eqb-true k line e) ∙ copy-here (empty line)
        by false e = copy-other k (grind (arith, nat_tests))

    memory-at : (k : ℕ) → (ages_of sizes node new (with_line sizes node new line row lists)).memory k ≡ put_at before.memory line row.memory k
    memory-at k = by (k == line) refl
      where
        by : (b : Bool) → (k == line) ≡ b → cond (node == home_of sizes k) (slice_index (cond here (slice_set M (line % sizes.lines) row.memory) M) (k % sizes.lines)) 0 ≡ cond b row.memory (before.memory k)
        by true e =
            ap (λ n. cond (node == home_of sizes n) (slice_index (cond here (slice_set M (line % sizes.lines) row.memory) M) (n % sizes.lines)) 0) (eqb-true k line e) ∙ memory-here here refl
        by false e = memory-other k (grind (arith, nat_tests))

    pub ages-put : ages_of sizes node new (with_line sizes node new line row lists) ≡ put_ages line (with_copy (copy_in new line) row) before
    ages-put = λ i. record { copy = λ k. copy-at k i; memory = λ k. memory-at k i }
