-- Programs and directories at the start, and programs with one operation more.
use Rattle.std.proofs.Common.{◌≡◌, ◌≢◌, ℕ, zero, suc, ◌+◌, ◌<◌, ◌≤◌, Bool, true, false, ◌==◌, List, [], ◌∷◌, ◌++◌, length, map, set, replicate, refl, get_or, ap, arith, sym, subst, ◌∙◌, Some, Result, Ok, Err, OnOk, OnErr}
use Rattle.std.specs.Prelude.{slice_get}
use Rattle.std.proofs.lemmas.Bool.Decides.{nat_tests}
use Rattle.std.proofs.lemmas.List.{length-set, length-replicate}
use Rattle.std.proofs.lemmas.Option.{same_Some}
use Rattle.line_map.specs.Sizes.{Sizes, all_words}
use Rattle.op_model.specs.declared.operations.Op.{Op}
use Rattle.op_model.specs.declared.errors.NoMemory.{NoMemory}
use Rattle.op_model.specs.Programs.{IsOpOf, IsProgramOf, ArePrograms}
use Rattle.op_model.specs.Shares.{Linked}
use Rattle.op_model.proofs.Public.{map-replicate}
use Rattle.dir_header.specs.Sharers.{Directory}
use Rattle.sharer_dir.specs.Linked.{LinkedView, first_linked, linked_directory}
use Rattle.machine.specs.Starts.{charge_of, IsFreshOf, AreFresh}
use Rattle.machine.proofs.Public.{slice_get-read, slice_get-set_at, slice_get-set_other}

replicate-at : {A : Type 0} (n i : ℕ) (x y : A) → slice_get (replicate n x) i ≡ Some y → y ≡ x
replicate-at zero i x y is = cc
replicate-at (suc n) zero x y is = cc
replicate-at (suc n) (suc i) x y is = replicate-at n i x y is

pub empty-programs : (sizes : Sizes) → ArePrograms sizes (replicate sizes.nodes [])
empty-programs sizes = record {
  count = length-replicate sizes.nodes [];
  each = λ node program is. subst (IsProgramOf sizes node) (sym (replicate-at sizes.nodes node [] program is)) (λ i op at. cc);
}

-- an operation at the end of a program
push-at : (sizes : Sizes) (node base : ℕ) (program : List Op) (op : Op) → ((i : ℕ) (o : Op) → slice_get program i ≡ Some o → IsOpOf sizes node (base + i) o) → IsOpOf sizes node (base + length program) op →
    (i : ℕ) (o : Op) → slice_get (program ++ op ∷ []) i ≡ Some o → IsOpOf sizes node (base + i) o
push-at sizes node base [] op old new zero o is = subst (IsOpOf sizes node (base + 0)) (same_Some op o is) new
push-at sizes node base [] op old new (suc i) o is = cc
push-at sizes node base (p ∷ program) op old new zero o is = old 0 o is
push-at sizes node base (p ∷ program) op old new (suc i) o is =
    let up : (k : ℕ) → base + suc k ≡ suc base + k = λ k. omega arith in
    subst (λ n. IsOpOf sizes node n o) (sym (up i))
    (push-at sizes node (suc base) program op (λ k q at. subst (λ n. IsOpOf sizes node n q) (up k) (old (suc k) q at)) (subst (λ n. IsOpOf sizes node n op) (up (length program)) new) i o is)

pub program-push : (sizes : Sizes) (node : ℕ) (program : List Op) (op : Op) → IsProgramOf sizes node program → op.node ≡ node → op.index ≡ length program → op.word < all_words sizes → IsProgramOf sizes node (program ++ op ∷ [])
program-push sizes node program op old of at word = λ i o is. subst (λ n. IsOpOf sizes node n o) (none i)
    (push-at sizes node 0 program op (λ k q there. subst (λ n. IsOpOf sizes node n q) (sym (none k)) (old k q there)) (subst (λ n. IsOpOf sizes node n op) (sym (none (length program))) (record { of_node = of; at_index = at; word = word })) i o is)
  where
    none : (k : ℕ) → 0 + k ≡ k
    none k = omega arith

-- one program of the machine in place of another
pub programs-set : (sizes : Sizes) (programs : List (List Op)) (node : ℕ) (old new : List Op) → ArePrograms sizes programs → slice_get programs node ≡ Some old → IsProgramOf sizes node new → ArePrograms sizes (set programs node new)
programs-set sizes programs node old new are there is = record {
  count = length-set programs node new ∙ are.count;
  each = λ q program at. go q program (q == node) refl at;
}
  where
    go : (q : ℕ) (program : List Op) (b : Bool) → (q == node) ≡ b → slice_get (set programs node new) q ≡ Some program → IsProgramOf sizes q program
    go q program true test at =
        let same : q ≡ node = grind (arith, nat_tests) in
        let its : new ≡ program = same_Some new program (sym (ap (slice_get (set programs node new)) same ∙ slice_get-set_at programs node old new there) ∙ at) in
        subst (IsProgramOf sizes q) its (subst (λ n. IsProgramOf sizes n new) (sym same) is)
    go q program false test at =
        let other : q ≢ node = grind (arith, nat_tests) in
        are.each q program (sym (slice_get-set_other programs node q new other) ∙ at)

charges : (n : ℕ) (dir : Directory) → dir.charge ≡ Linked → charge_of (replicate n dir) ≡ Linked
charges zero dir is = refl
charges (suc n) dir is = is

pub fresh-dirs : (sizes : Sizes) (dirs : List LinkedView) → sizes.nodes ≤ 64 → dirs ≡ replicate sizes.nodes (first_linked sizes.lines sizes.links) → AreFresh sizes (map linked_directory dirs)
fresh-dirs sizes dirs few is = subst (AreFresh sizes) (sym (ap (map linked_directory) is ∙ map-replicate linked_directory sizes.nodes (first_linked sizes.lines sizes.links))) (record {
  count = length-replicate sizes.nodes first;
  each = λ node dir at. subst (IsFreshOf sizes (charge_of (replicate sizes.nodes first))) (sym (replicate-at sizes.nodes node first dir at)) (record { fresh = record { lists = refl; links = refl; bound = few }; same_charge = sym (charges sizes.nodes first refl) });
})
  where
    first : Directory
    first = linked_directory (first_linked sizes.lines sizes.links)

-- a program of the machine with an operation more, where there was memory for it
pub programs-push : (sizes : Sizes) (programs : List (List Op)) (node : ℕ) (d old new : List Op) (op : Op) → ArePrograms sizes programs → node < sizes.nodes → old ≡ get_or programs node d → op.node ≡ node → op.index ≡ length old → op.word < all_words sizes →
    (r : Result (Unit {0}) NoMemory) → OnOk r (new ≡ old ++ op ∷ []) → OnErr r (new ≡ old) → ArePrograms sizes (set programs node new)
programs-push sizes programs node d old new op are below read of at word r more same = programs-set sizes programs node old new are there (go r more same)
  where
    there : slice_get programs node ≡ Some old
    there = let count = are.count in slice_get-read programs node d old (omega (arith, count)) read

    go : (r : Result (Unit {0}) NoMemory) → OnOk r (new ≡ old ++ op ∷ []) → OnErr r (new ≡ old) → IsProgramOf sizes node new
    go (Ok done) more same = subst (IsProgramOf sizes node) (sym more) (program-push sizes node old op (are.each node old there) of at word)
    go (Err none) more same = subst (IsProgramOf sizes node) (sym same) (are.each node old there)
