-- The lists of a plain directory hold no links, the list of a line is the set of its word, and a word that is put changes that list alone.
use Rattle.std.proofs.Common.{◌≡◌, ℕ, ◌<◌, ◌≤◌, ◌^◌, true, false, List, [], ◌∷◌, length, map, replicate, zero, suc, refl, sym, ap, ◌∙◌, subst, arith, get_or, set}
use Rattle.std.specs.Prelude.{sum_by}
use Rattle.std.proofs.lemmas.Bool.{true≢false}
use Rattle.std.proofs.lemmas.List.{get_or-map, get_or_read_under, map-set, length-map, length-set, length-replicate}
use Rattle.std.proofs.lemmas.List.Sums.{sum_by-cons}
use Rattle.op_model.specs.Nodes.{Nodes, none, listed, listed-none}
use Rattle.dir_header.specs.Sharers.{Directory, Unlinked, IsDirectory, held_by, free_in, list_at, with_list}
use Rattle.dir_header.specs.Plain.{plain_directory, plain_view, IsPlain}
use Rattle.dir_header.specs.WordSets.{members}
use Rattle.dir_header.proofs.Bits.{members-zero}
use Rattle.dir_header.proofs.Directories.{with_list_keeps}

pub held-nothing : (lists : List Nodes) → sum_by (held_by Unlinked) lists ≡ 0
held-nothing [] = refl
held-nothing (list ∷ lists) = sum_by-cons (held_by Unlinked) list lists ∙ (let ih = held-nothing lists in omega arith)

pub all_free : (words : List ℕ) (links nodes : ℕ) → links ≡ free_in (plain_directory (plain_view words links nodes))
all_free words links nodes = let e = held-nothing (map members words) in omega arith

pub empty-lists : (n : ℕ) → map members (replicate n 0) ≡ replicate n none
empty-lists zero = refl
empty-lists (suc n) = λ i. members-zero i ∷ empty-lists n i

list-of-none : (n m q : ℕ) → listed (get_or (replicate n none) m none) q ≡ false
list-of-none zero m q = listed-none q
list-of-none (suc n) zero q = listed-none q
list-of-none (suc n) (suc m) q = list-of-none n m q

-- a directory whose lists are empty
pub made_plain : (words : List ℕ) (lines links nodes : ℕ) → words ≡ replicate lines 0 → lines < 2 ^ 32 → nodes ≤ 64 → IsPlain words links nodes
made_plain words lines links nodes is fits few = subst (λ ws. IsPlain ws links nodes) (sym is) (record {
  few = few;
  lines = subst (λ n. n < 2 ^ 32) (sym (length-replicate lines 0)) fits;
  kept = record {
    fits = let e = held-nothing (map members (replicate lines 0)) in omega arith;
    below = λ m q there.
        let off = ap (λ ls. listed (get_or ls m none) q) (empty-lists lines) ∙ list-of-none lines m q in
        absurd (true≢false (sym there ∙ off));
  };
})

set-again : {A : Type 0} (xs : List A) (i : ℕ) (a b : A) → set (set xs i a) i b ≡ set xs i b
set-again [] i a b = refl
set-again (x ∷ xs) zero a b = refl
set-again (x ∷ xs) (suc i) a b = ap (λ ys. x ∷ ys) (set-again xs i a b)

module _ (words : List ℕ) (links nodes m : ℕ) (is : IsPlain words links nodes) (within : m < length (map members words)) where
  abbrev dir : Directory
  dir = plain_directory (plain_view words links nodes)

  pub place-within : m < length words
  place-within = let l = length-map words members in omega arith

  pub list-is : list_at dir m ≡ members (get_or words m 0)
  list-is = get_or-map members words m 0 none place-within

  pub word-is : (word : ℕ) → word ≡ get_or words m word → members word ≡ list_at dir m
  word-is word e = ap members (get_or_read_under words m (length words) word 0 e place-within refl) ∙ sym list-is

  pub put-is : (word : ℕ) (list : Nodes) → members word ≡ list → plain_directory (plain_view (set words m word) links nodes) ≡ with_list dir m list
  put-is word list e = ap (λ ls. plain_directory (record { lists = ls; links = links; nodes = nodes })) (map-set members words m word ∙ ap (set (map members words) m) e)

  pub put-keeps : (word : ℕ) (list : Nodes) → members word ≡ list → ((q : ℕ) → listed list q ≡ true → q < nodes) → IsPlain (set words m word) links nodes
  put-keeps word list e below = record {
    few = is.few;
    lines = let l = length-set words m word in let n = is.lines in omega arith;
    kept = subst IsDirectory (sym (put-is word list e)) (with_list_keeps dir m list is.kept within below (let h = is.kept.fits in omega arith));
  }

  -- the list is emptied first
  pub put-after-is : (word : ℕ) (list : Nodes) → members word ≡ list → plain_directory (plain_view (set (set words m 0) m word) links nodes) ≡ with_list dir m list
  put-after-is word list e = ap (λ ws. plain_directory (plain_view ws links nodes)) (set-again words m 0 word) ∙ put-is word list e

  pub put-after-keeps : (word : ℕ) (list : Nodes) → members word ≡ list → ((q : ℕ) → listed list q ≡ true → q < nodes) → IsPlain (set (set words m 0) m word) links nodes
  put-after-keeps word list e below = subst (λ ws. IsPlain ws links nodes) (sym (set-again words m 0 word)) (put-keeps word list e below)
